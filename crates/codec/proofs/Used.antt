-- The used part of a buffer: no table, or a readable one; and a table written to the buffer's start. Assumes nothing.
use mathlib.Core.Path.{◌≡◌, ◌∙◌, ap, sym, refl}
use mathlib.Core.List.{List, [], ◌∷◌, ◌++◌}
use Prim.Native.Nat.{ℕ, ◌+◌, ◌-◌, ◌<◌, ◌≤◌}
use native.Mathlib.Omega.{arith}
use lib.Dec.{eqb}
use lib.ListN.{length, take, drop, length-append, length-drop}
use lib.Seq.{take-append_seam, drop-append_seam, drop-append-add, drop-drop}
use borrow.Author.Tests.{eqb-true, ne_eqb}
use Rattle.scope.specs.declared.Node.{Node}
use Rattle.scope.specs.Outcome.{Outcome, answer}
use Rattle.scope.specs.Block.{blocks_of, file_of}
use Rattle.scope.specs.Table.{decode, encode}
use Rattle.scope.specs.Calls.{decode_used, written}
use Rattle.codec.specs.Valid.{Bytes, Valid}
use Rattle.codec.proofs.Rows.{by_test}
use Rattle.codec.proofs.Tables.{read_encodes, read_valid, length-encode, encode-reads}

-- no nodes need no block
pub encode-none : encode [] ≡ []
unfolding file_of blocks_of
encode-none = refl

-- a used part that is not empty reads as a table, and an empty one as no nodes
pub used_reads : (t : List ℕ) → 0 < length t → decode_used t ≡ decode t
unfolding decode_used
used_reads t h = rw (ne_eqb (length t) 0 (λ q. omega arith))

pub table_used : (t : List ℕ) (rs : List Node) → Bytes t → decode t ≡ answer rs → decode_used t ≡ answer rs
table_used t rs all e =
    let table : t ≡ encode rs = read_encodes t rs all e in
    let some = (read_valid t rs all e).some in
    used_reads t (rw table (omega (arith, length-encode rs))) ∙ e

used_none : decode_used [] ≡ answer []
unfolding decode_used
used_none = refl

no_elements : (t : List ℕ) → length t ≡ 0 → t ≡ []
no_elements [] e = refl
no_elements (x ∷ t) e = absurd (omega arith)

-- what is used is the encoding of its nodes, which are valid or none
pub used_encodes : (t : List ℕ) (rs : List Node) → Bytes t → decode_used t ≡ answer rs → (t ≡ encode rs) × (0 < length rs → Valid rs)
unfolding decode_used
used_encodes t rs all e =
    by_test (eqb (length t) 0)
    (λ q.
    let none : ◌≡◌ {A = Outcome (List Node)} (answer []) (answer rs) = rw q at e in
    let nil : [] ≡ rs = cc in
    (no_elements t (eqb-true (length t) 0 q) ∙ sym encode-none ∙ ap encode nil, λ some. absurd (omega (arith, ap length nil))))
    (λ q. let d : decode t ≡ answer rs = rw q at e in (read_encodes t rs all d, λ some. read_valid t rs all d))

-- .. and the other way
pub encode_used : (rs : List Node) → (0 < length rs → Valid rs) → decode_used (encode rs) ≡ answer rs
encode_used [] held = rw encode-none used_none
encode_used (y ∷ rs) held =
    used_reads (encode (y ∷ rs)) (omega (arith, length-encode (y ∷ rs))) ∙ encode-reads (y ∷ rs) (held (omega arith))

-- a table written to the buffer's start is what it starts with, and leaves the bytes behind it
pub written_used : (t buf : List ℕ) → take (length t) (written t buf) ≡ t
written_used t buf = take-append_seam t (drop (length t) buf)

pub written_beyond : (t buf : List ℕ) → drop (length t) (written t buf) ≡ drop (length t) buf
written_beyond t buf = drop-append_seam t (drop (length t) buf)

pub written-length : (t buf : List ℕ) → length t ≤ length buf → length (written t buf) ≡ length buf
written-length t buf h = simp (length-append, length-drop) (omega arith)

-- a longer table is written over a shorter one
pub written_over : (s t buf : List ℕ) → length s ≤ length t → written t (written s buf) ≡ written t buf
written_over s t buf h =
    let q : length t ≡ length s + (length t - length s) = omega arith in
    ap (t ++◌) (ap (λ (k : ℕ). drop k (written s buf)) q
    ∙ drop-append-add s (drop (length s) buf) (length t - length s)
    ∙ drop-drop (length t - length s) (length s) buf
    ∙ ap (λ (k : ℕ). drop k buf) (sym q))
