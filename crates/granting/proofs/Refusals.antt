-- A visit of questions that are all refused comes to their number: none need be put. Assumes nothing.
use mathlib.Core.Path.{◌≡◌, sym, ap, ◌∙◌}
use mathlib.Core.List.{List, [], ◌∷◌, ◌++◌, append_assoc, append-nil}
use Prim.Native.Nat.{ℕ, zero, suc, ◌+◌, ◌-◌, ◌<◌, ◌≤◌}
use native.Mathlib.Nat.{add-zero, zero-add}
use native.Mathlib.Numerals.{add-one}
use native.Mathlib.Decide.{dec_lt}
use native.Mathlib.Omega.{arith}
use lib.ListN.{length, get_or, length-append}
use borrow.Author.Tests.{lt-ltb, le-ltb}
use Rattle.scope.specs.Table.{list_from}
use Rattle.scope.proofs.Lists.{get_d_list_from}
use Rattle.calculus.specs.Order.{Answer, impossible}
use Rattle.calculus.specs.Model.{All}
use Rattle.calculus.proofs.Lists.{all_at}
use Rattle.wishing.specs.Walk.{asking, stopped, step, visit}
use Rattle.wishing.proofs.Walks.{visit_stopped}
use Rattle.granting.specs.Counts.{choose, counts, refusals}

-- the table has the numbers
pub counted : (m s : ℕ) → m < 16 → s < 16 → get_or (get_or counts m []) s 0 ≡ choose m s
unfolding counts
counted m s a b =
    ap (λ (r : List ℕ). get_or r s 0) (get_d_list_from (λ n. list_from (choose n) 0 16) 16 0 m [] a)
    ∙ get_d_list_from (choose (0 + m)) 16 0 s 0 b ∙ rw (zero-add m, zero-add s)

module _ (first : List ℕ) where
  pub spent : (c size put left : ℕ) → left < c → refusals first c size put left ≡ stopped (record { standing = first; k = 0; u = size; questions = put + left })
  spent c size put left h = rw (lt-ltb left c h)

  pub lasts : (c size put left : ℕ) → c ≤ left → refusals first c size put left ≡ asking (put + c) (left - c)
  lasts c size put left h = rw (le-ltb left c h)

  -- some of them, and then the others
  more : (b c size put left : ℕ) → b ≤ left → refusals first c size (put + b) (left - b) ≡ refusals first (b + c) size put left
  more b c size put left h = go (dec_lt (left - b) c)
    where
      go : Dec (left - b < c) → refusals first c size (put + b) (left - b) ≡ refusals first (b + c) size put left
      go (yes z) =
          let q : put + b + (left - b) ≡ put + left = omega arith in
          spent c size (put + b) (left - b) z ∙ rw q (sym (spent (b + c) size put left (omega arith)))
      go (no z) =
          let q : put + b + c ≡ put + (b + c) = omega arith in
          let l : left - b - c ≡ left - (b + c) = omega arith in
          lasts c size (put + b) (left - b) (omega arith) ∙ rw (q, l) (sym (lasts (b + c) size put left (omega arith)))

module _ (ask : List ℕ → Answer) (first : List ℕ) (g : ℕ) (wishes : List ℕ) (Fit : ℕ → Type 0) (fit : All Fit wishes) where
  -- behind a list whose questions are all refused
  pub visit_refused : (lo n s : ℕ) (c : List ℕ) (put left : ℕ) → lo + n ≤ length wishes → ((m : List ℕ) → All Fit m → ask (c ++ m) ≡ impossible)
      → visit ask first g wishes lo n s c (asking put left) ≡ refusals first (choose n s) (length c + s - g) put left
  unfolding visit step choose
  visit_refused lo n zero c put zero h dead = rw (add-zero (length c), add-zero put)
  visit_refused lo n zero c put (suc left) h dead =
      let one : 1 ≤ suc left = omega arith in
      let e : ask c ≡ impossible = rw (append-nil c) at (dead [] tt) in
      let l : suc left - 1 ≡ left = omega arith in
      rw (e, lasts first 1 (length c + 0 - g) put (suc left) one, l, add-one put)
  visit_refused lo zero (suc s) c put left h dead =
      let l : left - 0 ≡ left = omega arith in
      rw (lasts first 0 (length c + suc s - g) put left (omega arith), l, add-zero put)
  visit_refused lo (suc n) (suc s) c put left h dead =
      ap (visit ask first g wishes (suc lo) n (suc s) c)
      (rw size at
      (visit_refused (suc lo) n s (c ++ get_or wishes lo 0 ∷ []) put left (omega arith)
      (λ m a. rw (append_assoc c (get_or wishes lo 0 ∷ []) m) (dead (get_or wishes lo 0 ∷ m) (all_at Fit wishes lo 0 fit (omega arith), a)))))
      ∙ go (dec_lt left (choose n s)) (λ p k. visit_refused (suc lo) n (suc s) c p k (omega arith) dead)
    where
      size : length (c ++ get_or wishes lo 0 ∷ []) + s - g ≡ length c + suc s - g
      size = omega (arith, length-append c (get_or wishes lo 0 ∷ []))

      go : Dec (left < choose n s)
          → ((p k : ℕ) → visit ask first g wishes (suc lo) n (suc s) c (asking p k) ≡ refusals first (choose n (suc s)) (length c + suc s - g) p k)
          → visit ask first g wishes (suc lo) n (suc s) c (refusals first (choose n s) (length c + suc s - g) put left)
          ≡ refusals first (choose n s + choose n (suc s)) (length c + suc s - g) put left
      go (yes z) ih =
          ap (visit ask first g wishes (suc lo) n (suc s) c) (spent first (choose n s) (length c + suc s - g) put left z)
          ∙ visit_stopped ask first g wishes (suc lo) n (suc s) c _
          ∙ sym (spent first (choose n s + choose n (suc s)) (length c + suc s - g) put left (omega arith))
      go (no z) ih =
          ap (visit ask first g wishes (suc lo) n (suc s) c) (lasts first (choose n s) (length c + suc s - g) put left (omega arith))
          ∙ ih (put + choose n s) (left - choose n s)
          ∙ more first (choose n s) (choose n (suc s)) (length c + suc s - g) put left (omega arith)
