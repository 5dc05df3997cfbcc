-- A goal's word is that of its search's answer, a node's line has its words, and a table's listing its lines. Assumes nothing.
use mathlib.Core.Path.{◌≡◌, ◌∙◌, refl, sym, ap}
use mathlib.Core.List.{List, [], ◌∷◌, ◌++◌}
use Prim.Native.Nat.{ℕ, ◌+◌, ◌*◌}
use lib.ListN.{length}
use Rattle.scope.specs.declared.Node.{Node}
use Rattle.scope.specs.Outcome.{Outcome, answer, refused, fine, first, ◌>>◌, ◌>>=◌}
use Rattle.scope.specs.Table.{decode}
use Rattle.scope.specs.Calls.{table_count}
use Rattle.scope.proofs.Tests.{refused_no}
use Rattle.calculus.specs.Expansion.{expand}
use Rattle.calculus.specs.Order.{Answer, tree, answer_of}
use Rattle.calculus.specs.Decide.{search_of, rows_test, asked_by}
use Rattle.index.specs.Index.{index_node}
use Rattle.state.specs.Work.{g_of}
use Rattle.asking.specs.Asks.{Prepared}
use Rattle.asking.proofs.Nodes.{searches_in}
use Rattle.searching.specs.declared.Found.{Found}
use Rattle.searching.specs.declared.Found.TheVariants.{Model, Closed}
use Rattle.searching.specs.Search.{found_of, Solved}
use Rattle.text.specs.Text.{ascii, decimal, refused_line}
use Rattle.text.specs.Listing.{word_for, answer_word, heading, node_line, node_lines, listed, listing}
use Rattle.listing.specs.Lines.{found_word, Same, Judged}

found_word_lem : (r : Found) (G : List ℕ) → found_word r ≡ word_for (found_of r G)
found_word_lem Model G = refl
found_word_lem Closed G = refl

-- what a search found is the answer's word
pub judged : {x : List ℕ} {n goal l : ℕ} {work : List ℕ} {r : Found} → l ≡ goal → Solved (index_node x) n (l ∷ []) work r → Judged x n goal r
judged {x} {n} {goal} {l} {work} {r} z s = record {
  word = λ rs same inside.
      let asked : answer_of (tree (expand (index_node x)) (l ∷ []) n []) ≡ answer_of (search_of rs (goal ∷ [])) = rw z (same.each goal inside) in
      found_word_lem r (g_of work) ∙ ap (λ (a : Answer). word_for a) (s.answered ∙ asked);
}

-- a node's line, of the words of its two literals
pub line_of : (rs : List Node) (n : ℕ) {yes no : List ℕ} → yes ≡ answer_word rs (2 * n) → no ≡ answer_word rs (2 * n + 1)
    → decimal n ++ (ascii " " ++ (yes ++ (ascii " " ++ (no ++ ascii "\n")))) ≡ node_line rs n
unfolding node_line
line_of rs n p q = rw (p, q)

-- the listing of a table that was counted, and of one that was refused
refused_listed : (x : Outcome (List Node)) {number place : ℕ} → (x >>= λ rs. answer (length rs)) ≡ refused number place
    → listed x ≡ refused_line number place
refused_listed (answer rs) e = refused_no (sym e)
refused_listed (refused number place) e = cc

pub read-listed : (x : Outcome (List Node)) (rs : List Node) (nodes : ℕ) → x ≡ answer rs → length rs ≡ nodes → heading ++ node_lines rs nodes ≡ listed x
read-listed x rs nodes p q = rw (p, q)

pub refused_listing : (t : List ℕ) {number place : ℕ} → table_count t ≡ refused number place → refused_line number place ≡ listing t
unfolding table_count
refused_listing t e = sym (refused_listed (decode t) e)

-- what asking says where no goal is put: the table's count or its refusal
pub asked-count : (t : List ℕ) → (asked_by fine t [] 0 0 32768 >>= λ rs. answer (length rs)) ≡ table_count t
unfolding asked_by rows_test first table_count
asked-count t = go (decode t)
  where
    go : (x : Outcome (List Node)) → ((x >>= λ rs. rows_test fine (length rs) [] 0 0 32768 >> answer rs) >>= λ rs. answer (length rs)) ≡ (x >>= λ rs. answer (length rs))
    go (answer rs) = refl
    go (refused number place) = refl

-- the questions over the index are those over the nodes
pub same_over : {t x : List ℕ} {n : ℕ} (p : Prepared fine t [] 0 0 32768 x n) → Same x n p.nodes
same_over p = record { each = λ goal h. ap answer_of (searches_in p (goal ∷ []) (h, tt)) }
