-- The rows of the code against the calculus' templates: each choice is of an operand, and three choices are a clause. Assumes nothing.
use mathlib.Core.Path.{◌≡◌, refl, sym, ap, ◌∙◌}
use mathlib.Core.List.{List, [], ◌∷◌, map}
use Prim.Native.Nat.{ℕ, zero, suc, ◌+◌, ◌-◌, ◌*◌, ◌/◌, ◌%◌, ◌<◌, ◌≤◌}
use native.Mathlib.Omega.{arith}
use native.Mathlib.Nat.{zero-add}
use lib.ListN
use lib.ListN.{length, get_or, length-map}
use lib.Seq.{ext_get_or}
use Rattle.scope.specs.declared.Node.{Node}
use Rattle.scope.specs.Table.{operands, list_from}
use Rattle.scope.proofs.Operands.{arity_most, operands-length}
use Rattle.scope.proofs.Lists.{length_list_from, get_d_list_from}
use Rattle.calculus.specs.Expansion.{chosen, templates, expand}
use Rattle.calculus.specs.Order.{clauses}
use Rattle.calculus.specs.Model.{All}
use Rattle.calculus.proofs.Lists.{all_get_d, all_imply, get_d_map}
use Rattle.calculus.proofs.Rows.{row_of, Within, row_within_lem}
use Rattle.calculus.proofs.Sizes.{Short, expand-few, clauses-short}
use Rattle.index.specs.Index.{index_node, most_literals}
use Rattle.index.specs.Indexed.{Indexed}
use Rattle.index.proofs.Nodes.{operand_low, operand_choice}
use Rattle.clause.specs.Templates.{choice_at, rows, cell}

-- ---- the choices of the templates

-- a choice of an operand
abbrev pub Chooses : Node → ℕ → Type 0
Chooses y c = Within y.kind c

pub of_operand : (y : Node) (c : ℕ) → Chooses y c → c / 2 < length (operands y)
of_operand y c h = omega (arith, h, operands-length y)

-- so there are six
pub choice_few : (y : Node) (c : ℕ) → Chooses y c → c < 6
choice_few y c h = omega (arith, h, arity_most y.kind)

-- what the index has for a node
pub kind_few : {x : List ℕ} {n : ℕ} (I : Indexed x n) (m : ℕ) → m < n → get_or x (4 * m) 0 + 1 < 9
unfolding index_node
kind_few I m h = (I.table.kinds m h).1

pub cells_few : {x : List ℕ} {n : ℕ} (I : Indexed x n) (m : ℕ) → m < n
    → (get_or x (4 * m + 1) 0 < most_literals) × (get_or x (4 * m + 2) 0 < most_literals)
unfolding index_node
cells_few I m h = I.cells m h

-- of the index the operands are the cells
module _ {x : List ℕ} {n : ℕ} (I : Indexed x n) (m : ℕ) (h : m < n) (c : ℕ) (k : c / 2 < length (operands (index_node x m))) where
  -- the number that is read of node m for choice c
  abbrev operand : ℕ
  operand = get_or x (4 * m + (1 + c / 2)) 0

  chooses_of : Chooses (index_node x m) c
  chooses_of = omega (arith, k, operands-length (index_node x m))

  pub six : c < 6
  six = choice_few (index_node x m) c chooses_of

  pub operand_few : operand < most_literals
  operand_few = omega (arith, operand_low x n m (c / 2) I.table h chooses_of, I.few)

  pub operand_chosen : operand - operand % 2 + (operand + c) % 2 ≡ chosen (index_node x m) c
  operand_chosen = operand_choice x m c chooses_of

-- ---- clause j of a row, by three numbers

-- choice i of a clause, 6 past its end
abbrev at : List ℕ → ℕ → ℕ
at c i = get_or c i 6

-- what a clause's choices have, a number that is below 6 has
choice_has : (P : ℕ → Type 0) (c : List ℕ) (i : ℕ) → All P c → at c i < 6 → P (at c i)
choice_has P [] zero a h = absurd (omega arith)
choice_has P [] (suc i) a h = absurd (omega arith)
choice_has P (m ∷ c) zero a h = a.0
choice_has P (m ∷ c) (suc i) a h = choice_has P c i a.1 h

-- so a clause is as long as its numbers say
ends : (c : List ℕ) (i : ℕ) → All (λ m. m < 6) c → 5 < at c i → length c ≤ i
ends [] i a h = omega arith
ends (m ∷ c) zero a h = absurd (omega (arith, a.0))
ends (m ∷ c) (suc i) a h = omega (arith, ends c i a.1 h)

goes : (c : List ℕ) (i : ℕ) → at c i < 6 → i < length c
goes [] zero h = absurd (omega arith)
goes [] (suc i) h = absurd (omega arith)
goes (m ∷ c) zero h = omega arith
goes (m ∷ c) (suc i) h = omega (arith, goes c i h)

list_is : (c : List ℕ) → c ≡ list_from (at c) 0 (length c)
list_is c =
    ext_get_or 6 c (list_from (at c) 0 (length c)) (sym (length_list_from (at c) (length c) 0))
    (λ i h. ap (at c) (sym (zero-add i)) ∙ sym (get_d_list_from (at c) (length c) 0 i 6 h))

module _ {x : List ℕ} {n l j : ℕ} (I : Indexed x n) (p : (l < 2 * n) × (j < length (expand (index_node x) l))) where
  abbrev t : ℕ → Node
  t = index_node x

  abbrev node : Node
  node = t (l / 2)

  -- the clauses of its row, and this one, as choices
  abbrev row_of_lem : List (List ℕ)
  row_of_lem = row_of node.kind (l % 2)

  abbrev choices : List ℕ
  choices = get_or row_of_lem j []

  j_low : j < length row_of_lem
  unfolding expand
  j_low = omega (arith, p.1, length-map row_of_lem (map (chosen node)))

  pub j_most : j < 3
  j_most = omega (arith, p.1, expand-few t l)

  -- its literals
  chosen-clause : get_or (expand t l) j [] ≡ map (chosen node) choices
  unfolding expand
  chosen-clause = ListN.get_or-map (map (chosen node)) row_of_lem j []

  -- of so many choices
  literals_are : (k : ℕ) → length choices ≡ k → map (chosen node) (list_from (at choices) 0 k) ≡ get_or (expand t l) j []
  literals_are k e = sym (chosen-clause ∙ ap (map (chosen node)) (list_is choices ∙ ap (list_from (at choices) 0) e))

  kinds : (0 < node.kind) × (node.kind < 9)
  kinds = I.table.kinds (l / 2) (omega arith)

  chooses : All (Chooses node) choices
  chooses = all_get_d (All (Chooses node)) row_of_lem j [] tt (row_within_lem node.kind (l % 2) kinds.1 (omega arith))

  short : Short choices
  unfolding clauses
  short =
      omega (arith, length-map choices (chosen node), ap length chosen-clause, all_get_d Short (expand t l) j [] (omega arith) (clauses-short t [] (l ∷ [])))

  low : All (λ m. m < 6) choices
  low = all_imply (Chooses node) (λ m. m < 6) (choice_few node) choices chooses

  -- a number of the row that was read
  module _ {from : ℕ} (o : (from ≡ 2 * (node.kind - 1) + l % 2) × (from < 16)) where
    abbrev row : ℕ
    row = from + 2

    cell-is : (i column r : ℕ) → i < 3 → column ≡ 3 * j + i → r ≡ cell row column → r ≡ at choices i
    unfolding rows templates
    cell-is i column r h q p =
        p ∙ ap (λ (c : List ℕ). get_or c column 0) (get_d_map (λ cs. list_from (choice_at cs) 0 9) templates row [] [] (omega (arith, o.1)))
        ∙ get_d_list_from (choice_at (get_or templates row [])) 9 0 column 0 (omega (arith, j_most))
        ∙ ap (choice_at (get_or templates row [])) (zero-add column)
        ∙ ap (λ (s : ℕ). choice_at (get_or templates s []) column) is ∙ same
      where
        is : row ≡ 2 * node.kind + l % 2
        is = omega (arith, o.0, kinds.0)

        d : column / 3 ≡ j
        d = omega arith

        m : column % 3 ≡ i
        m = omega arith

        inside : (cs : List (List ℕ)) (j : ℕ) → j < length cs → get_or cs j (7 ∷ 7 ∷ 7 ∷ []) ≡ get_or cs j []
        inside [] j h = absurd (omega arith)
        inside (c ∷ cs) zero h = refl
        inside (c ∷ cs) (suc j) h = inside cs j (omega arith)

        same : choice_at row_of_lem column ≡ at choices i
        same = rw (d, m, inside row_of_lem j j_low)

    -- what `choose` asks of one
    of-choice : (i a : ℕ) → a ≡ at choices i → a ≤ 5 → (l / 2 < n) × (a / 2 < length (operands node))
    of-choice i a e h = (omega (arith, p.0), rw e (of_operand node (at choices i) (choice_has (Chooses node) choices i chooses (omega (arith, h, e)))))

    module _ {a : ℕ} (pa : a ≡ cell row (3 * j + 0)) where
      ea : a ≡ at choices 0
      ea = cell-is 0 (3 * j + 0) a (omega arith) refl pa

      pub first_of : a ≤ 5 → (l / 2 < n) × (a / 2 < length (operands node))
      first_of h = of-choice 0 a ea h

      pub clause-none : 5 < a → [] ≡ get_or (expand t l) j []
      unfolding list_from
      clause-none h = literals_are 0 (omega (arith, ends choices 0 low (omega (arith, ea))))

      module _ (ha : a ≤ 5) {r : ℕ} (er : r ≡ chosen node a) {b : ℕ} (pb : b ≡ cell row (3 * j + 1)) where
        eb : b ≡ at choices 1
        eb = cell-is 1 (3 * j + 1) b (omega arith) refl pb

        pub second-of : b ≤ 5 → (l / 2 < n) × (b / 2 < length (operands node))
        second-of h = of-choice 1 b eb h

        pub clause-one : 5 < b → r ∷ [] ≡ get_or (expand t l) j []
        unfolding list_from
        clause-one h =
            ap (◌∷ []) (er ∙ ap (chosen node) ea)
            ∙ literals_are 1 (omega (arith, goes choices 0 (omega (arith, ea)), ends choices 1 low (omega (arith, eb))))

        module _ (hb : b ≤ 5) {s : ℕ} (es : s ≡ chosen node b) {c : ℕ} (pc : c ≡ cell row (3 * j + 2)) where
          ec : c ≡ at choices 2
          ec = cell-is 2 (3 * j + 2) c (omega arith) refl pc

          pub third_of : c ≤ 5 → (l / 2 < n) × (c / 2 < length (operands node))
          third_of h = of-choice 2 c ec h

          pub clause-two : 5 < c → r ∷ s ∷ [] ≡ get_or (expand t l) j []
          unfolding list_from
          clause-two h =
              rw (er ∙ ap (chosen node) ea, es ∙ ap (chosen node) eb)
              (literals_are 2 (omega (arith, goes choices 1 (omega (arith, eb)), ends choices 2 low (omega (arith, ec)))))

          pub clause-three : c ≤ 5 → {q : ℕ} → q ≡ chosen node c → r ∷ s ∷ q ∷ [] ≡ get_or (expand t l) j []
          unfolding list_from
          clause-three h {q} eq =
              rw (er ∙ ap (chosen node) ea, es ∙ ap (chosen node) eb, eq ∙ ap (chosen node) ec)
              (literals_are 3 (omega (arith, goes choices 2 (omega (arith, ec)), short)))
