-- The code of a literal, by the values of its node's operands, says what its clauses are under G. Assumes nothing.
use mathlib.Core.Path.{◌≡◌, refl, sym, ap, ◌∙◌}
use mathlib.Core.Bool.{Bool, true, false, cond}
use mathlib.Core.List.{List, [], ◌∷◌, map}
use Prim.Native.Nat.{ℕ, zero, suc, ◌+◌, ◌-◌, ◌*◌, ◌/◌, ◌%◌, ◌<◌, ◌≤◌}
use native.Mathlib.Omega.{arith}
use lib.ListN.{length, get_or, length-map}
use lib.Dec.{eqb}
use borrow.Author.Tests.{lt-ltb, le-ltb}
use Rattle.scope.specs.declared.Node.{Node}
use Rattle.scope.specs.Table.{arity, operands}
use Rattle.scope.proofs.Operands.{arity_pair, arity-three, arity_most}
use Rattle.calculus.specs.Expansion.{neg, chosen, expand}
use Rattle.calculus.specs.Order.{Value, holds, fails, undecided, value_of, State, literal_of, literal_at, is_empty, is_one, some, first_of, bit}
use Rattle.calculus.specs.Model.{All, Good}
use Rattle.calculus.proofs.Lists.{all_imply, all_map}
use Rattle.calculus.proofs.Literals.{fails_neg, undecided_neg, holds-neg}
use Rattle.calculus.proofs.Rows.{row_of, row_within_lem}
use Rattle.calculus.proofs.Sizes.{expand-few}
use Rattle.trail.specs.Trail.{value_code}
use Rattle.trail.proofs.Codes.{code_low}
use Rattle.index.specs.Codes.{numbered, opposite, choice_value, state_by, row_states, is_open, first_if, code_of, row_code, pair_codes, codes_size, code_at}
use Rattle.index.specs.Index.{codes_at, most_literals, index_node}
use Rattle.index.specs.Indexed.{Indexed}
use Rattle.index.proofs.Nodes.{operand_cell, operand_low}
use Rattle.clause.specs.Coded.{tail, value_at, g_of, Valued, row_place, states_of, Choice, Coded}
use Rattle.clause.proofs.Rows.{Chooses, of_operand, choice_few}
use Rattle.clause.proofs.States.{renamed, Right, states_renamed, one_kept, empty-kept, open_kept, one_open, first_most, first_has, some_renamed, first_renamed, literal_renamed, state_has}

-- ---- values

numbered-code : (v : Value) → numbered (value_code v) ≡ v
numbered-code undecided = refl
numbered-code holds = refl
numbered-code fails = refl

-- the numbers vs have the values of a node's operands
abbrev Values : List ℕ → Node → List ℕ → Type 0
Values G y vs = (i : ℕ) → i < arity y.kind → value_of G (get_or (operands y) i 0) ≡ numbered (get_or vs i 0)

module _ (n : ℕ) (G : List ℕ) (good : Good n G) where
  value_neg : (l : ℕ) → value_of G (neg l) ≡ opposite (value_of G l)
  value_neg l = go (value_of G l) refl
    where
      go : (v : Value) → value_of G l ≡ v → value_of G (neg l) ≡ opposite v
      go holds e = holds-neg n G l good e
      go fails e = fails_neg G l e
      go undecided e = undecided_neg G l e

  -- a choice has the value of its literal, where the numbers vs have those of the operands
  choice_right : (y : Node) (vs : List ℕ) → Values G y vs → (k : ℕ) → Chooses y k → value_of G (chosen y k) ≡ choice_value vs k
  unfolding chosen choice_value
  choice_right y vs p k h = go (eqb (k % 2) 0)
    where
      l : ℕ
      l = get_or (operands y) (k / 2) 0

      v : Value
      v = numbered (get_or vs (k / 2) 0)

      go : (e : Bool) → value_of G (cond e l (neg l)) ≡ cond e v (opposite v)
      go true = p (k / 2) h
      go false = value_neg l ∙ ap opposite (p (k / 2) h)

-- ---- the digits of a code

module _ (p : State → Bool) (f : List State → ℕ → ℕ) (ss : List State) where
  if_true : some p ss ≡ true → first_if p f ss ≡ f ss (first_of p ss)
  if_true e = rw e

  if_low : (b : ℕ) → 0 < b → (some p ss ≡ true → f ss (first_of p ss) < b) → first_if p f ss < b
  if_low b z h = go (some p ss) refl
    where
      go : (t : Bool) → some p ss ≡ t → cond t (f ss (first_of p ss)) 0 < b
      go true e = h e
      go false e = z

bit_low : (t : Bool) → bit t < 2
bit_low true = omega arith
bit_low false = omega arith

-- a number that is made up of digits has them
record Digits (b c d u v e w n r : ℕ) : Type 0 where
  unit : r % 2 ≡ b
  conflict : r / 2 % 2 ≡ c
  unmet : r / 4 % 2 ≡ d
  unit_clause : r / 8 % 4 ≡ u
  unit_choice : r / 32 % 8 ≡ v
  conflict_clause : r / 256 % 4 ≡ e
  unmet_choice : r / 1024 % 8 ≡ w
  clauses : r / 8192 ≡ n

digits : (b c d u v e w n : ℕ) → b < 2 → c < 2 → d < 2 → u < 4 → v < 8 → e < 4 → w < 8
    → Digits b c d u v e w n (b + 2 * c + 4 * d + 8 * u + 32 * v + 256 * e + 1024 * w + 8192 * n)
digits b c d u v e w n hb hc hd hu hv he hw = record {
  unit = omega arith;
  conflict = omega arith;
  unmet = omega arith;
  unit_clause = omega arith;
  unit_choice = omega arith;
  conflict_clause = omega arith;
  unmet_choice = omega arith;
  clauses = omega arith;
}

-- ---- the code of a row

-- where it stands among the codes, by two values and by three
module _ (row a b : ℕ) (ha : a < 3) (hb : b < 3) where
  code-two : row < 14 → code_at (9 * row + (3 * a + b)) ≡ row_code row (a ∷ b ∷ [])
  unfolding code_at
  code-two h =
      let i : ℕ = 9 * row + (3 * a + b) in
      let r : i / 9 ≡ row = omega arith in
      let x : i / 3 % 3 ≡ a = omega arith in
      let y : i % 3 ≡ b = omega arith in
      rw (lt-ltb i pair_codes (omega arith), r, x, y)

  code-three : (c : ℕ) → c < 3 → 14 ≤ row → code_at (3 * (9 * row + (3 * a + b)) + c - 2 * pair_codes) ≡ row_code row (a ∷ b ∷ c ∷ [])
  unfolding code_at
  code-three c hc h =
      let i : ℕ = 3 * (9 * row + (3 * a + b)) + c - 2 * pair_codes in
      let r : 14 + (i - pair_codes) / 27 ≡ row = omega arith in
      let x : (i - pair_codes) / 9 % 3 ≡ a = omega arith in
      let y : i / 3 % 3 ≡ b = omega arith in
      let z : i % 3 ≡ c = omega arith in
      rw (le-ltb i pair_codes (omega arith), r, x, y, z)

-- the states of a row's clauses, where the operands have the values vs
module _ (t : ℕ → Node) (l : ℕ) (known : (t (l / 2)).kind < 9) (vs : List ℕ) where
  abbrev node : Node
  node = t (l / 2)

  abbrev states : List State
  states = row_states (row_of node.kind (l % 2)) vs

  few : length states ≤ 3
  unfolding expand
  few =
      omega (
        arith,
        expand-few t l,
        length-map (row_of node.kind (l % 2)) (map (chosen node)),
        length-map (row_of node.kind (l % 2)) (state_by (choice_value vs)),
      )

  -- the literal of an open state is a choice of an operand
  chooses : All (λ s. is_open s ≡ true → Chooses node (literal_of s)) states
  chooses =
      all_map (λ s. is_open s ≡ true → Chooses node (literal_of s)) (state_by (choice_value vs)) (row_of node.kind (l % 2))
      (all_imply (All (Chooses node)) (λ c. is_open (state_by (choice_value vs) c) ≡ true → Chooses node (literal_of (state_by (choice_value vs) c)))
      (state_has (Chooses node) (choice_value vs)) (row_of node.kind (l % 2)) (row_within_lem node.kind (l % 2) known (omega arith)))

  one_chooses : some is_one states ≡ true → Chooses node (literal_at states (first_of is_one states))
  one_chooses = first_has is_one one_open (Chooses node) states chooses

  open_chooses : some is_open states ≡ true → Chooses node (literal_at states (first_of is_open states))
  open_chooses = first_has is_open (λ s e. e) (Chooses node) states chooses

  parts : Digits (bit (some is_one states)) (bit (some is_empty states)) (bit (some is_open states)) (first_if is_one (λ _ k. k) states)
      (first_if is_one literal_at states) (first_if is_empty (λ _ k. k) states) (first_if is_open literal_at states) (length states) (code_of states)
  unfolding code_of
  parts =
      digits _ _ _ _ _ _ _ _ (bit_low (some is_one states)) (bit_low (some is_empty states)) (bit_low (some is_open states))
      (if_low is_one (λ _ k. k) states 4 (omega arith) (λ e. omega (arith, first_most is_one states, few)))
      (if_low is_one literal_at states 8 (omega arith) (λ e. omega (arith, choice_few node _ (one_chooses e))))
      (if_low is_empty (λ _ k. k) states 4 (omega arith) (λ e. omega (arith, first_most is_empty states, few)))
      (if_low is_open literal_at states 8 (omega arith) (λ e. omega (arith, choice_few node _ (open_chooses e))))

  -- the same of the clauses of literals
  module _ (n : ℕ) (G : List ℕ) (good : Good n G) (values : Values G node vs) where
    right : All (All (Right G (choice_value vs) (chosen node))) (row_of node.kind (l % 2))
    right =
        all_imply (All (Chooses node)) (All (Right G (choice_value vs) (chosen node)))
        (all_imply (Chooses node) (Right G (choice_value vs) (chosen node)) (choice_right n G good node vs values))
        (row_of node.kind (l % 2)) (row_within_lem node.kind (l % 2) known (omega arith))

    states-are : states_of t G l ≡ map (renamed (chosen node)) states
    unfolding expand
    states-are = states_renamed G (choice_value vs) (chosen node) (row_of node.kind (l % 2)) right

    module _ (p : State → Bool) (kept : (s : State) → p (renamed (chosen node) s) ≡ p s) where
      some_is : some p (map (renamed (chosen node)) states) ≡ some p states
      some_is = some_renamed (chosen node) p kept states

      first-is : {r : ℕ} → r ≡ first_if p (λ _ k. k) states → some p (map (renamed (chosen node)) states) ≡ true
          → r ≡ first_of p (map (renamed (chosen node)) states)
      first-is e h = e ∙ if_true p (λ _ k. k) states (sym some_is ∙ h) ∙ sym (first_renamed (chosen node) p kept states)

      choice-is : ((s : State) → p s ≡ true → is_open s ≡ true) → {r : ℕ} → r ≡ first_if p literal_at states
          → some p (map (renamed (chosen node)) states) ≡ true
          → Choice node r (literal_at (map (renamed (chosen node)) states) (first_of p (map (renamed (chosen node)) states)))
      choice-is opens {r} e h =
          let s : some p states ≡ true = sym some_is ∙ h in
          let c : r ≡ literal_at states (first_of p states) = e ∙ if_true p literal_at states s in
          rw (c, first_renamed (chosen node) p kept states)
          (of_operand node _ (first_has p opens (Chooses node) states chooses s), sym (literal_renamed (chosen node) p kept opens states s))

    coded : Coded node (states_of t G l) (code_of states)
    coded = rw states-are record {
      unit = parts.unit ∙ ap bit (sym (some_is is_one (one_kept (chosen node))));
      unit_clause = first-is is_one (one_kept (chosen node)) parts.unit_clause;
      unit_literal = choice-is is_one (one_kept (chosen node)) one_open parts.unit_choice;
      conflict = parts.conflict ∙ ap bit (sym (some_is is_empty (empty-kept (chosen node))));
      conflict_clause = first-is is_empty (empty-kept (chosen node)) parts.conflict_clause;
      unmet = parts.unmet ∙ ap bit (sym (some_is is_open (open_kept (chosen node))));
      unmet_literal = choice-is is_open (open_kept (chosen node)) (λ s e. e) parts.unmet_choice;
      clauses = parts.clauses ∙ sym (length-map states (renamed (chosen node)));
    }

-- ---- the code of a literal of the index, at the numbers of its node's values

-- the value of a literal in the work area
pub value_low : (w : List ℕ) (l : ℕ) → l < most_literals → Valued (tail w)
    → (value_at (tail w) l ≡ value_code (value_of (g_of w) l)) × (value_at (tail w) l < 3)
value_low w l h v = (v l h, omega (arith, v l h, code_low (value_of (g_of w) l)))

-- a number that is read for a literal has its value
read_value : (G : List ℕ) (m v : ℕ) → v ≡ value_code (value_of G m) → value_of G m ≡ numbered v
read_value G m v e = sym (numbered-code (value_of G m)) ∙ ap numbered (sym e)

-- of a node's literal of a sign
module _ {x : List ℕ} {n : ℕ} (I : Indexed x n) (G : List ℕ) (good : Good n G) (m sign : ℕ) (h : (m < n) × (sign < 2)) where
  abbrev own : Node
  own = index_node x m

  -- the value of the operand in cell i of the node, as a number
  abbrev value_in : ℕ → ℕ
  value_in i = value_code (value_of G (get_or x (4 * m + (1 + i)) 0))

  -- what is read is its code
  abbrev Reads : ℕ → Type 0
  Reads i = Coded own (states_of (index_node x) G (2 * m + sign)) (get_or x (codes_at + i) 0)

  known : own.kind < 9
  known = (I.table.kinds m h.0).1

  -- the code of its row, at numbers that have the operands' values
  code_right : (i row : ℕ) (vs : List ℕ) → i < codes_size → row ≡ 2 * own.kind + sign → ((i : ℕ) → i < arity own.kind → get_or vs i 0 ≡ value_in i)
      → code_at i ≡ row_code row vs → Reads i
  code_right i row vs b e ev er =
      let d : (2 * m + sign) / 2 ≡ m = omega (arith, h.1) in
      let s : (2 * m + sign) % 2 ≡ sign = omega (arith, h.1) in
      rw (I.codes i b ∙ er ∙ ap (λ (k : ℕ). row_code k vs) e)
      (rw (d, s) at (coded (index_node x) (2 * m + sign) (rw d known) vs n G good
      (rw d (λ i k. rw (operand_cell x m i k) (read_value G (get_or x (4 * m + (1 + i)) 0) (get_or vs i 0) (ev i k))))))

  -- it is read at the values of the first two cells, and of the third where the kind has three operands
  module _ {row a b : ℕ} (e : row ≡ 2 * own.kind + sign) (ea : (a ≡ value_in 0) × (a < 3)) (eb : (b ≡ value_in 1) × (b < 3)) where
    pub pair-right : 9 * row + (3 * a + b) < pair_codes → Reads (9 * row + (3 * a + b))
    pair-right k =
        code_right (9 * row + (3 * a + b)) row (a ∷ b ∷ []) (omega (arith, k)) e values (code-two row a b ea.1 eb.1 (omega (arith, k)))
      where
        values : (i : ℕ) → i < arity own.kind → get_or (a ∷ b ∷ []) i 0 ≡ value_in i
        values zero j = ea.0
        values (suc zero) j = eb.0
        values (suc (suc i)) j = absurd (omega (arith, j, arity_pair own.kind (omega (arith, k, e))))

    three-right : 6 < own.kind → (c : ℕ) → (c ≡ value_in 2) × (c < 3) → Reads (3 * (9 * row + (3 * a + b)) + c - 2 * pair_codes)
    three-right k c ec =
        code_right (3 * (9 * row + (3 * a + b)) + c - 2 * pair_codes) row (a ∷ b ∷ c ∷ [])
        (omega (arith, known, h.1, e, ea.1, eb.1, ec.1)) e values (code-three row a b ea.1 eb.1 c ec.1 (omega (arith, k, e)))
      where
        values : (i : ℕ) → i < arity own.kind → get_or (a ∷ b ∷ c ∷ []) i 0 ≡ value_in i
        values zero j = ea.0
        values (suc zero) j = eb.0
        values (suc (suc zero)) j = ec.0
        values (suc (suc (suc i))) j = absurd (omega (arith, j, arity_most own.kind))

  -- where there are three operands, the third cell is one of them
  pub third_few : 6 < own.kind → get_or x (4 * m + 3) 0 < most_literals
  third_few k = omega (arith, operand_low x n m 2 I.table h.0 (omega (arith, arity-three own.kind k)), h.0, I.few)

  -- the same at the place that the values lead to, where the row is counted from TRUE's on
  module _ {i : ℕ} (e : i ≡ row_place own sign G) where
    lows : (value_code (value_of G own.a) < 3) × (value_code (value_of G own.b) < 3)
    lows = (code_low (value_of G own.a), code_low (value_of G own.b))

    place : 9 * (2 * own.kind + sign) + (3 * value_code (value_of G own.a) + value_code (value_of G own.b)) ≡ 18 + i
    place = omega (arith, e, (I.table.kinds m h.0).0)

    -- what is read, counted from the codes of TRUE on: before them are 18 of a kind 0, which is none
    abbrev From : ℕ → Type 0
    From i = Coded own (states_of (index_node x) G (2 * m + sign)) (get_or x (22194 + i) 0)

    from : (i : ℕ) → Reads (18 + i) → From i
    from i r =
        let q : codes_at + (18 + i) ≡ 22194 + i = omega arith in
        rw q at r

    pub place_two : i < 108 → From i
    unfolding index_node
    place_two k = from i (rw place at (pair-right refl (refl, lows.0) (refl, lows.1) (omega (arith, k, place))))

    pub place_kind : 108 ≤ i → 6 < own.kind
    place_kind k = omega (arith, k, place, h.1, lows)

    module _ (k : 6 < own.kind) where
      pub place_within : (108 ≤ i) × (i < 144)
      place_within = (omega (arith, k, place), omega (arith, known, h.1, place, lows))

      pub place_three : (c : ℕ) → (c ≡ value_in 2) × (c < 3) → From (3 * i + c - 216)
      unfolding index_node
      place_three c ec =
          let q : 3 * (18 + i) + c - 2 * pair_codes ≡ 18 + (3 * i + c - 216) = omega (arith, place_within) in
          from (3 * i + c - 216) (rw (place, q) at (three-right refl (refl, lows.0) (refl, lows.1) k c ec))
