-- What is promised of a rebuild, and of the records before the one that ends it, over any logic whose joins do not see the order of truths.
-- Assumes nothing.
use Rattle.std.specs.Prelude.{◌≡◌, false, List, [], ◌⊎◌, ℕ, ◌*◌, ◌<◌, length, get_or, take}
use Rattle.scope.specs.declared.Node.{Node}
use Rattle.scope.specs.Outcome.{answer, refused}
use Rattle.scope.specs.Table.{node_bytes, operands}
use Rattle.scope.specs.Truth.{Logic, truth_in}
use Rattle.scope.specs.Calls.{no_node, decode_used, evaluate, add}
use Rattle.codec.specs.Valid.{NoImp, Built}
use Rattle.codec.specs.Given.{apart}
use Rattle.rebuilding.specs.Rebuild.{rebuilt, mapped, rebuild_from}

-- a join that does not see the order of what it joins
pub record Orderless {A : Type 0} (f : A → A → A) : Type 0 where
  pub two : (x y : A) → f x y ≡ f y x
  pub three : (x y z : A) → f x (f y z) ≡ f y (f x z)

-- the two logics are such: and, or, if and only if do not see the order, and a negation twice is none
pub record Even {A : Type 0} (L : Logic A) : Type 0 where
  pub twice : (x : A) → L.opposite (L.opposite x) ≡ x
  pub both : Orderless L.both
  pub either : Orderless L.either
  pub alike : Orderless L.alike

-- of the table t of the nodes rs the first k records were rebuilt
pub record Rebuilds (t : List ℕ) (rs : List Node) (k : ℕ) (b : Built) : Type 1 where
  -- what was written reads back, with no kind 5 in it
  pub nodes : List Node
  pub table : decode_used (take b.used b.bytes) ≡ answer nodes
  pub retired : NoImp nodes
  -- 'each rebuilt literal means what its record did', under every setting
  pub inside : (l : ℕ) → l < 2 * k → rebuilt b.literals l < 2 * length nodes
  pub means : {A : Type 0} (L : Logic A) → Even L → (s : List ℕ) (l : ℕ) → l < 2 * k
      → truth_in L s nodes (rebuilt b.literals l) ≡ truth_in L s rs l
  -- so evaluate answers the same, refusals of the setting too
  pub evaluates : (s : List ℕ) (l : ℕ) → l < 2 * k → evaluate (take b.used b.bytes) (rebuilt b.literals l) s ≡ evaluate t l s

-- a rebuild that 'ends there': `done` records were rebuilt to `built`, and add refuses the next one
pub record Ends (t : List ℕ) (rs : List Node) (buf : List ℕ) (number place : ℕ) : Type 1 where
  pub done : ℕ
  pub few : done < length rs
  pub built : Built
  pub before : rebuild_from [] buf 0 (take done rs) ≡ answer built
  pub refuses : add built.bytes built.used (node_bytes (mapped built.literals (get_or rs done no_node))) ≡ refused number place
  -- 'each rebuilt literal means what its record did': those before it too
  pub rebuilds : Rebuilds t rs done built
  -- 16, where 'two operands have become one node', is the only refusal of the rows 14 to 16, and 52 the only other one
  pub which : ((number ≡ 16) × (apart (operands (mapped built.literals (get_or rs done no_node))) ≡ false)) ⊎ (number ≡ 52)
  pub at : place ≡ length rebuilds.nodes
