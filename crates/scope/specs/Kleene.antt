-- Points that may go either way: a setting's byte 2, and truth 'by strong Kleene tables'. Assumes nothing.
use Rattle.std.specs.Prelude.{◌≡◌, Bool, true, false, cond, List, ℕ, ◌<◌, eqb, get_or}
use Rattle.scope.specs.declared.Node.{Node}
use Rattle.scope.specs.declared.Truth.{Truth}
use Rattle.scope.specs.declared.Truth.TheVariants.{Yes, No, Unknown}
use Rattle.scope.specs.Truth.{Logic, truth_in}

-- ---- 'strong Kleene tables': what is known whichever way the unknown goes

abbrev pub opposite : Truth → Truth
opposite Yes = No
opposite No = Yes
opposite Unknown = Unknown

abbrev pub both : Truth → Truth → Truth
both Yes y = y
both No y = No
both Unknown Yes = Unknown
both Unknown No = No
both Unknown Unknown = Unknown

abbrev pub either : Truth → Truth → Truth
either Yes y = Yes
either No y = y
either Unknown Yes = Yes
either Unknown No = Unknown
either Unknown Unknown = Unknown

abbrev pub alike : Truth → Truth → Truth
alike Yes y = y
alike No y = opposite y
alike Unknown y = Unknown

-- a point's byte: 1 is yes, 2 unknown, 0 no
abbrev pub point_truth : ℕ → Truth
point_truth b = cond (eqb b 1) Yes (cond (eqb b 2) Unknown No)

abbrev pub kleene : Logic Truth
kleene = record {
  yes = Yes;
  none = No;
  point = point_truth;
  opposite = opposite;
  both = both;
  either = either;
  alike = alike;
}

-- 'answers yes, no or unknown'
abbrev pub truth₃ : List ℕ → List Node → ℕ → Truth
truth₃ s rs l = truth_in kleene s rs l

-- the answer of a two-valued truth
abbrev pub sure : Bool → Truth
sure true = Yes
sure false = No

-- 'settings without a 2'
abbrev pub NoTwo : List ℕ → Type 0
NoTwo s = (p : ℕ) → p < 1024 → get_or s p 0 ≡ 2 → ⊥

-- a 'way of filling the 2s': the other points keep their bytes
abbrev pub Fills : List ℕ → List ℕ → Type 0
Fills s f = (p : ℕ) → p < 1024 → (get_or s p 0 ≡ 2 → ⊥) → get_or f p 0 ≡ get_or s p 0
