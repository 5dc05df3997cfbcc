-- Both logics are even. Assumes nothing.
use mathlib.Core.Path.{◌≡◌, refl}
use mathlib.Core.Bool.{Bool, true, false, ◌&&◌, ◌||◌, beq, not-not}
use Rattle.scope.specs.declared.Truth.{Truth}
use Rattle.scope.specs.declared.Truth.TheVariants.{Yes, No, Unknown}
use Rattle.scope.specs.Truth.{classical}
use Rattle.scope.specs.Kleene.{opposite, both, either, alike, kleene}
use Rattle.rebuilding.specs.Promised.{Even}

and-turned : (x y : Bool) → (x && y) ≡ (y && x)
and-turned true true = refl
and-turned true false = refl
and-turned false true = refl
and-turned false false = refl

or_turned : (x y : Bool) → (x || y) ≡ (y || x)
or_turned true true = refl
or_turned true false = refl
or_turned false true = refl
or_turned false false = refl

iff_turned : (x y : Bool) → beq x y ≡ beq y x
iff_turned true true = refl
iff_turned true false = refl
iff_turned false true = refl
iff_turned false false = refl

and-three : (x y z : Bool) → (x && (y && z)) ≡ (y && (x && z))
and-three true true true = refl
and-three true true false = refl
and-three true false true = refl
and-three true false false = refl
and-three false true true = refl
and-three false true false = refl
and-three false false true = refl
and-three false false false = refl

or_three : (x y z : Bool) → (x || (y || z)) ≡ (y || (x || z))
or_three true true true = refl
or_three true true false = refl
or_three true false true = refl
or_three true false false = refl
or_three false true true = refl
or_three false true false = refl
or_three false false true = refl
or_three false false false = refl

iff_three : (x y z : Bool) → (beq x (beq y z)) ≡ (beq y (beq x z))
iff_three true true true = refl
iff_three true true false = refl
iff_three true false true = refl
iff_three true false false = refl
iff_three false true true = refl
iff_three false true false = refl
iff_three false false true = refl
iff_three false false false = refl

pub classical_even : Even classical
classical_even = record {
  twice = not-not;
  both = record { two = and-turned; three = and-three };
  either = record { two = or_turned; three = or_three };
  alike = record { two = iff_turned; three = iff_three };
}

twice₃ : (x : Truth) → opposite (opposite x) ≡ x
twice₃ Yes = refl
twice₃ No = refl
twice₃ Unknown = refl

both₃ : (x y : Truth) → both x y ≡ both y x
both₃ Yes Yes = refl
both₃ Yes No = refl
both₃ Yes Unknown = refl
both₃ No Yes = refl
both₃ No No = refl
both₃ No Unknown = refl
both₃ Unknown Yes = refl
both₃ Unknown No = refl
both₃ Unknown Unknown = refl

either₃ : (x y : Truth) → either x y ≡ either y x
either₃ Yes Yes = refl
either₃ Yes No = refl
either₃ Yes Unknown = refl
either₃ No Yes = refl
either₃ No No = refl
either₃ No Unknown = refl
either₃ Unknown Yes = refl
either₃ Unknown No = refl
either₃ Unknown Unknown = refl

alike₃ : (x y : Truth) → alike x y ≡ alike y x
alike₃ Yes Yes = refl
alike₃ Yes No = refl
alike₃ Yes Unknown = refl
alike₃ No Yes = refl
alike₃ No No = refl
alike₃ No Unknown = refl
alike₃ Unknown Yes = refl
alike₃ Unknown No = refl
alike₃ Unknown Unknown = refl

both₃_three : (x y z : Truth) → (both x (both y z)) ≡ (both y (both x z))
both₃_three Yes Yes Yes = refl
both₃_three Yes Yes No = refl
both₃_three Yes Yes Unknown = refl
both₃_three Yes No Yes = refl
both₃_three Yes No No = refl
both₃_three Yes No Unknown = refl
both₃_three Yes Unknown Yes = refl
both₃_three Yes Unknown No = refl
both₃_three Yes Unknown Unknown = refl
both₃_three No Yes Yes = refl
both₃_three No Yes No = refl
both₃_three No Yes Unknown = refl
both₃_three No No Yes = refl
both₃_three No No No = refl
both₃_three No No Unknown = refl
both₃_three No Unknown Yes = refl
both₃_three No Unknown No = refl
both₃_three No Unknown Unknown = refl
both₃_three Unknown Yes Yes = refl
both₃_three Unknown Yes No = refl
both₃_three Unknown Yes Unknown = refl
both₃_three Unknown No Yes = refl
both₃_three Unknown No No = refl
both₃_three Unknown No Unknown = refl
both₃_three Unknown Unknown Yes = refl
both₃_three Unknown Unknown No = refl
both₃_three Unknown Unknown Unknown = refl

either₃_three : (x y z : Truth) → (either x (either y z)) ≡ (either y (either x z))
either₃_three Yes Yes Yes = refl
either₃_three Yes Yes No = refl
either₃_three Yes Yes Unknown = refl
either₃_three Yes No Yes = refl
either₃_three Yes No No = refl
either₃_three Yes No Unknown = refl
either₃_three Yes Unknown Yes = refl
either₃_three Yes Unknown No = refl
either₃_three Yes Unknown Unknown = refl
either₃_three No Yes Yes = refl
either₃_three No Yes No = refl
either₃_three No Yes Unknown = refl
either₃_three No No Yes = refl
either₃_three No No No = refl
either₃_three No No Unknown = refl
either₃_three No Unknown Yes = refl
either₃_three No Unknown No = refl
either₃_three No Unknown Unknown = refl
either₃_three Unknown Yes Yes = refl
either₃_three Unknown Yes No = refl
either₃_three Unknown Yes Unknown = refl
either₃_three Unknown No Yes = refl
either₃_three Unknown No No = refl
either₃_three Unknown No Unknown = refl
either₃_three Unknown Unknown Yes = refl
either₃_three Unknown Unknown No = refl
either₃_three Unknown Unknown Unknown = refl

alike₃_three : (x y z : Truth) → (alike x (alike y z)) ≡ (alike y (alike x z))
alike₃_three Yes Yes Yes = refl
alike₃_three Yes Yes No = refl
alike₃_three Yes Yes Unknown = refl
alike₃_three Yes No Yes = refl
alike₃_three Yes No No = refl
alike₃_three Yes No Unknown = refl
alike₃_three Yes Unknown Yes = refl
alike₃_three Yes Unknown No = refl
alike₃_three Yes Unknown Unknown = refl
alike₃_three No Yes Yes = refl
alike₃_three No Yes No = refl
alike₃_three No Yes Unknown = refl
alike₃_three No No Yes = refl
alike₃_three No No No = refl
alike₃_three No No Unknown = refl
alike₃_three No Unknown Yes = refl
alike₃_three No Unknown No = refl
alike₃_three No Unknown Unknown = refl
alike₃_three Unknown Yes Yes = refl
alike₃_three Unknown Yes No = refl
alike₃_three Unknown Yes Unknown = refl
alike₃_three Unknown No Yes = refl
alike₃_three Unknown No No = refl
alike₃_three Unknown No Unknown = refl
alike₃_three Unknown Unknown Yes = refl
alike₃_three Unknown Unknown No = refl
alike₃_three Unknown Unknown Unknown = refl

pub kleene_even : Even kleene
kleene_even = record {
  twice = twice₃;
  both = record { two = both₃; three = both₃_three };
  either = record { two = either₃; three = either₃_three };
  alike = record { two = alike₃; three = alike₃_three };
}
