-- `rounds::step` meets its contract: taken up, a turn in a round of its own, and put down. Assumes nothing.
use mathlib.Core.Path.{refl, ◌∙◌}
use mathlib.Core.List.{List, [], ◌∷◌}
use Prim.Native.Nat.{ℕ}
use native.Mathlib.Omega.{arith}
use borrow.Author.Rules.{rules}
use Rattle.scope.proofs.Lists.{zeros-at}
use Rattle.rounds.proofs.Serving.{room_for, sits_one, stepped}
use Rattle.rounds.proofs.step.Goals as goal

-- the verdicts of the round
abbrev twos : List ℕ
twos = 2 ∷ 2 ∷ 2 ∷ 2 ∷ 2 ∷ 2 ∷ 2 ∷ 2 ∷ []

pub resume-requires : goal.resume-requires
resume-requires c = record {
  indexed = c.requires.indexed;
  goals = c.requires.goals;
  area_in_bounds = (omega (arith, c.requires.goals_len.1), search rules, search rules);
}

pub spend-requires : goal.spend-requires
spend-requires c = record {
  indexed = c.requires.indexed;
  pointed = c.requires.pointed;
  goals = c.requires.goals;
  roomy = record {
    few = omega (arith, c.requires.goals_len.0);
    work = room_for 32768 c.requires.goals_len.0 (c.resume.auto.work ∙ c.requires.goals_len.1);
    masks = room_for 33 c.requires.goals_len.0 c.resume.auto.masks;
    stacks = room_for 2017 c.requires.goals_len.0 c.resume.auto.opens;
    verdicts = refl;
  };
  questions_in_bounds = (room_for 1024 c.requires.goals_len.0 c.requires.goals_len.2, refl);
  by_index = zeros-at 8;
  sits = sits_one twos c.requires.goals_len.0 refl (c.resume.auto.work ∙ c.requires.goals_len.1) c.resume.auto.masks c.resume.ensures.stands;
}

pub put-requires : goal.put-requires
put-requires c = c.spend.auto.work ∙ c.resume.auto.work ∙ c.requires.goals_len.1

pub returns : goal.returns
returns c = let v = c.spend in
    let a = c.resume.auto.work ∙ c.requires.goals_len.1 in
    stepped c.args.work.now {v = twos} c.requires.goals_len.0 refl a (c.spend.auto.work ∙ a) c.requires.goals_len.2 (c.spend.auto.settings
    ∙ c.requires.goals_len.2) c.resume.ensures.stands c.resume.ensures.work_after c.spend.ensures.spent c.put.ensures
