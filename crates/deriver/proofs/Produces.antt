-- What counting and writing came to, as derive's answer: 30 or 31 after the search, or the derivation. Assumes nothing.
use mathlib.Core.Path.{◌≡◌, sym, ap, ◌∙◌}
use mathlib.Core.List.{List, [], ◌++◌, map}
use Prim.Native.Nat.{ℕ, ◌+◌, ◌-◌, ◌*◌, ◌/◌, ◌<◌, ◌≤◌, min}
use native.Mathlib.Omega.{arith}
use native.Mathlib.Decide.{dec_lt}
use lib.ListN.{length, length-append, length-map}
use borrow.Author.Tests.{le-leb, lt-leb}
use Rattle.std.specs.Prelude.{Option, None, Some, Ok, Err}
use Rattle.scope.specs.declared.Node.{Node}
use Rattle.scope.specs.Outcome.{answer, refused}
use Rattle.calculus.specs.Expansion.{expand}
use Rattle.calculus.specs.Order.{Tree, tree, possible, impossible, answer_of}
use Rattle.rules.specs.declared.Step.{Step}
use Rattle.rules.specs.declared.Version.{Version}
use Rattle.rules.specs.Steps.{G as name, encode_steps}
use Rattle.rules.specs.Derivation.{steps_of, named_steps}
use Rattle.steps.proofs.Encode.{length-encode_steps}
use Rattle.state.specs.Work.{g_of}
use Rattle.searching.specs.Search.{found_of}
use Rattle.counting.specs.Count.{at_most, steps_from, found_by, Tallied}
use Rattle.calculus.proofs.Limits.{most_under, most_over, most_low}
use Rattle.emitting.specs.Trace.{Fits, written}
use Rattle.deriver.specs.Derives.{given, row31, produced, Produced}

-- ---- how many steps fit

-- a count up to one more than fit, with g that are counted besides
count_fits : (most g m c : ℕ) → c ≡ at_most (most + 1) (0 + m) → g + c ≤ most → c ≡ m
count_fits most g m c e h = go (dec_lt (0 + m) (most + 1))
  where
    go : Dec (0 + m < most + 1) → c ≡ m
    go (yes l) = omega (arith, most_under (most + 1) (0 + m) l, e)
    go (no l) = absurd (omega (arith, most_over (most + 1) (0 + m) (omega (arith, l)), e))

count-over : (most g m c : ℕ) → c ≡ at_most (most + 1) (0 + m) → most < g + c → most < g + m
count-over most g m c e h = go (dec_lt (0 + m) (most + 1))
  where
    go : Dec (0 + m < most + 1) → most < g + m
    go (yes l) = omega (arith, most_under (most + 1) (0 + m) l, e)
    go (no l) = omega (arith, l)

-- the rows of 31
module _ (v : Version) (ss : List Step) (d : List ℕ) where
  row_fits : length ss ≤ 126 * min (length d / 512) 65536 → row31 v ss d ≡ answer (given v ss d)
  row_fits h =
      let l = length-encode_steps v ss in
      rw (le-leb (length (encode_steps v ss)) (length d) (omega arith), le-leb (length (encode_steps v ss)) 33554432 (omega arith))

  row_over : 126 * min (length d / 512) 65536 < length ss → row31 v ss d ≡ refused 31 0
  row_over h = go (dec_lt (length d) (length (encode_steps v ss)))
    where
      go : Dec (length d < length (encode_steps v ss)) → row31 v ss d ≡ refused 31 0
      go (yes l) = rw (lt-leb (length (encode_steps v ss)) (length d) l)
      go (no l) =
          let n = length-encode_steps v ss in
          rw (le-leb (length (encode_steps v ss)) (length d) (omega (arith, l)), lt-leb (length (encode_steps v ss)) 33554432 (omega (arith, l)))

-- ---- the search

module _ (v : Version) (t : ℕ → Node) (n : ℕ) (goals d : List ℕ) where
  abbrev whole : Tree
  whole = tree (expand t) goals n []

  abbrev steps : List Step
  steps = steps_of v (expand t) goals [] whole

  abbrev named : List Step
  named = named_steps v (expand t) goals whole

  named-length : length named ≡ length goals + length steps
  named-length = simp (length-append, length-map)

  -- from no literals, with as much fuel as there are nodes
  from-none : (G : List ℕ) → G ≡ [] → tree (expand t) goals (n - length G) G ≡ whole
  from-none G z =
      let n0 : n - 0 ≡ n = omega arith in
      ap (λ (F : List ℕ). tree (expand t) goals (n - length F) F) z ∙ ap (λ (k : ℕ). tree (expand t) goals k []) n0

  steps_none : (G : List ℕ) → G ≡ [] → steps_from v t n goals G ≡ steps
  steps_none G z = ap (λ (F : List ℕ). steps_of v (expand t) goals F (tree (expand t) goals (n - length G) G)) z
      ∙ ap (steps_of v (expand t) goals []) (from-none G z)

  refusal : {number : ℕ} → produced v t n goals d ≡ refused number 0 → Produced v t n goals d d (Err (record { number = number; place = 0 }))
  refusal e = record { answered = rw e; bytes = rw e }

  module _ {w₁ w₂ m₂ : List ℕ} {most : ℕ} {r : Option ℕ} (z : g_of w₁ ≡ []) (m : most ≡ 126 * min (length d / 512) 65536)
      (c : Tallied v t n goals w₁ w₂ m₂ (most + 1) 0 r) where
    -- what the count found is what the search ends on
    found : found_of (found_by r) (g_of w₂) ≡ answer_of whole
    found = c.searched.answered ∙ ap answer_of (from-none (g_of w₁) z)

    pub produced-open : r ≡ None → Produced v t n goals d d (Err (record { number = 30; place = 0 }))
    produced-open e =
        let v : possible (g_of w₂) ≡ answer_of whole = rw e at found in
        refusal (rw (← v))

    module _ {k : ℕ} (e : r ≡ Some k) where
      none : impossible ≡ answer_of whole
      none = rw e at found

      number : k ≡ at_most (most + 1) (0 + length steps)
      number = c.counted k e ∙ ap (λ (ss : List Step). at_most (most + 1) (0 + length ss)) (steps_none (g_of w₁) z)

      -- the count with the names fits a number of the machine
      pub count_low : k ≤ most + 1
      count_low = omega (arith, number, most_low (most + 1) (0 + length steps))

      pub produced-over : most < length goals + k → Produced v t n goals d d (Err (record { number = 31; place = 0 }))
      produced-over h = refusal (rw (← none) (row_over v named d (omega (arith, named-length, count-over most (length goals) _ k number h))))

      -- the steps fit, and the search starts again
      module _ (h : length goals + k ≤ most) (w₃ : List ℕ) (y : g_of w₃ ≡ []) where
        exact : k ≡ length steps
        exact = count_fits most (length goals) _ k number h

        pub fits : Fits v t n goals (g_of w₃) d
        fits = record {
          closes = ap answer_of (from-none (g_of w₃) y) ∙ sym none;
          lent = omega (arith, ap length (steps_none (g_of w₃) y), exact, h, m);
          most = omega (arith, ap length (steps_none (g_of w₃) y), exact, h, m);
        }

        answers : produced v t n goals d ≡ answer (given v named d)
        answers = rw (← none) (row_fits v named d (omega (arith, named-length, exact, h, m)))

        pub produced-steps : {d' : List ℕ} → d' ≡ written v (map name goals ++ steps_from v t n goals (g_of w₃)) d
            → Produced v t n goals d d' (Ok (length goals + k))
        produced-steps q = record {
          answered = rw answers (ap answer (ap (length goals +◌) exact ∙ sym named-length));
          bytes = rw answers (q ∙ ap (λ (ss : List Step). written v (map name goals ++ ss) d) (steps_none (g_of w₃) y));
        }
