-- The rows of the calls, by those that decide asks: 21 and 23 count all questions. Assumes nothing.
use mathlib.Core.Path.{◌≡◌, refl, sym, ap, ◌∙◌}
use mathlib.Core.Bool.{true, false, ◌&&◌}
use mathlib.Core.List.{List}
use Prim.Native.Nat.{ℕ, ◌*◌, ◌/◌, ◌<◌, ◌≤◌}
use native.Mathlib.Nat.{le-div_iff_mul-le}
use native.Mathlib.Omega.{arith}
use native.Mathlib.Decide.{dec_le}
use lib.Dec.{leb, ltb}
use lib.ListN.{length}
use borrow.Author.Tests.{lt-ltb, le-leb, lt-leb, ltb-true, leb-true}
use Rattle.std.specs.Prelude.{Result, Err}
use Rattle.scope.specs.declared.Node.{Node}
use Rattle.scope.specs.declared.Refusal.{Refusal}
use Rattle.scope.specs.Outcome.{Outcome, answer, refused, ◌>>◌, ◌>>=◌}
use Rattle.scope.specs.Table.{decode}
use Rattle.scope.proofs.Tests.{refused_no, and_left, and_right, required, then_first}
use Rattle.table.specs.Counted.{counted_of}
use Rattle.calculus.specs.Decide.{list_row, rows_test, asked_by, asked}
use Rattle.calculus.specs.Model.{Below}
use Rattle.calculus.proofs.Asked.{asked-read}
use Rattle.asking.specs.Asks.{Asks}
use Rattle.roomareas.specs.Areas.{area_size, points_size}
use Rattle.roomareas.specs.Changes.{most_questions}
use Rattle.rooms.specs.Rooms.{questions_row, rooms_test, admitted}
use Rattle.rooms.specs.Calls.{AsksRooms}

-- as many numbers for each as an area has
share : (q area : ℕ) → 0 < q → leb area_size (area / q) ≡ leb (area_size * q) area
share q area h = on (dec_le (area_size * q) area)
  where
    on : Dec (area_size * q ≤ area) → leb area_size (area / q) ≡ leb (area_size * q) area
    on (yes l) = rw (le-leb (area_size * q) area l) (le-leb area_size (area / q) ((le-div_iff_mul-le h).1 l))
    on (no l) = rw (lt-leb (area_size * q) area (omega arith)) (few (dec_le area_size (area / q)))
      where
        few : Dec (area_size ≤ area / q) → leb area_size (area / q) ≡ false
        few (yes k) = absurd (l ((le-div_iff_mul-le h).0 k))
        few (no k) = lt-leb area_size (area / q) (omega arith)

module _ (t questions : List ℕ) (points area : ℕ) where
  refuses_by : (x : List ℕ) (f : Refusal) → admitted t questions points area ≡ refused f.number f.place → AsksRooms t questions points area x (Err f)
  refuses_by x f e = record {
    answered = rw e;
    fit = λ n z. absurd (let y : ◌≡◌ {A = ℕ} 0 1 = cc in omega arith);
    prepared = λ n z. absurd (let y : ◌≡◌ {A = ℕ} 0 1 = cc in omega arith);
  }

  -- 69
  pub none-asked : (x : List ℕ) (f : Refusal) → f.number ≡ 69 → f.place ≡ 0 → (ltb 0 (length questions) && leb (length questions) most_questions) ≡ false
      → AsksRooms t questions points area x (Err f)
  unfolding admitted
  none-asked x f a b e = refuses_by x f (rw (e, a, b))

  module _ (e : (ltb 0 (length questions) && leb (length questions) most_questions) ≡ true) where
    pub some : 0 < length questions
    some = ltb-true 0 (length questions) (and_left (ltb 0 (length questions)) (leb (length questions) most_questions) e)

    pub few : length questions ≤ most_questions
    few = leb-true (length questions) most_questions (and_right (ltb 0 (length questions)) (leb (length questions) most_questions) e)

    test-same : (nodes : ℕ)
        → rooms_test nodes questions points area ≡ rows_test (list_row questions) nodes questions (points_size * length questions) points (area / length questions)
    unfolding rooms_test rows_test
    test-same nodes =
        rw (lt-ltb 0 (length questions) some, le-leb (length questions) 64 (omega (arith, few)), share (length questions) area some)

    admitted-asked : admitted t questions points area ≡ asked t questions (points_size * length questions) points (area / length questions)
    unfolding admitted asked_by
    admitted-asked = rw e (go (decode t))
      where
        go : (o : Outcome (List Node)) → (o >>= λ rs. rooms_test (length rs) questions points area >> answer rs)
            ≡ (o >>= λ rs. rows_test (list_row questions) (length rs) questions (points_size * length questions) points (area / length questions) >> answer rs)
        go (answer rs) = rw (test-same (length rs))
        go (refused number place) = refl

    pub rooms-asked : {x : List ℕ} {r : Result ℕ Refusal} → Asks (list_row questions) t questions (points_size * length questions) points (area / length questions) x r
        → AsksRooms t questions points area x r
    rooms-asked a = record {
      answered = a.answered ∙ ap (◌>>= λ rs. answer (length rs)) (sym admitted-asked);
      fit = λ n z.
          let d = (a.prepared n z).admitted in
          record { some = some; few = few; settings = d.settings; work = (le-div_iff_mul-le some).0 d.work };
      prepared = λ n z.
          let p = a.prepared n z in
          (points_size * length questions, points, area / length questions, p, admitted-asked ∙ p.answered);
    }

  module _ {rs : List Node} (e : admitted t questions points area ≡ answer rs) where
    passed : (ltb 0 (length questions) && leb (length questions) most_questions) ≡ true
    unfolding admitted
    passed = required (ltb 0 (length questions) && leb (length questions) most_questions) 69 0 (then_first (questions_row questions) _ e)

    pub admitted-few : length questions ≤ most_questions
    admitted-few = few passed

    -- a table to which the questions may be put reads, and each question is a literal of it
    pub admitted-read : (decode t ≡ answer rs) × Below (length rs) questions
    admitted-read =
        let a = asked-read t questions (points_size * length questions) points (area / length questions) (sym (admitted-asked passed) ∙ e) in
        (a.0, a.1.below)

  -- what the calls take from it: a refusal is that of the definition
  pub rooms_refused : {x : List ℕ} (r : Result ℕ Refusal) {f : Refusal} → AsksRooms t questions points area x r → r ≡ Err f
      → admitted t questions points area ≡ refused f.number f.place
  rooms_refused r {f} a q = go (admitted t questions points area) (sym a.answered ∙ ap counted_of q)
    where
      go : (o : Outcome (List Node)) → (o >>= λ rs. answer (length rs)) ≡ refused f.number f.place → o ≡ refused f.number f.place
      go (answer rs) e = refused_no (sym e)
      go (refused number place) e = cc
