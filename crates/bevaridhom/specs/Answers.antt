-- The answers for a host in C: number 0 and the values, or the refusal's number and place and every value 0. Assumes nothing.
use Rattle.std.specs.Prelude.{◌≡◌, true, cond, List, [], ◌∷◌, ◌++◌, ◌⊎◌, ℕ, suc, ◌-◌, ◌^◌, ◌<◌, ◌≤◌, eqb, length, get_or, take, replicate, Result, Ok, Err}
use Rattle.scope.specs.declared.Node.{Node}
use Rattle.scope.specs.declared.Refusal.{Refusal}
use Rattle.scope.specs.declared.Truth.{Truth}
use Rattle.scope.specs.declared.Truth.TheVariants.{Yes, No, Unknown}
use Rattle.scope.specs.Outcome.{Outcome, answer, refused, fine, ◌>>◌, ◌>>=◌}
use Rattle.scope.specs.Table.{decode}
use Rattle.scope.specs.Truth.{truth}
use Rattle.scope.specs.Kleene.{NoTwo, Fills}
use Rattle.scope.specs.Calls.{Added, settings_test, evaluate}
use Rattle.calculus.specs.Order.{impossible, answer_of}
use Rattle.calculus.specs.Model.{All, most_goals}
use Rattle.calculus.specs.Decide.{search_of, Decided, asked, plainly, decide, settings_after, Satisfies, Unsatisfiable, ◌⇔◌}
use Rattle.rules.specs.declared.Version.{Version}
use Rattle.rules.specs.declared.Version.TheVariants.{One, Two}
use Rattle.rules.specs.Steps.{step_at, encode_steps, decode_steps}
use Rattle.rules.specs.Derive.{derivation_of, blocks, derive, derived_after, check}
use Rattle.published.specs.Bytes.{PublishedBytes}
use Rattle.deciding.specs.Decides.{Word, can, cannot, nothing, word_of, Said, said_of}
use Rattle.clashing.specs.declared.Clashed.{Clashed}
use Rattle.clashing.specs.Clash.{clash}
use Rattle.clashing.specs.Clashes.{Clashing}
use Rattle.wishing.specs.Wish.{count}
use Rattle.wishing.specs.Call.{wishes_asked, Granted, grant, granted_after}
use Rattle.granting.specs.declared.Grant.{Grant}
use Rattle.wishes.specs.Wishes.{grant_of}
use Rattle.overview.specs.Overview.{overview, answers_after}
use Rattle.overview.specs.Overviews.{Told}
use Rattle.rooms.specs.Rooms.{Turned}
use Rattle.adding.specs.declared.Mark.{Mark}
use Rattle.cnf.specs.Text.{File, file_of}
use Rattle.cnf.specs.Meaning.{clauses_true}
use Rattle.cnf.specs.Reader.{dimacs, Means}
use Rattle.adding.specs.Added.{marked}
use Rattle.bevaridhom.specs.declared.BevCount.{BevCount}
use Rattle.bevaridhom.specs.declared.BevRecord.{BevRecord}
use Rattle.bevaridhom.specs.declared.BevTruth.{BevTruth}
use Rattle.bevaridhom.specs.declared.BevAdded.{BevAdded}
use Rattle.bevaridhom.specs.declared.BevDecided.{BevDecided}
use Rattle.bevaridhom.specs.declared.BevClashed.{BevClashed}
use Rattle.bevaridhom.specs.declared.BevAnswered.{BevAnswered}
use Rattle.bevaridhom.specs.declared.BevTurned.{BevTurned}
use Rattle.bevaridhom.specs.declared.BevDerived.{BevDerived}
use Rattle.bevaridhom.specs.declared.BevChecked.{BevChecked}
use Rattle.bevaridhom.specs.declared.BevWished.{BevWished}
use Rattle.bevaridhom.specs.declared.BevOpened.{BevOpened}
use Rattle.bevaridhom.specs.declared.BevStep.{BevStep}
use Rattle.step_reader.specs.Handed.{Next, one, none}

abbrev pub count_answer : Outcome ℕ → BevCount
count_answer (answer n) = record { number = 0; place = 0; nodes = n }
count_answer (refused n p) = record { number = n; place = p; nodes = 0 }

abbrev pub record_answer : Outcome Node → BevRecord
record_answer (answer x) = record { number = 0; place = 0; kind = x.kind; a = x.a; b = x.b; c = x.c }
record_answer (refused n p) = record { number = n; place = p; kind = 0; a = 0; b = 0; c = 0 }

-- 'no' is 0, 'yes' is 1, 'unknown' is 2
abbrev pub truth_number : Truth → ℕ
truth_number No = 0
truth_number Yes = 1
truth_number Unknown = 2

abbrev pub truth_answer : Outcome Truth → BevTruth
truth_answer (answer v) = record { number = 0; place = 0; truth = truth_number v }
truth_answer (refused n p) = record { number = n; place = p; truth = 0 }

abbrev pub mark_answer : Outcome Mark → BevAdded
mark_answer (answer m) = record { number = 0; place = 0; literal = m.literal; used = m.used }
mark_answer (refused n p) = record { number = n; place = p; literal = 0; used = 0 }

abbrev pub add_answer : Outcome Added → BevAdded
add_answer w = mark_answer (marked w)

-- 'possible' is 1, 'impossible' is 0
abbrev pub word_bit : Word → ℕ
word_bit can = 1
word_bit cannot = 0
word_bit nothing = 0

abbrev pub decide_answer : Outcome Said → BevDecided
decide_answer (answer x) = record { number = 0; place = 0; possible = word_bit x.word; splits = x.splits }
decide_answer (refused n p) = record { number = n; place = p; possible = 0; splits = 0 }

-- number 0 is said of the nodes rs of the table: verdict and settings are those of the plain order, and the splits are no more
pub record HostPlain (rs : List Node) (goals s s' : List ℕ) (r : BevDecided) : Type 0 where
  pub verdict : r.possible ≡ word_bit (word_of (plainly rs goals s).verdict)
  pub settings : s' ≡ (plainly rs goals s).settings
  pub splits : r.splits ≤ (plainly rs goals s).splits

-- decide for a host: its answer with the splits made, the settings bytes, a work area that a refusal leaves as it was, that the plain order
-- gives the same with no fewer splits, and what the answer means: possible 0 exactly when no setting makes all goals true, and with 1
-- bev_evaluate of the settings answers yes of each goal, and all goals are true for every way of filling their 2s
pub record HostDecides (t goals s w s' w' : List ℕ) (r : BevDecided) : Type 0 where
  pub answered : r ≡ decide_answer (decide t goals s w >>= λ d. answer (said_of d))
  pub settings : s' ≡ settings_after s (decide t goals s w)
  pub work : (number place : ℕ) → decide t goals s w ≡ refused number place → w' ≡ w
  pub plain : r.number ≡ 0 → (rs : List Node) × (decode t ≡ answer rs) × HostPlain rs goals s s' r
  pub exact : r.number ≡ 0 → (r.possible ≡ 0) ⇔ Unsatisfiable t goals
  pub satisfied : r.possible ≡ 1 → All (λ g. evaluate t g s' ≡ answer Yes) goals
  pub filled : r.possible ≡ 1 → (rs : List Node) → decode t ≡ answer rs → (f : List ℕ) → Fills s' f → All (λ g. truth f rs g ≡ true) goals

-- the indices kept and their count, 0 past them
abbrev pub clash_answer : Outcome (List ℕ) → BevClashed
clash_answer (answer is) = record { number = 0; place = 0; count = length is; kept = is ++ replicate (most_goals - length is) 0 }
clash_answer (refused n p) = record { number = n; place = p; count = 0; kept = replicate most_goals 0 }

-- the same of what `clashing::clash` answers
abbrev pub clash_told : Result Clashed Refusal → BevClashed
clash_told (Ok k) = record { number = 0; place = 0; count = k.count; kept = k.kept }
clash_told (Err f) = record { number = f.number; place = f.place; count = 0; kept = replicate most_goals 0 }

-- clash for a host: the walk's list, a work area that a refusal by the rows 10 to 17, 62, 20 and 23 leaves as it was, and what the answer
-- means: the goals kept are impossible together, and without any single one of them one setting makes the others true; behind these rows
-- 63 is said exactly when one setting makes all goals true
pub record HostClashes (t goals w w' : List ℕ) (r : BevClashed) : Type 0 where
  pub answered : r ≡ clash_answer (clash t goals w)
  pub work : (number place : ℕ) → asked t goals 0 0 (length w) ≡ refused number place → w' ≡ w
  pub kept : r.number ≡ 0 → Clashing t goals (take r.count r.kept)
  pub exact : (rs : List Node) → asked t goals 0 0 (length w) ≡ answer rs → (r.number ≡ 63) ⇔ ((v : List ℕ) × Satisfies t goals v)

abbrev pub overview_answer : Outcome (List ℕ) → BevAnswered
overview_answer (answer after) = record { number = 0; place = 0 }
overview_answer (refused n p) = record { number = n; place = p }

-- the same of what `overview::overview` answers
abbrev pub overview_told : Result (Unit {0}) Refusal → BevAnswered
overview_told (Ok u) = record { number = 0; place = 0 }
overview_told (Err f) = record { number = f.number; place = f.place }

-- overview for a host: its answer, the answer bytes, a work area that a refusal leaves as it was, and what number 0 means: each goal's byte
-- is what bev_decide says of that goal by itself, and it is 0 exactly when no setting makes the goal true
pub record HostOverviews (t goals b w b' w' : List ℕ) (r : BevAnswered) : Type 0 where
  pub answered : r ≡ overview_answer (overview t goals b w)
  pub bytes : b' ≡ answers_after b (overview t goals b w)
  pub work : (number place : ℕ) → overview t goals b w ≡ refused number place → w' ≡ w
  pub each : r.number ≡ 0 → (i : ℕ) → i < length goals → Told t w (get_or goals i 0) (get_or b' i 0)

-- the values of an answer for rooms; the promises of the two calls are those of crate rooms (`OpensRooms`, `TurnsRooms`)
abbrev pub rooms_answer : BevTurned → Turned
rooms_answer r = record { number = r.number; place = r.place; count = r.count; turns = r.turns; verdicts = r.verdicts }

abbrev pub derive_answer : Outcome ℕ → BevDerived
derive_answer (answer n) = record { number = 0; place = 0; steps = n }
derive_answer (refused n p) = record { number = n; place = p; steps = 0 }

-- 'Derive is told the version wanted, a choice of exactly two': 0 is version one, any other byte version two
abbrev pub version_asked : ℕ → Version
version_asked n = cond (eqb n 0) One Two

-- derive for a host: its step count, the derivation bytes, a work area that a refusal by the rows 10 to 17, 62, 20 and 23 leaves as it
-- was, and what the derivation means: no setting makes all goals true, bev_check accepts it, and it is one by the published rules; behind
-- these rows 30 means that one setting makes all goals true
pub record HostDerives (v : Version) (t goals w d w' d' : List ℕ) (r : BevDerived) : Type 0 where
  pub answered : r ≡ derive_answer (derive v t goals w d >>= λ x. answer x.steps)
  pub bytes : d' ≡ derived_after d (derive v t goals w d)
  pub work : (number place : ℕ) → asked t goals 0 0 (length w) ≡ refused number place → w' ≡ w
  pub never : r.number ≡ 0 → Unsatisfiable t goals
  pub accepted : r.number ≡ 0 → check t goals w (blocks r.steps d') ≡ fine
  pub published : r.number ≡ 0 → PublishedBytes t goals (blocks r.steps d')
  pub complete : r.number ≡ 30 → (rs : List Node) → asked t goals 0 0 (length w) ≡ answer rs → (v : List ℕ) × Satisfies t goals v

-- 0 is 'accepted'
abbrev pub check_answer : Outcome (Unit {0}) → BevChecked
check_answer (answer u) = record { number = 0; place = 0 }
check_answer (refused n p) = record { number = n; place = p }

-- check for a host: its answer, a work area that a refusal before the first step leaves as it was, and what number 0 means: no setting
-- makes all goals true, and the steps are those of a derivation by the published rules, which has it for no other list of goals where
-- its first step is a G; the solver's own derivation has it
pub record HostChecks (t goals w d w' : List ℕ) (r : BevChecked) : Type 0 where
  pub answered : r ≡ check_answer (check t goals w d)
  pub work : (number place : ℕ) → (asked t goals 0 0 (length w) >> decode_steps d) ≡ refused number place → w' ≡ w
  pub never : r.number ≡ 0 → Unsatisfiable t goals
  pub published : r.number ≡ 0 → PublishedBytes t goals d
  pub only : r.number ≡ 0 → (step_at d 0).rule ≡ 71 → (u others v : List ℕ) → check u others v d ≡ fine → goals ≡ others
  pub ours : (v : Version) (rs : List Node) → asked t goals 0 0 (length w) ≡ answer rs → answer_of (search_of rs goals) ≡ impossible
      → length (encode_steps v (derivation_of v rs goals)) ≤ 33554432 → d ≡ encode_steps v (derivation_of v rs goals) → r.number ≡ 0

-- the wishes met, the bound and the questions put
abbrev pub wishes_answer : Outcome Grant → BevWished
wishes_answer (answer g) = record { number = 0; place = 0; met = g.met; bound = g.bound; questions = g.questions }
wishes_answer (refused n p) = record { number = n; place = p; met = 0; bound = 0; questions = 0 }

-- wishes for a host: its numbers, the settings bytes, a work area that a refusal up to 23 leaves as it was, and what the answer means: for
-- every way of filling the settings' 2s all goals are true and `met` wishes, no setting that makes all goals true makes more than `bound`
-- wishes true, the questions put do not exceed the allowance, which is spent where `met` is below `bound`, and none of them was put when
-- both were equal; a larger allowance never lowers `met` or raises `bound`, and 2 ^ wishes - 1 questions are enough for both to be equal.
-- Behind these rows 67 is said exactly when no setting makes all goals true
pub record HostWishes (t goals wishes : List ℕ) (m : ℕ) (s w s' w' : List ℕ) (r : BevWished) : Type 0 where
  pub answered : r ≡ wishes_answer (grant t goals wishes m s w >>= λ d. answer (grant_of d.wished))
  pub settings : s' ≡ granted_after s (grant t goals wishes m s w)
  pub work : (number place : ℕ) → wishes_asked t goals wishes (length s) (length w) ≡ refused number place → w' ≡ w
  pub alone : (rs : List Node) → wishes_asked t goals wishes (length s) (length w) ≡ answer rs → (r.number ≡ 67) ⇔ Unsatisfiable t goals
  pub met : r.number ≡ 0 → (rs : List Node) → decode t ≡ answer rs → (f : List ℕ) → Fills s' f
      → All (λ l. truth f rs l ≡ true) goals × (r.met ≤ count (truth f rs) wishes)
  pub bound : r.number ≡ 0 → (rs : List Node) → decode t ≡ answer rs → (v : List ℕ) → All (λ l. truth v rs l ≡ true) goals
      → count (truth v rs) wishes ≤ r.bound
  pub within : r.number ≡ 0 → r.questions ≤ m
  pub stopped : r.number ≡ 0 → (r.met ≡ r.bound) ⊎ (r.questions ≡ m)
  pub sooner : r.number ≡ 0 → (l : ℕ) → l < r.questions
      → (h : Granted) × (grant t goals wishes l s w ≡ answer h) × ((h.wished.questions ≡ l) × (h.wished.k < h.wished.u))
  pub larger : r.number ≡ 0 → (l : ℕ) → m ≤ l
      → (h : Granted) × (grant t goals wishes l s w ≡ answer h) × ((r.met ≤ h.wished.k) × (h.wished.u ≤ r.bound))
  pub enough : r.number ≡ 0 → 2 ^ length wishes ≤ suc m → r.met ≡ r.bound

abbrev pub version_number : Version → ℕ
version_number One = 1
version_number Two = 2

abbrev pub open_answer : Version → Outcome ℕ → BevOpened
open_answer v (answer n) = record { number = 0; place = 0; steps = n; version = version_number v }
open_answer v (refused n p) = record { number = n; place = p; steps = 0; version = 0 }

-- a step, or that none is left
abbrev pub step_answer : Outcome Next → BevStep
step_answer (answer (one s)) = record { number = 0; place = 0; left = 1; rule = s.rule; position = s.position; value = s.value }
step_answer (answer none) = record { number = 0; place = 0; left = 0; rule = 0; position = 0; value = 0 }
step_answer (refused n p) = record { number = n; place = p; left = 0; rule = 0; position = 0; value = 0 }

-- no setting, of 0 and 1, makes the file true
abbrev pub Unmet : File → Type 0
Unmet f = (v : List ℕ) → NoTwo v → settings_test v ≡ fine → clauses_true v f.clauses ≡ true → ⊥

-- the DIMACS reader for a host: the goal literal and the used length; the table's bytes; 60 and 61 change no byte, and after 51 or 52
-- the buffer is free; with number 0 the table reads, 'The goal's truth equals the file's under every setting', and so decide calls the
-- goal impossible exactly when no setting makes the file true
pub record HostReads (text buf : List ℕ) (r : BevAdded) (after : List ℕ) : Type 0 where
  pub answered : r ≡ add_answer (dimacs text buf)
  pub bytes : (x : Added) → dimacs text buf ≡ answer x → after ≡ x.bytes
  pub kept : (number place : ℕ) → file_of text ≡ refused number place → after ≡ buf
  pub means : r.number ≡ 0 → (f : File) × (file_of text ≡ answer f) × Means f r.literal r.used after
  pub exact : r.number ≡ 0 → (f : File) → file_of text ≡ answer f → (s w : List ℕ) (d : Decided) → decide (take r.used after) (r.literal ∷ []) s w ≡ answer d
      → (d.verdict ≡ impossible) ⇔ Unmet f
