-- What a host is told of decide, clash, wishes, overview, derive, check and the DIMACS reader, whatever case the answer is. Assumes nothing.
use mathlib.Core.Path.{◌≡◌, ◌∙◌, ap, sym, refl}
use mathlib.Core.Bool.{true}
use mathlib.Core.List.{List, [], ◌∷◌}
use mathlib.Core.Logic.{inl, inr}
use Prim.Native.Nat.{ℕ, ◌*◌, ◌<◌}
use native.Mathlib.Omega.{arith}
use Rattle.std.proofs.Common.{Result, Ok, Err}
use lib.Dec.{ltb}
use lib.ListN.{length, get_or, take}
use borrow.Author.Tests.{lt-ltb, eq-eqb, ne_eqb}
use Rattle.scope.specs.declared.Node.{Node}
use Rattle.scope.specs.declared.Refusal.{Refusal}
use Rattle.scope.specs.declared.Truth.TheVariants.{Yes}
use Rattle.scope.specs.Outcome.{Outcome, answer, refused, require, ◌>>=◌}
use Rattle.scope.specs.Table.{decode}
use Rattle.scope.specs.Truth.{truth}
use Rattle.scope.specs.Kleene.{sure, Fills}
use Rattle.scope.specs.Calls.{settings_test, evaluate}
use Rattle.scope.proofs.Tests.{refused_no, bound, then_first, then_next}
use Rattle.codec.specs.Valid.{Bytes}
use Rattle.codec.proofs.Bytes.{bytes_take}
use Rattle.std.specs.Result.{IsErrAnd}
use Rattle.calculus.specs.Model.{All}
use Rattle.calculus.specs.Order.{Answer}
use Rattle.calculus.specs.Decide.{asked, settings_after, decide, Satisfies, Unsatisfiable, ◌⇔◌}
use Rattle.truth.proofs.Says.{two_valued}
use Rattle.asking.proofs.Models.{points_of, evaluated_filled}
use Rattle.meaning.proofs.Decisions.{decide_exact}
use Rattle.meaning.proofs.Numbers.{decide-numbered, derive-numbered, check-numbered}
use Rattle.deciding.specs.declared.Decision.{Decision}
use Rattle.deciding.specs.declared.Decision.TheVariants.{Possible, Impossible}
use Rattle.deciding.specs.Decides.{can, cannot, word_of, Said, said_of, decided_of, Decides}
use Rattle.clashing.specs.declared.Clashed.{Clashed}
use Rattle.clashing.specs.Clash.{clash}
use Rattle.clashing.specs.Clashes.{clashed_of, Clashing, Clashes}
use Rattle.clashing.proofs.Answers.{clash-numbered}
use Rattle.wishing.specs.Call.{grant}
use Rattle.wishing.proofs.Calls.{only_alone}
use Rattle.wishing.proofs.Numbers.{grant-numbered}
use Rattle.granting.specs.declared.Grant.{Grant}
use Rattle.adding.specs.declared.Mark.{Mark}
use Rattle.wishes.specs.Wishes.{wished_of, grant_of, Wishes}
use Rattle.overview.specs.Overview.{overview}
use Rattle.overview.specs.Overviews.{Told, Overviews}
use Rattle.overview.proofs.Answers.{overview-numbered}
use Rattle.rules.specs.Derive.{derive}
use Rattle.rules.specs.declared.Version.{Version}
use Rattle.rules.specs.declared.Version.TheVariants.{One, Two}
use Rattle.deriver.specs.Derives.{derived_of, Derives}
use Rattle.checking.specs.Checks.{checked_of, Checks}
use Rattle.adding.specs.Added.{added_of}
use Rattle.cnf.specs.Text.{File, file_of}
use Rattle.cnf.specs.Reader.{Means, Turns}
use Rattle.cnfread.specs.Reads.{Reads}
use Rattle.bevaridhom.specs.declared.BevOpened.{BevOpened}
use Rattle.bevaridhom.specs.Answers.{word_bit, version_asked, version_number, open_answer, decide_answer, HostPlain, HostDecides, clash_answer, clash_told, HostClashes, overview_answer, overview_told, HostOverviews, derive_answer, HostDerives, check_answer, HostChecks, wishes_answer, HostWishes, mark_answer, Unmet, HostReads}

-- a refusal of what is made of an answer is the answer's
of_refused : {A B : Type 0} (x : Outcome A) (f : A → B) {number place : ℕ} → refused number place ≡ (x >>= λ a. answer (f a)) → x ≡ refused number place
of_refused (answer a) f e = refused_no e
of_refused (refused m p) f e = cc

-- ---- decide

module _ (t goals s w s' w' : List ℕ) where
  -- of the definition, a refusal is one of the answer
  decide_refused : (f : Refusal) → Decides t goals s w s' w' (Err f) → decide t goals s w ≡ refused f.number f.place
  decide_refused f h = of_refused (decide t goals s w) said_of h.answered

  decide-kept : (d : Result Decision Refusal) → Decides t goals s w s' w' d → (number place : ℕ) → decide t goals s w ≡ refused number place → w' ≡ w
  decide-kept (Ok (Possible n)) h number place e = refused_no (sym (h.answered ∙ ap (◌>>= λ d. answer (said_of d)) e))
  decide-kept (Ok (Impossible n)) h number place e = refused_no (sym (h.answered ∙ ap (◌>>= λ d. answer (said_of d)) e))
  decide-kept (Err f) h number place e = h.work f refl

  exact_by : (d : Result Decision Refusal) → Decides t goals s w s' w' d → (decide_answer (decided_of d)).number ≡ 0 → ((decide_answer (decided_of d)).possible ≡ 0) ⇔ Unsatisfiable t goals
  exact_by (Ok (Possible n)) h z =
      (λ e. absurd (omega arith), λ none. absurd (let q : can ≡ cannot = (h.exact _ refl).1 none in let y : ◌≡◌ {A = ℕ} 0 1 = cc in omega arith))
  exact_by (Ok (Impossible n)) h z = (λ e. (h.exact _ refl).0 refl, λ none. refl)
  exact_by (Err f) h z = absurd (omega (arith, (decide-numbered t goals s w).positive f.number f.place (decide_refused f h)))

  satisfied_by : (d : Result Decision Refusal) → Decides t goals s w s' w' d → (decide_answer (decided_of d)).possible ≡ 1 → All (λ g. evaluate t g s' ≡ answer Yes) goals
  satisfied_by (Ok (Possible n)) h e = h.satisfied n refl
  satisfied_by (Ok (Impossible n)) h e = absurd (omega arith)
  satisfied_by (Err f) h e = absurd (omega arith)

  filled_by : (d : Result Decision Refusal) → Decides t goals s w s' w' d → (decide_answer (decided_of d)).possible ≡ 1
      → (rs : List Node) → decode t ≡ answer rs → (f : List ℕ) → Fills s' f → All (λ g. truth f rs g ≡ true) goals
  filled_by (Ok (Possible n)) h e = h.filled n refl
  filled_by (Ok (Impossible n)) h e = absurd (omega arith)
  filled_by (Err f) h e = absurd (omega arith)

  -- what was said is what the plain order says
  plain-said : {x : Said} (d : Result Decision Refusal) → Decides t goals s w s' w' d → decided_of d ≡ answer x
      → (rs : List Node) × (decode t ≡ answer rs) × HostPlain rs goals s s' (decide_answer (answer x))
  plain-said {x} d h e =
      let b = bound (decide t goals s w) (λ d. answer (said_of d)) (sym h.answered ∙ e) in
      let z : answer (said_of b.0) ≡ answer x = b.2 in
      let y : said_of b.0 ≡ x = cc in
      let q = h.plain b.0 b.1 in (
        q.0,
        q.1,
        record {
          verdict = ap (λ (a : Said). word_bit a.word) (sym y) ∙ ap (λ (a : Answer). word_bit (word_of a)) q.2.verdict;
          settings = h.settings ∙ ap (settings_after s) b.1 ∙ q.2.settings;
          splits = omega (arith, ap (λ (a : Said). a.splits) y, q.2.splits);
        },
      )

  plain_by : (d : Result Decision Refusal) → Decides t goals s w s' w' d → (decide_answer (decided_of d)).number ≡ 0
      → (rs : List Node) × (decode t ≡ answer rs) × HostPlain rs goals s s' (decide_answer (decided_of d))
  plain_by (Ok (Possible n)) h z = plain-said (Ok (Possible n)) h refl
  plain_by (Ok (Impossible n)) h z = plain-said (Ok (Impossible n)) h refl
  plain_by (Err f) h z = absurd (omega (arith, (decide-numbered t goals s w).positive f.number f.place (decide_refused f h)))

  pub told : (d : Result Decision Refusal) {d' : Result Decision Refusal} → Decides t goals s w s' w' d → d ≡ d' → HostDecides t goals s w s' w' (decide_answer (decided_of d'))
  told d {d'} k e =
      let h : Decides t goals s w s' w' d' = rw e at k in
      record {
        answered = ap decide_answer h.answered;
        settings = h.settings;
        work = decide-kept d' h;
        plain = plain_by d' h;
        exact = exact_by d' h;
        satisfied = satisfied_by d' h;
        filled = filled_by d' h;
      }

-- ---- clash

clash_same : (o : Outcome (List ℕ)) → clash_told (clashed_of o) ≡ clash_answer o
clash_same (answer is) = refl
clash_same (refused number place) = refl

of_clashed : (o : Outcome (List ℕ)) {f : Refusal} → Err f ≡ clashed_of o → o ≡ refused f.number f.place
of_clashed (answer is) e = absurd cc
of_clashed (refused number place) e = cc

module _ (t goals w w' : List ℕ) where
  kept_by : (r : Result Clashed Refusal) → Clashes t goals w w' r → (clash_told r).number ≡ 0 → Clashing t goals (take (clash_told r).count (clash_told r).kept)
  kept_by (Ok k) h e = h.kept k refl
  kept_by (Err f) h e = absurd (omega (arith, (clash-numbered t goals w).positive f.number f.place (of_clashed (clash t goals w) h.answered)))

  sixty-three : (r : Result Clashed Refusal) → IsErrAnd r (λ f. f.number ≡ 63) ⇔ ((clash_told r).number ≡ 63)
  sixty-three (Ok k) = (λ e. absurd e, λ e. absurd (omega arith))
  sixty-three (Err f) = (λ e. e, λ e. e)

  pub told-clash : (r : Result Clashed Refusal) {r' : Result Clashed Refusal} → Clashes t goals w w' r → r ≡ r' → HostClashes t goals w w' (clash_told r')
  told-clash r {r'} k e =
      let h : Clashes t goals w w' r' = rw e at k in
      record {
        answered = ap clash_told h.answered ∙ clash_same (clash t goals w);
        work = h.work;
        kept = kept_by r' h;
        exact = λ rs a. let x = h.exact rs a in let y = sixty-three r' in (λ n. x.0 (y.1 n), λ m. y.0 (x.1 m));
      }

-- ---- wishes

module _ (t goals wishes : List ℕ) (m : ℕ) (s w s' w' : List ℕ) where
  wishes_refused : (f : Refusal) → Wishes t goals wishes m s w s' w' (Err f) → grant t goals wishes m s w ≡ refused f.number f.place
  wishes_refused f h = of_refused (grant t goals wishes m s w) (λ d. grant_of d.wished) h.answered

  -- no refusal has the number 0
  not-zero : {A : Type 0} (f : Refusal) → Wishes t goals wishes m s w s' w' (Err f) → f.number ≡ 0 → A
  not-zero f h z = absurd (omega (arith, (grant-numbered t goals wishes m s w).positive f.number f.place (wishes_refused f h)))

  tells : (r : Result Grant Refusal) → Wishes t goals wishes m s w s' w' r → HostWishes t goals wishes m s w s' w' (wishes_answer (wished_of r))
  tells (Ok g) h = record {
    answered = ap wishes_answer h.answered;
    settings = h.settings;
    work = h.work;
    alone = λ rs a. (λ e. absurd (omega arith), λ none. refused_no (sym ((h.alone rs a).1 none)));
    met = λ z. h.met g refl;
    bound = λ z. h.bound g refl;
    within = λ z. h.within g refl;
    stopped = λ z. h.stopped g refl;
    sooner = λ z. h.sooner g refl;
    larger = λ z. h.larger g refl;
    enough = λ z. h.enough g refl;
  }
  tells (Err f) h = record {
    answered = ap wishes_answer h.answered;
    settings = h.settings;
    work = h.work;
    alone = λ rs a. (
      λ e. let o = only_alone t goals wishes s w m rs a (wishes_refused f h) in (h.alone rs a).0 (rw (o.0, o.1)),
      λ none. let z : wished_of (Err f) ≡ refused 67 0 = (h.alone rs a).1 none in cc,
    );
    met = not-zero f h;
    bound = not-zero f h;
    within = not-zero f h;
    stopped = not-zero f h;
    sooner = not-zero f h;
    larger = not-zero f h;
    enough = not-zero f h;
  }

  pub told_wishes : (r : Result Grant Refusal) {r' : Result Grant Refusal} → Wishes t goals wishes m s w s' w' r → r ≡ r' → HostWishes t goals wishes m s w s' w' (wishes_answer (wished_of r'))
  told_wishes r h e = tells _ (rw e at h)

-- ---- overview

module _ (t goals b w b' w' : List ℕ) where
  overview_refused : (f : Refusal) → Overviews t goals b w b' w' (Err f) → overview t goals b w ≡ refused f.number f.place
  overview_refused f h = of_refused (overview t goals b w) (λ after. tt) h.answered

  answered-by : (v : Result (Unit {0}) Refusal) → Overviews t goals b w b' w' v → overview_told v ≡ overview_answer (overview t goals b w)
  answered-by (Ok tt) h =
      let x = bound (overview t goals b w) (λ after. answer tt) (sym h.answered) in
      rw x.1
  answered-by (Err f) h = rw (overview_refused f h)

  overview-kept : (v : Result (Unit {0}) Refusal) → Overviews t goals b w b' w' v → (number place : ℕ) → overview t goals b w ≡ refused number place → w' ≡ w
  overview-kept (Ok tt) h number place e = refused_no (sym (h.answered ∙ ap (◌>>= λ after. answer tt) e))
  overview-kept (Err f) h number place e = h.work f refl

  each_by : (v : Result (Unit {0}) Refusal) → Overviews t goals b w b' w' v → (overview_told v).number ≡ 0 → (i : ℕ) → i < length goals → Told t w (get_or goals i 0) (get_or b' i 0)
  each_by (Ok tt) h e = h.each refl
  each_by (Err f) h e = absurd (omega (arith, (overview-numbered t goals b w).positive f.number f.place (overview_refused f h)))

  pub told-overview : (v : Result (Unit {0}) Refusal) {v' : Result (Unit {0}) Refusal} → Overviews t goals b w b' w' v → v ≡ v' → HostOverviews t goals b w b' w' (overview_told v')
  told-overview v {v'} k e =
      let h : Overviews t goals b w b' w' v' = rw e at k in
      record { answered = answered-by v' h; bytes = h.bytes; work = overview-kept v' h; each = each_by v' h }

-- ---- the version that a byte asks for

pub asked-one : (n : ℕ) → n ≡ 0 → One ≡ version_asked n
asked-one n e = sym (rw (eq-eqb n 0 e))

pub asked-two : (n : ℕ) → (n ≡ 0 → ⊥) → Two ≡ version_asked n
asked-two n e = sym (rw (ne_eqb n 0 e))

-- ---- derive

-- of the version that was asked for
pub derives_asked : {v u : Version} {t goals w d w' d' : List ℕ} {r : Result ℕ Refusal} → v ≡ u → Derives v t goals w d w' d' r → Derives u t goals w d w' d' r
derives_asked e h = rw e at h

module _ (v : Version) (t goals w d w' d' : List ℕ) where
  -- number 0 is that of a step count
  by_steps : {P : ℕ → Type 0} (r : Result ℕ Refusal) → Derives v t goals w d w' d' r → ((k : ℕ) → r ≡ Ok k → P k)
      → (derive_answer (derived_of r)).number ≡ 0 → P (derive_answer (derived_of r)).steps
  by_steps (Ok k) h p e = p k refl
  by_steps (Err f) h p e =
      absurd (omega (arith, (derive-numbered v t goals w d).positive f.number f.place (of_refused (derive v t goals w d) (λ x. x.steps) h.answered)))

  complete_by : (r : Result ℕ Refusal) → Derives v t goals w d w' d' r → (derive_answer (derived_of r)).number ≡ 30
      → (rs : List Node) → asked t goals 0 0 (length w) ≡ answer rs → (v : List ℕ) × Satisfies t goals v
  complete_by (Ok k) h e = absurd (omega arith)
  complete_by (Err f) h e =
      let number : f.number ≡ 30 = omega arith in
      h.complete f.place (rw number)

  pub told-derive : (r : Result ℕ Refusal) {r' : Result ℕ Refusal} → Derives v t goals w d w' d' r → r ≡ r' → HostDerives v t goals w d w' d' (derive_answer (derived_of r'))
  told-derive r {r'} k e =
      let h : Derives v t goals w d w' d' r' = rw e at k in
      record {
        answered = ap derive_answer h.answered;
        bytes = h.bytes;
        work = h.work;
        never = by_steps r' h h.never;
        accepted = by_steps r' h h.accepted;
        published = by_steps r' h h.published;
        complete = complete_by r' h;
      }

-- ---- open

pub open_found : (v : Version) {o : Outcome ℕ} {n u : ℕ} → u ≡ version_number v → o ≡ answer n
    → ◌≡◌ {A = BevOpened} (record { number = 0; place = 0; steps = n; version = u }) (open_answer v o)
open_found v {n = n} e q = ap (λ (m : ℕ). record { number = 0; place = 0; steps = n; version = m }) e ∙ sym (rw q)

-- ---- check

module _ (t goals w d w' : List ℕ) where
  -- number 0 is that of an accepted derivation
  by_accepted : (r : Result (Unit {0}) Refusal) → Checks t goals w d w' r → (check_answer (checked_of r)).number ≡ 0 → r ≡ Ok tt
  by_accepted (Ok tt) h e = refl
  by_accepted (Err f) h e = absurd (omega (arith, (check-numbered t goals w d).positive f.number f.place (sym h.answered)))

  pub told-check : (r : Result (Unit {0}) Refusal) {r' : Result (Unit {0}) Refusal} → Checks t goals w d w' r → r ≡ r' → HostChecks t goals w d w' (check_answer (checked_of r'))
  told-check r {r'} k e =
      let h : Checks t goals w d w' r' = rw e at k in
      record {
        answered = ap check_answer h.answered;
        work = h.work;
        never = λ z. h.never (by_accepted r' h z);
        published = λ z. h.published (by_accepted r' h z);
        only = λ z. h.only (by_accepted r' h z);
        ours = λ v rs a q l s. ap (λ (y : Result (Unit {0}) Refusal). (check_answer (checked_of y)).number) (h.ours v rs a q l s);
      }

-- ---- the DIMACS reader

-- a table whose goal means the file: no setting makes the one true exactly when none makes the other
module _ (f : File) (goal used : ℕ) (after : List ℕ) (all : Bytes (take used after)) (m : Means f goal used after) where
  unmet : Unsatisfiable (take used after) (goal ∷ []) ⇔ Unmet f
  unfolding evaluate
  unmet = (
    λ none v two test e.
        let sure-of = two_valued v m.nodes goal two (points_of (take used after) m.nodes all m.readable) in
        none v (two, (rw (m.readable, lt-ltb goal (2 * length m.nodes) m.inside, test) (ap answer (sure-of ∙ ap sure (m.truths v ∙ e))), tt)),
    λ none v e.
        let a = then_next (require (ltb goal (2 * length m.nodes)) 20 0) _ (rw m.readable at e.1.0) in
        let q = evaluated_filled (take used after) m.nodes all m.readable goal v true e.1.0 v (λ p h k. refl) in
        none v e.0 (then_first (settings_test v) _ a) (sym (m.truths v) ∙ q),
  )

same_file : (text : List ℕ) (f g : File) → file_of text ≡ answer f → file_of text ≡ answer g → f ≡ g
same_file text f g p q = cc

positive : (number : ℕ) → Turns number → 0 < number
positive number (inl (inl e)) = omega arith
positive number (inl (inr e)) = omega arith
positive number (inr (inl e)) = omega arith
positive number (inr (inr e)) = omega arith

module _ (text buf after : List ℕ) (all : Bytes after) where
  means_by : (v : Result Mark Refusal) → Reads text buf v after → (mark_answer (added_of v)).number ≡ 0
      → (f : File) × (file_of text ≡ answer f) × Means f (mark_answer (added_of v)).literal (mark_answer (added_of v)).used after
  means_by (Ok m) h e = h.means m refl
  means_by (Err r) h e = absurd (omega (arith, positive r.number (h.turns r refl)))

  pub told-read : (v : Result Mark Refusal) {v' : Result Mark Refusal} → Reads text buf v after → v ≡ v' → HostReads text buf (mark_answer (added_of v')) after
  told-read v {v'} k e =
      let h : Reads text buf v' after = rw e at k in
      let a = mark_answer (added_of v') in
      record {
        answered = ap mark_answer h.answered;
        bytes = h.bytes;
        kept = h.kept;
        means = means_by v' h;
        exact = λ z f q s w d y.
            let b = means_by v' h z in
            let u = unmet b.0 a.literal a.used after (bytes_take a.used after all) b.2 in
            let x = decide_exact (take a.used after) (a.literal ∷ []) s w (bytes_take a.used after all) y in
            let g : b.0 ≡ f = same_file text b.0 f b.1 q in
            rw (← g) (λ c. u.0 (x.0 c), λ none. x.1 (u.1 none));
      }
