-- Where the call ends: at the first row's refusal, or with what the questions came to. Assumes nothing.
use mathlib.Core.Path.{◌≡◌, refl, sym, ap, ◌∙◌}
use mathlib.Core.List.{List, ◌++◌}
use Rattle.std.specs.Prelude.{Result, Err}
use Prim.Native.Nat.{ℕ, ◌*◌, ◌<◌}
use native.Mathlib.Omega.{arith}
use lib.ListN.{length, take, drop}
use Rattle.scope.specs.declared.Refusal.{Refusal}
use Rattle.scope.specs.Outcome.{Outcome, answer, refused, ◌>>=◌}
use Rattle.scope.specs.Table.{list_from}
use Rattle.scope.proofs.Tests.{refused_no, bound}
use Rattle.codec.specs.Valid.{Bytes}
use Rattle.calculus.specs.Order.{Answer, possible, impossible, unfinished, answer_of, setting_of}
use Rattle.calculus.specs.Model.{All, question_size, Below}
use Rattle.calculus.specs.Agree.{Alike}
use Rattle.calculus.specs.Decide.{nodes_of, ◌⇔◌}
use Rattle.calculus.proofs.Lists.{all_append, all_left, all_right, all_imply}
use Rattle.index.specs.Index.{index_node}
use Rattle.asking.specs.Within.{Reached}
use Rattle.asking.proofs.Nodes.{searches_within, settings_within}
use Rattle.deciding.specs.Decides.{Room}
use Rattle.granting.specs.declared.Grant.{Grant}
use Rattle.questions.specs.Indices.{picked}
use Rattle.questions.specs.Asking.{asks, answered}
use Rattle.questions.proofs.Indices.{rising_below, picked_all}
use Rattle.wishing.specs.Wish.{queries, Wished, question, wished}
use Rattle.wishing.specs.Call.{lists_row, wishes_asked, Granted, grant, granted_after}
use Rattle.wishing.proofs.Spends.{Query, queries_fit, spend_same, stands}
use Rattle.wishing.proofs.Calls.{made, none-granted, answers, within, stopped, not_sooner, larger, enough, wishes-met, wishes-most}
use Rattle.wishes.specs.Wishes.{wished_of, grant_of, settings_by, Posed, Answered, Wishes}
use Rattle.wishes.proofs.Lists.{rows_met}

-- ---- the contract, where its first three fields hold

module _ (t goals wishes : List ℕ) (m : ℕ) (s w : List ℕ) (all : Bytes t) (r : Result Grant Refusal) {s' : List ℕ}
    (said : wished_of r ≡ (grant t goals wishes m s w >>= λ d. answer (grant_of d.wished))) (bytes : s' ≡ granted_after s (grant t goals wishes m s w)) where
  -- what was granted is what the definition grants
  granted_as : {g : Grant} → wished_of r ≡ answer g → (d : Granted) × (grant t goals wishes m s w ≡ answer d) × (grant_of d.wished ≡ g)
  granted_as q =
      let b = bound (grant t goals wishes m s w) (λ d. answer (grant_of d.wished)) (sym said ∙ q) in
      (b.0, b.1, cc)

  -- .. and so is a refusal
  refused_as : {number place : ℕ} → (wished_of r ≡ refused number place) ⇔ (grant t goals wishes m s w ≡ refused number place)
  refused_as {number} {place} = (λ q. go (grant t goals wishes m s w) (sym said ∙ q), λ q. said ∙ rw q)
    where
      go : (o : Outcome Granted) → (o >>= λ d. answer (grant_of d.wished)) ≡ refused number place → o ≡ refused number place
      go (answer d) e = refused_no (sym e)
      go (refused a b) e = cc

  pub wishes_told : {w' : List ℕ} → ((number place : ℕ) → wishes_asked t goals wishes (length s) (length w) ≡ refused number place → w' ≡ w)
      → Wishes t goals wishes m s w s' w' r
  wishes_told kept = record {
    answered = said;
    settings = bytes;
    work = kept;
    alone = λ rs a.
        let n = none-granted t goals wishes s w all rs a m in
        (λ q. n.0 (refused_as.0 q), λ none. refused_as.1 (n.1 none));
    met = λ g q rs e f h.
        let b = granted_as q in
        rw (← b.2) (wishes-met t goals wishes s w (answers t goals wishes s w b.1) all rs e f (rw (bytes ∙ ap (granted_after s) b.1) at h));
    bound = λ g q rs e v h. let b = granted_as q in rw (← b.2) (wishes-most t goals wishes s w (answers t goals wishes s w b.1) all rs e v h);
    within = λ g q. let b = granted_as q in rw (← b.2) (within t goals wishes s w (answers t goals wishes s w b.1));
    stopped = λ g q. let b = granted_as q in rw (← b.2) (stopped t goals wishes s w (answers t goals wishes s w b.1));
    sooner = λ g q l h. let b = granted_as q in not_sooner t goals wishes s w (answers t goals wishes s w b.1) l (rw (← b.2) at h);
    larger = λ g q l h. let b = granted_as q in rw (← b.2) (larger t goals wishes s w (answers t goals wishes s w b.1) l h);
    enough = λ g q h. let b = granted_as q in rw (← b.2) (enough t goals wishes s w (answers t goals wishes s w b.1) h);
  }

-- ---- where the call ends

module _ (t goals wishes : List ℕ) (m : ℕ) (s w : List ℕ) (all : Bytes t) where
  pub refuses : (f : Refusal) → wishes_asked t goals wishes (length s) (length w) ≡ refused f.number f.place → Wishes t goals wishes m s w s w (Err f)
  unfolding grant
  refuses f q = wishes_told t goals wishes m s w all (Err f) (rw q) (rw q) (λ number place e. refl)

  module _ {x : List ℕ} {n : ℕ} (p : Reached (lists_row goals wishes) t (goals ++ wishes) 1024 (length s) (length w) x n) where
    pub roomy : Room x n s w
    roomy = record { points = p.points; settings = p.admitted.settings; work = p.admitted.work }

    pub posed : (list : List ℕ) → length list ≡ question_size → take (length goals) list ≡ goals → Posed n goals wishes list
    posed list size e =
        let few = rows_met goals wishes p.admitted.list in
        record {
          size = size;
          first = e;
          goals_fit = record { most = omega (arith, few.0); below = all_left (λ l. l < 2 * n) goals wishes p.below };
          wishes_fit = all_right (λ l. l < 2 * n) goals wishes p.below;
          few = few.1;
          room = omega (arith, few.0, few.1);
        }

    -- both tables have a literal's node
    abbrev Both : ℕ → Type 0
    Both = Alike (index_node x) (nodes_of p.nodes)

    abbrev all-queries : List (List ℕ)
    all-queries = queries (length wishes) (length wishes)

    -- the literals of each question are goals and wishes
    each : (P : ℕ → Type 0) → All P (goals ++ wishes) → (q : List ℕ) → Query (length wishes) (length wishes) q → All P (goals ++ picked wishes q)
    each P a q r =
        all_append P goals (picked wishes q) (all_left P goals wishes a)
        (picked_all P wishes q (all_right P goals wishes a) (rising_below 0 (length wishes) q r.rising))

    -- what lists of goals and wishes have, the questions have
    asked : (P : List ℕ → Type 0) → ((ls : List ℕ) → Below n ls → All Both ls → P ls) → All (λ q. P (goals ++ picked wishes q)) all-queries
    asked P f =
        all_imply (Query (length wishes) (length wishes)) (λ q. P (goals ++ picked wishes q))
        (λ q r. f (goals ++ picked wishes q) (each (λ l. l < 2 * n) p.below q r) (each Both p.alike q r)) all-queries (queries_fit (length wishes) (length wishes))

    alone : (P : List ℕ → Type 0) → ((ls : List ℕ) → Below n ls → All Both ls → P ls) → P goals
    alone P f = f goals (all_left (λ l. l < 2 * n) goals wishes p.below) (all_left Both goals wishes p.alike)

    -- each question over the index is that over the nodes
    abbrev Same : List ℕ → Type 0
    Same ls = asks (index_node x) n ls ≡ answered p.nodes ls

    same : (ls : List ℕ) → Below n ls → All Both ls → Same ls
    same ls b a = ap answer_of (searches_within p ls b a)

    wished-in : wished (asks (index_node x) n) goals wishes m (asks (index_node x) n goals) ≡ wished (answered p.nodes) goals wishes m (answered p.nodes goals)
    wished-in = rw (alone Same same) (go (answered p.nodes goals))
      where
        go : (a : Answer) → wished (asks (index_node x) n) goals wishes m a ≡ wished (answered p.nodes) goals wishes m a
        go (possible G) =
            ap answer
            (spend_same (question (asks (index_node x) n) goals wishes) (question (answered p.nodes) goals wishes) G m all-queries (asked Same same))
        go impossible = refl
        go unfinished = refl

    -- .. and so is the setting of what stands
    abbrev Sets : List ℕ → Type 0
    Sets G = setting_of (list_from (index_node x) 0 n) G ≡ setting_of p.nodes G

    abbrev Ends : List ℕ → Type 0
    Ends ls = (G : List ℕ) → asks (index_node x) n ls ≡ possible G → Sets G

    sets : (ls : List ℕ) → Below n ls → All Both ls → Ends ls
    sets ls b a G e = settings_within p ls b a e

    set_in : (a : Answer) → asks (index_node x) n goals ≡ a
        → settings_by (list_from (index_node x) 0 n) s (wished (asks (index_node x) n) goals wishes m a) ≡ settings_by p.nodes s (wished (asks (index_node x) n) goals wishes m a)
    set_in (possible G) e =
        ap (◌++ drop 1024 s)
        (stands (question (asks (index_node x) n) goals wishes) G (λ F size. Sets F) (alone Ends sets G e) all-queries (asked Ends sets) m)
    set_in impossible e = refl
    set_in unfinished e = refl

    pub ends : {s' w' : List ℕ} (r : Result Grant Refusal) → Answered x n goals wishes m s s' r → Wishes t goals wishes m s w s' w' r
    unfolding grant
    ends {s'} r h =
        wishes_told t goals wishes m s w all r
        (h.answered ∙ rw (wished-in, p.answered) (numbers (wished (answered p.nodes) goals wishes m (answered p.nodes goals))))
        (h.settings ∙ set_in (asks (index_node x) n goals) refl ∙ rw (wished-in, p.answered) (written (wished (answered p.nodes) goals wishes m (answered p.nodes goals))))
        (λ number place e. refused_no (sym e ∙ p.answered))
      where
        numbers : (o : Outcome Wished) → (o >>= λ d. answer (grant_of d)) ≡ ((o >>= made t goals wishes s w p.nodes) >>= λ d. answer (grant_of d.wished))
        numbers (answer d) = refl
        numbers (refused number place) = refl

        written : (o : Outcome Wished) → settings_by p.nodes s o ≡ granted_after s (o >>= made t goals wishes s w p.nodes)
        written (answer d) = refl
        written (refused number place) = refl
