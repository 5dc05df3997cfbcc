-- A clause under way: word by word up to its 0. Assumes nothing.
use mathlib.Core.Path.{◌≡◌, ◌∙◌, ap, sym, refl, subst}
use mathlib.Core.List.{List, [], ◌∷◌, ◌++◌}
use mathlib.Core.Bool.{Bool, true, false, not, or-true, or-false}
use Prim.Native.Nat.{ℕ, ◌<◌, ◌≤◌}
use native.Mathlib.Omega.{arith}
use lib.ListN.{length, get_or, take, drop}
use Rattle.std.specs.Prelude.{Some, None, Ok, Err}
use Rattle.scope.specs.declared.Refusal.{Refusal}
use Rattle.scope.specs.Outcome.{refused}
use Rattle.cnf.specs.declared.Word.TheVariants.{Malformed, End, Literal}
use Rattle.cnf.specs.Text.{words, is_empty, clauses_from}
use Rattle.cnf.specs.Fold.{opposite, holds, kept, distinct_from, both_signs}
use Rattle.cnf.proofs.Clauses.{distinct_more, distinct_holds, both_more}
use Rattle.cnf.proofs.Texts.{word_literal}
use Rattle.cnfwords.specs.Words.{Next}
use Rattle.cnftext.proofs.Clauses.{clauses_done, clauses_open, clauses_bad, clauses_end, clauses_literal}
use Rattle.cnfread.specs.declared.Gathered.{Gathered}
use Rattle.cnfread.specs.Clauses.{mark, Kept, Keeps, body_at, ReadsClause, Gathers}
use Rattle.cnfread.proofs.Keeping.{mark_set, mark_clear}

-- at place i, c of the clause has been read
pub record Partly (vars : ℕ) (text : List ℕ) (at i : ℕ) (marks held : List ℕ) (count : ℕ) (both under : Bool) : Type 0 where
  pub c : List ℕ
  pub later : at ≤ i
  pub within : i ≤ length text
  pub keeps : Kept marks held count
  pub list : take count held ≡ distinct_from [] c
  pub both_is : both ≡ both_signs c
  pub open_is : is_empty c ≡ not under
  pub same : clauses_from vars c (words (drop i text)) ≡ body_at vars text at

pub partly_none : (vars : ℕ) (text : List ℕ) (at : ℕ) {marks held : List ℕ} → at ≤ length text → Kept marks held 0
    → Partly vars text at at marks held 0 false false
unfolding distinct_from both_signs
partly_none vars text at h k = record {
  c = [];
  later = omega arith;
  within = h;
  keeps = k;
  list = refl;
  both_is = refl;
  open_is = refl;
  same = refl;
}

-- a literal is of a variable
pub literal_low : {vars : ℕ} {text : List ℕ} {i l next : ℕ} → vars ≤ 1024 → Next vars text i (Literal l) next → l < 2048
literal_low {vars} few n = omega (arith, word_literal vars n.word n.says)

not-empty : (c : List ℕ) (l : ℕ) → is_empty (c ++ l ∷ []) ≡ false
not-empty [] l = refl
not-empty (x ∷ c) l = refl

module _ {vars : ℕ} {text : List ℕ} {at i : ℕ} {marks held : List ℕ} {count : ℕ} {both under : Bool} (u : Partly vars text at i marks held count both under) where
  -- a mark says whether the literal stands in the clause
  mark-is : (l : ℕ) → l < 2048 → get_or marks l 0 ≡ mark (holds l u.c)
  mark-is l h = u.keeps.marked l h ∙ ap mark (ap (holds l) u.list ∙ distinct_holds l u.c)

  -- both signs, with the literal l more, whose opposite is p
  module _ {l p : ℕ} (low : l < 2048) (o : p ≡ opposite l) where
    opposite-mark : get_or marks p 0 ≡ mark (holds (opposite l) u.c)
    opposite-mark = rw o (mark-is (opposite l) (omega arith))

    pub both_found : {both' : Bool} → (get_or marks p 0 ≡ 0 → ⊥) → both' ≡ true → both' ≡ both_signs (u.c ++ l ∷ [])
    both_found e q =
        q ∙ sym (both_more l u.c ∙ rw (mark_set (holds (opposite l) u.c) (λ z. e (opposite-mark ∙ z)), or-true))

    pub both-stays : {both' : Bool} → get_or marks p 0 ≡ 0 → both' ≡ both → both' ≡ both_signs (u.c ++ l ∷ [])
    both-stays e q =
        q ∙ u.both_is ∙ sym (both_more l u.c ∙ rw (mark_clear (holds (opposite l) u.c) (sym opposite-mark ∙ e), or-false))

  -- a literal joins
  pub partly_literal : {l next : ℕ} {marks' held' : List ℕ} {count' : ℕ} {both' : Bool} → Next vars text i (Literal l) next
      → Keeps held count l marks' held' count' → both' ≡ both_signs (u.c ++ l ∷ [])
      → Partly vars text at next marks' held' count' both' true
  partly_literal {l} n k b = record {
    c = u.c ++ l ∷ [];
    later = omega (arith, u.later, n.later);
    within = n.within;
    keeps = k.holds;
    list = k.list ∙ ap (λ (x : List ℕ). kept x l) u.list ∙ sym (distinct_more l u.c []);
    both_is = b;
    open_is = not-empty u.c l;
    same = sym (clauses_literal u.c n) ∙ u.same;
  }

  -- the body ends here, within a clause or not, or is malformed
  pub partly_done : words (drop i text) ≡ [] → under ≡ false → Gathers vars text at marks held (Ok None)
  partly_done e q = record {
    clause = λ g p. absurd (let z : ◌≡◌ {A = ℕ} 0 1 = cc in omega arith);
    ended = λ p. sym u.same ∙ clauses_done vars text i u.c e (u.open_is ∙ ap not q);
    bad = λ r p. absurd (let z : ◌≡◌ {A = ℕ} 0 1 = cc in omega arith);
  }

  refuses : {r : Refusal} → body_at vars text at ≡ refused 61 0 → Gathers vars text at marks held (Err r)
  refuses e = record {
    clause = λ g p. absurd (let z : ◌≡◌ {A = ℕ} 0 1 = cc in omega arith);
    ended = λ p. absurd (let z : ◌≡◌ {A = ℕ} 0 1 = cc in omega arith);
    bad = λ r p. e;
  }

  pub partly_open : {r : Refusal} → words (drop i text) ≡ [] → under ≡ true → Gathers vars text at marks held (Err r)
  partly_open e q = refuses (sym u.same ∙ clauses_open vars text i u.c e (u.open_is ∙ ap not q))

  pub partly_bad : {r : Refusal} {next : ℕ} → Next vars text i Malformed next → Gathers vars text at marks held (Err r)
  partly_bad n = refuses (sym u.same ∙ clauses_bad u.c n)

  -- the clause ends
  pub partly_end : {next : ℕ} → Next vars text i End next → Gathers vars text at marks held (Ok (Some (record { count = count; both = both; next = next })))
  partly_end {next} n =
      let reads : ReadsClause vars text at marks held (record { count = count; both = both; next = next }) = record {
        c = u.c;
        keeps = u.keeps;
        list = u.list;
        both_is = u.both_is;
        later = omega (arith, u.later, n.later);
        within = n.within;
        rest = sym u.same ∙ clauses_end u.c n;
      } in
      record {
        clause = λ g p.
            let same : ◌≡◌ {A = Gathered} (record { count = count; both = both; next = next }) g = cc in
            subst (λ (z : Gathered). ReadsClause vars text at marks held z) same reads;
        ended = λ p. absurd (let z : ◌≡◌ {A = ℕ} 0 1 = cc in omega arith);
        bad = λ r p. absurd (let z : ◌≡◌ {A = ℕ} 0 1 = cc in omega arith);
      }
