-- Literals kept once, with a mark for each: there is always room for one that is not marked. Assumes nothing.
use mathlib.Core.Path.{◌≡◌, ◌∙◌, ap, sym, refl}
use mathlib.Core.List.{List, [], ◌∷◌, ◌++◌}
use mathlib.Core.Bool.{Bool, true, false, or-true, or-false}
use Prim.Native.Nat.{ℕ, zero, suc, ◌+◌, ◌<◌, ◌≤◌}
use native.Mathlib.Numerals.{add-one}
use native.Mathlib.Omega.{arith}
use lib.Dec.{eqb}
use lib.ListN.{length, get_or, take, drop, set, replicate, drop_of_length-le, length-set, length-replicate, get_or-replicate}
use lib.Seq.{length-take-le, drop-cons, get_or-take, take-suc-set, get_or-set_same, get_or-set_other}
use borrow.Author.Tests.{eqb-true, eqb-false}
use Rattle.codec.proofs.Rows.{by_test}
use Rattle.codec.proofs.Files.{by_last}
use Rattle.cnf.specs.Fold.{holds}
use Rattle.cnf.proofs.Clauses.{holds_more}
use Rattle.cnffold.specs.Built.{Small}
use Rattle.cnfread.specs.Clauses.{total, mark, Kept, Keeps}

-- sums of marks
total-zeros : (n : ℕ) → total (replicate n 0) ≡ 0
unfolding total
total-zeros zero = refl
total-zeros (suc n) = rw (total-zeros n)

total-set : (ms : List ℕ) (l : ℕ) → l < length ms → get_or ms l 0 ≡ 0 → total (set ms l 1) ≡ total ms + 1
unfolding total
total-set [] l h e = absurd (omega arith)
total-set (x ∷ ms) zero h e = omega arith
total-set (x ∷ ms) (suc l) h e = omega (arith, total-set ms l (omega arith) e)

total_most : (ms : List ℕ) → ((i : ℕ) → i < length ms → get_or ms i 0 ≤ 1) → total ms ≤ length ms
unfolding total
total_most [] f = omega arith
total_most (x ∷ ms) f = omega (arith, f 0 (omega arith), total_most ms (λ i h. f (suc i) (omega arith)))

total_room : (ms : List ℕ) (l : ℕ) → ((i : ℕ) → i < length ms → get_or ms i 0 ≤ 1) → l < length ms → get_or ms l 0 ≡ 0 → total ms < length ms
unfolding total
total_room [] l f h e = absurd (omega arith)
total_room (x ∷ ms) zero f h e = omega (arith, total_most ms (λ i k. f (suc i) (omega arith)))
total_room (x ∷ ms) (suc l) f h e = omega (arith, f 0 (omega arith), total_room ms l (λ i k. f (suc i) (omega arith)) (omega arith) e)

-- nothing is kept yet
pub kept-none : (held : List ℕ) → length held ≡ 2048 → Kept (replicate 2048 0) held 0
unfolding holds
kept-none held h = record {
  size = length-replicate {A = ℕ} 2048 0;
  room = h;
  small = record { within = omega arith; each = λ i k. absurd (omega arith) };
  marked = λ l k. get_or-replicate 2048 l 0 0 k;
  tallied = total-zeros 2048;
}

-- a mark is 0 or 1
bit_most : (b : Bool) → mark b ≤ 1
bit_most true = omega arith
bit_most false = omega arith

-- what a mark says
pub mark_set : (b : Bool) → (mark b ≡ 0 → ⊥) → b ≡ true
mark_set true e = refl
mark_set false e = absurd (e refl)

pub mark_clear : (b : Bool) → mark b ≡ 0 → b ≡ false
mark_clear true e = absurd (omega arith)
mark_clear false e = refl

module _ {marks held : List ℕ} {n : ℕ} (k : Kept marks held n) (l : ℕ) (h : l < 2048) where
  module _ (e : get_or marks l 0 ≡ 0) where
    -- there is room
    pub keep-room : n < 2048
    keep-room =
        omega (arith, k.size, k.tallied, total_room marks l (λ i j. rw (k.marked i (omega (arith, k.size))) (bit_most (holds i (take n held)))) (omega (arith, k.size)) e)

    new : holds l (take n held) ≡ false
    new = mark_clear (holds l (take n held)) (sym (k.marked l h) ∙ e)

    grown : take (n + 1) (set held n l) ≡ take n held ++ l ∷ []
    grown = rw add-one (take-suc-set held n l (omega (arith, k.room, keep-room)))

    each-small : (i : ℕ) → i < n + 1 → get_or (set held n l) i 0 < 2048
    each-small i j =
        by_last i (n + 1) j
        (λ q. let last : i ≡ n = omega arith in rw (last, get_or-set_same held n l 0 (omega (arith, k.room, keep-room))) h)
        (λ q. rw (get_or-set_other held n i l 0 (λ z. omega arith)) (k.small.each i (omega arith)))

    marked_more : (m : ℕ) → m < 2048 → get_or (set marks l 1) m 0 ≡ mark (holds m (take (n + 1) (set held n l)))
    marked_more m j =
        rw (grown, holds_more m l (take n held))
        (by_test (eqb l m)
        (λ q. rw (q, or-true, ← eqb-true l m q) (get_or-set_same marks l 1 0 (omega (arith, k.size))))
        (λ q. rw (q, or-false) (get_or-set_other marks l m 1 0 (λ z. eqb-false l m q (sym z)) ∙ k.marked m j)))

    pub keep-new : Keeps held n l (set marks l 1) (set held n l) (n + 1)
    keep-new = record {
      holds = record {
        size = length-set marks l 1 ∙ k.size;
        room = length-set held n l ∙ k.room;
        small = record { within = omega (arith, length-set held n l, k.room, keep-room); each = each-small };
        marked = marked_more;
        tallied = total-set marks l (omega (arith, k.size)) e ∙ ap (◌+ 1) k.tallied;
      };
      list = grown ∙ rw new;
    }

-- no mark is left
total-none : (ms : List ℕ) → ((i : ℕ) → i < length ms → get_or ms i 0 ≡ 0) → total ms ≡ 0
unfolding total
total-none [] f = refl
total-none (x ∷ ms) f = omega (arith, f 0 (omega arith), total-none ms (λ i h. f (suc i) (omega arith)))

-- the marks of the first i of n literals were taken away
pub record Clearing (marks held : List ℕ) (n i : ℕ) : Type 0 where
  pub size : length marks ≡ 2048
  pub room : length held ≡ 2048
  pub small : Small held n
  pub left : (l : ℕ) → l < 2048 → holds l (drop i (take n held)) ≡ false → get_or marks l 0 ≡ 0

module _ {marks held : List ℕ} {n i : ℕ} (k : Clearing marks held n i) where
  pub clear_low : i < n → get_or held i 0 < 2048
  clear_low h = k.small.each i h

  pub clear_more : i < n → Clearing (set marks (get_or held i 0) 0) held n (i + 1)
  unfolding holds
  clear_more h =
      let inside : i < length (take n held) = omega (arith, length-take-le n held k.small.within) in
      let first : drop i (take n held) ≡ get_or held i 0 ∷ drop (i + 1) (take n held) =
      drop-cons (take n held) i 0 inside ∙ rw (get_or-take n held i 0 h, add-one) in
      record {
        size = length-set marks (get_or held i 0) 0 ∙ k.size;
        room = k.room;
        small = k.small;
        left = λ l low e.
            by_test (eqb (get_or held i 0) l)
            (λ q. rw (← eqb-true (get_or held i 0) l q) (get_or-set_same marks (get_or held i 0) 0 0 (omega (arith, k.size, clear_low h))))
            (λ q.
            get_or-set_other marks (get_or held i 0) l 0 0 (λ z. eqb-false (get_or held i 0) l q (sym z))
            ∙ k.left l low (rw (first, q) e));
      }

  pub clear_all : n ≤ i → Kept marks held 0
  unfolding holds
  clear_all h =
      let none : drop i (take n held) ≡ [] = drop_of_length-le (take n held) {i = i} (omega (arith, length-take-le n held k.small.within)) in
      let gone : (l : ℕ) → l < 2048 → get_or marks l 0 ≡ 0 = λ l low. k.left l low (rw none) in
      record {
        size = k.size;
        room = k.room;
        small = record { within = omega arith; each = λ j q. absurd (omega arith) };
        marked = gone;
        tallied = total-none marks (λ j q. gone j (omega (arith, k.size)));
      }
