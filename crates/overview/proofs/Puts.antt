-- The byte of one goal, and the loop that puts one after another. Assumes nothing.
use mathlib.Core.Path.{◌≡◌, refl, sym, ap, ap₂, ◌∙◌}
use mathlib.Core.List.{List, [], ◌∷◌, ◌++◌, map-append}
use Prim.Native.Nat.{ℕ, ◌+◌, ◌<◌, ◌≤◌}
use native.Mathlib.Numerals.{add-one}
use native.Mathlib.Omega.{arith}
use lib.ListN.{length, get_or, set, take, drop, length-set, take-append-drop}
use lib.Seq.{take-suc, take-suc-set, take-length, drop-set-lt, drop-drop}
use Rattle.scope.specs.declared.Node.{Node}
use Rattle.calculus.specs.Order.{Answer}
use Rattle.state.specs.Work.{g_of}
use Rattle.questions.specs.Asking.{asks}
use Rattle.searching.specs.Search.{found_of, Solved}
use Rattle.searching.specs.declared.Found.{Found}
use Rattle.overview.specs.Overview.{byte_of, bytes_of}

-- ---- one goal

module _ {t : ℕ → Node} {n : ℕ} {goals work : List ℕ} {r : Found} (s : Solved t n goals work r) where
  told : {y : Found} → r ≡ y → byte_of (found_of y (g_of work)) ≡ byte_of (asks t n goals)
  told e = ap byte_of (ap (λ (y : Found). found_of y (g_of work)) (sym e) ∙ s.answered)

-- ---- one after another

-- after i turns: the bytes of the goals passed, in front of what stood behind
pub record Putting (ask : List ℕ → Answer) (goals b₀ : List ℕ) (i : ℕ) (b : List ℕ) : Type 0 where
  pub turns : i ≤ length goals
  pub size : length b ≡ length b₀
  pub bytes : take i b ≡ bytes_of ask (take i goals)
  pub rest : drop i b ≡ drop i b₀

module _ {ask : List ℕ → Answer} {goals b₀ : List ℕ} (room : length goals ≤ length b₀) where
  pub putting_none : Putting ask goals b₀ 0 b₀
  putting_none = record { turns = omega arith; size = refl; bytes = refl; rest = refl }

  pub putting_more : {i : ℕ} {b : List ℕ} {v : ℕ} → i < length goals → Putting ask goals b₀ i b → v ≡ byte_of (ask (get_or goals i 0 ∷ []))
      → Putting ask goals b₀ (i + 1) (set b i v)
  putting_more {i} {b} {v} h p e = record {
    turns = omega arith;
    size = length-set b i v ∙ p.size;
    bytes =
        rw (add-one i) (take-suc-set b i v (omega (arith, p.size)) ∙ ap₂ (λ (x : List ℕ) (y : ℕ). x ++ y ∷ []) p.bytes e
        ∙ sym (map-append (λ g. byte_of (ask (g ∷ []))) (take i goals) (get_or goals i 0 ∷ []))
        ∙ ap (bytes_of ask) (sym (take-suc goals i 0 h)));
    rest = drop-set-lt (i + 1) b i v (omega arith) ∙ sym (drop-drop 1 i b) ∙ ap (drop 1) p.rest ∙ drop-drop 1 i b₀;
  }

  pub putting_all : {i : ℕ} {b : List ℕ} → length goals ≤ i → Putting ask goals b₀ i b → b ≡ bytes_of ask goals ++ drop (length goals) b₀
  putting_all {i} {b} h p =
      let z : i ≡ length goals = omega (arith, p.turns) in
      sym (take-append-drop i b) ∙ ap₂ ◌++◌ p.bytes p.rest
      ∙ ap (λ (k : ℕ). bytes_of ask (take k goals) ++ drop k b₀) z ∙ ap (λ (gs : List ℕ). bytes_of ask gs ++ drop (length goals) b₀) (take-length goals)
