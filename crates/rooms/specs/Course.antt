-- Calls one after another, 'where table, goals, settings and work areas come back as left'. Assumes nothing.
use Rattle.std.specs.Prelude.{◌≡◌, List, [], ◌∷◌, ℕ, ◌+◌, length, get_or}
use Rattle.scope.specs.declared.Node.{Node}
use Rattle.scope.specs.Outcome.{answer}
use Rattle.rooms.specs.Rooms.{Turned, admitted}
use Rattle.rooms.specs.Calls.{OpensRooms, TurnsRooms}

-- later calls of these allowances, the last one first, from the settings s₀ and the areas w₀ on; each is given the settings and the areas as
-- the call before left them, and now they are s and w
pub data Later (t questions : List ℕ) (rs : List Node) (s₀ w₀ : List ℕ) : List ℕ → List ℕ → List ℕ → Type 0 where
  none : Later t questions rs s₀ w₀ [] s₀ w₀
  turned : {ms s w : List ℕ} {m : ℕ} {s' w' : List ℕ} {r : Turned} → Later t questions rs s₀ w₀ ms s w
      → admitted t questions (length s) (length w) ≡ answer rs → TurnsRooms t questions s w m s' w' r → Later t questions rs s₀ w₀ (m ∷ ms) s' w'

-- the turns that they reported of question i
abbrev pub reported : {t questions : List ℕ} {rs : List Node} {s₀ w₀ ms s w : List ℕ} → Later t questions rs s₀ w₀ ms s w → ℕ → ℕ
reported none i = 0
reported (turned {r = r} b e a) i = reported b i + get_or r.turns i 0

-- a course of calls: a first one, with the settings s₀, and later ones of these allowances
pub record Course (t questions : List ℕ) (rs : List Node) (s₀ ms s w : List ℕ) : Type 0 where
  pub lent : List ℕ
  pub areas : List ℕ
  pub first : Turned
  pub read : admitted t questions (length s₀) (length lent) ≡ answer rs
  pub opened : OpensRooms t questions s₀ lent areas first
  pub later : Later t questions rs s₀ areas ms s w
