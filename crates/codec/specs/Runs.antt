-- Runs: the whole stretches of marked places.
--   Run, run: its first place and how many places it has
--   extend: the runs where place p is marked too, before the others: the first run grows if it begins behind p
--   runs: the runs of marks, the first of which is at place p
--   within: a place lies in a run
--   covered: a place lies in one of the runs
--   covers: the marks of n places from p on, as runs cover them
--   sound: each run has a place and ends by `end`, the first begins at `low` or later, and each other one behind the run
--     before it, which it does not touch
--   Sound: the statement of it
use Rattle.std.specs.Prelude.{ℕ, zero, suc, ◌+◌, ◌≤◌, Bool, true, false, cond, ◌&&◌, ◌||◌, List, [], ◌∷◌, ◌==◌, nat_le, nat_lt}

pub record Run : Type 0 where
  pub offset : ℕ
  pub count : ℕ

abbrev pub run : ℕ → ℕ → Run
run f c = record { offset = f; count = c }

abbrev pub extend : ℕ → List Run → List Run
extend p [] = run p 1 ∷ []
extend p (r ∷ rs) = cond (r.offset == suc p) (run p (suc r.count) ∷ rs) (run p 1 ∷ r ∷ rs)

abbrev pub runs : ℕ → List Bool → List Run
runs p [] = []
runs p (false ∷ ms) = runs (suc p) ms
runs p (true ∷ ms) = extend p (runs (suc p) ms)

abbrev pub within : Run → ℕ → Bool
within r k = nat_le r.offset k && nat_lt k (r.offset + r.count)

abbrev pub covered : List Run → ℕ → Bool
covered [] k = false
covered (r ∷ rs) k = within r k || covered rs k

abbrev pub covers : List Run → ℕ → ℕ → List Bool
covers rs p zero = []
covers rs p (suc n) = covered rs p ∷ covers rs (suc p) n

abbrev pub sound : ℕ → ℕ → List Run → Bool
sound low end [] = true
sound low end (r ∷ rs) = nat_le low r.offset && (nat_le 1 r.count && (nat_le (r.offset + r.count) end && sound (suc (r.offset + r.count)) end rs))

abbrev pub Sound : ℕ → ℕ → List Run → Type 0
Sound low end [] = Unit {0}
Sound low end (r ∷ rs) = (low ≤ r.offset) × (1 ≤ r.count) × (r.offset + r.count ≤ end) × Sound (suc (r.offset + r.count)) end rs
