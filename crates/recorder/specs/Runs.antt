-- Runs from the left, one place at a time.
--   ended: the first place of the run that ends before a place, if one is open and the place is not marked
--   still_open: the first place of the run that is open behind a place, if one is
--   run_from: the run from a first place up to a place
--   closed_runs: the runs that end before one of these places, the first of which is p; one may be open there
--   Begun: a run that is open before a place begins before it
use Rattle.std.specs.Prelude.{ℕ, suc, ◌-◌, ◌≤◌, Bool, true, false, List, [], ◌∷◌, ◌++◌, Some, None, Option}
use Rattle.codec.specs.Runs.{Run, run}

abbrev pub ended : Option ℕ → Bool → Option ℕ
ended o true = None
ended o false = o

abbrev pub still_open : Option ℕ → ℕ → Bool → Option ℕ
still_open o p false = None
still_open None p true = Some p
still_open (Some f) p true = Some f

abbrev pub run_from : Option ℕ → ℕ → List Run
run_from None p = []
run_from (Some f) p = run f (p - f) ∷ []

abbrev pub closed_runs : Option ℕ → ℕ → List Bool → List Run
closed_runs o p [] = []
closed_runs o p (m ∷ ms) = run_from (ended o m) p ++ closed_runs (still_open o p m) (suc p) ms

abbrev pub Begun : Option ℕ → ℕ → Type 0
Begun None p = Unit {0}
Begun (Some f) p = f ≤ p
