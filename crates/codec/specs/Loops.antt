-- Records step by step, as loops over pixels and symbols meet them.
--   grow: the runs where place q behind them is marked too: the last run grows if it ends there
--   rank: how many of the first k marks are set
--   behind: the symbols behind the n-th corner
--   up_to: the symbols up to the n-th corner
use Rattle.std.specs.Prelude.{ℕ, zero, suc, ◌+◌, Bool, cond, List, [], ◌∷◌, ◌==◌}
use Rattle.symbols.specs.declared.symbols.Symbol.{Symbol}
use Rattle.codec.specs.Words.{left}
use Rattle.codec.specs.Runs.{Run, run}

abbrev pub grow : List Run → ℕ → List Run
grow [] q = run q 1 ∷ []
grow (r ∷ []) q = cond (r.offset + r.count == q) (run r.offset (suc r.count) ∷ []) (r ∷ run q 1 ∷ [])
grow (r ∷ s ∷ rs) q = r ∷ grow (s ∷ rs) q

abbrev pub rank : List Bool → ℕ → ℕ
rank [] k = 0
rank (m ∷ ms) zero = 0
rank (m ∷ ms) (suc k) = cond m (suc (rank ms k)) (rank ms k)

abbrev pub behind : ℕ → List Symbol → List Symbol
behind zero w = w
behind (suc n) [] = []
behind (suc n) (s ∷ w) = behind (left s n) w

abbrev pub up_to : ℕ → List Symbol → List Symbol
up_to zero w = []
up_to (suc n) [] = []
up_to (suc n) (s ∷ w) = s ∷ up_to (left s n) w
