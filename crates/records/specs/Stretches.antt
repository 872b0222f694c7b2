-- The runs of a record, and where a pixel stands among their pixels.
--   run_list: the runs of bytes, four bytes each
--   run_pixels: how many pixels runs have
--   follows: a run has a pixel, begins at `low` or later, and ends by `end`
--   spot: how many pixels of runs come before a pixel that lies in one; nothing for a pixel in none, and none behind a run
--     that is out of place
use Rattle.std.specs.Prelude.{ℕ, suc, ◌+◌, ◌-◌, ◌*◌, Bool, cond, ◌&&◌, List, [], ◌∷◌, Some, None, Option, nat_le}
use Rattle.std.specs.Option.{option_map}
use Rattle.codec.specs.Runs.{Run, run, within}

abbrev pub run_list : List ℕ → List Run
run_list [] = []
run_list (a ∷ []) = []
run_list (a ∷ b ∷ []) = []
run_list (a ∷ b ∷ c ∷ []) = []
run_list (a ∷ b ∷ c ∷ d ∷ bs) = run (a * 256 + b) (c * 256 + d) ∷ run_list bs

abbrev pub run_pixels : List Run → ℕ
run_pixels [] = 0
run_pixels (r ∷ rs) = r.count + run_pixels rs

abbrev pub follows : ℕ → ℕ → Run → Bool
follows low end r = nat_le low r.offset && (nat_le 1 r.count && nat_le (r.offset + r.count) end)

abbrev pub spot : ℕ → ℕ → List Run → ℕ → Option ℕ
spot low end [] p = None
spot low end (r ∷ rs) p =
    cond (follows low end r) (cond (within r p) (Some (p - r.offset)) (option_map (λ n. r.count + n) (spot (suc (r.offset + r.count)) end rs p))) None
