-- What the code that judges a table answers.
--   Judged: the table means a drawing, or the rule that it breaks while it keeps those before it
use Rattle.std.specs.Prelude.{◌≤◌, List, length, Ok, Err, Result}
use Rattle.symbols.specs.declared.refusals.Refusal.{Refusal}
use Rattle.symbols.specs.declared.refusals.Refusal.TheVariants as r
use Rattle.symbols.specs.declared.symbols.Crossing.{Crossing}
use Rattle.rules.specs.Tables.{Means, Rising, Flagged, Paired, Uncrossed}

abbrev pub Judged : List Crossing → Result (Unit {0}) Refusal → Type 0
Judged t (Ok u) = Means t
Judged t (Err r.Opening) = ⊥
Judged t (Err r.NoPixel) = ⊥
Judged t (Err r.NoWord) = ⊥
Judged t (Err r.Unlawful) = ⊥
Judged t (Err r.OverLongest) = ⊥
Judged t (Err r.OverTotal) = ⊥
Judged t (Err r.Roads) = (length t ≤ 60) × Rising t → ⊥
Judged t (Err r.Flags) = (length t ≤ 60) × Rising t × (Flagged t → ⊥)
Judged t (Err r.Pairs) = (length t ≤ 60) × Rising t × Flagged t × (Paired t → ⊥)
Judged t (Err r.Crossed) = (length t ≤ 60) × Rising t × Flagged t × Paired t × (Uncrossed t → ⊥)
Judged t (Err r.NoDart) = ⊥
Judged t (Err (r.RoadFails p q)) = ⊥
Judged t (Err (r.OnRing p q k)) = ⊥
Judged t (Err r.Short) = ⊥
Judged t (Err r.BadRecord) = ⊥
Judged t (Err r.Home) = ⊥
