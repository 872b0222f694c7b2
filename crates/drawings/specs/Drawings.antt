-- Drawings as the code holds them.
--   crossings: the crossings of a drawing
--   draws: what a word draws, refused as the word is
--   in_crossings: an answer that holds a drawing, by its crossings
--   place_code: a place of a road, by the road's code
use Rattle.std.specs.Prelude.{ℕ, List, Some, None, Ok, Err, Option, Result}
use Rattle.symbols.specs.declared.refusals.Refusal.{Refusal}
use Rattle.symbols.specs.declared.symbols.Crossing.{Crossing}
use Rattle.symbols.specs.declared.roads.Road.{Road}
use Rattle.symbols.specs.declared.symbols.Symbol.{Symbol}
use Rattle.symbols.specs.Symbols.{road_code}
use Rattle.rows.specs.Rows.{items}
use Rattle.rules.specs.Words.{drawn}
use Rattle.drawings.specs.declared.Drawing.{Drawing}

abbrev pub crossings : Drawing → List Crossing
crossings d = items d.crossings

abbrev pub draws : Result (List Symbol) Refusal → Result (List Crossing) Refusal
draws (Ok w) = Ok (drawn w)
draws (Err f) = Err f

abbrev pub in_crossings : Result Drawing Refusal → Result (List Crossing) Refusal
in_crossings (Ok d) = Ok (crossings d)
in_crossings (Err f) = Err f

abbrev pub place_code : Option (Road × ℕ) → Option (ℕ × ℕ)
place_code None = None
place_code (Some p) = Some (road_code p.0, p.1)
