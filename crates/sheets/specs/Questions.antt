-- Questions about a pixel of a sheet.
--   read_answer: what is answered to one who reads a pixel back: how many crossings, or why there are none
--   read_memory: what the memory lent for them holds then
use Rattle.std.specs.Prelude.{ℕ, cond, List, Err, Result, nat_lt}
use Rattle.symbols.specs.declared.refusals.Refusal.{Refusal}
use Rattle.symbols.specs.declared.refusals.Refusal.TheVariants.{NoPixel}
use Rattle.symbols.specs.declared.symbols.Crossing.{Crossing}
use Rattle.symbols.specs.Refusals.{fill_answer, filled}
use Rattle.model.specs.Sheets.{Sheet, pixels, drawing_at}

abbrev pub read_answer : Sheet → ℕ → List Crossing → Result ℕ Refusal
read_answer s p memory = cond (nat_lt p (pixels s)) (fill_answer (drawing_at s p) memory) (Err NoPixel)

abbrev pub read_memory : Sheet → ℕ → List Crossing → List Crossing
read_memory s p memory = cond (nat_lt p (pixels s)) (filled (drawing_at s p) memory) memory
