-- Street lists in memory.
--   begun_line: the line of the sidewalk that a dart begins, or nothing where it begins none
--   length_answer: how long a list is, or why there is none
--   memory_answer, memory_after: what is told where a list fills memory, and what the memory holds then
--   list_length: the length of a sheet's street list; refused as the check
--   list_answer: the length of a sheet's street list that fills memory; refused as the check, then where the memory is short
--   list_memory: what the memory holds then: the list and behind it what was there, or all that was there
use Rattle.std.specs.Prelude.{ℕ, cond, List, [], length, Ok, Err, Result}
use Rattle.symbols.specs.declared.refusals.Refusal.{Refusal}
use Rattle.symbols.specs.Refusals.{fill_answer, filled}
use Rattle.orbits.specs.Orbits.{line}
use Rattle.model.specs.declared.darts.Dart.{Dart}
use Rattle.model.specs.Sheets.{Sheet}
use Rattle.model.specs.Streets.{leaves_vertex, circles, line_text, street_list}

abbrev pub begun_line : Sheet → Dart → List ℕ
begun_line s d = cond (leaves_vertex s d) (line_text (line (circles s) d)) []

abbrev pub length_answer : Result (List ℕ) Refusal → Result ℕ Refusal
length_answer (Ok text) = Ok (length text)
length_answer (Err f) = Err f

abbrev pub memory_answer : Result (List ℕ) Refusal → List ℕ → Result ℕ Refusal
memory_answer (Ok text) memory = fill_answer text memory
memory_answer (Err f) memory = Err f

abbrev pub memory_after : Result (List ℕ) Refusal → List ℕ → List ℕ
memory_after (Ok text) memory = filled text memory
memory_after (Err f) memory = memory

abbrev pub list_length : Sheet → Result ℕ Refusal
list_length s = length_answer (street_list s)

abbrev pub list_answer : Sheet → List ℕ → Result ℕ Refusal
list_answer s memory = memory_answer (street_list s) memory

abbrev pub list_memory : Sheet → List ℕ → List ℕ
list_memory s memory = memory_after (street_list s) memory
