-- Counts as the code holds them.
--   begins_vertex: whether a crossing is the first of a group that has a vertex
--   in_numbers: an answer that holds counts, by their numbers
use Rattle.std.specs.Prelude.{ℕ, Bool, ◌&&◌, Ok, Err, Result, ◌==◌}
use Rattle.symbols.specs.declared.refusals.Refusal.{Refusal}
use Rattle.symbols.specs.declared.symbols.Crossing.{Crossing}
use Rattle.model.specs.Streets as model
use Rattle.checks.specs.declared.counts.Counts.{Counts}

abbrev pub begins_vertex : Crossing → ℕ → Bool
begins_vertex c i = c.group == i && c.vertex

abbrev pub in_numbers : Result Counts Refusal → Result model.Counts Refusal
in_numbers (Ok c) = Ok (record { vertex_count = c.vertices; street_count = c.streets; loop_count = c.loops })
in_numbers (Err f) = Err f
