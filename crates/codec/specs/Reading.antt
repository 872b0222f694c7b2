-- What a reader is made of.
--   and_then: goes on with an answer, if there is one
--   guard: an answer, if a test passes
use Rattle.std.specs.Prelude.{Bool, true, false, Some, None, Option}

abbrev pub and_then : {A B : Type 0} → Option A → (A → Option B) → Option B
and_then None f = None
and_then (Some a) f = f a

abbrev pub guard : {A : Type 0} → Bool → Option A → Option A
guard true o = o
guard false o = None
