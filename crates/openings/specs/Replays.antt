-- Writes made one after another.
--   call_of: a write as a call
--   script: writes as calls
--   OpenedWithin: an opening was accepted, and led to the plain sheet of its limits
--   Replayed: a store that was opened and written: the opening was accepted, the store means the run of the calls from
--     there, and each of its words draws what was accepted last at its pixel
use Rattle.std.specs.Prelude.{◌≡◌, ℕ, ◌<◌, List, map, length, Some, Option}
use Rattle.rules.specs.Words.{drawn}
use Rattle.plain.specs.Plain.{Plain, Call, write, run, last_accepted}
use Rattle.stores.specs.Sources.{Told, plain_told, word_at}
use Rattle.openings.specs.declared.Write.{Write}
use Rattle.openings.specs.Limits.{Limits, opened_within}

abbrev pub call_of : Write → Call
call_of w = write w.pixel w.word.now

abbrev pub script : List Write → List Call
script = map call_of

abbrev pub OpenedWithin : Option Limits → Plain → Type 0
OpenedWithin limits p = (l : Limits) × (limits ≡ Some l) × (p ≡ opened_within l)

pub record Replayed (limits : Option Limits) (calls : List Call) (t : Told) (longest total : ℕ) : Type 0 where
  pub start : Limits
  pub accepted : limits ≡ Some start
  pub ran : plain_told t longest total ≡ run (opened_within start) calls
  pub last : (p : ℕ) → p < length t.words → drawn (word_at t p) ≡ last_accepted (opened_within start) calls p
