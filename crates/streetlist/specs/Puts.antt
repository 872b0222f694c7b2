-- Text put into memory.
--   Puts: a call puts text into memory from a place on, and tells the place behind it; what lies past the memory's end is
--     counted and not put
--   PutsTo: a call puts text behind what was put, into the same memory
use Rattle.std.specs.Prelude.{◌≡◌, ℕ, ◌+◌, List, length}
use Rattle.recorder.specs.Bytes.{put_bytes}
use Rattle.streetlist.specs.declared.text.Text.{Text}

pub record Puts (text old : List ℕ) (at end : ℕ) (now : List ℕ) : Type 0 where
  pub behind : end ≡ at + length text
  pub holds : now ≡ put_bytes old at text

pub record PutsTo (text : List ℕ) (old new : Text) : Type 0 where
  pub puts : Puts text old.out.now old.at new.at new.out.now
  pub same : new.out.ghost_name ≡ old.out.ghost_name
