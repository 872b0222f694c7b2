-- What an opening leads to.
--   Limits: a size, the most symbols that one word and that all words may have
--   opened_within: the plain sheet of an opening with these limits
--   slot_limits, strip_limits: the limits of slots and of a strip over so much memory, if they can be opened
use Rattle.std.specs.Prelude.{ℕ, ◌*◌, cond, ◌&&◌, Some, None, Option, nat_le}
use Rattle.codec.specs.Records.{side}
use Rattle.plain.specs.Plain.{Plain, opened}

pub record Limits : Type 0 where
  pub width : ℕ
  pub height : ℕ
  pub longest : ℕ
  pub total : ℕ

abbrev pub opened_within : Limits → Plain
opened_within l = opened l.width l.height l.longest l.total

abbrev pub slot_limits : ℕ → ℕ → ℕ → ℕ → Option Limits
slot_limits room w h slot =
    cond (side w && (side h && (nat_le 4 slot && (nat_le slot 64 && nat_le (w * h * slot) room))))
    (Some (record { width = w; height = h; longest = slot; total = w * h * slot })) None

abbrev pub strip_limits : ℕ → ℕ → ℕ → Option Limits
strip_limits room w h =
    cond (side w && (side h && nat_le (4 * (w * h)) room)) (Some (record { width = w; height = h; longest = 64; total = room })) None
