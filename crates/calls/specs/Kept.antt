-- Sheets without a crossing.
--   emptied: a plain sheet with the empty drawing at every pixel
use Rattle.plain.specs.Plain.{Plain, opened}

abbrev pub emptied : Plain → Plain
emptied s = opened s.width s.height s.longest s.total
