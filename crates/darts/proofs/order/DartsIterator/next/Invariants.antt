use Rattle.std.proofs.Common.{◌≡◌, ◌-◌}
use Rattle.model.specs.Sheets.{pixels}
use Rattle.stores.specs.Sources.{sheet_told}
use Rattle.darts.specs.Rest.{to_come}
use Rattle.darts.proofs.order.DartsIterator.next.Given as goal

-- What is to come stays.
abbrev pub invariant-loop-dart : goal.invariant-loop-dart
invariant-loop-dart g l = to_come g.S.Source.told l.self ≡ to_come g.S.Source.told l.initial.self

abbrev pub decreases-loop-dart : goal.decreases-loop-dart
decreases-loop-dart g l = pixels (sheet_told (g.S.Source.told l.self.source.now)) - l.self.pixel
