use Rattle.std.proofs.Common.{◌+◌, ◌-◌, ◌*◌, length}
use Rattle.model.specs.Darts.{darts}
use Rattle.stores.specs.Sources.{sheet_told}
use Rattle.streetlist.proofs.Lining.{Lining}
use Rattle.streetlist.proofs.lists.put_line.Given as goal

abbrev pub invariant-loop-text : goal.invariant-loop-text
invariant-loop-text g l = Lining (sheet_told (g.S.Source.told l.free.source.now)) l.initial.last l.last l.initial.text l.text

abbrev pub decreases-loop-text : goal.decreases-loop-text
decreases-loop-text g l = l.initial.text.at + 22 * length (darts (sheet_told (g.S.Source.told l.free.source.now))) - l.text.at
