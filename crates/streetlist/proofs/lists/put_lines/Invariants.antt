use Rattle.stores.specs.Sources.{sheet_told}
use Rattle.darts.specs.Rest.{to_come}
use Rattle.darts.proofs.Coming.{Listed}
use Rattle.streetlist.proofs.Listing.{Listing}
use Rattle.streetlist.proofs.lists.put_lines.Given as goal

-- What the darts that were given begin is put.
abbrev pub invariant-loop-dart : goal.invariant-loop-dart
invariant-loop-dart g l =
    let s = sheet_told (g.S.Source.told l.free.source.now) in
    record {
      listed : Listed s l.yielded (to_come g.S.Source.told l.dart-iterator);
      lines : Listing s l.yielded l.initial.text l.text;
    }
