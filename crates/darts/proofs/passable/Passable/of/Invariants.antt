use Rattle.std.proofs.Common.{◌≡◌}
use Rattle.model.specs.Streets.{first_that, sides, side_fails}
use Rattle.stores.specs.Sources.{sheet_told}
use Rattle.darts.proofs.Failing.{first_from}
use Rattle.darts.proofs.passable.Passable.of.Given as goal

abbrev pub invariant-loop-pixel : goal.invariant-loop-pixel
invariant-loop-pixel g l =
    let s = sheet_told (g.S.Source.told l.source) in
    first_from s l.pixel ≡ first_that (side_fails s) (sides s)
