use Rattle.std.proofs.Common.{◌≡◌, ◌*◌, ◌≤◌, take, sum_by}
use Rattle.model.specs.Streets.{vertices}
use Rattle.stores.specs.Sources.{sheet_told}
use Rattle.checks.proofs.numbers.vertices.Given as goal

abbrev pub invariant-loop-pixel : goal.invariant-loop-pixel
invariant-loop-pixel g l = (l.n ≡ sum_by vertices (take l.pixel (sheet_told (g.S.Source.told l.source)).drawings)) × (l.n ≤ 60 * l.pixel)
