use Rattle.std.proofs.Common.{◌<◌, ◌≤◌, length, arith}
use Rattle.model.specs.Streets.{vertices}
use Rattle.stores.specs.Sources.{sheet_told}
use Rattle.stores.proofs.Writes.{told_sheetly}
use Rattle.checks.proofs.Numbering.{sum_more, sum_all}
use Rattle.checks.proofs.numbers.vertices.Goals as goal

pub loop-pixel-preserved : goal.loop-pixel-preserved
loop-pixel-preserved g c =
    let t = g.S.Source.told c.args.source.now in
    let k = told_sheetly t (g.S.Source.lawful c.args.source.now) in
    let h : c.loop-pixel.pixel < length (sheet_told t).drawings = omega (arith, k.whole, c.pixels_of-pixel-end.ensures, c.loop-pixel-test.true) in (
      sum_more vertices (sheet_told t).drawings c.loop-pixel.pixel c.loop-pixel.n c.vertices_at-n.result h c.loop-pixel.invariant.0 c.vertices_at-n.ensures.is,
      omega (arith, c.loop-pixel.invariant.1, c.vertices_at-n.ensures.few),
    )

pub returns : goal.returns
returns g c =
    let t = g.S.Source.told c.args.source.now in
    let k = told_sheetly t (g.S.Source.lawful c.args.source.now) in
    let h : length (sheet_told t).drawings ≤ c.loop-pixel.pixel = omega (arith, k.whole, c.pixels_of-pixel-end.ensures, c.loop-pixel-test.false) in
    sum_all vertices (sheet_told t).drawings c.loop-pixel.pixel c.loop-pixel.n h c.loop-pixel.invariant.0
