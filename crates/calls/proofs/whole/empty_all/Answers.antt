use Rattle.std.proofs.Common.{◌*◌, [], replicate, refl, arith}
use Rattle.std.proofs.lemmas.List.{length-replicate}
use Rattle.rules.specs.Words.{Drawing}
use Rattle.stores.specs.Sources.{plain_kept}
use Rattle.calls.proofs.Loading.{empty_more, redraw_all}
use Rattle.calls.proofs.whole.empty_all.Goals as goal

pub loop-pixel-preserved : goal.loop-pixel-preserved
loop-pixel-preserved g c =
    let first = plain_kept g.S.Source.told g.S.Store.longest g.S.Store.total c.args.store.now in
    empty_more first (plain_kept g.S.Source.told g.S.Store.longest g.S.Store.total c.loop-pixel.store) (first.width * first.height) c.loop-pixel.pixel refl (g.met.S.Store.keeps c.args.store.now).sheetly.whole
    (omega (arith, c.pixel_count-pixel-end.ensures, c.loop-pixel-test.true)) c.loop-pixel.invariant (plain_kept g.S.Source.told g.S.Store.longest g.S.Store.total c.clear.new.store) c.clear.ensures.after

pub returns : goal.returns
returns g c =
    let first = plain_kept g.S.Source.told g.S.Store.longest g.S.Store.total c.args.store.now in
    let n = first.width * first.height in
    redraw_all first (plain_kept g.S.Source.told g.S.Store.longest g.S.Store.total c.loop-pixel.store) (replicate n []) c.loop-pixel.pixel
    (omega (arith, length-replicate {A = Drawing} n [], c.pixel_count-pixel-end.ensures, c.loop-pixel-test.false))
    (omega (arith, (g.met.S.Store.keeps c.args.store.now).sheetly.whole, c.pixel_count-pixel-end.ensures, c.loop-pixel-test.false))
    c.loop-pixel.invariant
