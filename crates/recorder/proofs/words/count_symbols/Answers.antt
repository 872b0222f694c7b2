use Rattle.std.proofs.Common.{length, ap, arith}
use Rattle.recorder.proofs.Shown.{symbols_shown, left_more, left_none, left_most}
use Rattle.recorder.proofs.words.count_symbols.Goals as goal

pub overflow_add-n : goal.overflow_add-n
overflow_add-n g c =
    let s = c.args.source.now in
    let ws = (g.S.Source.told s).words in
    let e = left_more ws c.loop-pixel.pixel (omega (arith, c.pixel_count-pixel-end.ensures.is)) in
    omega (arith, left_most ws (g.S.Source.lawful s).words, c.loop-pixel.invariant, c.shown_len-n.ensures.is, c.pixel_count-pixel-end.ensures.is, c.pixel_count-pixel-end.ensures.most)

pub loop-pixel-preserved : goal.loop-pixel-preserved
loop-pixel-preserved g c =
    let ws = (g.S.Source.told c.args.source.now).words in
    let e = left_more ws c.loop-pixel.pixel (omega (arith, c.pixel_count-pixel-end.ensures.is)) in
    omega (arith, c.loop-pixel.invariant, c.shown_len-n.ensures.is)

pub returns : goal.returns
returns g c =
    let s = c.args.source.now in
    let ws = (g.S.Source.told s).words in
    let good = (g.S.Source.lawful s).words in
    let e = left_none ws c.loop-pixel.pixel (omega (arith, c.pixel_count-pixel-end.ensures.is)) in
    let k = ap length (symbols_shown ws good) in
    let m = left_most ws good in
    record { is = omega (arith, c.loop-pixel.invariant); most = omega (arith, c.loop-pixel.invariant, c.pixel_count-pixel-end.ensures.is, c.pixel_count-pixel-end.ensures.most) }
