use Rattle.std.proofs.Common.{length, ap, ◌∙◌, arith, rules}
use Rattle.recorder.proofs.Shown.{symbols_shown, left_more, left_most, putting_from, words_more, words_all}
use Rattle.recorder.proofs.words.write_words.Goals as goal

pub push_shown-requires : goal.push_shown-requires
push_shown-requires g c =
    let s = c.args.source.now in
    let ws = (g.S.Source.told s).words in
    let good = (g.S.Source.lawful s).words in
    let v = c.loop-pixel.invariant in
    let e = left_more ws c.loop-pixel.pixel (omega (arith, c.pixel_count-pixel-end.ensures.is)) in
    let k = ap length (symbols_shown ws good) in
    record {
      room = omega (arith, v.1, v.2, c.requires);
      few = omega (arith, left_most ws good, v.1, c.pixel_count-pixel-end.ensures.is, c.pixel_count-pixel-end.ensures.most);
    }

pub loop-pixel-preserved : goal.loop-pixel-preserved
loop-pixel-preserved g c =
    let ws = (g.S.Source.told c.args.source.now).words in
    let i = c.loop-pixel.pixel in
    let v = c.loop-pixel.invariant in
    let now = c.loop-pixel.packed in
    let next = c.push_shown.new.self in
    let w = c.push_shown.ensures in
    let e = left_more ws i (omega (arith, c.pixel_count-pixel-end.ensures.is)) in (
      words_more ws (putting_from c.args.part.now 0 ws 0) now.part.now next.part.now now.symbols next.symbols i (omega (arith, c.pixel_count-pixel-end.ensures.is)) w.memory w.is v.0,
      omega (arith, v.1, w.is),
      w.len ∙ v.2,
      w.same_reference ∙ v.3,
    )

pub returns : goal.returns
returns g c =
    let s = c.args.source.now in
    let v = c.loop-pixel.invariant in
    let e = words_all (g.S.Source.told s).words c.args.part.now c.loop-pixel.packed.part.now c.loop-pixel.packed.symbols c.loop-pixel.pixel (g.S.Source.lawful s).words (omega (arith, c.pixel_count-pixel-end.ensures.is)) c.requires v.0 in
    search (rules, e)
