use Rattle.std.proofs.Common.{◌*◌, ◌<◌, sym, ap, ◌∙◌, arith}
use Rattle.rows.specs.Rows.{items}
use Rattle.stores.specs.Sources.{word_at}
use Rattle.recorder.proofs.Shown.{shown_long, shown_blank}
use Rattle.recorder.proofs.words.shown_word.Goals as goal

pub returns-then-is_blank : goal.returns-then-is_blank
returns-then-is_blank g c =
    let s = c.args.source.now in
    let t = g.S.Source.told s in
    let w = c.in_ok-word.ensures in
    let there : c.args.pixel < t.width * t.height = omega (arith, w.0, c.from.ensures) in
    shown_blank t (g.S.Source.lawful s) c.args.pixel (items c.in_ok-word.word) there (w.1 ∙ ap (word_at t) c.from.ensures) (sym c.len.ensures.is ∙ c.if-is_blank.ensures)

pub returns : goal.returns
returns g c =
    let s = c.args.source.now in
    let t = g.S.Source.told s in
    let w = c.in_ok-word.ensures in
    let there : c.args.pixel < t.width * t.height = omega (arith, w.0, c.from.ensures) in
    shown_long t (g.S.Source.lawful s) c.args.pixel (items c.in_ok-word.word) there (w.1 ∙ ap (word_at t) c.from.ensures) (λ e. c.if-is_blank.ensures (c.len.ensures.is ∙ e))
