use Rattle.std.proofs.Common.{sym, ◌∙◌}
use Rattle.recorder.proofs.Shown.{mark_at, seen}
use Rattle.recorder.proofs.words.is_shown.Goals as goal

pub returns : goal.returns
returns g c =
    let t = g.S.Source.told c.args.source.now in
    c.is_some.ensures ∙ seen t c.args.pixel c.shown_word.result c.shown_word.ensures ∙ sym (mark_at t c.args.pixel)
