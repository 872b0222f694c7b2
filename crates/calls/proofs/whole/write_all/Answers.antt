use Rattle.std.proofs.Common.{◌≤◌, ◌*◌, inl, inr, ap, ◌∙◌, arith}
use Rattle.words.specs.Held.{symbols_of}
use Rattle.plain.specs.Plain.{write, step}
use Rattle.stores.specs.Sources.{plain_kept}
use Rattle.records.specs.Told.{record_lawful}
use Rattle.records.specs.Source.{source_told}
use Rattle.records.specs.Left.{words_left}
use Rattle.calls.proofs.Loading.{pass_more, pass_all, pass_none}
use Rattle.calls.proofs.whole.write_all.Goals as goal

pub loop-pixel-preserved : goal.loop-pixel-preserved
loop-pixel-preserved g c =
    let first = plain_kept g.S.Source.told g.S.Store.longest g.S.Store.total c.args.store.now in
    let src = c.args.source.now in
    let l = record_lawful src.width src.height src.runs.now src.symbols.now in
    let it = c.loop-pixel.pixel-iterator in
    let h = c.in-Some.ensures.steps in
    let v = c.loop-pixel.invariant in
    let now = plain_kept g.S.Source.told g.S.Store.longest g.S.Store.total c.loop-pixel.store in (
      (tt, tt),
      tt,
      h.0.0 ∙ v.2,
      pass_more first (source_told src) l c.requires.fits c.requires.blank now _ (words_left it.b) (words_left c.next.new.self.b) (symbols_of c.in-Some.word) it.a.start c.in-Some.pixel c.next.new.self.a.start
          (omega arith) h.0.1.1 h.0.1.2 h.1 (c.write.ensures.after ∙ ap (λ w. step now (write c.in-Some.pixel w)) c.symbols.ensures) v.3,
    )

pub returns : goal.returns
returns g c =
    let first = plain_kept g.S.Source.told g.S.Store.longest g.S.Store.total c.args.store.now in
    let src = c.args.source.now in
    let l = record_lawful src.width src.height src.runs.now src.symbols.now in
    let it = c.loop-pixel.pixel-iterator in
    let v = c.loop-pixel.invariant in
    let now = plain_kept g.S.Source.told g.S.Store.longest g.S.Store.total c.loop-pixel.store in
    let end : first.width * first.height ≤ it.a.start =
    elim c.in-None.ensures.steps [
      | inl x ↦ let e = x.1 in omega arith
      | inr x ↦ pass_none first (source_told src) l c.requires.fits c.requires.blank now (words_left it.b) it.a.start x.1.0 v.3
    ] in
    pass_all first (source_told src) l c.requires.fits c.requires.blank now (words_left it.b) it.a.start end v.3
