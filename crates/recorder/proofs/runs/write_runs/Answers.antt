use Rattle.std.proofs.Common.{refl, ◌∙◌, arith, rules}
use Rattle.recorder.specs.Words.{marks_told}
use Rattle.recorder.proofs.Shown.{marks_length}
use Rattle.recorder.proofs.Closing.{write_first, write_begun, write_room, write_more, write_all}
use Rattle.recorder.proofs.runs.write_runs.Goals as goal

pub loop-pixel-init : goal.loop-pixel-init
loop-pixel-init g c = (write_first (marks_told (g.S.Source.told c.args.source.now)) c.args.out.now c.args.at, refl, refl)

pub put_run-requires : goal.put_run-requires
put_run-requires g c =
    let t = g.S.Source.told c.args.source.now in
    let ms = marks_told t in
    let l = c.loop-pixel in
    let m = c.is_shown-marked.result in
    let b = write_begun ms c.args.out.now l.out.bytes.now c.args.at l.out.at l.first c.ended_run.result l.pixel m (omega (arith, marks_length t, c.pixel_count-pixel-end.ensures.is)) c.is_shown-marked.ensures c.ended_run.ensures l.invariant.0 in
    let r = write_room ms c.args.out.now l.out.bytes.now c.args.at l.out.at l.first c.ended_run.result l.pixel m (omega (arith, marks_length t, c.pixel_count-pixel-end.ensures.is)) c.is_shown-marked.ensures c.ended_run.ensures l.invariant.0 in
    record { begun = b; room = omega (arith, c.requires, l.invariant.1) }

pub loop-pixel-preserved : goal.loop-pixel-preserved
loop-pixel-preserved g c =
    let t = g.S.Source.told c.args.source.now in
    let ms = marks_told t in
    let l = c.loop-pixel in
    let m = c.is_shown-marked.result in (
      write_more ms c.args.out.now l.out.bytes.now c.args.at l.out.at l.first c.ended_run.result l.pixel m (omega (arith, marks_length t, c.pixel_count-pixel-end.ensures.is)) c.is_shown-marked.ensures c.ended_run.ensures l.invariant.0
          c.put_run.new.self.bytes.now c.open_run-first.result c.put_run.new.self.at c.put_run.ensures.memory c.put_run.ensures.is c.open_run-first.ensures,
      c.put_run.ensures.len ∙ l.invariant.1,
      c.put_run.ensures.same_reference ∙ l.invariant.2,
    )

pub returns : goal.returns
returns g c =
    let t = g.S.Source.told c.args.source.now in
    let l = c.loop-pixel in
    let e = write_all (marks_told t) c.args.out.now l.out.bytes.now c.args.at l.out.at l.first l.pixel (omega (arith, marks_length t, c.pixel_count-pixel-end.ensures.is)) l.invariant.0 in
    search (rules, e)
