use Rattle.std.proofs.Common.{◌≡◌, length, refl, ap, arith}
use Rattle.codec.specs.Runs.{runs}
use Rattle.codec.proofs.Runs.{runs_length}
use Rattle.recorder.specs.Words.{marks_told}
use Rattle.recorder.specs.Runs.{still_open}
use Rattle.recorder.proofs.Shown.{marks_length}
use Rattle.recorder.proofs.Closing.{left_first, left_none, count_more}
use Rattle.recorder.proofs.runs.count_runs.Goals as goal

pub loop-pixel-init : goal.loop-pixel-init
loop-pixel-init g c =
    let ms = marks_told (g.S.Source.told c.args.source.now) in
    let e = ap length (left_first ms) in
    omega arith

pub overflow_add-n : goal.overflow_add-n
overflow_add-n g c =
    let t = g.S.Source.told c.args.source.now in
    let ms = marks_told t in
    let o = c.loop-pixel.first in
    let p = c.loop-pixel.pixel in
    let m = c.is_shown-marked.result in
    let k = count_more ms o c.ended_run.result (still_open o p m) p c.loop-pixel.n c.from-n.result (length (runs 0 ms)) m c.is_some.result (omega (arith, marks_length t, c.pixel_count-pixel-end.ensures.is)) c.is_shown-marked.ensures c.ended_run.ensures c.is_some.ensures c.from-n.ensures refl c.loop-pixel.invariant in
    omega (arith, runs_length ms 0, marks_length t, c.pixel_count-pixel-end.ensures.is, c.pixel_count-pixel-end.ensures.most)

pub loop-pixel-preserved : goal.loop-pixel-preserved
loop-pixel-preserved g c =
    let t = g.S.Source.told c.args.source.now in
    let ms = marks_told t in
    let o = c.loop-pixel.first in
    let p = c.loop-pixel.pixel in
    let m = c.is_shown-marked.result in
    count_more ms o c.ended_run.result c.open_run-first.result p c.loop-pixel.n c.from-n.result (length (runs 0 ms)) m c.is_some.result (omega (arith, marks_length t, c.pixel_count-pixel-end.ensures.is)) c.is_shown-marked.ensures c.ended_run.ensures c.is_some.ensures c.from-n.ensures c.open_run-first.ensures c.loop-pixel.invariant

pub returns : goal.returns
returns g c =
    let t = g.S.Source.told c.args.source.now in
    let ms = marks_told t in
    let e = ap length (left_none ms c.loop-pixel.first c.loop-pixel.pixel (omega (arith, marks_length t, c.pixel_count-pixel-end.ensures.is))) in
    let r : c.loop-pixel.n ≡ length (runs 0 ms) = omega (arith, c.loop-pixel.invariant) in
    record { is = r; most = omega (arith, runs_length ms 0, marks_length t, c.pixel_count-pixel-end.ensures.is, c.pixel_count-pixel-end.ensures.most) }
