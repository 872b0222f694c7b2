use Rattle.std.proofs.Common.{refl, arith}
use Rattle.rows.specs.Rows.{items}
use Rattle.records.specs.Behind.{any_word}
use Rattle.records.proofs.Cuts.{skip_on, skip_stops}
use Rattle.records.proofs.body.seek.Goals as goal

pub returns-in_err-read_word : goal.returns-in_err-read_word
returns-in_err-read_word c =
    rw c.from_residual.ensures
    (skip_stops any_word c.args.bytes.now c.args.words c.loop-word._word c.loop-word.from (omega arith) c.in_err-read_word.ensures c.loop-word.invariant)

pub loop-word-preserved : goal.loop-word-preserved
loop-word-preserved c =
    rw c.len.ensures.is
    (skip_on any_word c.args.bytes.now c.args.words c.loop-word._word c.loop-word.from (items c.in_ok-read_word.field-0) (omega arith) c.in_ok-read_word.ensures refl c.loop-word.invariant)
