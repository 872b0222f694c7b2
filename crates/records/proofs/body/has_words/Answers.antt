use Rattle.std.proofs.Common.{sym, ap, ◌∙◌, arith}
use Rattle.rows.specs.Rows.{items}
use Rattle.records.specs.Behind.{in_run, padded}
use Rattle.records.proofs.Cuts.{skip_on, skip_stops, skip_bad}
use Rattle.records.proofs.body.has_words.Goals as goal

pub returns-in_default : goal.returns-in_default
returns-in_default c =
    sym (ap padded (skip_stops in_run c.args.bytes.now c.args.words c.loop-word._word c.loop-word.from (omega arith) c.in_default.ensures c.loop-word.invariant))

pub returns-then-not-may_stand : goal.returns-then-not-may_stand
returns-then-not-may_stand c =
    let w = items c.in-Some.word in
    sym (ap padded (skip_bad in_run c.args.bytes.now c.args.words c.loop-word._word c.loop-word.from w (omega arith) c.in-Some.ensures
    (ap in_run (sym c.as_slice.ensures) ∙ sym c.may_stand.ensures ∙ c.if-not-may_stand.true) c.loop-word.invariant))

pub loop-word-preserved : goal.loop-word-preserved
loop-word-preserved c =
    let w = items c.in-Some.word in
    rw c.len.ensures.is
    (skip_on in_run c.args.bytes.now c.args.words c.loop-word._word c.loop-word.from w (omega arith) c.in-Some.ensures
    (ap in_run (sym c.as_slice.ensures) ∙ sym c.may_stand.ensures ∙ c.if-not-may_stand.false) c.loop-word.invariant)
