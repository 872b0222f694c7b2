use Rattle.std.proofs.Common.{sym, arith}
use Rattle.rules.proofs.Places.{crossing_is, crossing_none}
use Rattle.drawings.proofs.Counting.{count_yes, count_no, count_full}
use Rattle.drawings.proofs.questions.find_place.Goals as goal

pub loop-i-preserved-then-c-road : goal.loop-i-preserved-then-c-road
loop-i-preserved-then-c-road c =
    omega (arith, c.loop-i.invariant, count_no c.args.road c.args.table.now c.loop-i.i (omega arith) c.if-c-road.true)

pub returns-then-left-eq0 : goal.returns-then-left-eq0
returns-then-left-eq0 c =
    sym (crossing_is c.args.table.now c.args.road c.args.place c.loop-i.i (omega arith) (sym c.if-c-road.false) (omega (arith, c.loop-i.invariant)))

pub loop-i-preserved : goal.loop-i-preserved
loop-i-preserved c =
    omega (arith, c.loop-i.invariant, c.if-left-eq0.false, count_yes c.args.road c.args.table.now c.loop-i.i (omega arith) c.if-c-road.false)

pub returns : goal.returns
returns c =
    sym (crossing_none c.args.table.now c.args.road c.args.place (omega (arith, c.loop-i.invariant, count_full c.args.road c.args.table.now c.loop-i.i (omega arith))))
