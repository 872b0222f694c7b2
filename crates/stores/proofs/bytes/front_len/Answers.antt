use Rattle.std.proofs.Common.{◌≡◌, ◌+◌, ◌-◌, arith}
use Rattle.stores.proofs.Fronts.{count_more}
use Rattle.stores.proofs.bytes.front_len.Goals as goal

pub returns-then-corners-eq-CORNERS-clause-is : goal.returns-then-corners-eq-CORNERS-clause-is
returns-then-corners-eq-CORNERS-clause-is c =
    let e = count_more c.args.bytes.now c.loop-i.i c.loop-i.corners c.from-corners.result c.loop-i-test.true c.from-corners.ensures c.loop-i.invariant in
    let z : 4 - (c.loop-i.corners + c.from-corners.result) ≡ 0 = omega (arith, c.if-corners-eq-CORNERS.true) in
    omega (arith, rw z at e.0)

pub loop-i-preserved : goal.loop-i-preserved
loop-i-preserved c =
    let e = count_more c.args.bytes.now c.loop-i.i c.loop-i.corners c.from-corners.result c.loop-i-test.true c.from-corners.ensures c.loop-i.invariant in
    (e.0, omega (arith, e.1, c.if-corners-eq-CORNERS.false))
