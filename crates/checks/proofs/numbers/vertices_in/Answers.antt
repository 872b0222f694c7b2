use Rattle.std.proofs.Common.{arith}
use Rattle.checks.proofs.Numbering.{vertex_yes, vertex_no}
use Rattle.checks.proofs.numbers.vertices_in.Goals as goal
use Rattle.checks.proofs.numbers.vertices_in.Goals.{then-begins_vertex, else-begins_vertex}

pub loop-i-preserved : goal.loop-i-preserved
loop-i-preserved c =
    let d = c.crossings-crossing-items.result.now in
    elim c.if-begins_vertex.branch [
      | then-begins_vertex w ↦
          (let e = vertex_yes d c.loop-i.i _ c.loop-i-test.true w.if-begins_vertex.ensures in
          (omega (arith, e, w.n-is, c.loop-i.invariant.0), omega (arith, w.n-is, c.loop-i.invariant.1)))
      | else-begins_vertex w ↦
          (let e = vertex_no d c.loop-i.i _ c.loop-i-test.true w.if-begins_vertex.ensures in
          (omega (arith, e, w.n-is, c.loop-i.invariant.0), omega (arith, w.n-is, c.loop-i.invariant.1)))
    ]
