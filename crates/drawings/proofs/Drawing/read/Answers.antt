use Rattle.std.proofs.Common.{rules}
use Rattle.rows.specs.Rows.{items}
use Rattle.drawings.proofs.Sound.{sound}
use Rattle.drawings.proofs.Drawing.read.Goals as goal

pub invariant_of-result : goal.invariant_of-result
invariant_of-result c =
    let s = sound c.args.symbols.now (items c.read_crossings.new.crossings) c.if-not-has_shape.ensures (search rules) in
    record { within = s.0; sound = s.1 }
