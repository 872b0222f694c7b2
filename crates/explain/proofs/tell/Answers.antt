use Rattle.std.proofs.Common.{string_bytes, refl, rules, arith}
use Rattle.drawings.specs.Drawings.{crossings}
use Rattle.explain.specs.Explained.{written, meaning}
use Rattle.explain.proofs.Letters.{tell_turn}
use Rattle.explain.proofs.tell.Goals as goal

pub loop-i-preserved : goal.loop-i-preserved
loop-i-preserved c =
    let line = c.unwrap-line.result in
    tell_turn (crossings c.args.d.now) c.len-n.result c.loop-i.i (string_bytes c.loop-i.text) (string_bytes c.write.new.self)
    (written line) (meaning (crossings c.args.d.now)) line (omega arith) c.len-n.ensures (search rules) refl (search rules) c.loop-i.invariant
