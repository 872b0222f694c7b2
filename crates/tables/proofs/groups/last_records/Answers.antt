use Rattle.std.proofs.Common.{◌<◌, ◌∙◌, arith}
use Rattle.std.proofs.lemmas.List.{length-set}
use Rattle.tables.proofs.Members.{last_more}
use Rattle.tables.proofs.groups.last_records.Goals as goal

pub loop-k-preserved : goal.loop-k-preserved
loop-k-preserved c =
    let k = c.loop-k.k in
    let low : c.from.result < 60 = omega (arith, c.from.ensures, c.requires.1 k (omega arith), c.requires.0) in (
      length-set c.loop-k.lasts c.from.result k ∙ c.loop-k.invariant.0,
      last_more c.args.firsts.now c.loop-k.lasts k c.from.result c.from.ensures (omega (arith, low, c.loop-k.invariant.0)) c.loop-k.invariant.1,
    )
