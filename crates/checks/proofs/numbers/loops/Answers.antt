use Rattle.std.proofs.Common.{◌≤◌, ◌∙◌, arith, rules}
use Rattle.stores.specs.Sources.{sheet_told}
use Rattle.stores.proofs.Writes.{told_sheetly}
use Rattle.checks.specs.Tallies.{roots}
use Rattle.checks.proofs.Numbering.{loops_are, counts_few}
use Rattle.checks.proofs.numbers.loops.Goals as goal

pub overflow_cast-result : goal.overflow_cast-result
overflow_cast-result g c =
    let t = g.S.Source.told c.args.free.now.source.now in
    let h : c.total.result ≤ 245760 = omega (arith, (c.total.ensures (roots (sheet_told (g.S.Source.told c.args.free.now.source.now))) (λ d n h p. search rules)), (counts_few (sheet_told t) (told_sheetly t (g.S.Source.lawful c.args.free.now.source.now))).1) in
    search rules

pub returns : goal.returns
returns g c = (c.total.ensures (roots (sheet_told (g.S.Source.told c.args.free.now.source.now))) (λ d n h p. search rules)) ∙ loops_are (sheet_told (g.S.Source.told c.args.free.now.source.now))
