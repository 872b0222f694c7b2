use Rattle.std.proofs.Common.{◌<◌, ◌≤◌, length, sym, ap, ◌∙◌, arith, rules}
use Rattle.model.specs.Sheets.{pixels}
use Rattle.stores.specs.Sources.{sheet_told}
use Rattle.darts.specs.Rest.{still}
use Rattle.darts.proofs.Resting.{rest_one, rest_more, rest_none}
use Rattle.darts.proofs.order.DartsIterator.next.Goals as goal

pub returns-in-Some-clause-steps : goal.returns-in-Some-clause-steps
returns-in-Some-clause-steps g c =
    let s = sheet_told (g.S.Source.told c.loop-dart.self.source.now) in
    sym c.loop-dart.invariant ∙ rest_one s (still c.loop-dart.self.here) (still c.next.new.self) c.in-Some.dart c.loop-dart.self.pixel c.in-Some.ensures.steps

pub returns-in-Some-clause-goes : goal.returns-in-Some-clause-goes
returns-in-Some-clause-goes g c = let e = ap length (returns-in-Some-clause-steps g c) in search (rules, e)

pub returns-then-self-pixels_of-clause-steps : goal.returns-then-self-pixels_of-clause-steps
returns-then-self-pixels_of-clause-steps g c =
    let s = sheet_told (g.S.Source.told c.loop-dart.self.source.now) in
    let h : pixels s ≤ c.loop-dart.self.pixel = omega (arith, c.pixels_of.ensures, c.if-self-pixels_of.true) in
    sym c.loop-dart.invariant ∙ rest_none s (still c.loop-dart.self.here) c.loop-dart.self.pixel c.in_default.ensures.steps h

pub loop-dart-preserved : goal.loop-dart-preserved
loop-dart-preserved g c =
    let s = sheet_told (g.S.Source.told c.loop-dart.self.source.now) in
    let h : c.loop-dart.self.pixel < pixels s = omega (arith, c.pixels_of.ensures, c.if-self-pixels_of.false) in
    rest_more s (still c.loop-dart.self.here) (still c.of-self.result) c.loop-dart.self.pixel c.in_default.ensures.steps h c.of-self.ensures ∙ c.loop-dart.invariant
