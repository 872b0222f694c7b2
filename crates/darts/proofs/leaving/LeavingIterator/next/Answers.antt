use Rattle.std.proofs.Common.{◌≡◌, ◌≤◌, length, sym, ap, ◌∙◌, arith, rules}
use Rattle.darts.proofs.Filling.{still_one, still_past, still_none}
use Rattle.darts.proofs.leaving.LeavingIterator.next.Goals as goal

pub returns-then-self-clause-steps : goal.returns-then-self-clause-steps
returns-then-self-clause-steps c =
    let l = c.loop-self.self in
    let four : length l.counts ≡ 4 = search rules in
    sym c.loop-self.invariant ∙ still_one l.pixel l.road l.place l.counts c.loop-self-test.true four c.if-self.true

pub returns-then-self-clause-goes : goal.returns-then-self-clause-goes
returns-then-self-clause-goes c = let e = ap length (returns-then-self-clause-steps c) in search (rules, e)

pub loop-self-preserved : goal.loop-self-preserved
loop-self-preserved c =
    let l = c.loop-self.self in
    let four : length l.counts ≡ 4 = search rules in
    still_past l.pixel l.road l.place l.counts c.loop-self-test.true four (omega (arith, c.if-self.false)) ∙ c.loop-self.invariant

pub returns-clause-steps : goal.returns-clause-steps
returns-clause-steps c =
    let l = c.loop-self.self in
    let h : 4 ≤ l.road = omega (arith, c.loop-self-test.false) in
    sym c.loop-self.invariant ∙ still_none l.pixel l.road l.place l.counts h
