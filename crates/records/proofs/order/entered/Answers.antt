use Rattle.std.proofs.Common.{◌≡◌, ℕ, true, sym, ap, ◌∙◌, arith}
use Rattle.records.specs.Rows.{run_of, runs_left}
use Rattle.records.specs.Ahead.{begins, spot_ahead}
use Rattle.records.proofs.Ahead.{enter}
use Rattle.records.proofs.order.entered.Goals as goal

pub returns-in-Some-clause-spots : goal.returns-in-Some-clause-spots
returns-in-Some-clause-spots c =
    let p = c.args.place in
    let r = run_of c.in-Some.run' in
    let b : begins p.low c.args.end r p.pixel ≡ true = sym c.begins.ensures ∙ c.if-begins.true in
    let z : 0 ≡ p.inside = omega arith in
    λ k h.
    enter p.low c.args.end p.pixel c.past.result (runs_left p.runs) (runs_left c.next.new.self) r k c.in-Some.ensures.steps b c.past.ensures h
    ∙ ap (λ (i : ℕ). spot_ahead c.args.end p.pixel i p.low (runs_left p.runs) k) z
