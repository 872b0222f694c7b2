use Rattle.std.proofs.Common.{◌≡◌, ℕ, sym, ◌∙◌, subst, arith}
use Rattle.stores.specs.Sources.{sheet_told}
use Rattle.walks.proofs.Going.{Gone, accepted, refused, gone_none, gone_more, gone_stop, gone_all}
use Rattle.walks.proofs.steps.walk_on.Goals as goal

pub loop-made-init : goal.loop-made-init
loop-made-init g c = gone_none (sheet_told (g.S.Source.told c.args.source.now)) c.args.n c.args.walk.now

pub returns-then-is_err : goal.returns-then-is_err
returns-then-is_err g c =
    let s = sheet_told (g.S.Source.told c.args.source.now) in
    let f = refused c.step.result (sym c.if-is_err.ensures.value) in
    let r = gone_stop s c.args.n c.args.walk.now c.loop-made.made c.loop-made.walk c.loop-made-test.true c.loop-made.invariant f.0 c.step.new.self (f.1 ∙ c.step.ensures.answer) c.step.ensures.after in
    record { made = r.0; after = r.1; onward = r.2.onward_is; counted = r.2.counted; started = r.2.started }

pub loop-made-preserved : goal.loop-made-preserved
loop-made-preserved g c =
    gone_more (sheet_told (g.S.Source.told c.args.source.now)) c.args.n c.args.walk.now c.loop-made.made c.loop-made.walk c.loop-made-test.true c.loop-made.invariant c.step.new.self
    (accepted c.step.result (sym c.if-is_err.ensures.value) ∙ c.step.ensures.answer) c.step.ensures.after

pub returns : goal.returns
returns g c =
    let s = sheet_told (g.S.Source.told c.args.source.now) in
    let u = c.args.walk.now in
    let w = c.loop-made.walk in
    let n : ℕ = c.args.n in
    let e : c.loop-made.made ≡ n = omega arith in
    let i : Gone s n u n w = subst (λ (x : ℕ). Gone s n u x w) e c.loop-made.invariant in
    let r = gone_all s n u w i in
    record { made = r.0; after = r.1; onward = i.onward_is; counted = i.counted; started = i.started }
