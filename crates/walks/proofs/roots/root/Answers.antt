use Rattle.std.proofs.Common.{ap, ◌∙◌, rules}
use Rattle.model.specs.Streets.{root}
use Rattle.stores.specs.Sources.{sheet_told}
use Rattle.stores.proofs.Writes.{told_sheetly}
use Rattle.walks.proofs.Rounds.{walk_start, walk_less, walk_more, walk_home, walk_refused}
use Rattle.walks.proofs.roots.root.Goals as goal

pub loop-walk-init : goal.loop-walk-init
loop-walk-init g c =
    let t = g.S.Source.told c.args.source.now in
    (walk_start (sheet_told t) (told_sheetly t (g.S.Source.lawful c.args.source.now)) c.args.dart c.in_ok-walk.walk c.in_ok-walk.ensures).1

pub loop-walk-smaller : goal.loop-walk-smaller
loop-walk-smaller g c =
    let t = g.S.Source.told c.args.source.now in
    walk_less (sheet_told t) (told_sheetly t (g.S.Source.lawful c.args.source.now)) c.in_ok-walk.walk.start c.loop-walk.walk c.loop-walk.low c.loop-walk.invariant
    c.step.new.self c.in_ok-step.ensures.answer c.in_ok-step.ensures.after

pub loop-walk-preserved : goal.loop-walk-preserved
loop-walk-preserved g c =
    let t = g.S.Source.told c.args.source.now in
    walk_more (sheet_told t) (told_sheetly t (g.S.Source.lawful c.args.source.now)) c.in_ok-walk.walk.start c.loop-walk.walk c.loop-walk.low c.loop-walk.invariant
    c.step.new.self c.in_ok-step.ensures.answer c.in_ok-step.ensures.after c.lesser-low.result c.if-is_home.ensures c.lesser-low.ensures

pub returns-in_err-step : goal.returns-in_err-step
returns-in_err-step g c =
    let t = g.S.Source.told c.args.source.now in
    let k = told_sheetly t (g.S.Source.lawful c.args.source.now) in
    let b = walk_start (sheet_told t) k c.args.dart c.in_ok-walk.walk c.in_ok-walk.ensures in
    let e = walk_refused (sheet_told t) k c.in_ok-walk.walk.start c.loop-walk.walk c.loop-walk.low c.loop-walk.invariant _ c.in_err-step.ensures.answer ∙ ap (root (sheet_told t)) b.0 in
    search rules

pub returns-then-is_home : goal.returns-then-is_home
returns-then-is_home g c =
    let t = g.S.Source.told c.args.source.now in
    let k = told_sheetly t (g.S.Source.lawful c.args.source.now) in
    let b = walk_start (sheet_told t) k c.args.dart c.in_ok-walk.walk c.in_ok-walk.ensures in
    walk_home (sheet_told t) k c.in_ok-walk.walk.start c.loop-walk.walk c.loop-walk.low c.loop-walk.invariant
    c.step.new.self c.in_ok-step.ensures.answer c.in_ok-step.ensures.after c.if-is_home.ensures ∙ ap (root (sheet_told t)) b.0
