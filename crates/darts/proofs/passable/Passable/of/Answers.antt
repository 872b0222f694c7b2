use Rattle.std.proofs.Common.{ℕ, ◌<◌, ◌≤◌, refl, Ok, Option, sym, ap, ◌∙◌, arith}
use Rattle.symbols.specs.declared.roads.Road.{Road}
use Rattle.model.specs.Sheets.{pixels}
use Rattle.model.specs.Streets.{road_refused}
use Rattle.stores.specs.Sources.{sheet_told}
use Rattle.darts.proofs.Failing.{sides_more, sides_stop, none_found, roads_free}
use Rattle.darts.proofs.passable.Passable.of.Goals as goal

pub returns-in-Some : goal.returns-in-Some
returns-in-Some g c =
    let s = sheet_told (g.S.Source.told c.args.source.now) in
    let h : c.loop-pixel.pixel < pixels s = omega (arith, c.pixels_of-pixel-end.ensures, c.loop-pixel-test.true) in
    ap (λ (o : Option (ℕ × Road)). road_refused o (Ok tt)) (sym (sides_stop s c.loop-pixel.pixel h c.in-Some.road c.in-Some.ensures) ∙ c.loop-pixel.invariant)

pub loop-pixel-preserved : goal.loop-pixel-preserved
loop-pixel-preserved g c =
    let s = sheet_told (g.S.Source.told c.args.source.now) in
    let h : c.loop-pixel.pixel < pixels s = omega (arith, c.pixels_of-pixel-end.ensures, c.loop-pixel-test.true) in
    sides_more s c.loop-pixel.pixel h c.in_default.ensures ∙ c.loop-pixel.invariant

pub invariant_of-result : goal.invariant_of-result
invariant_of-result g c =
    let s = sheet_told (g.S.Source.told c.args.source.now) in
    let h : pixels s ≤ c.loop-pixel.pixel = omega (arith, c.pixels_of-pixel-end.ensures, c.loop-pixel-test.false) in
    record { free = roads_free s c.loop-pixel.pixel h c.loop-pixel.invariant }

pub returns : goal.returns
returns g c =
    let s = sheet_told (g.S.Source.told c.args.source.now) in
    let h : pixels s ≤ c.loop-pixel.pixel = omega (arith, c.pixels_of-pixel-end.ensures, c.loop-pixel-test.false) in
    (refl, none_found s c.loop-pixel.pixel h c.loop-pixel.invariant)
