use Rattle.std.proofs.Common.{◌<◌, length, [], ◌∷◌, ◌∙◌, arith, length-append}
use Rattle.stores.specs.Sources.{sheet_told}
use Rattle.stores.proofs.Writes.{told_sheetly}
use Rattle.darts.proofs.Coming.{listed_dart, listed_few, listed_more}
use Rattle.checks.proofs.Adding.{one_added}
use Rattle.checks.proofs.totals.total.Goals as goal

pub amount-requires : goal.amount-requires
amount-requires g c =
    c.requires c.in-Some.dart (listed_dart (sheet_told (g.S.Source.told c.args.free.now.source.now)) c.loop-dart.yielded _ c.in-Some.dart _ c.in-Some.ensures.steps c.loop-dart.invariant.listed)

pub overflow_add-sum : goal.overflow_add-sum
overflow_add-sum g c =
    let t = g.S.Source.told c.args.free.now.source.now in
    let h : length c.loop-dart.yielded < 245760 = listed_few (sheet_told t) c.loop-dart.yielded _ c.in-Some.dart _ c.in-Some.ensures.steps c.loop-dart.invariant.listed (told_sheetly t (g.S.Source.lawful c.args.free.now.source.now)) in
    omega (arith, c.loop-dart.invariant.fits, c.amount.type_inv, c.from-sum.ensures)

pub loop-dart-preserved : goal.loop-dart-preserved
loop-dart-preserved g c =
    let s = sheet_told (g.S.Source.told c.args.free.now.source.now) in
    let h = listed_dart s c.loop-dart.yielded _ c.in-Some.dart _ c.in-Some.ensures.steps c.loop-dart.invariant.listed in
    record {
      listed = listed_more s c.loop-dart.yielded _ c.in-Some.dart _ c.in-Some.ensures.steps c.loop-dart.invariant.listed;
      sum = λ f k. one_added f c.loop-dart.yielded c.in-Some.dart c.loop-dart.sum c.from-sum.result (c.loop-dart.invariant.sum f k) (c.from-sum.ensures ∙ k c.in-Some.dart c.amount.result h c.amount.ensures);
      fits = omega (arith, c.loop-dart.invariant.fits, c.amount.type_inv, c.from-sum.ensures, length-append c.loop-dart.yielded (c.in-Some.dart ∷ []));
    }
