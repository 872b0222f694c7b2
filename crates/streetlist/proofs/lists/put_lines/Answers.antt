use Rattle.std.proofs.Common.{◌<◌, ap, ◌∙◌, length, arith}
use Rattle.std.specs.List.{flat_map}
use Rattle.model.specs.Darts.{darts}
use Rattle.model.specs.Streets.{street_lines, line_text}
use Rattle.stores.specs.Sources.{sheet_told}
use Rattle.stores.proofs.Writes.{told_sheetly}
use Rattle.darts.proofs.Coming.{listed_dart, listed_few, listed_more, listed_all}
use Rattle.streetlist.specs.Lists.{begun_line}
use Rattle.streetlist.proofs.Putting.{put_like}
use Rattle.streetlist.proofs.Listing.{begun_lines, listing_more}
use Rattle.streetlist.proofs.lists.put_lines.Goals as goal

pub put_begun-requires : goal.put_begun-requires
put_begun-requires g c =
    let t = g.S.Source.told c.args.free.now.source.now in
    let h : length c.loop-dart.yielded < 245760 = listed_few (sheet_told t) c.loop-dart.yielded _ c.in-Some.dart _ c.in-Some.ensures.steps c.loop-dart.invariant.listed (told_sheetly t (g.S.Source.lawful c.args.free.now.source.now)) in
    record {
      dart = listed_dart (sheet_told t) c.loop-dart.yielded _ c.in-Some.dart _ c.in-Some.ensures.steps c.loop-dart.invariant.listed;
      early = omega (arith, c.requires, c.loop-dart.invariant.lines.few);
    }

pub loop-dart-preserved : goal.loop-dart-preserved
loop-dart-preserved g c =
    let s = sheet_told (g.S.Source.told c.args.free.now.source.now) in
    record {
      listed = listed_more s c.loop-dart.yielded _ c.in-Some.dart _ c.in-Some.ensures.steps c.loop-dart.invariant.listed;
      lines = listing_more s c.loop-dart.yielded c.in-Some.dart c.args.text.now c.loop-dart.text c.loop-dart.invariant.lines c.put_begun.new.text c.put_begun.ensures.puts c.put_begun.ensures.few;
    }

pub returns : goal.returns
returns g c =
    let s = sheet_told (g.S.Source.told c.args.free.now.source.now) in
    let e = listed_all s c.loop-dart.yielded _ c.loop-dart.invariant.listed c.in-None.ensures.steps in
    put_like (flat_map (begun_line s) c.loop-dart.yielded) (flat_map line_text (street_lines s)) c.args.text.now c.loop-dart.text
    (ap (flat_map (begun_line s)) e ∙ begun_lines s (darts s)) c.loop-dart.invariant.lines.puts
