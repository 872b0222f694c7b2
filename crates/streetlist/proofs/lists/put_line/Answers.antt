use Rattle.std.proofs.Common.{[], ◌∷◌, sym, ◌∙◌, arith, length-append}
use Rattle.model.specs.Darts.{next_of}
use Rattle.model.specs.Streets.{leaves_vertex, item}
use Rattle.stores.specs.Sources.{sheet_told}
use Rattle.stores.proofs.Writes.{told_sheetly}
use Rattle.darts.proofs.Taken.{there, taken}
use Rattle.streetlist.proofs.Lining.{lining_dart, lining_short, lining_more, lining_end}
use Rattle.streetlist.proofs.lists.put_line.Goals as goal

pub put_item-requires : goal.put_item-requires
put_item-requires g c =
    let t = g.S.Source.told c.args.free.now.source.now in
    let l = lining_short (sheet_told t) (told_sheetly t (g.S.Source.lawful c.args.free.now.source.now)) c.args.free.now.free c.args.dart c.requires.dart c.requires.begins c.loop-text.last c.args.text.now c.loop-text.text c.loop-text.invariant in
    omega (arith, c.requires.early, l.1)

pub unwrap-ahead-requires : goal.unwrap-ahead-requires
unwrap-ahead-requires g c =
    let t = g.S.Source.told c.args.free.now.source.now in
    there (sheet_told t) c.loop-text.last (next_of (sheet_told t) c.loop-text.last) c.next.result c.next.ensures.is
    (lining_dart (sheet_told t) (told_sheetly t (g.S.Source.lawful c.args.free.now.source.now)) c.args.free.now.free c.args.dart c.requires.dart c.requires.begins c.loop-text.last c.args.text.now c.loop-text.text c.loop-text.invariant)

pub unwrap-requires : goal.unwrap-requires
unwrap-requires g c =
    let s = sheet_told (g.S.Source.told c.args.free.now.source.now) in
    there s c.unwrap-ahead.result (leaves_vertex s c.unwrap-ahead.result) c.begins.result c.begins.ensures (rw c.unwrap-ahead.ensures at c.next.ensures.dart)

pub put_arrow-requires : goal.put_arrow-requires
put_arrow-requires g c =
    let t = g.S.Source.told c.args.free.now.source.now in
    let l = lining_short (sheet_told t) (told_sheetly t (g.S.Source.lawful c.args.free.now.source.now)) c.args.free.now.free c.args.dart c.requires.dart c.requires.begins c.loop-text.last c.args.text.now c.loop-text.text c.loop-text.invariant in
    omega (arith, c.requires.early, l.1, c.put_item.ensures.few)

pub returns-then-unwrap : goal.returns-then-unwrap
returns-then-unwrap g c =
    let t = g.S.Source.told c.args.free.now.source.now in
    let k = told_sheetly t (g.S.Source.lawful c.args.free.now.source.now) in
    let l = lining_short (sheet_told t) k c.args.free.now.free c.args.dart c.requires.dart c.requires.begins c.loop-text.last c.args.text.now c.loop-text.text c.loop-text.invariant in
    let n = taken (sheet_told t) c.loop-text.last (next_of (sheet_told t) c.loop-text.last) c.unwrap-ahead.result c.next.result c.next.ensures.is (lining_dart (sheet_told t) (told_sheetly t (g.S.Source.lawful c.args.free.now.source.now)) c.args.free.now.free c.args.dart c.requires.dart c.requires.begins c.loop-text.last c.args.text.now c.loop-text.text c.loop-text.invariant) (sym c.unwrap-ahead.ensures) in
    let b = taken (sheet_told t) c.unwrap-ahead.result (leaves_vertex (sheet_told t) c.unwrap-ahead.result) c.unwrap.result c.begins.result c.begins.ensures (rw c.unwrap-ahead.ensures at c.next.ensures.dart) (sym c.unwrap.ensures) in
    record {
      puts = lining_end (sheet_told t) k c.args.free.now.free c.args.dart c.requires.dart c.requires.begins c.loop-text.last c.args.text.now c.loop-text.text c.loop-text.invariant
          c.put_item.new.self c.unwrap-ahead.result c.put_item.ensures.puts c.put_item.ensures.few n
          (sym c.if-unwrap.true ∙ b) c.put_arrow.new.self c.put_arrow.ensures.puts;
      few = omega (arith, l.1, c.put_item.ensures.few, c.put_arrow.ensures.few);
    }

pub loop-text-smaller : goal.loop-text-smaller
loop-text-smaller g c =
    let t = g.S.Source.told c.args.free.now.source.now in
    let l = lining_short (sheet_told t) (told_sheetly t (g.S.Source.lawful c.args.free.now.source.now)) c.args.free.now.free c.args.dart c.requires.dart c.requires.begins c.loop-text.last c.args.text.now c.loop-text.text c.loop-text.invariant in
    omega (arith, l.0, c.put_item.ensures.puts.puts.behind, length-append (item c.loop-text.last) (32 ∷ []))

pub loop-text-preserved : goal.loop-text-preserved
loop-text-preserved g c =
    let t = g.S.Source.told c.args.free.now.source.now in
    let n = taken (sheet_told t) c.loop-text.last (next_of (sheet_told t) c.loop-text.last) c.unwrap-ahead.result c.next.result c.next.ensures.is (lining_dart (sheet_told t) (told_sheetly t (g.S.Source.lawful c.args.free.now.source.now)) c.args.free.now.free c.args.dart c.requires.dart c.requires.begins c.loop-text.last c.args.text.now c.loop-text.text c.loop-text.invariant) (sym c.unwrap-ahead.ensures) in
    let b = taken (sheet_told t) c.unwrap-ahead.result (leaves_vertex (sheet_told t) c.unwrap-ahead.result) c.unwrap.result c.begins.result c.begins.ensures (rw c.unwrap-ahead.ensures at c.next.ensures.dart) (sym c.unwrap.ensures) in
    lining_more (sheet_told t) (told_sheetly t (g.S.Source.lawful c.args.free.now.source.now)) c.args.free.now.free c.args.dart c.requires.dart c.requires.begins c.loop-text.last c.args.text.now c.loop-text.text c.loop-text.invariant
    c.put_item.new.self c.unwrap-ahead.result c.put_item.ensures.puts c.put_item.ensures.few n (sym c.if-unwrap.false ∙ b)
