use Rattle.std.proofs.Common.{◌<◌, length, sym, ◌∙◌, arith}
use lib.ListN.{length-map}
use Rattle.std.proofs.lemmas.List.{get_or-map}
use Rattle.symbols.specs.declared.symbols.Symbol.TheVariants.{Corner}
use Rattle.symbols.specs.Symbols.{code}
use Rattle.stores.specs.Bytes.{encoded}
use Rattle.stores.proofs.Fronts.{put_more}
use Rattle.stores.proofs.bytes.put_word.Goals as goal

pub loop-i-preserved : goal.loop-i-preserved
loop-i-preserved c =
    let w = c.args.word.now in
    let l : c.loop-i.i < length (encoded w) = omega (arith, length-map w code) in
    put_more (encoded w) c.args.bytes.now c.loop-i.bytes 0 c.loop-i.i c.from.result l (omega arith)
    (c.from.ensures ∙ sym (get_or-map code w c.loop-i.i Corner 0 (omega arith))) c.loop-i.invariant
