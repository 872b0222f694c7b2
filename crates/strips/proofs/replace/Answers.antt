use Rattle.std.proofs.Common.{length}
use lib.ListN.{length-map}
use Rattle.symbols.specs.Symbols.{code}
use Rattle.stores.specs.Bytes.{encoded}
use Rattle.strips.proofs.Steps.{replaced_by}
use Rattle.strips.proofs.replace.Goals as goal

pub returns : goal.returns
returns c =
    let w = c.args.word.now in
    replaced_by c.args.part.now c.shift.new.part c.put_word.new.bytes (encoded w) (length w) c.args.old c.args.tail (length-map w code) c.requires.before c.requires.after c.shift.ensures c.put_word.ensures.memory
