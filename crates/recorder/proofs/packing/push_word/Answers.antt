use Rattle.std.proofs.Common.{◌≡◌, ℕ, ◌+◌, ◌*◌, sym, ap, ◌∙◌, arith}
use Rattle.std.specs.List.{flat_map}
use Rattle.symbols.specs.declared.symbols.Symbol.TheVariants.{Corner}
use Rattle.codec.specs.Words.{symbol_bits}
use Rattle.recorder.specs.Packing.{put_bits}
use Rattle.recorder.proofs.Bits.{symbols_more, symbols_all}
use Rattle.recorder.proofs.packing.push_word.Goals as goal

pub loop-i-preserved : goal.loop-i-preserved
loop-i-preserved c =
    symbols_more c.args.word.now c.loop-i.part c.push_symbol.new.part c.args.n c.loop-i.i Corner c.loop-i-test.true c.push_symbol.ensures ∙ c.loop-i.invariant

pub returns : goal.returns
returns c =
    let k : 3 * (c.args.n + 0) ≡ 3 * c.args.n = omega arith in
    sym (symbols_all c.args.word.now c.loop-i.part c.args.n c.loop-i.i (omega arith))
    ∙ c.loop-i.invariant
    ∙ ap (λ (x : ℕ). put_bits c.args.part.now x (flat_map symbol_bits c.args.word.now)) k
