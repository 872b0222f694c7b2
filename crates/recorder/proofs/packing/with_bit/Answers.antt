use Rattle.std.proofs.Common.{ℕ, ◌+◌, ◌*◌, ap, ◌∙◌, arith}
use Rattle.codec.proofs.Bits.{bit_lt}
use Rattle.recorder.specs.Packing.{weight, first_bits}
use Rattle.recorder.proofs.Bits.{bit_fits, bool_bit, first_is}
use Rattle.recorder.proofs.packing.with_bit.Goals as goal

pub overflow_mul-result-2 : goal.overflow_mul-result-2
overflow_mul-result-2 c = omega (arith, bit_fits c.args.x c.args.j c.from.result (omega arith) c.requires (omega (arith, bool_bit c.args.bit, bit_lt c.args.bit)))

pub returns : goal.returns
returns c =
    let j = c.args.j in
    ap (λ (n : ℕ). (n * 2 + c.from.result) * weight j) (first_is c.args.x j (omega arith) c.requires)
    ∙ ap (λ (n : ℕ). (first_bits c.args.x j * 2 + n) * weight j) (c.from.ensures ∙ bool_bit c.args.bit)
