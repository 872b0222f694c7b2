use Rattle.std.proofs.Common.{◌-◌, ◌/◌, ◌%◌, ◌^◌, Bool, get_or, sym, ap, ◌∙◌}
use Rattle.codec.specs.Bits.{bit}
use Rattle.codec.proofs.Bits.{bit_odd}
use Rattle.codec.proofs.Loops.{bits_at}
use Rattle.records.proofs.packed.bit_at.Goals as goal

pub returns : goal.returns
returns c =
    let bs = c.args.bytes.now in
    let k = c.args.place in
    sym (ap (λ (b : Bool). bit b) (bits_at bs k c.requires) ∙ bit_odd (get_or bs (k / 8) 0 / 2 ^ (7 - k % 8)))
