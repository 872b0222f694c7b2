use Rattle.std.proofs.Common.{◌≡◌, ◌<◌, length}
use Rattle.symbols.specs.declared.refusals.Refusal.TheVariants.{Short}
use Rattle.stores.specs.Sources.{sheet_told}
use Rattle.codec.specs.Records.{bytes_of}
use Rattle.roundtrip.proofs.Back.{opened_same, written}
use Rattle.roundtrip.proofs.record_and_open.Goals as goal

pub returns : goal.returns
returns g c =
    let t = g.S.Source.told c.args.source.now in
    opened_same (λ e. (e ≡ Short) × (length c.args.memory.now < length (bytes_of (sheet_told t)))) t (g.S.Source.lawful c.args.source.now) _
    (written (bytes_of (sheet_told t)) c.args.memory.now c.write_record.new.out c.in_ok-n.n c.in_ok-n.ensures.answer c.in_ok-n.ensures.memory)
    c.open_front.result c.open_front.ensures
