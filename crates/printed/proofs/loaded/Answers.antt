use Rattle.std.proofs.Common.{◌*◌, Some, sym, ap, ◌∙◌}
use Rattle.codec.proofs.Records.{read_sheetly}
use Rattle.stores.specs.Sources.{plain_told}
use Rattle.slots.specs.Slots.{slots_told}
use Rattle.plain.specs.Plain.{sheet_in}
use Rattle.printed.proofs.Loading.{opened, loads, roomy}
use Rattle.printed.proofs.loaded.Goals as goal

pub returns : goal.returns
returns c =
    let q = c.requires in
    let o = c.unwrap-store.result in
    let t = slots_told o.size.width o.size.height o.slot o.memory.items in
    let e = opened _ _ c.«open».result o c.«open».ensures (sym c.ok.ensures.value ∙ c.unwrap-store.ensures) in
    let p = plain_told t o.slot (o.size.width * o.size.height * o.slot) in
    let l = loads p c.args.bytes.now q.0 (read_sheetly c.args.bytes.now q.0 q.1) q.1
    (roomy t o.slot c.args.size.width c.args.size.height q.0 e.2 e.1 q.2 q.3) in
    q.1 ∙ ap Some (sym (ap sheet_in c.load.ensures.after ∙ l.holds))
