use Rattle.std.proofs.Common.{◌≡◌, ℕ, ◌*◌, List, ◌++◌, length, take, drop, refl, ap, ◌∙◌, arith}
use Rattle.std.proofs.lemmas.List.{take_at}
use Rattle.symbols.specs.declared.symbols.Symbol.{Symbol}
use Rattle.stores.proofs.Fronts.{blank_front}
use Rattle.slots.specs.Slots.{OpensSlots}
use Rattle.slots.specs.Places.{blanked, blank_lawful, blank_words}
use Rattle.slots.proofs.SlotStore.open.Goals as goal

pub invariant_of-result : goal.invariant_of-result
invariant_of-result c =
    let m = c.args.memory in
    let k : ℕ = c.args.width * c.args.height in
    let o : OpensSlots c.len.result c.args.width c.args.height c.args.slot = c.if-not-suits.ensures.0 refl in
    let long : length c.blank_out.new.bytes ≡ m.len = omega (arith, c.deref_mut.ensures.len, c.blank_out.auto) in
    let e = blanked m.items c.deref_mut.result.now c.blank_out.new.bytes m.len c.pixels.result k c.args.slot m.ok.0 long
    (c.blank_out.ensures ∙ blank_front (c.pixels.result * c.args.slot) c.deref_mut.result.now (omega (arith, o.roomy, c.len.ensures, c.deref_mut.ensures.len, c.pixels.ensures, ap (λ (x : ℕ). x * c.args.slot) c.pixels.ensures))) c.pixels.ensures in
    let size : length (take m.len (c.blank_out.new.bytes ++ drop (length c.blank_out.new.bytes) m.items)) ≡ m.len =
    ap length (take_at c.blank_out.new.bytes (drop (length c.blank_out.new.bytes) m.items) m.len long) ∙ long in
    record {
      sides = o.sides;
      sound = (o.least_slot, o.most_slot, omega (arith, o.roomy, c.len.ensures), blank_lawful c.args.slot k (drop (c.pixels.result * c.args.slot) c.deref_mut.result.now) _ o.least_slot e);
    }

pub returns : goal.returns
returns c =
    let m = c.args.memory in
    let k : ℕ = c.args.width * c.args.height in
    let o : OpensSlots c.len.result c.args.width c.args.height c.args.slot = c.if-not-suits.ensures.0 refl in
    let long : length c.blank_out.new.bytes ≡ m.len = omega (arith, c.deref_mut.ensures.len, c.blank_out.auto) in
    let e = blanked m.items c.deref_mut.result.now c.blank_out.new.bytes m.len c.pixels.result k c.args.slot m.ok.0 long
    (c.blank_out.ensures ∙ blank_front (c.pixels.result * c.args.slot) c.deref_mut.result.now (omega (arith, o.roomy, c.len.ensures, c.deref_mut.ensures.len, c.pixels.ensures, ap (λ (x : ℕ). x * c.args.slot) c.pixels.ensures))) c.pixels.ensures in (
      record { sides = o.sides; least_slot = o.least_slot; most_slot = o.most_slot; roomy = omega (arith, o.roomy, c.len.ensures) },
      refl,
      ap (λ (ws : List (List Symbol)). record { width = c.args.width; height = c.args.height; words = ws })
          (blank_words c.args.slot k (drop (c.pixels.result * c.args.slot) c.deref_mut.result.now) _ o.least_slot e),
      refl,
    )
