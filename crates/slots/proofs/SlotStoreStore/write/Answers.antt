use Rattle.std.proofs.Common.{◌≡◌, ℕ, ◌+◌, ◌*◌, ◌<◌, ◌≤◌, List, map, length, set, refl, ap, ◌∙◌, arith, rules}
use Rattle.std.proofs.lemmas.List.{map-set}
use Rattle.rules.specs.Words.{Drawing, drawn}
use Rattle.stores.proofs.Writes.{accepted_word, write_long, write_fine}
use Rattle.slots.specs.Slots.{slot_words, slots_told}
use Rattle.slots.specs.Places.{row_fits, stored, put_lawful, never_full}
use Rattle.slots.proofs.SlotStoreStore.write.Goals as goal

pub returns-then-not-fits : goal.returns-then-not-fits
returns-then-not-fits c =
    let s = c.args.self.now in
    let w = c.args.word.now in
    let k : ℕ = s.size.width * s.size.height in
    let j = accepted_word w _ c.in_ok-from_symbols.ensures in
    let r = write_long (slots_told s.size.width s.size.height s.slot s.memory.items) s.slot (k * s.slot) c.args.pixel w (c.if-not-has.ensures.0 refl) j.0 j.1 c.if-not-fits.ensures in
    record { answer = r.answer_is; after = r.after_is }

pub slice_bounds-put_word-end : goal.slice_bounds-put_word-end
slice_bounds-put_word-end c =
    let s = c.args.self.now in
    let h : c.args.pixel * s.slot + s.slot ≤ length c.deref_mut.result.now =
    omega (arith, row_fits c.args.pixel (s.size.width * s.size.height) s.slot (c.if-not-has.ensures.0 refl), s.sound.2, c.deref_mut.ensures.len, s.memory.ok.0) in
    search rules

pub invariant_of-self : goal.invariant_of-self
invariant_of-self c =
    let s = c.args.self.now in
    let w = c.args.word.now in
    let p : ℕ = c.args.pixel in
    let k : ℕ = s.size.width * s.size.height in
    let b : p < k = c.if-not-has.ensures.0 refl in
    let j = accepted_word w _ c.in_ok-from_symbols.ensures in
    let t = stored s.memory.items c.deref_mut.result.now c.put_word.new.bytes _ s.memory.len s.slot k p w s.memory.ok.0 c.deref_mut.ensures.value b (omega (arith, s.sound.2, s.memory.ok.0)) c.if-not-fits.ensures j.1 c.put_word.ensures.memory refl in
    record {
      sides = s.sides;
      sound = (s.sound.0, s.sound.1, omega (arith, s.sound.2, t.1), put_lawful s.slot k p w s.memory.items _ t.0 j.1 s.sound.3);
    }

pub returns : goal.returns
returns c =
    let s = c.args.self.now in
    let w = c.args.word.now in
    let p : ℕ = c.args.pixel in
    let k : ℕ = s.size.width * s.size.height in
    let b : p < k = c.if-not-has.ensures.0 refl in
    let j = accepted_word w _ c.in_ok-from_symbols.ensures in
    let t = stored s.memory.items c.deref_mut.result.now c.put_word.new.bytes _ s.memory.len s.slot k p w s.memory.ok.0 c.deref_mut.ensures.value b (omega (arith, s.sound.2, s.memory.ok.0)) c.if-not-fits.ensures j.1 c.put_word.ensures.memory refl in
    let ds : map drawn (slot_words s.slot k _) ≡ set (map drawn (slot_words s.slot k s.memory.items)) p (drawn w) = ap (map drawn) t.0.words ∙ map-set drawn (slot_words s.slot k s.memory.items) p w in
    let r = write_fine (slots_told s.size.width s.size.height s.slot s.memory.items) s.slot (k * s.slot) p w b j.0 j.1 c.if-not-fits.ensures
    (never_full s.size.width s.size.height s.slot s.memory.items p w s.sides s.sound j.1 c.if-not-fits.ensures) _
    (ap (λ (x : List Drawing). record { width = s.size.width; height = s.size.height; longest = s.slot; total = k * s.slot; drawings = x }) ds) in
    record { answer = r.answer_is; after = r.after_is }
