use Rattle.std.proofs.Common.{ℕ, ◌+◌, ◌*◌, ◌<◌, ◌≤◌, length, sym, refl, ◌∙◌, arith, rules}
use Rattle.stores.proofs.Questions.{asked_word}
use Rattle.slots.specs.Slots.{slots_told}
use Rattle.slots.specs.Laws.{word_there}
use Rattle.slots.specs.Places.{row_fits, slot_lent}
use Rattle.slots.proofs.SlotStoreSource.word.Goals as goal

pub slice_bounds-copy_word-end : goal.slice_bounds-copy_word-end
slice_bounds-copy_word-end c =
    let s = c.args.self.now in
    let h : c.args.pixel * s.slot + s.slot ≤ length c.deref.result.now =
    omega (arith, row_fits c.args.pixel (s.size.width * s.size.height) s.slot (c.if-not-has.ensures.0 refl), s.sound.2, c.deref.ensures.len, s.memory.ok.0) in
    search rules

pub returns : goal.returns
returns c =
    let s = c.args.self.now in
    let p : ℕ = c.args.pixel in
    let k : ℕ = s.size.width * s.size.height in
    let b : p < k = c.if-not-has.ensures.0 refl in
    let a = asked_word (slots_told s.size.width s.size.height s.slot s.memory.items) p c.args.out.now _ c.copy_word.result c.copy_word.new.out b
    (slot_lent s.slot p s.memory.items c.deref.result.now c.deref.ensures.value ∙ sym (word_there s.slot k s.memory.items p b))
    c.copy_word.ensures.answer c.copy_word.ensures.memory in
    record { answer = a.answer; memory = a.memory }
