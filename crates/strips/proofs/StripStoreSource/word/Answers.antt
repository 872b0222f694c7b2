use Rattle.std.proofs.Common.{◌*◌, ◌<◌, refl}
use Rattle.stores.proofs.Questions.{asked_word}
use Rattle.strips.specs.Strips.{strip_told}
use Rattle.strips.proofs.Steps.{found}
use Rattle.strips.proofs.StripStoreSource.word.Goals as goal

pub returns : goal.returns
returns c =
    let s = c.args.self.now in
    let n = s.size.width * s.size.height in
    let i = c.args.pixel in
    let there : i < n = c.if-not-has.ensures.0 refl in
    let a = asked_word (strip_told s.size.width s.size.height s.memory.items) i c.args.out.now _ c.copy_word.result c.copy_word.new.out there
    (found s.memory.items c.deref.result.now c.deref-2.result.now n i c.seek-at.result there c.deref.ensures.value c.deref-2.ensures.value c.seek-at.ensures.is)
    c.copy_word.ensures.answer c.copy_word.ensures.memory in
    record { answer = a.answer; memory = a.memory }
