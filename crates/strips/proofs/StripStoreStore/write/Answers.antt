use Rattle.std.proofs.Common.{ℕ, ◌*◌, ◌<◌, List, map, refl, ap, ◌∙◌, subst, arith}
use Rattle.std.proofs.lemmas.List.{map-set}
use Rattle.rules.specs.Words.{Drawing, drawn}
use Rattle.stores.proofs.Writes.{accepted_word, write_full, write_fine}
use Rattle.strips.specs.Strips.{strip_told, strip_words, Spotted}
use Rattle.strips.specs.Cuts.{word_short, sum_placed}
use Rattle.strips.proofs.Steps.{stands, rewritten}
use Rattle.strips.proofs.StripStoreStore.write.Goals as goal

pub returns-then-not-has_room : goal.returns-then-not-has_room
returns-then-not-has_room c =
    let s = c.args.self.now in
    let n = s.size.width * s.size.height in
    let i = c.args.pixel in
    let w = c.args.word.now in
    let items = s.memory.items in
    let f = c.find-spot.result in
    let there : i < n = c.if-not-has.ensures.0 refl in
    let good = accepted_word w _ c.in_ok-lawful.ensures in
    let p = stands items c.deref.result.now n i f.at f.old f.tail there c.deref.ensures.value
    (subst (λ (m : ℕ). Spotted c.deref.result.now m i f.at f.old f.tail) c.pixels.ensures c.find-spot.ensures) in
    let sum = sum_placed n i items w f.at f.old f.tail there s.each good.1 p in
    let e = write_full (strip_told s.size.width s.size.height items) 64 s.memory.len i w there good.0 good.1 (word_short w good.1) (omega (arith, c.if-not-has_room.ensures)) in
    record { answer = e.answer_is; after = e.after_is }

pub invariant_of-self : goal.invariant_of-self
invariant_of-self c =
    let s = c.args.self.now in
    let n = s.size.width * s.size.height in
    let i = c.args.pixel in
    let w = c.args.word.now in
    let items = s.memory.items in
    let f = c.find-spot.result in
    let there : i < n = c.if-not-has.ensures.0 refl in
    let good = accepted_word w _ c.in_ok-lawful.ensures in
    let p = stands items c.deref.result.now n i f.at f.old f.tail there c.deref.ensures.value
    (subst (λ (m : ℕ). Spotted c.deref.result.now m i f.at f.old f.tail) c.pixels.ensures c.find-spot.ensures) in
    let put = rewritten items c.deref_mut.result.now c.replace.new.part w n i f.at f.old f.tail s.memory.len there s.each good.1 s.memory.ok.0 p (omega (arith, c.if-not-has_room.ensures)) c.deref_mut.ensures.value c.replace.ensures in
    record { sides = s.sides; each = put.each }

pub returns : goal.returns
returns c =
    let s = c.args.self.now in
    let n = s.size.width * s.size.height in
    let i = c.args.pixel in
    let w = c.args.word.now in
    let items = s.memory.items in
    let f = c.find-spot.result in
    let there : i < n = c.if-not-has.ensures.0 refl in
    let good = accepted_word w _ c.in_ok-lawful.ensures in
    let p = stands items c.deref.result.now n i f.at f.old f.tail there c.deref.ensures.value
    (subst (λ (m : ℕ). Spotted c.deref.result.now m i f.at f.old f.tail) c.pixels.ensures c.find-spot.ensures) in
    let sum = sum_placed n i items w f.at f.old f.tail there s.each good.1 p in
    let put = rewritten items c.deref_mut.result.now c.replace.new.part w n i f.at f.old f.tail s.memory.len there s.each good.1 s.memory.ok.0 p (omega (arith, c.if-not-has_room.ensures)) c.deref_mut.ensures.value c.replace.ensures in
    let e = write_fine (strip_told s.size.width s.size.height items) 64 s.memory.len i w there good.0 good.1 (word_short w good.1) (omega (arith, c.if-not-has_room.ensures)) _
    (ap (λ (ds : List Drawing). record { width = s.size.width; height = s.size.height; longest = 64; total = s.memory.len; drawings = ds }) (ap (map drawn) put.words ∙ map-set drawn (strip_words n items) i w)) in
    record { answer = e.answer_is; after = e.after_is }
