use Rattle.std.proofs.Common.{◌≡◌, ℕ, ◌*◌, ◌<◌, List, Option, sym, refl, ap, ◌∙◌}
use Rattle.codec.specs.Bits.{bits_of}
use Rattle.codec.specs.Reading.{and_then}
use Rattle.symbols.specs.declared.symbols.Symbol.{Symbol}
use Rattle.stores.proofs.Questions.{asked_word}
use Rattle.records.specs.Stretches.{run_list, spot}
use Rattle.records.specs.Behind.{word_behind}
use Rattle.records.specs.Told.{or_empty_word, word_in, record_told}
use Rattle.records.proofs.Opening.{told_word}
use Rattle.records.proofs.RecordSourceSource.word.Goals as goal

-- the word in runs and symbols, from what is fetched of it
fetched : (n p : ℕ) (runs symbols : List ℕ) (o : Option (List Symbol)) → and_then (spot 0 n (run_list runs) p) (λ k. word_behind k (bits_of symbols)) ≡ o → or_empty_word o ≡ word_in n (run_list runs) (bits_of symbols) p
fetched n p runs symbols o e = sym (ap or_empty_word e)

pub returns-in-Some : goal.returns-in-Some
returns-in-Some c =
    let s = c.args.self.now in
    let w = c.size-size.result.width in
    let h = c.size-size.result.height in
    let p = c.args.pixel in
    let there : p < w * h = c.if-not-has.ensures.0 refl in
    let t = told_word s.width s.height s.runs.now s.symbols.now w h p c.size-size.ensures.width c.size-size.ensures.height there in
    let a = asked_word (record_told s.width s.height s.runs.now s.symbols.now) p c.args.out.now _ c.fill.result c.fill.new.memory t.0
    (c.as_slice.ensures ∙ fetched (w * h) p s.runs.now s.symbols.now _ c.in-Some.ensures ∙ t.1)
    c.fill.ensures.answer c.fill.ensures.memory in
    record { answer = a.answer; memory = a.memory }

pub returns-in-None : goal.returns-in-None
returns-in-None c =
    let s = c.args.self.now in
    let w = c.size-size.result.width in
    let h = c.size-size.result.height in
    let p = c.args.pixel in
    let there : p < w * h = c.if-not-has.ensures.0 refl in
    let t = told_word s.width s.height s.runs.now s.symbols.now w h p c.size-size.ensures.width c.size-size.ensures.height there in
    let a = asked_word (record_told s.width s.height s.runs.now s.symbols.now) p c.args.out.now _ c.fill-in-None.result c.fill-in-None.new.memory t.0
    (c.empty_word.ensures ∙ fetched (w * h) p s.runs.now s.symbols.now _ c.in-None.ensures ∙ t.1)
    c.fill-in-None.ensures.answer c.fill-in-None.ensures.memory in
    record { answer = a.answer; memory = a.memory }
