-- What is answered to one who asks for a pixel's word.
--   Asked: the answer and the memory of a question
--   asked_word: the word of a pixel that there is, filled into memory
use Rattle.std.proofs.Common.{◌≡◌, ℕ, ◌*◌, ◌<◌, List, Result, sym, ap, ◌∙◌}
use Rattle.std.proofs.lemmas.Bool.{cond-true, lt-ltb}
use Rattle.symbols.specs.declared.refusals.Refusal.{Refusal}
use Rattle.symbols.specs.declared.symbols.Symbol.{Symbol}
use Rattle.symbols.specs.Refusals.{fill_answer, filled}
use Rattle.stores.specs.Sources.{Told, word_at, word_answer, word_memory}

pub record Asked (t : Told) (p : ℕ) (out : List Symbol) (r : Result ℕ Refusal) (now : List Symbol) : Type 0 where
  pub answer : r ≡ word_answer t p out
  pub memory : now ≡ word_memory t p out

pub asked_word : (t : Told) (p : ℕ) (out w : List Symbol) (r : Result ℕ Refusal) (now : List Symbol) → p < t.width * t.height → w ≡ word_at t p → r ≡ fill_answer w out → now ≡ filled w out → Asked t p out r now
asked_word t p out w r now b e a m =
    let q = lt-ltb p (t.width * t.height) b in
    record {
      answer = a ∙ ap (λ (v : List Symbol). fill_answer v out) e ∙ sym (cond-true _ _ _ q);
      memory = m ∙ ap (λ (v : List Symbol). filled v out) e ∙ sym (cond-true _ _ _ q);
    }
