use Rattle.std.proofs.Common.{◌≡◌, Bool, true, false, is_some, List, Ok, Err, Result, Some, refl, ap, ◌∙◌}
use Rattle.std.specs.Result.{result_unwrap_or}
use Rattle.symbols.specs.declared.refusals.Refusal.{Refusal}
use Rattle.symbols.specs.declared.refusals.Refusal.TheVariants.{NoWord, Unlawful}
use Rattle.symbols.specs.declared.symbols.Symbol.{Symbol}
use Rattle.rules.specs.Words.{shaped, drawing_of, lawful, judged}
use Rattle.codec.specs.Reading.{guard}
use Rattle.words.specs.declared.Word.{Word}
use Rattle.words.specs.Held.{symbols_of, in_symbols}
use Rattle.stores.specs.Sources.{empty_word}
use Rattle.records.specs.Told.{or_empty_word}
use Rattle.records.proofs.passing.lawful_or_blank.Goals as goal

module _ (b : Word) (blank : symbols_of b ≡ empty_word) where
  kept : (r : Result Word Refusal) (w : List Symbol) → in_symbols r ≡ Ok w → symbols_of (result_unwrap_or r b) ≡ w
  kept (Ok x) w e = cc
  kept (Err f) w e = cc

  lost : (r : Result Word Refusal) (f : Refusal) → in_symbols r ≡ Err f → symbols_of (result_unwrap_or r b) ≡ empty_word
  lost (Ok x) f e = cc
  lost (Err g) f e = blank

  told : (r : Result Word Refusal) (w : List Symbol) → in_symbols r ≡ judged w → (s d : Bool) → shaped w ≡ s → is_some (drawing_of w) ≡ d → symbols_of (result_unwrap_or r b) ≡ or_empty_word (guard (lawful w) (Some w))
  told r w e true true f g = rw (f, g) (kept r w (e ∙ rw (f, g)))
  told r w e true false f g = rw (f, g) (lost r Unlawful (e ∙ rw (f, g)))
  told r w e false d f g = rw f (lost r NoWord (e ∙ rw f))

pub returns : goal.returns
returns c =
    let w = c.args.symbols.now in
    ap symbols_of c.unwrap_or.ensures ∙ told c.blank.result c.blank.ensures c.from_symbols.result w c.from_symbols.ensures (shaped w) (is_some (drawing_of w)) refl refl
