-- How a text is spelt.
--   Spelling: what holds after some bytes of a text were spelt
--   spelt_length: what a text spells is as long as it
--   too_long: a text of more than 64 bytes is no word
use Rattle.std.proofs.Common.{◌≡◌, ℕ, suc, ◌<◌, ◌≤◌, leb, false, List, [], ◌∷◌, ◌++◌, length, drop, Some, None, Err, Option, refl, sym, ap, ◌∙◌, inl, inr, arith}
use Rattle.std.proofs.lemmas.Bool.{lt-leb, cases_Bool}
use Rattle.symbols.specs.declared.refusals.Refusal.TheVariants.{NoWord}
use Rattle.symbols.specs.declared.symbols.Symbol.{Symbol}
use Rattle.symbols.specs.Symbols.{lettered, joined, spelt}
use Rattle.rules.specs.Words.{judged_spelt, read_word}

abbrev pub ahead : List Symbol → Option (List Symbol) → Option (List Symbol)
ahead v None = None
ahead v (Some w) = Some (v ++ w)

-- after i bytes of a text, with these symbols
abbrev pub Spelling : List ℕ → ℕ → List Symbol → Type 0
Spelling cs i out = (spelt cs ≡ ahead out (spelt (drop i cs))) × (length out ≤ i)

joined_length : (o : Option Symbol) (p : Option (List Symbol)) (n : ℕ) (w : List Symbol) → ((v : List Symbol) → p ≡ Some v → length v ≡ n) → joined o p ≡ Some w → length w ≡ suc n
joined_length None p n w f e = (let z : ◌≡◌ {A = ℕ} 0 1 = cc in absurd (omega arith))
joined_length (Some s) None n w f e = (let z : ◌≡◌ {A = ℕ} 0 1 = cc in absurd (omega arith))
joined_length (Some s) (Some v) n w f e = (let q : (s ∷ v) ≡ w = cc in sym (ap length q) ∙ ap suc (f v refl))

pub spelt_length : (cs : List ℕ) (w : List Symbol) → spelt cs ≡ Some w → length w ≡ length cs
spelt_length [] w e = (let q : [] ≡ w = cc in sym (ap length q))
spelt_length (c ∷ cs) w e = joined_length (lettered c) (spelt cs) (length cs) w (λ v p. spelt_length cs v p) e

long_judged : (cs : List ℕ) (o : Option (List Symbol)) → spelt cs ≡ o → 64 < length cs → judged_spelt o ≡ Err NoWord
long_judged cs None e h = refl
long_judged cs (Some w) e h =
    let n = spelt_length cs w e in
    let f : leb (length w) 64 ≡ false = lt-leb (length w) 64 (omega arith) in
    elim (cases_Bool (leb 4 (length w))) [ inl b ↦ rw (b, f) | inr b ↦ rw b ]

pub too_long : (cs : List ℕ) → 64 < length cs → read_word cs ≡ Err NoWord
too_long cs h = long_judged cs (spelt cs) refl h
