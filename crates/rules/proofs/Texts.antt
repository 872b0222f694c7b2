-- Texts of known symbols and lists of symbols answer each other.
--   lettered_letter: a symbol's character stands for it
--   picked_is: what is picked from a list by a number has that number
--   texts_come_back: the same for whole texts
use Rattle.std.proofs.Common.{◌≡◌, ℕ, eqb, List, [], ◌∷◌, Some, None, Option, sym, refl, ap, ◌∙◌, inl, inr, arith}
use Rattle.std.proofs.lemmas.Bool.{eqb-true, cases_Bool}
use Rattle.symbols.specs.declared.symbols.Symbol.{Symbol}
use Rattle.symbols.specs.declared.symbols.Symbol.TheVariants.{Corner, DeadEnd, SplitOpen, SplitClose, JunctionOpen, Branch, JunctionClose}
use Rattle.symbols.specs.Symbols.{letter, lettered, picked, symbols, joined, spelt, text}
use Rattle.rules.specs.Statements.{TextsComeBack}

lettered_letter : (s : Symbol) → lettered (letter s) ≡ Some s
lettered_letter Corner = refl
lettered_letter DeadEnd = refl
lettered_letter SplitOpen = refl
lettered_letter SplitClose = refl
lettered_letter JunctionOpen = refl
lettered_letter Branch = refl
lettered_letter JunctionClose = refl

-- what is picked has the number
pub picked_is : {A : Type 0} (f : A → ℕ) (n : ℕ) (xs : List A) (x : A) → picked f n xs ≡ Some x → f x ≡ n
picked_is f n [] x e = (let z : ◌≡◌ {A = ℕ} 0 1 = cc in absurd (omega arith))
picked_is f n (y ∷ ys) x e =
    elim (cases_Bool (eqb n (f y))) [
      | inl p ↦ (let q : Some y ≡ Some x = rw p at e in let s : y ≡ x = cc in ap f (sym s) ∙ sym (eqb-true n (f y) p))
      | inr p ↦ picked_is f n ys x (rw p at e)
    ]

spelt_text : (w : List Symbol) → spelt (text w) ≡ Some w
spelt_text [] = refl
spelt_text (s ∷ w) = rw (lettered_letter s, spelt_text w)

joined_is : (o : Option Symbol) (p : Option (List Symbol)) (w : List Symbol) → joined o p ≡ Some w → (s : Symbol) × (v : List Symbol) × (o ≡ Some s) × (p ≡ Some v) × (w ≡ (s ∷ v))
joined_is None p w e = (let z : ◌≡◌ {A = ℕ} 0 1 = cc in absurd (omega arith))
joined_is (Some s) None w e = (let z : ◌≡◌ {A = ℕ} 0 1 = cc in absurd (omega arith))
joined_is (Some s) (Some v) w e = (s, v, refl, refl, (let q : w ≡ (s ∷ v) = cc in q))

text_spelt : (cs : List ℕ) (w : List Symbol) → spelt cs ≡ Some w → text w ≡ cs
text_spelt [] w e = (let q : w ≡ [] = cc in ap text q)
text_spelt (c ∷ cs) w e =
    let j = joined_is (lettered c) (spelt cs) w e in
    let a : letter j.0 ≡ c = picked_is letter c symbols j.0 j.2 in
    let b : text j.1 ≡ cs = text_spelt cs j.1 j.3 in
    ap text j.4 ∙ ap (λ (x : ℕ). x ∷ text j.1) a ∙ ap (λ (x : List ℕ). c ∷ x) b

pub texts_come_back : TextsComeBack
texts_come_back = (spelt_text, text_spelt)
