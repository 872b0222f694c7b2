-- What pairs off a list halves its length.
--   all_but: the elements of a list that are not a given one
--   is_or_in, in_all_but: an element is the given one or among them, and not both
--   all_but_apart, all_but_length: of a list without repetition that has the given one, they do not repeat and are one less
--   halves: where a function that undoes itself moves each element of a list without repetition within the list, its length is even
use Rattle.std.proofs.Common.{◌≡◌, ℕ, zero, suc, ◌+◌, ◌≤◌, Bool, true, not, ◌≢◌, ◌⊎◌, List, [], ◌∷◌, length, filter, sym, refl, ap, ◌∙◌, subst, inl, inr, ⊎_elim, arith}
use Rattle.std.proofs.lemmas.Bool.{both_ways, not-true, not_from_false, cases_Bool}
use Rattle.orbits.specs.Orbits.{In, Apart}
use Rattle.orbits.proofs.Members.{fits, in_kept, kept_in, apart_kept}

module _ {A : Type 0} (same : A → A → Bool) (told : (x y : A) → same x y ≡ true → x ≡ y) (self : (x : A) → same x x ≡ true) where
  abbrev all_but : A → List A → List A
  all_but x ys = filter (λ y. not (same y x)) ys

  is_or_in : (x y : A) (ys : List A) → In y ys → (y ≡ x) ⊎ In y (all_but x ys)
  is_or_in x y ys m =
      elim (cases_Bool (same y x)) [
        | inl e ↦ inl (told y x e)
        | inr e ↦ inr (in_kept (λ z. not (same z x)) y ys m (not_from_false (same y x) e))
      ]

  in_all_but : (x y : A) (ys : List A) → In y (all_but x ys) → In y ys × (y ≢ x)
  in_all_but x y ys m =
      let k = kept_in (λ z. not (same z x)) y ys m in
      (k.0, λ e. both_ways (same y x) (not-true (same y x) k.1) (subst (λ z. same y z ≡ true) e (self y)))

  all_but_apart : (x : A) (ys : List A) → Apart ys → Apart (all_but x ys)
  all_but_apart x ys a = apart_kept (λ z. not (same z x)) ys a

  all_but_length : (x : A) (ys : List A) → Apart ys → In x ys → length ys ≡ suc (length (all_but x ys))
  all_but_length x ys a m =
      let up = fits ys (x ∷ all_but x ys) a (λ y i. is_or_in x y ys i) in
      let down =
      fits (x ∷ all_but x ys) ys (λ i. (in_all_but x x ys i).1 refl, all_but_apart x ys a)
      (λ y i. ⊎_elim (λ (e : y ≡ x). subst (λ z. In z ys) (sym e) m) (λ (j : In y (all_but x ys)). (in_all_but x y ys j).0) i) in
      omega (arith, up, down)

  module _ (f : A → A) where
    -- n bounds the length
    pub halves : (n : ℕ) (xs : List A) → length xs ≤ n → Apart xs
        → ((x : A) → In x xs → In (f x) xs) → ((x : A) → In x xs → f (f x) ≡ x) → ((x : A) → In x xs → f x ≢ x)
        → (m : ℕ) × (length xs ≡ m + m)
    halves n [] l a stays back moves = (0, omega arith)
    halves zero (x ∷ xs) l a stays back moves = absurd (omega arith)
    halves (suc n) (x ∷ xs) l a stays back moves =
        let m : In (f x) xs = ⊎_elim (λ (e : f x ≡ x). absurd (moves x (inl refl) e)) (λ (i : In (f x) xs). i) (stays x (inl refl)) in
        let ys : List A = all_but (f x) xs in
        let long : length xs ≡ suc (length ys) = all_but_length (f x) xs a.1 m in
        let r =
        halves n ys (omega arith) (all_but_apart (f x) xs a.1) inside
        (λ y i. back y (inr (in_all_but (f x) y xs i).0)) (λ y i. moves y (inr (in_all_but (f x) y xs i).0)) in
        (suc r.0, omega (arith, r.1))
      where
        inside : (y : A) → In y (all_but (f x) xs) → In (f y) (all_but (f x) xs)
        inside y i =
            let k = in_all_but (f x) y xs i in
            let b = back y (inr k.0) in
            let j : In (f y) xs = ⊎_elim (λ (e : f y ≡ x). absurd (k.1 (sym b ∙ ap f e))) (λ (q : In (f y) xs). q) (stays y (inr k.0)) in
            ⊎_elim (λ (e : f y ≡ f x). absurd (a.0 (subst (λ z. In z xs) (sym b ∙ ap f e ∙ back x (inl refl)) k.0))) (λ (q : In (f y) (all_but (f x) xs)). q)
            (is_or_in (f x) (f y) xs j)
