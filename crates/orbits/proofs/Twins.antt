-- Lists without repetition in one order are told by their members.
use Rattle.std.proofs.Common.{◌≡◌, Bool, true, List, [], ◌∷◌, sym, refl, ◌∙◌, subst, ap₂, inl, inr, ⊎_elim}
use Rattle.orbits.specs.Orbits.{In, Apart}
use Rattle.orbits.specs.Statements.{Order, Ordered, Twins}
use Rattle.orbits.proofs.All.{tells, listed_so}

module _ {A : Type 0} (le : A → A → Bool) (o : Order le) where
  head_same : (x y : A) (xs ys : List A) → ((z : A) → In z xs → le x z ≡ true) → ((z : A) → In z ys → le y z ≡ true)
      → In x (y ∷ ys) → In y (x ∷ xs) → x ≡ y
  head_same x y xs ys a b (inl e) n = e
  head_same x y xs ys a b (inr m) (inl e) = sym e
  head_same x y xs ys a b (inr m) (inr n) = o.both x y (a y n) (b x m)

  tail_in : (x y : A) (xs ys : List A) → Apart (x ∷ xs) → x ≡ y → ((z : A) → In z (x ∷ xs) → In z (y ∷ ys)) → (z : A) → In z xs → In z ys
  tail_in x y xs ys a e h z m =
      ⊎_elim (λ (q : z ≡ y). absurd (a.0 (subst (λ w. In w xs) (q ∙ sym e) m))) (λ (n : In z ys). n) (h z (inr m))

  pub ordered_same : (xs ys : List A) → Apart xs → Apart ys → Ordered le xs → Ordered le ys
      → ((x : A) → In x xs → In x ys) → ((x : A) → In x ys → In x xs) → xs ≡ ys
  ordered_same [] [] a b c d h k = refl
  ordered_same [] (y ∷ ys) a b c d h k = absurd (k y (inl refl))
  ordered_same (x ∷ xs) [] a b c d h k = absurd (h x (inl refl))
  ordered_same (x ∷ xs) (y ∷ ys) a b c d h k =
      let e : x ≡ y = head_same x y xs ys c.0 d.0 (h x (inl refl)) (k y (inl refl)) in
      ap₂ (λ z l. z ∷ l) e
      (ordered_same xs ys a.1 b.1 c.1 d.1 (tail_in x y xs ys a e h) (tail_in y x ys xs b (sym e) k))

pub twins : (A : Type 0) → Twins A
twins A S R L K le o c d ns nr = (
  λ e. tells A S R L K ns nr e,
  λ q. listed_so A S R L K
      (ordered_same le o S.darts R.darts L.apart K.apart c d (λ x. (q.members x).0) (λ x. (q.members x).1)) q,
)
