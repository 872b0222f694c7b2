-- Membership, lists without repetition, and the pigeonhole.
--   in_left, in_right, in_either: membership in two lists put together
--   apart_append, apart_unless, apart_kept, apart_joined: lists without repetition
--   in_kept, kept_in, in_joined, joined_in, in_map, map_in: membership in what is kept, joined or mapped
use Rattle.std.proofs.Common.{◌≡◌, suc, ◌≤◌, Bool, true, ◌⊎◌, List, [], ◌∷◌, ◌++◌, map, length, filter, sym, refl, ap, ◌∙◌, subst, inl, inr, ⊎_elim, arith}
use Rattle.std.specs.List.{flat_map}
use Rattle.std.specs.List.Sorted.{IsPermutation}
use Rattle.std.proofs.lemmas.List.Sorted.{IsPermutation-refl, IsPermutation-sym, IsPermutation-cons, IsPermutation-swap, IsPermutation-trans}
use Rattle.std.proofs.lemmas.Bool.{cond_both, cond-true}
use Rattle.orbits.specs.Orbits.{In, Apart, Repeats}

module _ {A : Type 0} where
  pub in_left : (x : A) (xs ys : List A) → In x xs → In x (xs ++ ys)
  in_left x [] ys m = absurd m
  in_left x (y ∷ xs) ys (inl e) = inl e
  in_left x (y ∷ xs) ys (inr m) = inr (in_left x xs ys m)

  pub in_right : (x : A) (xs ys : List A) → In x ys → In x (xs ++ ys)
  in_right x [] ys m = m
  in_right x (y ∷ xs) ys m = inr (in_right x xs ys m)

  pub in_either : (x : A) (xs ys : List A) → In x (xs ++ ys) → In x xs ⊎ In x ys
  in_either x [] ys m = inr m
  in_either x (y ∷ xs) ys (inl e) = inl (inl e)
  in_either x (y ∷ xs) ys (inr m) = ⊎_elim (λ (a : In x xs). inl (inr a)) (λ (b : In x ys). inr b) (in_either x xs ys m)

  pub apart_append : (xs ys : List A) → Apart xs → Apart ys → ((x : A) → In x xs → In x ys → ⊥) → Apart (xs ++ ys)
  apart_append [] ys a b h = b
  apart_append (x ∷ xs) ys a b h = (
    λ m. ⊎_elim (λ (l : In x xs). a.0 l) (λ (r : In x ys). h x (inl refl) r) (in_either x xs ys m),
    apart_append xs ys a.1 b (λ y m n. h y (inr m) n),
  )

  abbrev without : (x : A) (ys : List A) → In x ys → List A
  without x [] m = []
  without x (y ∷ ys) (inl e) = ys
  without x (y ∷ ys) (inr m) = y ∷ without x ys m

  without_length : (x : A) (ys : List A) (m : In x ys) → length ys ≡ suc (length (without x ys m))
  without_length x [] m = absurd m
  without_length x (y ∷ ys) (inl e) = refl
  without_length x (y ∷ ys) (inr m) = ap suc (without_length x ys m)

  without_in : (x : A) (ys : List A) (m : In x ys) (y : A) → In y ys → (y ≡ x → ⊥) → In y (without x ys m)
  without_in x [] m y k ne = absurd m
  without_in x (z ∷ ys) (inl e) y (inl k) ne = absurd (ne (k ∙ sym e))
  without_in x (z ∷ ys) (inl e) y (inr k) ne = k
  without_in x (z ∷ ys) (inr m) y (inl k) ne = inl k
  without_in x (z ∷ ys) (inr m) y (inr k) ne = inr (without_in x ys m y k ne)

  -- a list without repetition is no longer than one that has all its elements
  pub fits : (xs ys : List A) → Apart xs → ((x : A) → In x xs → In x ys) → length xs ≤ length ys
  fits [] ys a h = omega arith
  fits (x ∷ xs) ys a h =
      let m : In x ys = h x (inl refl) in
      let rest : length xs ≤ length (without x ys m) = fits xs (without x ys m) a.1 (λ y k. without_in x ys m y (h y (inr k)) (λ e. a.0 (subst (λ z. In z xs) e k))) in
      omega (arith, without_length x ys m)

  in_without : (x : A) (ys : List A) (m : In x ys) (z : A) → In z (without x ys m) → In z ys
  in_without x [] m z k = absurd k
  in_without x (y ∷ ys) (inl e) z k = inr k
  in_without x (y ∷ ys) (inr m) z (inl e) = inl e
  in_without x (y ∷ ys) (inr m) z (inr k) = inr (in_without x ys m z k)

  without_not : (x : A) (ys : List A) (m : In x ys) → Apart ys → In x (without x ys m) → ⊥
  without_not x [] m a k = absurd k
  without_not x (y ∷ ys) (inl e) a k = a.0 (subst (λ z. In z ys) e k)
  without_not x (y ∷ ys) (inr m) a (inl e) = a.0 (subst (λ z. In z ys) e m)
  without_not x (y ∷ ys) (inr m) a (inr k) = without_not x ys m a.1 k

  apart_without : (x : A) (ys : List A) (m : In x ys) → Apart ys → Apart (without x ys m)
  apart_without x [] m a = tt
  apart_without x (y ∷ ys) (inl e) a = a.1
  apart_without x (y ∷ ys) (inr m) a = (λ k. a.0 (in_without x ys m y k), apart_without x ys m a.1)

  swap_front : (x y : A) (zs : List A) → IsPermutation (y ∷ x ∷ zs) (x ∷ y ∷ zs)
  swap_front x y zs = IsPermutation-swap (y ∷ x ∷ zs) (x ∷ y ∷ zs) 0 1 (omega arith) (omega arith) refl

  to_front : (x : A) (ys : List A) (m : In x ys) → IsPermutation ys (x ∷ without x ys m)
  to_front x [] m = absurd m
  to_front x (y ∷ ys) (inl e) = subst (λ z. IsPermutation (y ∷ ys) (z ∷ ys)) (sym e) (IsPermutation-refl (y ∷ ys))
  to_front x (y ∷ ys) (inr m) =
      IsPermutation-trans (y ∷ ys) (y ∷ x ∷ without x ys m) (x ∷ y ∷ without x ys m)
      (IsPermutation-cons y ys (x ∷ without x ys m) (to_front x ys m)) (swap_front x y (without x ys m))

  -- two lists without repetition that have the same elements are one another's permutation
  pub shuffled_from : (xs ys : List A) → Apart xs → Apart ys → ((x : A) → In x xs → In x ys) → ((x : A) → In x ys → In x xs) → IsPermutation xs ys
  shuffled_from [] [] a b h k = IsPermutation-refl []
  shuffled_from [] (y ∷ ys) a b h k = absurd (k y (inl refl))
  shuffled_from (x ∷ xs) ys a b h k =
      let m : In x ys = h x (inl refl) in
      let zs : List A = without x ys m in
      let r : IsPermutation xs zs =
      shuffled_from xs zs a.1 (apart_without x ys m b)
      (λ z i. without_in x ys m z (h z (inr i)) (λ e. a.0 (subst (λ w. In w xs) e i)))
      (λ z i. ⊎_elim (λ (q : z ≡ x). absurd (without_not x ys m b (subst (λ w. In w zs) q i))) (λ (j : In z xs). j) (k z (in_without x ys m z i))) in
      IsPermutation-trans (x ∷ xs) (x ∷ zs) ys (IsPermutation-cons x xs zs r) (IsPermutation-sym ys (x ∷ zs) (to_front x ys m))

  pub apart_unless : (xs : List A) → (Repeats xs → ⊥) → Apart xs
  apart_unless [] h = tt
  apart_unless (x ∷ xs) h = (λ m. h (inl m), apart_unless xs (λ r. h (inr r)))

  pub in_kept : (p : A → Bool) (x : A) (xs : List A) → In x xs → p x ≡ true → In x (filter p xs)
  in_kept p x [] m h = absurd m
  in_kept p x (y ∷ xs) (inl e) h = rw (cond-true (p y) (y ∷ filter p xs) (filter p xs) (ap p (sym e) ∙ h)) (inl e)
  in_kept p x (y ∷ xs) (inr m) h = cond_both (p y) (y ∷ filter p xs) (filter p xs) (λ l. In x l) (λ e. inr (in_kept p x xs m h)) (λ e. in_kept p x xs m h)

  pub kept_in : (p : A → Bool) (x : A) (xs : List A) → In x (filter p xs) → In x xs × (p x ≡ true)
  kept_in p x [] = λ m. absurd m
  kept_in p x (y ∷ xs) =
      cond_both (p y) (y ∷ filter p xs) (filter p xs) (λ l. In x l → In x (y ∷ xs) × (p x ≡ true))
      (λ e m. ⊎_elim (λ (q : x ≡ y). (inl q, ap p q ∙ e)) (λ (r : In x (filter p xs)). let k = kept_in p x xs r in (inr k.0, k.1)) m)
      (λ e m. let k = kept_in p x xs m in (inr k.0, k.1))

  pub apart_kept : (p : A → Bool) (xs : List A) → Apart xs → Apart (filter p xs)
  apart_kept p [] a = tt
  apart_kept p (x ∷ xs) a =
      cond_both (p x) (x ∷ filter p xs) (filter p xs) Apart
      (λ e. (λ m. a.0 (kept_in p x xs m).0, apart_kept p xs a.1))
      (λ e. apart_kept p xs a.1)

module _ {A B : Type 0} where
  pub in_joined : (g : B → List A) (x : A) (b : B) (bs : List B) → In b bs → In x (g b) → In x (flat_map g bs)
  in_joined g x b [] m i = absurd m
  in_joined g x b (c ∷ bs) (inl e) i = in_left x (g c) (flat_map g bs) (subst (λ z. In x (g z)) e i)
  in_joined g x b (c ∷ bs) (inr m) i = in_right x (g c) (flat_map g bs) (in_joined g x b bs m i)

  pub joined_in : (g : B → List A) (x : A) (bs : List B) → In x (flat_map g bs) → (b : B) × In b bs × In x (g b)
  joined_in g x [] m = absurd m
  joined_in g x (c ∷ bs) m =
      ⊎_elim (λ (i : In x (g c)). (c, inl refl, i))
      (λ (r : In x (flat_map g bs)). let k = joined_in g x bs r in (k.0, inr k.1, k.2))
      (in_either x (g c) (flat_map g bs) m)

  pub apart_joined : (g : B → List A) (bs : List B) → Apart bs
      → ((b : B) → In b bs → Apart (g b))
      → ((b c : B) (x : A) → In b bs → In c bs → In x (g b) → In x (g c) → b ≡ c)
      → Apart (flat_map g bs)
  apart_joined g [] a h d = tt
  apart_joined g (b ∷ bs) a h d =
      apart_append (g b) (flat_map g bs) (h b (inl refl))
      (apart_joined g bs a.1 (λ c m. h c (inr m)) (λ c e x m n. d c e x (inr m) (inr n)))
      (λ x m n. let k = joined_in g x bs n in
      a.0 (subst (λ z. In z bs) (sym (d b k.0 x (inl refl) (inr k.1) m k.2)) k.1))

  pub in_map : (g : B → A) (b : B) (bs : List B) → In b bs → In (g b) (map g bs)
  in_map g b [] m = absurd m
  in_map g b (c ∷ bs) (inl e) = inl (ap g e)
  in_map g b (c ∷ bs) (inr m) = inr (in_map g b bs m)

  pub map_in : (g : B → A) (x : A) (bs : List B) → In x (map g bs) → (b : B) × In b bs × (x ≡ g b)
  map_in g x [] m = absurd m
  map_in g x (c ∷ bs) (inl e) = (c, inl refl, e)
  map_in g x (c ∷ bs) (inr m) = let k = map_in g x bs m in (k.0, inr k.1, k.2)
