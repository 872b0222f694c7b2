-- Steps of a function; the return; loops.
--   First: the first place at which a test passes
--   pigeon, returns: too many members repeat; going on comes back
--   loop-..: what a loop is
use Rattle.std.proofs.Common.{◌≡◌, ℕ, zero, suc, ◌+◌, ◌-◌, ◌<◌, ◌≤◌, Bool, true, false, ◌⊎◌, List, [], ◌∷◌, length, sym, refl, ap, ◌∙◌, subst, inl, inr, ⊎_elim, arith}
use Rattle.std.proofs.lemmas.Bool.{cases_Bool, cases_lt, cond_both, both_ways}
use Rattle.orbits.specs.Orbits.{In, Apart, Repeats, last, times, steps, first, System, Lawful, size, turn, loop}
use Rattle.orbits.proofs.Members.{fits, apart_unless}

-- the first place at which p passes is i, and it is no later than k
pub record First {A : Type 0} (p : A → Bool) (f : A → A) (y : A) (k i : ℕ) : Type 0 where
  pub here : p (times f i y) ≡ true
  pub soon : i ≤ k
  pub before : (j : ℕ) → j < i → p (times f j y) ≡ false

pub below_suc : (P : ℕ → Type 0) (i : ℕ) → P 0 → ((j : ℕ) → j < i → P (suc j)) → (j : ℕ) → j < suc i → P j
below_suc P i z s zero b = z
below_suc P i z s (suc j) b = s j (omega arith)

module _ {A : Type 0} (f : A → A) where
  pub times_next : (n : ℕ) (x : A) → times f n (f x) ≡ f (times f n x)
  times_next zero x = refl
  times_next (suc n) x = times_next n (f x)

  pub times_add : (m n k : ℕ) (x : A) → m + n ≡ k → times f k x ≡ times f n (times f m x)
  times_add zero n k x e = let q : k ≡ n = omega arith in ap (λ i. times f i x) q
  times_add (suc m) n zero x e = absurd (omega arith)
  times_add (suc m) n (suc k) x e = times_add m n k (f x) (omega arith)

  pub in_steps : (n : ℕ) (x : A) (i : ℕ) → i < n → In (times f i x) (steps f n x)
  in_steps zero x i h = absurd (omega arith)
  in_steps (suc n) x zero h = inl refl
  in_steps (suc n) x (suc i) h = inr (in_steps n (f x) i (omega arith))

  pub steps_in : (n : ℕ) (x y : A) → In y (steps f n x) → (i : ℕ) × (i < n) × (y ≡ times f i x)
  steps_in zero x y m = absurd m
  steps_in (suc n) x y (inl e) = (0, omega arith, e)
  steps_in (suc n) x y (inr m) = let r = steps_in n (f x) y m in (suc r.0, omega arith, r.2)

  pub length_steps : (n : ℕ) (x : A) → length (steps f n x) ≡ n
  length_steps zero x = refl
  length_steps (suc n) x = ap suc (length_steps n (f x))

  pub last_steps : (n : ℕ) (d x : A) → last d (steps f (suc n) x) ≡ times f n x
  last_steps zero d x = refl
  last_steps (suc n) d x = last_steps n x (f x)

  -- what follows the last of them
  pub next_last : (n : ℕ) (d x : A) → f (last d (steps f (suc n) x)) ≡ times f (suc n) x
  next_last n d x = ap f (last_steps n d x) ∙ sym (times_next n x)

  pub first_is : (p : A → Bool) (n : ℕ) (y : A) (k : ℕ) → k ≤ n → p (times f k y) ≡ true → First p f y k (first p f n y)
  first_is p zero y zero l h = record { here = h; soon = omega arith; before = λ j b. absurd (omega arith) }
  first_is p zero y (suc k) l h = absurd (omega arith)
  first_is p (suc n) y zero l h =
      cond_both (p y) zero (suc (first p f n (f y))) (λ i. First p f y zero i)
      (λ e. record { here = e; soon = omega arith; before = λ j b. absurd (omega arith) })
      (λ e. absurd (both_ways (p y) e h))
  first_is p (suc n) y (suc k) l h =
      let r = first_is p n (f y) k (omega arith) h in
      cond_both (p y) zero (suc (first p f n (f y))) (λ i. First p f y (suc k) i)
      (λ e. record { here = e; soon = omega arith; before = λ j b. absurd (omega arith) })
      (λ e. record { here = r.here; soon = omega arith; before = below_suc (λ j. p (times f j y) ≡ false) (first p f n (f y)) e r.before })

module _ {A : Type 0} (S : System A) (L : Lawful S) where
  in_or : (x : A) (xs : List A) → In x xs ⊎ (In x xs → ⊥)
  in_or x [] = inr (λ m. m)
  in_or x (y ∷ xs) = one_of (cases_Bool (S.same x y)) (in_or x xs)
    where
      apart_of : S.same x y ≡ false → (x ≡ y) → ⊥
      apart_of e q = both_ways (S.same x y) e (subst (λ z. S.same x z ≡ true) q (L.self x))

      one_of : ((S.same x y ≡ true) ⊎ (S.same x y ≡ false)) → In x xs ⊎ (In x xs → ⊥) → In x (y ∷ xs) ⊎ (In x (y ∷ xs) → ⊥)
      one_of (inl e) r = inl (inl (L.told x y e))
      one_of (inr e) (inl m) = inl (inr m)
      one_of (inr e) (inr n) = inr (λ m. ⊎_elim (apart_of e) n m)

  pub member_or : (x : A) (xs : List A) → In x xs ⊎ (In x xs → ⊥)
  member_or = in_or

  apart_or : (xs : List A) → Apart xs ⊎ Repeats xs
  apart_or [] = inl tt
  apart_or (x ∷ xs) =
      ⊎_elim (λ (i : In x xs). inr (inl i))
      (λ (n : In x xs → ⊥). ⊎_elim (λ (a : Apart xs). inl (n, a)) (λ (r : Repeats xs). inr (inr r)) (apart_or xs))
      (in_or x xs)

  pub pigeon : (xs : List A) → ((x : A) → In x xs → In x S.darts) → size S < length xs → Repeats xs
  pigeon xs h l = ⊎_elim (λ (a : Apart xs). absurd (omega (arith, fits xs S.darts a h))) (λ (r : Repeats xs). r) (apart_or xs)

  pub inside : (n : ℕ) (x : A) → In x S.darts → In (times S.next n x) S.darts
  inside zero x m = m
  inside (suc n) x m = inside n (S.next x) (L.stays x m)

  pub steps_inside : (n : ℕ) (x : A) → In x S.darts → (y : A) → In y (steps S.next n x) → In y S.darts
  steps_inside n x m y i = let r = steps_in S.next n x y i in subst (λ z. In z S.darts) (sym r.2) (inside r.0 x m)

  pub times_one : (n : ℕ) (x y : A) → In x S.darts → In y S.darts → times S.next n x ≡ times S.next n y → x ≡ y
  times_one zero x y a b e = e
  times_one (suc n) x y a b e = L.one x y a b (times_one n (S.next x) (S.next y) (L.stays x a) (L.stays y b) e)

  -- a repetition among the steps from x is a return to x
  pub repeat_back : (n : ℕ) (x : A) → In x S.darts → Repeats (steps S.next n x)
      → (k : ℕ) × (1 ≤ k) × (k < n) × (times S.next k x ≡ x)
  repeat_back zero x m r = absurd r
  repeat_back (suc n) x m (inl i) = let r = steps_in S.next n (S.next x) x i in (suc r.0, omega arith, omega arith, sym r.2)
  repeat_back (suc n) x m (inr r) =
      let q = repeat_back n (S.next x) (L.stays x m) r in
      (q.0, q.1, omega arith, L.one (times S.next q.0 x) x (inside q.0 x m) m (sym (times_next S.next q.0 x) ∙ q.3))

  pub returns : (x : A) → In x S.darts → (k : ℕ) × (1 ≤ k) × (k ≤ size S) × (times S.next k x ≡ x)
  returns x m =
      let long : size S < length (steps S.next (suc (size S)) x) = omega (arith, length_steps S.next (suc (size S)) x) in
      let r = repeat_back (suc (size S)) x m (pigeon (steps S.next (suc (size S)) x) (steps_inside (suc (size S)) x m) long) in
      (r.0, r.1, omega arith, r.3)

  -- the first return
  pub record Turned (x : A) (t : ℕ) : Type 0 where
    pub some : 1 ≤ t
    pub short : t ≤ size S
    pub back : times S.next t x ≡ x
    pub before : (j : ℕ) → 1 ≤ j → j < t → times S.next j x ≡ x → ⊥

  turned_from : (x : A) (k : ℕ) → 1 ≤ k → k ≤ size S → times S.next k x ≡ x → Turned x (turn S x)
  turned_from x zero l h e = absurd (omega arith)
  turned_from x (suc k) l h e =
      let i : ℕ = first (λ y. S.same y x) S.next (size S) (S.next x) in
      let r : First (λ y. S.same y x) S.next (S.next x) k i =
      first_is S.next (λ y. S.same y x) (size S) (S.next x) k (omega arith) (subst (λ z. S.same z x ≡ true) (sym e) (L.self x)) in
      record {
        some = omega arith;
        short = omega (arith, r.soon);
        back = L.told (times S.next (suc i) x) x r.here;
        before = not_yet i r.before;
      }
    where
      not_yet : (i : ℕ) → ((j : ℕ) → j < i → S.same (times S.next j (S.next x)) x ≡ false)
          → (j : ℕ) → 1 ≤ j → j < suc i → times S.next j x ≡ x → ⊥
      not_yet i b zero o l q = omega arith
      not_yet i b (suc j) o l q =
          both_ways (S.same (times S.next j (S.next x)) x) (b j (omega arith)) (subst (λ z. S.same z x ≡ true) (sym q) (L.self x))

  pub turned : (x : A) → In x S.darts → Turned x (turn S x)
  turned x m = let r = returns x m in turned_from x r.0 r.1 r.2 r.3

  pub loop_self : (x : A) → In x (loop S x)
  loop_self x = inl refl

  pub loop_apart : (x : A) → In x S.darts → Apart (loop S x)
  loop_apart x m =
      apart_unless (loop S x) (λ r. let q = repeat_back (turn S x) x m r in (turned x m).before q.0 q.1 q.2 q.3)

  pub loop_inside : (x : A) → In x S.darts → (y : A) → In y (loop S x) → In y S.darts
  loop_inside x m = steps_inside (turn S x) x m

  pub loop_next : (x : A) → In x S.darts → (y : A) → In y (loop S x) → In (S.next y) (loop S x)
  loop_next x m y i =
      let r = steps_in S.next (turn S x) x y i in
      let e : S.next y ≡ times S.next (suc r.0) x = ap S.next r.2 ∙ sym (times_next S.next r.0 x) in
      ⊎_elim
      (λ (l : suc r.0 < turn S x). subst (λ z. In z (loop S x)) (sym e) (in_steps S.next (turn S x) x (suc r.0) l))
      (λ (l : turn S x ≤ suc r.0).
      let q : suc r.0 ≡ turn S x = omega arith in
      inl (e ∙ ap (λ k. times S.next k x) q ∙ (turned x m).back))
      (cases_lt (suc r.0) (turn S x))

  pub loop_reach : (x : A) → In x S.darts → (k : ℕ) → In (times S.next k x) (loop S x)
  loop_reach x m zero = inl refl
  loop_reach x m (suc k) =
      subst (λ z. In z (loop S x)) (sym (times_next S.next k x)) (loop_next x m (times S.next k x) (loop_reach x m k))

  pub loop_sym : (x y : A) → In x S.darts → In y (loop S x) → In x (loop S y)
  loop_sym x y m i =
      let r = steps_in S.next (turn S x) x y i in
      let d : ℕ = turn S x - r.0 in
      let back : times S.next d y ≡ x =
      ap (times S.next d) r.2 ∙ sym (times_add S.next r.0 d (turn S x) x (omega arith)) ∙ (turned x m).back in
      subst (λ z. In z (loop S y)) back (loop_reach y (loop_inside x m y i) d)

  pub loop_trans : (x y z : A) → In x S.darts → In y (loop S x) → In z (loop S y) → In z (loop S x)
  loop_trans x y z m i j =
      let r = steps_in S.next (turn S x) x y i in
      let q = steps_in S.next (turn S y) y z j in
      let e : z ≡ times S.next (r.0 + q.0) x =
      q.2 ∙ ap (times S.next q.0) r.2 ∙ sym (times_add S.next r.0 q.0 (r.0 + q.0) x refl) in
      subst (λ w. In w (loop S x)) (sym e) (loop_reach x m (r.0 + q.0))
