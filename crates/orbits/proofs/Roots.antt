-- The least dart of a loop.
--   lower_left, lower_right: the lesser of two
--   rooted: the statement, for one system
use Rattle.std.proofs.Common.{◌≡◌, Bool, true, false, cond, List, [], ◌∷◌, sym, refl, ◌∙◌, subst, inl, inr, ⊎_elim}
use Rattle.std.proofs.lemmas.Bool.{cases_Bool, cases_cond, cond_both}
use Rattle.orbits.specs.Orbits.{In, System, Lawful, loop}
use Rattle.orbits.specs.Statements.{Order, least, root, Rooted}
use Rattle.orbits.proofs.Turns.{loop_sym, loop_trans}

module _ {A : Type 0} (le : A → A → Bool) (o : Order le) where
  le_self : (x : A) → le x x ≡ true
  le_self x = ⊎_elim (λ (e : le x x ≡ true). e) (λ (e : le x x ≡ false). o.either x x e) (cases_Bool (le x x))

  lower_left : (x y : A) → le (cond (le x y) x y) x ≡ true
  lower_left x y = cond_both (le x y) x y (λ c. le c x ≡ true) (λ e. le_self x) (λ e. o.either x y e)

  lower_right : (x y : A) → le (cond (le x y) x y) y ≡ true
  lower_right x y = cond_both (le x y) x y (λ c. le c y ≡ true) (λ e. e) (λ e. le_self y)

  least_le : (x : A) (ys : List A) (z : A) → In z (x ∷ ys) → le (least le x ys) z ≡ true
  least_le x [] z (inl e) = subst (λ w. le x w ≡ true) (sym e) (le_self x)
  least_le x [] z (inr m) = absurd m
  least_le x (y ∷ ys) z (inl e) =
      let c : A = cond (le x y) x y in
      subst (λ w. le (least le c ys) w ≡ true) (sym e) (o.chain (least le c ys) c x (least_le c ys c (inl refl)) (lower_left x y))
  least_le x (y ∷ ys) z (inr (inl e)) =
      let c : A = cond (le x y) x y in
      subst (λ w. le (least le c ys) w ≡ true) (sym e) (o.chain (least le c ys) c y (least_le c ys c (inl refl)) (lower_right x y))
  least_le x (y ∷ ys) z (inr (inr m)) = least_le (cond (le x y) x y) ys z (inr m)

  least_in : (x : A) (ys : List A) → In (least le x ys) (x ∷ ys)
  least_in x [] = inl refl
  least_in x (y ∷ ys) =
      let c : A = cond (le x y) x y in
      ⊎_elim
      (λ (e : least le c ys ≡ c). ⊎_elim (λ (q : c ≡ x). inl (e ∙ q)) (λ (q : c ≡ y). inr (inl (e ∙ q))) (cases_cond (le x y) x y c refl))
      (λ (m : In (least le c ys) ys). inr (inr m))
      (least_in c ys)

module _ {A : Type 0} (S : System A) (L : Lawful S) (le : A → A → Bool) (o : Order le) where
  root_in : (x : A) → In (root S le x) (loop S x)
  root_in x =
      ⊎_elim (λ (e : root S le x ≡ x). inl e) (λ (m : In (root S le x) (loop S x)). m) (least_in le o x (loop S x))

  root_le : (x y : A) → In y (loop S x) → le (root S le x) y ≡ true
  root_le x y m = least_le le o x (loop S x) y (inr m)

  pub rooted : (x : A) → In x S.darts → Rooted S le x
  rooted x mx = record {
    member = root_in x;
    lowest = root_le x;
    shared = λ y my. (
      λ i. o.both (root S le x) (root S le y)
          (root_le x (root S le y) (loop_trans S L x y (root S le y) mx i (root_in y)))
          (root_le y (root S le x) (loop_trans S L y x (root S le x) my (loop_sym S L x y mx i) (root_in x))),
      λ e. loop_trans S L x (root S le x) y mx (root_in x)
          (loop_sym S L y (root S le x) my (subst (λ z. In z (loop S y)) (sym e) (root_in y))),
    );
  }
