-- The other bank of a sidewalk, in any lawful system in which each dart has an opposite one.
--   Sided: each dart has another one opposite to it; next of a dart starts where its opposite does, and where it does not start,
--     it is not that opposite, and going on from its own opposite leads there
--   Bank: what the other bank of a sidewalk is
--   steps_end: the last one of so many steps
--   half: a number is even or odd
--   f, Quiet, quiet: next; none of so many darts behind one starts
--   mirrored: going on from an opposite dart leads back along the opposite darts
--   backward: these are the opposite darts in reverse order
--   away: the dart opposite to the last one is not the first one
--   banked_from, banked: each sidewalk has its other bank
use Rattle.std.proofs.Common.{◌≡◌, ℕ, zero, suc, ◌+◌, ◌-◌, ◌<◌, ◌≤◌, true, false, ◌≢◌, ◌⊎◌, [], ◌∷◌, ◌++◌, map, reverse, sym, refl, ap, ◌∙◌, subst, ap₂, inl, inr, arith}
use mathlib.Core.List.{reverse-cons}
use Rattle.orbits.specs.Orbits.{In, last, times, steps, System, Lawful, sidewalk}
use Rattle.orbits.specs.Statements.{Walked}
use Rattle.orbits.proofs.Turns.{times_next, last_steps, inside}
use Rattle.orbits.proofs.Sidewalks.{walked, stopped}

pub record Sided {A : Type 0} (S : System A) (o : A → A) : Type 0 where
  pub inside : (x : A) → In x S.darts → In (o x) S.darts
  pub back : (x : A) → In x S.darts → o (o x) ≡ x
  pub moved : (x : A) → In x S.darts → o x ≢ x
  pub starting : (x : A) → In x S.darts → S.starts (S.next x) ≡ S.starts (o x)
  pub passing : (x : A) → In x S.darts → S.starts (S.next x) ≡ false → S.next (o (S.next x)) ≡ o x
  pub turning : (x : A) → In x S.darts → S.starts (S.next x) ≡ false → S.next x ≢ o x

-- z begins the other bank of the sidewalk from s
pub record Bank {A : Type 0} (S : System A) (o : A → A) (s z : A) : Type 0 where
  pub member : In z S.darts
  pub starts : S.starts z ≡ true
  pub other : z ≢ s
  pub back : o (last z (sidewalk S z)) ≡ s
  pub turned : sidewalk S z ≡ reverse (map o (sidewalk S s))

steps_end : {A : Type 0} (f : A → A) (n : ℕ) (x : A) → steps f (suc n) x ≡ steps f n x ++ (times f n x ∷ [])
steps_end f zero x = refl
steps_end f (suc n) x = ap (λ l. x ∷ l) (steps_end f n (f x))

half : (n : ℕ) → (m : ℕ) × ((n ≡ m + m) ⊎ (n ≡ suc (m + m)))
half zero = (0, inl refl)
half (suc n) =
    let r = half n in
    elim r.1 [ inl e ↦ (r.0, inr (ap suc e)) | inr e ↦ (suc r.0, inl (omega (arith, e))) ]

module _ {A : Type 0} (S : System A) (L : Lawful S) (o : A → A) (T : Sided S o) where
  abbrev f : A → A
  f = S.next

  abbrev Quiet : ℕ → A → Type 0
  Quiet n x = (j : ℕ) → 1 ≤ j → j < suc n → S.starts (times f j x) ≡ false

  quiet : (n : ℕ) (x : A) → Quiet n x → (m : ℕ) → m < n → S.starts (f (times f m x)) ≡ false
  quiet n x q m l = ap S.starts (sym (times_next f m x)) ∙ q (suc m) (omega arith) (omega arith)

  mirrored : (n : ℕ) (x : A) → In x S.darts → Quiet n x → (i j m : ℕ) → i + j ≡ m → m ≤ n → times f j (o (times f m x)) ≡ o (times f i x)
  mirrored n x h q i zero m e l = (let z : m ≡ i = omega arith in ap (λ t. o (times f t x)) z)
  mirrored n x h q i (suc j) zero e l = absurd (omega arith)
  mirrored n x h q i (suc j) (suc m) e l =
      ap (λ z. times f j (f (o z))) (times_next f m x)
      ∙ ap (times f j) (T.passing (times f m x) (inside S L m x h) (quiet n x q m (omega arith)))
      ∙ mirrored n x h q i j m (omega arith) (omega arith)

  backward : (n : ℕ) (x : A) → In x S.darts → Quiet n x → steps f (suc n) (o (times f n x)) ≡ reverse (map o (steps f (suc n) x))
  backward zero x h q = refl
  backward (suc n) x h q =
      steps_end f (suc n) (o (times f (suc n) x))
      ∙ ap₂ (λ l z. l ++ (z ∷ []))
      (backward n (f x) (L.stays x h) (λ j a b. q (suc j) (omega arith) (omega arith)))
      (mirrored (suc n) x h q 0 (suc n) (suc n) (omega arith) (omega arith))
      ∙ sym (reverse-cons (o x) (map o (steps f (suc n) (f x))))

  away : (n : ℕ) (x : A) → In x S.darts → Quiet n x → o (times f n x) ≢ x
  away n x h q e =
      let r = half n in
      let m : ℕ = r.0 in
      let b : A = times f m x in
      elim r.1 [
        | inl z ↦ T.moved b (inside S L m x h) (sym (mirrored n x h q m m n (omega arith) (omega arith)) ∙ ap (times f m) e)
        | inr z ↦
            T.turning b (inside S L m x h) (quiet n x q m (omega arith))
            (sym (times_next f m x) ∙ ap (times f (suc m)) (sym e) ∙ mirrored n x h q m (suc m) n (omega arith) (omega arith))
      ]

  banked_from : (s : A) → In s S.darts → S.starts s ≡ true → (k : ℕ) → Walked S s k → Bank S o s (o (last s (sidewalk S s)))
  banked_from s h b zero w = absurd (omega (arith, w.some))
  banked_from s h b (suc n) w =
      let q : Quiet n s = w.between in
      let e : A = times f n s in
      let he : In e S.darts = inside S L n s h in
      let z : A = o e in
      let home : times f n z ≡ o s = mirrored n s h q 0 n n (omega arith) (omega arith) in
      let hz : In z S.darts = T.inside e he in
      let bz : S.starts z ≡ true = sym (T.starting e he) ∙ ap S.starts (sym (times_next f n s) ∙ sym w.end) ∙ w.ends in
      let ends : S.starts (times f (suc n) z) ≡ true =
      ap S.starts (times_next f n z ∙ ap f home) ∙ T.starting (o s) (T.inside s h) ∙ ap S.starts (T.back s h) ∙ b in
      let is : sidewalk S z ≡ steps f (suc n) z =
      (stopped S L z hz bz).only (suc n) (omega arith)
      (λ j u v.
      let i : ℕ = n - j in
      ap S.starts (mirrored n s h q i j n (omega arith) (omega arith))
      ∙ sym (T.starting (times f i s) (inside S L i s h))
      ∙ quiet n s q i (omega arith))
      ends in
      subst (Bank S o s) (ap o (sym (ap (last s) w.is ∙ last_steps f n s s)))
      (record {
        member = hz;
        starts = bz;
        other = away n s h q;
        back = ap o (ap (last z) is ∙ last_steps f n z z ∙ home) ∙ T.back s h;
        turned = is ∙ backward n s h q ∙ ap (λ l. reverse (map o l)) (sym w.is);
      })

  pub banked : (s : A) → In s S.darts → S.starts s ≡ true → Bank S o s (o (last s (sidewalk S s)))
  banked s h b = (let w = walked S L s h b in banked_from s h b w.0 w.1)
