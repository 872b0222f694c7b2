-- Loops of code that walk on darts with next, step by step.
--   Going: so many steps from a start, with no start since
--   going_start, going_more, going_short: at the start; one step more; it has not gone round
--   going_sidewalk, going_length, going_line: where the next dart is a start, the sidewalk, its length, and its line
--   left: how many steps until a dart is home
--   left_less: one step leaves fewer
--   ring_yes, ring_no: no dart on the way round begins a sidewalk; some does
--   root_yes, root_no: no dart on the way round is smaller; some is
use Rattle.std.proofs.Common.{◌≡◌, ℕ, zero, suc, ◌+◌, ◌<◌, ◌≤◌, Bool, true, false, List, length, sym, refl, ap, ◌∙◌, subst, inl, inr, ⊎_elim, arith}
use Rattle.std.proofs.lemmas.Bool.{cases_Bool, cases_lt, cases_eq, both_ways}
use Rattle.orbits.specs.Orbits.{In, last, times, steps, first, System, Lawful, size, turn, loop, ring, sidewalk, line}
use Rattle.orbits.specs.Statements.{Order, root}
use Rattle.orbits.proofs.Turns.{First, times_next, steps_in, length_steps, next_last, first_is, inside, turned, loop_inside, loop_reach, loop_sym}
use Rattle.orbits.proofs.Sidewalks.{rings, walked, stopped}
use Rattle.orbits.proofs.Roots.{rooted}

pub record Going {A : Type 0} (S : System A) (s : A) (n : ℕ) (d : A) : Type 0 where
  pub at : d ≡ times S.next n s
  pub between : (j : ℕ) → 1 ≤ j → j ≤ n → S.starts (times S.next j s) ≡ false

abbrev pub left : {A : Type 0} → System A → A → A → ℕ
left S h y = first (λ z. S.same z h) S.next (size S) y

times_more : {A : Type 0} (f : A → A) (n : ℕ) (x : A) → times f (n + 1) x ≡ f (times f n x)
times_more f n x = (let z : n + 1 ≡ suc n = omega arith in ap (λ (i : ℕ). times f i x) z ∙ times_next f n x)

module _ {A : Type 0} (S : System A) (L : Lawful S) where
  pub going_start : (s : A) → Going S s 0 s
  going_start s = record { at = refl; between = λ j a b. absurd (omega arith) }

  module _ (s : A) (m : In s S.darts) (n : ℕ) (d : A) (g : Going S s n d) where
    next_is : S.next d ≡ times S.next (n + 1) s
    next_is = ap S.next g.at ∙ sym (times_more S.next n s)

    pub going_in : In d S.darts
    going_in = subst (λ z. In z S.darts) (sym g.at) (inside S L n s m)

    pub going_more : S.starts (S.next d) ≡ false → Going S s (n + 1) (S.next d)
    going_more e = record {
      at = next_is;
      between = λ j a b. ⊎_elim
          (λ (q : j ≡ n + 1). ap (λ i. S.starts (times S.next i s)) q ∙ ap S.starts (sym next_is) ∙ e)
          (λ (q : j ≡ n + 1 → ⊥). g.between j a (omega arith))
          (cases_eq j (n + 1));
    }

    pub going_short : S.starts s ≡ true → n < size S
    going_short b =
        let w = walked S L s m b in
        ⊎_elim
        (λ (l : n < w.0). omega (arith, w.1.short))
        (λ (l : w.0 ≤ n). absurd (both_ways (S.starts (times S.next w.0 s)) (g.between w.0 w.1.some l) (ap S.starts (sym w.1.end) ∙ w.1.ends)))
        (cases_lt n w.0)

    module _ (b : S.starts s ≡ true) (e : S.starts (S.next d) ≡ true) where
      pub going_sidewalk : sidewalk S s ≡ steps S.next (n + 1) s
      going_sidewalk =
          (stopped S L s m b).only (n + 1) (omega arith) (λ j x y. g.between j x (omega arith)) (ap S.starts (sym next_is) ∙ e)

      pub going_length : n + 1 ≡ length (sidewalk S s)
      going_length = sym (ap length going_sidewalk ∙ length_steps S.next (n + 1) s)

      pub going_line : line S s ≡ (steps S.next (n + 1) s, S.next d)
      going_line =
          let z : n + 1 ≡ suc n = omega arith in
          let l : S.next (last s (sidewalk S s)) ≡ S.next d =
          ap (λ (x : List A). S.next (last s x)) going_sidewalk
          ∙ ap (λ (i : ℕ). S.next (last s (steps S.next i s))) z
          ∙ next_last S.next n s s
          ∙ ap (λ (i : ℕ). times S.next i s) (sym z)
          ∙ sym next_is in
          λ i. (going_sidewalk i, l i)

  pub left_less : (h y : A) → In h S.darts → In y (loop S h) → S.same y h ≡ false → left S h (S.next y) < left S h y
  left_less h y m i e =
      let p : A → Bool = λ z. S.same z h in
      let my = loop_inside S L h m y i in
      let r = steps_in S.next (turn S y) y h (loop_sym S L h y m i) in
      let t = turned S L y my in
      let x : First p S.next y r.0 (left S h y) =
      first_is S.next p (size S) y r.0 (omega (arith, r.1, t.short)) (subst (λ z. S.same z h ≡ true) r.2 (L.self h)) in
      from (left S h y) x.here (omega (arith, x.soon, r.1, t.short))
    where
      from : (n : ℕ) → S.same (times S.next n y) h ≡ true → n ≤ size S → left S h (S.next y) < n
      from zero q l = absurd (both_ways (S.same y h) e q)
      from (suc n) q l =
          let x : First (λ z. S.same z h) S.next (S.next y) n (left S h (S.next y)) = first_is S.next (λ z. S.same z h) (size S) (S.next y) n (omega arith) q in
          omega (arith, x.soon)

  -- what holds of the first so many darts of a loop, which is all of them
  all_of_loop : (P : A → Type 0) (h : A) → In h S.darts → (n : ℕ) → 1 ≤ n → times S.next n h ≡ h → ((j : ℕ) → j < n → P (times S.next j h)) → (y : A) → In y (loop S h) → P y
  all_of_loop P h m n l e f y i =
      let r = steps_in S.next (turn S h) h y i in
      let t = turned S L h m in
      let short : turn S h ≤ n = ⊎_elim (λ (b : n < turn S h). absurd (t.before n l b e)) (λ (b : turn S h ≤ n). b) (cases_lt n (turn S h)) in
      subst P (sym r.2) (f r.0 (omega (arith, r.1)))

  module _ (h : A) (m : In h S.darts) where
    pub ring_yes : (n : ℕ) → 1 ≤ n → times S.next n h ≡ h → ((j : ℕ) → j < n → S.starts (times S.next j h) ≡ false) → ring S h ≡ true
    ring_yes n l e f = (rings S L h m).1 (all_of_loop (λ y. S.starts y ≡ false) h m n l e f)

    pub ring_no : (n : ℕ) → S.starts (times S.next n h) ≡ true → ring S h ≡ false
    ring_no n e =
        elim (cases_Bool (ring S h)) [
          | inl t ↦ absurd (both_ways (S.starts (times S.next n h)) ((rings S L h m).0 t (times S.next n h) (loop_reach S L h m n)) e)
          | inr t ↦ t
        ]

    module _ (le : A → A → Bool) (o : Order le) where
      pub root_yes : (n : ℕ) → 1 ≤ n → times S.next n h ≡ h → ((j : ℕ) → j < n → le h (times S.next j h) ≡ true) → S.same (root S le h) h ≡ true
      root_yes n l e f =
          let r = rooted S L le o h m in
          let q : root S le h ≡ h =
          o.both (root S le h) h (r.lowest h (inl refl)) (all_of_loop (λ y. le h y ≡ true) h m n l e f (root S le h) r.member) in
          subst (λ z. S.same z h ≡ true) (sym q) (L.self h)

      pub root_no : (y : A) → In y (loop S h) → le h y ≡ false → S.same (root S le h) h ≡ false
      root_no y i e =
          let r = rooted S L le o h m in
          elim (cases_Bool (S.same (root S le h) h)) [
            | inl t ↦ absurd (both_ways (le h y) e (subst (λ z. le z y ≡ true) (L.told (root S le h) h t) (r.lowest y i)))
            | inr t ↦ t
          ]
