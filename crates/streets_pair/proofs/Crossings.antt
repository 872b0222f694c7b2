-- A group without a vertex has two crossings, and a turn leads from each to the other.
--   Two, two_of: the two crossings of a group of two
--   late, late_or: the latest number of a group is no less than another and below the bound; it is below the bound or what is given
--   moves: the step inside a pixel leaves a crossing that is not alone in its group
--   swaps: in a group of two it leads to the other crossing and back
--   D, i, is_drawing, crossing_in, turns: the drawing of a dart's pixel and the number of its crossing there
--   turn_crossing: the crossing after a turn
--   turn_vertex: a turn stays with the vertex of its group, or without one
--   turn_twice: without one, a turn moves a dart and a second turn brings it back
use Rattle.std.proofs.Common.{◌≡◌, ℕ, zero, suc, ◌<◌, ◌≤◌, true, false, eqb, ◌≢◌, ◌⊎◌, List, [], ◌∷◌, length, sym, refl, ap, ◌∙◌, inl, inr, arith}
use Rattle.std.proofs.lemmas.Bool.{eqb-true, eqb-false, cases_Bool, cases_eq, cases_order}
use Rattle.symbols.specs.declared.symbols.Crossing.{Crossing}
use Rattle.rules.specs.Words.{Drawing}
use Rattle.rules.specs.Tables.{at, size_of}
use Rattle.rules.specs.Crossings.{group_at, latest, before}
use Rattle.rules.specs.Statements.{Turns}
use Rattle.rules.proofs.Tables.{size_two, size_from}
use Rattle.rules.proofs.Turns.{crossings_turn}
use Rattle.model.specs.declared.darts.Dart.{Dart}
use Rattle.model.specs.Sheets.{Sheet, Sheetly, IsDrawing, drawing_at}
use Rattle.model.specs.Darts.{is_dart, crossing_of, dart_of, turn}
use Rattle.model.specs.Streets.{leaves_vertex}
use Rattle.model.proofs.Inside.{drawing_in, dart_parts, located, dart_back, crossing_back}

record Two (g : ℕ) (t : List Crossing) : Type 0 where
  one : ℕ
  two : ℕ
  apart : one < two
  inside : two < length t
  first : group_at t one ≡ g
  second : group_at t two ≡ g
  only : (j : ℕ) → j < length t → group_at t j ≡ g → (j ≡ one) ⊎ (j ≡ two)

two_of : (g : ℕ) (t : List Crossing) → size_of g t ≡ 2 → Two g t
two_of g [] h = absurd (omega arith)
two_of g (c ∷ cs) h =
    elim (cases_Bool (eqb g c.group)) [
      | inl p ↦ (let z : suc (size_of g cs) ≡ 2 = rw p at h in here p (omega arith) (size_from g cs (omega arith)))
      | inr p ↦ there p (two_of g cs (rw p at h))
    ]
  where
    here : eqb g c.group ≡ true → size_of g cs ≡ 1 → (b : ℕ) × (b < length cs) × (group_at cs b ≡ g) → Two g (c ∷ cs)
    here p e r = record {
      one = 0;
      two = suc r.0;
      apart = omega arith;
      inside = omega (arith, r.1);
      first = sym (eqb-true g c.group p);
      second = r.2;
      only = alone;
    }
      where
        alone : (j : ℕ) → j < length (c ∷ cs) → group_at (c ∷ cs) j ≡ g → (j ≡ 0) ⊎ (j ≡ suc r.0)
        alone zero l q = inl refl
        alone (suc j) l q =
            elim (cases_order j r.0) [
              | inl w ↦ inr (ap suc w)
              | inr (inl w) ↦ absurd (omega (arith, size_two g cs j r.0 w r.1 q r.2))
              | inr (inr w) ↦ absurd (omega (arith, size_two g cs r.0 j w (omega arith) r.2 q))
            ]

    there : eqb g c.group ≡ false → Two g cs → Two g (c ∷ cs)
    there p r = record {
      one = suc r.one;
      two = suc r.two;
      apart = omega (arith, r.apart);
      inside = omega (arith, r.inside);
      first = r.first;
      second = r.second;
      only = behind;
    }
      where
        behind : (j : ℕ) → j < length (c ∷ cs) → group_at (c ∷ cs) j ≡ g → (j ≡ suc r.one) ⊎ (j ≡ suc r.two)
        behind zero l q = absurd (eqb-false g c.group p (sym q))
        behind (suc j) l q = elim (r.only j (omega arith) q) [ inl w ↦ inl (ap suc w) | inr w ↦ inr (ap suc w) ]

late : (f : ℕ → ℕ) (g z n j : ℕ) → j < n → f j ≡ g → (j ≤ latest f g z n) × (latest f g z n < n)
late f g z zero j h e = absurd (omega arith)
late f g z (suc n) j h e =
    elim (cases_Bool (eqb (f n) g)) [
      | inl b ↦ rw b (omega arith, omega arith)
      | inr b ↦
          (let ne : j ≢ n = λ q. eqb-false (f n) g b (ap f (sym q) ∙ e) in
          let r = late f g z n j (omega arith) e in
          rw b (r.0, omega (arith, r.1)))
    ]

late_or : (f : ℕ → ℕ) (g z n : ℕ) → (latest f g z n ≡ z) ⊎ (latest f g z n < n)
late_or f g z zero = inl refl
late_or f g z (suc n) =
    elim (cases_Bool (eqb (f n) g)) [
      | inl b ↦ rw b (inr (omega arith))
      | inr b ↦ rw b (elim (late_or f g z n) [ inl e ↦ inl e | inr l ↦ inr (omega arith) ])
    ]

moves : (d : List Crossing) (i j : ℕ) → j < length d → group_at d j ≡ group_at d i → j ≢ i → before d i ≢ i
moves d i j h e n q =
    let f : ℕ → ℕ = group_at d in
    let z : ℕ = latest f (f i) i (length d) in
    let w = late f (f i) i (length d) j h e in
    elim (cases_order j i) [
      | inl x ↦ n x
      | inr (inl x) ↦ (let v = late f (f i) z i j x e in omega (arith, v.1))
      | inr (inr x) ↦ elim (late_or f (f i) z i) [ inl y ↦ omega (arith, w.0) | inr y ↦ omega arith ]
    ]

swaps : (d : List Crossing) (i : ℕ) → i < length d → size_of (group_at d i) d ≡ 2 → (before d i ≢ i) × (before d (before d i) ≡ i)
swaps d i h e =
    let r = two_of (group_at d i) d e in
    let t = crossings_turn d i h in
    let j : ℕ = before d i in
    let u = crossings_turn d j t.before_in in
    let a : j ≢ i =
    elim (cases_eq r.one i) [
      | inl x ↦ moves d i r.two r.inside r.second (λ y. omega (arith, r.apart))
      | inr x ↦ moves d i r.one (omega (arith, r.apart, r.inside)) r.first x
    ] in
    let b : before d j ≢ j = moves d j i h (sym t.before_group) (λ x. a (sym x)) in
    let x = r.only i h refl in
    let y = r.only j t.before_in t.before_group in
    let z = r.only (before d j) u.before_in (u.before_group ∙ t.before_group) in
    (a, third i j (before d j) r.one r.two a b x y z)
  where
    third : (i j k a b : ℕ) → j ≢ i → k ≢ j → (i ≡ a) ⊎ (i ≡ b) → (j ≡ a) ⊎ (j ≡ b) → (k ≡ a) ⊎ (k ≡ b) → k ≡ i
    third i j k a b n m x y z = grind arith

module _ (s : Sheet) (k : Sheetly s) (d : Dart) (e : is_dart s d ≡ true) where
  abbrev D : Drawing
  D = drawing_at s d.pixel

  abbrev i : ℕ
  i = crossing_of s d

  is_drawing : IsDrawing D
  is_drawing = drawing_in s k d.pixel (dart_parts s d e).0

  crossing_in : i < length D
  crossing_in = (located s d e).0

  turns : Turns D i
  turns = crossings_turn D i crossing_in

  turn_crossing : crossing_of s (turn s d) ≡ before D i
  turn_crossing = crossing_back s d.pixel is_drawing (before D i) turns.before_in

  pub turn_vertex : leaves_vertex s (turn s d) ≡ leaves_vertex s d
  turn_vertex =
      ap (λ (x : ℕ). (at D x).vertex) turn_crossing
      ∙ is_drawing.0.flags (before D i) i turns.before_in crossing_in turns.before_group

  pub turn_twice : leaves_vertex s d ≡ false → (turn s d ≢ d) × (turn s (turn s d) ≡ d)
  turn_twice v =
      let w = swaps D i crossing_in (is_drawing.0.pairs i crossing_in v) in (
        λ q. w.0 (sym turn_crossing ∙ ap (crossing_of s) q),
        ap (λ (x : ℕ). dart_of s d.pixel (before D x)) turn_crossing ∙ ap (dart_of s d.pixel) w.1 ∙ dart_back s d e,
      )
