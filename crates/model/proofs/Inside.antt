-- Darts inside one pixel: crossing numbers and darts answer each other, and the turns undo each other.
--   drawing_in: the drawing of a pixel is one
--   crossing_some: a place of a road that has so many crossings has a crossing
--   located: where the crossing of a dart lies
--   dart_back, crossing_back: from a dart to its crossing and back, from a crossing to its dart and back
--   leaving_is: what leaves through a crossing that there is, is a dart
--   turned: a turn leads to a dart of the same pixel, and the other turn undoes it
use Rattle.std.proofs.Common.{◌≡◌, ℕ, zero, suc, ◌<◌, ◌≤◌, true, eqb, List, [], ◌∷◌, length, get_or, take, Some, None, Option, sym, refl, ap, ◌∙◌, inl, inr, arith}
use Rattle.std.proofs.ByRecursion.{All-get_or}
use Rattle.std.proofs.lemmas.Bool.{and_from, and_parts, lt-ltb, ltb-true, cond-true, cond-false, cases_Bool, cases_lt}
use Rattle.symbols.specs.declared.roads.Road.{Road}
use Rattle.symbols.specs.declared.roads.Road.TheVariants.{West, North, East, South}
use Rattle.symbols.specs.declared.symbols.Crossing.{Crossing}
use Rattle.symbols.specs.Symbols.{roads, road_code}
use Rattle.rules.specs.Words.{Drawing}
use Rattle.rules.specs.Tables.{at}
use Rattle.rules.specs.Crossings.{before, after, count_on, crossing_at, one_on}
use Rattle.rules.proofs.Places.{Found, crossing_found, crossing_is, crossing_none}
use Rattle.rules.proofs.Turns.{crossings_turn}
use Rattle.model.specs.declared.darts.Dart.{Dart}
use Rattle.model.specs.Sheets.{Sheet, Sheetly, IsDrawing, pixels, drawing_at, count_at}
use Rattle.model.specs.Darts.{is_dart, crossing_of, or_first, dart_of, turn, unturn}

pub drawing_in : (s : Sheet) → Sheetly s → (p : ℕ) → p < pixels s → IsDrawing (drawing_at s p)
drawing_in s k p h = All-get_or IsDrawing s.drawings p [] (omega (arith, k.whole)) k.drawn

pub crossing_some : (d : List Crossing) (q k : ℕ) → k < count_on q d → (i : ℕ) × (crossing_at d q k ≡ Some i)
crossing_some [] q k h = absurd (omega arith)
crossing_some (c ∷ d) q zero h =
    elim (cases_Bool (eqb q c.road)) [
      | inl b ↦ (0, rw b)
      | inr b ↦ (let r = crossing_some d q 0 (rw b at h) in (suc r.0, rw (b, r.1)))
    ]
crossing_some (c ∷ d) q (suc k) h =
    elim (cases_Bool (eqb q c.road)) [
      | inl b ↦
          (let l : suc k < suc (count_on q d) = rw b at h in
          let r = crossing_some d q k (omega arith) in
          (suc r.0, ap (λ (x : ℕ). one_on (crossing_at d q x)) (cond-true (eqb q c.road) k (suc k) b) ∙ ap one_on r.1))
      | inr b ↦
          (let r = crossing_some d q (suc k) (rw b at h) in
          (suc r.0, ap (λ (x : ℕ). one_on (crossing_at d q x)) (cond-false (eqb q c.road) k (suc k) b) ∙ ap one_on r.1))
    ]

some_is : (o : Option ℕ) (i : ℕ) → o ≡ Some i → o ≡ Some (or_first o)
some_is None i e = (let z : ◌≡◌ {A = ℕ} 0 1 = cc in absurd (omega arith))
some_is (Some j) i e = refl

pub dart_parts : (s : Sheet) (d : Dart) → is_dart s d ≡ true → (d.pixel < pixels s) × (d.place < count_at s d.pixel d.road)
dart_parts s d e =
    let a = and_parts _ _ e in
    (ltb-true d.pixel (pixels s) a.0, ltb-true d.place (count_at s d.pixel d.road) a.1)

pub dart_from : (s : Sheet) (d : Dart) → d.pixel < pixels s → d.place < count_at s d.pixel d.road → is_dart s d ≡ true
dart_from s d h l = and_from _ _ (lt-ltb d.pixel (pixels s) h) (lt-ltb d.place (count_at s d.pixel d.road) l)

pub located : (s : Sheet) (d : Dart) → is_dart s d ≡ true → Found (drawing_at s d.pixel) (road_code d.road) d.place (crossing_of s d)
located s d e =
    let h = dart_parts s d e in
    let r = crossing_some (drawing_at s d.pixel) (road_code d.road) d.place h.1 in
    crossing_found (drawing_at s d.pixel) (road_code d.road) d.place (crossing_of s d) (some_is _ r.0 r.1)

pub road_back : (q : Road) → get_or roads (road_code q) West ≡ q
road_back West = refl
road_back North = refl
road_back East = refl
road_back South = refl

pub code_back : (n : ℕ) → n ≤ 3 → road_code (get_or roads n West) ≡ n
code_back zero h = refl
code_back (suc zero) h = refl
code_back (suc (suc zero)) h = refl
code_back (suc (suc (suc zero))) h = refl
code_back (suc (suc (suc (suc n)))) h = absurd (omega arith)

pub dart_back : (s : Sheet) (d : Dart) → is_dart s d ≡ true → dart_of s d.pixel (crossing_of s d) ≡ d
dart_back s d e =
    let f = located s d e in
    let r : get_or roads (at (drawing_at s d.pixel) (crossing_of s d)).road West ≡ d.road =
    ap (λ (x : ℕ). get_or roads x West) (sym f.1) ∙ road_back d.road in
    let k : count_on (at (drawing_at s d.pixel) (crossing_of s d)).road (take (crossing_of s d) (drawing_at s d.pixel)) ≡ d.place =
    ap (λ (x : ℕ). count_on x (take (crossing_of s d) (drawing_at s d.pixel))) (sym f.1) ∙ f.2 in
    λ i. record { pixel = d.pixel; road = r i; place = k i }

module _ (s : Sheet) (p : ℕ) (m : IsDrawing (drawing_at s p)) (i : ℕ) (h : i < length (drawing_at s p)) where
  code_is : road_code (dart_of s p i).road ≡ (at (drawing_at s p) i).road
  code_is = code_back (at (drawing_at s p) i).road (m.0.roads.0 i h)

  at_place : crossing_at (drawing_at s p) (road_code (dart_of s p i).road) (dart_of s p i).place ≡ Some i
  at_place =
      crossing_is (drawing_at s p) (road_code (dart_of s p i).road) (dart_of s p i).place i h code_is
      (ap (λ (x : ℕ). count_on x (take i (drawing_at s p))) code_is)

  pub crossing_back : crossing_of s (dart_of s p i) ≡ i
  crossing_back = ap or_first at_place

  pub leaving_is : p < pixels s → is_dart s (dart_of s p i) ≡ true
  leaving_is l =
      dart_from s (dart_of s p i) l
      (elim (cases_lt (dart_of s p i).place (count_at s p (dart_of s p i).road)) [
        | inl b ↦ b
        | inr b ↦
            (let n : ◌≡◌ {A = Option ℕ} None (Some i) = sym (crossing_none (drawing_at s p) (road_code (dart_of s p i).road) (dart_of s p i).place b) ∙ at_place in
            let z : ◌≡◌ {A = ℕ} 0 1 = cc in
            absurd (omega arith))
      ])

pub turned : (s : Sheet) → Sheetly s → (d : Dart) → is_dart s d ≡ true
    → (is_dart s (turn s d) ≡ true) × (is_dart s (unturn s d) ≡ true) × (unturn s (turn s d) ≡ d) × (turn s (unturn s d) ≡ d)
turned s k d e =
    let h = dart_parts s d e in
    let p : ℕ = d.pixel in
    let D : Drawing = drawing_at s p in
    let m = drawing_in s k p h.0 in
    let i : ℕ = crossing_of s d in
    let t = crossings_turn D i (located s d e).0 in (
      leaving_is s p m (before D i) t.before_in h.0,
      leaving_is s p m (after D i) t.after_in h.0,
      ap (λ (x : ℕ). dart_of s p (after D x)) (crossing_back s p m (before D i) t.before_in) ∙ ap (dart_of s p) t.back ∙ dart_back s d e,
      ap (λ (x : ℕ). dart_of s p (before D x)) (crossing_back s p m (after D i) t.after_in) ∙ ap (dart_of s p) t.forth ∙ dart_back s d e,
    )
