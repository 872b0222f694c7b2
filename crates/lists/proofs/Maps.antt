-- What darts, next and starts tell of the drawings.
--   counts_le: a sheet that has the darts of another counts no fewer crossings
--   SameRoads, count_take: crossings on the same roads, and what is counted of them
--   Own, own_group: in a drawing a group goes by its first crossing
--   latest_low: a group's crossing that there is, is found
--   first_of_group: a crossing is its group's first exactly when the one before it is not smaller
--   drawings_same: sheets with the same darts, next and starts have the same drawing at each pixel
use Rattle.std.proofs.Common.{◌≡◌, ℕ, zero, suc, ◌+◌, ◌-◌, ◌*◌, ◌<◌, ◌≤◌, true, cond, eqb, List, [], ◌∷◌, length, get_or, take, sym, refl, ap, ◌∙◌, subst, inl, inr, arith}
use Rattle.std.proofs.lemmas.Bool.{eq-eqb, cases_eq, cases_lt, cond_both}
use Rattle.symbols.specs.declared.roads.Road.{Road}
use Rattle.symbols.specs.declared.roads.Road.TheVariants.{West, North, East, South}
use Rattle.symbols.specs.declared.symbols.Crossing.{Crossing}
use Rattle.symbols.specs.Symbols.{roads}
use Rattle.rules.specs.Words.{Drawing}
use Rattle.rules.specs.Tables.{at, canonical}
use Rattle.rules.specs.Crossings.{group_at, latest, before, count_on, SameDrawing}
use Rattle.rules.proofs.Tables.{leader, first_le, first_group, canonical_at}
use Rattle.rules.proofs.Counts.{Level, Even, level, sorted, tables_are_told}
use Rattle.rules.proofs.Turns.{crossings_turn}
use Rattle.orbits.specs.Statements.{Same}
use Rattle.model.specs.declared.darts.Dart.{Dart}
use Rattle.model.specs.Sheets.{Sheet, Sheetly, IsDrawing, pixels, drawing_at, beyond, facing, count_at}
use Rattle.model.specs.Darts.{dart, is_dart, crossing_of, dart_of, turn, opposite_of, next_of}
use Rattle.model.specs.Streets.{leaves_vertex, circles}
use Rattle.model.specs.Statements.{NoRoadFails}
use Rattle.model.proofs.Inside.{drawing_in, dart_parts, dart_from, code_back, crossing_back, leaving_is}
use Rattle.model.proofs.Passing.{opposed}
use Rattle.model.proofs.Listing.{in_darts, darts_are}

counts_le : (s t : Sheet) → ((d : Dart) → is_dart s d ≡ true → is_dart t d ≡ true) → (p : ℕ) (q : Road) → p < pixels s → count_at s p q ≤ count_at t p q
counts_le s t f p q h =
    elim (cases_lt (count_at t p q) (count_at s p q)) [
      | inl l ↦
          (let d : Dart = dart p q (count_at t p q) in
          let r = dart_parts t d (f d (dart_from s d h l)) in
          absurd (omega (arith, r.1)))
      | inr l ↦ l
    ]

abbrev SameRoads : List Crossing → List Crossing → Type 0
SameRoads [] [] = Unit {0}
SameRoads [] (d ∷ ds) = ⊥
SameRoads (c ∷ cs) [] = ⊥
SameRoads (c ∷ cs) (d ∷ ds) = (c.road ≡ d.road) × SameRoads cs ds

roads_same : (cs ds : List Crossing) → Level cs ds → SameRoads cs ds
roads_same [] [] l = tt
roads_same [] (d ∷ ds) l = absurd (omega (arith, l.0))
roads_same (c ∷ cs) [] l = absurd (omega (arith, l.0))
roads_same (c ∷ cs) (d ∷ ds) l = (l.1 0 (omega arith), roads_same cs ds (omega (arith, l.0), λ i h. l.1 (suc i) (omega arith)))

count_take : (cs ds : List Crossing) (i q : ℕ) → SameRoads cs ds → count_on q (take i cs) ≡ count_on q (take i ds)
count_take [] [] i q e = refl
count_take [] (d ∷ ds) i q e = absurd e
count_take (c ∷ cs) [] i q e = absurd e
count_take (c ∷ cs) (d ∷ ds) zero q e = refl
count_take (c ∷ cs) (d ∷ ds) (suc i) q e =
    ap (λ (r : ℕ). cond (eqb q r) (suc (count_on q (take i cs))) (count_on q (take i cs))) e.0
    ∙ ap (λ (n : ℕ). cond (eqb q d.road) (suc n) n) (count_take cs ds i q e.1)

-- groups

pub record Own (d : Drawing) (i : ℕ) : Type 0 where
  pub low : group_at d i ≤ i
  pub first : group_at d (group_at d i) ≡ group_at d i

pub own_group : (d : Drawing) → canonical d ≡ d → (i : ℕ) → i < length d → Own d i
own_group d e i h =
    let g : group_at d i ≡ leader d i = ap (λ (x : List Crossing). (at x i).group) (sym e) ∙ ap (λ (c : Crossing). c.group) (canonical_at d i h) in
    record {
      low = omega (arith, first_le d i h);
      first = ap (group_at d) g ∙ first_group d i h;
    }

latest_low : (f : ℕ → ℕ) (g z n j : ℕ) → j < n → f j ≡ g → latest f g z n < n
latest_low f g z zero j h e = absurd (omega arith)
latest_low f g z (suc n) j h e =
    elim (cases_eq j n) [
      | inl p ↦ rw (eq-eqb (f n) g (ap f (sym p) ∙ e)) (omega arith)
      | inr p ↦ cond_both (eqb (f n) g) n (latest f g z n) (λ (x : ℕ). x < suc n) (λ b. omega arith) (λ b. omega (arith, latest_low f g z n j (omega arith) e))
    ]

-- a crossing before which none of its group is smaller is its group's first
first_of_group : (d : Drawing) → canonical d ≡ d → (i : ℕ) → i < length d → i ≤ before d i → group_at d i ≡ i
first_of_group d e i h l =
    let o = own_group d e i h in
    elim (cases_eq (group_at d i) i) [
      | inl p ↦ p
      | inr n ↦ absurd (omega (arith, latest_low (group_at d) (group_at d i) (latest (group_at d) (group_at d i) i (length d)) i (group_at d i) (omega (arith, o.low)) o.first))
    ]

module _ (d e : Drawing) (cd : canonical d ≡ d) (ce : canonical e ≡ e) (long : length d ≡ length e) (same : (i : ℕ) → i < length d → before d i ≡ before e i) where
  groups_by : (n i : ℕ) → i < n → i < length d → group_at d i ≡ group_at e i
  groups_by zero i l h = absurd (omega arith)
  groups_by (suc n) i l h =
      let b = same i h in
      let td = crossings_turn d i h in
      let te = crossings_turn e i (omega arith) in
      elim (cases_lt (before d i) i) [
        | inl x ↦
            sym td.before_group ∙ groups_by n (before d i) (omega arith) td.before_in ∙ ap (group_at e) b ∙ te.before_group
        | inr x ↦ first_of_group d cd i h x ∙ sym (first_of_group e ce i (omega arith) (omega arith))
      ]

  pub groups_same : (i : ℕ) → i < length d → group_at d i ≡ group_at e i
  groups_same i h = groups_by (suc i) i (omega arith) h

-- the pixel beyond a road depends on the width alone
beyond_same : (s t : Sheet) (p : ℕ) (q : Road) → s.width ≡ t.width → beyond s p q ≡ beyond t p q
beyond_same s t p West w = refl
beyond_same s t p North w = ap (λ (x : ℕ). p - x) w
beyond_same s t p East w = refl
beyond_same s t p South w = ap (λ (x : ℕ). p + x) w

module _ (s t : Sheet) (k : Sheetly s) (l : Sheetly t) (fs : NoRoadFails s) (ft : NoRoadFails t)
    (w : s.width ≡ t.width) (h : s.height ≡ t.height) (same : Same (circles s) (circles t)) where
  here : pixels s ≡ pixels t
  here = ap (λ (x : ℕ). x * s.height) w ∙ ap (λ (x : ℕ). t.width * x) h

  there : (d : Dart) → is_dart s d ≡ true → is_dart t d ≡ true
  there d e = darts_are t d ((same.members d).0 (in_darts s d e))

  back : (d : Dart) → is_dart t d ≡ true → is_dart s d ≡ true
  back d e = darts_are s d ((same.members d).1 (in_darts t d e))

  module _ (p : ℕ) (b : p < pixels s) where
    bt : p < pixels t
    bt = omega (arith, here)

    ds : IsDrawing (drawing_at s p)
    ds = drawing_in s k p b

    dt : IsDrawing (drawing_at t p)
    dt = drawing_in t l p bt

    counts : (q : Road) → count_at s p q ≡ count_at t p q
    counts q = omega (arith, counts_le s t there p q b, counts_le t s back p q bt)

    even : Even (drawing_at s p) (drawing_at t p)
    even q u =
        let c = code_back q (omega arith) in
        subst (λ (x : ℕ). count_on x (drawing_at s p) ≡ count_on x (drawing_at t p)) c (counts (get_or roads q West))

    levels : Level (drawing_at s p) (drawing_at t p)
    levels = level (drawing_at s p) (drawing_at t p) 0 0 (sorted (drawing_at s p) 0 (λ i u. omega arith) ds.0.roads) (sorted (drawing_at t p) 0 (λ i u. omega arith) dt.0.roads) even

    leaving_same : (i : ℕ) → i < length (drawing_at s p) → dart_of s p i ≡ dart_of t p i
    leaving_same i u =
        let r : (at (drawing_at s p) i).road ≡ (at (drawing_at t p) i).road = levels.1 i u in
        let q : get_or roads (at (drawing_at s p) i).road West ≡ get_or roads (at (drawing_at t p) i).road West = ap (λ (x : ℕ). get_or roads x West) r in
        let n : count_on (at (drawing_at s p) i).road (take i (drawing_at s p)) ≡ count_on (at (drawing_at t p) i).road (take i (drawing_at t p)) =
        count_take (drawing_at s p) (drawing_at t p) i (at (drawing_at s p) i).road (roads_same _ _ levels) ∙ ap (λ (x : ℕ). count_on x (take i (drawing_at t p))) r in
        λ j. record { pixel = p; road = q j; place = n j }

    opposite_same : (d : Dart) → d.pixel ≡ p → opposite_of s d ≡ opposite_of t d
    opposite_same d e =
        let x : beyond s d.pixel d.road ≡ beyond t d.pixel d.road = beyond_same s t d.pixel d.road w in
        let c : count_at s d.pixel d.road ≡ count_at t d.pixel d.road = subst (λ (y : ℕ). count_at s y d.road ≡ count_at t y d.road) (sym e) (counts d.road) in
        let n : count_at s d.pixel d.road - 1 - d.place ≡ count_at t d.pixel d.road - 1 - d.place = ap (λ (y : ℕ). y - 1 - d.place) c in
        λ j. record { pixel = x j; road = facing d.road; place = n j }

    befores : (i : ℕ) → i < length (drawing_at s p) → before (drawing_at s p) i ≡ before (drawing_at t p) i
    befores i u =
        let ut : i < length (drawing_at t p) = omega (arith, levels.0) in
        let d : Dart = dart_of s p i in
        let e : is_dart s d ≡ true = leaving_is s p ds i u b in
        let o = opposed s k d e (fs p d.road b) in
        let c : Dart = opposite_of s d in
        let et : is_dart t (dart_of t p i) ≡ true = leaving_is t p dt i ut bt in
        let ot = opposed t l (dart_of t p i) et (ft p (dart_of t p i).road bt) in
        let q : dart_of s p i ≡ dart_of t p i = leaving_same i u in
        let r : c ≡ opposite_of t (dart_of t p i) = opposite_same d refl ∙ ap (opposite_of t) q in
        let ns : next_of s c ≡ dart_of s p (before (drawing_at s p) i) = ap (turn s) o.back ∙ ap (λ (x : ℕ). dart_of s p (before (drawing_at s p) x)) (crossing_back s p ds i u) in
        let nt : next_of t c ≡ dart_of t p (before (drawing_at t p) i) =
        ap (next_of t) r ∙ ap (turn t) ot.back ∙ ap (λ (x : ℕ). dart_of t p (before (drawing_at t p) x)) (crossing_back t p dt i ut) in
        let n : next_of s c ≡ next_of t c = same.nexts c (in_darts s c o.is) in
        let ts = crossings_turn (drawing_at s p) i u in
        let tt' = crossings_turn (drawing_at t p) i ut in
        let m : before (drawing_at t p) i < length (drawing_at s p) = omega (arith, levels.0, tt'.before_in) in
        sym (crossing_back s p ds (before (drawing_at s p) i) ts.before_in)
        ∙ ap (crossing_of s) (sym ns ∙ n ∙ nt ∙ sym (leaving_same (before (drawing_at t p) i) m))
        ∙ crossing_back s p ds (before (drawing_at t p) i) m

    vertices : (i : ℕ) → i < length (drawing_at s p) → (at (drawing_at s p) i).vertex ≡ (at (drawing_at t p) i).vertex
    vertices i u =
        let ut : i < length (drawing_at t p) = omega (arith, levels.0) in
        let e : is_dart s (dart_of s p i) ≡ true = leaving_is s p ds i u b in
        ap (λ (x : ℕ). (at (drawing_at s p) x).vertex) (sym (crossing_back s p ds i u))
        ∙ same.starting (dart_of s p i) (in_darts s (dart_of s p i) e)
        ∙ ap (leaves_vertex t) (leaving_same i u)
        ∙ ap (λ (x : ℕ). (at (drawing_at t p) x).vertex) (crossing_back t p dt i ut)

    pub drawings_same : drawing_at s p ≡ drawing_at t p
    drawings_same =
        let g = groups_same (drawing_at s p) (drawing_at t p) ds.1 dt.1 levels.0 befores in
        let r : SameDrawing (drawing_at s p) (drawing_at t p) = record {
          counts = even;
          groups = λ i j u v. (λ x. sym (g i u) ∙ x ∙ g j v, λ x. g i u ∙ x ∙ sym (g j v));
          vertices = vertices;
        } in
        sym ds.1 ∙ (tables_are_told (drawing_at s p) (drawing_at t p) ds.0.roads dt.0.roads).1 r ∙ dt.1
