-- Street lists cover their sheets.
--   lefts_cover: the darts left of the arrows are the sidewalks one after the other
--   chained_steps: darts that follow one another by next
--   sidewalks_part, lists_cover: the theorems
use Rattle.std.proofs.Common.{◌≡◌, ℕ, zero, suc, ◌≤◌, true, false, ◌↔◌, List, [], ◌∷◌, ◌++◌, map, sym, refl, ap, subst, inl, inr, arith}
use Rattle.std.specs.List.{flat_map}
use Rattle.std.proofs.lemmas.Bool.{cases_Bool, both_ways}
use Rattle.orbits.specs.Orbits as orbit
use Rattle.orbits.specs.Orbits.{In, Apart, System, Lawful, times, steps, last}
use Rattle.orbits.proofs.Members.{map_in, kept_in}
use Rattle.orbits.proofs.All as orbits
use Rattle.model.specs.declared.darts.Dart.{Dart}
use Rattle.model.specs.Sheets.{Sheet, Sheetly}
use Rattle.model.specs.Darts.{is_dart, darts, next_of}
use Rattle.model.specs.Streets.{leaves_vertex, circles, on_ring, street_lines}
use Rattle.model.specs.Statements.{NoRoadFails}
use Rattle.model.proofs.Passing.{next_given}
use Rattle.model.proofs.Listing.{in_darts, darts_are, circles_lawful}
use Rattle.model.proofs.Checking.{check_free, check_quiet}
use Rattle.lists.specs.Statements.{lefts, Chained, ListsCover, SidewalksPart}

lefts_map : (f : Dart → List Dart) (g : Dart → Dart) (bs : List Dart) → lefts (map (λ b. (f b, g b)) bs) ≡ flat_map f bs
lefts_map f g [] = refl
lefts_map f g (b ∷ bs) = ap (λ (x : List Dart). f b ++ x) (lefts_map f g bs)

pub lefts_cover : (s : Sheet) → lefts (street_lines s) ≡ orbit.cover (circles s)
lefts_cover s = lefts_map (orbit.sidewalk (circles s)) (λ b. next_of s (last b (orbit.sidewalk (circles s) b))) (orbit.begins (circles s))

module _ (s : Sheet) (k : Sheetly s) (free : NoRoadFails s) where
  lawful : Lawful (circles s)
  lawful = circles_lawful s k free

  -- the darts from one on, each followed by its next
  chained_steps : (n : ℕ) (d : Dart) → is_dart s d ≡ true → Chained s (steps (next_of s) (suc n) d) (times (next_of s) (suc n) d)
  chained_steps zero d e = (next_given s k free d e).0
  chained_steps (suc n) d e = (let g = next_given s k free d e in (g.0, chained_steps n (next_of s d) g.1))

  chained_walk : (n : ℕ) (d : Dart) → 1 ≤ n → is_dart s d ≡ true → Chained s (steps (next_of s) n d) (times (next_of s) n d)
  chained_walk zero d l e = absurd (omega arith)
  chained_walk (suc n) d l e = chained_steps n d e

  pub chained_line : (l : List Dart × Dart) → In l (street_lines s) → Chained s l.0 l.1
  chained_line l m =
      let r = map_in (orbit.line (circles s)) l (orbit.begins (circles s)) m in
      let b : Dart = r.0 in
      let i = kept_in (leaves_vertex s) b (darts s) r.1 in
      let w = orbits.walks Dart (circles s) lawful b i.0 i.1 in
      let v = w.1 in
      subst (λ (x : List Dart × Dart). Chained s x.0 x.1) (sym r.2)
      (subst (λ (x : List Dart). Chained s x (next_of s (last b (orbit.sidewalk (circles s) b)))) (sym v.is)
      (subst (λ (x : Dart). Chained s (steps (next_of s) w.0 b) x) (sym v.end)
      (chained_walk w.0 b v.some (darts_are s b i.0))))

  quiet_no_ring : (d : Dart) → In d (darts s) → (on_ring s d ≡ false) ↔ (orbit.OnRing (circles s) d → ⊥)
  quiet_no_ring d m =
      let r = orbits.rings_told Dart (circles s) lawful d m in (
        λ e o. both_ways (on_ring s d) e (r.1 o),
        λ n. elim (cases_Bool (on_ring s d)) [ inl t ↦ absurd (n (r.0 t)) | inr f ↦ f ],
      )

  pub parted : ((d : Dart) → In d (lefts (street_lines s)) ↔ ((is_dart s d ≡ true) × (on_ring s d ≡ false))) × Apart (lefts (street_lines s))
  parted =
      let c = orbits.covers Dart (circles s) lawful in
      let q = lefts_cover s in (
        λ d. (
          λ m.
              let x = (c.exact d).0 (subst (λ (l : List Dart). In d l) q m) in
              (darts_are s d x.0, (quiet_no_ring d x.0).1 x.1),
          λ h.
              let i = in_darts s d h.0 in
              subst (λ (l : List Dart). In d l) (sym q) ((c.exact d).1 (i, (quiet_no_ring d i).0 h.1)),
        ),
        subst Apart (sym q) c.apart,
      )

pub sidewalks_part : SidewalksPart
sidewalks_part s k free = parted s k free

pub lists_cover : ListsCover
lists_cover s k e =
    let free = check_free s e in
    let c = parted s k free in
    record {
      every = λ d. (λ m. ((c.0 d).0 m).0, λ h. (c.0 d).1 (h, check_quiet s e d (in_darts s d h)));
      once = c.1;
      followed = chained_line s k free;
    }
