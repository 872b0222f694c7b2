-- Opposite, next and previous: what undoes what.
--   Opposed: the opposite of a dart over a road that does not fail is a dart over such a road, and leads back
--   over_given, over_is: what it is for an answer to be given
--   next_undone, opposite_undone, next_one_to_one: the laws
use Rattle.std.proofs.Common.{◌≡◌, ℕ, ◌-◌, Bool, true, false, cond, ◌≢◌, Ok, Err, sym, refl, ap, ◌∙◌, subst, arith}
use Rattle.symbols.specs.declared.refusals.Refusal.TheVariants.{NoDart, RoadFails}
use Rattle.symbols.specs.declared.roads.Road.{Road}
use Rattle.model.specs.declared.darts.Dart.{Dart}
use Rattle.model.specs.Sheets.{Sheet, Sheetly, count_at, fails}
use Rattle.model.specs.Darts.{is_dart, turn, unturn, opposite_of, next_of, previous_of, over, next, previous}
use Rattle.model.specs.Statements.{NextUndone, OppositeUndone, NoRoadFails, NextOneToOne}
use Rattle.model.proofs.Pixels.{facing_twice, beside, passed, free_back}
use Rattle.model.proofs.Inside.{dart_parts, dart_from, turned}

pub record Opposed (s : Sheet) (d : Dart) : Type 0 where
  pub is : is_dart s (opposite_of s d) ≡ true
  pub free : fails s (opposite_of s d).pixel (opposite_of s d).road ≡ false
  pub back : opposite_of s (opposite_of s d) ≡ d
  pub moved : (opposite_of s d).pixel ≢ d.pixel

pub opposed : (s : Sheet) → Sheetly s → (d : Dart) → is_dart s d ≡ true → fails s d.pixel d.road ≡ false → Opposed s d
opposed s k d e f =
    let h = dart_parts s d e in
    let p = passed s d.pixel d.road f (omega (arith, h.1)) in
    let b = beside s k d.pixel d.road h.0 p.0 in
    let n : ℕ = count_at s d.pixel d.road in
    let m : n ≡ count_at s (opposite_of s d).pixel (opposite_of s d).road = p.1 in
    let y = b.back in
    let q = facing_twice d.road in
    let z : count_at s (opposite_of s d).pixel (opposite_of s d).road - 1 - (n - 1 - d.place) ≡ d.place = omega (arith, h.1) in
    record {
      is = dart_from s (opposite_of s d) b.inside (omega (arith, h.1));
      free = free_back s d.pixel d.road b p.1;
      back = λ i. record { pixel = y i; road = q i; place = z i };
      moved = b.moved;
    }

-- an answer that is given is given over a road that does not fail
pub over_given : (a b : Bool) (p : ℕ) (q : Road) (x y : Dart) → cond a (cond b (Err (RoadFails p q)) (Ok x)) (Err NoDart) ≡ Ok y → (a ≡ true) × (b ≡ false) × (x ≡ y)
over_given true true p q x y e = (let z : ◌≡◌ {A = ℕ} 0 1 = cc in absurd (omega arith))
over_given true false p q x y e = (refl, refl, (let r : x ≡ y = cc in r))
over_given false b p q x y e = (let z : ◌≡◌ {A = ℕ} 0 1 = cc in absurd (omega arith))

pub over_is : (s : Sheet) (d e x y : Dart) → is_dart s d ≡ true → fails s e.pixel e.road ≡ false → x ≡ y → over s d e x ≡ Ok y
over_is s d e x y h f q = rw (h, f) (ap Ok q)

next_back : (s : Sheet) → Sheetly s → (c d : Dart) → next s c ≡ Ok d → previous s d ≡ Ok c
next_back s k c d e =
    let g = over_given (is_dart s c) (fails s c.pixel c.road) c.pixel c.road (next_of s c) d e in
    let o = opposed s k c g.0 g.1 in
    let t = turned s k (opposite_of s c) o.is in
    let u : unturn s d ≡ opposite_of s c = ap (unturn s) (sym g.2) ∙ t.2 in
    over_is s d (unturn s d) (previous_of s d) c (subst (λ (x : Dart). is_dart s x ≡ true) g.2 t.0)
    (subst (λ (x : Dart). fails s x.pixel x.road ≡ false) (sym u) o.free)
    (ap (opposite_of s) u ∙ o.back)

previous_back : (s : Sheet) → Sheetly s → (c d : Dart) → previous s d ≡ Ok c → next s c ≡ Ok d
previous_back s k c d e =
    let v : Dart = unturn s d in
    let g = over_given (is_dart s d) (fails s v.pixel v.road) v.pixel v.road (previous_of s d) c e in
    let t = turned s k d g.0 in
    let o = opposed s k v t.1 g.1 in
    let u : opposite_of s c ≡ v = ap (opposite_of s) (sym g.2) ∙ o.back in
    over_is s c c (next_of s c) d (subst (λ (x : Dart). is_dart s x ≡ true) g.2 o.is)
    (subst (λ (x : Dart). fails s x.pixel x.road ≡ false) g.2 o.free)
    (ap (turn s) u ∙ t.3)

pub next_undone : NextUndone
next_undone s k c d = (next_back s k c d, previous_back s k c d)

pub opposite_undone : OppositeUndone
opposite_undone s k c d e =
    let g = over_given (is_dart s c) (fails s c.pixel c.road) c.pixel c.road (opposite_of s c) d e in
    let o = opposed s k c g.0 g.1 in (
      over_is s d d (opposite_of s d) c (subst (λ (x : Dart). is_dart s x ≡ true) g.2 o.is)
          (subst (λ (x : Dart). fails s x.pixel x.road ≡ false) g.2 o.free)
          (ap (opposite_of s) (sym g.2) ∙ o.back),
      λ q. o.moved (ap (λ (x : Dart). x.pixel) (g.2 ∙ sym q)),
    )

module _ (s : Sheet) (k : Sheetly s) (free : NoRoadFails s) where
  pub next_given : (d : Dart) → is_dart s d ≡ true → (next s d ≡ Ok (next_of s d)) × (is_dart s (next_of s d) ≡ true)
  next_given d e =
      let f = free d.pixel d.road (dart_parts s d e).0 in
      let o = opposed s k d e f in
      (over_is s d d (next_of s d) (next_of s d) e f refl, (turned s k (opposite_of s d) o.is).0)

  pub next_one : (c d : Dart) → is_dart s c ≡ true → is_dart s d ≡ true → next s c ≡ next s d → c ≡ d
  next_one c d h l e =
      let a = (next_given c h).0 in
      let b = (next_given d l).0 in
      let u = (next_undone s k c (next_of s c)).0 a in
      let v = (next_undone s k d (next_of s c)).0 (sym e ∙ a) in
      let w : Ok c ≡ Ok d = sym u ∙ v in
      cc

pub next_one_to_one : NextOneToOne
next_one_to_one s k free = (next_given s k free, next_one s k free)
