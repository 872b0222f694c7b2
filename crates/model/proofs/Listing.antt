-- The list of darts: each dart once and no other, in order.
--   in_from, from_in: the numbers from one on
--   in_darts, darts_are: the list has the darts of the sheet
--   dart_order: darts are ordered
--   darts_listed: the theorem
--   circles_lawful: where no road fails, darts with next are circles
--   next_returns: going on by next comes back
use Rattle.std.proofs.Common.{◌≡◌, ℕ, zero, suc, ◌+◌, ◌<◌, ◌≤◌, Bool, true, false, ◌&&◌, ◌||◌, eqb, ltb, leb, List, [], ◌∷◌, ◌++◌, map, get_or, Ok, sym, refl, ap, ◌∙◌, subst, inl, inr, ⊎_elim, arith}
use Rattle.std.specs.List.{flat_map}
use Rattle.std.proofs.lemmas.Bool.{and_from, and_parts, or_left, or_right, eq-eqb, eqb-true, lt-ltb, ltb-true, le-leb, cases_eq}
use Rattle.std.proofs.lemmas.Bool.Decides.{nat_tests}
use Rattle.symbols.specs.declared.roads.Road.{Road}
use Rattle.symbols.specs.declared.roads.Road.TheVariants.{West, North, East, South}
use Rattle.symbols.specs.Symbols.{roads, road_code}
use Rattle.orbits.specs.Orbits.{In, Apart, Lawful}
use Rattle.orbits.specs.Statements.{Ordered, Order}
use Rattle.orbits.proofs.Members.{in_either, in_map, map_in, in_joined, joined_in, apart_joined}
use Rattle.orbits.proofs.All.{return}
use Rattle.model.specs.declared.darts.Dart.{Dart}
use Rattle.model.specs.Sheets.{Sheet, Sheetly, pixels, count_at}
use Rattle.model.specs.Darts.{dart, same_dart, dart_le, is_dart, from_on, up_to, darts_on, darts_in, darts, next_of}
use Rattle.model.specs.Streets.{circles}
use Rattle.model.specs.Statements.{NoRoadFails, NextReturns, DartsListed}
use Rattle.model.proofs.Inside.{dart_parts, dart_from, road_back}
use Rattle.model.proofs.Passing.{next_given, next_one}

-- numbers

pub in_from : (i n k : ℕ) → i ≤ k → k < i + n → In k (from_on i n)
in_from i zero k a b = absurd (omega arith)
in_from i (suc n) k a b = elim (cases_eq k i) [ inl e ↦ inl e | inr d ↦ inr (in_from (suc i) n k (omega arith) (omega arith)) ]

pub from_in : (i n k : ℕ) → In k (from_on i n) → (i ≤ k) × (k < i + n)
from_in i zero k m = absurd m
from_in i (suc n) k (inl e) = (omega arith, omega arith)
from_in i (suc n) k (inr m) = (let r = from_in (suc i) n k m in (omega (arith, r.0), omega (arith, r.1)))

pub road_in : (q : Road) → In q roads
road_in West = inl refl
road_in North = inr (inl refl)
road_in East = inr (inr (inl refl))
road_in South = inr (inr (inr (inl refl)))

-- members

pub in_darts : (s : Sheet) (d : Dart) → is_dart s d ≡ true → In d (darts s)
in_darts s d e =
    let h = dart_parts s d e in
    in_joined (darts_in s) d d.pixel (up_to (pixels s)) (in_from 0 (pixels s) d.pixel (omega arith) (omega (arith, h.0)))
    (in_joined (darts_on s d.pixel) d d.road roads (road_in d.road)
    (in_map (dart d.pixel d.road) d.place (up_to (count_at s d.pixel d.road)) (in_from 0 (count_at s d.pixel d.road) d.place (omega arith) (omega (arith, h.1)))))

pub darts_are : (s : Sheet) (d : Dart) → In d (darts s) → is_dart s d ≡ true
darts_are s d m =
    let a = joined_in (darts_in s) d (up_to (pixels s)) m in
    let b = joined_in (darts_on s a.0) d roads a.2 in
    let c = map_in (dart a.0 b.0) d (up_to (count_at s a.0 b.0)) b.2 in
    let p = from_in 0 (pixels s) a.0 a.1 in
    let k = from_in 0 (count_at s a.0 b.0) c.0 c.1 in
    subst (λ (x : Dart). is_dart s x ≡ true) (sym c.2) (dart_from s (dart a.0 b.0 c.0) (omega (arith, p.1)) (omega (arith, k.1)))

-- no dart twice

apart_from : (i n : ℕ) → Apart (from_on i n)
apart_from i zero = tt
apart_from i (suc n) = (λ m. (let r = from_in (suc i) n i m in omega (arith, r.0)), apart_from (suc i) n)

apart_by : {A B : Type 0} (f : A → B) (xs : List A) → Apart (map f xs) → Apart xs
apart_by f [] a = tt
apart_by f (x ∷ xs) a = (λ m. a.0 (in_map f x xs m), apart_by f xs a.1)

apart_map : {A B : Type 0} (f : A → B) (g : B → A) (xs : List A) → ((x : A) → g (f x) ≡ x) → Apart xs → Apart (map f xs)
apart_map f g [] e a = tt
apart_map f g (x ∷ xs) e a = (
  λ m. let r = map_in f (f x) xs m in a.0 (subst (λ y. In y xs) (sym (sym (e x) ∙ ap g r.2 ∙ e r.0)) r.1),
  apart_map f g xs e a.1,
)

on_road : (s : Sheet) (p : ℕ) (q : Road) (d : Dart) → In d (darts_on s p q) → (k : ℕ) × (d ≡ dart p q k)
on_road s p q d m = (let r = map_in (dart p q) d (up_to (count_at s p q)) m in (r.0, r.2))

in_pixel : (s : Sheet) (p : ℕ) (d : Dart) → In d (darts_in s p) → (q : Road) × (k : ℕ) × (d ≡ dart p q k)
in_pixel s p d m =
    let b = joined_in (darts_on s p) d roads m in
    let r = on_road s p b.0 d b.2 in
    (b.0, r.0, r.1)

apart_pixel : (s : Sheet) (p : ℕ) → Apart (darts_in s p)
apart_pixel s p =
    apart_joined (darts_on s p) roads (apart_by road_code roads (apart_from 0 4))
    (λ q m. apart_map (dart p q) (λ d. d.place) (up_to (count_at s p q)) (λ k. refl) (apart_from 0 (count_at s p q)))
    (λ q r d m n a b. sym (ap (λ (x : Dart). x.road) (on_road s p q d a).1) ∙ ap (λ (x : Dart). x.road) (on_road s p r d b).1)

pub apart_darts : (s : Sheet) → Apart (darts s)
apart_darts s =
    apart_joined (darts_in s) (up_to (pixels s)) (apart_from 0 (pixels s)) (λ p m. apart_pixel s p)
    (λ p q d m n a b. sym (ap (λ (x : Dart). x.pixel) (in_pixel s p d a).2) ∙ ap (λ (x : Dart). x.pixel) (in_pixel s q d b).2)

-- in order

abbrev le3 : ℕ → ℕ → ℕ → ℕ → ℕ → ℕ → Bool
le3 p q r p' q' r' = ltb p p' || (eqb p p' && (ltb q q' || (eqb q q' && leb r r')))

le3_p : (p q r p' q' r' : ℕ) → le3 p q r p' q' r' ≡ true → le3 p' q' r' p q r ≡ true → p ≡ p'
le3_p p q r p' q' r' h k = grind (arith, nat_tests)

le3_q : (p q r p' q' r' : ℕ) → le3 p q r p' q' r' ≡ true → le3 p' q' r' p q r ≡ true → q ≡ q'
le3_q p q r p' q' r' h k = grind (arith, nat_tests)

le3_r : (p q r p' q' r' : ℕ) → le3 p q r p' q' r' ≡ true → le3 p' q' r' p q r ≡ true → r ≡ r'
le3_r p q r p' q' r' h k = grind (arith, nat_tests)

le3_either : (p q r p' q' r' : ℕ) → le3 p q r p' q' r' ≡ false → le3 p' q' r' p q r ≡ true
le3_either p q r p' q' r' h = grind (arith, nat_tests)

le3_chain : (p q r p' q' r' p'' q'' r'' : ℕ) → le3 p q r p' q' r' ≡ true → le3 p' q' r' p'' q'' r'' ≡ true → le3 p q r p'' q'' r'' ≡ true
le3_chain p q r p' q' r' p'' q'' r'' h k = grind (arith, nat_tests)

road_told : (q r : Road) → road_code q ≡ road_code r → q ≡ r
road_told q r e = sym (road_back q) ∙ ap (λ (x : ℕ). get_or roads x West) e ∙ road_back r

dart_is : (c d : Dart) → c.pixel ≡ d.pixel → road_code c.road ≡ road_code d.road → c.place ≡ d.place → c ≡ d
dart_is c d p q r = (let e = road_told c.road d.road q in λ i. record { pixel = p i; road = e i; place = r i })

pub dart_order : Order dart_le
dart_order = record {
  both = λ d e h k. dart_is d e
      (le3_p d.pixel (road_code d.road) d.place e.pixel (road_code e.road) e.place h k)
      (le3_q d.pixel (road_code d.road) d.place e.pixel (road_code e.road) e.place h k)
      (le3_r d.pixel (road_code d.road) d.place e.pixel (road_code e.road) e.place h k);
  chain = λ d e f h k. le3_chain d.pixel (road_code d.road) d.place e.pixel (road_code e.road) e.place f.pixel (road_code f.road) f.place h k;
  either = λ d e h. le3_either d.pixel (road_code d.road) d.place e.pixel (road_code e.road) e.place h;
}

pub dart_told : (c d : Dart) → same_dart c d ≡ true → c ≡ d
dart_told c d h =
    let a = and_parts _ _ h in
    let b = and_parts _ _ a.1 in
    dart_is c d (eqb-true c.pixel d.pixel a.0) (eqb-true (road_code c.road) (road_code d.road) b.0) (eqb-true c.place d.place b.1)

pub dart_self : (d : Dart) → same_dart d d ≡ true
dart_self d =
    and_from _ _ (eq-eqb d.pixel d.pixel refl)
    (and_from _ _ (eq-eqb (road_code d.road) (road_code d.road) refl) (eq-eqb d.place d.place refl))

ordered_append : {A : Type 0} (le : A → A → Bool) (xs ys : List A) → Ordered le xs → Ordered le ys → ((x y : A) → In x xs → In y ys → le x y ≡ true) → Ordered le (xs ++ ys)
ordered_append le [] ys a b h = b
ordered_append le (x ∷ xs) ys a b h = (
  λ y m. ⊎_elim (λ (l : In y xs). a.0 y l) (λ (r : In y ys). h x y (inl refl) r) (in_either y xs ys m),
  ordered_append le xs ys a.1 b (λ u v m n. h u v (inr m) n),
)

by_pixel : (c d : Dart) → c.pixel < d.pixel → dart_le c d ≡ true
by_pixel c d h = or_left _ _ (lt-ltb c.pixel d.pixel h)

by_road : (c d : Dart) → c.pixel ≡ d.pixel → road_code c.road < road_code d.road → dart_le c d ≡ true
by_road c d e h = or_right _ _ (and_from _ _ (eq-eqb c.pixel d.pixel e) (or_left _ _ (lt-ltb (road_code c.road) (road_code d.road) h)))

by_place : (p : ℕ) (q : Road) (j k : ℕ) → j ≤ k → dart_le (dart p q j) (dart p q k) ≡ true
by_place p q j k h =
    or_right _ _ (and_from _ _ (eq-eqb p p refl) (or_right _ _ (and_from _ _ (eq-eqb (road_code q) (road_code q) refl) (le-leb j k h))))

ordered_on : (p : ℕ) (q : Road) (i n : ℕ) → Ordered dart_le (map (dart p q) (from_on i n))
ordered_on p q i zero = tt
ordered_on p q i (suc n) = (
  λ d m.
      let r = map_in (dart p q) d (from_on (suc i) n) m in
      subst (λ (x : Dart). dart_le (dart p q i) x ≡ true) (sym r.2) (by_place p q i r.0 (omega (arith, (from_in (suc i) n r.0 r.1).0))),
  ordered_on p q (suc i) n,
)

-- roads of which each has a larger code than those before
abbrev Rise : List Road → Type 0
Rise qs = Ordered (λ q r. ltb (road_code q) (road_code r)) qs

ordered_in : (s : Sheet) (p : ℕ) (qs : List Road) → Rise qs → Ordered dart_le (flat_map (darts_on s p) qs)
ordered_in s p [] a = tt
ordered_in s p (q ∷ qs) a =
    ordered_append dart_le (darts_on s p q) (flat_map (darts_on s p) qs) (ordered_on p q 0 (count_at s p q)) (ordered_in s p qs a.1)
    (λ c d m n.
    let x = on_road s p q c m in
    let b = joined_in (darts_on s p) d qs n in
    let y = on_road s p b.0 d b.2 in
    subst (λ (u : Dart). dart_le u d ≡ true) (sym x.1)
    (subst (λ (v : Dart). dart_le (dart p q x.0) v ≡ true) (sym y.1)
    (by_road (dart p q x.0) (dart p b.0 y.0) refl (ltb-true (road_code q) (road_code b.0) (a.0 b.0 b.1)))))

roads_rise : Rise roads
roads_rise = (
  λ r m. west r m,
  (λ r m. north r m, (λ r m. east r m, (λ r m. absurd m, tt))),
)
  where
    west : (r : Road) → In r (North ∷ East ∷ South ∷ []) → ltb 0 (road_code r) ≡ true
    west r (inl e) = ap (λ (x : Road). ltb 0 (road_code x)) e
    west r (inr (inl e)) = ap (λ (x : Road). ltb 0 (road_code x)) e
    west r (inr (inr (inl e))) = ap (λ (x : Road). ltb 0 (road_code x)) e
    west r (inr (inr (inr m))) = absurd m

    north : (r : Road) → In r (East ∷ South ∷ []) → ltb 1 (road_code r) ≡ true
    north r (inl e) = ap (λ (x : Road). ltb 1 (road_code x)) e
    north r (inr (inl e)) = ap (λ (x : Road). ltb 1 (road_code x)) e
    north r (inr (inr m)) = absurd m

    east : (r : Road) → In r (South ∷ []) → ltb 2 (road_code r) ≡ true
    east r (inl e) = ap (λ (x : Road). ltb 2 (road_code x)) e
    east r (inr m) = absurd m

ordered_from : (s : Sheet) (i n : ℕ) → Ordered dart_le (flat_map (darts_in s) (from_on i n))
ordered_from s i zero = tt
ordered_from s i (suc n) =
    ordered_append dart_le (darts_in s i) (flat_map (darts_in s) (from_on (suc i) n)) (ordered_in s i roads roads_rise) (ordered_from s (suc i) n)
    (λ c d m k.
    let x = in_pixel s i c m in
    let b = joined_in (darts_in s) d (from_on (suc i) n) k in
    let y = in_pixel s b.0 d b.2 in
    let l = from_in (suc i) n b.0 b.1 in
    by_pixel c d (omega (arith, ap (λ (u : Dart). u.pixel) x.2, ap (λ (u : Dart). u.pixel) y.2, l.0)))

pub darts_listed : DartsListed
darts_listed s = (λ d. (darts_are s d, in_darts s d), apart_darts s, ordered_from s 0 (pixels s))

pub circles_lawful : (s : Sheet) → Sheetly s → NoRoadFails s → Lawful (circles s)
circles_lawful s k free = record {
  told = dart_told;
  self = dart_self;
  apart = apart_darts s;
  stays = λ d m. in_darts s (next_of s d) (next_given s k free d (darts_are s d m)).1;
  one = λ c d m n e.
      let a = darts_are s c m in
      let b = darts_are s d n in
      next_one s k free c d a b ((next_given s k free c a).0 ∙ ap Ok e ∙ sym (next_given s k free d b).0);
}

pub next_returns : NextReturns
next_returns s k free d e = return Dart (circles s) (circles_lawful s k free) d (in_darts s d e)
