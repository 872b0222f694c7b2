-- Going on from a dart comes home, wherever no step is refused, before as many steps are made as there are darts.
--   landed: a step that is given leads from a dart to a dart
--   came, went: what next and previous lead to
--   one_back: next is one-to-one where it is given
--   Given: so many steps from a dart on are given
--   given_back: a repetition among them is a return
--   given_short: so many steps with no return are fewer than the darts
--   pixels_few: a sheet has at most 4096 pixels
--   in_few: a pixel has no more darts than crossings
--   darts_few: a sheet has at most 60 darts for each pixel
use Rattle.std.proofs.Common.{◌≡◌, ℕ, zero, suc, ◌+◌, ◌*◌, ◌<◌, ◌≤◌, true, false, cond, eqb, List, [], ◌∷◌, ◌++◌, length, Ok, sym, refl, ap, ◌∙◌, subst, inl, inr, mul-le-mul_right, arith, length-append}
use Rattle.std.specs.List.{flat_map}
use Rattle.std.proofs.lemmas.List.{length-map}
use Rattle.std.proofs.lemmas.Bool.{ne_eqb}
use Rattle.symbols.specs.declared.roads.Road.{Road}
use Rattle.symbols.specs.declared.roads.Road.TheVariants.{West, North, East, South}
use Rattle.symbols.specs.declared.symbols.Crossing.{Crossing}
use Rattle.symbols.specs.Symbols.{road_code}
use Rattle.rules.specs.Crossings.{count_on}
use Rattle.orbits.specs.Orbits.{In, Apart, Repeats, times, steps}
use Rattle.orbits.proofs.Members.{fits, apart_unless}
use Rattle.orbits.proofs.Turns.{steps_in, length_steps}
use Rattle.model.specs.declared.darts.Dart.{Dart}
use Rattle.model.specs.Sheets.{Sheet, Sheetly, pixels, drawing_at, fails}
use Rattle.model.specs.Darts.{is_dart, from_on, up_to, darts_on, darts_in, darts, unturn, previous_of, next_of, next, previous}
use Rattle.model.proofs.Inside.{drawing_in}
use Rattle.model.proofs.Passing.{over_given, next_undone}
use Rattle.model.proofs.Listing.{in_darts}

abbrev pub Given : Sheet → ℕ → Dart → Type 0
Given s n x = (j : ℕ) → j < n → next s (times (next_of s) j x) ≡ Ok (times (next_of s) (suc j) x)

module _ (s : Sheet) (k : Sheetly s) where
  abbrev f : Dart → Dart
  f = next_of s

  pub landed : (c d : Dart) → next s c ≡ Ok d → (is_dart s c ≡ true) × (is_dart s d ≡ true) × (f c ≡ d)
  landed c d e =
      let g = over_given (is_dart s c) (fails s c.pixel c.road) c.pixel c.road (next_of s c) d e in
      let v : Dart = unturn s d in
      let b = over_given (is_dart s d) (fails s v.pixel v.road) v.pixel v.road (previous_of s d) c ((next_undone s k c d).0 e) in
      (g.0, b.0, g.2)

  pub came : (c d : Dart) → Ok d ≡ next s c → (d ≡ f c) × (is_dart s d ≡ true)
  came c d e = (let l = landed c d (sym e) in (sym l.2, l.1))

  pub went : (c d : Dart) → Ok c ≡ previous s d → (f c ≡ d) × (is_dart s c ≡ true)
  went c d e = (let l = landed c d ((next_undone s k c d).1 (sym e)) in (l.2, l.0))

  pub one_back : (c d e : Dart) → next s c ≡ Ok e → next s d ≡ Ok e → c ≡ d
  one_back c d e a b =
      let p : Ok c ≡ Ok d = sym ((next_undone s k c e).0 a) ∙ (next_undone s k d e).0 b in
      cc

  given_back : (n : ℕ) (x : Dart) → Given s n x → Repeats (steps f (suc n) x) → (j : ℕ) × (1 ≤ j) × (j ≤ n) × (times f j x ≡ x)
  given_back zero x g (inl i) = absurd i
  given_back zero x g (inr i) = absurd i
  given_back (suc n) x g (inl i) =
      (let r = steps_in f (suc n) (f x) x i in (suc r.0, omega arith, omega (arith, r.1), sym r.2))
  given_back (suc n) x g (inr i) =
      let q = given_back n (f x) (λ j l. g (suc j) (omega arith)) i in
      let a : next s (times f q.0 x) ≡ Ok (f x) = g q.0 (omega (arith, q.2)) ∙ ap Ok q.3 in
      (q.0, q.1, omega (arith, q.2), one_back (times f q.0 x) x (f x) a (g 0 (omega arith)))

  given_in : (n : ℕ) (x : Dart) → is_dart s x ≡ true → Given s n x → (j : ℕ) → j ≤ n → is_dart s (times f j x) ≡ true
  given_in n x e g zero l = e
  given_in n x e g (suc j) l = (landed (times f j x) (times f (suc j) x) (g j (omega arith))).1

  -- so many steps with no return are fewer than the darts
  pub given_short : (n : ℕ) (x : Dart) → is_dart s x ≡ true → Given s n x → ((j : ℕ) → 1 ≤ j → j ≤ n → times f j x ≡ x → ⊥) → n < length (darts s)
  given_short n x e g away =
      let a : Apart (steps f (suc n) x) = apart_unless (steps f (suc n) x) (λ r. let q = given_back n x g r in away q.0 q.1 q.2 q.3) in
      let l = fits (steps f (suc n) x) (darts s) a
      (λ y i. let r = steps_in f (suc n) x y i in
      subst (λ (z : Dart). In z (darts s)) (sym r.2) (in_darts s (times f r.0 x) (given_in n x e g r.0 (omega (arith, r.1))))) in
      omega (arith, l, length_steps f (suc n) x)

-- how many darts there are

counted_once : (d : List Crossing) → count_on 0 d + (count_on 1 d + (count_on 2 d + count_on 3 d)) ≤ length d
counted_once [] = omega arith
counted_once (c ∷ d) = (let r = counted_once d in one c.road r)
  where
    one : (q : ℕ) → count_on 0 d + (count_on 1 d + (count_on 2 d + count_on 3 d)) ≤ length d
        → cond (eqb 0 q) (suc (count_on 0 d)) (count_on 0 d) + (cond (eqb 1 q) (suc (count_on 1 d)) (count_on 1 d) + (cond (eqb 2 q) (suc (count_on 2 d)) (count_on 2 d) + cond (eqb 3 q) (suc (count_on 3 d)) (count_on 3 d))) ≤ suc (length d)
    one zero r = omega arith
    one (suc zero) r = omega arith
    one (suc (suc zero)) r = omega arith
    one (suc (suc (suc zero))) r = omega arith
    one (suc (suc (suc (suc q)))) r =
        let a : eqb 0 (suc (suc (suc (suc q)))) ≡ false = ne_eqb 0 (suc (suc (suc (suc q)))) (λ e. omega arith) in
        let b : eqb 1 (suc (suc (suc (suc q)))) ≡ false = ne_eqb 1 (suc (suc (suc (suc q)))) (λ e. omega arith) in
        let x : eqb 2 (suc (suc (suc (suc q)))) ≡ false = ne_eqb 2 (suc (suc (suc (suc q)))) (λ e. omega arith) in
        let y : eqb 3 (suc (suc (suc (suc q)))) ≡ false = ne_eqb 3 (suc (suc (suc (suc q)))) (λ e. omega arith) in
        rw (a, b, x, y) (omega arith)

length_from : (i n : ℕ) → length (from_on i n) ≡ n
length_from i zero = refl
length_from i (suc n) = ap suc (length_from (suc i) n)

length_on : (s : Sheet) (p : ℕ) (q : Road) → length (darts_on s p q) ≡ count_on (road_code q) (drawing_at s p)
length_on s p q = length-map (up_to (count_on (road_code q) (drawing_at s p))) _ ∙ length_from 0 (count_on (road_code q) (drawing_at s p))

pub in_few : (s : Sheet) (p : ℕ) → length (darts_in s p) ≤ length (drawing_at s p)
in_few s p =
    let w : List Dart = darts_on s p West in
    let n : List Dart = darts_on s p North in
    let e : List Dart = darts_on s p East in
    let o : List Dart = darts_on s p South in
    omega (
      arith,
      length-append w (n ++ (e ++ (o ++ []))),
      length-append n (e ++ (o ++ [])),
      length-append e (o ++ []),
      length-append o [],
      length_on s p West,
      length_on s p North,
      length_on s p East,
      length_on s p South,
      counted_once (drawing_at s p),
    )

from_few : (s : Sheet) (i n : ℕ) → ((p : ℕ) → p < i + n → length (darts_in s p) ≤ 60) → length (flat_map (darts_in s) (from_on i n)) ≤ 60 * n
from_few s i zero h = omega arith
from_few s i (suc n) h =
    let r = from_few s (suc i) n (λ p l. h p (omega arith)) in
    omega (arith, length-append (darts_in s i) (flat_map (darts_in s) (from_on (suc i) n)), h i (omega arith))

pub darts_few : (s : Sheet) → Sheetly s → length (darts s) ≤ 60 * pixels s
darts_few s k = from_few s 0 (pixels s) (λ p l. let m = drawing_in s k p (omega arith) in omega (arith, in_few s p, m.0.few))

pub pixels_few : (s : Sheet) → Sheetly s → pixels s ≤ 4096
pixels_few s k =
    let a : s.width * s.height ≤ 64 * s.height = mul-le-mul_right s.height k.most_width in
    omega (arith, k.most_height)
