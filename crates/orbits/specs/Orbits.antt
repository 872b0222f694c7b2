-- Orbits of a one-to-one function on a finite list, and the sidewalks that cut them where a test passes.
--   In, Apart, Repeats: an element stands in a list; none stands twice; some stands twice
--   last: the last element of a list
--   times, steps: a function applied so often; the elements on the way
--   first: how many steps until a test passes
--   walk: the elements up to the one whose next passes a test
--   quiet: none of the first so many passes a test
--   System: a list of darts, what follows each, a test of where a sidewalk begins, a test of equality
--   Lawful: what makes next one-to-one on the darts, none of which stands twice
--   size, turn, loop: how many darts; how many steps bring one back; the darts of its loop
--   OnRing, NoRing, ring: no dart of a loop begins a sidewalk; no dart is on such a loop; the same as a test
--   sidewalk, begins, cover: the sidewalk from a dart; the darts that begin one; all sidewalks one after the other
--   line, lines: a sidewalk with what follows its last dart; the lines of all sidewalks
use Rattle.std.specs.Prelude.{◌≡◌, ℕ, zero, suc, Bool, true, false, cond, ◌⊎◌, List, [], ◌∷◌, map, length, filter}
use Rattle.std.specs.List.{flat_map}

-- x stands in the list
abbrev pub In : {A : Type 0} → A → List A → Type 0
In x [] = ⊥
In x (y ∷ ys) = (x ≡ y) ⊎ In x ys

-- no element stands twice
abbrev pub Apart : {A : Type 0} → List A → Type 0
Apart [] = Unit {0}
Apart (x ∷ xs) = (In x xs → ⊥) × Apart xs

-- some element stands twice
abbrev pub Repeats : {A : Type 0} → List A → Type 0
Repeats [] = ⊥
Repeats (x ∷ xs) = In x xs ⊎ Repeats xs

-- the last element, or d where there is none
abbrev pub last : {A : Type 0} → A → List A → A
last d [] = d
last d (x ∷ xs) = last x xs

-- f applied n times
abbrev pub times : {A : Type 0} → (A → A) → ℕ → A → A
times f zero x = x
times f (suc n) x = times f n (f x)

-- x, f x, .., n of them
abbrev pub steps : {A : Type 0} → (A → A) → ℕ → A → List A
steps f zero x = []
steps f (suc n) x = x ∷ steps f n (f x)

-- how many steps from y until p passes, looking at n of them
abbrev pub first : {A : Type 0} → (A → Bool) → (A → A) → ℕ → A → ℕ
first p f zero y = zero
first p f (suc n) y = let r = first p f n (f y) in cond (p y) zero (suc r)

-- x, f x, .. up to the one whose f passes p, n at most
abbrev pub walk : {A : Type 0} → (A → Bool) → (A → A) → ℕ → A → List A
walk p f zero x = []
walk p f (suc n) x = let r = walk p f n (f x) in x ∷ cond (p (f x)) [] r

-- none of the first n from x on passes p
abbrev pub quiet : {A : Type 0} → (A → Bool) → (A → A) → ℕ → A → Bool
quiet p f zero x = true
quiet p f (suc n) x = let r = quiet p f n (f x) in cond (p x) false r

-- darts, what follows each, a test of where a sidewalk begins, and a test of equality
pub record System (A : Type 0) : Type 0 where
  pub same : A → A → Bool
  pub darts : List A
  pub next : A → A
  pub starts : A → Bool

-- the list has no repetition, next maps it to itself, one-to-one, and the test of equality tells
pub record Lawful {A : Type 0} (S : System A) : Type 0 where
  pub told : (x y : A) → S.same x y ≡ true → x ≡ y
  pub self : (x : A) → S.same x x ≡ true
  pub apart : Apart S.darts
  pub stays : (x : A) → In x S.darts → In (S.next x) S.darts
  pub one : (x y : A) → In x S.darts → In y S.darts → S.next x ≡ S.next y → x ≡ y

module _ {A : Type 0} (S : System A) where
  abbrev pub size : ℕ
  size = length S.darts

  -- how many steps bring x back to itself
  abbrev pub turn : A → ℕ
  turn x = suc (first (λ y. S.same y x) S.next size (S.next x))

  -- x, next x, .. up to the first return
  abbrev pub loop : A → List A
  loop x = steps S.next (turn x) x

  -- no dart of its loop starts
  abbrev pub OnRing : A → Type 0
  OnRing x = (y : A) → In y (loop x) → S.starts y ≡ false

  abbrev pub NoRing : Type 0
  NoRing = (x : A) → In x S.darts → OnRing x → ⊥

  -- decided by going on as many steps as there are darts
  abbrev pub ring : A → Bool
  ring x = quiet S.starts S.next size x

  abbrev pub sidewalk : A → List A
  sidewalk s = walk S.starts S.next size s

  abbrev pub begins : List A
  begins = filter S.starts S.darts

  -- the sidewalks one after the other
  abbrev pub cover : List A
  cover = flat_map sidewalk begins

  -- a sidewalk and what follows its last dart
  abbrev pub line : A → List A × A
  line s = (sidewalk s, S.next (last s (sidewalk s)))

  abbrev pub lines : List (List A × A)
  lines = map line begins
