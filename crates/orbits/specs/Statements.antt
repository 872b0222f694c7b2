-- What is proved of every lawful system, at any type.
--   Pigeonhole, Return, Undone: members of a list that are too many repeat; going on comes back; what undoes next
--   Looped, Loops: what a loop is
--   Order, least, root, Rooted, Roots: an order as a test, the least of a list, the least dart of a loop, what it tells
--   Rings: a ring is found by going on as many steps as there are darts
--   Walked, Walks, Stopped, Stops: what a sidewalk is, and that nothing else is one
--   Covered, Covers: what the sidewalks cover, with and without rings
--   Same, Listed, Tells, Ordered, Twins: what equal lines tell, and what tells that lines are equal
use Rattle.std.specs.Prelude.{◌≡◌, ℕ, ◌+◌, ◌<◌, ◌≤◌, Bool, true, false, cond, ◌↔◌, List, [], ◌∷◌, length, filter}
use Rattle.std.specs.List.Sorted.{IsPermutation}
use Rattle.orbits.specs.Orbits.{In, Apart, Repeats, last, times, steps, walk, System, Lawful, loop, OnRing, NoRing, ring, sidewalk, cover, lines}

-- Pigeonhole: members of the list, more of them than it has, repeat
abbrev pub Pigeonhole : Type 0 → Type 0
Pigeonhole A = (S : System A) → Lawful S → (xs : List A) → ((x : A) → In x xs → In x S.darts) → length S.darts < length xs → Repeats xs

-- Return: going on from a dart comes back to it within the number of darts
abbrev pub Return : Type 0 → Type 0
Return A = (S : System A) → Lawful S → (x : A) → In x S.darts
    → (k : ℕ) × (1 ≤ k) × (k ≤ length S.darts) × (times S.next k x ≡ x)

-- What undoes next on the darts leads to darts, and next undoes it
abbrev pub Undone : Type 0 → Type 0
Undone A = (S : System A) → Lawful S → (prev : A → A) → ((x : A) → In x S.darts → prev (S.next x) ≡ x)
    → (x : A) → In x S.darts → In (prev x) S.darts × (S.next (prev x) ≡ x)

-- The loop of x: x up to the first return; to be on one loop is an equivalence
pub record Looped {A : Type 0} (S : System A) (x : A) : Type 0 where
  pub apart : Apart (loop S x)
  pub short : length (loop S x) ≤ length S.darts
  pub inside : (y : A) → In y (loop S x) → In y S.darts
  pub closes : S.next (last x (loop S x)) ≡ x
  pub onward : (y : A) → In y (loop S x) → In (S.next y) (loop S x)
  pub reached : (y : A) → In y (loop S x) ↔ ((k : ℕ) × (times S.next k x ≡ y))
  pub self : In x (loop S x)
  pub mirror : (y : A) → In y (loop S x) → In x (loop S y)
  pub chain : (y z : A) → In y (loop S x) → In z (loop S y) → In z (loop S x)

abbrev pub Loops : Type 0 → Type 0
Loops A = (S : System A) → Lawful S → (x : A) → In x S.darts → Looped S x

-- an order, as a test
pub record Order {A : Type 0} (le : A → A → Bool) : Type 0 where
  pub both : (x y : A) → le x y ≡ true → le y x ≡ true → x ≡ y
  pub chain : (x y z : A) → le x y ≡ true → le y z ≡ true → le x z ≡ true
  pub either : (x y : A) → le x y ≡ false → le y x ≡ true

-- the least of x and the list
abbrev pub least : {A : Type 0} → (A → A → Bool) → A → List A → A
least le x [] = x
least le x (y ∷ ys) = least le (cond (le x y) x y) ys

-- the least dart of the loop of x
abbrev pub root : {A : Type 0} → System A → (A → A → Bool) → A → A
root S le x = least le x (loop S x)

pub record Rooted {A : Type 0} (S : System A) (le : A → A → Bool) (x : A) : Type 0 where
  pub member : In (root S le x) (loop S x)
  pub lowest : (y : A) → In y (loop S x) → le (root S le x) y ≡ true
  pub shared : (y : A) → In y S.darts → In y (loop S x) ↔ (root S le x ≡ root S le y)

-- Root: darts are on one loop exactly when they have the same root
abbrev pub Roots : Type 0 → Type 0
Roots A = (S : System A) → Lawful S → (le : A → A → Bool) → Order le → (x : A) → In x S.darts → Rooted S le x

-- Ring: to go on as many steps as there are darts decides it
abbrev pub Rings : Type 0 → Type 0
Rings A = (S : System A) → Lawful S → (x : A) → In x S.darts → (ring S x ≡ true) ↔ OnRing S x

-- The sidewalk from s has k darts
pub record Walked {A : Type 0} (S : System A) (s : A) (k : ℕ) : Type 0 where
  pub some : 1 ≤ k
  pub short : k ≤ length S.darts
  pub is : sidewalk S s ≡ steps S.next k s
  pub between : (j : ℕ) → 1 ≤ j → j < k → S.starts (times S.next j s) ≡ false
  pub end : S.next (last s (sidewalk S s)) ≡ times S.next k s
  pub ends : S.starts (S.next (last s (sidewalk S s))) ≡ true

abbrev pub Walks : Type 0 → Type 0
Walks A = (S : System A) → Lawful S → (s : A) → In s S.darts → S.starts s ≡ true → (k : ℕ) × Walked S s k

-- Any fuel that reaches the next start gives the sidewalk, and nothing else has its three marks
pub record Stopped {A : Type 0} (S : System A) (s : A) : Type 0 where
  pub fuel : (n : ℕ) → length S.darts ≤ n → walk S.starts S.next n s ≡ sidewalk S s
  pub only : (k : ℕ) → 1 ≤ k → ((j : ℕ) → 1 ≤ j → j < k → S.starts (times S.next j s) ≡ false)
      → S.starts (times S.next k s) ≡ true → sidewalk S s ≡ steps S.next k s

abbrev pub Stops : Type 0 → Type 0
Stops A = (S : System A) → Lawful S → (s : A) → In s S.darts → S.starts s ≡ true → Stopped S s

-- Cover: the sidewalks have each dart that is on no ring once, and no other
pub record Covered {A : Type 0} (S : System A) : Type 0 where
  pub apart : Apart (cover S)
  pub exact : (x : A) → In x (cover S) ↔ (In x S.darts × (OnRing S x → ⊥))
  pub whole : NoRing S → (x : A) → In x (cover S) ↔ In x S.darts
  pub shuffled : NoRing S → IsPermutation S.darts (cover S)
  pub parted : length (cover S) + length (filter (ring S) S.darts) ≡ length S.darts
  pub counted : (length (cover S) ≡ length S.darts) ↔ NoRing S

abbrev pub Covers : Type 0 → Type 0
Covers A = (S : System A) → Lawful S → Covered S

-- What the lines tell
pub record Same {A : Type 0} (S R : System A) : Type 0 where
  pub members : (x : A) → In x S.darts ↔ In x R.darts
  pub nexts : (x : A) → In x S.darts → S.next x ≡ R.next x
  pub starting : (x : A) → In x S.darts → S.starts x ≡ R.starts x

-- equal lists of darts with the same next and starts have equal lines
abbrev pub Listed : Type 0 → Type 0
Listed A = (S R : System A) → Lawful S → Lawful R → S.darts ≡ R.darts → Same S R → lines S ≡ lines R

abbrev pub Tells : Type 0 → Type 0
Tells A = (S R : System A) → Lawful S → Lawful R → NoRing S → NoRing R → lines S ≡ lines R → Same S R

-- each element is no later than those behind it
abbrev pub Ordered : {A : Type 0} → (A → A → Bool) → List A → Type 0
Ordered {A} le [] = Unit {0}
Ordered {A} le (x ∷ xs) = ((y : A) → In y xs → le x y ≡ true) × Ordered le xs

-- Of two systems without a ring, whose darts are listed in one order, the lines are equal exactly when members, next and starts are
abbrev pub Twins : Type 0 → Type 0
Twins A = (S R : System A) → Lawful S → Lawful R → (le : A → A → Bool) → Order le → Ordered le S.darts → Ordered le R.darts → NoRing S → NoRing R → (lines S ≡ lines R) ↔ Same S R
