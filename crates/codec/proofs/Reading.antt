-- Answers taken apart.
--   none_some, some_inj: nothing is no answer; equal answers are of equal things
--   after, allowed: what follows from the parts of an answer that went through and_then, through guard
--   joined_append: lists in a row, of two lists
use Rattle.std.proofs.Common.{◌≡◌, ℕ, Bool, true, false, List, [], ◌∷◌, ◌++◌, Some, None, Option, sym, refl, ap, ◌∙◌, append_assoc, arith}
use Rattle.std.specs.List.{flat_map}
use Rattle.codec.specs.Reading.{and_then, guard}

pub none_some : {A : Type 0} {a : A} → ◌≡◌ {A = Option A} None (Some a) → ⊥
none_some e = let z : ◌≡◌ {A = ℕ} 0 1 = cc in omega arith

pub some_inj : {A : Type 0} {a b : A} → ◌≡◌ {A = Option A} (Some a) (Some b) → a ≡ b
some_inj e = cc

pub after : {A B C : Type 0} (o : Option A) (f : A → Option B) {b : B} → and_then o f ≡ Some b → ((a : A) → o ≡ Some a → f a ≡ Some b → C) → C
after None f e k = absurd (none_some e)
after (Some a) f e k = k a refl e

pub allowed : {A C : Type 0} (t : Bool) (o : Option A) {a : A} → guard t o ≡ Some a → (t ≡ true → o ≡ Some a → C) → C
allowed true o e k = k refl e
allowed false o e k = absurd (none_some e)

pub joined_append : {A B : Type 0} (f : A → List B) (xs ys : List A) → flat_map f (xs ++ ys) ≡ flat_map f xs ++ flat_map f ys
joined_append f [] ys = refl
joined_append f (x ∷ xs) ys = ap (λ l. f x ++ l) (joined_append f xs ys) ∙ sym (append_assoc (f x) (flat_map f xs) (flat_map f ys))
