-- What is answered for a dart that there is.
--   there: there is an answer
--   taken: it is what it is said to be
--   next_there: next is a dart
--   found: where there is an answer, there is the dart, and the answer is what it is said to be
--   told: the answer for a dart that there is
use Rattle.std.proofs.Common.{◌≡◌, true, Some, Ok, Err, Option, Result, refl, sym, ap, ◌∙◌, inl, inr}
use Rattle.std.proofs.lemmas.Bool.{cases_Bool}
use Rattle.std.specs.Prelude.{IsSome, IfSome}
use Rattle.std.specs.Result.{result_ok}
use Rattle.symbols.specs.declared.refusals.Refusal.{Refusal}
use Rattle.model.specs.declared.darts.Dart.{Dart}
use Rattle.model.specs.Sheets.{Sheet, Sheetly}
use Rattle.model.specs.Darts.{is_dart, next}
use Rattle.walks.proofs.Homing.{landed}
use Rattle.darts.specs.Rest.{where_dart}

given : {A : Type 0} (s : Sheet) (d : Dart) (x : A) (r : Option A) → r ≡ where_dart s d x → is_dart s d ≡ true → r ≡ Some x
given s d x r e h = e ∙ rw h refl

pub there : {A : Type 0} (s : Sheet) (d : Dart) (x : A) (r : Option A) → r ≡ where_dart s d x → is_dart s d ≡ true → IsSome r
there s d x r e h = rw (given s d x r e h) refl

pub taken : {A : Type 0} (s : Sheet) (d : Dart) (x y : A) (r : Option A) → r ≡ where_dart s d x → is_dart s d ≡ true → Some y ≡ r → y ≡ x
taken s d x y r e h p =
    let q : Some y ≡ Some x = p ∙ given s d x r e h in
    cc

pub next_there : (s : Sheet) → Sheetly s → (d : Dart) (r : Result Dart Refusal) → r ≡ next s d → IfSome (result_ok r) (λ e. is_dart s e ≡ true)
next_there s k d (Ok e) q = (landed s k d e (sym q)).1
next_there s k d (Err f) q = tt

pub found : {A : Type 0} (s : Sheet) (d : Dart) (x y : A) → Some y ≡ where_dart s d x → (is_dart s d ≡ true) × (y ≡ x)
found s d x y e =
    elim (cases_Bool (is_dart s d)) [
      | inl h ↦ (h, taken s d x y (where_dart s d x) refl h e)
      | inr h ↦ cc
    ]

pub told : {A : Type 0} (s : Sheet) (d : Dart) (x y : A) → is_dart s d ≡ true → y ≡ x → Some y ≡ where_dart s d x
told s d x y h e = rw h (ap Some e)
