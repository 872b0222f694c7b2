-- The darts of a sheet, given one after another.
--   Listed: those that were given and those that are to come make the list
--   listed_dart: the one that is given is a dart
--   listed_few: at most 245759 were given before it
--   listed_more: one more was given
--   listed_all: none is to come
use Rattle.std.proofs.Common.{◌≡◌, ◌<◌, true, List, [], ◌∷◌, ◌++◌, length, sym, refl, ap, ◌∙◌, subst, inl, inr, arith, append_assoc, length-append}
use Rattle.std.proofs.lemmas.List.{append-nil}
use Rattle.orbits.specs.Orbits.{In}
use Rattle.model.specs.declared.darts.Dart.{Dart}
use Rattle.model.specs.Sheets.{Sheet, Sheetly}
use Rattle.model.specs.Darts.{is_dart, darts}
use Rattle.model.proofs.Listing.{darts_are}
use Rattle.walks.proofs.Homing.{darts_few, pixels_few}

abbrev pub Listed : Sheet → List Dart → List Dart → Type 0
Listed s given rest = given ++ rest ≡ darts s

in_behind : (given : List Dart) (d : Dart) (rest : List Dart) → In d (given ++ (d ∷ rest))
in_behind [] d rest = inl refl
in_behind (x ∷ given) d rest = inr (in_behind given d rest)

module _ (s : Sheet) (given before : List Dart) (d : Dart) (rest : List Dart) (b : before ≡ d ∷ rest) (e : Listed s given before) where
  split : given ++ (d ∷ rest) ≡ darts s
  split = ap (λ (x : List Dart). given ++ x) (sym b) ∙ e

  pub listed_dart : is_dart s d ≡ true
  listed_dart = darts_are s d (subst (In d) split (in_behind given d rest))

  pub listed_few : Sheetly s → length given < 245760
  listed_few k = omega (arith, darts_few s k, pixels_few s k, length-append given (d ∷ rest), ap length split)

  pub listed_more : Listed s (given ++ (d ∷ [])) rest
  listed_more = append_assoc given (d ∷ []) rest ∙ split

pub listed_all : (s : Sheet) (given rest : List Dart) → Listed s given rest → rest ≡ [] → given ≡ darts s
listed_all s given rest e z = sym (append-nil given) ∙ ap (λ (x : List Dart). given ++ x) (sym z) ∙ e
