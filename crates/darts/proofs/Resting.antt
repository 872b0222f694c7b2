-- What is to come of the darts of a sheet.
--   rest_more: behind the last dart of a pixel come those of the next one
--   rest_one: the first of what is to come
--   rest_none: behind the last pixel nothing comes
use Rattle.std.proofs.Common.{◌≡◌, ℕ, ◌+◌, ◌-◌, ◌<◌, ◌≤◌, List, [], ◌∷◌, ◌++◌, sym, ap, ◌∙◌, arith}
use Rattle.std.specs.List.{flat_map}
use Rattle.model.specs.declared.darts.Dart.{Dart}
use Rattle.model.specs.Sheets.{Sheet, pixels}
use Rattle.model.specs.Darts.{from_on, darts_in}
use Rattle.darts.specs.Rest.{rest}
use Rattle.darts.proofs.Filling.{from_more}

pub rest_more : (s : Sheet) (here there : List Dart) (pixel : ℕ) → here ≡ [] → pixel < pixels s → there ≡ darts_in s pixel → rest s there (pixel + 1) ≡ rest s here pixel
rest_more s here there pixel z l e =
    let past : ℕ → List Dart = λ i. flat_map (darts_in s) (from_on i (pixels s - i)) in
    ap (λ (x : List Dart). x ++ past (pixel + 1)) e
    ∙ sym (ap (λ (x : List Dart). x ++ past pixel) z ∙ ap (flat_map (darts_in s)) (from_more pixel (pixels s) l))

pub rest_one : (s : Sheet) (here there : List Dart) (d : Dart) (pixel : ℕ) → here ≡ d ∷ there → rest s here pixel ≡ d ∷ rest s there pixel
rest_one s here there d pixel e = ap (λ (x : List Dart). rest s x pixel) e

pub rest_none : (s : Sheet) (here : List Dart) (pixel : ℕ) → here ≡ [] → pixels s ≤ pixel → rest s here pixel ≡ []
rest_none s here pixel z l =
    let n : pixels s - pixel ≡ 0 = omega arith in
    ap (λ (x : List Dart). rest s x pixel) z ∙ ap (λ (x : ℕ). flat_map (darts_in s) (from_on pixel x)) n
