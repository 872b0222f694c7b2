-- What calls offer, and what an outcome with drawings tells of the offer.
--   ok_same, never_ok, then_ok: of results that are Ok
--   pixel_ok: a call on a pixel was accepted: the pixel is one
--   Limited, limited_ok: drawings were accepted: the new ones keep to the longest, and all to the total
--   Drawn, draw_ok: a drawing was accepted for one pixel
--   empty_ok: a pixel was emptied
--   Loaded, replace_ok: a sheet was accepted for every pixel: it has the size
--   judged_word, read_lawful: what is judged or read to be a word is lawful
--   lawful_draws, means_draws: what a lawful word draws, and what a table means, is a drawing
--   words_counted: a word has as many symbols as are counted for its drawing
--   unless_ok: a table was accepted: it has no fault
use Rattle.std.proofs.Common.{◌≡◌, ℕ, ◌<◌, ◌≤◌, false, cond, eqb, ltb, List, [], ◌∷◌, set, is_some, Some, None, Ok, Err, Option, Result, refl, subst, inl, inr, arith}
use Rattle.std.specs.List.{AllByRecursion}
use Rattle.std.proofs.lemmas.Bool.{cases_Bool, ltb-true, ltb-false, eqb-true, and_parts, and_from, or_parts}
use Rattle.symbols.specs.declared.refusals.Refusal.{Refusal}
use Rattle.symbols.specs.declared.refusals.Refusal.TheVariants.{Opening, BadRecord, NoPixel, OverLongest, OverTotal, NoWord, Unlawful}
use Rattle.symbols.specs.declared.symbols.Crossing.{Crossing}
use Rattle.symbols.specs.declared.symbols.Symbol.{Symbol}
use Rattle.rules.specs.Words.{Drawing, Lawful, shaped, drawing_of, drawn, judged, judged_spelt}
use Rattle.rules.specs.Tables.{Means, canonical, unless}
use Rattle.rules.proofs.Tables.{table_tidy, length_canonical}
use Rattle.rules.proofs.Back.{table_means, table_draws}
use Rattle.rules.proofs.Correspondence.{words_come_back, tables_come_back}
use Rattle.model.specs.Sheets.{Sheet, IsDrawing, pixels}
use Rattle.plain.specs.Plain.{Plain, sheet_in, symbols_in, symbols_of, draw, empty, replace, and_then, at_pixel, some_over, limited, same_size, outcome}
use Rattle.plain.specs.Statements.{WordsCounted}

pub ok_same : {A : Type 0} (x y : A) → ◌≡◌ {A = Result A Refusal} (Ok x) (Ok y) → x ≡ y
ok_same x y e = cc

pub never_ok : {A : Type 0} {P : Type 0} (f : Refusal) (y : A) → ◌≡◌ {A = Result A Refusal} (Err f) (Ok y) → P
never_ok f y e = (let z : ◌≡◌ {A = ℕ} 0 1 = cc in absurd (omega arith))

pub then_ok : {A B : Type 0} (r : Result A Refusal) (f : A → Result B Refusal) (y : B) → and_then r f ≡ Ok y → (x : A) × (r ≡ Ok x) × (f x ≡ Ok y)
then_ok (Ok x) f y e = (x, refl, e)
then_ok (Err g) f y e = never_ok g y e

pub pixel_ok : {A : Type 0} (s : Plain) (p : ℕ) (r : Result A Refusal) (y : A) → at_pixel s p r ≡ Ok y → (p < pixels (sheet_in s)) × (r ≡ Ok y)
pixel_ok s p r y e =
    elim (cases_Bool (ltb p (pixels (sheet_in s)))) [
      | inl t ↦ (ltb-true p (pixels (sheet_in s)) t, rw t at e)
      | inr t ↦ never_ok NoPixel y (rw t at e)
    ]

none_over : (n : ℕ) (ds : List Drawing) → some_over n ds ≡ false → AllByRecursion (λ d. symbols_in d ≤ n) ds
none_over n [] e = tt
none_over n (d ∷ ds) e =
    let a = or_parts (ltb n (symbols_in d)) (some_over n ds) e in
    (ltb-false n (symbols_in d) a.0, none_over n ds a.1)

pub record Limited (s : Plain) (new all ds : List Drawing) : Type 0 where
  pub same : all ≡ ds
  pub to_longest : AllByRecursion (λ d. symbols_in d ≤ s.longest) new
  pub to_total : symbols_of all ≤ s.total

pub limited_ok : (s : Plain) (new all ds : List Drawing) → limited s new all ≡ Ok ds → Limited s new all ds
limited_ok s new all ds e =
    elim (cases_Bool (some_over s.longest new)) [
      | inl t ↦ never_ok OverLongest ds (rw t at e)
      | inr t ↦ (
          let k : cond (ltb s.total (symbols_of all)) (Err OverTotal) (Ok all) ≡ Ok ds = rw t at e in
          elim (cases_Bool (ltb s.total (symbols_of all))) [
            | inl u ↦ never_ok OverTotal ds (rw u at k)
            | inr u ↦ record { same = ok_same all ds (rw u at k); to_longest = none_over s.longest new t; to_total = ltb-false s.total (symbols_of all) u }
          ])
    ]

-- a drawing for one pixel

pub record Drawn (s : Plain) (p : ℕ) (r : Result Drawing Refusal) (ds : List Drawing) : Type 0 where
  pub drawing : Drawing
  pub offer : r ≡ Ok drawing
  pub pixel : p < pixels (sheet_in s)
  pub limits : Limited s (drawing ∷ []) (set s.drawings p drawing) ds

pub draw_ok : (s : Plain) (p : ℕ) (r : Result Drawing Refusal) (ds : List Drawing) → outcome s (draw p r) ≡ Ok ds → Drawn s p r ds
draw_ok s p r ds e =
    let a = pixel_ok s p (and_then r (λ d. limited s (d ∷ []) (set s.drawings p d))) ds e in
    let b = then_ok r (λ d. limited s (d ∷ []) (set s.drawings p d)) ds a.1 in
    record { drawing = b.0; offer = b.1; pixel = a.0; limits = limited_ok s (b.0 ∷ []) (set s.drawings p b.0) ds b.2 }

pub empty_ok : (s : Plain) (p : ℕ) (ds : List Drawing) → outcome s (empty p) ≡ Ok ds → (p < pixels (sheet_in s)) × (set s.drawings p [] ≡ ds)
empty_ok s p ds e = (let a = pixel_ok s p (Ok (set s.drawings p [])) ds e in (a.0, ok_same (set s.drawings p []) ds a.1))

-- a sheet for every pixel

pub record Loaded (s : Plain) (o : Option Sheet) (ds : List Drawing) : Type 0 where
  pub sheet : Sheet
  pub offer : o ≡ Some sheet
  pub width : sheet.width ≡ s.width
  pub height : sheet.height ≡ s.height
  pub limits : Limited s sheet.drawings sheet.drawings ds

size_ok : (s : Plain) (r : Sheet) (ds : List Drawing) → outcome s (replace (Some r)) ≡ Ok ds → (r.width ≡ s.width) × (r.height ≡ s.height) × (limited s r.drawings r.drawings ≡ Ok ds)
size_ok s r ds e =
    elim (cases_Bool (same_size s r)) [
      | inl t ↦ (
          let a = and_parts (eqb r.width s.width) (eqb r.height s.height) t in
          (eqb-true r.width s.width a.0, eqb-true r.height s.height a.1, rw t at e))
      | inr t ↦ never_ok Opening ds (rw t at e)
    ]

pub replace_ok : (s : Plain) (o : Option Sheet) (ds : List Drawing) → outcome s (replace o) ≡ Ok ds → Loaded s o ds
replace_ok s None ds e = never_ok BadRecord ds e
replace_ok s (Some r) ds e =
    let a = size_ok s r ds e in
    record { sheet = r; offer = refl; width = a.0; height = a.1; limits = limited_ok s r.drawings r.drawings ds a.2 }

-- words and tables

-- what is judged to be a word is lawful, and is what was judged
pub judged_word : (v w : List Symbol) → judged v ≡ Ok w → (v ≡ w) × Lawful w
judged_word v w e =
    elim (cases_Bool (shaped v)) [
      | inl t ↦ (
          let k : cond (is_some (drawing_of v)) (Ok v) (Err Unlawful) ≡ Ok w = rw t at e in
          elim (cases_Bool (is_some (drawing_of v))) [
            | inl u ↦ (
                let q : v ≡ w = ok_same v w (rw u at k) in
                (q, subst Lawful q (and_from (shaped v) (is_some (drawing_of v)) t u)))
            | inr u ↦ never_ok Unlawful w (rw u at k)
          ])
      | inr t ↦ never_ok NoWord w (rw t at e)
    ]

pub read_lawful : (o : Option (List Symbol)) (w : List Symbol) → judged_spelt o ≡ Ok w → Lawful w
read_lawful None w e = never_ok NoWord w e
read_lawful (Some v) w e = (judged_word v w e).1

pub lawful_draws : (w : List Symbol) → Lawful w → IsDrawing (drawn w)
lawful_draws w l = (let b = words_come_back w l in (b.1, b.2))

pub means_draws : (t : List Crossing) → Means t → IsDrawing (canonical t)
means_draws t m =
    let y = table_tidy t m in
    (table_means (canonical t) y (omega (arith, length_canonical t, m.few)), table_draws (canonical t) y)

pub words_counted : WordsCounted
words_counted = (
  λ w l. (let n = (tables_come_back (drawn w) w (words_come_back w l).3).2 in omega arith),
  λ t w e. (let n = (tables_come_back t w e).2 in omega (arith, length_canonical t)),
)

pub unless_ok : {A : Type 0} (o : Option Refusal) (x y : A) → unless o x ≡ Ok y → (o ≡ None) × (x ≡ y)
unless_ok None x y e = (refl, ok_same x y e)
unless_ok (Some f) x y e = never_ok f y e
