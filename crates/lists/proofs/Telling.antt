-- Lists tell maps apart.
--   given_list: a list that is given is the text of the sheet's lines, and the check passes
--   lines_fit: its numbers fit their types
--   sheets_same: sheets of one size with the same drawing at every pixel are equal
--   lists_tell: the theorem
use Rattle.std.proofs.Common.{◌≡◌, ℕ, suc, ◌*◌, ◌≤◌, true, eqb, List, [], ◌∷◌, length, Ok, Err, Result, sym, refl, ap, ◌∙◌, inl, inr, mul-le-mul, arith}
use Rattle.std.specs.List.{AllByRecursion}
use Rattle.std.proofs.lemmas.List.{ext_get_or}
use Rattle.std.proofs.lemmas.Bool.{cond_both, both_ways}
use Rattle.symbols.specs.declared.refusals.Refusal.{Refusal}
use Rattle.symbols.specs.declared.symbols.Crossing.{Crossing}
use Rattle.symbols.specs.Symbols.{road_code}
use Rattle.rules.specs.Crossings.{count_on}
use Rattle.orbits.specs.Orbits as orbit
use Rattle.orbits.specs.Orbits.{In}
use Rattle.orbits.specs.Statements.{Same}
use Rattle.orbits.proofs.Members.{in_joined}
use Rattle.orbits.proofs.All as orbits
use Rattle.model.specs.declared.darts.Dart.{Dart}
use Rattle.model.specs.Sheets.{Sheet, Sheetly, pixels, drawing_at, fails}
use Rattle.model.specs.Darts.{is_dart, unturn, previous_of, previous}
use Rattle.model.specs.Streets.{circles, on_ring, check, given_if, street_lines, list_text, street_list}
use Rattle.model.proofs.Inside.{drawing_in, dart_parts}
use Rattle.model.proofs.Listing.{circles_lawful}
use Rattle.model.proofs.Passing.{next_undone, over_given}
use Rattle.lists.specs.Statements.{Chained, FitsItem, FitsLine, SameMap, ListsTell}
use Rattle.model.proofs.Checking.{check_free, check_quiet}
use Rattle.lists.proofs.Covering.{lists_cover}
use Rattle.lists.proofs.Texts.{texts_tell}
use Rattle.lists.proofs.Maps.{drawings_same}

given_list : (r : Result (Unit {0}) Refusal) (x a : List ℕ) → given_if r x ≡ Ok a → (r ≡ Ok tt) × (x ≡ a)
given_list (Ok u) x a e = (refl, (let q : x ≡ a = cc in q))
given_list (Err f) x a e = (let z : ◌≡◌ {A = ℕ} 0 1 = cc in absurd (omega arith))

all_from_in : {A : Type 0} (P : A → Type 0) (xs : List A) → ((x : A) → In x xs → P x) → AllByRecursion P xs
all_from_in P [] f = tt
all_from_in P (x ∷ xs) f = (f x (inl refl), all_from_in P xs (λ y m. f y (inr m)))

count_short : (q : ℕ) (d : List Crossing) → count_on q d ≤ length d
count_short q [] = omega arith
count_short q (c ∷ d) =
    cond_both (eqb q c.road) (suc (count_on q d)) (count_on q d) (λ (x : ℕ). x ≤ suc (length d))
    (λ b. omega (arith, count_short q d)) (λ b. omega (arith, count_short q d))

dart_fits : (s : Sheet) → Sheetly s → (d : Dart) → is_dart s d ≡ true → FitsItem d
dart_fits s k d e =
    let h = dart_parts s d e in
    let m : s.width * s.height ≤ 64 * 64 = mul-le-mul k.most_width k.most_height in
    let f = drawing_in s k d.pixel h.0 in
    let c = count_short (road_code d.road) (drawing_at s d.pixel) in
    record { pixel = omega (arith, h.0); place = omega (arith, h.1, f.0.few) }

-- the dart right of an arrow is one of the sheet
chained_end : (s : Sheet) → Sheetly s → (ds : List Dart) (e : Dart) → Chained s ds e → is_dart s e ≡ true
chained_end s k [] e c = absurd c
chained_end s k (d ∷ []) e c =
    let p = (next_undone s k d e).0 c in
    given_dart s e d p
  where
    given_dart : (s : Sheet) (e d : Dart) → previous s e ≡ Ok d → is_dart s e ≡ true
    given_dart s e d p = (over_given (is_dart s e) (fails s (unturn s e).pixel (unturn s e).road) (unturn s e).pixel (unturn s e).road (previous_of s e) d p).0
chained_end s k (c ∷ (d ∷ ds)) e h = chained_end s k (d ∷ ds) e h.1

lines_fit : (s : Sheet) → Sheetly s → check s ≡ Ok tt → AllByRecursion FitsLine (street_lines s)
lines_fit s k e =
    let c = lists_cover s k e in
    all_from_in FitsLine (street_lines s) (λ l m. (
      all_from_in FitsItem l.0 (λ d n. dart_fits s k d ((c.every d).0 (in_joined (λ (x : List Dart × Dart). x.0) d l (street_lines s) m n))),
      dart_fits s k l.1 (chained_end s k l.0 l.1 (c.followed l m)),
    ))

pub sheets_same : (s t : Sheet) → Sheetly s → Sheetly t → SameMap s t → s ≡ t
sheets_same s t k l m =
    let w = m.widths in
    let h = m.heights in
    let n : pixels s ≡ pixels t = ap (λ (x : ℕ). x * s.height) w ∙ ap (λ (x : ℕ). t.width * x) h in
    let d : s.drawings ≡ t.drawings =
    ext_get_or [] s.drawings t.drawings (k.whole ∙ n ∙ sym l.whole) (λ i b. m.drawings i (omega (arith, k.whole))) in
    λ i. record { width = w i; height = h i; drawings = d i }

pub lists_tell : ListsTell
lists_tell s t k l a b ea eb =
    let p = given_list (check s) (list_text s.width s.height (street_lines s)) a ea in
    let q = given_list (check t) (list_text t.width t.height (street_lines t)) b eb in (
      λ e.
          let r = texts_tell s.width s.height t.width t.height (street_lines s) (street_lines t)
          (omega (arith, k.most_width)) (omega (arith, k.most_height)) (omega (arith, l.most_width)) (omega (arith, l.most_height))
          (lines_fit s k p.0) (lines_fit t l q.0) (p.1 ∙ e ∙ sym q.1) in
          let fs = check_free s p.0 in
          let ft = check_free t q.0 in
          let ls = circles_lawful s k fs in
          let lt = circles_lawful t l ft in
          let quiet-s : orbit.NoRing (circles s) = λ d m o. both_ways (on_ring s d) (check_quiet s p.0 d m) ((orbits.rings_told Dart (circles s) ls d m).1 o) in
          let quiet-t : orbit.NoRing (circles t) = λ d m o. both_ways (on_ring t d) (check_quiet t q.0 d m) ((orbits.rings_told Dart (circles t) lt d m).1 o) in
          let same : Same (circles s) (circles t) = orbits.tells Dart (circles s) (circles t) ls lt quiet-s quiet-t r.2 in
          record { widths = r.0; heights = r.1; drawings = λ i u. drawings_same s t k l fs ft r.0 r.1 same i u },
      λ m.
          let e : s ≡ t = sheets_same s t k l m in
          let x : Ok a ≡ Ok b = sym ea ∙ ap street_list e ∙ eb in
          cc,
    )
