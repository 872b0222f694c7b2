-- The numbers of a map.
--   kept_from: those that pass a test, of the numbers from one on
--   kept_yes, kept_no: counting them one by one
--   streets_are, loops_are: what is counted at darts, as the counts have it
--   vertex_yes, vertex_no: one crossing more of a drawing
--   sum_more, sum_all: one drawing more of a sheet, and all of them
--   counts_few: there are no more sidewalks or loops than darts
use Rattle.std.proofs.Common.{◌≡◌, ℕ, ◌+◌, ◌-◌, ◌/◌, ◌<◌, ◌≤◌, Bool, true, false, List, [], ◌∷◌, map, length, get_or, take, sum_by, sum, filter, sym, ap, ◌∙◌, arith}
use Rattle.std.proofs.lemmas.List.{get_or_default, take_all}
use Rattle.std.proofs.lemmas.List.Sums.{length-filter, count_by-le-length, sum_by_more, sum-map}
use Rattle.std.proofs.lemmas.Bool.{cond-true, cond-false}
use Rattle.symbols.specs.declared.symbols.Crossing.{Crossing}
use Rattle.rules.specs.Tables.{at, blank}
use Rattle.orbits.specs.Statements.{root}
use Rattle.model.specs.Sheets.{Sheet, Sheetly}
use Rattle.model.specs.Darts.{same_dart, dart_le, from_on, darts}
use Rattle.model.specs.Streets.{leaves_vertex, circles, counts}
use Rattle.walks.proofs.Homing.{darts_few, pixels_few}
use Rattle.checks.specs.Counting.{begins_vertex}
use Rattle.checks.specs.Tallies.{begins, roots}
use Rattle.darts.proofs.Filling.{from_more}

module _ (P : ℕ → Bool) (n : ℕ) where
  abbrev pub kept_from : ℕ → ℕ
  kept_from i = length (filter P (from_on i (n - i)))

  pub kept_yes : (i : ℕ) → i < n → true ≡ P i → kept_from i ≡ 1 + kept_from (i + 1)
  kept_yes i h e =
      let z = ap (λ (x : List ℕ). length (filter P x)) (from_more i n h)
      ∙ ap length (cond-true (P i) (i ∷ filter P (from_on (i + 1) (n - (i + 1)))) (filter P (from_on (i + 1) (n - (i + 1)))) (sym e)) in
      omega (arith, z)

  pub kept_no : (i : ℕ) → i < n → false ≡ P i → kept_from i ≡ kept_from (i + 1)
  kept_no i h e =
      ap (λ (x : List ℕ). length (filter P x)) (from_more i n h)
      ∙ ap length (cond-false (P i) (i ∷ filter P (from_on (i + 1) (n - (i + 1)))) (filter P (from_on (i + 1) (n - (i + 1)))) (sym e))

pub streets_are : (s : Sheet) → sum_by (begins s) (darts s) / 2 ≡ (counts s).street_count
streets_are s = ap (λ (x : ℕ). x / 2) (sym (length-filter (leaves_vertex s) (darts s)))

pub loops_are : (s : Sheet) → sum_by (roots s) (darts s) ≡ (counts s).loop_count
loops_are s = sym (length-filter (λ d. same_dart (root (circles s) dart_le d) d) (darts s))

pub counts_few : (s : Sheet) → Sheetly s → (sum_by (begins s) (darts s) ≤ 245760) × (sum_by (roots s) (darts s) ≤ 245760)
counts_few s k = (
  omega (arith, count_by-le-length (leaves_vertex s) (darts s), darts_few s k, pixels_few s k),
  omega (arith, count_by-le-length (λ d. same_dart (root (circles s) dart_le d) d) (darts s), darts_few s k, pixels_few s k),
)

-- the vertices of a drawing

module _ (d : List Crossing) (i : ℕ) (c : Crossing) (h : i < length d) where
  abbrev P : ℕ → Bool
  P j = begins_vertex (at d j) j

  same : begins_vertex (get_or d i c) i ≡ P i
  same = ap (λ (x : Crossing). begins_vertex x i) (get_or_default d i c blank h)

  pub vertex_yes : true ≡ begins_vertex (get_or d i c) i → kept_from P (length d) i ≡ 1 + kept_from P (length d) (i + 1)
  vertex_yes e = kept_yes P (length d) i h (e ∙ same)

  pub vertex_no : false ≡ begins_vertex (get_or d i c) i → kept_from P (length d) i ≡ kept_from P (length d) (i + 1)
  vertex_no e = kept_no P (length d) i h (e ∙ same)

-- the vertices of a sheet

pub sum_more : (f : List Crossing → ℕ) (ds : List (List Crossing)) (i n m : ℕ) → i < length ds → n ≡ sum_by f (take i ds) → m ≡ f (get_or ds i []) → n + m ≡ sum_by f (take (i + 1) ds)
sum_more f ds i n m h e q = omega (arith, sum_by_more f ds i [] h)

pub sum_all : (f : List Crossing → ℕ) (ds : List (List Crossing)) (i n : ℕ) → length ds ≤ i → n ≡ sum_by f (take i ds) → n ≡ sum (map f ds)
sum_all f ds i n h e = e ∙ ap (sum_by f) (take_all i ds h) ∙ sym (sum-map f ds)
