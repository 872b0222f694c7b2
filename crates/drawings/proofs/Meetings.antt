-- Reading a word, a symbol at a time.
--   corners_by: how many corners there are, by the test of each
--   ends_last: whether the last symbol is a corner
--   Reading: what holds after some symbols of a word were read
use Rattle.std.proofs.Common.{◌≡◌, ℕ, zero, suc, ◌≤◌, Bool, List, [], ◌∷◌, ◌++◌, reverse, length, get_or, filter, count_by, drop, Some, None, Option, sym, refl, ap, ◌∙◌, inl, inr, arith}
use Rattle.std.proofs.lemmas.List.Sums.{length-filter}
use Rattle.std.proofs.lemmas.Bool.{cases_Bool}
use Rattle.symbols.specs.declared.symbols.Symbol.{Symbol}
use Rattle.symbols.specs.declared.symbols.Symbol.TheVariants.{Corner}
use Rattle.symbols.specs.declared.symbols.Mark.{Mark}
use Rattle.symbols.specs.declared.symbols.Crossing.{Crossing}
use Rattle.rules.specs.Words.{is_corner, corners, ends, reads, drawing_of}

corners_filter : (w : List Symbol) → length (filter is_corner w) ≡ corners w
corners_filter [] = refl
corners_filter (s ∷ w) =
    elim (cases_Bool (is_corner s)) [
      | inl e ↦ rw e (ap suc (corners_filter w))
      | inr e ↦ rw e (corners_filter w)
    ]

pub corners_by : (w : List Symbol) → count_by is_corner w ≡ corners w
corners_by w = sym (length-filter is_corner w) ∙ corners_filter w

pub ends_last : (b : Bool) (w : List Symbol) (n : ℕ) → length w ≡ suc n → ends b w ≡ is_corner (get_or w n Corner)
ends_last b [] n h = absurd (omega arith)
ends_last b (x ∷ []) zero h = refl
ends_last b (x ∷ []) (suc n) h = absurd (omega arith)
ends_last b (x ∷ y ∷ w) zero h = absurd (omega arith)
ends_last b (x ∷ y ∷ w) (suc n) h = ends_last (is_corner x) (y ∷ w) n (omega arith)

abbrev pub ahead : List Crossing → Option (List Crossing) → Option (List Crossing)
ahead es None = None
ahead es (Some ds) = Some (es ++ ds)

-- After i symbols: on road r, with these crossings and these open marks, the innermost last.
pub record Reading (w : List Symbol) (i r : ℕ) (marks : List Mark) (es : List Crossing) : Type 0 where
  pub told : drawing_of w ≡ ahead es (reads r (length es) (reverse marks) (drop i w))
  pub few_marks : length marks ≤ length es
  pub few : length es ≤ i
  pub low : r ≤ i
