-- The laws over calls and runs of calls, as the contracts of the crate name them.
--   WordsCounted: the symbols of words, as a plain sheet counts them by their drawings
--   SameLimits: a plain sheet has the size, the longest and the total of another
--   RunsKeep: after an opening and any calls every word keeps to the longest and all to the total; no run changes limits
--   RefusedAltersNothing: a refused call and a question leave the plain sheet as it was
--   ChangedAt: one pixel has a drawing, and every other pixel the one that it had
--   Accepts: a call is accepted
--   AcceptedChanges: an accepted call on one pixel changes that pixel alone, to the drawing that the call has for it;
--     an accepted record replaces every drawing
--   LastAccepted: after an opening and any calls each pixel has the drawing that was accepted last there
--   told: the number of a refusal; 0 of an answer that accepts
--   tells: what calls tell on a sheet of two pixels, with a longest and a total
--   AllHold: each pair is of two equal lists
--   pair, one_pixel: the records of `++=++` beside `=++++`, and of one empty pixel
--   crossed: a table of two groups on W, with vertices, that cross
--   Examples: worked examples
use Rattle.std.specs.Prelude.{◌≡◌, ℕ, ◌<◌, true, ◌≢◌, List, [], ◌∷◌, map, length, get_or, replicate, Some, None, Ok, Err, codes, slice_index_or}
use Rattle.symbols.specs.declared.refusals.Refusal.{Refusal}
use Rattle.symbols.specs.declared.symbols.Crossing.{Crossing}
use Rattle.symbols.specs.declared.symbols.Symbol.{Symbol}
use Rattle.symbols.specs.declared.symbols.Symbol.TheVariants.{Corner}
use Rattle.symbols.specs.Refusals.{number}
use Rattle.symbols.specs.Symbols.{symbols}
use Rattle.rules.specs.Words.{Drawing, Lawful, crossing, drawn, judged, read_word}
use Rattle.rules.specs.Tables.{build_word, canonical, fault}
use Rattle.model.specs.Sheets.{Sheet, pixels}
use Rattle.codec.specs.Records.{sheet_of}
use Rattle.plain.specs.Plain.{Plain, Call, put, write, build, clear, load, question, sheet_in, symbols_in, opened, Answer, answer, step, run, answers, last_accepted, Opens, Keeps}

abbrev pub WordsCounted : Type 0
WordsCounted =
    ((w : List Symbol) → Lawful w → symbols_in (drawn w) ≡ length w)
    × ((t : List Crossing) (w : List Symbol) → build_word t ≡ Ok w → symbols_in (canonical t) ≡ length w)

pub record SameLimits (s t : Plain) : Type 0 where
  pub width : t.width ≡ s.width
  pub height : t.height ≡ s.height
  pub longest : t.longest ≡ s.longest
  pub total : t.total ≡ s.total

abbrev pub RunsKeep : Type 0
RunsKeep =
    ((w h l t : ℕ) (cs : List Call) → Opens w h l t → Keeps (run (opened w h l t) cs))
    × ((s : Plain) (cs : List Call) → Keeps s → Keeps (run s cs))
    × ((s : Plain) (cs : List Call) → SameLimits s (run s cs))

abbrev pub RefusedAltersNothing : Type 0
RefusedAltersNothing =
    ((s : Plain) (c : Call) (f : Refusal) → answer s c ≡ Err f → step s c ≡ s)
    × ((s : Plain) → step s question ≡ s)

-- from s to t, at pixel p
pub record ChangedAt (s t : Plain) (p : ℕ) (d : Drawing) : Type 0 where
  pub pixel : p < pixels (sheet_in s)
  pub there : get_or t.drawings p [] ≡ d
  pub elsewhere : (q : ℕ) → q ≢ p → slice_index_or t.drawings q [] ≡ slice_index_or s.drawings q []

abbrev pub Accepts : Plain → Call → Type 0
Accepts s c = answer s c ≡ Ok tt

pub record AcceptedChanges : Type 0 where
  pub puts : (s : Plain) (p : ℕ) (cs : List ℕ) → Keeps s → Accepts s (put p cs) → (w : List Symbol) × (read_word cs ≡ Ok w) × ChangedAt s (step s (put p cs)) p (drawn w)
  pub writes : (s : Plain) (p : ℕ) (w : List Symbol) → Keeps s → Accepts s (write p w) → (judged w ≡ Ok w) × ChangedAt s (step s (write p w)) p (drawn w)
  pub builds : (s : Plain) (p : ℕ) (t : List Crossing) → Keeps s → Accepts s (build p t) → (fault t ≡ None) × ChangedAt s (step s (build p t)) p (canonical t)
  pub clears : (s : Plain) (p : ℕ) → Keeps s → Accepts s (clear p) → ChangedAt s (step s (clear p)) p []
  pub loads : (s : Plain) (bs : List ℕ) → Accepts s (load bs) → (r : Sheet) × (sheet_of bs ≡ Some r) × ((step s (load bs)).drawings ≡ r.drawings)

abbrev pub LastAccepted : Type 0
LastAccepted =
    (w h l t : ℕ) (cs : List Call) (p : ℕ) → last_accepted (opened w h l t) cs p ≡ slice_index_or (run (opened w h l t) cs).drawings p []

abbrev pub told : Answer → ℕ
told (Ok x) = 0
told (Err f) = number f

abbrev pub tells : ℕ → ℕ → List Call → List ℕ
tells l t cs = map told (answers (opened 2 1 l t) cs)

abbrev pub AllHold : List (List ℕ × List ℕ) → Type 0
AllHold [] = Unit {0}
AllHold (e ∷ es) = (e.0 ≡ e.1) × AllHold es

abbrev pub crossed : List Crossing
crossed = crossing 0 1 true ∷ crossing 0 2 true ∷ crossing 0 1 true ∷ crossing 0 2 true ∷ []

-- the record of `++=++` and `=++++`, and that of one empty pixel
abbrev pub pair : List ℕ
pair = 1 ∷ 2 ∷ 1 ∷ 0 ∷ 1 ∷ 0 ∷ 0 ∷ 0 ∷ 2 ∷ 0 ∷ 128 ∷ 64 ∷ 0 ∷ []

abbrev pub one_pixel : List ℕ
one_pixel = 1 ∷ 1 ∷ 1 ∷ 0 ∷ 0 ∷ []

abbrev pub Examples : Type 0
Examples =
    AllHold (
    (tells 64 128 (put 2 (codes "++++") ∷ put 1 (codes "+++") ∷ put 1 (codes "[Y]++++") ∷ put 1 (codes "[]++++") ∷ []), 2 ∷ 3 ∷ 4 ∷ 0 ∷ [])
    ∷ (tells 64 128 (put 2 (codes "+++") ∷ write 2 [] ∷ build 2 crossed ∷ clear 2 ∷ clear 1 ∷ []), 2 ∷ 2 ∷ 2 ∷ 2 ∷ 0 ∷ [])
    ∷ (tells 64 128 (write 0 symbols ∷ write 0 (replicate 4 Corner) ∷ build 0 crossed ∷ build 0 [] ∷ question ∷ []), 3 ∷ 0 ∷ 10 ∷ 0 ∷ 0 ∷ [])
    ∷ (tells 5 128 (put 0 (codes "==++++") ∷ put 0 (codes "=++++") ∷ []), 5 ∷ 0 ∷ [])
    ∷ (tells 5 8 (put 0 (codes "[Y]++++") ∷ put 0 (codes "==++++") ∷ put 0 (codes "=++++") ∷ put 0 (codes "++++") ∷ []), 4 ∷ 5 ∷ 6 ∷ 0 ∷ [])
    ∷ (tells 64 9 (put 0 (codes "=++++") ∷ put 1 (codes "=++++") ∷ put 0 (codes "=++++") ∷ clear 0 ∷ put 1 (codes "=++++") ∷ []), 0 ∷ 6 ∷ 0 ∷ 0 ∷ 0 ∷ [])
    ∷ (tells 64 128 (load pair ∷ load one_pixel ∷ load [] ∷ []), 0 ∷ 1 ∷ 15 ∷ [])
    ∷ (tells 4 128 (load pair ∷ []), 5 ∷ [])
    ∷ (tells 64 9 (load pair ∷ []), 6 ∷ [])
    ∷ (tells 64 10 (put 0 (codes "==++++") ∷ load pair ∷ put 0 (codes "==++++") ∷ []), 0 ∷ 0 ∷ 6 ∷ [])
    ∷ [])
