-- The plain sheet, and what each call answers and leaves.
--   Plain: a size, the most symbols that one word and that all words may have, and one drawing for each pixel
--   sheet_in: the sheet of it
--   opened: a plain sheet at its opening: every pixel has the empty drawing
--   symbols_in: how many symbols the word of a drawing has: four corners, and one for each crossing
--   symbols_of: how many the words of drawings have together
--   Call: a call with its arguments as handed in, the pixel first
--   Offer: what a call is about: one pixel and a drawing for it, or why there is none; one pixel to be emptied;
--     every pixel and a sheet for them, if there is one; nothing
--   and_then: a result that goes on where it is no refusal
--   drawn_word: what a word draws, or why there is no word
--   offered: what a call offers
--   at_pixel: a result, refused where there is no such pixel
--   some_over: some word has more symbols than a number
--   limited: all drawings, refused where a new one is over the longest or all are over the total
--   same_size: a plain sheet and a sheet have one size
--   outcome: the drawings after an offer, or why it is refused
--   Answer, answered, answer: what a call answers
--   left_by, step: the plain sheet after a call; refused, it is as before
--   run, answers: the plain sheet after calls, and what they answer
--   accepted: whether an answer accepts
--   drawing_for: the drawing that an offer has for a pixel, if it speaks of that pixel
--   or_else: an answer, or another where there is none
--   latest: of calls and what they answered, the drawing for a pixel in the latest that was accepted and speaks of it
--   last_accepted: the same of calls on a plain sheet; the empty drawing where there is none
--   Opens: the limits of an opening
--   Keeps: a plain sheet keeps to its limits
use Rattle.std.specs.Prelude.{ℕ, ◌+◌, ◌*◌, ◌≤◌, Bool, true, false, cond, ◌&&◌, ◌||◌, List, [], ◌∷◌, length, replicate, Some, None, Ok, Err, sum_by, Option, Result, ◌==◌, nat_lt, slice_set}
use Rattle.std.specs.List.{AllByRecursion}
use Rattle.symbols.specs.declared.refusals.Refusal.{Refusal}
use Rattle.symbols.specs.declared.refusals.Refusal.TheVariants.{Opening, NoPixel, OverLongest, OverTotal, BadRecord}
use Rattle.symbols.specs.declared.symbols.Crossing.{Crossing}
use Rattle.symbols.specs.declared.symbols.Symbol.{Symbol}
use Rattle.rules.specs.Words.{Drawing, drawn, judged, or_empty, read_word}
use Rattle.rules.specs.Tables.{canonical, fault, unless}
use Rattle.model.specs.Sheets.{Sheet, Sheetly, drawing_at, most_side, pixels}
use Rattle.codec.specs.Records.{sheet_of}

pub record Plain : Type 0 where
  pub width : ℕ
  pub height : ℕ
  pub longest : ℕ
  pub total : ℕ
  pub drawings : List Drawing

abbrev pub sheet_in : Plain → Sheet
sheet_in s = record { width = s.width; height = s.height; drawings = s.drawings }

abbrev pub opened : ℕ → ℕ → ℕ → ℕ → Plain
opened w h l t = record { width = w; height = h; longest = l; total = t; drawings = replicate (w * h) [] }

abbrev pub symbols_in : Drawing → ℕ
symbols_in d = 4 + length d

abbrev pub symbols_of : List Drawing → ℕ
symbols_of ds = sum_by symbols_in ds

pub data Call : Type 0 where
  put : ℕ → List ℕ → Call
  write : ℕ → List Symbol → Call
  build : ℕ → List Crossing → Call
  clear : ℕ → Call
  load : List ℕ → Call
  question : Call

pub data Offer : Type 0 where
  draw : ℕ → Result Drawing Refusal → Offer
  empty : ℕ → Offer
  replace : Option Sheet → Offer
  leave : Offer

abbrev pub and_then : {A B : Type 0} → Result A Refusal → (A → Result B Refusal) → Result B Refusal
and_then (Ok x) f = f x
and_then (Err e) f = Err e

abbrev pub drawn_word : Result (List Symbol) Refusal → Result Drawing Refusal
drawn_word r = and_then r (λ w. Ok (drawn w))

abbrev pub offered : Call → Offer
offered (put p cs) = draw p (drawn_word (read_word cs))
offered (write p w) = draw p (drawn_word (judged w))
offered (build p t) = draw p (unless (fault t) (canonical t))
offered (clear p) = empty p
offered (load bs) = replace (sheet_of bs)
offered question = leave

abbrev pub at_pixel : {A : Type 0} → Plain → ℕ → Result A Refusal → Result A Refusal
at_pixel s p r = cond (nat_lt p (pixels (sheet_in s))) r (Err NoPixel)

abbrev pub some_over : ℕ → List Drawing → Bool
some_over n [] = false
some_over n (d ∷ ds) = nat_lt n (symbols_in d) || some_over n ds

abbrev pub limited : Plain → List Drawing → List Drawing → Result (List Drawing) Refusal
limited s new all =
    cond (some_over s.longest new) (Err OverLongest) (cond (nat_lt s.total (symbols_of all)) (Err OverTotal) (Ok all))

abbrev pub same_size : Plain → Sheet → Bool
same_size s r = r.width == s.width && r.height == s.height

abbrev pub outcome : Plain → Offer → Result (List Drawing) Refusal
outcome s (draw p r) = at_pixel s p (and_then r (λ d. limited s (d ∷ []) (slice_set s.drawings p d)))
outcome s (empty p) = at_pixel s p (Ok (slice_set s.drawings p []))
outcome s (replace None) = Err BadRecord
outcome s (replace (Some r)) = cond (same_size s r) (limited s r.drawings r.drawings) (Err Opening)
outcome s leave = Ok s.drawings

abbrev pub Answer : Type 0
Answer = Result (Unit {0}) Refusal

abbrev pub answered : Result (List Drawing) Refusal → Answer
answered (Ok ds) = Ok tt
answered (Err f) = Err f

abbrev pub answer : Plain → Call → Answer
answer s c = answered (outcome s (offered c))

abbrev pub left_by : Plain → Result (List Drawing) Refusal → Plain
left_by s (Ok ds) = record { width = s.width; height = s.height; longest = s.longest; total = s.total; drawings = ds }
left_by s (Err f) = s

abbrev pub step : Plain → Call → Plain
step s c = left_by s (outcome s (offered c))

abbrev pub run : Plain → List Call → Plain
run s [] = s
run s (c ∷ cs) = run (step s c) cs

abbrev pub answers : Plain → List Call → List Answer
answers s [] = []
answers s (c ∷ cs) = answer s c ∷ answers (step s c) cs

abbrev pub accepted : Answer → Bool
accepted (Ok x) = true
accepted (Err f) = false

abbrev pub drawing_for : ℕ → Offer → Option Drawing
drawing_for q (draw p (Ok d)) = cond (q == p) (Some d) None
drawing_for q (draw p (Err f)) = None
drawing_for q (empty p) = cond (q == p) (Some []) None
drawing_for q (replace None) = None
drawing_for q (replace (Some r)) = Some (drawing_at r q)
drawing_for q leave = None

abbrev pub or_else : {A : Type 0} → Option A → Option A → Option A
or_else None y = y
or_else (Some x) y = Some x

abbrev pub latest : ℕ → List Call → List Answer → Option Drawing
latest q [] rs = None
latest q (c ∷ cs) [] = None
latest q (c ∷ cs) (r ∷ rs) = or_else (latest q cs rs) (cond (accepted r) (drawing_for q (offered c)) None)

abbrev pub last_accepted : Plain → List Call → ℕ → Drawing
last_accepted s cs q = or_empty (latest q cs (answers s cs))

pub record Opens (width height longest total : ℕ) : Type 0 where
  pub some_width : 1 ≤ width
  pub most_width : width ≤ most_side
  pub some_height : 1 ≤ height
  pub most_height : height ≤ most_side
  pub least_longest : 4 ≤ longest
  pub least_total : 4 * (width * height) ≤ total

pub record Keeps (s : Plain) : Type 0 where
  pub opens : Opens s.width s.height s.longest s.total
  pub sheetly : Sheetly (sheet_in s)
  pub to_longest : AllByRecursion (λ d. symbols_in d ≤ s.longest) s.drawings
  pub to_total : symbols_of s.drawings ≤ s.total
