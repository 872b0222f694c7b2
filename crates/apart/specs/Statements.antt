-- The whole statement over two sheets: whatever keeps their words, whatever calls were made and whichever were refused.
--   Given: a list or a record is given
--   Listed: a street list is given byte for byte, or refused as it is defined, and what its memory holds then
--   Recorded: the same of a record
--   Side: the list and the record of the sheet that a history ends in
--   Tells: an answer tells whether something holds, where there is anything to compare
--   Whole: of two histories, lists and records that are given are equal exactly when both sheets have one size and the same
--     drawing accepted last at every pixel; and a list that is given covers its sheet
--   history: what an opening leads to, and the calls made then
--   ToldApart: both openings were accepted, and what is told of the two histories
--   RefusedOpening: an opening was refused, the left one first, and its memory came back
use Rattle.std.specs.Prelude.{◌≡◌, ℕ, Bool, true, false, List, Some, None, Ok, Err, Option, Result}
use Rattle.plain.specs.Plain.{Call}
use Rattle.openings.specs.Limits.{Limits}
use Rattle.symbols.specs.declared.refusals.Refusal.{Refusal}
use Rattle.symbols.specs.Refusals.{fill_answer, filled}
use Rattle.model.specs.Streets.{street_list}
use Rattle.lists.specs.Statements.{Covered}
use Rattle.codec.specs.Records.{bytes_of}
use Rattle.histories.specs.Statements.{History, ends_in, SameAccepted}
use Rattle.apart.specs.declared.verdict.Made.{Made}
use Rattle.apart.specs.declared.verdict.Verdict.{Verdict}

abbrev pub Given : Result ℕ Refusal → Type 0
Given (Ok n) = Unit {0}
Given (Err f) = ⊥

-- of memory that was old and is now
abbrev pub Listed : Result (List ℕ) Refusal → Result ℕ Refusal → List ℕ → List ℕ → Type 0
Listed (Ok bytes) r old now = (r ≡ fill_answer bytes old) × (now ≡ filled bytes old)
Listed (Err f) r old now = (r ≡ Err f) × (now ≡ old)

abbrev pub Recorded : List ℕ → Result ℕ Refusal → List ℕ → List ℕ → Type 0
Recorded bytes r old now = (r ≡ fill_answer bytes old) × (now ≡ filled bytes old)

pub record Side (h : History) (m : Made) (list list' file file' : List ℕ) : Type 0 where
  pub lists : Listed (street_list (ends_in h)) m.listed list list'
  pub records : Recorded (bytes_of (ends_in h)) m.recorded file file'
  pub covers : Given m.listed → Covered (ends_in h)

abbrev pub Tells : Option Bool → Type 0 → Type 0 → Type 0
Tells None P Q = P → ⊥
Tells (Some true) P Q = P × Q
Tells (Some false) P Q = P × (Q → ⊥)

pub record Whole (g h : History) (v : Verdict) : Type 0 where
  pub lists : Tells v.lists (Given v.left.listed × Given v.right.listed) (SameAccepted g h)
  pub records : Tells v.records (Given v.left.recorded × Given v.right.recorded) (SameAccepted g h)

abbrev pub history : Limits → List Call → History
history l cs = record { width = l.width; height = l.height; longest = l.longest; total = l.total; calls = cs }

-- by the limits that the openings lead to, and the four memories before and after
pub record ToldApart (a : Option Limits) (cs : List Call) (b : Option Limits) (ds : List Call) (v : Verdict) (l l' f f' r r' e e' : List ℕ) : Type 0 where
  pub from_left : Limits
  pub left_opens : a ≡ Some from_left
  pub from_right : Limits
  pub right_opens : b ≡ Some from_right
  pub left : Side (history from_left cs) v.left l l' f f'
  pub right : Side (history from_right ds) v.right r r' e e'
  pub whole : Whole (history from_left cs) (history from_right ds) v

-- of the memories m and n that were handed in, x comes back
abbrev pub RefusedOpening : Option Limits → Option Limits → List ℕ → List ℕ → List ℕ → Type 0
RefusedOpening None b m n x = x ≡ m
RefusedOpening (Some l) None m n x = x ≡ n
RefusedOpening (Some l) (Some k) m n x = ⊥
