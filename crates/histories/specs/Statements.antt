-- What lists and records tell of two histories of calls.
--   History: an opening and a sequence of calls
--   LawfulHistory: the opening keeps to its limits
--   ends_in: the sheet that the plain sheet of a history ends in
--   accepted_at: the drawing accepted last at a pixel
--   SameAccepted: two histories have one size and the same drawing accepted last at every pixel
--   Told: what holds of the sheets, lists and records of two histories
--   HistoriesTell: the lists and records of two histories tell whether that is so
use Rattle.std.specs.Prelude.{◌≡◌, ℕ, ◌*◌, ◌<◌, ◌↔◌, List, Ok}
use Rattle.rules.specs.Words.{Drawing}
use Rattle.model.specs.Sheets.{Sheet, Sheetly, drawing_at}
use Rattle.model.specs.Streets.{check, street_list}
use Rattle.lists.specs.Statements.{Covered}
use Rattle.codec.specs.Records.{bytes_of}
use Rattle.plain.specs.Plain.{Plain, Call, Opens, opened, run, sheet_in, last_accepted}

pub record History : Type 0 where
  pub width : ℕ
  pub height : ℕ
  pub longest : ℕ
  pub total : ℕ
  pub calls : List Call

abbrev pub LawfulHistory : History → Type 0
LawfulHistory h = Opens h.width h.height h.longest h.total

abbrev pub opening : History → Plain
opening h = opened h.width h.height h.longest h.total

abbrev pub ends_in : History → Sheet
ends_in h = sheet_in (run (opening h) h.calls)

abbrev pub accepted_at : History → ℕ → Drawing
accepted_at h p = last_accepted (opening h) h.calls p

pub record SameAccepted (g h : History) : Type 0 where
  pub widths : g.width ≡ h.width
  pub heights : g.height ≡ h.height
  pub drawings : (p : ℕ) → p < g.width * g.height → accepted_at g p ≡ accepted_at h p

pub record Told (g h : History) : Type 0 where
  -- the sheet has the opening's size and, at every pixel, the drawing accepted last there
  pub width : (ends_in g).width ≡ g.width
  pub height : (ends_in g).height ≡ g.height
  pub there : (p : ℕ) → drawing_at (ends_in g) p ≡ accepted_at g p
  pub whole : Sheetly (ends_in g)
  -- a list that is given covers the sheet
  pub covers : check (ends_in g) ≡ Ok tt → Covered (ends_in g)
  -- lists that are given tell, and so do records, also of sheets that the check refuses
  pub lists : (a b : List ℕ) → street_list (ends_in g) ≡ Ok a → street_list (ends_in h) ≡ Ok b → (a ≡ b) ↔ SameAccepted g h
  pub records : (bytes_of (ends_in g) ≡ bytes_of (ends_in h)) ↔ SameAccepted g h

abbrev pub HistoriesTell : Type 0
HistoriesTell = (g h : History) → LawfulHistory g → LawfulHistory h → Told g h
