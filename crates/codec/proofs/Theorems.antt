-- The theorems that the contracts name.
--   runs_whole: on the runs of a sheet
--   sheets_come_back, records_come_back, records_sound, records_tell, refusals_right: on sheets and records
--   examples: the worked examples
use Rattle.std.proofs.Common.{◌≡◌, ◌+◌, ◌≤◌, ◌≢◌, length, Some, None, Option, sym, refl, ap, ◌∙◌, subst, arith}
use lib.ListN.{length-map}
use Rattle.std.proofs.ByRecursion.{All-weaker}
use Rattle.rules.specs.Words.{drawn}
use Rattle.rules.specs.Tables.{word_of}
use Rattle.model.specs.Sheets.{Sheet, Sheetly, drawing_at}
use Rattle.codec.specs.Words.{shown, marks}
use Rattle.codec.specs.Runs.{Run}
use Rattle.codec.specs.Records.{runs_of, bytes_of, sheet_of}
use Rattle.codec.specs.Statements.{SheetsComeBack, RecordsComeBack, RecordsSound, RecordsTell, RefusalsRight, Whole, RunsWhole, Examples}
use Rattle.codec.proofs.Reading.{none_some}
use Rattle.codec.proofs.Words.{drawing_word, marked_at, not_shown, is_shown}
use Rattle.codec.proofs.Runs.{runs_sound, marked_covered, Stretch, runs_stretch}
use Rattle.codec.proofs.Records.{sheet_read, sheet_written, sheets_same, read_sheetly, record_bytes}

run_whole : (s : Sheet) (r : Run) → Stretch (marks s.drawings) r → Whole s r
run_whole s r h = record {
  some = h.some;
  inside = subst (λ n. r.offset + r.count ≤ n) (length-map s.drawings shown) h.inside;
  full = λ k a b. (is_shown (drawing_at s k)).0 (sym (marked_at s.drawings k) ∙ h.full k a b);
  before = λ k e. not_shown (drawing_at s k) (sym (marked_at s.drawings k) ∙ h.before k e);
  behind = not_shown (drawing_at s (r.offset + r.count)) (sym (marked_at s.drawings (r.offset + r.count)) ∙ h.behind);
}

pub runs_whole : RunsWhole
runs_whole = (
  λ s. (
    runs_sound (marks s.drawings) 0 (length s.drawings) (let n = length-map s.drawings shown in omega arith),
    All-weaker (Stretch (marks s.drawings)) (Whole s) (run_whole s) (runs_of s) (runs_stretch (marks s.drawings)),
  ),
  λ s k.
      let c = sym (marked_at s.drawings k) ∙ marked_covered (marks s.drawings) k in
      let t = is_shown (drawing_at s k) in
      (λ e. t.0 (c ∙ e), λ n. sym c ∙ t.1 n),
  λ d h. (λ e. ap word_of e, λ e. sym (drawing_word d h).1 ∙ ap drawn e),
)

pub sheets_come_back : SheetsComeBack
sheets_come_back = sheet_read

pub records_come_back : RecordsComeBack
records_come_back = sheet_written

pub records_sound : RecordsSound
records_sound = (record_bytes, read_sheetly)

pub records_tell : RecordsTell
records_tell s t a b = (sheets_same s t a b, λ e. ap bytes_of e)

pub refusals_right : RefusalsRight
refusals_right bs u = (λ e s h p. none_some (sym e ∙ ap sheet_of (sym p) ∙ sheet_read s h), λ k. by k (sheet_of bs) refl)
  where
    by : ((s : Sheet) → Sheetly s → bytes_of s ≢ bs) → (o : Option Sheet) → sheet_of bs ≡ o → o ≡ None
    by k None e = refl
    by k (Some s) e = absurd (k s (read_sheetly bs s e) (sheet_written bs u s e))

pub examples : Examples
examples = (
  ((refl, refl), ((refl, refl), ((refl, refl), tt))),
  (refl, (refl, (refl, (refl, (refl, (refl, (refl, (refl, (refl, (refl, (refl, (refl, (refl, (refl, (refl, (refl, (refl, tt))))))))))))))))),
)
