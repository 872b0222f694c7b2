-- What a source tells comes back from its record.
--   words_same: lawful words come back from what they draw
--   told_same: what is told comes back from its sheet
--   opened_same: a record source over the record of what is told tells the same
--   written: the bytes that an accepted answer leaves at the front of memory
use Rattle.std.proofs.Common.{◌≡◌, ℕ, Bool, true, false, cond, ltb, List, [], ◌∷◌, ◌++◌, map, length, take, drop, Some, None, Ok, Err, Result, sym, refl, ap, ◌∙◌, arith, MatchResult}
use Rattle.std.specs.List.{AllByRecursion}
use Rattle.std.proofs.lemmas.List.{take_at}
use Rattle.symbols.specs.declared.refusals.Refusal.{Refusal}
use Rattle.symbols.specs.declared.refusals.Refusal.TheVariants.{Short, BadRecord}
use Rattle.symbols.specs.declared.symbols.Symbol.{Symbol}
use Rattle.symbols.specs.Refusals.{fill_answer, filled}
use Rattle.rules.specs.Words.{Lawful, drawn}
use Rattle.rules.specs.Tables.{word_of}
use Rattle.model.specs.Sheets.{Sheet}
use Rattle.codec.specs.Records.{bytes_of, sheet_of}
use Rattle.codec.proofs.Reading.{none_some, some_inj}
use Rattle.codec.proofs.Words.{word_drawing}
use Rattle.codec.proofs.Records.{sheet_read}
use Rattle.stores.specs.Sources.{Told, LawfulTold, sheet_told}
use Rattle.stores.proofs.Writes.{told_sheetly}
use Rattle.records.specs.declared.RecordSource.{RecordSource}
use Rattle.records.specs.Told.{record_told, record_lawful}

words_same : (ws : List (List Symbol)) → AllByRecursion Lawful ws → map word_of (map drawn ws) ≡ ws
words_same [] a = refl
words_same (w ∷ ws) a = λ i. (word_drawing w a.0).1 i ∷ words_same ws a.1 i

pub told_same : (t u : Told) → LawfulTold t → LawfulTold u → sheet_told t ≡ sheet_told u → t ≡ u
told_same t u a b e =
    let ws : t.words ≡ u.words = sym (words_same t.words a.words) ∙ ap (λ (s : Sheet). map word_of s.drawings) e ∙ words_same u.words b.words in
    λ i. record { width = (e i).width; height = (e i).height; words = ws i }

pub opened_same : (P : Refusal → Type 0) (t : Told) → LawfulTold t → (bs : List ℕ) → bs ≡ bytes_of (sheet_told t) → (r : Result RecordSource Refusal)
    → MatchResult r (λ s. sheet_of bs ≡ Some (sheet_told (record_told s.width s.height s.runs.now s.symbols.now))) (λ e. (e ≡ BadRecord) × (sheet_of bs ≡ None))
    → MatchResult r (λ s. record_told s.width s.height s.runs.now s.symbols.now ≡ t) P
opened_same P t l bs e (Ok s) h =
    told_same (record_told s.width s.height s.runs.now s.symbols.now) t (record_lawful s.width s.height s.runs.now s.symbols.now) l
    (some_inj (sym h ∙ ap sheet_of e ∙ sheet_read (sheet_told t) (told_sheetly t l)))
opened_same P t l bs e (Err f) h = absurd (none_some (sym h.1 ∙ ap sheet_of e ∙ sheet_read (sheet_told t) (told_sheetly t l)))

pub written : (bs old now : List ℕ) (n : ℕ) → Ok n ≡ fill_answer bs old → now ≡ filled bs old → take n now ≡ bs
written bs old now n e m = by (ltb (length old) (length bs)) refl e m
  where
    by : (t : Bool) → ltb (length old) (length bs) ≡ t → Ok n ≡ cond t (Err Short) (Ok (length bs)) → now ≡ cond t old (bs ++ drop (length bs) old) → take n now ≡ bs
    by true q e m = (let z : ◌≡◌ {A = ℕ} 0 1 = cc in absurd (omega arith))
    by false q e m =
        let k : n ≡ length bs = cc in
        ap (take n) m ∙ take_at bs (drop (length bs) old) n (sym k)
