-- A pixel's word is drawn.
--   word_read: a pixel's word draws what the sheet has there
--   reads: it does read
--   read_there: what is read of it is the pixel's drawing
use Rattle.std.proofs.Common.{◌≡◌, ℕ, ◌*◌, ◌<◌, List, [], Ok, Err, Result, refl, sym, ap, ◌∙◌, arith}
use Rattle.std.specs.Result.{IsOk}
use Rattle.std.proofs.ByRecursion.{All-get_or}
use Rattle.std.proofs.lemmas.List.{get_or-map}
use Rattle.symbols.specs.declared.refusals.Refusal.{Refusal}
use Rattle.symbols.specs.declared.symbols.Crossing.{Crossing}
use Rattle.symbols.specs.declared.symbols.Symbol.{Symbol}
use Rattle.rules.specs.Words.{Lawful, drawn, judged}
use Rattle.rules.proofs.Correspondence.{judged_ok}
use Rattle.drawings.specs.declared.Drawing.{Drawing}
use Rattle.drawings.specs.Drawings.{draws, in_crossings}
use Rattle.model.specs.Sheets.{drawing_at}
use Rattle.stores.specs.Sources.{Told, LawfulTold, word_at, sheet_told}

ok_drawn : (r : Result Drawing Refusal) (d : List Crossing) → in_crossings r ≡ Ok d → IsOk r
ok_drawn (Ok x) d e = refl
ok_drawn (Err f) d e = cc

module _ (t : Told) (l : LawfulTold t) (p : ℕ) (h : p < t.width * t.height) (w : List Symbol) (e : w ≡ word_at t p) where
  word_read : draws (judged w) ≡ Ok (drawing_at (sheet_told t) p)
  word_read =
      let lawful : Lawful (word_at t p) = All-get_or Lawful t.words p [] (omega (arith, l.whole)) l.words in
      ap (λ (x : List Symbol). draws (judged x)) e
      ∙ ap draws (judged_ok (word_at t p) lawful)
      ∙ ap Ok (sym (get_or-map drawn t.words p [] [] (omega (arith, l.whole))))

  pub reads : (r : Result Drawing Refusal) → in_crossings r ≡ draws (judged w) → IsOk r
  reads r q = ok_drawn r (drawing_at (sheet_told t) p) (q ∙ word_read)

  pub read_there : (d : List Crossing) → Ok d ≡ draws (judged w) → d ≡ drawing_at (sheet_told t) p
  read_there d q =
      let k : Ok d ≡ Ok (drawing_at (sheet_told t) p) = q ∙ word_read in
      cc
