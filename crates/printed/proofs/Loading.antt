-- A sheet loaded into slots of 64.
--   opened: what holds of a value that was given
--   short_drawn, none_over: no word of a sheet is over 64 symbols
--   Roomy, Loaded, loads: loading a sheet's record into slots of 64 is accepted, and the slots then have that sheet
--   roomy: slots of 64 as they are opened
use Rattle.std.proofs.Common.{◌≡◌, ℕ, ◌*◌, ◌≤◌, Bool, false, cond, eqb, ltb, List, [], ◌∷◌, length, Some, Ok, Err, Option, Result, sym, refl, ap, ◌∙◌, subst, arith}
use Rattle.std.specs.Result.{MatchResult, result_ok}
use Rattle.std.specs.List.{AllByRecursion}
use Rattle.std.proofs.ByRecursion.{sum_by_le}
use Rattle.std.proofs.lemmas.Bool.{le-ltb, eq-eqb, or_from, and_from}
use Rattle.symbols.specs.declared.refusals.Refusal.{Refusal}
use Rattle.symbols.specs.declared.refusals.Refusal.TheVariants.{Opening, OverLongest, OverTotal}
use Rattle.rules.specs.Words.{Drawing}
use Rattle.model.specs.Sheets.{Sheet, Sheetly, IsDrawing}
use Rattle.codec.specs.Records.{sheet_of}
use Rattle.stores.specs.Sources.{Told, fresh, plain_told}
use Rattle.plain.specs.Plain.{Plain, load, symbols_in, symbols_of, some_over, limited, outcome, replace, answer, step, left_by, answered, sheet_in}

pub opened : {A E : Type 0} (P : A → Type 0) (Q : E → Type 0) (r : Result A E) (x : A) → MatchResult r P Q → result_ok r ≡ Some x → P x
opened P Q (Ok y) x m e = (let z : y ≡ x = cc in subst P z m)
opened P Q (Err f) x m e = (let z : ◌≡◌ {A = ℕ} 0 1 = cc in absurd (omega arith))

short_drawn : (ds : List Drawing) → AllByRecursion IsDrawing ds → AllByRecursion (λ d. symbols_in d ≤ 64) ds
short_drawn [] a = tt
short_drawn (d ∷ ds) a = (omega (arith, a.0.0.few), short_drawn ds a.1)

none_over : (ds : List Drawing) → AllByRecursion IsDrawing ds → some_over 64 ds ≡ false
none_over [] a = refl
none_over (d ∷ ds) a = or_from (ltb 64 (symbols_in d)) (some_over 64 ds) (le-ltb 64 (symbols_in d) (omega (arith, a.0.0.few))) (none_over ds a.1)

pub record Loaded (p : Plain) (bs : List ℕ) (s : Sheet) : Type 0 where
  pub accepted : answer p (load bs) ≡ Ok tt
  pub holds : sheet_in (step p (load bs)) ≡ s

-- a plain sheet that was opened for slots of 64
abbrev pub Roomy : Plain → Sheet → Type 0
Roomy p s = (p.width ≡ s.width) × (p.height ≡ s.height) × (p.longest ≡ 64) × (p.total ≡ s.width * s.height * 64)

pub loads : (p : Plain) (bs : List ℕ) (s : Sheet) → Sheetly s → sheet_of bs ≡ Some s → Roomy p s → Loaded p bs s
loads p bs s h e r =
    let o : outcome p (replace (sheet_of bs)) ≡ Ok s.drawings =
    ap (λ (x : Option Sheet). outcome p (replace x)) e
    ∙ ap (λ (t : Bool). cond t (limited p s.drawings s.drawings) (Err Opening)) (and_from (eqb s.width p.width) (eqb s.height p.height) (eq-eqb s.width p.width (sym r.0)) (eq-eqb s.height p.height (sym r.1)))
    ∙ ap (λ (n : ℕ). cond (some_over n s.drawings) (Err OverLongest) (cond (ltb p.total (symbols_of s.drawings)) (Err OverTotal) (Ok s.drawings))) r.2
    ∙ ap (λ (t : Bool). cond t (Err OverLongest) (cond (ltb p.total (symbols_of s.drawings)) (Err OverTotal) (Ok s.drawings))) (none_over s.drawings h.drawn)
    ∙ ap (λ (t : Bool). cond t (Err OverTotal) (Ok s.drawings)) (le-ltb p.total (symbols_of s.drawings) fits) in
    record {
      accepted = ap answered o;
      holds = ap (λ (x : Result (List Drawing) Refusal). sheet_in (left_by p x)) o ∙ (λ i. record { width = r.0 i; height = r.1 i; drawings = s.drawings });
    }
  where
    fits : symbols_of s.drawings ≤ p.total
    fits =
        let n : symbols_of s.drawings ≤ length s.drawings * 64 = sum_by_le symbols_in 64 s.drawings (short_drawn s.drawings h.drawn) in
        let m : length s.drawings * 64 ≡ p.total = ap (λ (x : ℕ). x * 64) h.whole ∙ sym r.3 in
        omega arith

pub roomy : (t : Told) (n w h : ℕ) (s : Sheet) → t ≡ fresh w h → n ≡ 64 → s.width ≡ w → s.height ≡ h → Roomy (plain_told t n (t.width * t.height * n)) s
roomy t n w h s e q a b =
    let x : t.width ≡ s.width = ap (λ (u : Told). u.width) e ∙ sym a in
    let y : t.height ≡ s.height = ap (λ (u : Told). u.height) e ∙ sym b in
    (x, y, q, ap (λ (i : ℕ). i * t.height * n) x ∙ ap (λ (i : ℕ). s.width * i * n) y ∙ ap (λ (i : ℕ). s.width * s.height * i) q)
