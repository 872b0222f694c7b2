-- One call: what it leaves.
--   Whole: a plain sheet has one drawing for each pixel
--   outcome_whole, step_whole: so it has after a call
--   Fits: drawings keep to the limits of a plain sheet
--   empty_is_drawing: the empty drawing is one
--   outcome_fits: so do the drawings after a call on a plain sheet that keeps to its limits
--   step_keeps: a call leaves a plain sheet that keeps to its limits
--   step_limits: a call changes no limits
--   refused_alters_nothing: a refused call alters nothing, nor does a question
--   accepted_drawings: an accepted offer leaves its drawings
--   accepted_changes: what an accepted call changes
use Rattle.std.proofs.Common.{◌≡◌, ℕ, ◌*◌, ◌<◌, ◌≤◌, List, [], length, get_or, set, Ok, Err, Result, sym, refl, ap, ◌∙◌, subst, arith}
use Rattle.std.specs.List.{AllByRecursion}
use Rattle.std.proofs.lemmas.List.{length-set, get_or-set_same, get_or-set_other}
use Rattle.std.proofs.ByRecursion.{All-set}
use Rattle.std.proofs.lemmas.List.Sums.{sum_by-set}
use Rattle.symbols.specs.declared.refusals.Refusal.{Refusal}
use Rattle.symbols.specs.declared.symbols.Crossing.{Crossing}
use Rattle.symbols.specs.declared.symbols.Symbol.{Symbol}
use Rattle.symbols.specs.Symbols.{spelt}
use Rattle.rules.specs.Words.{Drawing, drawn, judged, read_word}
use Rattle.rules.specs.Tables.{canonical, fault, unless}
use Rattle.rules.proofs.Rules.{rules_are_told}
use Rattle.model.specs.Sheets.{IsDrawing, pixels}
use Rattle.codec.specs.Records.{sheet_of}
use Rattle.codec.proofs.Records.{read_sheetly}
use Rattle.plain.specs.Plain.{Plain, sheet_in, symbols_in, symbols_of, Call, put, write, build, clear, load, question, Offer, draw, empty, replace, drawn_word, offered, outcome, answered, left_by, step, Keeps}
use Rattle.plain.specs.Statements.{SameLimits, RefusedAltersNothing, ChangedAt, AcceptedChanges}
use Rattle.plain.proofs.Offers.{ok_same, never_ok, then_ok, draw_ok, empty_ok, Loaded, replace_ok, judged_word, read_lawful, lawful_draws, means_draws, unless_ok}

abbrev pub Whole : Plain → Type 0
Whole s = length s.drawings ≡ pixels (sheet_in s)

loaded_whole : (s : Plain) (bs : List ℕ) (ds : List Drawing) → (l : Loaded s (sheet_of bs) ds) → length ds ≡ pixels (sheet_in s)
loaded_whole s bs ds l =
    let w = (read_sheetly bs l.sheet l.offer).whole in
    ap length (sym l.limits.same) ∙ w ∙ ap (λ (x : ℕ). x * l.sheet.height) l.width ∙ ap (λ (x : ℕ). s.width * x) l.height

set_whole : (s : Plain) → Whole s → (p : ℕ) (d : Drawing) (ds : List Drawing) → set s.drawings p d ≡ ds → length ds ≡ pixels (sheet_in s)
set_whole s h p d ds e = ap length (sym e) ∙ length-set s.drawings p d ∙ h

draw_whole : (s : Plain) → Whole s → (p : ℕ) (r : Result Drawing Refusal) (ds : List Drawing) → outcome s (draw p r) ≡ Ok ds → length ds ≡ pixels (sheet_in s)
draw_whole s h p r ds e = (let a = draw_ok s p r ds e in set_whole s h p a.drawing ds a.limits.same)

pub outcome_whole : (s : Plain) → Whole s → (c : Call) (ds : List Drawing) → outcome s (offered c) ≡ Ok ds → length ds ≡ pixels (sheet_in s)
outcome_whole s h (put p cs) ds e = draw_whole s h p (drawn_word (read_word cs)) ds e
outcome_whole s h (write p w) ds e = draw_whole s h p (drawn_word (judged w)) ds e
outcome_whole s h (build p t) ds e = draw_whole s h p (unless (fault t) (canonical t)) ds e
outcome_whole s h (clear p) ds e = set_whole s h p [] ds (empty_ok s p ds e).1
outcome_whole s h (load bs) ds e = loaded_whole s bs ds (replace_ok s (sheet_of bs) ds e)
outcome_whole s h question ds e = ap length (sym (ok_same s.drawings ds e)) ∙ h

left_whole : (s : Plain) → Whole s → (r : Result (List Drawing) Refusal) → ((ds : List Drawing) → r ≡ Ok ds → length ds ≡ pixels (sheet_in s)) → Whole (left_by s r)
left_whole s h (Ok ds) f = f ds refl
left_whole s h (Err g) f = h

pub step_whole : (s : Plain) (c : Call) → Whole s → Whole (step s c)
step_whole s c h = left_whole s h (outcome s (offered c)) (outcome_whole s h c)

-- the limits

pub record Fits (s : Plain) (ds : List Drawing) : Type 0 where
  pub drawn : AllByRecursion IsDrawing ds
  pub to_longest : AllByRecursion (λ d. symbols_in d ≤ s.longest) ds
  pub to_total : symbols_of ds ≤ s.total

draw_fits : (s : Plain) → Keeps s → (p : ℕ) (r : Result Drawing Refusal) → ((d : Drawing) → r ≡ Ok d → IsDrawing d) → (ds : List Drawing) → outcome s (draw p r) ≡ Ok ds → Fits s ds
draw_fits s k p r f ds e =
    let a = draw_ok s p r ds e in
    subst (Fits s) a.limits.same (record {
      drawn = All-set IsDrawing s.drawings p a.drawing (f a.drawing a.offer) k.sheetly.drawn;
      to_longest = All-set (λ d. symbols_in d ≤ s.longest) s.drawings p a.drawing a.limits.to_longest.0 k.to_longest;
      to_total = a.limits.to_total;
    })

pub empty_is_drawing : IsDrawing []
empty_is_drawing = means_draws [] ((rules_are_told []).0 refl)

empty_fits : (s : Plain) → Keeps s → (p : ℕ) (ds : List Drawing) → outcome s (empty p) ≡ Ok ds → Fits s ds
empty_fits s k p ds e =
    let a = empty_ok s p ds e in
    let l : p < length s.drawings = omega (arith, a.0, k.sheetly.whole) in
    let n : symbols_in [] ≤ s.longest = k.opens.least_longest in
    subst (Fits s) a.1 (record {
      drawn = All-set IsDrawing s.drawings p [] empty_is_drawing k.sheetly.drawn;
      to_longest = All-set (λ d. symbols_in d ≤ s.longest) s.drawings p [] n k.to_longest;
      to_total = omega (arith, sum_by-set symbols_in s.drawings p [] [] l, k.to_total);
    })

load_fits : (s : Plain) (bs : List ℕ) (ds : List Drawing) → outcome s (replace (sheet_of bs)) ≡ Ok ds → Fits s ds
load_fits s bs ds e =
    let a = replace_ok s (sheet_of bs) ds e in
    subst (Fits s) a.limits.same (record {
      drawn = (read_sheetly bs a.sheet a.offer).drawn;
      to_longest = a.limits.to_longest;
      to_total = a.limits.to_total;
    })

word_drawing : (r : Result (List Symbol) Refusal) → ((w : List Symbol) → r ≡ Ok w → IsDrawing (drawn w)) → (d : Drawing) → drawn_word r ≡ Ok d → IsDrawing d
word_drawing r f d e =
    let a = then_ok r (λ w. Ok (drawn w)) d e in
    subst IsDrawing (ok_same (drawn a.0) d a.2) (f a.0 a.1)

table_drawing : (t : List Crossing) (d : Drawing) → unless (fault t) (canonical t) ≡ Ok d → IsDrawing d
table_drawing t d e =
    let a = unless_ok (fault t) (canonical t) d e in
    subst IsDrawing a.1 (means_draws t ((rules_are_told t).0 a.0))

pub outcome_fits : (s : Plain) → Keeps s → (c : Call) (ds : List Drawing) → outcome s (offered c) ≡ Ok ds → Fits s ds
outcome_fits s k (put p cs) ds e =
    draw_fits s k p (drawn_word (read_word cs)) (word_drawing (read_word cs) (λ w i. lawful_draws w (read_lawful (spelt cs) w i))) ds e
outcome_fits s k (write p v) ds e =
    draw_fits s k p (drawn_word (judged v)) (word_drawing (judged v) (λ w i. lawful_draws w (judged_word v w i).1)) ds e
outcome_fits s k (build p t) ds e = draw_fits s k p (unless (fault t) (canonical t)) (table_drawing t) ds e
outcome_fits s k (clear p) ds e = empty_fits s k p ds e
outcome_fits s k (load bs) ds e = load_fits s bs ds e
outcome_fits s k question ds e =
    subst (Fits s) (ok_same s.drawings ds e) (record { drawn = k.sheetly.drawn; to_longest = k.to_longest; to_total = k.to_total })

left_keeps : (s : Plain) → Keeps s → (r : Result (List Drawing) Refusal) → ((ds : List Drawing) → r ≡ Ok ds → (length ds ≡ pixels (sheet_in s)) × Fits s ds) → Keeps (left_by s r)
left_keeps s k (Ok ds) f =
    let a = f ds refl in
    record {
      opens = k.opens;
      sheetly = record {
        some_width = k.sheetly.some_width;
        most_width = k.sheetly.most_width;
        some_height = k.sheetly.some_height;
        most_height = k.sheetly.most_height;
        whole = a.0;
        drawn = a.1.drawn;
      };
      to_longest = a.1.to_longest;
      to_total = a.1.to_total;
    }
left_keeps s k (Err g) f = k

pub step_keeps : (s : Plain) (c : Call) → Keeps s → Keeps (step s c)
step_keeps s c k =
    left_keeps s k (outcome s (offered c)) (λ ds e. (outcome_whole s k.sheetly.whole c ds e, outcome_fits s k c ds e))

left_limits : (s : Plain) (r : Result (List Drawing) Refusal) → SameLimits s (left_by s r)
left_limits s (Ok ds) = record { width = refl; height = refl; longest = refl; total = refl }
left_limits s (Err g) = record { width = refl; height = refl; longest = refl; total = refl }

pub step_limits : (s : Plain) (c : Call) → SameLimits s (step s c)
step_limits s c = left_limits s (outcome s (offered c))

-- refused calls, and accepted ones

left_same : (s : Plain) (r : Result (List Drawing) Refusal) (f : Refusal) → answered r ≡ Err f → left_by s r ≡ s
left_same s (Ok ds) f e = never_ok {A = Unit {0}} f tt (sym e)
left_same s (Err g) f e = refl

pub refused_alters_nothing : RefusedAltersNothing
refused_alters_nothing = (λ s c f e. left_same s (outcome s (offered c)) f e, λ s. refl)

answered_ok : (r : Result (List Drawing) Refusal) → answered r ≡ Ok tt → (ds : List Drawing) × (r ≡ Ok ds)
answered_ok (Ok ds) e = (ds, refl)
answered_ok (Err f) e = never_ok {A = Unit {0}} f tt e

pub accepted_drawings : (s : Plain) (o : Offer) → answered (outcome s o) ≡ Ok tt → (ds : List Drawing) × (outcome s o ≡ Ok ds) × ((left_by s (outcome s o)).drawings ≡ ds)
accepted_drawings s o e =
    let a = answered_ok (outcome s o) e in
    (a.0, a.1, ap (λ (r : Result (List Drawing) Refusal). (left_by s r).drawings) a.1)

changed : (s t : Plain) → Keeps s → (p : ℕ) (d : Drawing) → p < pixels (sheet_in s) → t.drawings ≡ set s.drawings p d → ChangedAt s t p d
changed s t k p d h e = record {
  pixel = h;
  there = ap (λ (ds : List Drawing). get_or ds p []) e ∙ get_or-set_same s.drawings p d [] (omega (arith, k.sheetly.whole));
  elsewhere = λ q n. ap (λ (ds : List Drawing). get_or ds q []) e ∙ get_or-set_other s.drawings p q d [] n;
}

draw_changes : (s : Plain) → Keeps s → (p : ℕ) (r : Result Drawing Refusal) → answered (outcome s (draw p r)) ≡ Ok tt → (d : Drawing) × (r ≡ Ok d) × ChangedAt s (left_by s (outcome s (draw p r))) p d
draw_changes s k p r e =
    let a = accepted_drawings s (draw p r) e in
    let b = draw_ok s p r a.0 a.1 in
    (b.drawing, b.offer, changed s (left_by s (outcome s (draw p r))) k p b.drawing b.pixel (a.2 ∙ sym b.limits.same))

word_changes : (s : Plain) → Keeps s → (p : ℕ) (r : Result (List Symbol) Refusal) → answered (outcome s (draw p (drawn_word r))) ≡ Ok tt → (w : List Symbol) × (r ≡ Ok w) × ChangedAt s (left_by s (outcome s (draw p (drawn_word r)))) p (drawn w)
word_changes s k p r e =
    let t = left_by s (outcome s (draw p (drawn_word r))) in
    let a = draw_changes s k p (drawn_word r) e in
    let b = then_ok r (λ w. Ok (drawn w)) a.0 a.1 in
    (b.0, b.1, subst (λ (d : Drawing). ChangedAt s t p d) (sym (ok_same (drawn b.0) a.0 b.2)) a.2)

pub accepted_changes : AcceptedChanges
accepted_changes = record {
  puts = λ s p cs k e. word_changes s k p (read_word cs) e;
  writes = λ s p w k e.
      (let a = word_changes s k p (judged w) e in
      let q : w ≡ a.0 = (judged_word w a.0 a.1).0 in
      (a.1 ∙ ap Ok (sym q), subst (λ (v : List Symbol). ChangedAt s (step s (write p w)) p (drawn v)) (sym q) a.2));
  builds = λ s p t k e.
      (let a = draw_changes s k p (unless (fault t) (canonical t)) e in
      let b = unless_ok (fault t) (canonical t) a.0 a.1 in
      (b.0, subst (λ (d : Drawing). ChangedAt s (step s (build p t)) p d) (sym b.1) a.2));
  clears = λ s p k e.
      (let a = accepted_drawings s (empty p) e in
      let b = empty_ok s p a.0 a.1 in
      changed s (step s (clear p)) k p [] b.0 (a.2 ∙ sym b.1));
  loads = λ s bs e.
      (let a = accepted_drawings s (replace (sheet_of bs)) e in
      let b = replace_ok s (sheet_of bs) a.0 a.1 in
      (b.sheet, b.offer, a.2 ∙ sym b.limits.same));
}
