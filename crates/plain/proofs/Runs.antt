-- Runs of calls: what they keep, and what was accepted last.
--   opened_keeps, run_keeps, run_limits, runs_keep: an opening keeps to its limits, and so do the calls after it
--   at_step: after a call a pixel has the drawing that the call has for it, if it was accepted and speaks of the pixel
--   at_run: after calls a pixel has the drawing of the latest such call
--   last_accepted_there: after an opening that is the drawing accepted last
--   examples: the worked examples
use Rattle.std.proofs.Common.{◌≡◌, ℕ, zero, suc, ◌*◌, ◌<◌, ◌≤◌, cond, eqb, List, [], ◌∷◌, get_or, set, replicate, Some, None, Ok, Err, Option, Result, sym, refl, ap, ◌∙◌, inl, inr, arith}
use Rattle.std.specs.List.{AllByRecursion}
use Rattle.std.proofs.lemmas.List.{length-replicate, get_or-replicate, get_or_past, get_or-set_same, get_or-set_other}
use Rattle.std.proofs.ByRecursion.{sum_by_le}
use Rattle.std.proofs.lemmas.Bool.{cases_eq, cases_lt, eq-eqb, ne_eqb}
use Rattle.symbols.specs.declared.refusals.Refusal.{Refusal}
use Rattle.rules.specs.Words.{Drawing, or_empty}
use Rattle.model.specs.Sheets.{Sheet, IsDrawing, drawing_at, pixels}
use Rattle.plain.specs.Plain.{Plain, sheet_in, opened, symbols_in, Call, Offer, draw, empty, replace, leave, offered, outcome, answered, answer, left_by, step, run, answers, accepted, drawing_for, or_else, latest, Opens, Keeps}
use Rattle.plain.specs.Statements.{SameLimits, RunsKeep, LastAccepted, Examples}
use Rattle.plain.proofs.Offers.{ok_same, never_ok, draw_ok, empty_ok, replace_ok}
use Rattle.plain.proofs.Steps.{Whole, step_whole, empty_is_drawing, step_keeps, step_limits}

all_replicate : {A : Type 0} (P : A → Type 0) (n : ℕ) (x : A) → P x → AllByRecursion P (replicate n x)
all_replicate P zero x h = tt
all_replicate P (suc n) x h = (h, all_replicate P n x h)

pub opened_keeps : (w h l t : ℕ) → Opens w h l t → Keeps (opened w h l t)
opened_keeps w h l t o =
    let n = length-replicate {A = Drawing} (w * h) [] in
    record {
      opens = o;
      sheetly = record {
        some_width = o.some_width;
        most_width = o.most_width;
        some_height = o.some_height;
        most_height = o.most_height;
        whole = n;
        drawn = all_replicate IsDrawing (w * h) [] empty_is_drawing;
      };
      to_longest = all_replicate (λ d. symbols_in d ≤ l) (w * h) [] o.least_longest;
      to_total = omega (arith, n, o.least_total, sum_by_le symbols_in 4 (replicate (w * h) []) (all_replicate (λ d. symbols_in d ≤ 4) (w * h) [] (omega arith)));
    }

pub run_keeps : (s : Plain) (cs : List Call) → Keeps s → Keeps (run s cs)
run_keeps s [] k = k
run_keeps s (c ∷ cs) k = run_keeps (step s c) cs (step_keeps s c k)

pub run_limits : (s : Plain) (cs : List Call) → SameLimits s (run s cs)
run_limits s [] = record { width = refl; height = refl; longest = refl; total = refl }
run_limits s (c ∷ cs) =
    let a = step_limits s c in
    let b = run_limits (step s c) cs in
    record { width = b.width ∙ a.width; height = b.height ∙ a.height; longest = b.longest ∙ a.longest; total = b.total ∙ a.total }

pub runs_keep : RunsKeep
runs_keep = (λ w h l t cs o. run_keeps (opened w h l t) cs (opened_keeps w h l t o), run_keeps, run_limits)

-- what was accepted last

abbrev pub or_this : Option Drawing → Drawing → Drawing
or_this None e = e
or_this (Some d) e = d

or_this_else : (x y : Option Drawing) (e : Drawing) → or_this (or_else x y) e ≡ or_this x (or_this y e)
or_this_else None y e = refl
or_this_else (Some d) y e = refl

or_this_empty : (x : Option Drawing) → or_this x [] ≡ or_empty x
or_this_empty None = refl
or_this_empty (Some d) = refl

at_set : (s : Plain) (p q : ℕ) (d : Drawing) → Whole s → p < pixels (sheet_in s) → get_or (set s.drawings p d) q [] ≡ or_this (cond (eqb q p) (Some d) None) (get_or s.drawings q [])
at_set s p q d h l =
    elim (cases_eq q p) [
      | inl e ↦ rw (eq-eqb q p e, e) (get_or-set_same s.drawings p d [] (omega arith))
      | inr n ↦ rw (ne_eqb q p n) (get_or-set_other s.drawings p q d [] n)
    ]

at_outcome : (s : Plain) → Whole s → (o : Offer) (ds : List Drawing) (q : ℕ) → outcome s o ≡ Ok ds → get_or ds q [] ≡ or_this (drawing_for q o) (get_or s.drawings q [])
at_outcome s h (draw p (Ok d)) ds q e =
    let a = draw_ok s p (Ok d) ds e in
    let same : set s.drawings p d ≡ ds = ap (set s.drawings p) (ok_same d a.drawing a.offer) ∙ a.limits.same in
    ap (λ (x : List Drawing). get_or x q []) (sym same) ∙ at_set s p q d h a.pixel
at_outcome s h (draw p (Err f)) ds q e = (let a = draw_ok s p (Err f) ds e in never_ok f a.drawing a.offer)
at_outcome s h (empty p) ds q e =
    let a = empty_ok s p ds e in
    ap (λ (x : List Drawing). get_or x q []) (sym a.1) ∙ at_set s p q [] h a.0
at_outcome s h (replace None) ds q e = (let a = replace_ok s None ds e in let z : ◌≡◌ {A = ℕ} 0 1 = cc a.offer in absurd (omega arith))
at_outcome s h (replace (Some r)) ds q e =
    let a = replace_ok s (Some r) ds e in
    let same : r ≡ a.sheet = cc a.offer in
    ap (λ (x : List Drawing). get_or x q []) (sym a.limits.same) ∙ ap (λ (x : Sheet). drawing_at x q) (sym same)
at_outcome s h leave ds q e = ap (λ (x : List Drawing). get_or x q []) (sym (ok_same s.drawings ds e))

at_left : (s : Plain) (r : Result (List Drawing) Refusal) (o : Option Drawing) (q : ℕ) → ((ds : List Drawing) → r ≡ Ok ds → get_or ds q [] ≡ or_this o (get_or s.drawings q [])) → get_or (left_by s r).drawings q [] ≡ or_this (cond (accepted (answered r)) o None) (get_or s.drawings q [])
at_left s (Ok ds) o q f = f ds refl
at_left s (Err g) o q f = refl

pub at_step : (s : Plain) → Whole s → (c : Call) (q : ℕ) → get_or (step s c).drawings q [] ≡ or_this (cond (accepted (answer s c)) (drawing_for q (offered c)) None) (get_or s.drawings q [])
at_step s h c q =
    at_left s (outcome s (offered c)) (drawing_for q (offered c)) q (λ ds e. at_outcome s h (offered c) ds q e)

pub at_run : (s : Plain) → Whole s → (cs : List Call) (q : ℕ) → or_this (latest q cs (answers s cs)) (get_or s.drawings q []) ≡ get_or (run s cs).drawings q []
at_run s h [] q = refl
at_run s h (c ∷ cs) q =
    or_this_else (latest q cs (answers (step s c) cs)) (cond (accepted (answer s c)) (drawing_for q (offered c)) None) (get_or s.drawings q [])
    ∙ ap (or_this (latest q cs (answers (step s c) cs))) (sym (at_step s h c q))
    ∙ at_run (step s c) (step_whole s c h) cs q

blank_at : (n q : ℕ) → get_or (replicate {A = Drawing} n []) q [] ≡ []
blank_at n q =
    elim (cases_lt q n) [
      | inl h ↦ get_or-replicate n q [] [] h
      | inr h ↦ get_or_past (replicate n []) q [] (omega (arith, length-replicate {A = Drawing} n []))
    ]

pub last_accepted_there : LastAccepted
last_accepted_there w h l t cs p =
    let s = opened w h l t in
    let o = latest p cs (answers s cs) in
    sym (or_this_empty o) ∙ ap (or_this o) (sym (blank_at (w * h) p)) ∙ at_run s (length-replicate (w * h) []) cs p

pub examples : Examples
examples = (refl, (refl, (refl, (refl, (refl, (refl, (refl, (refl, (refl, (refl, tt))))))))))
