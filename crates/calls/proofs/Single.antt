-- Calls on one pixel.
--   Made: what a call is answered, and the plain sheet after it
--   made_by: a call whose outcome is known
--   made_built: the word of a table draws what the table means
--   made_clear: the word `++++` always fits
use Rattle.std.proofs.Common.{◌≡◌, ℕ, ◌*◌, ◌<◌, ◌≤◌, false, ◌||◌, ltb, List, [], set, Some, None, Ok, Option, Result, sym, refl, ap, ◌∙◌, inl, inr, arith}
use Rattle.std.proofs.lemmas.List.Sums.{sum_by-set}
use Rattle.std.proofs.lemmas.Bool.{lt-ltb, le-ltb, or_from, cases_lt, cond-true}
use Rattle.symbols.specs.declared.refusals.Refusal.{Refusal}
use Rattle.symbols.specs.declared.symbols.Crossing.{Crossing}
use Rattle.rules.specs.Words.{Drawing, or_empty}
use Rattle.rules.specs.Tables.{fault, canonical, unless, build_word, word_of}
use Rattle.rules.proofs.Correspondence.{tables_come_back}
use Rattle.plain.specs.Plain.{Plain, Keeps, Answer, Call, draw, empty, write, build, clear, offered, outcome, answered, answer, left_by, step, drawn_word, symbols_in, symbols_of}
use Rattle.stores.specs.Sources.{empty_word}

pub record Made (s : Plain) (call : Call) (r : Answer) (t : Plain) : Type 0 where
  pub answer_is : r ≡ answer s call
  pub after_is : t ≡ step s call

pub made_by : (s t : Plain) (call : Call) (d : Result (List Drawing) Refusal) (r : Answer) → outcome s (offered call) ≡ d → r ≡ answered d → t ≡ left_by s d → Made s call r t
made_by s t call d r e a b = record { answer_is = a ∙ ap answered (sym e); after_is = b ∙ ap (left_by s) (sym e) }

-- tables

built_draws : (t : List Crossing) → drawn_word (build_word t) ≡ unless (fault t) (canonical t)
built_draws t = by (fault t) refl
  where
    by : (o : Option Refusal) → fault t ≡ o → drawn_word (unless o (word_of (canonical t))) ≡ unless o (canonical t)
    by None e =
        let w = word_of (canonical t) in
        let b : build_word t ≡ Ok w = ap (λ (x : Option Refusal). unless x w) e in
        ap Ok (ap or_empty (tables_come_back t w b).1)
    by (Some f) e = refl

pub made_built : (s t : Plain) (p : ℕ) (table : List Crossing) (r : Answer) → r ≡ answered (outcome s (draw p (drawn_word (build_word table)))) → t ≡ left_by s (outcome s (draw p (drawn_word (build_word table)))) → Made s (build p table) r t
made_built s t p table r a b =
    made_by s t (build p table) (outcome s (draw p (drawn_word (build_word table)))) r (ap (λ (x : Result Drawing Refusal). outcome s (draw p x)) (sym (built_draws table))) a b

-- a pixel that is emptied

fits : (s : Plain) → Keeps s → (p : ℕ) → p < s.width * s.height → outcome s (draw p (Ok [])) ≡ Ok (set s.drawings p [])
fits s k p h =
    let a = lt-ltb p (s.width * s.height) h in
    let l : (ltb s.longest (symbols_in []) || false) ≡ false = or_from _ _ (le-ltb s.longest (symbols_in []) k.opens.least_longest) refl in
    let n = sum_by-set symbols_in s.drawings p [] [] (omega (arith, h, k.sheetly.whole)) in
    let m : symbols_of (set s.drawings p []) ≤ s.total = omega (arith, n, k.to_total) in
    rw (a, l, le-ltb s.total (symbols_of (set s.drawings p [])) m)

emptied : (s : Plain) → Keeps s → (p : ℕ) → outcome s (empty p) ≡ outcome s (offered (write p empty_word))
emptied s k p =
    elim (cases_lt p (s.width * s.height)) [
      | inl h ↦ cond-true _ _ _ (lt-ltb p (s.width * s.height) h) ∙ sym (fits s k p h)
      | inr h ↦ rw (le-ltb p (s.width * s.height) h)
    ]

pub made_clear : (s t : Plain) (p : ℕ) (r : Answer) → Keeps s → r ≡ answer s (write p empty_word) → t ≡ step s (write p empty_word) → Made s (clear p) r t
made_clear s t p r k a b = made_by s t (clear p) (outcome s (offered (write p empty_word))) r (emptied s k p) a b
