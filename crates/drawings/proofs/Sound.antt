-- What a lawful word draws is held soundly.
--   told_drawn: a word that is shaped and draws something is lawful and draws that
--   sound: then its crossings are few and have no fault
--   road_low: crossings without a fault are on the roads 0 to 3
use Rattle.std.proofs.Common.{◌≡◌, ℕ, ◌<◌, ◌≤◌, true, false, List, length, is_some, Some, None, Option, sym, refl, ap, subst}
use Rattle.std.proofs.lemmas.Bool.{and_from, true≢false}
use Rattle.symbols.specs.declared.refusals.Refusal.{Refusal}
use Rattle.symbols.specs.declared.symbols.Crossing.{Crossing}
use Rattle.symbols.specs.declared.symbols.Symbol.{Symbol}
use Rattle.rules.specs.Words.{shaped, drawing_of, or_empty, drawn, Lawful}
use Rattle.rules.specs.Tables.{at, fault, Means}
use Rattle.rules.proofs.Correspondence.{words_come_back}
use Rattle.rules.proofs.Rules.{rules_are_told}

pub told_drawn : (w : List Symbol) (d : List Crossing) → true ≡ shaped w → drawing_of w ≡ Some d → Lawful w × (drawn w ≡ d)
told_drawn w d s e = (and_from _ _ (sym s) (ap is_some e), ap or_empty e)

pub means_drawn : (w : List Symbol) (d : List Crossing) → true ≡ shaped w → drawing_of w ≡ Some d → Means d
means_drawn w d s e =
    let t = told_drawn w d s e in
    subst Means t.1 (words_come_back w t.0).1

pub sound : (w : List Symbol) (d : List Crossing) → true ≡ shaped w → drawing_of w ≡ Some d → (length d ≤ 60) × (is_some (fault d) ≡ false)
sound w d s e =
    let m = means_drawn w d s e in
    (m.few, ap is_some ((rules_are_told d).1 m))

no_fault : (o : Option Refusal) → is_some o ≡ false → o ≡ None
no_fault None e = refl
no_fault (Some f) e = absurd (true≢false e)

pub road_low : (d : List Crossing) (i : ℕ) → is_some (fault d) ≡ false → i < length d → (at d i).road ≤ 3
road_low d i e h = ((rules_are_told d).0 (no_fault (fault d) e)).roads.0 i h
