-- The rule that the code finds broken is the fault of the table.
--   judged_fault: what the code refuses with is the fault
--   refused: what the code refuses with is why no word is built
--   built: a table that means a drawing is built into the word of its drawing
use Rattle.std.proofs.Common.{◌≡◌, ◌≤◌, Bool, true, false, ◌||◌, ltb, ◌↔◌, List, length, Some, None, Ok, Err, sym, ◌∙◌, inl, inr}
use Rattle.std.proofs.lemmas.Bool.{cases_Bool, or_parts, or_from, ltb-false, le-ltb}
use Rattle.symbols.specs.declared.refusals.Refusal.{Refusal}
use Rattle.symbols.specs.declared.refusals.Refusal.TheVariants as r
use Rattle.symbols.specs.declared.symbols.Crossing.{Crossing}
use Rattle.rules.specs.Words.{judged}
use Rattle.rules.specs.Tables.{fault, roads_break, Means, Rising, canonical, word_of, build_word}
use Rattle.rules.proofs.Correspondence.{tables_come_back, judged_ok}
use Rattle.rules.proofs.Rules.{roads_tell, flags_tell, pairs_tell, cross_tell, rules_are_told}
use Rattle.tables.specs.Judging.{Judged}

broken : {P : Type 0} (b : Bool) → (b ≡ false) ↔ P → (P → ⊥) → b ≡ true
broken b d n = elim (cases_Bool b) [ inl t ↦ t | inr f ↦ absurd (n (d.0 f)) ]

roads_kept : (t : List Crossing) → length t ≤ 60 → Rising t → (ltb 60 (length t) || roads_break 0 t) ≡ false
roads_kept t h u = or_from _ _ (le-ltb 60 (length t) h) ((roads_tell t).1 u)

roads_told : (t : List Crossing) → ((ltb 60 (length t) || roads_break 0 t) ≡ false) ↔ ((length t ≤ 60) × Rising t)
roads_told t = (
  λ e. let o = or_parts (ltb 60 (length t)) (roads_break 0 t) e in (ltb-false 60 (length t) o.0, (roads_tell t).0 o.1),
  λ p. roads_kept t p.0 p.1,
)

judged_fault : (t : List Crossing) (f : Refusal) → Judged t (Err f) → fault t ≡ Some f
judged_fault t r.Opening j = absurd j
judged_fault t r.NoPixel j = absurd j
judged_fault t r.NoWord j = absurd j
judged_fault t r.Unlawful j = absurd j
judged_fault t r.OverLongest j = absurd j
judged_fault t r.OverTotal j = absurd j
judged_fault t r.Roads j = rw (broken _ (roads_told t) j)
judged_fault t r.Flags j = rw (roads_kept t j.0 j.1, broken _ (flags_tell t) j.2)
judged_fault t r.Pairs j = rw (roads_kept t j.0 j.1, (flags_tell t).1 j.2, broken _ (pairs_tell t) j.3)
judged_fault t r.Crossed j = rw (roads_kept t j.0 j.1, (flags_tell t).1 j.2, (pairs_tell t).1 j.3, broken _ (cross_tell t) j.4)
judged_fault t r.NoDart j = absurd j
judged_fault t (r.RoadFails p q) j = absurd j
judged_fault t (r.OnRing p q k) j = absurd j
judged_fault t r.Short j = absurd j
judged_fault t r.BadRecord j = absurd j
judged_fault t r.Home j = absurd j

pub refused : (t : List Crossing) (f : Refusal) → Judged t (Err f) → build_word t ≡ Err f
refused t f j = rw (judged_fault t f j)

pub built : (t : List Crossing) → Means t → judged (word_of (canonical t)) ≡ build_word t
built t m =
    let w = word_of (canonical t) in
    let e : fault t ≡ None = (rules_are_told t).1 m in
    let b : build_word t ≡ Ok w = rw e in
    judged_ok w (tables_come_back t w b).0 ∙ sym b
