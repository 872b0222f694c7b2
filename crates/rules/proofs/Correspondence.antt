-- Words, tables and drawings answer each other: what the contracts name.
use Rattle.std.proofs.Common.{◌≡◌, ℕ, ◌+◌, ◌<◌, ◌≤◌, List, length, is_some, Some, None, Ok, Option, sym, refl, ap, ◌∙◌, subst, inl, inr, arith}
use Rattle.std.proofs.lemmas.Bool.{and_parts, lt-ltb, le-ltb, cases_lt}
use Rattle.symbols.specs.declared.refusals.Refusal.{Refusal}
use Rattle.symbols.specs.declared.symbols.Crossing.{Crossing}
use Rattle.symbols.specs.declared.symbols.Symbol.{Symbol}
use Rattle.rules.specs.Words.{Lawful, shaped, drawing_of, drawn, judged}
use Rattle.rules.specs.Tables.{Means, fault, canonical, word_of, unless}
use Rattle.rules.specs.Crossings.{before, after, where_in}
use Rattle.rules.specs.Statements.{WordsComeBack, TablesComeBack, DrawingsAreTold, StepsUndo, Examples}
use Rattle.rules.proofs.Marks.{Tidy}
use Rattle.rules.proofs.Words.{parts, comes_back, draws_tidy}
use Rattle.rules.proofs.Drawings.{tidy_comes_back, tidy_lawful, length_writes}
use Rattle.rules.proofs.Tables.{table_tidy, length_canonical}
use Rattle.rules.proofs.Back.{table_means, table_draws}
use Rattle.rules.proofs.Counts.{tables_are_told}
use Rattle.rules.proofs.Rules.{rules_are_told}
use Rattle.rules.proofs.Turns.{crossings_turn}

some_same : {X : Type 0} (x y : X) → ◌≡◌ {A = Option X} (Some x) (Some y) → x ≡ y
some_same x y e = cc

-- a lawful word is judged to be one
pub judged_ok : (w : List Symbol) → Lawful w → judged w ≡ Ok w
judged_ok w l = (let a = and_parts (shaped w) (is_some (drawing_of w)) l in rw (a.0, a.1))

pub words_come_back : WordsComeBack
words_come_back w l =
    let p = parts w l in
    let d = drawn w in
    let t : Tidy 0 0 d = draws_tidy w d p.four p.last p.read in
    let b : word_of d ≡ w = comes_back w d p.four p.read in
    let few : length d ≤ 60 = omega (arith, length_writes d 0 0 (omega arith) t, ap length b, p.most) in
    let m : Means d = table_means d t few in
    let c : canonical d ≡ d = table_draws d t in
    (p.read, m, c, rw ((rules_are_told d).1 m, c, b))

-- what was built was built from a table with no fault
built : {A : Type 0} (o : Option Refusal) (x w : A) → unless o x ≡ Ok w → (o ≡ None) × (x ≡ w)
built None x w e = (refl, (let q : x ≡ w = cc in q))
built (Some f) x w e = (let z : ◌≡◌ {A = ℕ} 0 1 = cc in absurd (omega arith))

pub tables_come_back : TablesComeBack
tables_come_back t w e =
    let b = built (fault t) (word_of (canonical t)) w e in
    let m : Means t = (rules_are_told t).0 b.0 in
    let y = table_tidy t m in
    let n = length_canonical t in
    subst (λ (v : List Symbol). Lawful v × (drawing_of v ≡ Some (canonical t)) × (length v ≡ length t + 4)) b.1 (
      tidy_lawful (canonical t) y (omega (arith, m.few)),
      tidy_comes_back (canonical t) y,
      omega (arith, length_writes (canonical t) 0 0 (omega arith) y),
    )

pub words_told : (v w : List Symbol) → Lawful v → Lawful w → drawn v ≡ drawn w → v ≡ w
words_told v w a b e =
    let p = parts v a in
    let q = parts w b in
    sym (comes_back v (drawn v) p.four p.read) ∙ ap word_of e ∙ comes_back w (drawn w) q.four q.read

pub drawings_are_told : DrawingsAreTold
drawings_are_told = (
  λ s t m n. tables_are_told s t m.roads n.roads,
  λ v w a b.
      let p = words_come_back v a in
      let q = words_come_back w b in
      let t = tables_are_told (drawn v) (drawn w) p.1.roads q.1.roads in (
        (ap drawn, words_told v w a b),
        (λ e. t.0 (ap (λ (x : List Symbol). canonical (drawn x)) e), λ s. words_told v w a b (sym p.2 ∙ t.1 s ∙ q.2)),
      ),
)

where_is : (d : List Crossing) (i x j : ℕ) → where_in d i x ≡ Some j → (i < length d) × (x ≡ j)
where_is d i x j e =
    elim (cases_lt i (length d)) [
      | inl h ↦ (h, some_same x j (rw (lt-ltb i (length d) h) at e))
      | inr h ↦
          (let s : ◌≡◌ {A = Option ℕ} None (Some j) = rw (le-ltb i (length d) h) at e in
          let z : ◌≡◌ {A = ℕ} 0 1 = cc in
          absurd (omega arith))
    ]

at_it : (d : List Crossing) (i x j : ℕ) → i < length d → x ≡ j → where_in d i x ≡ Some j
at_it d i x j h e = rw (lt-ltb i (length d) h, e)

pub steps_undo : StepsUndo
steps_undo = (
  crossings_turn,
  λ d i j. (
    λ e.
        let p = where_is d i (before d i) j e in
        let t = crossings_turn d i p.0 in
        at_it d j (after d j) i (subst (λ (x : ℕ). x < length d) p.1 t.before_in) (ap (after d) (sym p.1) ∙ t.back),
    λ e.
        let p = where_is d j (after d j) i e in
        let t = crossings_turn d j p.0 in
        at_it d i (before d i) j (subst (λ (x : ℕ). x < length d) p.1 t.after_in) (ap (before d) (sym p.1) ∙ t.forth),
  ),
)

pub examples : Examples
examples = (refl, (refl, (refl, (refl, (refl, (refl, (refl, (refl, (refl, (refl, tt))))))))))
