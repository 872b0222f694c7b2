-- What two sides tell of one another.
--   filled_front: what memory begins with that an answer was filled into
--   given_list: a list that is given is the one that is defined, and the check has passed
--   told_by: two answers compared tell whether they are equal
--   side_covers: a list that is given covers its sheet
--   whole: what two sides tell
--   fills_few, list_few: what was filled lies in the memory
--   Sided, sided: one side, from its opening over its calls to its list and record
--   told_apart: the whole statement
use Rattle.std.proofs.Common.{◌≡◌, ℕ, ◌≤◌, Bool, true, false, cond, ltb, ◌↔◌, List, ◌++◌, length, take, drop, IfOk, Some, None, Ok, Err, Option, Result, sym, refl, ap, ◌∙◌, subst, arith, length-append}
use Rattle.std.proofs.lemmas.List.{take_at}
use Rattle.std.proofs.lemmas.Bool.{false≢true}
use Rattle.symbols.specs.declared.refusals.Refusal.{Refusal}
use Rattle.symbols.specs.declared.refusals.Refusal.TheVariants.{Short}
use Rattle.symbols.specs.Refusals.{fill_answer, filled}
use Rattle.model.specs.Sheets.{Sheet}
use Rattle.model.specs.Streets.{check, given_if, street_list}
use Rattle.lists.specs.Statements.{Covered}
use Rattle.codec.specs.Records.{bytes_of}
use Rattle.plain.specs.Plain.{Plain, Call, Opens, Keeps, run, sheet_in}
use Rattle.openings.specs.Limits.{Limits, opened_within}
use Rattle.streetlist.specs.Lists.{memory_answer, memory_after, list_answer, list_memory}
use Rattle.histories.specs.Statements.{History, LawfulHistory, ends_in, SameAccepted}
use Rattle.histories.proofs.Histories.{histories_tell}
use Rattle.apart.specs.declared.verdict.Made.{Made}
use Rattle.apart.specs.declared.verdict.Verdict.{Verdict}
use Rattle.apart.specs.Fronts.{front, Compared}
use Rattle.apart.specs.Statements.{Given, Listed, Recorded, Side, Tells, Whole, history, ToldApart}

pub filled_front : (bytes old now : List ℕ) (r : Result ℕ Refusal) → r ≡ fill_answer bytes old → now ≡ filled bytes old → Given r → front r now ≡ Some bytes
filled_front bytes old now r e m g = by (ltb (length old) (length bytes)) e m
  where
    by : (t : Bool) → r ≡ cond t (Err Short) (Ok (length bytes)) → now ≡ cond t old (bytes ++ drop (length bytes) old) → front r now ≡ Some bytes
    by true e m = absurd (subst Given e g)
    by false e m =
        ap (λ (x : Result ℕ Refusal). front x now) e
        ∙ ap Some (ap (take (length bytes)) m ∙ take_at bytes (drop (length bytes) old) (length bytes) refl)

passed : (r : Result (Unit {0}) Refusal) (x a : List ℕ) → given_if r x ≡ Ok a → r ≡ Ok tt
passed (Ok u) x a e = refl
passed (Err f) x a e = (let z : ◌≡◌ {A = ℕ} 0 1 = cc in absurd (omega arith))

pub record AList (s : Sheet) (r : Result ℕ Refusal) (now : List ℕ) : Type 0 where
  pub text : List ℕ
  pub defined : street_list s ≡ Ok text
  pub held : front r now ≡ Some text

pub given_list : (s : Sheet) (r : Result ℕ Refusal) (old now : List ℕ) → Listed (street_list s) r old now → Given r → AList s r now
given_list s r old now l g = by (street_list s) refl l
  where
    by : (o : Result (List ℕ) Refusal) → street_list s ≡ o → Listed o r old now → AList s r now
    by (Ok a) e l = record { text = a; defined = e; held = filled_front a old now r l.0 l.1 g }
    by (Err f) e l = absurd (subst Given l.0 g)

pub side_covers : (g : History) → LawfulHistory g → (r : Result ℕ Refusal) (old now : List ℕ) → Listed (street_list (ends_in g)) r old now → Given r → Covered (ends_in g)
side_covers g a r old now l v =
    let t = given_list (ends_in g) r old now l v in
    (histories_tell g g a a).covers (passed (check (ends_in g)) _ t.text t.defined)

pub told_by : (m n : Result ℕ Refusal) (x y : List ℕ) (t : Option Bool) (Q : Type 0) → Compared (front m x) (front n y) t
    → (Given m → Given n → (a : List ℕ) × (b : List ℕ) × (front m x ≡ Some a) × (front n y ≡ Some b) × ((a ≡ b) ↔ Q))
    → Tells t (Given m × Given n) Q
told_by (Ok k) (Ok j) x y (Some true) Q c f =
    let q = f tt tt in
    ((tt, tt), q.4.0 (let e = c.0 refl in let p = q.2 in let r = q.3 in cc))
told_by (Ok k) (Ok j) x y (Some false) Q c f =
    let q = f tt tt in
    ((tt, tt), λ s. false≢true (c.1 (let e = q.4.1 s in let p = q.2 in let r = q.3 in cc)))
told_by (Ok k) (Ok j) x y None Q c f = absurd c
told_by (Ok k) (Err g) x y t Q c f = subst (λ (o : Option Bool). Tells o (Given (Ok k) × ⊥) Q) (sym c) (λ p. p.1)
told_by (Err g) n x y t Q c f = subst (λ (o : Option Bool). Tells o (⊥ × Given n) Q) (sym c) (λ p. p.0)

pub whole : (g h : History) → LawfulHistory g → LawfulHistory h → (v : Verdict) (l l' r r' b b' c c' : List ℕ)
    → Listed (street_list (ends_in g)) v.left.listed l l' → Listed (street_list (ends_in h)) v.right.listed r r'
    → Recorded (bytes_of (ends_in g)) v.left.recorded b b' → Recorded (bytes_of (ends_in h)) v.right.recorded c c'
    → Compared (front v.left.listed l') (front v.right.listed r') v.lists
    → Compared (front v.left.recorded b') (front v.right.recorded c') v.records
    → Whole g h v
whole g h a d v l l' r r' b b' c c' ll rr bb cc' lists records =
    let t = histories_tell g h a d in
    record {
      lists = told_by v.left.listed v.right.listed l' r' v.lists (SameAccepted g h) lists (λ x y.
          let p = given_list (ends_in g) v.left.listed l l' ll x in
          let q = given_list (ends_in h) v.right.listed r r' rr y in
          (p.text, q.text, p.held, q.held, t.lists p.text q.text p.defined q.defined));
      records = told_by v.left.recorded v.right.recorded b' c' v.records (SameAccepted g h) records (λ x y.
          (bytes_of (ends_in g), bytes_of (ends_in h), filled_front (bytes_of (ends_in g)) b b' v.left.recorded bb.0 bb.1 x, filled_front (bytes_of (ends_in h)) c c' v.right.recorded cc'.0 cc'.1 y, t.records));
    }

-- one side, from the opening on

pub fills_few : (bytes old now : List ℕ) (r : Result ℕ Refusal) → r ≡ fill_answer bytes old → now ≡ filled bytes old → IfOk r (λ k. k ≤ length now)
fills_few bytes old now r e m = by (ltb (length old) (length bytes)) e m
  where
    by : (t : Bool) → r ≡ cond t (Err Short) (Ok (length bytes)) → now ≡ cond t old (bytes ++ drop (length bytes) old) → IfOk r (λ k. k ≤ length now)
    by true e m = subst (λ (x : Result ℕ Refusal). IfOk x (λ k. k ≤ length now)) (sym e) tt
    by false e m =
        let n : length bytes ≤ length now = omega (arith, ap length m, length-append bytes (drop (length bytes) old)) in
        subst (λ (x : Result ℕ Refusal). IfOk x (λ k. k ≤ length now)) (sym e) n

pub list_few : (s : Sheet) (old now : List ℕ) (r : Result ℕ Refusal) → r ≡ list_answer s old → now ≡ list_memory s old → IfOk r (λ k. k ≤ length now)
list_few s old now r e m = by (street_list s) e m
  where
    by : (o : Result (List ℕ) Refusal) → r ≡ memory_answer o old → now ≡ memory_after o old → IfOk r (λ k. k ≤ length now)
    by (Ok a) e m = fills_few a old now r e m
    by (Err f) e m = subst (λ (x : Result ℕ Refusal). IfOk x (λ k. k ≤ length now)) (sym e) tt

listed : (s : Sheet) (old now : List ℕ) (r : Result ℕ Refusal) → r ≡ list_answer s old → now ≡ list_memory s old → Listed (street_list s) r old now
listed s old now r e m = by (street_list s) e m
  where
    by : (o : Result (List ℕ) Refusal) → r ≡ memory_answer o old → now ≡ memory_after o old → Listed o r old now
    by (Ok a) e m = (e, m)
    by (Err f) e m = (e, m)

pub record Sided (h : History) (m : Made) (l l' f f' : List ℕ) : Type 0 where
  pub lawful : LawfulHistory h
  pub lists : Listed (street_list (ends_in h)) m.listed l l'
  pub records : Recorded (bytes_of (ends_in h)) m.recorded f f'

pub sided : (k : Limits) (cs : List Call) (p q : Plain) (m : Made) (l l' f f' : List ℕ) → p ≡ opened_within k → q ≡ run p cs → Keeps p
    → m.listed ≡ list_answer (sheet_in q) l → l' ≡ list_memory (sheet_in q) l
    → m.recorded ≡ fill_answer (bytes_of (sheet_in q)) f → f' ≡ filled (bytes_of (sheet_in q)) f
    → Sided (history k cs) m l l' f f'
sided k cs p q m l l' f f' o r keep a b c d =
    let e : sheet_in q ≡ ends_in (history k cs) = ap sheet_in (r ∙ ap (λ (x : Plain). run x cs) o) in
    record {
      lawful = subst (λ (x : Plain). Opens x.width x.height x.longest x.total) o keep.opens;
      lists = listed (ends_in (history k cs)) l l' m.listed (a ∙ ap (λ (s : Sheet). list_answer s l) e) (b ∙ ap (λ (s : Sheet). list_memory s l) e);
      records = (c ∙ ap (λ (s : Sheet). fill_answer (bytes_of s) f) e, d ∙ ap (λ (s : Sheet). filled (bytes_of s) f) e);
    }

side : (h : History) (m : Made) (l l' f f' : List ℕ) → Sided h m l l' f f' → Side h m l l' f f'
side h m l l' f f' s = record { lists = s.lists; records = s.records; covers = side_covers h s.lawful m.listed l l' s.lists }

pub told_apart : (a b : Option Limits) (cs ds : List Call) (j k : Limits) (v : Verdict) (l l' f f' r r' e e' : List ℕ) → a ≡ Some j → b ≡ Some k
    → Sided (history j cs) v.left l l' f f' → Sided (history k ds) v.right r r' e e'
    → Compared (front v.left.listed l') (front v.right.listed r') v.lists
    → Compared (front v.left.recorded f') (front v.right.recorded e') v.records
    → ToldApart a cs b ds v l l' f f' r r' e e'
told_apart a b cs ds j k v l l' f f' r r' e e' x y s t p q = record {
  from_left = j;
  left_opens = x;
  from_right = k;
  right_opens = y;
  left = side (history j cs) v.left l l' f f' s;
  right = side (history k ds) v.right r r' e e' t;
  whole = whole (history j cs) (history k ds) s.lawful t.lawful v l l' r r' f f' e e' s.lists t.lists s.records t.records p q;
}
