-- Steps one after another.
--   accepted, refused: what is answered where nothing was refused; where something was
--   step_made: a step that is accepted goes on to next
--   step_stays: a step that is refused leaves the walk as it was
--   onward_more: one more step by next
--   Gone: after so many steps of a run
--   gone_none, gone_more, gone_stop, gone_all: a run at its start, after one more step, where a step is refused, at its end
use Rattle.std.proofs.Common.{◌≡◌, ℕ, zero, suc, ◌+◌, ◌-◌, ◌<◌, min, Bool, true, false, cond, Ok, Err, Result, sym, refl, ap, ◌∙◌, subst, arith}
use Rattle.std.specs.Result.{is_err}
use Rattle.symbols.specs.declared.refusals.Refusal.{Refusal}
use Rattle.symbols.specs.declared.refusals.Refusal.TheVariants.{Home}
use Rattle.model.specs.declared.darts.Dart.{Dart}
use Rattle.model.specs.Sheets.{Sheet}
use Rattle.model.specs.Darts.{next}
use Rattle.model.specs.Streets.{then_go}
use Rattle.walks.specs.declared.walk.Walk.{Walk}
use Rattle.walks.specs.Walks.{most_steps, is_home, gone_on, answer_by, walk_by, step_answer, step_walk, if_made, steps_made, walk_after, raised, onward}

pub accepted : (r : Result (Unit {0}) Refusal) → is_err r ≡ false → Ok tt ≡ r
accepted (Ok u) e = refl
accepted (Err f) e = cc

pub refused : (r : Result (Unit {0}) Refusal) → is_err r ≡ true → (f : Refusal) × (Err f ≡ r)
refused (Ok u) e = cc
refused (Err f) e = (f, refl)

-- what a step that was accepted did
pub record Made (s : Sheet) (w : Walk) (e : Dart) : Type 0 where
  pub given : next s w.at ≡ Ok e
  pub away : is_home w ≡ false
  pub after : step_walk s w ≡ gone_on w e

made_by : (b : Bool) (w v : Walk) (e : Dart) → ◌≡◌ {A = Result (Unit {0}) Refusal} (Ok tt) (cond b (Err Home) (Ok tt)) → (b ≡ false) × (cond b w v ≡ v)
made_by true w v e h = (let z : ◌≡◌ {A = ℕ} 0 1 = cc in absurd (omega arith))
made_by false w v e h = (refl, refl)

pub step_made : (s : Sheet) (w : Walk) → Ok tt ≡ step_answer s w → (e : Dart) × Made s w e
step_made s w h = by (next s w.at) refl h
  where
    by : (r : Result Dart Refusal) → next s w.at ≡ r → Ok tt ≡ answer_by w r → (e : Dart) × Made s w e
    by (Ok e) q a = (let m = made_by (is_home w) w (gone_on w e) e a in (e, record { given = q; away = m.0; after = ap (walk_by w) q ∙ m.1 }))
    by (Err f) q a = (let z : ◌≡◌ {A = ℕ} 0 1 = cc in absurd (omega arith))

stays_by : (b : Bool) (w v : Walk) (f : Refusal) → ◌≡◌ {A = Result (Unit {0}) Refusal} (Err f) (cond b (Err Home) (Ok tt)) → cond b w v ≡ w
stays_by true w v f h = refl
stays_by false w v f h = (let z : ◌≡◌ {A = ℕ} 0 1 = cc in absurd (omega arith))

pub step_stays : (s : Sheet) (w : Walk) (f : Refusal) → Err f ≡ step_answer s w → step_walk s w ≡ w
step_stays s w f h = by (next s w.at) h
  where
    by : (r : Result Dart Refusal) → Err f ≡ answer_by w r → walk_by w r ≡ w
    by (Ok e) a = stays_by (is_home w) w (gone_on w e) f a
    by (Err x) a = refl

pub onward_more : (s : Sheet) (i : ℕ) (d e x : Dart) → onward s i d ≡ Ok e → next s e ≡ Ok x → onward s (i + 1) d ≡ Ok x
onward_more s zero d e x o q =
    let p : d ≡ e = cc in
    ap (λ (y : Dart). then_go (next s y) (onward s 0)) p ∙ ap (λ (r : Result Dart Refusal). then_go r (onward s 0)) q
onward_more s (suc i) d e x o q =
    let z : suc i + 1 ≡ suc (i + 1) = omega arith in
    ap (λ (n : ℕ). onward s n d) z ∙ by (next s d) o (λ y h. onward_more s i y e x h q)
  where
    by : (r : Result Dart Refusal) → then_go r (onward s i) ≡ Ok e → ((y : Dart) → onward s i y ≡ Ok e → onward s (i + 1) y ≡ Ok x) → then_go r (onward s (i + 1)) ≡ Ok x
    by (Ok y) h more = more y h
    by (Err f) h more = (let z : ◌≡◌ {A = ℕ} 0 1 = cc in absurd (omega arith))

raised_more : (i n : ℕ) → min (raised i n + 1) most_steps ≡ raised (i + 1) n
raised_more zero n = refl
raised_more (suc i) n = (let z : suc i + 1 ≡ suc (suc i) = omega arith in omega (arith, ap (λ (x : ℕ). raised x n) z))

pub record Gone (s : Sheet) (n : ℕ) (u : Walk) (i : ℕ) (w : Walk) : Type 0 where
  pub made : steps_made s n u ≡ i + steps_made s (n - i) w
  pub after : walk_after s n u ≡ walk_after s (n - i) w
  pub onward_is : onward s i u.at ≡ Ok w.at
  pub counted : w.steps ≡ raised i u.steps
  pub started : w.start ≡ u.start

module _ (s : Sheet) (n : ℕ) (u : Walk) where
  pub gone_none : Gone s n u 0 u
  gone_none =
      let z : n - 0 ≡ n = omega arith in
      record {
        made = omega (arith, ap (λ (x : ℕ). steps_made s x u) z);
        after = ap (λ (x : ℕ). walk_after s x u) (sym z);
        onward_is = refl;
        counted = refl;
        started = refl;
      }

  module _ (i : ℕ) (w : Walk) (h : i < n) (g : Gone s n u i w) where
    one_left : n - i ≡ suc (n - (i + 1))
    one_left = omega arith

    made_one : steps_made s (n - i) w ≡ if_made (step_answer s w) (suc (steps_made s (n - (i + 1)) (step_walk s w))) 0
    made_one = ap (λ (x : ℕ). steps_made s x w) one_left

    after_one : walk_after s (n - i) w ≡ if_made (step_answer s w) (walk_after s (n - (i + 1)) (step_walk s w)) w
    after_one = ap (λ (x : ℕ). walk_after s x w) one_left

    pub gone_more : (v : Walk) → Ok tt ≡ step_answer s w → v ≡ step_walk s w → Gone s n u (i + 1) v
    gone_more v a q =
        let m = step_made s w a in
        let e : Dart = m.0 in
        let x : v ≡ gone_on w e = q ∙ m.1.after in
        let k : steps_made s (n - i) w ≡ suc (steps_made s (n - (i + 1)) v) =
        made_one ∙ ap (λ (r : Result (Unit {0}) Refusal). if_made r (suc (steps_made s (n - (i + 1)) (step_walk s w))) 0) (sym a)
        ∙ ap (λ (y : Walk). suc (steps_made s (n - (i + 1)) y)) (sym q) in
        record {
          made = omega (arith, g.made);
          after = g.after ∙ after_one ∙ ap (λ (r : Result (Unit {0}) Refusal). if_made r (walk_after s (n - (i + 1)) (step_walk s w)) w) (sym a)
              ∙ ap (walk_after s (n - (i + 1))) (sym q);
          onward_is = subst (λ (y : Dart). onward s (i + 1) u.at ≡ Ok y) (ap (λ (y : Walk). y.at) (sym x)) (onward_more s i u.at w.at e g.onward_is m.1.given);
          counted = ap (λ (y : Walk). y.steps) x ∙ ap (λ (y : ℕ). min (y + 1) most_steps) g.counted ∙ raised_more i u.steps;
          started = ap (λ (y : Walk). y.start) x ∙ g.started;
        }

    pub gone_stop : (f : Refusal) (v : Walk) → Err f ≡ step_answer s w → v ≡ step_walk s w
        → (i ≡ steps_made s n u) × (v ≡ walk_after s n u) × Gone s n u i v
    gone_stop f v a q =
        let x : v ≡ w = q ∙ step_stays s w f a in
        let k : steps_made s (n - i) w ≡ 0 =
        made_one ∙ ap (λ (r : Result (Unit {0}) Refusal). if_made r (suc (steps_made s (n - (i + 1)) (step_walk s w))) 0) (sym a) in (
          omega (arith, g.made),
          x ∙ sym (g.after ∙ after_one ∙ ap (λ (r : Result (Unit {0}) Refusal). if_made r (walk_after s (n - (i + 1)) (step_walk s w)) w) (sym a)),
          subst (λ (y : Walk). Gone s n u i y) (sym x) g,
        )

  pub gone_all : (w : Walk) → Gone s n u n w → (n ≡ steps_made s n u) × (w ≡ walk_after s n u)
  gone_all w g =
      let z : n - n ≡ 0 = omega arith in
      let k : steps_made s (n - n) w ≡ 0 = ap (λ (x : ℕ). steps_made s x w) z in
      (omega (arith, g.made), sym (g.after ∙ ap (λ (x : ℕ). walk_after s x w) z))
