-- The root of a dart, found by going round.
--   goes_on: one step of going round
--   Round: after so many steps, at a dart, with the smallest dart so far
--   round_start, round_short, round_more, round_home, round_stop: at the start; there are darts left; one step more; a
--     step that comes home; a step that is refused
--   OnRound: the same of a walk
--   walk_start, walk_less, walk_more, walk_home, walk_refused: the same of a walk
use Rattle.std.proofs.Common.{◌≡◌, ℕ, zero, suc, ◌+◌, ◌-◌, ◌<◌, ◌≤◌, min, Bool, true, false, cond, ◌&&◌, ltb, length, Ok, Err, Result, sym, refl, ap, ◌∙◌, subst, inl, inr, ⊎_elim, arith}
use Rattle.std.proofs.lemmas.Bool.{cases_eq, cases_Bool, cond-true, cond-false, both_ways, and_parts, ltb-true, lt-ltb}
use Rattle.symbols.specs.declared.refusals.Refusal.{Refusal}
use Rattle.symbols.specs.declared.refusals.Refusal.TheVariants.{NoDart, Home}
use Rattle.orbits.specs.Orbits.{times}
use Rattle.orbits.proofs.Turns.{times_next}
use Rattle.model.specs.declared.darts.Dart.{Dart}
use Rattle.model.specs.Sheets.{Sheet, Sheetly}
use Rattle.model.specs.Darts.{same_dart, is_dart, darts, next_of, next}
use Rattle.model.specs.Streets.{lesser, then_go, goes_round, root}
use Rattle.model.proofs.Listing.{dart_told, dart_self}
use Rattle.walks.specs.declared.walk.Walk.{Walk}
use Rattle.walks.specs.Walks.{most_steps, walk, started, is_home, answer_by, step_answer, step_walk}
use Rattle.walks.proofs.Going.{step_made}
use Rattle.walks.proofs.Homing.{Given, landed, given_short, darts_few, pixels_few}

goes_on : (s : Sheet) (n : ℕ) (h d low : Dart) (r : Result Dart Refusal) → 1 ≤ n → next s d ≡ r
    → goes_round s n h d low ≡ then_go r (λ e. cond (same_dart e h) (Ok low) (goes_round s (n - 1) h e (lesser low e)))
goes_on s zero h d low r l q = absurd (omega arith)
goes_on s (suc n) h d low r l q =
    let z : n ≡ suc n - 1 = omega arith in
    ap (λ (x : Result Dart Refusal). then_go x (λ e. cond (same_dart e h) (Ok low) (goes_round s n h e (lesser low e)))) q
    ∙ ap (λ (m : ℕ). then_go r (λ e. cond (same_dart e h) (Ok low) (goes_round s m h e (lesser low e)))) z

pub record Round (s : Sheet) (h : Dart) (n : ℕ) (d low : Dart) : Type 0 where
  pub dart : is_dart s h ≡ true
  pub at : times (next_of s) n h ≡ d
  pub given : Given s n h
  pub away : (j : ℕ) → 1 ≤ j → j ≤ n → times (next_of s) j h ≡ h → ⊥
  pub is : root s h ≡ goes_round s (length (darts s) - n) h d low

module _ (s : Sheet) (k : Sheetly s) (h : Dart) where
  abbrev N : ℕ
  N = length (darts s)

  pub round_start : is_dart s h ≡ true → Round s h 0 h h
  round_start e =
      let z : N ≡ N - 0 = omega arith in
      record {
        dart = e;
        at = refl;
        given = λ j l. absurd (omega arith);
        away = λ j a b q. omega arith;
        is = cond-true (is_dart s h) (goes_round s N h h h) (Err NoDart) e ∙ ap (λ (n : ℕ). goes_round s n h h h) z;
      }

  module _ (n : ℕ) (d low : Dart) (r : Round s h n d low) where
    pub round_short : n < N
    round_short = given_short s k n h r.dart r.given r.away

    -- what one more step leads to
    one_more : (x : Result Dart Refusal) → next s d ≡ x → root s h ≡ then_go x (λ e. cond (same_dart e h) (Ok low) (goes_round s (N - n - 1) h e (lesser low e)))
    one_more x q = (let l = round_short in r.is ∙ goes_on s (N - n) h d low x (omega arith) q)

    pub round_stop : (f : Refusal) → next s d ≡ Err f → root s h ≡ Err f
    round_stop f q = one_more (Err f) q

    module _ (e : Dart) (q : next s d ≡ Ok e) where
      pub round_home : same_dart e h ≡ true → root s h ≡ Ok low
      round_home z = one_more (Ok e) q ∙ cond-true (same_dart e h) (Ok low) (goes_round s (N - n - 1) h e (lesser low e)) z

      one_on : times (next_of s) (suc n) h ≡ e
      one_on = times_next (next_of s) n h ∙ ap (next_of s) r.at ∙ (landed s k d e q).2

      up_to_one : (P : ℕ → Type 0) → ((j : ℕ) → j < n → P j) → P n → (j : ℕ) → j < n + 1 → P j
      up_to_one P f x j l = ⊎_elim (λ (y : j ≡ n). subst P (sym y) x) (λ (y : j ≡ n → ⊥). f j (omega arith)) (cases_eq j n)

      pub round_more : same_dart e h ≡ false → Round s h (n + 1) e (lesser low e)
      round_more z =
          let m : N - n - 1 ≡ N - (n + 1) = omega arith in
          let o : n + 1 ≡ suc n = omega arith in
          record {
            dart = r.dart;
            at = ap (λ (i : ℕ). times (next_of s) i h) o ∙ one_on;
            given = up_to_one (λ j. next s (times (next_of s) j h) ≡ Ok (times (next_of s) (suc j) h)) r.given (ap (next s) r.at ∙ q ∙ ap Ok (sym one_on));
            away = λ j a b x. ⊎_elim
                (λ (y : j ≡ n + 1).
                let w : e ≡ h = sym (ap (λ (i : ℕ). times (next_of s) i h) (y ∙ o) ∙ one_on) ∙ x in
                both_ways (same_dart e h) z (subst (λ (u : Dart). same_dart u h ≡ true) (sym w) (dart_self h)))
                (λ (y : j ≡ n + 1 → ⊥). r.away j a (omega arith) x)
                (cases_eq j (n + 1));
            is = one_more (Ok e) q ∙ cond-false (same_dart e h) (Ok low) (goes_round s (N - n - 1) h e (lesser low e)) z
                ∙ ap (λ (i : ℕ). goes_round s i h e (lesser low e)) m;
          }

-- walks

pub record OnRound (s : Sheet) (h : Dart) (w : Walk) (low : Dart) : Type 0 where
  pub start : w.start ≡ h
  pub round : Round s h w.steps w.at low

refused_by : (b : Bool) (f : Refusal) → b ≡ false → ◌≡◌ {A = Result (Unit {0}) Refusal} (Err f) (cond b (Err Home) (Ok tt)) → ⊥
refused_by true f e q = (let z : ◌≡◌ {A = ℕ} 0 1 = cc in omega arith)
refused_by false f e q = (let z : ◌≡◌ {A = ℕ} 0 1 = cc in omega arith)

-- a step that is refused away from home is refused as next
step_refused : (s : Sheet) (w : Walk) (f : Refusal) → is_home w ≡ false → Err f ≡ step_answer s w → next s w.at ≡ Err f
step_refused s w f e a = by (next s w.at) refl a
  where
    by : (r : Result Dart Refusal) → next s w.at ≡ r → Err f ≡ answer_by w r → next s w.at ≡ Err f
    by (Ok x) q b = absurd (refused_by (is_home w) f e b)
    by (Err g) q b = (let z : f ≡ g = cc in q ∙ ap Err (sym z))

started_by : (b : Bool) (w v : Walk) → Ok w ≡ cond b (Ok v) (Err NoDart) → (b ≡ true) × (w ≡ v)
started_by true w v e = (refl, (cc))
started_by false w v e = (let z : ◌≡◌ {A = ℕ} 0 1 = cc in absurd (omega arith))

pub walk_start : (s : Sheet) → Sheetly s → (h : Dart) (w : Walk) → Ok w ≡ started s h → (w.start ≡ h) × OnRound s w.start w h
walk_start s k h w b =
    let e = started_by (is_dart s h) w (walk h h 0) b in (
      ap (λ (v : Walk). v.start) e.1,
      subst (λ (v : Walk). OnRound s v.start v h) (sym e.1) (record { start = refl; round = round_start s k h e.0 }),
    )

module _ (s : Sheet) (k : Sheetly s) (h : Dart) (w : Walk) (low : Dart) (o : OnRound s h w low) where
  away_home : is_home w ≡ false
  away_home =
      elim (cases_Bool (is_home w)) [
        | inl t ↦
            (let p = and_parts (ltb 0 w.steps) (same_dart w.at w.start) t in
            absurd (o.round.away w.steps (ltb-true 0 w.steps p.0) (omega arith)
            (o.round.at ∙ dart_told w.at w.start p.1 ∙ o.start)))
        | inr t ↦ t
      ]

  pub walk_refused : (f : Refusal) → Err f ≡ step_answer s w → Err f ≡ root s h
  walk_refused f a = sym (round_stop s k h w.steps w.at low o.round f (step_refused s w f away_home a))

  module _ (v : Walk) (a : Ok tt ≡ step_answer s w) (q : v ≡ step_walk s w) where
    -- the dart that the step led to
    abbrev to : Dart
    to = (step_made s w a).0

    given : next s w.at ≡ Ok to
    given = (step_made s w a).1.given

    stepped : v ≡ walk w.start to (w.steps + 1)
    stepped =
        let l = round_short s k h w.steps w.at low o.round in
        let z : min (w.steps + 1) most_steps ≡ w.steps + 1 = omega (arith, darts_few s k, pixels_few s k) in
        q ∙ (step_made s w a).1.after ∙ ap (walk w.start to) z

    at_home : is_home v ≡ same_dart to h
    at_home =
        ap is_home stepped
        ∙ ap (λ (b : Bool). b && same_dart to w.start) (lt-ltb 0 (w.steps + 1) (omega arith))
        ∙ ap (same_dart to) o.start

    pub walk_less : length (darts s) - v.steps < length (darts s) - w.steps
    walk_less =
        let l = round_short s k h w.steps w.at low o.round in
        let z : v.steps ≡ w.steps + 1 = ap (λ (u : Walk). u.steps) stepped in
        omega arith

    pub walk_home : true ≡ is_home v → Ok low ≡ root s h
    walk_home z = sym (round_home s k h w.steps w.at low o.round to given (sym (z ∙ at_home)))

    pub walk_more : (x : Dart) → false ≡ is_home v → x ≡ lesser low v.at → OnRound s h v x
    walk_more x z y =
        subst (λ (u : Dart). OnRound s h v u) (sym (y ∙ ap (λ (u : Walk). lesser low u.at) stepped))
        (subst (λ (u : Walk). OnRound s h u (lesser low to)) (sym stepped)
        (record { start = o.start; round = round_more s k h w.steps w.at low o.round to given (sym (z ∙ at_home)) }))
