-- Walks come home, and roots are least.
--   onward_given, given_onward: steps that are given, as answers of next one after another
--   homeward: the theorem on walks
--   goes_least: going round where every step is given tells the least dart on the way
--   root_least: the theorem on roots
use Rattle.std.proofs.Common.{◌≡◌, ℕ, zero, suc, ◌<◌, ◌≤◌, Bool, true, false, cond, length, Ok, Err, Result, sym, refl, ap, ◌∙◌, subst, inl, inr, arith}
use Rattle.std.proofs.lemmas.Bool.{cases_Bool, cond-true, cond-false, both_ways}
use Rattle.symbols.specs.declared.refusals.Refusal.{Refusal}
use Rattle.symbols.specs.declared.refusals.Refusal.TheVariants.{NoDart}
use Rattle.orbits.specs.Orbits as orbit
use Rattle.orbits.specs.Orbits.{times, steps, first, quiet}
use Rattle.orbits.specs.Statements as loops
use Rattle.orbits.proofs.Turns.{turned}
use Rattle.orbits.proofs.Sidewalks.{quiet_true, quiet_false}
use Rattle.model.specs.declared.darts.Dart.{Dart}
use Rattle.model.specs.Sheets.{Sheet, Sheetly}
use Rattle.model.specs.Darts.{same_dart, dart_le, is_dart, darts, next_of, next}
use Rattle.model.specs.Streets.{circles, lesser, then_go, goes_round}
use Rattle.model.proofs.Listing.{in_darts, dart_told, dart_self, circles_lawful}
use Rattle.model.proofs.Passing.{next_given}
use Rattle.walks.specs.Walks.{onward}
use Rattle.walks.specs.Statements.{Homeward, RootLeast}
use Rattle.walks.proofs.Homing.{Given, landed, given_short}

given_onward : (s : Sheet) (n : ℕ) (x : Dart) → Given s n x → onward s n x ≡ Ok (times (next_of s) n x)
given_onward s zero x g = refl
given_onward s (suc n) x g =
    ap (λ (r : Result Dart Refusal). then_go r (onward s n)) (g 0 (omega arith)) ∙ given_onward s n (next_of s x) (λ j l. g (suc j) (omega arith))

module _ (s : Sheet) (k : Sheetly s) where
  onward_given : (n : ℕ) (x e : Dart) → onward s n x ≡ Ok e → Given s n x
  onward_given zero x e o = λ j l. absurd (omega arith)
  onward_given (suc n) x e o = by (next s x) refl o (λ y h. onward_given n y e h)
    where
      by : (r : Result Dart Refusal) → next s x ≡ r → then_go r (onward s n) ≡ Ok e → ((y : Dart) → onward s n y ≡ Ok e → Given s n y) → Given s (suc n) x
      by (Ok y) q h more zero l = q ∙ ap Ok (sym (landed s k x y q).2)
      by (Ok y) q h more (suc j) l =
          subst (λ (z : Dart). next s (times (next_of s) j z) ≡ Ok (times (next_of s) (suc j) z)) (sym (landed s k x y q).2) (more y h j (omega arith))
      by (Err f) q h more j l = (let z : ◌≡◌ {A = ℕ} 0 1 = cc in absurd (omega arith))

pub homeward : Homeward
homeward s k d e i o =
    let N : ℕ = length (darts s) in
    let g = onward_given s k N d e o in
    elim (cases_Bool (quiet (λ y. same_dart y d) (next_of s) N (next_of s d))) [
      | inl t ↦ absurd (
          let l = given_short s k N d i g (λ j a b q. never N t j a b q) in
          omega (arith, l))
      | inr t ↦
          (let r = quiet_false (λ y. same_dart y d) (next_of s) N (next_of s d) t in
          let z = dart_told (times (next_of s) r.0 (next_of s d)) d r.2 in
          (suc r.0, omega arith, omega (arith, r.1), given_onward s (suc r.0) d (λ j l. g j (omega (arith, r.1))) ∙ ap Ok z))
    ]
  where
    never : (n : ℕ) → quiet (λ y. same_dart y d) (next_of s) n (next_of s d) ≡ true → (j : ℕ) → 1 ≤ j → j ≤ n → times (next_of s) j d ≡ d → ⊥
    never n t zero a b q = omega arith
    never n t (suc j) a b q =
        both_ways (same_dart (times (next_of s) j (next_of s d)) d) (quiet_true (λ y. same_dart y d) (next_of s) n (next_of s d) t j (omega arith))
        (subst (λ (y : Dart). same_dart y d ≡ true) (sym q) (dart_self d))

-- roots

module _ (s : Sheet) (h : Dart) where
  goes_least : (n i : ℕ) (d low : Dart) → i < n → Given s (suc i) d → times (next_of s) (suc i) d ≡ h
      → ((j : ℕ) → 1 ≤ j → j ≤ i → times (next_of s) j d ≡ h → ⊥)
      → goes_round s n h d low ≡ Ok (loops.least dart_le low (steps (next_of s) i (next_of s d)))
  goes_least zero i d low l g e away = absurd (omega arith)
  goes_least (suc n) zero d low l g e away =
      ap (λ (r : Result Dart Refusal). then_go r (λ x. cond (same_dart x h) (Ok low) (goes_round s n h x (lesser low x)))) (g 0 (omega arith))
      ∙ cond-true (same_dart (next_of s d) h) (Ok low) (goes_round s n h (next_of s d) (lesser low (next_of s d))) (subst (λ (y : Dart). same_dart y h ≡ true) (sym e) (dart_self h))
  goes_least (suc n) (suc i) d low l g e away =
      ap (λ (r : Result Dart Refusal). then_go r (λ x. cond (same_dart x h) (Ok low) (goes_round s n h x (lesser low x)))) (g 0 (omega arith))
      ∙ cond-false (same_dart (next_of s d) h) (Ok low) (goes_round s n h (next_of s d) (lesser low (next_of s d))) not_yet
      ∙ goes_least n i (next_of s d) (lesser low (next_of s d)) (omega arith) (λ j b. g (suc j) (omega arith)) e (λ j a b. away (suc j) (omega arith) (omega arith))
    where
      not_yet : same_dart (next_of s d) h ≡ false
      not_yet =
          elim (cases_Bool (same_dart (next_of s d) h)) [
            | inl t ↦ absurd (away 1 (omega arith) (omega arith) (dart_told (next_of s d) h t))
            | inr t ↦ t
          ]

same_either : (b : Bool) (x : Dart) → x ≡ cond b x x
same_either true x = refl
same_either false x = refl

pub root_least : RootLeast
root_least s k free d e =
    let S : orbit.System Dart = circles s in
    let m = in_darts s d e in
    let t = turned S (circles_lawful s k free) d m in
    let i : ℕ = first (λ y. same_dart y d) (next_of s) (length (darts s)) (next_of s d) in
    cond-true (is_dart s d) (goes_round s (length (darts s)) d d d) (Err NoDart) e
    ∙ goes_least s d (length (darts s)) i d d (omega (arith, t.short)) (λ j l. given j) t.back (λ j a b q. t.before j a (omega arith) q)
    ∙ ap (λ (x : Dart). Ok (loops.least dart_le x (steps (next_of s) i (next_of s d)))) (same_either (dart_le d d) d)
  where
    is : (j : ℕ) → is_dart s (times (next_of s) j d) ≡ true
    is j = from j d e
      where
        from : (n : ℕ) (x : Dart) → is_dart s x ≡ true → is_dart s (times (next_of s) n x) ≡ true
        from zero x q = q
        from (suc n) x q = from n (next_of s x) (next_given s k free x q).1

    given : (j : ℕ) → next s (times (next_of s) j d) ≡ Ok (times (next_of s) (suc j) d)
    given j = (next_given s k free (times (next_of s) j d) (is j)).0 ∙ ap Ok (sym (times_on j d))
      where
        times_on : (n : ℕ) (x : Dart) → times (next_of s) n (next_of s x) ≡ next_of s (times (next_of s) n x)
        times_on zero x = refl
        times_on (suc n) x = times_on n (next_of s x)
