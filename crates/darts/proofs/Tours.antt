-- Walks of code on a sheet where no road fails.
--   stroll_dart, stroll_short, stroll_more, stroll_length: along a sidewalk
--   Ringing: so many steps from a dart on, none of which begins a sidewalk
--   ringing_begun: a dart that begins a sidewalk is on no ring
--   ringing_dart, ringing_more, ringing_less, ringing_yes, ringing_no: round a loop that may be a ring
--   Rooting: so many steps from a dart on, none of which is smaller, and as many back
--   rooting_start, rooting_more, rooting_less, rooting_yes, rooting_ahead, rooting_back: round a loop, both ways
use Rattle.std.proofs.Common.{◌≡◌, ℕ, zero, suc, ◌+◌, ◌<◌, ◌≤◌, true, false, length, sym, ap, ◌∙◌, subst, inl, inr, ⊎_elim, arith}
use Rattle.std.proofs.lemmas.Bool.{cases_Bool, cases_eq}
use Rattle.orbits.specs.Orbits.{In, times, Lawful, loop, sidewalk}
use Rattle.orbits.specs.Statements.{root}
use Rattle.orbits.proofs.Turns.{times_next, inside, loop_reach, loop_sym}
use Rattle.model.specs.declared.darts.Dart.{Dart}
use Rattle.model.specs.Sheets.{Sheet, Sheetly}
use Rattle.model.specs.Darts.{same_dart, dart_le, is_dart, darts, next_of}
use Rattle.model.specs.Streets.{leaves_vertex, circles, on_ring}
use Rattle.model.specs.Statements.{NoRoadFails}
use Rattle.model.proofs.Listing.{in_darts, darts_are, dart_told, dart_order, circles_lawful}
use Rattle.walks.proofs.Homing.{darts_few, pixels_few}
use Rattle.darts.proofs.Strolls.{Going, going_more, going_short, going_length, left, left_less, ring_yes, ring_no, root_yes, root_no}

pub record Ringing (s : Sheet) (h : Dart) (d : Dart) : Type 0 where
  pub made : ℕ
  pub at : d ≡ times (next_of s) made h
  pub before : (j : ℕ) → j < made → leaves_vertex s (times (next_of s) j h) ≡ false

pub record Rooting (s : Sheet) (h : Dart) (d b : Dart) : Type 0 where
  pub made : ℕ
  pub some : 1 ≤ made
  pub at : d ≡ times (next_of s) made h
  pub before : (j : ℕ) → j < made → dart_le h (times (next_of s) j h) ≡ true
  pub dart_back : is_dart s b ≡ true
  pub back : ℕ
  pub home : times (next_of s) back b ≡ h

module _ (s : Sheet) (k : Sheetly s) (free : NoRoadFails s) (h : Dart) (i : is_dart s h ≡ true) where
  law : Lawful (circles s)
  law = circles_lawful s k free

  mine : In h (darts s)
  mine = in_darts s h i

  there : (n : ℕ) (d : Dart) → d ≡ times (next_of s) n h → is_dart s d ≡ true
  there n d e = subst (λ (x : Dart). is_dart s x ≡ true) (sym e) (darts_are s (times (next_of s) n h) (inside (circles s) law n h mine))

  on_loop : (n : ℕ) (d : Dart) → d ≡ times (next_of s) n h → In d (loop (circles s) h)
  on_loop n d e = subst (λ (x : Dart). In x (loop (circles s) h)) (sym e) (loop_reach (circles s) law h mine n)

  one_on : (n : ℕ) (d e : Dart) → d ≡ times (next_of s) n h → e ≡ next_of s d → e ≡ times (next_of s) (suc n) h
  one_on n d e p q = q ∙ ap (next_of s) p ∙ sym (times_next (next_of s) n h)

  up_to_one : (P : ℕ → Type 0) (n : ℕ) → ((j : ℕ) → j < n → P j) → P n → (j : ℕ) → j < suc n → P j
  up_to_one P n f x j l = ⊎_elim (λ (q : j ≡ n). subst P (sym q) x) (λ (q : j ≡ n → ⊥). f j (omega arith)) (cases_eq j n)

  -- along a sidewalk

  module _ (n : ℕ) (d : Dart) (g : Going (circles s) h n d) where
    pub stroll_dart : is_dart s d ≡ true
    stroll_dart = there n d g.at

    pub stroll_short : leaves_vertex s h ≡ true → (n < length (darts s)) × (n < 1000000)
    stroll_short b = (let l = going_short (circles s) law h mine n d g b in (l, omega (arith, darts_few s k, pixels_few s k)))

    pub stroll_more : (e : Dart) → e ≡ next_of s d → false ≡ leaves_vertex s e → Going (circles s) h (n + 1) e
    stroll_more e q z =
        subst (λ (x : Dart). Going (circles s) h (n + 1) x) (sym q) (going_more (circles s) law h mine n d g (sym (z ∙ ap (leaves_vertex s) q)))

    pub stroll_length : (e : Dart) → leaves_vertex s h ≡ true → e ≡ next_of s d → true ≡ leaves_vertex s e → n + 1 ≡ length (sidewalk (circles s) h)
    stroll_length e b q z = going_length (circles s) law h mine n d g b (sym (z ∙ ap (leaves_vertex s) q))

  -- round a loop that may be a ring

  pub ringing_begun : leaves_vertex s h ≡ true → on_ring s h ≡ false
  ringing_begun b = ring_no (circles s) law h mine 0 b

  module _ (d : Dart) (r : Ringing s h d) where
    pub ringing_dart : is_dart s d ≡ true
    ringing_dart = there r.made d r.at

    pub ringing_no : true ≡ leaves_vertex s d → on_ring s h ≡ false
    ringing_no b = ring_no (circles s) law h mine r.made (ap (leaves_vertex s) (sym r.at) ∙ sym b)

    module _ (e : Dart) (q : e ≡ next_of s d) (b : false ≡ leaves_vertex s d) where
      quiet : (j : ℕ) → j < suc r.made → leaves_vertex s (times (next_of s) j h) ≡ false
      quiet = up_to_one (λ j. leaves_vertex s (times (next_of s) j h) ≡ false) r.made r.before (ap (leaves_vertex s) (sym r.at) ∙ sym b)

      pub ringing_yes : true ≡ same_dart e h → on_ring s h ≡ true
      ringing_yes z =
          ring_yes (circles s) law h mine (suc r.made) (omega arith)
          (sym (one_on r.made d e r.at q) ∙ dart_told e h (sym z)) quiet

      pub ringing_more : Ringing s h e
      ringing_more = record { made = suc r.made; at = one_on r.made d e r.at q; before = quiet }

      pub ringing_less : false ≡ same_dart e h → left (circles s) h (next_of s e) < left (circles s) h (next_of s d)
      ringing_less z =
          subst (λ (x : Dart). left (circles s) h (next_of s e) < left (circles s) h x) q
          (left_less (circles s) law h e mine (on_loop (suc r.made) e (one_on r.made d e r.at q)) (sym z))

  -- round a loop, both ways

  le_self : dart_le h h ≡ true
  le_self = elim (cases_Bool (dart_le h h)) [ inl t ↦ t | inr t ↦ dart_order.either h h t ]

  pub rooting_start : (d b : Dart) → d ≡ next_of s h → next_of s b ≡ h → is_dart s b ≡ true → Rooting s h d b
  rooting_start d b p q m = record {
    made = 1;
    some = omega arith;
    at = p;
    before = λ j l. first j l;
    dart_back = m;
    back = 1;
    home = q;
  }
    where
      first : (j : ℕ) → j < 1 → dart_le h (times (next_of s) j h) ≡ true
      first zero l = le_self
      first (suc j) l = absurd (omega arith)

  module _ (d b : Dart) (r : Rooting s h d b) where
    pub rooting_dart : is_dart s d ≡ true
    rooting_dart = there r.made d r.at

    pub rooting_yes : true ≡ same_dart d h → same_dart (root (circles s) dart_le h) h ≡ true
    rooting_yes z =
        root_yes (circles s) law h mine dart_le dart_order r.made r.some (sym r.at ∙ dart_told d h (sym z)) r.before

    pub rooting_ahead : false ≡ dart_le h d → same_dart (root (circles s) dart_le h) h ≡ false
    rooting_ahead z = root_no (circles s) law h mine dart_le dart_order d (on_loop r.made d r.at) (sym z)

    pub rooting_back : false ≡ dart_le h b → same_dart (root (circles s) dart_le h) h ≡ false
    rooting_back z =
        let m = in_darts s b r.dart_back in
        root_no (circles s) law h mine dart_le dart_order b
        (loop_sym (circles s) law b h m (subst (λ (x : Dart). In x (loop (circles s) b)) r.home (loop_reach (circles s) law b m r.back))) (sym z)

    pub rooting_more : (e c : Dart) → true ≡ dart_le h d → e ≡ next_of s d → next_of s c ≡ b → is_dart s c ≡ true → Rooting s h e c
    rooting_more e c z p q m = record {
      made = suc r.made;
      some = omega arith;
      at = one_on r.made d e r.at p;
      before = up_to_one (λ j. dart_le h (times (next_of s) j h) ≡ true) r.made r.before (ap (dart_le h) (sym r.at) ∙ sym z);
      dart_back = m;
      back = suc r.back;
      home = ap (times (next_of s) r.back) q ∙ r.home;
    }

    pub rooting_less : (e : Dart) → e ≡ next_of s d → false ≡ same_dart d h → left (circles s) h e < left (circles s) h d
    rooting_less e p z =
        subst (λ (x : Dart). left (circles s) h x < left (circles s) h d) (sym p)
        (left_less (circles s) law h d mine (on_loop r.made d r.at) (sym z))
