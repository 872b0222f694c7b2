-- How pixels lie beside each other, and the roads between them.
--   facing_twice: facing undoes itself
--   Beside: the pixel beyond a road lies on the sheet, and the same road leads back from it
--   beside: that holds of each road that is not on the rim
--   passed: a road with a crossing that does not fail is not on the rim, and both pixels count it alike
--   free_back: seen from the other side it does not fail either
use Rattle.std.proofs.Common.{◌≡◌, ℕ, suc, ◌+◌, ◌-◌, ◌*◌, ◌/◌, ◌%◌, ◌<◌, ◌≤◌, false, not, eqb, ltb, ◌≢◌, sym, refl, ap, ◌∙◌, subst, inl, inr, mul-le-mul_right, mul_comm, add-mul, arith}
use Rattle.std.proofs.lemmas.Nat.{div-add-mod', mod-mul-add, div_below, mod_below}
use Rattle.std.proofs.lemmas.Bool.{true≢false, eqb-true, eqb-false, eq-eqb, ne_eqb, lt-ltb, le-ltb, ltb-true, ltb-false, not-false, cases_Bool}
use Rattle.symbols.specs.declared.roads.Road.{Road}
use Rattle.symbols.specs.declared.roads.Road.TheVariants.{West, North, East, South}
use Rattle.model.specs.Sheets.{Sheet, Sheetly, pixels, on_rim, beyond, facing, count_at, fails}

pub facing_twice : (q : Road) → facing (facing q) ≡ q
facing_twice West = refl
facing_twice North = refl
facing_twice East = refl
facing_twice South = refl

mod_up : (p w : ℕ) → p % w + 1 < w → (p + 1) % w ≡ p % w + 1
mod_up p w h =
    let e : p / w * w + p % w ≡ p = div-add-mod' p w in
    let f : p + 1 ≡ p / w * w + (p % w + 1) = omega arith in
    ap (λ (x : ℕ). x % w) f ∙ mod-mul-add (p / w) w (p % w + 1) h

mod_down : (p w : ℕ) → 0 < w → 0 < p % w → (p - 1) % w ≡ p % w - 1
mod_down p w l h =
    let e : p / w * w + p % w ≡ p = div-add-mod' p w in
    let m : p % w < w = mod_below p w l in
    let f : p - 1 ≡ p / w * w + (p % w - 1) = omega arith in
    ap (λ (x : ℕ). x % w) f ∙ mod-mul-add (p / w) w (p % w - 1) (omega arith)

-- one to the east in the same row
east_in : (p w h : ℕ) → 0 < w → p < w * h → p % w + 1 < w → p + 1 < w * h
east_in p w h l b c =
    let e : p / w * w + p % w ≡ p = div-add-mod' p w in
    let n : p < h * w = subst (λ (x : ℕ). p < x) (mul_comm w h) b in
    let d : p / w < h = div_below p w h l n in
    let m : suc (p / w) * w ≤ h * w = mul-le-mul_right w d in
    let a : suc (p / w) * w ≡ p / w * w + w = add_one_mul (p / w) w in
    subst (λ (x : ℕ). p + 1 < x) (mul_comm h w) (omega arith)
  where
    add_one_mul : (x y : ℕ) → suc x * y ≡ x * y + y
    add_one_mul x y = omega (arith, add-mul x 1 y)

pub record Beside (s : Sheet) (p : ℕ) (q : Road) : Type 0 where
  pub inside : beyond s p q < pixels s
  pub clear : on_rim s (beyond s p q) (facing q) ≡ false
  pub back : beyond s (beyond s p q) (facing q) ≡ p
  pub moved : beyond s p q ≢ p

pub beside : (s : Sheet) → Sheetly s → (p : ℕ) (q : Road) → p < pixels s → on_rim s p q ≡ false → Beside s p q
beside s k p West h e =
    let n : p % s.width ≢ 0 = eqb-false (p % s.width) 0 e in
    let d : p / s.width * s.width + p % s.width ≡ p = div-add-mod' p s.width in
    let m : p % s.width < s.width = mod_below p s.width k.some_width in
    let v : (p - 1) % s.width ≡ p % s.width - 1 = mod_down p s.width k.some_width (omega arith) in
    record {
      inside = omega arith;
      clear = ne_eqb ((p - 1) % s.width + 1) s.width (omega arith);
      back = omega arith;
      moved = omega arith;
    }
beside s k p North h e =
    let l : s.width ≤ p = ltb-false p s.width e in
    let w : 1 ≤ s.width = k.some_width in
    record {
      inside = omega arith;
      clear = ap not (lt-ltb (p - s.width + s.width) (pixels s) (omega arith));
      back = omega arith;
      moved = omega arith;
    }
beside s k p East h e =
    let n : p % s.width + 1 ≢ s.width = eqb-false (p % s.width + 1) s.width e in
    let m : p % s.width < s.width = mod_below p s.width k.some_width in
    let l : p % s.width + 1 < s.width = omega arith in
    let v : (p + 1) % s.width ≡ p % s.width + 1 = mod_up p s.width l in
    record {
      inside = east_in p s.width s.height k.some_width h l;
      clear = ne_eqb ((p + 1) % s.width) 0 (omega arith);
      back = omega arith;
      moved = omega arith;
    }
beside s k p South h e =
    let l : p + s.width < pixels s = ltb-true (p + s.width) (pixels s) (not-false (ltb (p + s.width) (pixels s)) e) in
    let w : 1 ≤ s.width = k.some_width in
    record {
      inside = l;
      clear = le-ltb (p + s.width) s.width (omega arith);
      back = omega arith;
      moved = omega arith;
    }

pub passed : (s : Sheet) (p : ℕ) (q : Road) → fails s p q ≡ false → 0 < count_at s p q → (on_rim s p q ≡ false) × (count_at s p q ≡ count_at s (beyond s p q) (facing q))
passed s p q e h =
    elim (cases_Bool (on_rim s p q)) [
      | inl t ↦
          (let f : ltb 0 (count_at s p q) ≡ false = rw t at e in
          absurd (true≢false (sym (lt-ltb 0 (count_at s p q) h) ∙ f)))
      | inr r ↦
          (let f : not (eqb (count_at s p q) (count_at s (beyond s p q) (facing q))) ≡ false = rw r at e in
          (r, eqb-true (count_at s p q) (count_at s (beyond s p q) (facing q)) (not-false (eqb (count_at s p q) (count_at s (beyond s p q) (facing q))) f)))
    ]

pub free_back : (s : Sheet) (p : ℕ) (q : Road) → Beside s p q → count_at s p q ≡ count_at s (beyond s p q) (facing q) → fails s (beyond s p q) (facing q) ≡ false
free_back s p q b e =
    let c : count_at s (beyond s (beyond s p q) (facing q)) (facing (facing q)) ≡ count_at s p q =
    ap (λ (x : ℕ). count_at s x (facing (facing q))) b.back ∙ ap (λ (x : Road). count_at s p x) (facing_twice q) in
    rw b.clear (ap not (eq-eqb (count_at s (beyond s p q) (facing q)) (count_at s (beyond s (beyond s p q) (facing q)) (facing (facing q))) (sym (c ∙ e))))
