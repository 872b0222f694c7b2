-- Runs and the places that they cover come back from each other.
--   sound_parts, sound_from: the test of runs and the statement say the same
--   weaken: runs that begin at a number or later begin at a smaller one or later
--   covered_low: no place before the runs lies in one
--   covers_same: runs that cover the same places from p on have the same marks there
--   within_here, within_one, within_more: the places of a run that begins at p
--   extend_sound, extend_here, extend_past: what extending does to runs and to the places in them
--   runs_sound: the runs of marks are sorted, do not touch and stay within the marks
--   covers_runs: they cover the places that are marked
--   extend_apart: a run that begins beyond p + 1 is not joined to p
--   runs_covers: runs that are sorted and do not touch are those of the marks that they cover
--   extend_length, runs_length, covers_length: how many runs there are at most, and how many marks
--   get_or_covers: a mark, as runs cover its place
--   member_sound, member_covered, member_apart: a run is within bounds, its places are covered, the ones beside it are not
--   covered_high: no place behind the end lies in a run
--   marked_covered: a place is marked exactly when it lies in a run
--   Stretch: a run has a place and lies within the marks, its places are marked, and the ones beside it are not
--   runs_stretch: each run of marks is such a stretch
use Rattle.std.proofs.Common.{◌≡◌, ℕ, zero, suc, ◌+◌, ◌<◌, ◌≤◌, Bool, true, false, cond, ◌&&◌, ◌||◌, eqb, ltb, leb, ◌⊎◌, List, [], ◌∷◌, length, get_or, sym, refl, ap, ◌∙◌, subst, inl, inr, arith}
use mathlib.Core.List.Memᴰ
use mathlib.Core.List.{Memᴰ}
use Rattle.std.specs.List.{AllByRecursion}
use Rattle.std.proofs.lemmas.List.{get_or_past}
use Rattle.std.proofs.lemmas.Bool.{eqb-true, eqb-false, eq-eqb, ne_eqb, lt-ltb, le-ltb, leb-true, le-leb, lt-leb, and_parts, and_from, and_left, and_right, or_from, or_left, or_right, cases_eq, cases_lt}
use Rattle.codec.specs.Runs.{Run, run, extend, runs, within, covered, covers, sound, Sound}

pub sound_parts : (low end : ℕ) (rs : List Run) → sound low end rs ≡ true → Sound low end rs
sound_parts low end [] e = tt
sound_parts low end (r ∷ rs) e =
    let p = and_parts (leb low r.offset) (leb 1 r.count && (leb (r.offset + r.count) end && sound (suc (r.offset + r.count)) end rs)) e in
    let q = and_parts (leb 1 r.count) (leb (r.offset + r.count) end && sound (suc (r.offset + r.count)) end rs) p.1 in
    let s = and_parts (leb (r.offset + r.count) end) (sound (suc (r.offset + r.count)) end rs) q.1 in
    (leb-true low r.offset p.0, leb-true 1 r.count q.0, leb-true (r.offset + r.count) end s.0, sound_parts (suc (r.offset + r.count)) end rs s.1)

pub sound_from : (low end : ℕ) (rs : List Run) → Sound low end rs → sound low end rs ≡ true
sound_from low end [] h = refl
sound_from low end (r ∷ rs) h =
    let i = sound_from (suc (r.offset + r.count)) end rs h.3 in
    rw (le-leb low r.offset h.0, le-leb 1 r.count h.1, le-leb (r.offset + r.count) end h.2, i)

pub weaken : (low more end : ℕ) (rs : List Run) → low ≤ more → Sound more end rs → Sound low end rs
weaken low more end [] l h = tt
weaken low more end (r ∷ rs) l h = let a = h.0 in (omega arith, h.1, h.2, h.3)

pub covered_low : (rs : List Run) (k low end : ℕ) → Sound low end rs → k < low → covered rs k ≡ false
covered_low [] k low end h l = refl
covered_low (r ∷ rs) k low end h l =
    let a = h.0 in
    let i = covered_low rs k (suc (r.offset + r.count)) end h.3 (omega arith) in
    or_from (within r k) (covered rs k) (and_left (leb r.offset k) (ltb k (r.offset + r.count)) (lt-leb r.offset k (omega arith))) i

pub covers_same : (rs ss : List Run) (p n : ℕ) → ((k : ℕ) → p ≤ k → covered rs k ≡ covered ss k) → covers rs p n ≡ covers ss p n
covers_same rs ss p zero h = refl
covers_same rs ss p (suc n) h =
    let a = h p (omega arith) in
    let i = covers_same rs ss (suc p) n (λ k l. h k (omega arith)) in
    cc

-- a run that begins at p covers p, and from p + 1 on it covers what the run one shorter there covers
pub within_here : (p c : ℕ) → within (run p (suc c)) p ≡ true
within_here p c = and_from (leb p p) (ltb p (p + suc c)) (le-leb p p (omega arith)) (lt-ltb p (p + suc c) (omega arith))

pub within_one : (p k : ℕ) → suc p ≤ k → within (run p 1) k ≡ false
within_one p k l = and_right (leb p k) (ltb k (p + 1)) (le-ltb k (p + 1) (omega arith))

pub within_more : (p c k : ℕ) → suc p ≤ k → within (run p (suc c)) k ≡ within (run (suc p) c) k
within_more p c k l =
    let n : p + suc c ≡ suc p + c = omega arith in
    rw (le-leb p k (omega arith), le-leb (suc p) k l, n)

pub extend_sound : (p end : ℕ) (rs : List Run) → suc p ≤ end → Sound (suc p) end rs → Sound p end (extend p rs)
extend_sound p end [] l h = (omega arith, omega arith, omega arith, tt)
extend_sound p end (r ∷ rs) l h = by (eqb r.offset (suc p)) refl
  where
    by : (t : Bool) → eqb r.offset (suc p) ≡ t → Sound p end (cond t (run p (suc r.count) ∷ rs) (run p 1 ∷ r ∷ rs))
    by true q =
        let e : r.offset ≡ suc p = eqb-true r.offset (suc p) q in
        let c = h.2 in
        (omega arith, omega arith, omega arith, weaken (suc (p + suc r.count)) (suc (r.offset + r.count)) end rs (omega arith) h.3)
    by false q =
        let e : r.offset ≡ suc p → ⊥ = eqb-false r.offset (suc p) q in
        let a = h.0 in
        (omega arith, omega arith, omega arith, (omega arith, h.1, h.2, h.3))

pub extend_here : (p : ℕ) (rs : List Run) → covered (extend p rs) p ≡ true
extend_here p [] = or_left (within (run p 1) p) false (within_here p 0)
extend_here p (r ∷ rs) = by (eqb r.offset (suc p))
  where
    by : (t : Bool) → covered (cond t (run p (suc r.count) ∷ rs) (run p 1 ∷ r ∷ rs)) p ≡ true
    by true = or_left (within (run p (suc r.count)) p) (covered rs p) (within_here p r.count)
    by false = or_left (within (run p 1) p) (covered (r ∷ rs) p) (within_here p 0)

pub extend_past : (p : ℕ) (rs : List Run) (k : ℕ) → suc p ≤ k → covered (extend p rs) k ≡ covered rs k
extend_past p [] k l = rw (within_one p k l)
extend_past p (r ∷ rs) k l = by (eqb r.offset (suc p)) refl
  where
    by : (t : Bool) → eqb r.offset (suc p) ≡ t → covered (cond t (run p (suc r.count) ∷ rs) (run p 1 ∷ r ∷ rs)) k ≡ covered (r ∷ rs) k
    by true q = ap (λ b. b || covered rs k) (within_more p r.count k l ∙ ap (λ f. within (run f r.count) k) (sym (eqb-true r.offset (suc p) q)))
    by false q = ap (λ b. b || covered (r ∷ rs) k) (within_one p k l)

pub runs_sound : (ms : List Bool) (p end : ℕ) → p + length ms ≤ end → Sound p end (runs p ms)
runs_sound [] p end l = tt
runs_sound (false ∷ ms) p end l = weaken p (suc p) end (runs (suc p) ms) (omega arith) (runs_sound ms (suc p) end (omega arith))
runs_sound (true ∷ ms) p end l = extend_sound p end (runs (suc p) ms) (omega arith) (runs_sound ms (suc p) end (omega arith))

pub covers_runs : (ms : List Bool) (p : ℕ) → covers (runs p ms) p (length ms) ≡ ms
covers_runs [] p = refl
covers_runs (false ∷ ms) p =
    let a = covered_low (runs (suc p) ms) p (suc p) (suc p + length ms) (runs_sound ms (suc p) (suc p + length ms) (omega arith)) (omega arith) in
    let i = covers_runs ms (suc p) in
    cc
covers_runs (true ∷ ms) p =
    let a = extend_here p (runs (suc p) ms) in
    let b = covers_same (extend p (runs (suc p) ms)) (runs (suc p) ms) (suc p) (length ms) (extend_past p (runs (suc p) ms)) in
    let i = covers_runs ms (suc p) in
    cc

pub extend_apart : (p end : ℕ) (rs : List Run) → Sound (suc (suc p)) end rs → extend p rs ≡ run p 1 ∷ rs
extend_apart p end [] h = refl
extend_apart p end (r ∷ rs) h = let a = h.0 in rw (ne_eqb r.offset (suc p) (λ e. omega arith))

pub runs_covers : (n p end : ℕ) (rs : List Run) → end ≡ p + n → Sound p end rs → runs p (covers rs p n) ≡ rs
runs_covers zero p end [] e h = refl
runs_covers zero p end (r ∷ rs) e h = absurd (omega arith)
runs_covers (suc n) p end [] e h = runs_covers n (suc p) end [] (omega arith) tt
runs_covers (suc n) p end (r ∷ rs) e h = by (λ ss s. runs_covers n (suc p) end ss (omega arith) s) (cases_eq r.offset p)
  where
    here : ((ss : List Run) → Sound (suc p) end ss → runs (suc p) (covers ss (suc p) n) ≡ ss) → (c : ℕ) → Sound p end (run p c ∷ rs) → runs p (covers (run p c ∷ rs) p (suc n)) ≡ run p c ∷ rs
    here ih zero s = absurd (omega arith)
    here ih (suc zero) s =
        let w : suc (suc p) ≤ suc (p + 1) = omega arith in
        let t : Sound (suc (suc p)) end rs = weaken (suc (suc p)) (suc (p + 1)) end rs w s.3 in
        let a : covered (run p 1 ∷ rs) p ≡ true = or_left (within (run p 1) p) (covered rs p) (within_here p 0) in
        let b = covers_same (run p 1 ∷ rs) rs (suc p) n (λ k l. ap (λ x. x || covered rs k) (within_one p k l)) in
        let i = ih rs (weaken (suc p) (suc (suc p)) end rs (omega arith) t) in
        ap (λ x. runs p (x ∷ covers (run p 1 ∷ rs) (suc p) n)) a ∙ ap (λ l. extend p (runs (suc p) l)) b ∙ ap (extend p) i ∙ extend_apart p end rs t
    here ih (suc (suc c)) s =
        let t : Sound (suc p) end (run (suc p) (suc c) ∷ rs) = let u = s.2 in (omega arith, omega arith, omega arith, weaken (suc (suc p + suc c)) (suc (p + suc (suc c))) end rs (omega arith) s.3) in
        let a : covered (run p (suc (suc c)) ∷ rs) p ≡ true = or_left (within (run p (suc (suc c))) p) (covered rs p) (within_here p (suc c)) in
        let b = covers_same (run p (suc (suc c)) ∷ rs) (run (suc p) (suc c) ∷ rs) (suc p) n (λ k l. ap (λ x. x || covered rs k) (within_more p (suc c) k l)) in
        let i = ih (run (suc p) (suc c) ∷ rs) t in
        ap (λ x. runs p (x ∷ covers (run p (suc (suc c)) ∷ rs) (suc p) n)) a ∙ ap (λ l. extend p (runs (suc p) l)) b ∙ ap (extend p) i
        ∙ ap (λ x. cond x (run p (suc (suc c)) ∷ rs) (run p 1 ∷ run (suc p) (suc c) ∷ rs)) (eq-eqb (suc p) (suc p) refl)

    by : ((ss : List Run) → Sound (suc p) end ss → runs (suc p) (covers ss (suc p) n) ≡ ss) → (r.offset ≡ p) ⊎ (r.offset ≡ p → ⊥) → runs p (covers (r ∷ rs) p (suc n)) ≡ r ∷ rs
    by ih (inl q) =
        subst (λ f. runs p (covers (run f r.count ∷ rs) p (suc n)) ≡ run f r.count ∷ rs) (sym q)
        (here ih r.count (subst (λ f. Sound p end (run f r.count ∷ rs)) q h))
    by ih (inr q) =
        let a = h.0 in
        let s : Sound (suc p) end (r ∷ rs) = (omega arith, h.1, h.2, h.3) in
        ap (λ x. runs p (x ∷ covers (r ∷ rs) (suc p) n)) (covered_low (r ∷ rs) p (suc p) end s (omega arith)) ∙ ih (r ∷ rs) s

pub extend_length : (p : ℕ) (rs : List Run) → length (extend p rs) ≤ suc (length rs)
extend_length p [] = omega arith
extend_length p (r ∷ rs) = by (eqb r.offset (suc p))
  where
    by : (t : Bool) → length (cond t (run p (suc r.count) ∷ rs) (run p 1 ∷ r ∷ rs)) ≤ suc (suc (length rs))
    by true = omega arith
    by false = omega arith

pub runs_length : (ms : List Bool) (p : ℕ) → length (runs p ms) ≤ length ms
runs_length [] p = omega arith
runs_length (false ∷ ms) p = let i = runs_length ms (suc p) in omega arith
runs_length (true ∷ ms) p = let i = runs_length ms (suc p) in let j = extend_length p (runs (suc p) ms) in omega arith

pub covers_length : (rs : List Run) (p n : ℕ) → length (covers rs p n) ≡ n
covers_length rs p zero = refl
covers_length rs p (suc n) = ap suc (covers_length rs (suc p) n)

pub get_or_covers : (rs : List Run) (p n k : ℕ) → k < n → get_or (covers rs p n) k false ≡ covered rs (p + k)
get_or_covers rs p zero k l = absurd (omega arith)
get_or_covers rs p (suc n) zero l = ap (covered rs) (omega arith)
get_or_covers rs p (suc n) (suc k) l = get_or_covers rs (suc p) n k (omega arith) ∙ ap (covered rs) (omega arith)

pub member_sound : (rs : List Run) (low end : ℕ) (r : Run) → Sound low end rs → Memᴰ r rs → (low ≤ r.offset) × (1 ≤ r.count) × (r.offset + r.count ≤ end)
member_sound [] low end r h m = absurd (Memᴰ.not-nil m)
member_sound (x ∷ rs) low end r h m = by (λ k. member_sound rs (suc (x.offset + x.count)) end r h.3 k) (Memᴰ.cases_cons m)
  where
    by : (Memᴰ r rs → (suc (x.offset + x.count) ≤ r.offset) × (1 ≤ r.count) × (r.offset + r.count ≤ end)) → (r ≡ x) ⊎ Memᴰ r rs → (low ≤ r.offset) × (1 ≤ r.count) × (r.offset + r.count ≤ end)
    by ih (inl e) = subst (λ y. (low ≤ y.offset) × (1 ≤ y.count) × (y.offset + y.count ≤ end)) (sym e) (h.0, h.1, h.2)
    by ih (inr k) = let i = ih k in let a = h.0 in let b = i.0 in (omega arith, i.1, i.2)

pub member_covered : (rs : List Run) (r : Run) (k : ℕ) → Memᴰ r rs → r.offset ≤ k → k < r.offset + r.count → covered rs k ≡ true
member_covered [] r k m a b = absurd (Memᴰ.not-nil m)
member_covered (x ∷ rs) r k m a b = by (λ j. member_covered rs r k j a b) (Memᴰ.cases_cons m)
  where
    by : (Memᴰ r rs → covered rs k ≡ true) → (r ≡ x) ⊎ Memᴰ r rs → covered (x ∷ rs) k ≡ true
    by ih (inl e) = or_left (within x k) (covered rs k) (subst (λ y. within y k ≡ true) e (and_from (leb r.offset k) (ltb k (r.offset + r.count)) (le-leb r.offset k a) (lt-ltb k (r.offset + r.count) b)))
    by ih (inr j) = or_right (within x k) (covered rs k) (ih j)

pub member_apart : (rs : List Run) (low end : ℕ) (r : Run) (k : ℕ) → Sound low end rs → Memᴰ r rs → (suc k ≡ r.offset) ⊎ (k ≡ r.offset + r.count) → covered rs k ≡ false
member_apart [] low end r k h m at = absurd (Memᴰ.not-nil m)
member_apart (x ∷ rs) low end r k h m at = by (λ j. member_apart rs (suc (x.offset + x.count)) end r k h.3 j at) (Memᴰ.cases_cons m)
  where
    beside : (y : Run) → (suc k ≡ y.offset) ⊎ (k ≡ y.offset + y.count) → within y k ≡ false
    beside y (inl e) = and_left (leb y.offset k) (ltb k (y.offset + y.count)) (lt-leb y.offset k (omega arith))
    beside y (inr e) = and_right (leb y.offset k) (ltb k (y.offset + y.count)) (le-ltb k (y.offset + y.count) (omega arith))

    front : (suc k ≡ x.offset) ⊎ (k ≡ x.offset + x.count) → covered (x ∷ rs) k ≡ false
    front at = or_from (within x k) (covered rs k) (beside x at) (covered_low rs k (suc (x.offset + x.count)) end h.3 (omega arith))

    behind : (suc k ≡ r.offset) ⊎ (k ≡ r.offset + r.count) → suc (x.offset + x.count) ≤ r.offset → within x k ≡ false
    behind (inl e) l = and_right (leb x.offset k) (ltb k (x.offset + x.count)) (le-ltb k (x.offset + x.count) (omega arith))
    behind (inr e) l = and_right (leb x.offset k) (ltb k (x.offset + x.count)) (le-ltb k (x.offset + x.count) (omega arith))

    by : (Memᴰ r rs → covered rs k ≡ false) → (r ≡ x) ⊎ Memᴰ r rs → covered (x ∷ rs) k ≡ false
    by ih (inl e) = front (subst (λ y. (suc k ≡ y.offset) ⊎ (k ≡ y.offset + y.count)) e at)
    by ih (inr j) = or_from (within x k) (covered rs k) (behind at (member_sound rs (suc (x.offset + x.count)) end r h.3 j).0) (ih j)

pub covered_high : (rs : List Run) (k low end : ℕ) → Sound low end rs → end ≤ k → covered rs k ≡ false
covered_high [] k low end h l = refl
covered_high (r ∷ rs) k low end h l =
    let a = h.2 in
    let i = covered_high rs k (suc (r.offset + r.count)) end h.3 l in
    or_from (within r k) (covered rs k) (and_right (leb r.offset k) (ltb k (r.offset + r.count)) (le-ltb k (r.offset + r.count) (omega arith))) i

pub marked_covered : (ms : List Bool) (k : ℕ) → get_or ms k false ≡ covered (runs 0 ms) k
marked_covered ms k = by (cases_lt k (length ms))
  where
    by : (k < length ms) ⊎ (length ms ≤ k) → get_or ms k false ≡ covered (runs 0 ms) k
    by (inl l) = ap (λ l. get_or l k false) (sym (covers_runs ms 0)) ∙ get_or_covers (runs 0 ms) 0 (length ms) k l ∙ ap (covered (runs 0 ms)) (omega arith)
    by (inr l) = get_or_past ms k false l ∙ sym (covered_high (runs 0 ms) k 0 (length ms) (runs_sound ms 0 (length ms) (omega arith)) l)

pub record Stretch (ms : List Bool) (r : Run) : Type 0 where
  pub some : 1 ≤ r.count
  pub inside : r.offset + r.count ≤ length ms
  pub full : (k : ℕ) → r.offset ≤ k → k < r.offset + r.count → get_or ms k false ≡ true
  pub before : (k : ℕ) → suc k ≡ r.offset → get_or ms k false ≡ false
  pub behind : get_or ms (r.offset + r.count) false ≡ false

pub runs_stretch : (ms : List Bool) → AllByRecursion (Stretch ms) (runs 0 ms)
runs_stretch ms = each (runs 0 ms) (λ r m. m)
  where
    so : Sound 0 (length ms) (runs 0 ms)
    so = runs_sound ms 0 (length ms) (omega arith)

    stretch : (r : Run) → Memᴰ r (runs 0 ms) → Stretch ms r
    stretch r m = record {
      some = (member_sound (runs 0 ms) 0 (length ms) r so m).1;
      inside = (member_sound (runs 0 ms) 0 (length ms) r so m).2;
      full = λ k a b. marked_covered ms k ∙ member_covered (runs 0 ms) r k m a b;
      before = λ k e. marked_covered ms k ∙ member_apart (runs 0 ms) 0 (length ms) r k so m (inl e);
      behind = marked_covered ms (r.offset + r.count) ∙ member_apart (runs 0 ms) 0 (length ms) r (r.offset + r.count) so m (inr refl);
    }

    each : (rs : List Run) → ((r : Run) → Memᴰ r rs → Memᴰ r (runs 0 ms)) → AllByRecursion (Stretch ms) rs
    each [] f = tt
    each (r ∷ rs) f = (stretch r (f r (Memᴰ.head refl)), each rs (λ q m. f q (Memᴰ.tail m)))
