-- What a word draws is tidy, and the word comes back from it.
--   Parts: what lawful says, part by part
--   Answered: what reading symbols has answered
--   comes_back, draws_tidy: a word of four corners is the word of what it draws, and that is tidy
use Rattle.std.proofs.Common.{◌≡◌, ℕ, suc, ◌+◌, ◌-◌, ◌<◌, ◌≤◌, Bool, true, false, ◌||◌, eqb, List, [], ◌∷◌, length, is_some, Some, None, Option, sym, refl, ap, ◌∙◌, subst, inl, inr, arith}
use Rattle.std.specs.List.{AllByRecursion}
use Rattle.std.proofs.lemmas.Bool.{true≢false, false≢true, or_left, or_parts, and_from, and_parts, ne_eqb, eq-eqb, eqb-true, eqb-false, leb-true, le-leb}
use Rattle.symbols.specs.declared.symbols.Symbol.{Symbol}
use Rattle.symbols.specs.declared.symbols.Symbol.TheVariants.{Corner, DeadEnd, SplitOpen, SplitClose, JunctionOpen, Branch, JunctionClose}
use Rattle.symbols.specs.declared.symbols.Mark.{Mark}
use Rattle.symbols.specs.declared.symbols.Mark.TheVariants.{Split, Junction}
use Rattle.symbols.specs.declared.symbols.Crossing.{Crossing}
use Rattle.rules.specs.Words.{put, reads, drawing_of, or_empty, drawn, corners, ends, shaped, Lawful}
use Rattle.rules.specs.Tables.{mentions, symbol_at, writes, word_of}
use Rattle.rules.proofs.Marks.{mark_at, holds, Stack, stack_up, stack_fresh, or_skip, or_twice, Tidy, Agrees}

-- the head's road is at least r
abbrev pub Low : ℕ → List Crossing → Type 0
Low r [] = Unit {0}
Low r (e ∷ es) = r ≤ e.road

record Answered (r k : ℕ) (st : List Mark) (w : List Symbol) (es : List Crossing) : Type 0 where
  same : (g : ℕ) → g < k → mentions g es ≡ holds g st
  low : Low r es
  back : r + corners w ≡ 4 → writes r k es ≡ w
  agrees : Agrees st es
  tidy : (b : Bool) → r + corners w ≡ 4 → ends b w ≡ true → Tidy r k es

abbrev Answer : ℕ → ℕ → List Mark → List Symbol → Option (List Crossing) → Type 0
Answer r k st w None = Unit {0}
Answer r k st w (Some es) = Answered r k st w es

-- one crossing more in front of what is written
pub put_symbol : (r k g : ℕ) (v a b : Bool) (es : List Crossing) (w : List Symbol) → eqb g k ≡ a → mentions g es ≡ b → writes r (suc k) es ≡ w → writes r k (record { road = r; group = g; vertex = v } ∷ es) ≡ (symbol_at v a b ∷ w)
put_symbol r k g v a b es w p q h =
    let z : r - r ≡ 0 = omega arith in
    rw (z, p, q, h)

-- one corner more
pub put_corner : (r k : ℕ) (es : List Crossing) → r < 4 → Low (suc r) es → writes r k es ≡ (Corner ∷ writes (suc r) k es)
put_corner r k [] h l =
    let z : 4 - r ≡ suc (4 - suc r) = omega arith in
    rw z
put_corner r k (e ∷ es) h l =
    let z : e.road - r ≡ suc (e.road - suc r) = omega arith in
    rw z

low_down : (r : ℕ) (es : List Crossing) → Low (suc r) es → Low r es
low_down r [] l = tt
low_down r (e ∷ es) l = omega arith

-- a word that ends in a corner has one
some_corner : (w : List Symbol) → ends false w ≡ true → 1 ≤ corners w
some_corner [] h = absurd (false≢true h)
some_corner (Corner ∷ w) h = omega arith
some_corner (DeadEnd ∷ w) h = some_corner w h
some_corner (SplitOpen ∷ w) h = some_corner w h
some_corner (SplitClose ∷ w) h = some_corner w h
some_corner (JunctionOpen ∷ w) h = some_corner w h
some_corner (Branch ∷ w) h = some_corner w h
some_corner (JunctionClose ∷ w) h = some_corner w h

none_agrees : (g : ℕ) (v : Bool) (es : List Crossing) → mentions g es ≡ false → AllByRecursion (λ (x : Crossing). x.group ≡ g → x.vertex ≡ v) es
none_agrees g v [] h = tt
none_agrees g v (e ∷ es) h =
    let p = or_parts (eqb g e.group) (mentions g es) h in
    (λ q. absurd (eqb-false g e.group p.0 (sym q)), none_agrees g v es p.1)

agrees_cons : (st : List Mark) (k : ℕ) (e : Crossing) (es : List Crossing) → Stack k st → k ≤ e.group → Agrees st es → Agrees st (e ∷ es)
agrees_cons [] k e es s h a = tt
agrees_cons (m ∷ st) k e es s h a =
    ((λ q. absurd (omega arith), a.0), agrees_cons st (mark_at m) e es s.1 (omega arith) a.1)

tidy_down : (r k : ℕ) (es : List Crossing) → Tidy (suc r) k es → Tidy r k es
tidy_down r k [] t = tt
tidy_down r k (e ∷ es) t =
    let f = t.0 in
    (record { low = omega (arith, f.low); three = f.three; named = f.named; nested = f.nested; agree = f.agree; opened = f.opened; closed = f.closed }, t.1)

corner_step : (r k : ℕ) (st : List Mark) (w : List Symbol) (o : Option (List Crossing)) → Answer (suc r) k st w o → Answer r k st (Corner ∷ w) o
corner_step r k st w None a = tt
corner_step r k st w (Some es) a = record {
  same = a.same;
  low = low_down r es a.low;
  back = λ h. put_corner r k es (omega arith) a.low ∙ ap (λ x. Corner ∷ x) (a.back (omega arith));
  agrees = a.agrees;
  tidy = λ b h e. tidy_down r k es (a.tidy true (omega arith) e);
}

dead_step : (r k : ℕ) (st : List Mark) (w : List Symbol) (o : Option (List Crossing)) → Stack k st → Answer r (suc k) st w o → Answer r k st (DeadEnd ∷ w) (put (record { road = r; group = k; vertex = true }) o)
dead_step r k st w None s a = tt
dead_step r k st w (Some es) s a = record {
  same = λ g h. or_skip _ _ _ (ne_eqb g k (omega arith)) (a.same g (omega arith));
  low = omega arith;
  back = λ h. put_symbol r k k true true false es w (eq-eqb k k refl) (a.same k (omega arith) ∙ stack_fresh st k k (omega arith) s) (a.back h);
  agrees = agrees_cons st k _ es s (omega arith) a.agrees;
  tidy = λ b h e. (
    record {
      low = omega arith;
      three = omega (arith, some_corner w e);
      named = inl refl;
      nested = λ g x y. absurd (omega arith);
      agree = none_agrees k true es (a.same k (omega arith) ∙ stack_fresh st k k (omega arith) s);
      opened = λ v p. absurd (true≢false v);
      closed = λ v p. absurd (true≢false v);
    },
    a.tidy false h e,
  );
}

split_step : (r k : ℕ) (st : List Mark) (w : List Symbol) (o : Option (List Crossing)) → Stack k st → Answer r (suc k) (Split k ∷ st) w o → Answer r k st (SplitOpen ∷ w) (put (record { road = r; group = k; vertex = false }) o)
split_step r k st w None s a = tt
split_step r k st w (Some es) s a = record {
  same = λ g h. let n : eqb g k ≡ false = ne_eqb g k (omega arith) in or_skip _ _ _ n (a.same g (omega arith) ∙ or_skip _ _ _ n refl);
  low = omega arith;
  back = λ h. put_symbol r k k false true true es w (eq-eqb k k refl) (a.same k (omega arith) ∙ or_left _ _ (eq-eqb k k refl)) (a.back h);
  agrees = agrees_cons st k _ es s (omega arith) a.agrees.1;
  tidy = λ b h e. (
    record {
      low = omega arith;
      three = omega (arith, some_corner w e);
      named = inl refl;
      nested = λ g x y. absurd (omega arith);
      agree = a.agrees.0;
      opened = λ v p. a.same k (omega arith) ∙ or_left _ _ (eq-eqb k k refl);
      closed = λ v p. absurd (omega arith);
    },
    a.tidy false h e,
  );
}

open_step : (r k : ℕ) (st : List Mark) (w : List Symbol) (o : Option (List Crossing)) → Stack k st → Answer r (suc k) (Junction k ∷ st) w o → Answer r k st (JunctionOpen ∷ w) (put (record { road = r; group = k; vertex = true }) o)
open_step r k st w None s a = tt
open_step r k st w (Some es) s a = record {
  same = λ g h. let n : eqb g k ≡ false = ne_eqb g k (omega arith) in or_skip _ _ _ n (a.same g (omega arith) ∙ or_skip _ _ _ n refl);
  low = omega arith;
  back = λ h. put_symbol r k k true true true es w (eq-eqb k k refl) (a.same k (omega arith) ∙ or_left _ _ (eq-eqb k k refl)) (a.back h);
  agrees = agrees_cons st k _ es s (omega arith) a.agrees.1;
  tidy = λ b h e. (
    record {
      low = omega arith;
      three = omega (arith, some_corner w e);
      named = inl refl;
      nested = λ g x y. absurd (omega arith);
      agree = a.agrees.0;
      opened = λ v p. a.same k (omega arith) ∙ or_left _ _ (eq-eqb k k refl);
      closed = λ v p. absurd (omega arith);
    },
    a.tidy false h e,
  );
}

unsplit_step : (r k g : ℕ) (st : List Mark) (w : List Symbol) (o : Option (List Crossing)) → Stack k (Split g ∷ st) → Answer r (suc k) st w o → Answer r k (Split g ∷ st) (SplitClose ∷ w) (put (record { road = r; group = g; vertex = false }) o)
unsplit_step r k g st w None s a = tt
unsplit_step r k g st w (Some es) s a = record {
  same = λ j h. ap (λ x. eqb j g || x) (a.same j (omega arith));
  low = omega arith;
  back = λ h. put_symbol r k g false false false es w (ne_eqb g k (omega arith)) (a.same g (omega arith) ∙ stack_fresh st g g (omega arith) s.1) (a.back h);
  agrees = (
    (λ q. refl, none_agrees g false es (a.same g (omega arith) ∙ stack_fresh st g g (omega arith) s.1)),
    agrees_cons st g _ es s.1 (omega arith) a.agrees,
  );
  tidy = λ b h e. (
    record {
      low = omega arith;
      three = omega (arith, some_corner w e);
      named = inr (omega arith, a.same k (omega arith) ∙ stack_fresh st g k (omega arith) s.1);
      nested = λ j x y. a.same j (omega arith) ∙ stack_fresh st g j (omega arith) s.1;
      agree = none_agrees g false es (a.same g (omega arith) ∙ stack_fresh st g g (omega arith) s.1);
      opened = λ v p. absurd (omega arith);
      closed = λ v p. a.same g (omega arith) ∙ stack_fresh st g g (omega arith) s.1;
    },
    a.tidy false h e,
  );
}

close_step : (r k g : ℕ) (st : List Mark) (w : List Symbol) (o : Option (List Crossing)) → Stack k (Junction g ∷ st) → Answer r (suc k) st w o → Answer r k (Junction g ∷ st) (JunctionClose ∷ w) (put (record { road = r; group = g; vertex = true }) o)
close_step r k g st w None s a = tt
close_step r k g st w (Some es) s a = record {
  same = λ j h. ap (λ x. eqb j g || x) (a.same j (omega arith));
  low = omega arith;
  back = λ h. put_symbol r k g true false false es w (ne_eqb g k (omega arith)) (a.same g (omega arith) ∙ stack_fresh st g g (omega arith) s.1) (a.back h);
  agrees = (
    (λ q. refl, none_agrees g true es (a.same g (omega arith) ∙ stack_fresh st g g (omega arith) s.1)),
    agrees_cons st g _ es s.1 (omega arith) a.agrees,
  );
  tidy = λ b h e. (
    record {
      low = omega arith;
      three = omega (arith, some_corner w e);
      named = inr (omega arith, a.same k (omega arith) ∙ stack_fresh st g k (omega arith) s.1);
      nested = λ j x y. a.same j (omega arith) ∙ stack_fresh st g j (omega arith) s.1;
      agree = none_agrees g true es (a.same g (omega arith) ∙ stack_fresh st g g (omega arith) s.1);
      opened = λ v p. absurd (omega arith);
      closed = λ v p. a.same g (omega arith) ∙ stack_fresh st g g (omega arith) s.1;
    },
    a.tidy false h e,
  );
}

branch_step : (r k g : ℕ) (st : List Mark) (w : List Symbol) (o : Option (List Crossing)) → Stack k (Junction g ∷ st) → Answer r (suc k) (Junction g ∷ st) w o → Answer r k (Junction g ∷ st) (Branch ∷ w) (put (record { road = r; group = g; vertex = true }) o)
branch_step r k g st w None s a = tt
branch_step r k g st w (Some es) s a = record {
  same = λ j h. or_twice (eqb j g) (mentions j es) (holds j st) (a.same j (omega arith));
  low = omega arith;
  back = λ h. put_symbol r k g true false true es w (ne_eqb g k (omega arith)) (a.same g (omega arith) ∙ or_left _ _ (eq-eqb g g refl)) (a.back h);
  agrees = ((λ q. refl, a.agrees.0), agrees_cons st g _ es s.1 (omega arith) a.agrees.1);
  tidy = λ b h e. (
    record {
      low = omega arith;
      three = omega (arith, some_corner w e);
      named = inr (omega arith, a.same k (omega arith) ∙ stack_fresh (Junction g ∷ st) k k (omega arith) s);
      nested = λ j x y. a.same j (omega arith) ∙ stack_fresh (Junction g ∷ st) j j (omega arith) (x, s.1);
      agree = a.agrees.0;
      opened = λ v p. absurd (true≢false v);
      closed = λ v p. absurd (true≢false v);
    },
    a.tidy false h e,
  );
}

answers : (w : List Symbol) (r k : ℕ) (st : List Mark) → Stack k st → Answer r k st w (reads r k st w)
answers [] r k [] s = record {
  same = λ g h. refl;
  low = tt;
  back = λ h. (let z : 4 - r ≡ 0 = omega arith in rw z);
  agrees = tt;
  tidy = λ b h e. tt;
}
answers [] r k (m ∷ st) s = tt
answers (Corner ∷ w) r k st s = corner_step r k st w (reads (suc r) k st w) (answers w (suc r) k st s)
answers (DeadEnd ∷ w) r k st s = dead_step r k st w (reads r (suc k) st w) s (answers w r (suc k) st (stack_up st k (suc k) (omega arith) s))
answers (SplitOpen ∷ w) r k st s = split_step r k st w (reads r (suc k) (Split k ∷ st) w) s (answers w r (suc k) (Split k ∷ st) (omega arith, s))
answers (JunctionOpen ∷ w) r k st s = open_step r k st w (reads r (suc k) (Junction k ∷ st) w) s (answers w r (suc k) (Junction k ∷ st) (omega arith, s))
answers (SplitClose ∷ w) r k [] s = tt
answers (SplitClose ∷ w) r k (Split g ∷ st) s = unsplit_step r k g st w (reads r (suc k) st w) s (answers w r (suc k) st (stack_up st g (suc k) (omega arith) s.1))
answers (SplitClose ∷ w) r k (Junction g ∷ st) s = tt
answers (Branch ∷ w) r k [] s = tt
answers (Branch ∷ w) r k (Split g ∷ st) s = tt
answers (Branch ∷ w) r k (Junction g ∷ st) s = branch_step r k g st w (reads r (suc k) (Junction g ∷ st) w) s (answers w r (suc k) (Junction g ∷ st) (omega arith, s.1))
answers (JunctionClose ∷ w) r k [] s = tt
answers (JunctionClose ∷ w) r k (Split g ∷ st) s = tt
answers (JunctionClose ∷ w) r k (Junction g ∷ st) s = close_step r k g st w (reads r (suc k) st w) s (answers w r (suc k) st (stack_up st g (suc k) (omega arith) s.1))

-- A word with four corners that draws something is the word of what it draws.
pub comes_back : (w : List Symbol) (d : List Crossing) → corners w ≡ 4 → drawing_of w ≡ Some d → word_of d ≡ w
comes_back w d four e =
    let a : Answer 0 0 [] w (Some d) = subst (Answer 0 0 [] w) e (answers w 0 0 [] tt) in
    a.back (omega arith)

-- What a word with four corners draws, one of them last, is tidy.
pub draws_tidy : (w : List Symbol) (d : List Crossing) → corners w ≡ 4 → ends false w ≡ true → drawing_of w ≡ Some d → Tidy 0 0 d
draws_tidy w d four last e =
    let a : Answer 0 0 [] w (Some d) = subst (Answer 0 0 [] w) e (answers w 0 0 [] tt) in
    a.tidy false (omega arith) last

pub some_drawn : (o : Option (List Crossing)) → is_some o ≡ true → o ≡ Some (or_empty o)
some_drawn None h = absurd (false≢true h)
some_drawn (Some d) h = refl

pub record Parts (w : List Symbol) : Type 0 where
  pub four : corners w ≡ 4
  pub last : ends false w ≡ true
  pub least : 4 ≤ length w
  pub most : length w ≤ 64
  pub read : drawing_of w ≡ Some (drawn w)

pub parts : (w : List Symbol) → Lawful w → Parts w
parts w l =
    let a = and_parts (shaped w) (is_some (drawing_of w)) l in
    let b = and_parts _ _ a.0 in
    let c = and_parts _ _ b.0 in
    let d = and_parts _ _ b.1 in
    record {
      four = eqb-true (corners w) 4 d.0;
      last = d.1;
      least = leb-true 4 (length w) c.0;
      most = leb-true (length w) 64 c.1;
      read = some_drawn (drawing_of w) a.1;
    }

pub from_parts : (w : List Symbol) → corners w ≡ 4 → ends false w ≡ true → 4 ≤ length w → length w ≤ 64 → is_some (drawing_of w) ≡ true → Lawful w
from_parts w four last least most read =
    and_from _ _
    (and_from _ _ (and_from _ _ (le-leb 4 (length w) least) (le-leb (length w) 64 most)) (and_from _ _ (eq-eqb (corners w) 4 four) last))
    read
