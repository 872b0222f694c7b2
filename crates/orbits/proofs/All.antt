-- Each statement, at any type.
use Rattle.std.proofs.Common.{◌≡◌, ℕ, zero, suc, ◌≤◌, sym, ap, ◌∙◌, subst, arith}
use Rattle.orbits.specs.Orbits.{In, times, first, size, turn, loop}
use Rattle.orbits.specs.Statements.{Pigeonhole, Return, Undone, Loops, Roots, Rings, Walks, Stops, Covers, Listed, Tells}
use Rattle.orbits.proofs.Turns.{pigeon, returns, inside, times_next, next_last, steps_in, length_steps, turned, loop_apart, loop_inside, loop_next, loop_reach, loop_self, loop_sym, loop_trans}
use Rattle.orbits.proofs.Sidewalks.{rings, walked, stopped, covered}
use Rattle.orbits.proofs.Tells.{same, listed}
use Rattle.orbits.proofs.Roots.{rooted}

pub pigeonhole : (A : Type 0) → Pigeonhole A
pigeonhole A S L = pigeon S L

pub return : (A : Type 0) → Return A
return A S L = returns S L

pub undone : (A : Type 0) → Undone A
undone A S L prev back x m = let r = returns S L x m in from r.0 r.1 r.3
  where
    from : (k : ℕ) → 1 ≤ k → times S.next k x ≡ x → In (prev x) S.darts × (S.next (prev x) ≡ x)
    from zero l e = absurd (omega arith)
    from (suc k) l e =
        let y : A = times S.next k x in
        let my : In y S.darts = inside S L k x m in
        let n : S.next y ≡ x = sym (times_next S.next k x) ∙ e in
        let q : prev x ≡ y = ap prev (sym n) ∙ back y my in
        (subst (λ z. In z S.darts) (sym q) my, ap S.next q ∙ n)

pub loops : (A : Type 0) → Loops A
loops A S L x m =
    let t = turned S L x m in
    record {
      apart = loop_apart S L x m;
      short = omega (arith, length_steps S.next (turn S x) x, t.short);
      inside = loop_inside S L x m;
      closes = next_last S.next (first (λ y. S.same y x) S.next (size S) (S.next x)) x x ∙ t.back;
      onward = loop_next S L x m;
      reached = λ y. (λ i. let r = steps_in S.next (turn S x) x y i in (r.0, sym r.2), λ r. subst (λ z. In z (loop S x)) r.1 (loop_reach S L x m r.0));
      self = loop_self S L x;
      mirror = λ y i. loop_sym S L x y m i;
      chain = λ y z i j. loop_trans S L x y z m i j;
    }

pub roots : (A : Type 0) → Roots A
roots A S L le o = rooted S L le o

pub rings_told : (A : Type 0) → Rings A
rings_told A S L = rings S L

pub walks : (A : Type 0) → Walks A
walks A S L = walked S L

pub stops : (A : Type 0) → Stops A
stops A S L = stopped S L

pub covers : (A : Type 0) → Covers A
covers A S L = covered S L

pub tells : (A : Type 0) → Tells A
tells A S R L K ns nr e = same S R L K ns nr e

pub listed_so : (A : Type 0) → Listed A
listed_so A S R L K d e = listed S R L K d e
