-- Rings, sidewalks, and what they cover.
--   quiet-..: none of the first so many passes
--   rings, walked, stopped, covered: the statements, for one system
use Rattle.std.proofs.Common.{◌≡◌, ℕ, zero, suc, ◌+◌, ◌-◌, ◌<◌, ◌≤◌, Bool, true, false, cond, ◌⊎◌, ◌↔◌, List, [], ◌∷◌, ◌++◌, length, filter, sym, refl, ap, ◌∙◌, subst, ⊎_elim, arith, length-append}
use Rattle.std.proofs.lemmas.Bool.{cases_Bool, cases_lt, cases_order, cond_both, cond-true, cond-false, both_ways, false≢true, true≢false}
use Rattle.orbits.specs.Orbits.{In, Apart, last, times, steps, first, walk, quiet, System, Lawful, size, turn, loop, OnRing, NoRing, ring, sidewalk, begins, cover}
use Rattle.orbits.specs.Statements.{Walked, Stopped, Covered}
use Rattle.orbits.proofs.Members.{fits, apart_unless, apart_append, in_left, in_right, in_either, shuffled_from, in_kept, kept_in, apart_kept, in_joined, joined_in, apart_joined}
use Rattle.orbits.proofs.Turns.{First, below_suc, times_next, times_add, in_steps, steps_in, next_last, first_is, member_or, inside, times_one, repeat_back, returns, turned, loop_reach, loop_sym}

module _ {A : Type 0} (p : A → Bool) (f : A → A) where
  pub quiet_true : (n : ℕ) (x : A) → quiet p f n x ≡ true → (i : ℕ) → i < n → p (times f i x) ≡ false
  quiet_true zero x = λ h i l. absurd (omega arith)
  quiet_true (suc n) x =
      cond_both (p x) false (quiet p f n (f x)) (λ b. b ≡ true → (i : ℕ) → i < suc n → p (times f i x) ≡ false)
      (λ e h. absurd (false≢true h))
      (λ e h. below_suc (λ i. p (times f i x) ≡ false) n e (quiet_true n (f x) h))

  pub quiet_from : (n : ℕ) (x : A) → ((i : ℕ) → i < n → p (times f i x) ≡ false) → quiet p f n x ≡ true
  quiet_from zero x h = refl
  quiet_from (suc n) x h =
      cond_both (p x) false (quiet p f n (f x)) (λ b. b ≡ true)
      (λ e. absurd (both_ways (p x) (h 0 (omega arith)) e))
      (λ e. quiet_from n (f x) (λ i l. h (suc i) (omega arith)))

  pub quiet_false : (n : ℕ) (x : A) → quiet p f n x ≡ false → (i : ℕ) × (i < n) × (p (times f i x) ≡ true)
  quiet_false zero x = λ h. absurd (true≢false h)
  quiet_false (suc n) x =
      cond_both (p x) false (quiet p f n (f x)) (λ b. b ≡ false → (i : ℕ) × (i < suc n) × (p (times f i x) ≡ true))
      (λ e h. (0, omega arith, e))
      (λ e h. let r = quiet_false n (f x) h in (suc r.0, omega arith, r.2))

  both_stop : (b : Bool) (y : A) (w : List A) (k : ℕ) → w ≡ steps f k y → cond b [] w ≡ steps f (cond b zero k) y
  both_stop true y w k e = refl
  both_stop false y w k e = e

  pub walk_steps : (n : ℕ) (x : A) → walk p f (suc n) x ≡ steps f (suc (first p f n (f x))) x
  walk_steps zero x = ap (λ l. x ∷ l) (cond_both (p (f x)) [] [] (λ l. l ≡ []) (λ e. refl) (λ e. refl))
  walk_steps (suc n) x =
      ap (λ l. x ∷ l) (both_stop (p (f x)) (f x) (walk p f (suc n) (f x)) (suc (first p f n (f (f x)))) (walk_steps n (f x)))

  -- the walk is told by where it stops
  pub walk_exact : (n : ℕ) (x : A) (k : ℕ) → 1 ≤ k → k ≤ n → ((j : ℕ) → 1 ≤ j → j < k → p (times f j x) ≡ false) → p (times f k x) ≡ true
      → walk p f n x ≡ steps f k x
  walk_exact zero x k o l b e = absurd (omega arith)
  walk_exact (suc n) x zero o l b e = absurd (omega arith)
  walk_exact (suc n) x (suc zero) o l b e = ap (λ q. x ∷ q) (cond-true (p (f x)) [] (walk p f n (f x)) e)
  walk_exact (suc n) x (suc (suc k)) o l b e =
      ap (λ q. x ∷ q)
      (cond-false (p (f x)) [] (walk p f n (f x)) (b 1 (omega arith) (omega arith))
      ∙ walk_exact n (f x) (suc k) (omega arith) (omega arith) (λ j u v. b (suc j) (omega arith) (omega arith)) e)

module _ {A : Type 0} (S : System A) (L : Lawful S) where
  pub rings : (x : A) → In x S.darts → (ring S x ≡ true) ↔ OnRing S x
  rings x m = (
    λ h y i.
        let r = steps_in S.next (turn S x) x y i in
        ap S.starts r.2 ∙ quiet_true S.starts S.next (size S) x h r.0 (omega (arith, (turned S L x m).short)),
    λ o. quiet_from S.starts S.next (size S) x (λ i l. o (times S.next i x) (loop_reach S L x m i)),
  )

  walked_from : (s : A) (n k : ℕ) → size S ≡ n → 1 ≤ k → k ≤ n → times S.next k s ≡ s → S.starts s ≡ true → (t : ℕ) × Walked S s t
  walked_from s zero k z l h e b = absurd (omega arith)
  walked_from s (suc n) zero z l h e b = absurd (omega arith)
  walked_from s (suc n) (suc k) z l h e b =
      let i : ℕ = first S.starts S.next n (S.next s) in
      let r : First S.starts S.next (S.next s) k i =
      first_is S.next S.starts n (S.next s) k (omega arith) (ap S.starts e ∙ b) in
      let is : sidewalk S s ≡ steps S.next (suc i) s =
      ap (λ m. walk S.starts S.next m s) z ∙ walk_steps S.starts S.next n s in
      let end : S.next (last s (sidewalk S s)) ≡ times S.next (suc i) s =
      ap (λ l. S.next (last s l)) is ∙ next_last S.next i s s in (
        suc i,
        record {
          some = omega arith;
          short = omega (arith, r.soon);
          is = is;
          between = mid i r.before;
          end = end;
          ends = ap S.starts end ∙ r.here;
        },
      )
    where
      mid : (i : ℕ) → ((j : ℕ) → j < i → S.starts (times S.next j (S.next s)) ≡ false)
          → (j : ℕ) → 1 ≤ j → j < suc i → S.starts (times S.next j s) ≡ false
      mid i g zero o t = absurd (omega arith)
      mid i g (suc j) o t = g j (omega arith)

  pub walked : (s : A) → In s S.darts → S.starts s ≡ true → (k : ℕ) × Walked S s k
  walked s m b = let r = returns S L s m in walked_from s (size S) r.0 refl r.1 r.2 r.3 b

  pub stopped : (s : A) → In s S.darts → S.starts s ≡ true → Stopped S s
  stopped s m b =
      let w = walked s m b in
      let stop : S.starts (times S.next w.0 s) ≡ true = ap S.starts (sym w.1.end) ∙ w.1.ends in
      record {
        fuel = λ n l.
            walk_exact S.starts S.next n s w.0 w.1.some (omega (arith, w.1.short)) w.1.between stop ∙ sym w.1.is;
        only = λ k o g e.
            ⊎_elim
            (λ (q : k ≡ w.0). w.1.is ∙ ap (λ i. steps S.next i s) (sym q))
            (λ (q : (k < w.0) ⊎ (w.0 < k)). absurd (⊎_elim
            (λ (l : k < w.0). both_ways (S.starts (times S.next k s)) (w.1.between k o l) e)
            (λ (l : w.0 < k). both_ways (S.starts (times S.next w.0 s)) (g w.0 w.1.some l) stop)
            q))
            (cases_order k w.0);
      }

  pub sidewalk_apart : (s : A) → In s S.darts → S.starts s ≡ true → Apart (sidewalk S s)
  sidewalk_apart s m b =
      let w = walked s m b in
      subst Apart (sym w.1.is)
      (apart_unless (steps S.next w.0 s) (λ r.
      let q = repeat_back S L w.0 s m r in
      both_ways (S.starts s) (ap S.starts (sym q.3) ∙ w.1.between q.0 q.1 q.2) b))

  meet : (b c : A) → In b S.darts → In c S.darts → S.starts b ≡ true → (k : ℕ) → Walked S c k
      → (i j : ℕ) → i ≤ j → j < k → times S.next i b ≡ times S.next j c → b ≡ c
  meet b c mb mc sb k w i j le lt e =
      let d : ℕ = j - i in
      let q : b ≡ times S.next d c =
      times_one S L i b (times S.next d c) mb (inside S L d c mc) (e ∙ times_add S.next d i j c (omega arith)) in
      ⊎_elim
      (λ (l : 0 < d). absurd (both_ways (S.starts b) (ap S.starts q ∙ w.between d l (omega arith)) sb))
      (λ (l : d ≤ 0). let z : d ≡ 0 = omega arith in q ∙ ap (λ t. times S.next t c) z)
      (cases_lt 0 d)

  -- an element of the sidewalk from s is some number of steps from s
  on_walk : (s y : A) (k : ℕ) → Walked S s k → In y (sidewalk S s) → (i : ℕ) × (i < k) × (y ≡ times S.next i s)
  on_walk s y k w i = steps_in S.next k s y (subst (λ l. In y l) w.is i)

  walk_on : (s : A) (k : ℕ) → Walked S s k → (i : ℕ) → i < k → In (times S.next i s) (sidewalk S s)
  walk_on s k w i l = subst (λ q. In (times S.next i s) q) (sym w.is) (in_steps S.next k s i l)

  pub one_start : (b c x : A) → In b (begins S) → In c (begins S) → In x (sidewalk S b) → In x (sidewalk S c) → b ≡ c
  one_start b c x mb mc ib ic =
      let hb = kept_in S.starts b S.darts mb in
      let hc = kept_in S.starts c S.darts mc in
      let wb = walked b hb.0 hb.1 in
      let wc = walked c hc.0 hc.1 in
      let pb = on_walk b x wb.0 wb.1 ib in
      let pc = on_walk c x wc.0 wc.1 ic in
      let e : times S.next pb.0 b ≡ times S.next pc.0 c = sym pb.2 ∙ pc.2 in
      ⊎_elim
      (λ (l : pb.0 < pc.0). meet b c hb.0 hc.0 hb.1 wc.0 wc.1 pb.0 pc.0 (omega arith) pc.1 e)
      (λ (l : pc.0 ≤ pb.0). sym (meet c b hc.0 hb.0 hc.1 wb.0 wb.1 pc.0 pb.0 l pb.1 (sym e)))
      (cases_lt pb.0 pc.0)

  pub cover_apart : Apart (cover S)
  cover_apart =
      apart_joined (sidewalk S) (begins S) (apart_kept S.starts S.darts L.apart)
      (λ b m. let h = kept_in S.starts b S.darts m in sidewalk_apart b h.0 h.1)
      one_start

  -- where an element of the cover stands
  pub record Placed (y : A) : Type 0 where
    pub start : A
    pub member : In start S.darts
    pub starting : S.starts start ≡ true
    pub long : ℕ
    pub walking : Walked S start long
    pub at : ℕ
    pub below : at < long
    pub is : y ≡ times S.next at start

  pub placed : (y : A) → In y (cover S) → Placed y
  placed y i =
      let r = joined_in (sidewalk S) y (begins S) i in
      let h = kept_in S.starts r.0 S.darts r.1 in
      let w = walked r.0 h.0 h.1 in
      let q = on_walk r.0 y w.0 w.1 r.2 in
      record { start = r.0; member = h.0; starting = h.1; long = w.0; walking = w.1; at = q.0; below = q.1; is = q.2 }

  cover_from : (s : A) → In s S.darts → S.starts s ≡ true → (k : ℕ) → Walked S s k → (i : ℕ) → i < k → In (times S.next i s) (cover S)
  cover_from s m b k w i l =
      in_joined (sidewalk S) (times S.next i s) s (begins S) (in_kept S.starts s S.darts m b) (walk_on s k w i l)

  start_covered : (s : A) → In s S.darts → S.starts s ≡ true → In s (cover S)
  start_covered s m b = let w = walked s m b in cover_from s m b w.0 w.1 0 w.1.some

  cover_next : (y : A) → In y (cover S) → In (S.next y) (cover S)
  cover_next y i =
      let r = placed y i in
      let e : S.next y ≡ times S.next (suc r.at) r.start = ap S.next r.is ∙ sym (times_next S.next r.at r.start) in
      ⊎_elim
      (λ (l : suc r.at < r.long).
      subst (λ z. In z (cover S)) (sym e) (cover_from r.start r.member r.starting r.long r.walking (suc r.at) l))
      (λ (l : r.long ≤ suc r.at).
      let q : suc r.at ≡ r.long = omega (arith, r.below) in
      let t : S.next y ≡ S.next (last r.start (sidewalk S r.start)) =
      e ∙ ap (λ j. times S.next j r.start) q ∙ sym r.walking.end in
      start_covered (S.next y)
      (subst (λ z. In z S.darts) (sym e) (inside S L (suc r.at) r.start r.member))
      (ap S.starts t ∙ r.walking.ends))
      (cases_lt (suc r.at) r.long)

  cover_reach : (y : A) → In y (cover S) → (k : ℕ) → In (times S.next k y) (cover S)
  cover_reach y i zero = i
  cover_reach y i (suc k) = cover_reach (S.next y) (cover_next y i) k

  pub cover_exact : (x : A) → In x (cover S) ↔ (In x S.darts × (OnRing S x → ⊥))
  cover_exact x = (
    λ i.
        let r = placed x i in (
          subst (λ z. In z S.darts) (sym r.is) (inside S L r.at r.start r.member),
          λ o. both_ways (S.starts r.start)
              (o r.start (loop_sym S L r.start x r.member (subst (λ z. In z (loop S r.start)) (sym r.is) (loop_reach S L r.start r.member r.at))))
              r.starting,
        ),
    λ h.
        let q : ring S x ≡ false =
        ⊎_elim (λ (t : ring S x ≡ true). absurd (h.1 ((rings x h.0).0 t))) (λ (t : ring S x ≡ false). t) (cases_Bool (ring S x)) in
        let r = quiet_false S.starts S.next (size S) x q in
        let y : A = times S.next r.0 x in
        let m : In y S.darts = inside S L r.0 x h.0 in
        let back = steps_in S.next (turn S y) y x (loop_sym S L x y h.0 (loop_reach S L x h.0 r.0)) in
        subst (λ z. In z (cover S)) (sym back.2) (cover_reach y (start_covered y m r.2) back.0),
  )

  pub covered : Covered S
  covered = record {
    apart = cover_apart;
    exact = cover_exact;
    whole = λ none x. whole none x;
    shuffled = λ none. shuffled_from S.darts (cover S) L.apart cover_apart (λ x. (whole none x).1) (λ x. (whole none x).0);
    parted = parted;
    counted = (
      λ e x m o. ⊎_elim
          (λ (i : In x (cover S)). ((cover_exact x).0 i).1 o)
          (λ (n : In x (cover S) → ⊥). let l = fits (x ∷ cover S) S.darts (n, cover_apart) (λ y k. ⊎_elim (λ (q : y ≡ x). subst (λ z. In z S.darts) (sym q) m) (λ (j : In y (cover S)). ((cover_exact y).0 j).0) k) in omega (arith, l))
          (member_or S L x (cover S)),
      λ none. let l = fits S.darts (cover S) L.apart (λ x. (whole none x).1) in omega (arith, l, fits (cover S) S.darts cover_apart (λ x. (whole none x).0)),
    );
  }
    where
      whole : NoRing S → (x : A) → In x (cover S) ↔ In x S.darts
      whole none x = (λ i. ((cover_exact x).0 i).0, λ m. (cover_exact x).1 (m, none x m))

      parted : length (cover S) + length (filter (ring S) S.darts) ≡ length S.darts
      parted =
          let ks : List A = filter (ring S) S.darts in
          let out : (x : A) → In x ks → In x S.darts = λ x k. (kept_in (ring S) x S.darts k).0 in
          let a : Apart (cover S ++ ks) =
          apart_append (cover S) ks cover_apart (apart_kept (ring S) S.darts L.apart)
          (λ x i k. ((cover_exact x).0 i).1 ((rings x (out x k)).0 (kept_in (ring S) x S.darts k).1)) in
          let up = fits (cover S ++ ks) S.darts a
          (λ x i. ⊎_elim (λ (l : In x (cover S)). ((cover_exact x).0 l).0) (λ (r : In x ks). out x r) (in_either x (cover S) ks i)) in
          let down = fits S.darts (cover S ++ ks) L.apart
          (λ x m. ⊎_elim
          (λ (t : ring S x ≡ true). in_right x (cover S) ks (in_kept (ring S) x S.darts m t))
          (λ (t : ring S x ≡ false). in_left x (cover S) ks ((cover_exact x).1 (m, λ o. both_ways (ring S x) t ((rings x m).1 o))))
          (cases_Bool (ring S x))) in
          omega (arith, length-append (cover S) ks, up, down)
