-- Two systems with the same lines.
--   same: equal lines have the same darts, next and starts
--   listed: and the other way round
use Rattle.std.proofs.Common.{◌≡◌, ℕ, zero, suc, ◌≤◌, Bool, true, false, cond, ◌⊎◌, List, [], ◌∷◌, ◌++◌, map, length, filter, sym, refl, ap, ◌∙◌, subst, ap₂, inl, inr, arith}
use Rattle.std.specs.List.{flat_map}
use Rattle.std.proofs.lemmas.Bool.{cases_Bool, cond_both, both_ways}
use Rattle.orbits.specs.Orbits.{In, last, times, steps, walk, System, Lawful, size, NoRing, sidewalk, begins, cover, line, lines}
use Rattle.orbits.specs.Statements.{Walked, Same}
use Rattle.orbits.proofs.Members.{in_kept, kept_in, in_map, map_in}
use Rattle.orbits.proofs.Turns.{times_next, length_steps}
use Rattle.orbits.proofs.Sidewalks.{walked, placed, covered}

head_is : {A : Type 0} (x y : A) (xs ys : List A) → x ∷ xs ≡ y ∷ ys → x ≡ y
head_is x y xs ys e = cc

tail_is : {A : Type 0} (x y : A) (xs ys : List A) → x ∷ xs ≡ y ∷ ys → xs ≡ ys
tail_is x y xs ys e = cc

joined_map : {A B C : Type 0} (g : B → List A) (h : C → B) (cs : List C) → flat_map g (map h cs) ≡ flat_map (λ c. g (h c)) cs
joined_map g h [] = refl
joined_map g h (c ∷ cs) = ap (λ l. g (h c) ++ l) (joined_map g h cs)

-- equal steps with equal ends are equal at each place
same_times : {A : Type 0} (f g : A → A) (k : ℕ) (s t : A) → steps f k s ≡ steps g k t → times f k s ≡ times g k t
    → (i : ℕ) → i ≤ k → times f i s ≡ times g i t
same_times f g zero s t e z zero l = z
same_times f g zero s t e z (suc i) l = absurd (omega arith)
same_times f g (suc k) s t e z zero l = head_is s t (steps f k (f s)) (steps g k (g t)) e
same_times f g (suc k) s t e z (suc i) l =
    same_times f g k (f s) (g t) (tail_is s t (steps f k (f s)) (steps g k (g t)) e) z i (omega arith)

module _ {A : Type 0} (S R : System A) (L : Lawful S) (K : Lawful R) (e : lines S ≡ lines R) where
  same_cover : cover S ≡ cover R
  same_cover =
      sym (joined_map (λ (l : List A × A). l.0) (line S) (begins S))
      ∙ ap (flat_map (λ (l : List A × A). l.0)) e
      ∙ joined_map (λ (l : List A × A). l.0) (line R) (begins R)

  -- the line of s in S is the line of some t in R, step by step
  record Matched (s : A) (k : ℕ) : Type 0 where
    other : A
    starting : R.starts other ≡ true
    each : (i : ℕ) → i ≤ k → times S.next i s ≡ times R.next i other

  matched : (s : A) → In s S.darts → S.starts s ≡ true → (k : ℕ) → Walked S s k → Matched s k
  matched s m b k w =
      let r = map_in (line R) (line S s) (begins R) (subst (λ l. In (line S s) l) e (in_map (line S) s (begins S) (in_kept S.starts s S.darts m b))) in
      let t : A = r.0 in
      let h = kept_in R.starts t R.darts r.1 in
      let v = walked R K t h.0 h.1 in
      let walks : steps S.next k s ≡ steps R.next v.0 t = sym w.is ∙ ap (λ l. l.0) r.2 ∙ v.1.is in
      let ends : times S.next k s ≡ times R.next v.0 t = sym w.end ∙ ap (λ l. l.1) r.2 ∙ v.1.end in
      let long : v.0 ≡ k = sym (length_steps R.next v.0 t) ∙ ap length (sym walks) ∙ length_steps S.next k s in
      record {
        other = t;
        starting = h.1;
        each = same_times S.next R.next k s t
            (subst (λ n. steps S.next k s ≡ steps R.next n t) long walks)
            (subst (λ n. times S.next k s ≡ times R.next n t) long ends);
      }

  start_told : (x : A) → In x S.darts → S.starts x ≡ true → R.starts x ≡ true
  start_told x m b =
      let w = walked S L x m b in
      let q = matched x m b w.0 w.1 in
      ap R.starts (q.each 0 (omega arith)) ∙ q.starting

  next_told : (x : A) → In x (cover S) → S.next x ≡ R.next x
  next_told x i =
      let p = placed S L x i in
      let q = matched p.start p.member p.starting p.long p.walking in
      let here : x ≡ times R.next p.at q.other = p.is ∙ q.each p.at (omega (arith, p.below)) in
      ap S.next p.is ∙ sym (times_next S.next p.at p.start) ∙ q.each (suc p.at) p.below
      ∙ times_next R.next p.at q.other ∙ ap R.next (sym here)

module _ {A : Type 0} (S R : System A) (L : Lawful S) (K : Lawful R) (ns : NoRing S) (nr : NoRing R) (e : lines S ≡ lines R) where
  pub same : Same S R
  same = record {
    members = λ x. (there x, λ m. ((covered S L).whole ns x).0 (subst (λ l. In x l) (sym (same_cover S R L K e)) (((covered R K).whole nr x).1 m)));
    nexts = λ x m. next_told S R L K e x (((covered S L).whole ns x).1 m);
    starting = λ x m. tests x m (cases_Bool (S.starts x)) (cases_Bool (R.starts x));
  }
    where
      there : (x : A) → In x S.darts → In x R.darts
      there x m = ((covered R K).whole nr x).0 (subst (λ l. In x l) (same_cover S R L K e) (((covered S L).whole ns x).1 m))

      tests : (x : A) → In x S.darts → (S.starts x ≡ true) ⊎ (S.starts x ≡ false) → (R.starts x ≡ true) ⊎ (R.starts x ≡ false)
          → S.starts x ≡ R.starts x
      tests x m (inl a) (inl b) = a ∙ sym b
      tests x m (inl a) (inr b) = absurd (both_ways (R.starts x) b (start_told S R L K e x m a))
      tests x m (inr a) (inl b) = absurd (both_ways (S.starts x) a (start_told R S K L (sym e) x (there x m) b))
      tests x m (inr a) (inr b) = a ∙ sym b

kept_same : {A : Type 0} (p q : A → Bool) (xs : List A) → ((x : A) → In x xs → p x ≡ q x) → filter p xs ≡ filter q xs
kept_same p q [] h = refl
kept_same p q (x ∷ xs) h = let e = h x (inl refl) in let r = kept_same p q xs (λ y m. h y (inr m)) in cc

map_same : {A B : Type 0} (f g : A → B) (xs : List A) → ((x : A) → In x xs → f x ≡ g x) → map f xs ≡ map g xs
map_same f g [] h = refl
map_same f g (x ∷ xs) h = let e = h x (inl refl) in let r = map_same f g xs (λ y m. h y (inr m)) in cc

last_inside : {A : Type 0} (P : A → Type 0) (d : A) (xs : List A) → P d → ((x : A) → In x xs → P x) → P (last d xs)
last_inside P d [] b h = b
last_inside P d (x ∷ xs) b h = last_inside P x xs (h x (inl refl)) (λ y m. h y (inr m))

module _ {A : Type 0} (S R : System A) (L : Lawful S) (K : Lawful R) (d : S.darts ≡ R.darts) (a : Same S R) where
  walk_same : (n : ℕ) (x : A) → In x S.darts → walk S.starts S.next n x ≡ walk R.starts R.next n x
  walk_same zero x m = refl
  walk_same (suc n) x m =
      let y : A = S.next x in
      let e : S.next x ≡ R.next x = a.nexts x m in
      let b : S.starts (S.next x) ≡ R.starts (S.next x) = a.starting (S.next x) (L.stays x m) in
      let r : walk S.starts S.next n (S.next x) ≡ walk R.starts R.next n (S.next x) = walk_same n (S.next x) (L.stays x m) in
      ap₂ (λ t l. x ∷ cond t [] l) (b ∙ ap R.starts e) (r ∙ ap (walk R.starts R.next n) e)

  walk_inside : (n : ℕ) (x : A) → In x S.darts → (y : A) → In y (walk S.starts S.next n x) → In y S.darts
  walk_inside zero x m y i = absurd i
  walk_inside (suc n) x m y (inl e) = subst (λ z. In z S.darts) (sym e) m
  walk_inside (suc n) x m y (inr i) =
      cond_both (S.starts (S.next x)) [] (walk S.starts S.next n (S.next x)) (λ l. In y l → In y S.darts)
      (λ e k. absurd k)
      (λ e k. walk_inside n (S.next x) (L.stays x m) y k)
      i

  line_same : (s : A) → In s S.darts → line S s ≡ line R s
  line_same s m =
      let w : sidewalk S s ≡ sidewalk R s = walk_same (size S) s m ∙ ap (λ l. walk R.starts R.next (length l) s) d in
      let n : S.next (last s (sidewalk S s)) ≡ R.next (last s (sidewalk S s)) =
      a.nexts (last s (sidewalk S s)) (last_inside (λ z. In z S.darts) s (sidewalk S s) m (walk_inside (size S) s m)) in
      ap₂ (λ l z. (l, z)) w (n ∙ ap (λ l. R.next (last s l)) w)

  pub listed : lines S ≡ lines R
  listed =
      map_same (line S) (line R) (begins S) (λ s i. line_same s (kept_in S.starts s S.darts i).0)
      ∙ ap (map (line R)) (kept_same S.starts R.starts S.darts a.starting ∙ ap (filter R.starts) d)
