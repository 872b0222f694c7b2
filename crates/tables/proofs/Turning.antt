-- Going over a table, a record at a time.
--   climbs: roads that never fall from one record to the next never fall
--   nests_more, nests_stop, nests_end: one record more of the test for crossing groups, and its ends
--   Wrote: what is written before a record
--   wrote_more: one record more
use Rattle.std.proofs.Common.{◌≡◌, ℕ, zero, suc, ◌+◌, ◌-◌, ◌<◌, ◌≤◌, Bool, true, false, ◌||◌, eqb, List, [], ◌∷◌, ◌++◌, map, length, get_or, drop, replicate, Some, None, Option, sym, refl, ap, ◌∙◌, inl, inr, add-one, arith, drop-cons}
use Rattle.std.proofs.lemmas.List.{append_assoc, length-append, length-replicate, drop-map, at_drop_more, at_drop_all}
use Rattle.std.proofs.lemmas.Bool.{cases_eq}
use Rattle.symbols.specs.declared.symbols.Symbol.{Symbol}
use Rattle.symbols.specs.declared.symbols.Symbol.TheVariants.{Corner}
use Rattle.symbols.specs.declared.symbols.Crossing.{Crossing}
use Rattle.rules.specs.Tables.{at, blank, mentions, symbol_at, writes, word_of, named, canonical, Rising}
use Rattle.tables.specs.Nests.{within, firsts, firsts_in, turn, nests}
use Rattle.tables.proofs.Stacks.{firsts_at, length_firsts, nests_none}
use Rattle.rules.proofs.Tables.{leader, canonical_at, length_canonical}

pub climbs : (t : List Crossing) → ((i : ℕ) → i + 1 < length t → (at t i).road ≤ (at t (i + 1)).road) → (i j : ℕ) → i < j → j < length t → (at t i).road ≤ (at t j).road
climbs t a i zero h l = absurd (omega arith)
climbs t a i (suc j) h l =
    let s : (at t j).road ≤ (at t (suc j)).road = rw (sym (add-one j)) (a j (omega arith)) in
    elim (cases_eq i j) [
      | inl e ↦ rw e s
      | inr n ↦ (let r = climbs t a i j (omega arith) (omega arith) in omega arith)
    ]

pub nests_more : (t : List Crossing) (k g : ℕ) (st : List ℕ) (o : Option (List ℕ)) (more : Bool) → k < length t → g ≡ leader t k → more ≡ within (leader t k) (drop (k + 1) (firsts t)) → turn k g more (Some st) ≡ o → nests k (Some st) (drop k (firsts t)) ≡ nests (k + 1) o (drop (k + 1) (firsts t))
nests_more t k g st o more h l m e =
    let f : get_or (firsts t) k 0 ≡ leader t k = firsts_at t k h in
    at_drop_more (nests k (Some st)) (firsts t) k 0 (omega (arith, length_firsts t))
    ∙ ap (λ (g : ℕ). nests (suc k) (turn k g (within g (drop (k + 1) (firsts t))) (Some st)) (drop (k + 1) (firsts t))) f
    ∙ ap (λ (b : Bool). nests (suc k) (turn k (leader t k) b (Some st)) (drop (k + 1) (firsts t))) (sym m)
    ∙ ap (λ (x : ℕ). nests (suc k) (turn k x more (Some st)) (drop (k + 1) (firsts t))) (sym l)
    ∙ ap (λ (q : Option (List ℕ)). nests (suc k) q (drop (k + 1) (firsts t))) e
    ∙ ap (λ (x : ℕ). nests x o (drop (k + 1) (firsts t))) (sym (add-one k))

pub nests_stop : (t : List Crossing) (k g : ℕ) (st : List ℕ) (more : Bool) → k < length t → g ≡ leader t k → more ≡ within (leader t k) (drop (k + 1) (firsts t)) → turn k g more (Some st) ≡ None → nests k (Some st) (drop k (firsts t)) ≡ false
nests_stop t k g st more h l m e = nests_more t k g st None more h l m e ∙ nests_none (k + 1) (drop (k + 1) (firsts t))

pub nests_end : (t : List Crossing) (k : ℕ) (st : List ℕ) → length t ≤ k → nests k (Some st) (drop k (firsts t)) ≡ true
nests_end t k st h = at_drop_all (nests k (Some st)) (firsts t) k (omega (arith, length_firsts t))

mentions_within : (t cs : List Crossing) (g : ℕ) → mentions g (map (named t) cs) ≡ within g (map (firsts_in t) cs)
mentions_within t [] g = refl
mentions_within t (c ∷ cs) g = ap (λ (b : Bool). eqb g (firsts_in t c) || b) (mentions_within t cs g)

mentions_rest : (t : List Crossing) (m g : ℕ) → mentions g (drop m (canonical t)) ≡ within g (drop m (firsts t))
mentions_rest t m g =
    ap (mentions g) (drop-map (named t) m t) ∙ mentions_within t (drop m t) g ∙ ap (within g) (sym (drop-map (firsts_in t) m t))

-- Before record k, on the roads up to r, with this word so far.
pub record Wrote (t : List Crossing) (k r : ℕ) (w : List Symbol) : Type 0 where
  pub told : word_of (canonical t) ≡ w ++ writes r k (drop k (canonical t))
  pub long : length w ≡ k + r
  pub low : r ≤ 3
  pub climbing : (j : ℕ) → k ≤ j → j < length t → r ≤ (at t j).road

pub wrote_more :
    (t : List Crossing) (k r : ℕ) (w : List Symbol) (s : Symbol) (more : Bool)
    → Rising t → k < length t → Wrote t k r w → more ≡ within (leader t k) (drop (k + 1) (firsts t))
    → s ≡ symbol_at (at t k).vertex (eqb (leader t k) k) more
    → Wrote t (k + 1) (at t k).road ((w ++ replicate ((at t k).road - r) Corner) ++ s ∷ [])
wrote_more t k r w s more rise h v m e =
    let es = drop (suc k) (canonical t) in
    let run = replicate ((at t k).road - r) Corner in
    let d : drop k (canonical t) ≡ (named t (at t k) ∷ es) =
    drop-cons (canonical t) k blank (omega (arith, length_canonical t)) ∙ ap (λ (x : Crossing). x ∷ es) (canonical_at t k h) in
    let f : symbol_at (at t k).vertex (eqb (leader t k) k) (mentions (leader t k) es) ≡ s =
    ap (symbol_at (at t k).vertex (eqb (leader t k) k))
    (mentions_rest t (suc k) (leader t k) ∙ ap (λ (x : ℕ). within (leader t k) (drop x (firsts t))) (sym (add-one k)) ∙ sym m)
    ∙ sym e in
    record {
      told = v.told
          ∙ ap (λ (x : List Crossing). w ++ writes r k x) d
          ∙ ap (λ (x : Symbol). w ++ (run ++ (x ∷ writes (at t k).road (suc k) es))) f
          ∙ sym (append_assoc w run (s ∷ writes (at t k).road (suc k) es))
          ∙ sym (append_assoc (w ++ run) (s ∷ []) (writes (at t k).road (suc k) es))
          ∙ ap (λ (x : ℕ). ((w ++ run) ++ s ∷ []) ++ writes (at t k).road x (drop x (canonical t))) (sym (add-one k));
      long = length-append (w ++ run) (s ∷ []) ∙ omega (arith, length-append w run, length-replicate ((at t k).road - r) Corner, v.long, v.climbing k (omega arith) h);
      low = rise.0 k h;
      climbing = λ j a b. rise.1 k j (omega arith) b;
    }
