-- The words of a record, counted and written one after another.
--   word_lawful: a record's words are lawful
--   Counting: all words but those that are left are counted
--   count_begins, count_few, count_on, count_all: the loop's start, the bound of its sum, its turn, and its end
--   told_few: how many symbols words have together
--   redrawn: the drawings before a pixel are replaced
--   empty_more, redraw_all: a turn that empties a pixel, and the end of a loop that replaces them
--   Passing: the pixels before one have the words of a record
--   same_pixels, new_length, old_length, write_more: a word of a record written over an empty pixel
--   pass_more, pass_all, pass_none: a turn of the loop over the words of a record, and its end
--   accepted_fits: words that are accepted fit
--   blank_now, fits_now: they fit an emptied sheet too
use Rattle.std.proofs.Common.{◌≡◌, ℕ, zero, suc, ◌+◌, ◌-◌, ◌*◌, ◌<◌, ◌≤◌, Bool, true, false, ◌||◌, ltb, List, [], ◌∷◌, ◌++◌, map, length, get_or, take, drop, set, replicate, Some, Ok, Result, sym, refl, ap, ◌∙◌, subst, inl, inr, max, mul-le-mul, arith, length-drop}
use lib.ListN.{length-map}
use Rattle.std.specs.List.{AllByRecursion}
use Rattle.std.proofs.ByRecursion.{All-get_or}
use Rattle.std.proofs.lemmas.List.{drop_more, drop_all, take_all, append-nil, length-replicate, get_or-replicate, drop-replicate, get_or-map}
use Rattle.std.proofs.lemmas.List.Sums.{sum_by-cons, sum_by-append, sum_by-take-drop}
use Rattle.std.proofs.lemmas.Bool.{cases_lt, lt-ltb, le-ltb, cond-true, cond-false, or_from}
use Rattle.symbols.specs.declared.refusals.Refusal.{Refusal}
use Rattle.symbols.specs.declared.symbols.Symbol.{Symbol}
use Rattle.rules.specs.Words.{Drawing, Lawful, drawn, judged}
use Rattle.model.specs.Sheets.{Sheet}
use Rattle.rules.proofs.Correspondence.{judged_ok}
use Rattle.rules.proofs.Words.{parts}
use Rattle.plain.specs.Plain.{Plain, Offer, draw, empty, replace, write, clear, offered, drawn_word, outcome, answered, left_by, step, symbols_in, symbols_of, some_over}
use Rattle.plain.proofs.Offers.{replace_ok}
use Rattle.plain.proofs.Steps.{accepted_drawings}
use Rattle.codec.proofs.Reading.{some_inj}
use Rattle.stores.specs.Sources.{Told, LawfulTold, word_at, sheet_told}
use Rattle.stores.proofs.Fronts.{put_more}
use Rattle.stores.proofs.Writes.{counted}
use Rattle.calls.specs.Kept.{emptied}
use Rattle.calls.specs.Fits.{Fits}

pub word_lawful : (t : Told) → LawfulTold t → (p : ℕ) → p < t.width * t.height → Lawful (word_at t p)
word_lawful t l p h = All-get_or Lawful t.words p [] (omega (arith, l.whole)) l.words

-- counting

-- the words ws but for those that are left are counted
pub record Counting (ws left : List (List Symbol)) (longest total : ℕ) : Type 0 where
  pub over : (n : ℕ) → some_over n (map drawn ws) ≡ (ltb n longest || some_over n (map drawn left))
  pub sum : total + symbols_of (map drawn left) ≡ symbols_of (map drawn ws)
  pub good : AllByRecursion Lawful left

pub count_begins : (ws left : List (List Symbol)) → left ≡ ws → AllByRecursion Lawful ws → Counting ws left 0 0
count_begins ws left e good =
    rw e record {
      over = λ n. ap (λ (x : Bool). x || some_over n (map drawn ws)) (sym (le-ltb n 0 (omega arith)));
      sum = omega arith;
      good = good;
    }

symbols_few : (ws : List (List Symbol)) → AllByRecursion Lawful ws → symbols_of (map drawn ws) ≤ 64 * length ws
symbols_few [] a = omega arith
symbols_few (w ∷ ws) a = (let n = (parts w a.0).most in omega (arith, sum_by-cons symbols_in (drawn w) (map drawn ws), counted w a.0, symbols_few ws a.1))

pub told_few : (t : Told) → LawfulTold t → symbols_of (map drawn t.words) ≤ 64 * 4096
told_few t l =
    let p : t.width * t.height ≤ 64 * 64 = mul-le-mul l.most_width l.most_height in
    omega (arith, symbols_few t.words l.words, l.whole)

ltb_max : (n a b : ℕ) → ltb n (max a b) ≡ (ltb n a || ltb n b)
ltb_max n a b =
    elim (cases_lt n b) [
      | inl h ↦ rw (lt-ltb n b h, lt-ltb n (max a b) (omega arith)) (sym (or_true (ltb n a)))
      | inr h ↦
          elim (cases_lt n a) [
            | inl k ↦ rw (lt-ltb n a k, lt-ltb n (max a b) (omega arith)) refl
            | inr k ↦ rw (le-ltb n a k, le-ltb n b h, le-ltb n (max a b) (omega arith)) refl
          ]
    ]
  where
    or_true : (x : Bool) → (x || true) ≡ true
    or_true true = refl
    or_true false = refl

module _ (ws left rest : List (List Symbol)) (w : List Symbol) (longest total len : ℕ) (is : left ≡ w ∷ rest) (e : len ≡ length w) (v : Counting ws left longest total) where
  good : AllByRecursion Lawful (w ∷ rest)
  good = subst (AllByRecursion Lawful) is v.good

  long : symbols_in (drawn w) ≡ len
  long = counted w good.0 ∙ sym e

  sum_more : symbols_of (map drawn left) ≡ len + symbols_of (map drawn rest)
  sum_more =
      ap (λ (xs : List (List Symbol)). symbols_of (map drawn xs)) is
      ∙ sum_by-cons symbols_in (drawn w) (map drawn rest)
      ∙ ap (λ (x : ℕ). x + symbols_of (map drawn rest)) long

  some_more : (n : ℕ) → some_over n (map drawn left) ≡ (ltb n len || some_over n (map drawn rest))
  some_more n =
      ap (λ (xs : List (List Symbol)). some_over n (map drawn xs)) is
      ∙ ap (λ (x : ℕ). ltb n x || some_over n (map drawn rest)) long

  pub count_few : symbols_of (map drawn ws) ≤ 64 * 4096 → total + len ≤ 64 * 4096
  count_few few = (let s = sum_more in omega (arith, v.sum))

  pub count_on : (longest' total' : ℕ) → longest' ≡ max longest len → total' ≡ total + len → Counting ws rest longest' total'
  count_on longest' total' a b =
      let s = sum_more in
      record {
        over = λ n.
            v.over n
            ∙ ap (λ (x : Bool). ltb n longest || x) (some_more n)
            ∙ sym (joins (ltb n longest) (ltb n len) (some_over n (map drawn rest)))
            ∙ ap (λ (x : Bool). x || some_over n (map drawn rest)) (sym (ltb_max n longest len) ∙ ap (ltb n) (sym a));
        sum = omega (arith, v.sum);
        good = good.1;
      }
    where
      joins : (x y z : Bool) → ((x || y) || z) ≡ (x || (y || z))
      joins true y z = refl
      joins false y z = refl

pub count_all : (ws left : List (List Symbol)) (longest total : ℕ) → left ≡ [] → Counting ws left longest total → ((n : ℕ) → some_over n (map drawn ws) ≡ ltb n longest) × (total ≡ symbols_of (map drawn ws))
count_all ws left longest total e v = (
  λ n. v.over n ∙ ap (λ (xs : List (List Symbol)). ltb n longest || some_over n (map drawn xs)) e ∙ none (ltb n longest),
  (let z : symbols_of (map drawn left) ≡ 0 = ap (λ (xs : List (List Symbol)). symbols_of (map drawn xs)) e in omega (arith, v.sum)),
)
  where
    none : (x : Bool) → (x || false) ≡ x
    none true = refl
    none false = refl

-- drawings written one after another

-- a plain sheet whose drawings before a pixel are replaced
abbrev pub redrawn : Plain → List Drawing → ℕ → Plain
redrawn s new i = left_by s (Ok (take i new ++ drop i s.drawings))

pub redraw_all : (s now : Plain) (new : List Drawing) (i : ℕ) → length new ≤ i → length s.drawings ≤ i → now ≡ redrawn s new i → now ≡ left_by s (Ok new)
redraw_all s now new i h k e =
    e ∙ ap (λ (ds : List Drawing). left_by s (Ok ds)) (ap (λ (ds : List Drawing). take i new ++ ds) (drop_all i s.drawings k) ∙ append-nil (take i new) ∙ take_all i new h)

-- one drawing more, by an offer for its pixel that is accepted
redraw_on : (s : Plain) (new : List Drawing) (i : ℕ) (o : Offer) → i < length new → i < length s.drawings → outcome (redrawn s new i) o ≡ Ok (set (redrawn s new i).drawings i (get_or new i [])) → left_by (redrawn s new i) (outcome (redrawn s new i) o) ≡ redrawn s new (i + 1)
redraw_on s new i o h k e =
    ap (left_by (redrawn s new i)) e
    ∙ ap (λ (ds : List Drawing). left_by s (Ok ds)) (put_more new s.drawings (redrawn s new i).drawings [] i (get_or new i []) h k refl refl)

pub empty_more : (s now : Plain) (n i : ℕ) → n ≡ s.width * s.height → length s.drawings ≡ n → i < n → now ≡ redrawn s (replicate n []) i → (t : Plain) → t ≡ step now (clear i) → t ≡ redrawn s (replicate n []) (i + 1)
empty_more s now n i q whole h e t a =
    let new : List Drawing = replicate n [] in
    let l : length new ≡ n = length-replicate n [] in
    let d : get_or new i [] ≡ [] = get_or-replicate n i [] [] h in
    let y : ltb i (s.width * s.height) ≡ true = lt-ltb i (s.width * s.height) (omega arith) in
    let o : outcome (redrawn s new i) (empty i) ≡ Ok (set (redrawn s new i).drawings i (get_or new i [])) =
    cond-true _ _ _ y ∙ ap (λ (x : Drawing). Ok (set (redrawn s new i).drawings i x)) (sym d) in
    a ∙ ap (λ (x : Plain). step x (clear i)) e ∙ redraw_on s new i (empty i) (omega arith) (omega arith) o

-- a record's words written over an empty sheet

-- empty drawings behind the first have no more symbols than any others
sum_blank : (ds : List Drawing) (i n : ℕ) → length ds ≡ n → symbols_of (take i ds ++ drop i (replicate n [])) ≤ symbols_of ds
sum_blank ds i n e =
    let blank : List Drawing = replicate n [] in
    let a = sum_by-append symbols_in (take i ds) (drop i blank) in
    let b = sum_by-take-drop symbols_in ds i in
    let c : symbols_of (drop i blank) ≤ symbols_of (drop i ds) =
    subst (λ (x : List Drawing). symbols_of x ≤ symbols_of (drop i ds)) (sym (drop-replicate i n []))
    (blank_least (n - i) (drop i ds) (length-drop i ds ∙ ap (λ (x : ℕ). x - i) e)) in
    omega arith
  where
    blank_least : (m : ℕ) (es : List Drawing) → length es ≡ m → symbols_of (replicate m []) ≤ symbols_of es
    blank_least m [] q = (let z : m ≡ 0 = sym q in subst (λ (x : ℕ). symbols_of (replicate x []) ≤ symbols_of []) (sym z) (omega arith))
    blank_least zero (d ∷ es) q = absurd (omega arith)
    blank_least (suc m) (d ∷ es) q =
        let u = sum_by-cons symbols_in [] (replicate m []) in
        let v = sum_by-cons symbols_in d es in
        omega (arith, blank_least m es (omega arith))

-- the pixels before one have the words of a record, and those of the others are left
pub record Passing (s : Plain) (t : Told) (now : Plain) (left : List (List Symbol)) (i : ℕ) : Type 0 where
  pub words : left ≡ drop i t.words
  pub drawn_so_far : now ≡ redrawn s (sheet_told t).drawings i

module _ (s : Plain) (t : Told) (l : LawfulTold t) (f : Fits s t) (b : s ≡ emptied s) where
  abbrev new : List Drawing
  new = (sheet_told t).drawings

  pub same_pixels : t.width * t.height ≡ s.width * s.height
  same_pixels = ap (λ (x : ℕ). x * t.height) f.width ∙ ap (λ (x : ℕ). s.width * x) f.height

  pub new_length : length new ≡ s.width * s.height
  new_length = length-map t.words drawn ∙ l.whole ∙ same_pixels

  blank_is : s.drawings ≡ replicate (s.width * s.height) []
  blank_is = ap (λ (x : Plain). x.drawings) b

  pub old_length : length s.drawings ≡ s.width * s.height
  old_length = ap length blank_is ∙ length-replicate (s.width * s.height) []

  -- the word of the next pixel is accepted
  accepts : (i : ℕ) → i < s.width * s.height → outcome (redrawn s new i) (draw i (drawn_word (judged (word_at t i)))) ≡ Ok (set (redrawn s new i).drawings i (get_or new i []))
  accepts i h =
      let d = drawn (word_at t i) in
      let w : Lawful (word_at t i) = word_lawful t l i (omega (arith, same_pixels)) in
      let same : get_or new i [] ≡ d = get_or-map drawn t.words i [] [] (omega (arith, l.whole, same_pixels)) in
      let more : set (redrawn s new i).drawings i (get_or new i []) ≡ take (i + 1) new ++ drop (i + 1) s.drawings =
      put_more new s.drawings (redrawn s new i).drawings [] i (get_or new i []) (omega (arith, new_length)) (omega (arith, old_length)) refl refl in
      let short : (ltb s.longest (symbols_in (get_or new i [])) || false) ≡ false =
      or_from _ _ (le-ltb s.longest (symbols_in (get_or new i [])) (All-get_or (λ d. symbols_in d ≤ s.longest) new i [] (omega (arith, new_length)) f.to_longest)) refl in
      let least : symbols_of (take (i + 1) new ++ drop (i + 1) s.drawings) ≤ symbols_of new =
      subst (λ (x : List Drawing). symbols_of (take (i + 1) new ++ drop (i + 1) x) ≤ symbols_of new) (sym blank_is) (sum_blank new (i + 1) (s.width * s.height) new_length) in
      let few : symbols_of (set (redrawn s new i).drawings i (get_or new i [])) ≤ s.total = omega (arith, ap symbols_of more, f.to_total) in
      let y = lt-ltb i (s.width * s.height) h in
      let ok : outcome (redrawn s new i) (draw i (Ok (get_or new i []))) ≡ Ok (set (redrawn s new i).drawings i (get_or new i [])) =
      cond-true _ _ _ y ∙ cond-false _ _ _ short ∙ cond-false _ _ _ (le-ltb s.total (symbols_of (set (redrawn s new i).drawings i (get_or new i []))) few) in
      ap (λ (x : Result Drawing Refusal). outcome (redrawn s new i) (draw i x)) (ap drawn_word (judged_ok (word_at t i) w) ∙ ap Ok (sym same)) ∙ ok

  pub write_more : (now u : Plain) (i : ℕ) (w : List Symbol) → i < s.width * s.height → now ≡ redrawn s new i → w ≡ word_at t i → u ≡ step now (write i w) → u ≡ redrawn s new (i + 1)
  write_more now u i w h e q a =
      a ∙ ap (λ (x : List Symbol). step now (write i x)) q ∙ ap (λ (x : Plain). step x (write i (word_at t i))) e
      ∙ redraw_on s new i (offered (write i (word_at t i))) (omega (arith, new_length)) (omega (arith, old_length)) (accepts i h)

  -- a turn of the loop over the words of a record
  pub pass_more : (now u : Plain) (left rest : List (List Symbol)) (w : List Symbol) (i p j : ℕ) → i < s.width * s.height → p ≡ i → j ≡ i + 1 → left ≡ w ∷ rest → u ≡ step now (write p w) → Passing s t now left i → Passing s t u rest j
  pass_more now u left rest w i p j h here on is a v =
      let cut : word_at t i ∷ drop (i + 1) t.words ≡ w ∷ rest = sym (drop_more t.words i [] (omega (arith, l.whole, same_pixels))) ∙ sym v.words ∙ is in
      let same : w ≡ word_at t i = cc in
      let behind : rest ≡ drop (i + 1) t.words = cc in
      record {
        words = behind ∙ ap (λ (x : ℕ). drop x t.words) (sym on);
        drawn_so_far = write_more now u i w h v.drawn_so_far same (a ∙ ap (λ (x : ℕ). step now (write x w)) here) ∙ ap (λ (x : ℕ). redrawn s new x) (sym on);
      }

  pub pass_all : (now : Plain) (left : List (List Symbol)) (i : ℕ) → s.width * s.height ≤ i → Passing s t now left i → now ≡ left_by s (Ok new)
  pass_all now left i h v = redraw_all s now new i (omega (arith, new_length)) (omega (arith, old_length)) v.drawn_so_far

  pub pass_none : (now : Plain) (left : List (List Symbol)) (i : ℕ) → left ≡ [] → Passing s t now left i → s.width * s.height ≤ i
  pass_none now left i e v = omega (arith, ap length (sym v.words ∙ e), length-drop i t.words, l.whole, same_pixels)

-- what is accepted fits
pub accepted_fits : (s : Plain) (t : Told) → answered (outcome s (replace (Some (sheet_told t)))) ≡ Ok tt → Fits s t
accepted_fits s t e =
    let a = accepted_drawings s (replace (Some (sheet_told t))) e in
    let b = replace_ok s (Some (sheet_told t)) a.0 a.1 in
    let q : b.sheet ≡ sheet_told t = sym (some_inj b.offer) in
    record {
      width = ap (λ (x : Sheet). x.width) (sym q) ∙ b.width;
      height = ap (λ (x : Sheet). x.height) (sym q) ∙ b.height;
      to_longest = subst (λ (x : Sheet). AllByRecursion (λ d. symbols_in d ≤ s.longest) x.drawings) q b.limits.to_longest;
      to_total = subst (λ (x : Sheet). symbols_of x.drawings ≤ s.total) q b.limits.to_total;
    }

-- an emptied sheet has the same limits
pub blank_now : (s p : Plain) → p ≡ emptied s → p ≡ emptied p
blank_now s p e = e ∙ sym (ap emptied e)

pub fits_now : (s p : Plain) (t : Told) → p ≡ emptied s → Fits s t → Fits p t
fits_now s p t e f = subst (λ (x : Plain). Fits x t) (sym e) (record { width = f.width; height = f.height; to_longest = f.to_longest; to_total = f.to_total })
