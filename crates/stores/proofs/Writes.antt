-- What a write answers and leaves, case by case, and what a store keeps to.
--   counted: a lawful word has as many symbols as its drawing counts
--   accepted_word: what is judged to be a word is one
--   told_sheetly: the sheet of lawful words is a sheet
--   Wrote: the answer and the plain sheet after a write
--   write_no_pixel, write_bad, write_long, write_full, write_fine: the cases of a write
--   drawn_short: the drawings of short words count few symbols
--   keeps_told: words that keep to a longest and a total
use Rattle.std.proofs.Common.{◌≡◌, ℕ, ◌*◌, ◌<◌, ◌≤◌, true, false, ◌||◌, ltb, List, [], ◌∷◌, map, length, set, Ok, Err, Result, sym, refl, ap, ◌∙◌, subst, arith}
use lib.ListN.{length-map}
use Rattle.std.specs.List.{AllByRecursion}
use Rattle.std.proofs.lemmas.Bool.{lt-ltb, le-ltb, or_left, or_from}
use Rattle.symbols.specs.declared.refusals.Refusal.{Refusal}
use Rattle.symbols.specs.declared.refusals.Refusal.TheVariants.{NoPixel, OverLongest, OverTotal}
use Rattle.symbols.specs.declared.symbols.Symbol.{Symbol}
use Rattle.rules.specs.Words.{Lawful, drawn, judged}
use Rattle.model.specs.Sheets.{Sheetly, IsDrawing}
use Rattle.rules.proofs.Correspondence.{words_come_back}
use Rattle.plain.specs.Plain.{Plain, Keeps, symbols_in, symbols_of, answer, step, write}
use Rattle.plain.proofs.Offers.{judged_word, words_counted}
use Rattle.stores.specs.Sources.{Told, LawfulTold, sheet_told, plain_told}

pub counted : (w : List Symbol) → Lawful w → symbols_in (drawn w) ≡ length w
counted w l = words_counted.0 w l

pub accepted_word : (w v : List Symbol) → Ok v ≡ judged w → (Ok w ≡ judged w) × Lawful w
accepted_word w v e =
    let j = judged_word w v (sym e) in
    (ap Ok j.0 ∙ e, subst Lawful (sym j.0) j.1)

drawn_all : (ws : List (List Symbol)) → AllByRecursion Lawful ws → AllByRecursion IsDrawing (map drawn ws)
drawn_all [] a = tt
drawn_all (w ∷ ws) a = (let r = words_come_back w a.0 in ((r.1, r.2), drawn_all ws a.1))

pub told_sheetly : (t : Told) → LawfulTold t → Sheetly (sheet_told t)
told_sheetly t l = record {
  some_width = l.some_width;
  most_width = l.most_width;
  some_height = l.some_height;
  most_height = l.most_height;
  whole = length-map t.words drawn ∙ l.whole;
  drawn = drawn_all t.words l.words;
}

module _ (t : Told) (l n : ℕ) where
  pub record Wrote (i : ℕ) (w : List Symbol) (r : Result (Unit {0}) Refusal) (s : Plain) : Type 0 where
    pub answer_is : r ≡ answer (plain_told t l n) (write i w)
    pub after_is : s ≡ step (plain_told t l n) (write i w)

  pub write_no_pixel : (i : ℕ) (w : List Symbol) → t.width * t.height ≤ i → Wrote i w (Err NoPixel) (plain_told t l n)
  write_no_pixel i w h =
      let e = le-ltb i (t.width * t.height) h in
      record { answer_is = rw e; after_is = rw e }

  pub write_bad : (i : ℕ) (w : List Symbol) (f : Refusal) → i < t.width * t.height → Err f ≡ judged w → Wrote i w (Err f) (plain_told t l n)
  write_bad i w f h j =
      let e = lt-ltb i (t.width * t.height) h in
      record { answer_is = rw (e, sym j); after_is = rw (e, sym j) }

  module _ (i : ℕ) (w : List Symbol) (h : i < t.width * t.height) (j : Ok w ≡ judged w) (law : Lawful w) where
    pub write_long : l < length w → Wrote i w (Err OverLongest) (plain_told t l n)
    write_long b =
        let e = lt-ltb i (t.width * t.height) h in
        let o : (ltb l (symbols_in (drawn w)) || false) ≡ true = or_left _ _ (lt-ltb l (symbols_in (drawn w)) (omega (arith, counted w law))) in
        record { answer_is = rw (e, sym j, o); after_is = rw (e, sym j, o) }

    short : length w ≤ l → (ltb l (symbols_in (drawn w)) || false) ≡ false
    short b = or_from _ _ (le-ltb l (symbols_in (drawn w)) (omega (arith, counted w law))) refl

    pub write_full : length w ≤ l → n < symbols_of (set (map drawn t.words) i (drawn w)) → Wrote i w (Err OverTotal) (plain_told t l n)
    write_full b c =
        let e = lt-ltb i (t.width * t.height) h in
        let f = lt-ltb n (symbols_of (set (map drawn t.words) i (drawn w))) c in
        record { answer_is = rw (e, sym j, short b, f); after_is = rw (e, sym j, short b, f) }

    pub write_fine : length w ≤ l → symbols_of (set (map drawn t.words) i (drawn w)) ≤ n → (s : Plain) → s ≡ record { width = t.width; height = t.height; longest = l; total = n; drawings = set (map drawn t.words) i (drawn w) } → Wrote i w (Ok tt) s
    write_fine b c s q =
        let e = lt-ltb i (t.width * t.height) h in
        let f = le-ltb n (symbols_of (set (map drawn t.words) i (drawn w))) c in
        record { answer_is = rw (e, sym j, short b, f); after_is = q ∙ rw (e, sym j, short b, f) }

-- all words

pub drawn_short : (ws : List (List Symbol)) (m : ℕ) → AllByRecursion Lawful ws → AllByRecursion (λ w. length w ≤ m) ws → AllByRecursion (λ d. symbols_in d ≤ m) (map drawn ws)
drawn_short [] m a b = tt
drawn_short (w ∷ ws) m a b = (omega (arith, counted w a.0, b.0), drawn_short ws m a.1 b.1)

pub keeps_told : (t : Told) (l n : ℕ) → LawfulTold t → 4 ≤ l → 4 * (t.width * t.height) ≤ n → AllByRecursion (λ w. length w ≤ l) t.words → symbols_of (map drawn t.words) ≤ n → Keeps (plain_told t l n)
keeps_told t l n k a b c d = record {
  opens = record {
    some_width = k.some_width;
    most_width = k.most_width;
    some_height = k.some_height;
    most_height = k.most_height;
    least_longest = a;
    least_total = b;
  };
  sheetly = told_sheetly t k;
  to_longest = drawn_short t.words l k.words c;
  to_total = d;
}
