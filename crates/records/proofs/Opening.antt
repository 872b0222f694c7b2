-- A record by its parts: header, runs, words.
--   headed: a record of edition 1 is what stands behind its header
--   runs_split: so many runs are read from bytes that have four for each
--   trues: how many marks are set
--   extend_pixels, runs_pixels: the runs of marks have as many pixels as marks are set
--   place: where a pixel stands among the pixels of runs, which are not looked at
--   spot_place: of runs that are sound it is its spot
--   place_low, place-extend, place_marks: of the runs of marks it is its rank
--   drawings_skip: the bits behind the drawings that are read are those behind so many words
--   drawn_at: what the word of a rank draws
--   empty_first, word_first, drawings_words: what is drawn is what the word of its rank draws
--   told_by: what is told of a size, runs and bits
--   bad_length, bad_runs, bad_words, good_record: what a header with the bytes behind it is read as
--   told_word: the word that is told of a pixel
use Rattle.std.proofs.Common.{◌≡◌, ℕ, zero, suc, ◌+◌, ◌-◌, ◌*◌, ◌<◌, ◌≤◌, Bool, true, false, cond, ◌&&◌, eqb, ltb, leb, List, [], ◌∷◌, map, length, get_or, take, drop, Some, None, Option, sym, refl, ap, ◌∙◌, zero-add, arith}
use lib.ListN.{length-map}
use Rattle.std.specs.Option.{option_map}
use Rattle.std.proofs.lemmas.List.{ext_get_or, get_or-map}
use Rattle.std.proofs.lemmas.Bool.{true≢false, and_parts, and_from, and_left, eq-eqb, eqb-true, le-leb, lt-leb}
use Rattle.symbols.specs.declared.symbols.Symbol.{Symbol}
use Rattle.rules.specs.Words.{Drawing, drawn, lawful}
use Rattle.model.specs.Sheets.{Sheet}
use Rattle.model.specs.Darts.{up_to}
use Rattle.codec.specs.Reading.{and_then, guard}
use Rattle.codec.specs.Bits.{bits_of, padding}
use Rattle.codec.specs.Words.{cut, shown, read_drawings}
use Rattle.codec.specs.Runs.{Run, run, extend, runs, within, covers, sound, Sound}
use Rattle.codec.specs.Records.{read_runs, read_rest, side, sheet_of}
use Rattle.codec.specs.Loops.{rank}
use Rattle.codec.proofs.Reading.{some_inj, after, allowed}
use Rattle.codec.proofs.Words.{drawings_stood}
use Rattle.codec.proofs.Runs.{sound_parts, within_here, within_one, within_more, runs_sound, runs_covers, covers_length}
use Rattle.stores.specs.Sources.{sheet_told, word_at}
use Rattle.stores.specs.Numbered.{word_numbered, words_numbered}
use Rattle.records.specs.Stretches.{run_list, run_pixels, follows, spot}
use Rattle.records.specs.Behind.{in_run, any_word, skips, padded, all_words, word_behind}
use Rattle.records.specs.Told.{or_empty_word, word_in, side_or_one, record_told}
use Rattle.records.specs.Header.{behind_header}

pub headed : (bs : List ℕ) → 5 ≤ length bs → get_or bs 0 0 ≡ 1 → side (get_or bs 1 0) ≡ true → side (get_or bs 2 0) ≡ true → sheet_of bs ≡ behind_header (get_or bs 1 0) (get_or bs 2 0) (get_or bs 3 0 * 256 + get_or bs 4 0) (drop 5 bs)
headed [] l o w h = absurd (omega arith)
headed (a ∷ []) l o w h = absurd (omega arith)
headed (a ∷ b ∷ []) l o w h = absurd (omega arith)
headed (a ∷ b ∷ c ∷ []) l o w h = absurd (omega arith)
headed (a ∷ b ∷ c ∷ d ∷ []) l o w h = absurd (omega arith)
headed (a ∷ b ∷ c ∷ d ∷ e ∷ bs) l o w h =
    let g : (eqb a 1 && (side b && side c)) ≡ true = and_from (eqb a 1) (side b && side c) (eq-eqb a 1 o) (and_from (side b) (side c) w h) in
    ap (λ (t : Bool). guard t (behind_header b c (d * 256 + e) bs)) g

pub runs_split : (n : ℕ) (bs : List ℕ) → 4 * n ≤ length bs → read_runs n bs ≡ Some (run_list (take (4 * n) bs), drop (4 * n) bs)
runs_split zero bs h = refl
runs_split (suc n) [] h = absurd (omega arith)
runs_split (suc n) (a ∷ []) h = absurd (omega arith)
runs_split (suc n) (a ∷ b ∷ []) h = absurd (omega arith)
runs_split (suc n) (a ∷ b ∷ c ∷ []) h = absurd (omega arith)
runs_split (suc n) (a ∷ b ∷ c ∷ d ∷ bs) h =
    let e : 4 * suc n ≡ suc (suc (suc (suc (4 * n)))) = omega arith in
    let i = runs_split n bs (omega arith) in
    ap (λ (o : Option (List Run × List ℕ)). and_then o (λ q. Some (run (a * 256 + b) (c * 256 + d) ∷ q.0, q.1))) i
    ∙ ap (λ (m : ℕ). Some (run_list (take m (a ∷ b ∷ c ∷ d ∷ bs)), drop m (a ∷ b ∷ c ∷ d ∷ bs))) (sym e)

pub runs_short : (n : ℕ) (bs : List ℕ) → length bs < 4 * n → read_runs n bs ≡ None
runs_short zero bs h = absurd (omega arith)
runs_short (suc n) [] h = refl
runs_short (suc n) (a ∷ []) h = refl
runs_short (suc n) (a ∷ b ∷ []) h = refl
runs_short (suc n) (a ∷ b ∷ c ∷ []) h = refl
runs_short (suc n) (a ∷ b ∷ c ∷ d ∷ bs) h =
    ap (λ (o : Option (List Run × List ℕ)). and_then o (λ q. Some (run (a * 256 + b) (c * 256 + d) ∷ q.0, q.1))) (runs_short n bs (omega arith))

-- marks

abbrev pub trues : List Bool → ℕ
trues [] = 0
trues (true ∷ ms) = suc (trues ms)
trues (false ∷ ms) = trues ms

extend_pixels : (p : ℕ) (rs : List Run) → run_pixels (extend p rs) ≡ suc (run_pixels rs)
extend_pixels p [] = refl
extend_pixels p (r ∷ rs) = by (eqb r.offset (suc p))
  where
    by : (t : Bool) → run_pixels (cond t (run p (suc r.count) ∷ rs) (run p 1 ∷ r ∷ rs)) ≡ suc (r.count + run_pixels rs)
    by true = omega arith
    by false = omega arith

pub runs_pixels : (p : ℕ) (ms : List Bool) → run_pixels (runs p ms) ≡ trues ms
runs_pixels p [] = refl
runs_pixels p (false ∷ ms) = runs_pixels (suc p) ms
runs_pixels p (true ∷ ms) = extend_pixels p (runs (suc p) ms) ∙ ap suc (runs_pixels (suc p) ms)

abbrev place : List Run → ℕ → Option ℕ
place [] p = None
place (r ∷ rs) p = cond (within r p) (Some (p - r.offset)) (option_map (λ n. r.count + n) (place rs p))

spot_place : (low end : ℕ) (rs : List Run) (p : ℕ) → Sound low end rs → spot low end rs p ≡ place rs p
spot_place low end [] p h = refl
spot_place low end (r ∷ rs) p h =
    let f : follows low end r ≡ true = and_from (leb low r.offset) (leb 1 r.count && leb (r.offset + r.count) end) (le-leb low r.offset h.0) (and_from (leb 1 r.count) (leb (r.offset + r.count) end) (le-leb 1 r.count h.1) (le-leb (r.offset + r.count) end h.2)) in
    rw (f, spot_place (suc (r.offset + r.count)) end rs p h.3)

place_low : (low end : ℕ) (rs : List Run) (p : ℕ) → Sound low end rs → p < low → place rs p ≡ None
place_low low end [] p h l = refl
place_low low end (r ∷ rs) p h l =
    let a = h.0 in
    let w : within r p ≡ false = and_left (leb r.offset p) (ltb p (r.offset + r.count)) (lt-leb r.offset p (omega arith)) in
    rw (w, place_low (suc (r.offset + r.count)) end rs p h.3 (omega arith))

place_here : (p : ℕ) (rs : List Run) → place (extend p rs) p ≡ Some 0
place_here p [] = (let z : p - p ≡ 0 = omega arith in rw (within_here p 0, z))
place_here p (r ∷ rs) = by (eqb r.offset (suc p))
  where
    z : p - p ≡ 0
    z = omega arith

    by : (t : Bool) → place (cond t (run p (suc r.count) ∷ rs) (run p 1 ∷ r ∷ rs)) p ≡ Some 0
    by true = rw (within_here p r.count, z)
    by false = rw (within_here p 0, z)

one_more : (o : Option ℕ) → option_map (λ n. 1 + n) o ≡ option_map suc o
one_more None = refl
one_more (Some n) = ap Some (omega arith)

place_past : (p k : ℕ) (rs : List Run) → suc p ≤ k → place (extend p rs) k ≡ option_map suc (place rs k)
place_past p k [] l = rw (within_one p k l)
place_past p k (r ∷ rs) l = by (eqb r.offset (suc p)) refl
  where
    grown : (c : ℕ) (t : Bool) → cond t (Some (k - p)) (option_map (λ n. suc c + n) (place rs k)) ≡ option_map suc (cond t (Some (k - suc p)) (option_map (λ n. c + n) (place rs k)))
    grown c true = ap Some (omega arith)
    grown c false = counted (place rs k)
      where
        counted : (o : Option ℕ) → option_map (λ n. suc c + n) o ≡ option_map suc (option_map (λ n. c + n) o)
        counted None = refl
        counted (Some n) = ap Some (omega arith)

    by : (t : Bool) → eqb r.offset (suc p) ≡ t → place (cond t (run p (suc r.count) ∷ rs) (run p 1 ∷ r ∷ rs)) k ≡ option_map suc (place (r ∷ rs) k)
    by true e =
        let o : r.offset ≡ suc p = eqb-true r.offset (suc p) e in
        ap (λ (t : Bool). cond t (Some (k - p)) (option_map (λ n. suc r.count + n) (place rs k))) (within_more p r.count k l)
        ∙ grown r.count (within (run (suc p) r.count) k)
        ∙ ap (λ (f : ℕ). option_map suc (place (run f r.count ∷ rs) k)) (sym o)
    by false e = ap (λ (t : Bool). cond t (Some (k - p)) (option_map (λ n. 1 + n) (place (r ∷ rs) k))) (within_one p k l) ∙ one_more (place (r ∷ rs) k)

pub place_marks : (p k : ℕ) (ms : List Bool) → place (runs p ms) (p + k) ≡ cond (get_or ms k false) (Some (rank ms k)) None
place_marks p k [] = refl
place_marks p zero (false ∷ ms) =
    place_low (suc p) (suc p + length ms) (runs (suc p) ms) (p + 0) (runs_sound ms (suc p) (suc p + length ms) (omega arith)) (omega arith)
place_marks p (suc k) (false ∷ ms) = (let e : p + suc k ≡ suc p + k = omega arith in ap (place (runs (suc p) ms)) e ∙ place_marks (suc p) k ms)
place_marks p zero (true ∷ ms) = (let e : p + 0 ≡ p = omega arith in ap (place (extend p (runs (suc p) ms))) e ∙ place_here p (runs (suc p) ms))
place_marks p (suc k) (true ∷ ms) =
    let e : p + suc k ≡ suc p + k = omega arith in
    place_past p (p + suc k) (runs (suc p) ms) (omega arith)
    ∙ ap (λ (q : ℕ). option_map suc (place (runs (suc p) ms) q)) e
    ∙ ap (option_map suc) (place_marks (suc p) k ms)
    ∙ by (get_or ms k false)
  where
    by : (t : Bool) → option_map suc (cond t (Some (rank ms k)) None) ≡ cond t (Some (suc (rank ms k))) None
    by true = refl
    by false = refl

-- words

pub drawings_skip : (ms bits : List Bool) → option_map (λ (q : List Drawing × List Bool). q.1) (read_drawings ms bits) ≡ skips in_run (trues ms) bits
drawings_skip [] bits = refl
drawings_skip (false ∷ ms) bits = by (read_drawings ms bits) ∙ drawings_skip ms bits
  where
    by : (o : Option (List Drawing × List Bool)) → option_map (λ (q : List Drawing × List Bool). q.1) (and_then {B = List Drawing × List Bool} o (λ q. Some ([] ∷ q.0, q.1))) ≡ option_map (λ (q : List Drawing × List Bool). q.1) o
    by None = refl
    by (Some q) = refl
drawings_skip (true ∷ ms) bits = by (λ bs. drawings_skip ms bs) (cut 64 4 bits)
  where
    more : (d : Drawing) (o : Option (List Drawing × List Bool)) → option_map (λ (q : List Drawing × List Bool). q.1) (and_then {B = List Drawing × List Bool} o (λ q. Some (d ∷ q.0, q.1))) ≡ option_map (λ (q : List Drawing × List Bool). q.1) o
    more d None = refl
    more d (Some q) = refl

    judged : (t : Bool) (d : Drawing) (bs : List Bool) → option_map (λ (q : List Drawing × List Bool). q.1) (read_drawings ms bs) ≡ skips in_run (trues ms) bs → option_map (λ (q : List Drawing × List Bool). q.1) (guard t (and_then {B = List Drawing × List Bool} (read_drawings ms bs) (λ q. Some (d ∷ q.0, q.1)))) ≡ guard t (skips in_run (trues ms) bs)
    judged true d bs ih = more d (read_drawings ms bs) ∙ ih
    judged false d bs ih = refl

    by : ((bs : List Bool) → option_map (λ (q : List Drawing × List Bool). q.1) (read_drawings ms bs) ≡ skips in_run (trues ms) bs) → (o : Option (List Symbol × List Bool)) → option_map (λ (q : List Drawing × List Bool). q.1) (and_then o (λ p. guard (in_run p.0) (and_then {B = List Drawing × List Bool} (read_drawings ms p.1) (λ q. Some (drawn p.0 ∷ q.0, q.1))))) ≡ and_then o (λ p. guard (in_run p.0) (skips in_run (trues ms) p.1))
    by ih None = refl
    by ih (Some p) = judged (in_run p.0) (drawn p.0) p.1 (ih p.1)

-- what the word of a rank draws, or nothing where there is no rank
abbrev drawn_at : Option ℕ → List Bool → Drawing
drawn_at o bits = drawn (or_empty_word (and_then o (λ n. word_behind n bits)))

empty_first : (ds : List Drawing) (ms bits : List Bool) (k : ℕ) → ((j : ℕ) → j < length ms → get_or ds j [] ≡ drawn_at (cond (get_or ms j false) (Some (rank ms j)) None) bits) → k < suc (length ms) → get_or ([] ∷ ds) k [] ≡ drawn_at (cond (get_or (false ∷ ms) k false) (Some (rank (false ∷ ms) k)) None) bits
empty_first ds ms bits zero ih l = refl
empty_first ds ms bits (suc k) ih l = ih k (omega arith)

word_first : (p : List Symbol × List Bool) (ds : List Drawing) (ms bits : List Bool) (k : ℕ) → cut 64 4 bits ≡ Some p → lawful p.0 ≡ true → ((j : ℕ) → j < length ms → get_or ds j [] ≡ drawn_at (cond (get_or ms j false) (Some (rank ms j)) None) p.1) → k < suc (length ms) → get_or (drawn p.0 ∷ ds) k [] ≡ drawn_at (cond (get_or (true ∷ ms) k false) (Some (rank (true ∷ ms) k)) None) bits
word_first p ds ms bits zero e law ih l =
    sym (ap (λ (o : Option (List Symbol × List Bool)). drawn (or_empty_word (and_then o (λ q. guard (lawful q.0) (Some q.0))))) e
    ∙ ap (λ (t : Bool). drawn (or_empty_word (guard t (Some p.0)))) law)
word_first p ds ms bits (suc k) e law ih l = ih k (omega arith) ∙ by (get_or ms k false)
  where
    by : (t : Bool) → drawn_at (cond t (Some (rank ms k)) None) p.1 ≡ drawn_at (cond t (Some (suc (rank ms k))) None) bits
    by true =
        sym (ap (λ (o : Option (List Symbol × List Bool)). drawn (or_empty_word (and_then (and_then o (λ q. guard (any_word q.0) (skips any_word (rank ms k) q.1))) (λ rest. and_then (cut 64 4 rest) (λ q. guard (lawful q.0) (Some q.0)))))) e)
    by false = refl

pub drawings_words : (ms bits : List Bool) (x : List Drawing × List Bool) (k : ℕ) → read_drawings ms bits ≡ Some x → k < length ms → get_or x.0 k [] ≡ drawn_at (cond (get_or ms k false) (Some (rank ms k)) None) bits
drawings_words [] bits x k e l = absurd (omega arith)
drawings_words (false ∷ ms) bits x k e l =
    after (read_drawings ms bits) _ e λ q a b.
    ap (λ (y : List Drawing × List Bool). get_or y.0 k []) (sym (some_inj b)) ∙ empty_first q.0 ms bits k (λ j m. drawings_words ms bits q j a m) l
drawings_words (true ∷ ms) bits x k e l =
    after (cut 64 4 bits) _ e λ p a b. allowed (in_run p.0) _ b λ g c. after (read_drawings ms p.1) _ c λ q d f.
    ap (λ (y : List Drawing × List Bool). get_or y.0 k []) (sym (some_inj f))
    ∙ word_first p q.0 ms bits k a (and_parts (lawful p.0) (shown (drawn p.0)) g).0 (λ j m. drawings_words ms p.1 q j d m) l

-- the whole of it

side_same : (n : ℕ) → side n ≡ true → side_or_one n ≡ n
side_same n e = rw e

-- what is told of a size, runs and bits
abbrev told_by : ℕ → ℕ → List Run → List Bool → Sheet
told_by w h rs bits = sheet_told (record { width = w; height = h; words = map (word_in (w * h) rs bits) (up_to (w * h)) })

-- a sheet of drawings that are read, if only padding is left
abbrev given : ℕ → ℕ → Option (List Drawing × List Bool) → Option Sheet
given w h o = and_then o (λ q. guard (padding q.1) (Some (record { width = w; height = h; drawings = q.0 })))

module _ (w h : ℕ) (rs : List Run) (bits : List Bool) (so : sound 0 (w * h) rs ≡ true) where
  abbrev ms : List Bool
  ms = covers rs 0 (w * h)

  runs_back : runs 0 ms ≡ rs
  runs_back = runs_covers (w * h) 0 (w * h) rs (sym (zero-add (w * h))) (sound_parts 0 (w * h) rs so)

  skipped : option_map (λ (q : List Drawing × List Bool). q.1) (read_drawings ms bits) ≡ skips in_run (run_pixels rs) bits
  skipped = drawings_skip ms bits ∙ ap (λ (k : ℕ). skips in_run k bits) (sym (runs_pixels 0 ms) ∙ ap run_pixels runs_back)

  spotted : (p : ℕ) → spot 0 (w * h) rs p ≡ cond (get_or ms p false) (Some (rank ms p)) None
  spotted p =
      let e : p ≡ 0 + p = omega arith in
      spot_place 0 (w * h) rs p (sound_parts 0 (w * h) rs so)
      ∙ ap (λ (l : List Run). place l p) (sym runs_back)
      ∙ ap (place (runs 0 ms)) e ∙ place_marks 0 p ms

  drawings_told : (q : List Drawing × List Bool) → read_drawings ms bits ≡ Some q → q.0 ≡ (told_by w h rs bits).drawings
  drawings_told q e =
      let f = word_in (w * h) rs bits in
      let n : length ms ≡ w * h = covers_length rs 0 (w * h) in
      let m : length q.0 ≡ w * h = sym (length-map q.0 shown) ∙ ap length (drawings_stood ms bits q e).marked ∙ n in
      let a : length (map f (up_to (w * h))) ≡ w * h = words_numbered f (w * h) in
      ext_get_or [] q.0 (map drawn (map f (up_to (w * h)))) (m ∙ sym (length-map (map f (up_to (w * h))) drawn ∙ a))
      (λ i l.
      drawings_words ms bits q i e (omega arith)
      ∙ ap (λ (o : Option ℕ). drawn_at o bits) (sym (spotted i))
      ∙ ap drawn (sym (word_numbered f (w * h) i (omega arith)))
      ∙ sym (get_or-map drawn (map f (up_to (w * h))) i [] [] (omega arith)))

  wordless : all_words (run_pixels rs) bits ≡ false → given w h (read_drawings ms bits) ≡ None
  wordless e = by (read_drawings ms bits) (ap padded skipped ∙ e)
    where
      by : (o : Option (List Drawing × List Bool)) → padded (option_map (λ (q : List Drawing × List Bool). q.1) o) ≡ false → given w h o ≡ None
      by None e = refl
      by (Some q) e = ap (λ (t : Bool). guard t (Some (record { width = w; height = h; drawings = q.0 }))) e

  wordy : all_words (run_pixels rs) bits ≡ true → given w h (read_drawings ms bits) ≡ Some (told_by w h rs bits)
  wordy e = by (read_drawings ms bits) refl (ap padded skipped ∙ e)
    where
      by : (o : Option (List Drawing × List Bool)) → read_drawings ms bits ≡ o → padded (option_map (λ (q : List Drawing × List Bool). q.1) o) ≡ true → given w h o ≡ Some (told_by w h rs bits)
      by None r e = absurd (true≢false (sym e))
      by (Some q) r e =
          ap (λ (t : Bool). guard t (Some (record { width = w; height = h; drawings = q.0 }))) e
          ∙ ap (λ (ds : List Drawing). Some (record { width = w; height = h; drawings = ds })) (drawings_told q r)

-- the record that a header and the bytes behind it are read as, by the parts that the bytes are cut into
module _ (w h n end : ℕ) (rest front back : List ℕ) (fits : 4 * n ≤ length rest) (f : front ≡ take (4 * n) rest) (b : back ≡ drop (4 * n) rest) (size : end ≡ w * h) where
  parted : behind_header w h n rest ≡ read_rest w h (run_list front) back
  parted =
      ap (λ (o : Option (List Run × List ℕ)). and_then o (λ q. read_rest w h q.0 q.1)) (runs_split n rest fits)
      ∙ ap (λ (l : List ℕ). read_rest w h (run_list l) (drop (4 * n) rest)) (sym f)
      ∙ ap (λ (l : List ℕ). read_rest w h (run_list front) l) (sym b)

  judged : (t : Bool) → sound 0 end (run_list front) ≡ t → (sound 0 (w * h) (run_list front) ≡ t) × (behind_header w h n rest ≡ guard t (given w h (read_drawings (covers (run_list front) 0 (w * h)) (bits_of back))))
  judged t e =
      let s : sound 0 (w * h) (run_list front) ≡ t = ap (λ (m : ℕ). sound 0 m (run_list front)) (sym size) ∙ e in
      (s, parted ∙ ap (λ (x : Bool). guard x (given w h (read_drawings (covers (run_list front) 0 (w * h)) (bits_of back)))) s)

  pub bad_runs : sound 0 end (run_list front) ≡ false → behind_header w h n rest ≡ None
  bad_runs e = (judged false e).1

  pub bad_words : (k : ℕ) → sound 0 end (run_list front) ≡ true → k ≡ run_pixels (run_list front) → all_words k (bits_of back) ≡ false → behind_header w h n rest ≡ None
  bad_words k e q a =
      let j = judged true e in
      j.1 ∙ wordless w h (run_list front) (bits_of back) j.0 (ap (λ (m : ℕ). all_words m (bits_of back)) (sym q) ∙ a)

  pub good_record : (k : ℕ) → side w ≡ true → side h ≡ true → sound 0 end (run_list front) ≡ true → k ≡ run_pixels (run_list front) → all_words k (bits_of back) ≡ true → behind_header w h n rest ≡ Some (sheet_told (record_told w h front back))
  good_record k c d e q a =
      let j = judged true e in
      j.1 ∙ wordy w h (run_list front) (bits_of back) j.0 (ap (λ (m : ℕ). all_words m (bits_of back)) (sym q) ∙ a)
      ∙ ap (λ (x : ℕ). Some (told_by x h (run_list front) (bits_of back))) (sym (side_same w c))
      ∙ ap (λ (y : ℕ). Some (told_by (side_or_one w) y (run_list front) (bits_of back))) (sym (side_same h d))

pub bad_length : (w h n : ℕ) (rest : List ℕ) → length rest < 4 * n → behind_header w h n rest ≡ None
bad_length w h n rest l = ap (λ (o : Option (List Run × List ℕ)). and_then o (λ q. read_rest w h q.0 q.1)) (runs_short n rest l)

-- a question

pub told_word : (w h : ℕ) (runs symbols : List ℕ) (a b p : ℕ) → a ≡ side_or_one w → b ≡ side_or_one h → p < a * b → (p < side_or_one w * side_or_one h) × (word_in (a * b) (run_list runs) (bits_of symbols) p ≡ word_at (record_told w h runs symbols) p)
told_word w h runs symbols a b p e f l =
    let n : a * b ≡ side_or_one w * side_or_one h = ap (λ (x : ℕ). x * b) e ∙ ap (λ (y : ℕ). side_or_one w * y) f in
    let m : p < side_or_one w * side_or_one h = omega arith in
    let g = word_in (side_or_one w * side_or_one h) (run_list runs) (bits_of symbols) in
    (m, ap (λ (k : ℕ). word_in k (run_list runs) (bits_of symbols) p) n ∙ sym (word_numbered g (side_or_one w * side_or_one h) p m))
