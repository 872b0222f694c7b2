-- A sheet and its record come back from each other.
--   runs_read: runs are read from their bytes
--   two_high, two_low: the two bytes of a number
--   RunsStood, runs_stood: what is read stood there
--   side_from, side_parts: what the test of a side says
--   rest_read: the drawings of a sheet are read from what stands behind its runs
--   sheet_read: the record of a sheet is read as that sheet
--   Opened, opened: what stands in bytes that are read as a sheet
--   sheet_written: bytes that are read as a sheet are its record
--   sheets_same: sheets with equal records are equal
--   read_sheetly: what is read is a sheet
--   runs_bytes, record_bytes: a record has bytes
use Rattle.std.proofs.Common.{◌≡◌, ℕ, zero, suc, ◌+◌, ◌*◌, ◌/◌, ◌%◌, ◌<◌, ◌≤◌, Bool, true, false, ◌&&◌, eqb, leb, List, [], ◌∷◌, ◌++◌, length, replicate, Some, sym, refl, ap, ◌∙◌, subst, zero-add, arith}
use lib.ListN.{length-map}
use Rattle.std.specs.List.{flat_map, AllByRecursion}
use Rattle.std.proofs.ByRecursion.{All-append}
use Rattle.std.proofs.lemmas.Bool.{eqb-true, leb-true, le-leb, and_parts, and_from}
use Rattle.std.proofs.lemmas.Nat.{div-mul-add, mod-mul-add, div-add-mod', mul-le}
use Rattle.symbols.specs.declared.symbols.Symbol.{Symbol}
use Rattle.rules.specs.Words.{Drawing}
use Rattle.model.specs.Sheets.{Sheet, Sheetly, IsDrawing, pixels, most_side}
use Rattle.codec.specs.Reading.{guard}
use Rattle.codec.specs.Bits.{Bytes, bits_of, pack, padding}
use Rattle.codec.specs.Words.{symbol_bits, shown, marks, shown_symbols, read_drawings}
use Rattle.codec.specs.Runs.{Run, run, runs, covers, sound, Sound}
use Rattle.codec.specs.Records.{run_bytes, record_of, runs_of, bytes_of, read_runs, side, read_rest, sheet_of}
use Rattle.codec.proofs.Reading.{none_some, some_inj, after, allowed}
use Rattle.codec.proofs.Bits.{bits_of_pack, pack_back, pack_under, padding_parts, padding_replicate}
use Rattle.codec.proofs.Words.{drawings_read, drawings_stood}
use Rattle.codec.proofs.Runs.{sound_parts, sound_from, runs_sound, covers_runs, runs_covers, runs_length, covers_length}

pub runs_read : (rs : List Run) (rest : List ℕ) → read_runs (length rs) (flat_map run_bytes rs ++ rest) ≡ Some (rs, rest)
runs_read [] rest = refl
runs_read (r ∷ rs) rest = rw (runs_read rs rest, div-add-mod' r.offset 256, div-add-mod' r.count 256)

pub two_high : (a b : ℕ) → b < 256 → (a * 256 + b) / 256 ≡ a
two_high a b l = div-mul-add a 256 b l

pub two_low : (a b : ℕ) → b < 256 → (a * 256 + b) % 256 ≡ b
two_low a b l = mod-mul-add a 256 b l

pub record RunsStood (n : ℕ) (bs : List ℕ) (x : List Run × List ℕ) : Type 0 where
  pub bytes : bs ≡ flat_map run_bytes x.0 ++ x.1
  pub many : length x.0 ≡ n
  pub under : Bytes x.1

pub runs_stood : (n : ℕ) (bs : List ℕ) (x : List Run × List ℕ) → Bytes bs → read_runs n bs ≡ Some x → RunsStood n bs x
runs_stood zero bs x u e = subst (RunsStood zero bs) (some_inj e) (record { bytes = refl; many = refl; under = u })
runs_stood (suc n) [] x u e = absurd (none_some e)
runs_stood (suc n) (a ∷ []) x u e = absurd (none_some e)
runs_stood (suc n) (a ∷ b ∷ []) x u e = absurd (none_some e)
runs_stood (suc n) (a ∷ b ∷ c ∷ []) x u e = absurd (none_some e)
runs_stood (suc n) (a ∷ b ∷ c ∷ d ∷ bs) x u e =
    after (read_runs n bs) _ e λ q y z.
    let r : Run = run (a * 256 + b) (c * 256 + d) in
    let i = runs_stood n bs q u.1.1.1.1 y in
    let h : a ∷ b ∷ c ∷ d ∷ bs ≡ run_bytes r ++ bs =
    rw (two_high a b u.1.0, two_low a b u.1.0, two_high c d u.1.1.1.0, two_low c d u.1.1.1.0) in
    subst (RunsStood (suc n) (a ∷ b ∷ c ∷ d ∷ bs)) (some_inj z) (record {
      bytes = h ∙ ap (λ l. run_bytes r ++ l) i.bytes;
      many = ap suc i.many;
      under = i.under;
    })

pub side_from : (n : ℕ) → 1 ≤ n → n ≤ most_side → side n ≡ true
side_from n l m = and_from (leb 1 n) (leb n most_side) (le-leb 1 n l) (le-leb n most_side m)

pub side_parts : (n : ℕ) → side n ≡ true → (1 ≤ n) × (n ≤ most_side)
side_parts n e =
    let p = and_parts (leb 1 n) (leb n most_side) e in
    (leb-true 1 n p.0, leb-true n most_side p.1)

pub rest_read : (w h : ℕ) (ds : List Drawing) → length ds ≡ w * h → AllByRecursion IsDrawing ds → read_rest w h (runs 0 (marks ds)) (pack (flat_map symbol_bits (shown_symbols ds))) ≡ Some (record { width = w; height = h; drawings = ds })
rest_read w h ds n a = rw (so, cover, r.2, drawings_read ds (replicate r.0 false) a, padding_replicate r.0 r.1)
  where
    long : length (marks ds) ≡ w * h
    long = length-map ds shown ∙ n

    so : sound 0 (w * h) (runs 0 (marks ds)) ≡ true
    so = sound_from 0 (w * h) (runs 0 (marks ds)) (runs_sound (marks ds) 0 (w * h) (let l = long in omega arith))

    cover : covers (runs 0 (marks ds)) 0 (w * h) ≡ marks ds
    cover = subst (λ k. covers (runs 0 (marks ds)) 0 k ≡ marks ds) long (covers_runs (marks ds) 0)

    r : (k : ℕ) × (k < 8) × (bits_of (pack (flat_map symbol_bits (shown_symbols ds))) ≡ flat_map symbol_bits (shown_symbols ds) ++ replicate k false)
    r = bits_of_pack (flat_map symbol_bits (shown_symbols ds))

pub sheet_read : (s : Sheet) → Sheetly s → sheet_of (bytes_of s) ≡ Some s
sheet_read s h =
    rw (
      side_from s.width h.some_width h.most_width,
      side_from s.height h.some_height h.most_height,
      div-add-mod' (length (runs_of s)) 256,
      runs_read (runs_of s) (pack (flat_map symbol_bits (shown_symbols s.drawings))),
    )
    (rest_read s.width s.height s.drawings h.whole h.drawn)

assemble : (o w h a b : ℕ) (bs rest : List ℕ) (rs ss : List Run) (cs : List Symbol) → o ≡ 1 → b < 256 → bs ≡ flat_map run_bytes rs ++ rest → length rs ≡ a * 256 + b → ss ≡ rs → pack (flat_map symbol_bits cs) ≡ rest → record_of w h ss cs ≡ o ∷ w ∷ h ∷ a ∷ b ∷ bs
assemble o w h a b bs rest rs ss cs one l p n q k = rw (q, k, n, two_high a b l, two_low a b l, p, one)

pub record Opened (o w h a b : ℕ) (bs : List ℕ) (s : Sheet) (x : List Run × List ℕ) (y : List Drawing × List Bool) : Type 0 where
  pub edition : o ≡ 1
  pub wide : side w ≡ true
  pub high : side h ≡ true
  pub runs_stand : read_runs (a * 256 + b) bs ≡ Some x
  pub runs_sound : sound 0 (w * h) x.0 ≡ true
  pub words_stand : read_drawings (covers x.0 0 (w * h)) (bits_of x.1) ≡ Some y
  pub padded : padding y.1 ≡ true
  pub same : ◌≡◌ {A = Sheet} (record { width = w; height = h; drawings = y.0 }) s

pub opened : {C : Type 0} (o w h a b : ℕ) (bs : List ℕ) (s : Sheet) → sheet_of (o ∷ w ∷ h ∷ a ∷ b ∷ bs) ≡ Some s → ((x : List Run × List ℕ) (y : List Drawing × List Bool) → Opened o w h a b bs s x y → C) → C
opened o w h a b bs s e k =
    allowed _ _ e λ g f. after (read_runs (a * 256 + b) bs) (λ q. read_rest w h q.0 q.1) f λ x r t.
    allowed (sound 0 (w * h) x.0) _ t λ so i.
    after (read_drawings (covers x.0 0 (w * h)) (bits_of x.1)) (λ q. guard (padding q.1) (Some (record { width = w; height = h; drawings = q.0 }))) i λ y v z.
    allowed (padding y.1) _ z λ pd m.
    let one = and_parts (eqb o 1) (side w && side h) g in
    let sides = and_parts (side w) (side h) one.1 in
    k x y (record {
      edition = eqb-true o 1 one.0;
      wide = sides.0;
      high = sides.1;
      runs_stand = r;
      runs_sound = so;
      words_stand = v;
      padded = pd;
      same = some_inj m;
    })

pub sheet_written : (bs : List ℕ) → Bytes bs → (s : Sheet) → sheet_of bs ≡ Some s → bytes_of s ≡ bs
sheet_written [] u s e = absurd (none_some e)
sheet_written (_ ∷ []) u s e = absurd (none_some e)
sheet_written (_ ∷ _ ∷ []) u s e = absurd (none_some e)
sheet_written (_ ∷ _ ∷ _ ∷ []) u s e = absurd (none_some e)
sheet_written (_ ∷ _ ∷ _ ∷ _ ∷ []) u s e = absurd (none_some e)
sheet_written (o ∷ w ∷ h ∷ a ∷ b ∷ bs) u s e =
    opened o w h a b bs s e λ x y f.
    let r = runs_stood (a * 256 + b) bs x u.1.1.1.1.1 f.runs_stand in
    let d = drawings_stood (covers x.0 0 (w * h)) (bits_of x.1) y f.words_stand in
    let z = padding_parts y.1 f.padded in
    let cs = flat_map symbol_bits (shown_symbols y.0) in
    let k = pack_back cs (length y.1) x.1 z.0 r.under (d.bits ∙ ap (λ l. cs ++ l) z.1) in
    let n = ap (runs 0) d.marked ∙ runs_covers (w * h) 0 (w * h) x.0 (sym (zero-add (w * h))) (sound_parts 0 (w * h) x.0 f.runs_sound) in
    ap bytes_of (sym f.same)
    ∙ assemble o w h a b bs x.1 x.0 (runs 0 (marks y.0)) (shown_symbols y.0) f.edition u.1.1.1.1.0 r.bytes r.many n k

pub sheets_same : (s t : Sheet) → Sheetly s → Sheetly t → bytes_of s ≡ bytes_of t → s ≡ t
sheets_same s t a b e = some_inj (sym (sheet_read s a) ∙ ap sheet_of e ∙ sheet_read t b)

pub read_sheetly : (bs : List ℕ) (s : Sheet) → sheet_of bs ≡ Some s → Sheetly s
read_sheetly [] s e = absurd (none_some e)
read_sheetly (_ ∷ []) s e = absurd (none_some e)
read_sheetly (_ ∷ _ ∷ []) s e = absurd (none_some e)
read_sheetly (_ ∷ _ ∷ _ ∷ []) s e = absurd (none_some e)
read_sheetly (_ ∷ _ ∷ _ ∷ _ ∷ []) s e = absurd (none_some e)
read_sheetly (o ∷ w ∷ h ∷ a ∷ b ∷ bs) s e =
    opened o w h a b bs s e λ x y f.
    let d = drawings_stood (covers x.0 0 (w * h)) (bits_of x.1) y f.words_stand in
    let ws = side_parts w f.wide in
    let hs = side_parts h f.high in
    subst Sheetly f.same (record {
      some_width = ws.0;
      most_width = ws.1;
      some_height = hs.0;
      most_height = hs.1;
      whole = sym (length-map y.0 shown) ∙ ap length d.marked ∙ covers_length x.0 0 (w * h);
      drawn = d.each;
    })

pub runs_bytes : (rs : List Run) (low end : ℕ) → end < 65536 → Sound low end rs → Bytes (flat_map run_bytes rs)
runs_bytes [] low end l h = tt
runs_bytes (r ∷ rs) low end l h =
    let a = h.2 in
    (omega arith, (omega arith, (omega arith, (omega arith, runs_bytes rs (suc (r.offset + r.count)) end l h.3))))

pub record_bytes : (s : Sheet) → Sheetly s → Bytes (bytes_of s)
record_bytes s h =
    let w = h.most_width in
    let t = h.most_height in
    let all : pixels s ≤ 64 * 64 = mul-le s.width s.height 64 64 w t in
    let long : length (marks s.drawings) ≡ pixels s = length-map s.drawings shown ∙ h.whole in
    let few = runs_length (marks s.drawings) 0 in
    let words = pack_under (flat_map symbol_bits (shown_symbols s.drawings)) in
    let rs = runs_bytes (runs_of s) 0 (pixels s) (omega arith) (runs_sound (marks s.drawings) 0 (pixels s) (omega arith)) in
    (omega arith, (omega arith, (omega arith, (omega arith, (omega arith, All-append (λ b. b < 256) (flat_map run_bytes (runs_of s)) _ rs words)))))
