-- Records step by step.
--   runs_push_false, extend_grow, runs_push_true: runs with one mark more at the end
--   runs_grow: one more pixel at the end leaves the runs, or the last one grows or a new one begins
--   bits_at: bit k of bytes stands in byte k / 8
--   packs_join: whole bytes are packed by themselves
--   length_pack, length_symbols, length_runs: how many bytes bits take, how many bits symbols, how many bytes runs
--   records_long: how long a record is
--   behind_word, up_to_word: a word that ends in a corner, passed over and found by its corners
--   words_found: word k of words f one behind the other is what comes up to the fourth corner behind the 4k-th
--   shown_at: a marked drawing is the shown one of its rank
--   words_from_records: the word of pixel k is `++++`, or the word of its rank among the pixels in runs
use Rattle.std.proofs.Common.{◌≡◌, ℕ, zero, suc, ◌+◌, ◌-◌, ◌*◌, ◌/◌, ◌%◌, ◌^◌, ◌<◌, Bool, true, false, cond, eqb, List, [], ◌∷◌, ◌++◌, length, get_or, replicate, filter, sym, refl, ap, ◌∙◌, arith, length-append}
use lib.ListN.{length-replicate}
use Rattle.std.specs.List.{flat_map, AllByRecursion}
use Rattle.std.proofs.lemmas.Bool.{false≢true, eqb-true}
use Rattle.std.proofs.ByRecursion.{All-weaker, all_kept_by}
use Rattle.std.proofs.lemmas.Nat.{shr-shr}
use Rattle.symbols.specs.declared.symbols.Symbol.{Symbol}
use Rattle.symbols.specs.declared.symbols.Symbol.TheVariants.{Corner}
use Rattle.rules.specs.Words.{Drawing, is_corner, corners, ends, Lawful}
use Rattle.rules.specs.Tables.{word_of}
use Rattle.rules.proofs.Words.{parts}
use Rattle.model.specs.Sheets.{Sheet, Sheetly, IsDrawing, drawing_at}
use Rattle.codec.specs.Bits.{odd, bits_of, pack}
use Rattle.codec.specs.Words.{symbol_bits, left, shown, marks, shown_symbols}
use Rattle.codec.specs.Runs.{Run, run, extend, runs}
use Rattle.codec.specs.Records.{run_bytes, runs_of, bytes_of}
use Rattle.codec.specs.Loops.{grow, rank, behind, up_to}
use Rattle.codec.proofs.Bits.{bits_of_pack, bits_of_length}
use Rattle.codec.proofs.Words.{drawing_word, marked_at, not_shown, Ends, ends_tail, lawful_ends, some_corner}

pub runs_push_false : (ms : List Bool) (p : ℕ) → runs p (ms ++ (false ∷ [])) ≡ runs p ms
runs_push_false [] p = refl
runs_push_false (false ∷ ms) p = runs_push_false ms (suc p)
runs_push_false (true ∷ ms) p = ap (extend p) (runs_push_false ms (suc p))

-- growing at the front and at the end do not disturb one another
pub extend_grow : (p q : ℕ) (rs : List Run) → extend p (grow rs q) ≡ grow (extend p rs) q
extend_grow p q [] = ap (λ t. cond t (run p 2 ∷ []) (run p 1 ∷ run q 1 ∷ [])) same
  where
    same : eqb q (suc p) ≡ eqb (p + 1) q
    same = grind arith
extend_grow p q (r ∷ []) = by (eqb (r.offset + r.count) q) refl (eqb r.offset (suc p)) refl
  where
    by : (t : Bool) → eqb (r.offset + r.count) q ≡ t → (u : Bool) → eqb r.offset (suc p) ≡ u → extend p (cond t (run r.offset (suc r.count) ∷ []) (r ∷ run q 1 ∷ [])) ≡ grow (cond u (run p (suc r.count) ∷ []) (run p 1 ∷ r ∷ [])) q
    by t a true b =
        let f : r.offset ≡ suc p = eqb-true r.offset (suc p) b in
        let n : p + suc r.count ≡ r.offset + r.count = omega arith in
        at t (rw n a)
      where
        at : (t : Bool) → eqb (p + suc r.count) q ≡ t → extend p (cond t (run r.offset (suc r.count) ∷ []) (r ∷ run q 1 ∷ [])) ≡ cond (eqb (p + suc r.count) q) (run p (suc (suc r.count)) ∷ []) (run p (suc r.count) ∷ run q 1 ∷ [])
        at true e = rw (b, e)
        at false e = rw (b, e)
    by true a false b = rw (a, b)
    by false a false b = rw (a, b)
extend_grow p q (r ∷ s ∷ rs) = by (eqb r.offset (suc p))
  where
    by : (t : Bool) → cond t (run p (suc r.count) ∷ grow (s ∷ rs) q) (run p 1 ∷ r ∷ grow (s ∷ rs) q) ≡ grow (cond t (run p (suc r.count) ∷ s ∷ rs) (run p 1 ∷ r ∷ s ∷ rs)) q
    by true = refl
    by false = refl

pub runs_push_true : (ms : List Bool) (p q : ℕ) → q ≡ p + length ms → runs p (ms ++ (true ∷ [])) ≡ grow (runs p ms) q
runs_push_true [] p q e = let f : p ≡ q = omega arith in ap (λ n. run n 1 ∷ []) f
runs_push_true (false ∷ ms) p q e = runs_push_true ms (suc p) q (omega arith)
runs_push_true (true ∷ ms) p q e = ap (extend p) (runs_push_true ms (suc p) q (omega arith)) ∙ extend_grow p q (runs (suc p) ms)

pub runs_grow : (ms : List Bool) → (runs 0 (ms ++ (false ∷ [])) ≡ runs 0 ms) × (runs 0 (ms ++ (true ∷ [])) ≡ grow (runs 0 ms) (length ms))
runs_grow ms = (runs_push_false ms 0, runs_push_true ms 0 (length ms) (omega arith))

half2 : (n : ℕ) → n / 2 / 2 ≡ n / 4
half2 n = shr-shr n 1 1

half3 : (n : ℕ) → n / 2 / 2 / 2 ≡ n / 8
half3 n = ap (λ x. x / 2) (half2 n) ∙ shr-shr n 2 1

half4 : (n : ℕ) → n / 2 / 2 / 2 / 2 ≡ n / 16
half4 n = ap (λ x. x / 2) (half3 n) ∙ shr-shr n 3 1

half5 : (n : ℕ) → n / 2 / 2 / 2 / 2 / 2 ≡ n / 32
half5 n = ap (λ x. x / 2) (half4 n) ∙ shr-shr n 4 1

half6 : (n : ℕ) → n / 2 / 2 / 2 / 2 / 2 / 2 ≡ n / 64
half6 n = ap (λ x. x / 2) (half5 n) ∙ shr-shr n 5 1

half7 : (n : ℕ) → n / 2 / 2 / 2 / 2 / 2 / 2 / 2 ≡ n / 128
half7 n = ap (λ x. x / 2) (half6 n) ∙ shr-shr n 6 1

pub bits_at : (bs : List ℕ) (k : ℕ) → k < 8 * length bs → get_or (bits_of bs) k false ≡ odd (get_or bs (k / 8) 0 / 2 ^ (7 - k % 8))
bits_at [] k l = absurd (omega arith)
bits_at (n ∷ bs) zero l = ap odd (half7 n)
bits_at (n ∷ bs) (suc zero) l = ap odd (half6 n)
bits_at (n ∷ bs) (suc (suc zero)) l = ap odd (half5 n)
bits_at (n ∷ bs) (suc (suc (suc zero))) l = ap odd (half4 n)
bits_at (n ∷ bs) (suc (suc (suc (suc zero)))) l = ap odd (half3 n)
bits_at (n ∷ bs) (suc (suc (suc (suc (suc zero))))) l = ap odd (half2 n)
bits_at (n ∷ bs) (suc (suc (suc (suc (suc (suc zero)))))) l = refl
bits_at (n ∷ bs) (suc (suc (suc (suc (suc (suc (suc zero))))))) l = ap odd (omega arith)
bits_at (n ∷ bs) (suc (suc (suc (suc (suc (suc (suc (suc k)))))))) l =
    let d : suc (suc (suc (suc (suc (suc (suc (suc k))))))) / 8 ≡ suc (k / 8) = omega arith in
    let m : suc (suc (suc (suc (suc (suc (suc (suc k))))))) % 8 ≡ k % 8 = omega arith in
    bits_at bs k (omega arith) ∙ ap (λ x. odd (get_or bs (k / 8) 0 / 2 ^ (7 - x))) (sym m) ∙ ap (λ x. odd (get_or (n ∷ bs) x 0 / 2 ^ (7 - suc (suc (suc (suc (suc (suc (suc (suc k))))))) % 8))) (sym d)

pub packs_join : (m : ℕ) (xs bs : List Bool) → length xs ≡ 8 * m → pack (xs ++ bs) ≡ pack xs ++ pack bs
packs_join m [] bs e = refl
packs_join m (a ∷ []) bs e = absurd (omega arith)
packs_join m (a ∷ b ∷ []) bs e = absurd (omega arith)
packs_join m (a ∷ b ∷ c ∷ []) bs e = absurd (omega arith)
packs_join m (a ∷ b ∷ c ∷ d ∷ []) bs e = absurd (omega arith)
packs_join m (a ∷ b ∷ c ∷ d ∷ f ∷ []) bs e = absurd (omega arith)
packs_join m (a ∷ b ∷ c ∷ d ∷ f ∷ g ∷ []) bs e = absurd (omega arith)
packs_join m (a ∷ b ∷ c ∷ d ∷ f ∷ g ∷ h ∷ []) bs e = absurd (omega arith)
packs_join m (a ∷ b ∷ c ∷ d ∷ f ∷ g ∷ h ∷ i ∷ xs) bs e = let r = packs_join (m - 1) xs bs (omega arith) in cc

pub length_pack : (bs : List Bool) → length (pack bs) ≡ (length bs + 7) / 8
length_pack bs =
    let r = bits_of_pack bs in
    let n : 8 * length (pack bs) ≡ length bs + r.0 = sym (bits_of_length (pack bs)) ∙ ap length r.2 ∙ length-append bs (replicate r.0 false) ∙ ap (λ m. length bs + m) (length-replicate r.0 false) in
    let k = r.1 in
    omega arith

pub length_symbols : (w : List Symbol) → length (flat_map symbol_bits w) ≡ 3 * length w
length_symbols [] = refl
length_symbols (s ∷ w) = let i = length_symbols w in omega arith

pub length_runs : (rs : List Run) → length (flat_map run_bytes rs) ≡ 4 * length rs
length_runs [] = refl
length_runs (r ∷ rs) = let i = length_runs rs in omega arith

pub records_long : (s : Sheet) → length (bytes_of s) ≡ 5 + 4 * length (runs_of s) + (3 * length (shown_symbols s.drawings) + 7) / 8
records_long s =
    let w = shown_symbols s.drawings in
    let a = length-append (flat_map run_bytes (runs_of s)) (pack (flat_map symbol_bits w)) in
    let b = length_runs (runs_of s) in
    let c : length (pack (flat_map symbol_bits w)) ≡ (3 * length w + 7) / 8 = length_pack (flat_map symbol_bits w) ∙ ap (λ n. (n + 7) / 8) (length_symbols w) in
    omega arith

pub behind_word : (w : List Symbol) (m n : ℕ) (v : List Symbol) → Ends w → m ≡ corners w + n → behind m (w ++ v) ≡ behind n v
behind_word [] m n v e q = let r : m ≡ n = omega arith in ap (λ k. behind k v) r
behind_word (s ∷ w) m n v e q = by (λ k. behind_word w k n v (ends_tail s w e)) m (is_corner s) refl e q
  where
    by : ((k : ℕ) → k ≡ corners w + n → behind k (w ++ v) ≡ behind n v) → (m : ℕ) (t : Bool) → is_corner s ≡ t → ends t w ≡ true → m ≡ cond t (suc (corners w)) (corners w) + n → behind m (s ∷ (w ++ v)) ≡ behind n v
    by ih zero true u e q = absurd (omega arith)
    by ih zero false u e q = absurd (let some = some_corner w e in omega arith)
    by ih (suc m) true u e q = ih (left s m) (rw u (omega arith))
    by ih (suc m) false u e q = ih (left s m) (rw u q)

pub up_to_word : (w : List Symbol) (m : ℕ) (v : List Symbol) → Ends w → m ≡ corners w → up_to m (w ++ v) ≡ w
up_to_word [] m v e q = ap (λ k. up_to k v) q
up_to_word (s ∷ w) m v e q = by (λ k. up_to_word w k v (ends_tail s w e)) m (is_corner s) refl e q
  where
    by : ((k : ℕ) → k ≡ corners w → up_to k (w ++ v) ≡ w) → (m : ℕ) (t : Bool) → is_corner s ≡ t → ends t w ≡ true → m ≡ cond t (suc (corners w)) (corners w) → up_to m (s ∷ (w ++ v)) ≡ s ∷ w
    by ih zero true u e q = absurd (omega arith)
    by ih zero false u e q = absurd (let some = some_corner w e in omega arith)
    by ih (suc m) true u e q = ap (λ l. s ∷ l) (ih (left s m) (rw u (omega arith)))
    by ih (suc m) false u e q = ap (λ l. s ∷ l) (ih (left s m) (rw u q))

pub words_found : {A : Type 0} (f : A → List Symbol) (xs : List A) (k : ℕ) (d : A) → AllByRecursion (λ x. Lawful (f x)) xs → k < length xs → up_to 4 (behind (4 * k) (flat_map f xs)) ≡ f (get_or xs k d)
words_found f [] k d h l = absurd (omega arith)
words_found f (x ∷ xs) zero d h l = up_to_word (f x) 4 (flat_map f xs) (lawful_ends (f x) h.0) (sym (parts (f x) h.0).four)
words_found f (x ∷ xs) (suc k) d h l =
    let four = (parts (f x) h.0).four in
    ap (up_to 4) (behind_word (f x) (4 * suc k) (4 * k) (flat_map f xs) (lawful_ends (f x) h.0) (omega arith)) ∙ words_found f xs k d h.1 (omega arith)

pub shown_at : (ds : List Drawing) (k : ℕ) → get_or (marks ds) k false ≡ true → (rank (marks ds) k < length (filter shown ds)) × (get_or (filter shown ds) (rank (marks ds) k) [] ≡ get_or ds k [])
shown_at [] k e = absurd (false≢true e)
shown_at ([] ∷ ds) zero e = absurd (false≢true e)
shown_at ((c ∷ d) ∷ ds) zero e = (omega arith, refl)
shown_at ([] ∷ ds) (suc k) e = shown_at ds k e
shown_at ((c ∷ d) ∷ ds) (suc k) e = let i = shown_at ds k e in let l = i.0 in (omega arith, i.1)

pub words_from_records : (s : Sheet) → Sheetly s → (k : ℕ) → word_of (drawing_at s k) ≡ cond (get_or (marks s.drawings) k false) (up_to 4 (behind (4 * rank (marks s.drawings) k) (shown_symbols s.drawings))) (Corner ∷ Corner ∷ Corner ∷ Corner ∷ [])
words_from_records s h k = by (get_or (marks s.drawings) k false) refl
  where
    by : (t : Bool) → get_or (marks s.drawings) k false ≡ t → word_of (drawing_at s k) ≡ cond t (up_to 4 (behind (4 * rank (marks s.drawings) k) (shown_symbols s.drawings))) (Corner ∷ Corner ∷ Corner ∷ Corner ∷ [])
    by true e =
        let p = shown_at s.drawings k e in
        let all : AllByRecursion (λ d. Lawful (word_of d)) (filter shown s.drawings) =
        All-weaker IsDrawing (λ d. Lawful (word_of d)) (λ d i. (drawing_word d i).0) (filter shown s.drawings) (all_kept_by shown IsDrawing s.drawings h.drawn) in
        sym (words_found word_of (filter shown s.drawings) (rank (marks s.drawings) k) [] all p.0 ∙ ap word_of p.1)
    by false e = ap word_of (not_shown (drawing_at s k) (sym (marked_at s.drawings k) ∙ e))
