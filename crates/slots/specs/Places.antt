-- What a write changes in slots, and what an opening makes of them.
--   row_fits: a slot of a pixel lies in the memory
--   Put, put_slot: what the slots tell after one was written
--   slot_lent, stored: slots seen through the loans of the memory
--   blanked, put_lawful: the memory after an opening, lawful words after a write
--   slots_keep, never_full: the words of slots keep to the slot and to all slots together
--   never_refused: so no write is refused for want of room in all slots
--   blank_lawful, blank_words: slots of zeros hold the empty word everywhere
use Rattle.std.specs.Prelude.{◌≡◌, ℕ, suc, ◌+◌, ◌-◌, ◌*◌, ◌<◌, ◌≤◌, Bool, true, false, ◌≢◌, List, [], ◌++◌, map, length, take, drop, replicate, is_some, Ok, Err, nat_lt, slice_index_or, slice_set, refl}
use Rattle.std.proofs.Common.{sym, ap, subst, ◌∙◌, inl, inr, mul_comm, add-mul, mul-le-mul_left, mul-le-mul_right, arith, length-append}
use borrow.Rule.Slice.PartMut.{put_mid}
use Rattle.std.specs.List.{AllByRecursion}
use Rattle.std.proofs.ByRecursion.{All-from_get_or, All-set, sum_by_le}
use Rattle.std.proofs.lemmas.List.{take_at, length-take, get_or-set_same, get_or-set_other, get_or-replicate, ext_get_or, length-set, take-replicate, drop-replicate, take-append-le, drop-append-le, length-take-le, length-drop, length-map, length-replicate}
use Rattle.std.proofs.lemmas.Slice.{between_is, take-put_mid_below, drop-put_mid, between-put_mid}
use Rattle.std.proofs.lemmas.Bool.{cases_eq, cases_lt, cases_order, cond-false, le-ltb}
use Rattle.symbols.specs.declared.symbols.Symbol.{Symbol}
use Rattle.symbols.specs.Symbols.{code}
use Rattle.symbols.specs.declared.refusals.Refusal.TheVariants.{NoWord, Unlawful, OverTotal}
use Rattle.symbols.specs.Refusals.{filled}
use Rattle.rules.specs.Words.{Drawing, lawful, Lawful, shaped, drawing_of, drawn, judged}
use Rattle.plain.specs.Plain.{Answer, Keeps, symbols_in, symbols_of, answer, write}
use Rattle.plain.specs.Statements.{told}
use Rattle.stores.specs.Sources.{Told, Sides, empty_word, plain_told}
use Rattle.stores.specs.Bytes.{decode, decoded, front_word, encoded}
use Rattle.stores.proofs.Fronts.{up_to_short, front_encoded}
use Rattle.stores.proofs.Writes.{counted, write_no_pixel, write_bad, write_long, write_fine, drawn_short, keeps_told}
use Rattle.slots.specs.Slots.{slot_word, slot_words, slots_told, Slots, NeverFull}
use Rattle.slots.specs.Laws.{word_there, length_words, slots_lawful}

suc_mul : (x y : ℕ) → suc x * y ≡ x * y + y
suc_mul x y = omega (arith, add-mul x 1 y)

pub row_fits : (i k n : ℕ) → i < k → i * n + n ≤ k * n
row_fits i k n h = (let m : suc i * n ≤ k * n = mul-le-mul_right n h in let e = suc_mul i n in omega arith)

-- a slot as a part of the memory
part_is : (n i : ℕ) (bs : List ℕ) → take n (drop (i * n) bs) ≡ drop (i * n) (take (i * n + n) bs)
part_is n i bs =
    let z : i * n + n - i * n ≡ n = omega arith in
    ap (λ (x : ℕ). take x (drop (i * n) bs)) (sym z) ∙ between_is bs (i * n) (i * n + n)

pub record Put (n k p : ℕ) (w : List Symbol) (old new : List ℕ) : Type 0 where
  pub here : slot_word n new p ≡ w
  pub others : (i : ℕ) → i ≢ p → slot_word n new i ≡ slot_word n old i
  pub words : slot_words n k new ≡ slice_set (slot_words n k old) p w

module _ (n k p : ℕ) (w : List Symbol) (old part new : List ℕ) (b : p < k) (room : k * n ≤ length old) (short : length w ≤ n) (law : Lawful w)
    (wrote : part ≡ encoded w ++ drop (length w) (take n (drop (p * n) old))) (is : new ≡ put_mid (p * n) n old part) where
  starts : p * n ≤ length old
  starts = omega (arith, row_fits p k n b)

  part_long : length part ≡ n
  part_long =
      let a : length (drop (p * n) old) ≡ length old - p * n = length-drop (p * n) old in
      let c : length (take n (drop (p * n) old)) ≡ n = length-take-le n (drop (p * n) old) (omega (arith, row_fits p k n b)) in
      ap length wrote ∙ length-append (encoded w) (drop (length w) (take n (drop (p * n) old)))
      ∙ omega (arith, length-map w code, length-drop (length w) (take n (drop (p * n) old)))

  at_slot : slot_word n new p ≡ w
  at_slot =
      let z : p * n + n - p * n ≡ n = omega arith in
      let e : take n (drop (p * n) new) ≡ part =
      ap (λ (x : ℕ). take x (drop (p * n) new)) (sym z)
      ∙ ap (λ (x : List ℕ). take (p * n + n - p * n) (drop (p * n) x)) is
      ∙ between-put_mid (p * n) n old part (p * n + n) starts (part_long ∙ sym z) in
      ap front_word (e ∙ wrote) ∙ front_encoded w (drop (length w) (take n (drop (p * n) old))) law

  elsewhere : (i : ℕ) → i ≢ p → slot_word n new i ≡ slot_word n old i
  elsewhere i d =
      elim (cases_order i p) [
        | inl e ↦ absurd (d e)
        | inr o ↦ elim o [
          | inl l ↦
              ap front_word
              (part_is n i new
              ∙ ap (drop (i * n)) (ap (take (i * n + n)) is ∙ take-put_mid_below (p * n) n old part (i * n + n) (row_fits i p n l) starts)
              ∙ sym (part_is n i old))
          | inr g ↦
              ap (λ (x : List ℕ). front_word (take n x))
              (ap (drop (i * n)) is ∙ drop-put_mid (p * n) n old part (i * n) (row_fits p i n g) starts part_long)
        ]
      ]

  pub put_slot : Put n k p w old new
  put_slot = record {
    here = at_slot;
    others = elsewhere;
    words =
        ext_get_or [] (slot_words n k new) (slice_set (slot_words n k old) p w)
        (length_words n k new ∙ sym (length_words n k old) ∙ sym (length-set (slot_words n k old) p w))
        (λ i l.
        let c : i < k = omega (arith, length_words n k new) in
        let m = length_words n k old in
        elim (cases_eq i p) [
          | inl e ↦
              word_there n k new i c ∙ ap (slot_word n new) e ∙ at_slot
              ∙ sym (ap (λ (x : ℕ). slice_index_or (slice_set (slot_words n k old) p w) x []) e ∙ get_or-set_same (slot_words n k old) p w [] (omega arith))
          | inr d ↦
              word_there n k new i c ∙ elsewhere i d ∙ sym (word_there n k old i c) ∙ sym (get_or-set_other (slot_words n k old) p i w [] d)
        ]);
  }

-- zeros

module _ (n k : ℕ) (rest bs : List ℕ) (four : 4 ≤ n) (is : bs ≡ replicate (k * n) 0 ++ rest) where
  zeros : (i : ℕ) → i < k → take n (drop (i * n) bs) ≡ replicate n 0
  zeros i h =
      let r = row_fits i k n h in
      let l : length (replicate {A = ℕ} (k * n) 0) ≡ k * n = length-replicate (k * n) 0 in
      ap (λ (x : List ℕ). take n (drop (i * n) x)) is
      ∙ ap (take n) (drop-append-le (i * n) (replicate (k * n) 0) rest (omega arith))
      ∙ ap (λ (x : List ℕ). take n (x ++ rest)) (drop-replicate (i * n) (k * n) 0)
      ∙ take-append-le n (replicate (k * n - i * n) 0) rest (let q : length (replicate {A = ℕ} (k * n - i * n) 0) ≡ k * n - i * n = length-replicate (k * n - i * n) 0 in omega arith)
      ∙ take-replicate n (k * n - i * n) 0 (omega arith)

  empty_slot : (i : ℕ) → i < k → slot_word n bs i ≡ empty_word
  empty_slot i h =
      let m : n ≡ suc (suc (suc (suc (n - 4)))) = omega arith in
      ap front_word (zeros i h) ∙ ap (λ (x : ℕ). front_word (replicate x 0)) m

  pub blank_lawful : (i : ℕ) → i < k → lawful (slot_word n bs i) ≡ true
  blank_lawful i h = ap lawful (empty_slot i h)

  pub blank_words : slot_words n k bs ≡ replicate k empty_word
  blank_words =
      ext_get_or [] (slot_words n k bs) (replicate k empty_word) (length_words n k bs ∙ sym (length-replicate k empty_word))
      (λ i l. let c : i < k = omega (arith, length_words n k bs) in word_there n k bs i c ∙ empty_slot i c ∙ sym (get_or-replicate k i empty_word [] c))

-- seen through the loans of the memory

pub slot_lent : (n p : ℕ) (bs lent : List ℕ) → lent ≡ bs → front_word (take (p * n + n - p * n) (drop (p * n) lent)) ≡ slot_word n bs p
slot_lent n p bs lent e =
    let z : p * n + n - p * n ≡ n = omega arith in
    ap (λ (x : List ℕ). front_word (take (p * n + n - p * n) (drop (p * n) x))) e ∙ ap (λ (x : ℕ). front_word (take x (drop (p * n) bs))) z

length_put : (a n : ℕ) (xs ys : List ℕ) → a + n ≤ length xs → length ys ≡ n → length (put_mid a n xs ys) ≡ length xs
length_put a n xs ys h e =
    length-append (take a xs) (ys ++ drop n (drop a xs))
    ∙ omega (arith, length-append ys (drop n (drop a xs)), length-take-le a xs (omega arith), length-drop n (drop a xs), length-drop a xs)

-- the memory after a slot was lent and written
pub stored : (items lent part new : List ℕ) (len n k p : ℕ) (w : List Symbol) → len ≡ length items → lent ≡ items → p < k → k * n ≤ len → length w ≤ n → Lawful w
    → part ≡ filled (encoded w) (take (p * n + n - p * n) (drop (p * n) lent))
    → new ≡ take len (put_mid (p * n) (p * n + n - p * n) lent part ++ drop (length (put_mid (p * n) (p * n + n - p * n) lent part)) items)
    → Put n k p w items new × (length new ≡ length items)
stored items lent part new len n k p w size is b room short law wrote left =
    let z : p * n + n - p * n ≡ n = omega arith in
    let r = row_fits p k n b in
    let old : List ℕ = take n (drop (p * n) items) in
    let here : take (p * n + n - p * n) (drop (p * n) lent) ≡ old = ap (λ (x : ℕ). take x (drop (p * n) lent)) z ∙ ap (λ (x : List ℕ). take n (drop (p * n) x)) is in
    let long : length old ≡ n = length-take-le n (drop (p * n) items) (omega (arith, length-drop (p * n) items)) in
    let m : length (encoded w) ≡ length w = length-map w code in
    let fills : filled (encoded w) old ≡ encoded w ++ drop (length w) old =
    cond-false (nat_lt (length old) (length (encoded w))) old (encoded w ++ drop (length (encoded w)) old) (le-ltb (length old) (length (encoded w)) (omega arith))
    ∙ ap (λ (x : ℕ). encoded w ++ drop x old) m in
    let wrote' : part ≡ encoded w ++ drop (length w) old = wrote ∙ ap (filled (encoded w)) here ∙ fills in
    let lp : length part ≡ n = ap length wrote' ∙ length-append (encoded w) (drop (length w) old) ∙ omega (arith, length-drop (length w) old) in
    let put : put_mid (p * n) (p * n + n - p * n) lent part ≡ put_mid (p * n) n items part =
    ap (λ (x : ℕ). put_mid (p * n) x lent part) z ∙ ap (λ (x : List ℕ). put_mid (p * n) n x part) is in
    let lput : length (put_mid (p * n) n items part) ≡ length items = length_put (p * n) n items part (omega arith) lp in
    let new' : new ≡ put_mid (p * n) n items part =
    left ∙ ap (λ (x : List ℕ). take len (x ++ drop (length x) items)) put
    ∙ take_at (put_mid (p * n) n items part) (drop (length (put_mid (p * n) n items part)) items) len (lput ∙ sym size) in
    (put_slot n k p w items part new b (omega arith) short law wrote' new', ap length new' ∙ lput)

-- a word in a slot is no longer than the slot
pub slot_short : (n : ℕ) (bs : List ℕ) (i : ℕ) → length (slot_word n bs i) ≤ n
slot_short n bs i =
    let p : List ℕ = take n (drop (i * n) bs) in
    omega (arith, up_to_short 4 (decoded p), length-map p decode, length-take n (drop (i * n) bs))

pub slots_keep : (w h n : ℕ) (bs : List ℕ) → Sides w h → Slots w h n bs → Keeps (plain_told (slots_told w h n bs) n (w * h * n))
slots_keep w h n bs d s =
    let t : Told = slots_told w h n bs in
    let l = slots_lawful w h n bs d s in
    let short : AllByRecursion (λ (v : List Symbol). length v ≤ n) t.words =
    All-from_get_or (λ (v : List Symbol). length v ≤ n) t.words [] (λ i b.
    let c : i < w * h = omega (arith, length_words n (w * h) bs) in
    subst (λ (v : List Symbol). length v ≤ n) (sym (word_there n (w * h) bs i c)) (slot_short n bs i)) in
    let ds : List Drawing = map drawn t.words in
    let long : length ds ≡ w * h = length-map t.words drawn ∙ length_words n (w * h) bs in
    let most : symbols_of ds ≤ length ds * n = sum_by_le symbols_in n ds (drawn_short t.words n l.words short) in
    let four : w * h * 4 ≤ w * h * n = mul-le-mul_left (w * h) s.0 in
    keeps_told t n (w * h * n) l s.0 (omega (arith, mul_comm 4 (w * h))) short (subst (λ (x : ℕ). symbols_of ds ≤ x * n) long most)

-- a write of a lawful word that fits its slot never exceeds the total
pub never_full : (w h n : ℕ) (bs : List ℕ) (p : ℕ) (v : List Symbol) → Sides w h → Slots w h n bs → Lawful v → length v ≤ n → symbols_of (slice_set (map drawn (slot_words n (w * h) bs)) p (drawn v)) ≤ w * h * n
never_full w h n bs p v d s law short =
    let k = slots_keep w h n bs d s in
    let ds : List Drawing = map drawn (slot_words n (w * h) bs) in
    let a = All-set (λ (x : Drawing). symbols_in x ≤ n) ds p (drawn v) (omega (arith, counted v law)) k.to_longest in
    let long : length (slice_set ds p (drawn v)) ≡ w * h = length-set ds p (drawn v) ∙ length-map (slot_words n (w * h) bs) drawn ∙ length_words n (w * h) bs in
    subst (λ (x : ℕ). symbols_of (slice_set ds p (drawn v)) ≤ x * n) long (sum_by_le symbols_in n (slice_set ds p (drawn v)) a)

-- an answer that is another is not this one
other : (r a : Answer) → r ≡ a → told r ≢ 6 → a ≢ Err OverTotal
other r a e d f = d (ap told (e ∙ f))

pub never_refused : NeverFull
never_refused w h n bs p v d s =
    let t = slots_told w h n bs in
    elim (cases_lt p (w * h)) [
      | inl b ↦ by b (shaped v) (is_some (drawing_of v)) refl refl
      | inr b ↦ other _ _ (write_no_pixel t n (w * h * n) p v b).answer_is (λ e. absurd (omega arith))
    ]
  where
    fits : p < w * h → Ok v ≡ judged v → Lawful v → answer (plain_told (slots_told w h n bs) n (w * h * n)) (write p v) ≢ Err OverTotal
    fits b j law =
        let t = slots_told w h n bs in
        elim (cases_lt n (length v)) [
          | inl l ↦ other _ _ (write_long t n (w * h * n) p v b j law l).answer_is (λ e. absurd (omega arith))
          | inr l ↦ other _ _ (write_fine t n (w * h * n) p v b j law l (never_full w h n bs p v d s law l) _ refl).answer_is (λ e. absurd (omega arith))
        ]

    by : p < w * h → (a c : Bool) → shaped v ≡ a → is_some (drawing_of v) ≡ c → answer (plain_told (slots_told w h n bs) n (w * h * n)) (write p v) ≢ Err OverTotal
    by b true true f g = fits b (sym (rw (f, g))) (rw (f, g))
    by b true false f g = other _ _ (write_bad (slots_told w h n bs) n (w * h * n) p v Unlawful b (sym (rw (f, g)))).answer_is (λ e. absurd (omega arith))
    by b false c f g = other _ _ (write_bad (slots_told w h n bs) n (w * h * n) p v NoWord b (sym (rw f))).answer_is (λ e. absurd (omega arith))

-- the memory after its front was made zeros
pub blanked : (items lent last : List ℕ) (len m k n : ℕ) → len ≡ length items → length last ≡ len → last ≡ replicate (m * n) 0 ++ drop (m * n) lent → m ≡ k
    → take len (last ++ drop (length last) items) ≡ replicate (k * n) 0 ++ drop (m * n) lent
blanked items lent last len m k n size long is e =
    take_at last (drop (length last) items) len long ∙ is ∙ ap (λ (x : ℕ). replicate (x * n) 0 ++ drop (m * n) lent) e

-- every slot still holds a lawful word
pub put_lawful : (n k p : ℕ) (w : List Symbol) (old new : List ℕ) → Put n k p w old new → Lawful w → ((i : ℕ) → i < k → lawful (slot_word n old i) ≡ true) → (i : ℕ) → i < k → lawful (slot_word n new i) ≡ true
put_lawful n k p w old new t law all i l =
    elim (cases_eq i p) [
      | inl e ↦ ap (λ (x : ℕ). lawful (slot_word n new x)) e ∙ ap lawful t.here ∙ law
      | inr d ↦ ap lawful (t.others i d) ∙ all i l
    ]
