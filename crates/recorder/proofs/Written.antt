-- The record of a source, part by part.
--   put_tail: memory whose end was lent and written
--   record_size: how long a record is
--   written: header, runs and words put into memory are the record at its front
use Rattle.std.proofs.Common.{◌≡◌, ℕ, ◌+◌, ◌-◌, ◌*◌, ◌/◌, ◌≤◌, Bool, List, [], ◌++◌, map, length, take, drop, sym, ap, ◌∙◌, append_assoc, arith, length-append, length-drop}
use borrow.Rule.Slice.PartMut.{put_mid}
use Rattle.std.specs.List.{flat_map}
use Rattle.std.proofs.lemmas.List.{append-nil, take_at, drop_at, drop_all, drop-drop, take_rest}
use Rattle.rules.specs.Words.{drawn}
use Rattle.codec.specs.Bits.{pack}
use Rattle.codec.specs.Words.{symbol_bits, shown_symbols}
use Rattle.codec.specs.Runs.{Run, runs}
use Rattle.codec.specs.Records.{run_bytes, bytes_of}
use Rattle.codec.proofs.Loops.{length_runs, records_long}
use Rattle.stores.specs.Sources.{Told, sheet_told}
use Rattle.recorder.specs.Bytes.{put_bytes, heading}
use Rattle.recorder.specs.Packing.{packed}
use Rattle.recorder.specs.Words.{marks_told}
use Rattle.recorder.proofs.Puts.{puts_append, puts_front}

pub put_tail : (bs part : List ℕ) (at : ℕ) → put_mid at (length bs - at) bs part ≡ take at bs ++ part
put_tail bs part at =
    let z : drop (length bs - at) (drop at bs) ≡ [] = drop_all (length bs - at) (drop at bs) (omega (arith, length-drop at bs)) in
    ap (λ (x : List ℕ). take at bs ++ (part ++ x)) z ∙ ap (λ (x : List ℕ). take at bs ++ x) (append-nil part)

pub record_size : (t : Told) (len n symbols : ℕ) → len ≡ 5 + 4 * n + (3 * symbols + 7) / 8 → n ≡ length (runs 0 (marks_told t)) → symbols ≡ length (shown_symbols (map drawn t.words)) → len ≡ length (bytes_of (sheet_told t))
record_size t len n symbols e f g = omega (arith, records_long (sheet_told t))

module _ (t : Told) (w h n : ℕ) (ew : w ≡ t.width) (eh : h ≡ t.height) (en : n ≡ length (runs 0 (marks_told t))) where
  abbrev rs : List Run
  rs = runs 0 (marks_told t)

  abbrev bits : List Bool
  bits = flat_map symbol_bits (shown_symbols (map drawn t.words))

  abbrev front : List ℕ
  front = heading t.width t.height (length rs) ++ flat_map run_bytes rs

  front_long : length front ≡ 5 + 4 * n
  front_long = length-append (heading t.width t.height (length rs)) (flat_map run_bytes rs) ∙ omega (arith, length_runs rs)

  -- header and runs
  fronted : (old one two : List ℕ) → 5 + 4 * n ≤ length old → one ≡ put_bytes old 0 (heading w h n) → two ≡ put_bytes one 5 (flat_map run_bytes rs) → two ≡ front ++ drop (5 + 4 * n) old
  fronted old one two room a b =
      let head : heading w h n ≡ heading t.width t.height (length rs) = λ k. heading (ew k) (eh k) (en k) in
      let first : one ≡ put_bytes old 0 (heading t.width t.height (length rs)) = a ∙ ap (put_bytes old 0) head in
      b
      ∙ ap (λ (x : List ℕ). put_bytes x 5 (flat_map run_bytes rs)) first
      ∙ sym (puts_append (heading t.width t.height (length rs)) (flat_map run_bytes rs) old 0)
      ∙ puts_front front old (omega (arith, front_long))
      ∙ ap (λ (x : ℕ). front ++ drop x old) front_long

  pub written : (old one two part : List ℕ) (at len : ℕ) → at ≡ 5 + 4 * n → len ≡ length (bytes_of (sheet_told t)) → len ≤ length old → at ≤ len
      → one ≡ put_bytes old 0 (heading w h n) → two ≡ put_bytes one 5 (flat_map run_bytes rs)
      → part ≡ packed bits (take (length two - at) (drop at two))
      → put_mid at (length two - at) two part ≡ bytes_of (sheet_told t) ++ drop len old
  written old one two part at len ea el room below a b e =
      let words = pack bits in
      let is : two ≡ front ++ drop at old = fronted old one two (omega arith) a b ∙ ap (λ (x : ℕ). front ++ drop x old) (sym ea) in
      let long : length front ≡ at = front_long ∙ sym ea in
      let tail : take (length two - at) (drop at two) ≡ drop at old = take_rest two at ∙ ap (drop at) is ∙ drop_at front (drop at old) at long in
      let behind : drop (length words) (drop at old) ≡ drop len old =
      drop-drop (length words) at old ∙ ap (λ (x : ℕ). drop x old) (let k = length-append front words in let j = ap length (append_assoc (heading t.width t.height (length rs)) (flat_map run_bytes rs) words) in omega arith) in
      put_tail two part at
      ∙ ap (λ (x : List ℕ). x ++ part) (ap (take at) is ∙ take_at front (drop at old) at long)
      ∙ ap (λ (x : List ℕ). front ++ x) (e ∙ ap (packed bits) tail ∙ ap (λ (x : List ℕ). words ++ x) behind)
      ∙ sym (append_assoc front words (drop len old))
      ∙ ap (λ (x : List ℕ). x ++ drop len old) (append_assoc (heading t.width t.height (length rs)) (flat_map run_bytes rs) words)
