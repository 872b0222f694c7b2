-- Bytes put into memory, one behind the other.
--   puts_append: bytes put behind bytes that were put
--   puts_front: bytes put from the first place on are the front of memory
use Rattle.std.proofs.Common.{◌≡◌, ℕ, ◌+◌, ◌≤◌, List, [], ◌∷◌, ◌++◌, length, drop, set, sym, refl, ap, ◌∙◌, append_assoc, arith, length-append}
use Rattle.std.proofs.lemmas.List.{append-nil, set_at}
use Rattle.recorder.specs.Bytes.{put_bytes}

pub puts_append : (xs ys bs : List ℕ) (at : ℕ) → put_bytes bs at (xs ++ ys) ≡ put_bytes (put_bytes bs at xs) (at + length xs) ys
puts_append [] ys bs at = ap (λ (n : ℕ). put_bytes bs n ys) (omega arith)
puts_append (x ∷ xs) ys bs at =
    let e : at + 1 + length xs ≡ at + length (x ∷ xs) = omega arith in
    puts_append xs ys (set bs at x) (at + 1) ∙ ap (λ (n : ℕ). put_bytes (put_bytes (set bs at x) (at + 1) xs) n ys) e

puts_on : (xs front rest : List ℕ) → length xs ≤ length rest → put_bytes (front ++ rest) (length front) xs ≡ (front ++ xs) ++ drop (length xs) rest
puts_on [] front rest h = ap (λ (l : List ℕ). l ++ rest) (sym (append-nil front))
puts_on (x ∷ xs) front [] h = absurd (omega arith)
puts_on (x ∷ xs) front (y ∷ rest) h =
    let n : length front + 1 ≡ length (front ++ (x ∷ [])) = sym (length-append front (x ∷ [])) in
    ap (λ (l : List ℕ). put_bytes l (length front + 1) xs) (set_at front y rest x (length front) refl ∙ sym (append_assoc front (x ∷ []) rest))
    ∙ ap (λ (k : ℕ). put_bytes ((front ++ (x ∷ [])) ++ rest) k xs) n
    ∙ puts_on xs (front ++ (x ∷ [])) rest (omega arith)
    ∙ ap (λ (l : List ℕ). l ++ drop (length xs) rest) (append_assoc front (x ∷ []) xs)

pub puts_front : (xs bs : List ℕ) → length xs ≤ length bs → put_bytes bs 0 xs ≡ xs ++ drop (length xs) bs
puts_front xs bs h = puts_on xs [] bs h
