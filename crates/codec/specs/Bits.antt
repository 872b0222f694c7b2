-- Bits, high bit first: eight to a byte, three to a code.
--   Bytes: numbers that are bytes
--   bit: the number of a bit
--   push: a number with one more bit at its low end
--   odd: the low bit of a number
--   byte, triple: the number of eight bits, of three bits
--   bits8, bits3: the eight bits of a byte, the three bits of a code
--   bits_of: the bits of bytes, one byte behind the other
--   pack: eight bits a byte, with zero bits to the end of the last byte
--   unset: no bit is set
--   padding: zero bits, fewer than a byte
use Rattle.std.specs.Prelude.{ℕ, ◌+◌, ◌*◌, ◌/◌, ◌%◌, ◌<◌, Bool, true, false, ◌&&◌, List, [], ◌∷◌, ◌++◌, length, ◌==◌, nat_lt}
use Rattle.std.specs.List.{AllByRecursion}

abbrev pub Bytes : List ℕ → Type 0
Bytes bs = AllByRecursion (λ b. b < 256) bs

abbrev pub bit : Bool → ℕ
bit true = 1
bit false = 0

abbrev pub push : ℕ → Bool → ℕ
push n b = n * 2 + bit b

abbrev pub odd : ℕ → Bool
odd n = n % 2 == 1

abbrev pub byte : Bool → Bool → Bool → Bool → Bool → Bool → Bool → Bool → ℕ
byte a b c d e f g h = push (push (push (push (push (push (push (bit a) b) c) d) e) f) g) h

abbrev pub triple : Bool → Bool → Bool → ℕ
triple a b c = push (push (bit a) b) c

abbrev pub bits8 : ℕ → List Bool
bits8 n = odd (n / 2 / 2 / 2 / 2 / 2 / 2 / 2) ∷ odd (n / 2 / 2 / 2 / 2 / 2 / 2) ∷ odd (n / 2 / 2 / 2 / 2 / 2) ∷ odd (n / 2 / 2 / 2 / 2) ∷ odd (n / 2 / 2 / 2) ∷ odd (n / 2 / 2) ∷ odd (n / 2) ∷ odd n ∷ []

abbrev pub bits3 : ℕ → List Bool
bits3 n = odd (n / 2 / 2) ∷ odd (n / 2) ∷ odd n ∷ []

abbrev pub bits_of : List ℕ → List Bool
bits_of [] = []
bits_of (n ∷ ns) = bits8 n ++ bits_of ns

abbrev pub pack : List Bool → List ℕ
pack [] = []
pack (a ∷ []) = byte a false false false false false false false ∷ []
pack (a ∷ b ∷ []) = byte a b false false false false false false ∷ []
pack (a ∷ b ∷ c ∷ []) = byte a b c false false false false false ∷ []
pack (a ∷ b ∷ c ∷ d ∷ []) = byte a b c d false false false false ∷ []
pack (a ∷ b ∷ c ∷ d ∷ e ∷ []) = byte a b c d e false false false ∷ []
pack (a ∷ b ∷ c ∷ d ∷ e ∷ f ∷ []) = byte a b c d e f false false ∷ []
pack (a ∷ b ∷ c ∷ d ∷ e ∷ f ∷ g ∷ []) = byte a b c d e f g false ∷ []
pack (a ∷ b ∷ c ∷ d ∷ e ∷ f ∷ g ∷ h ∷ bs) = byte a b c d e f g h ∷ pack bs

abbrev pub unset : List Bool → Bool
unset [] = true
unset (true ∷ bs) = false
unset (false ∷ bs) = unset bs

abbrev pub padding : List Bool → Bool
padding bs = nat_lt (length bs) 8 && unset bs
