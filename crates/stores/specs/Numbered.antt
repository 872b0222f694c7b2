-- Words told by the number of their pixel.
--   word_numbered: the word of a pixel is the one told for its number
--   words_numbered: there is one for each pixel
use Rattle.std.specs.Prelude.{◌≡◌, ℕ, zero, suc, ◌+◌, ◌<◌, List, [], map, length, slice_index, slice_index_or, refl}
use Rattle.std.proofs.Common.{ap, ◌∙◌, arith}
use Rattle.std.proofs.lemmas.List.{get_or-map, length-map}
use Rattle.symbols.specs.declared.symbols.Symbol.{Symbol}
use Rattle.model.specs.Darts.{from_on, up_to}

get_or_from : (j k i : ℕ) → i < k → slice_index (from_on j k) i ≡ j + i
get_or_from j zero i h = absurd (omega arith)
get_or_from j (suc k) zero h = omega arith
get_or_from j (suc k) (suc i) h = get_or_from (suc j) k i (omega arith) ∙ omega arith

length_from : (j k : ℕ) → length (from_on j k) ≡ k
length_from j zero = refl
length_from j (suc k) = ap suc (length_from (suc j) k)

pub word_numbered : (f : ℕ → List Symbol) (k i : ℕ) → i < k → slice_index_or (map f (up_to k)) i [] ≡ f i
word_numbered f k i h =
    get_or-map f (up_to k) i 0 [] (omega (arith, length_from 0 k)) ∙ ap f (get_or_from 0 k i h ∙ omega arith)

pub words_numbered : (f : ℕ → List Symbol) (k : ℕ) → length (map f (up_to k)) ≡ k
words_numbered f k = length-map (up_to k) f ∙ length_from 0 k
