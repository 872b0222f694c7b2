-- Words as the code holds them.
--   symbols_of: the symbols of a word
--   in_symbols: an answer that holds a word, by its symbols
--   same_crossing: whether two crossings are the same
--   draws_same: whether two words draw the same
--   draws_same_laws: that goes both ways, and along a chain
--   crossings_told, draws_same_told: crossings are told the same exactly where they are equal, and words exactly where their
--     drawings are
use Rattle.std.specs.Prelude.{◌≡◌, Bool, List, Ok, Err, Result, nat_eq, Decides}
use Rattle.std.specs.Bool.{beq}
use Rattle.std.specs.Ordering.{on, eq_of_both}
use Rattle.std.specs.Cmp.{IsPartialEquivalence, partial_equiv_from_equiv, on_equiv, and_equiv, nat_eq_equiv, bool_eq_equiv, booleans_Decides}
use Rattle.std.specs.Cmp.Lexicographic.{pointwise, pointwise_decides, lists_equiv}
use Rattle.std.proofs.Common.{ap}
use Rattle.std.proofs.lemmas.Bool.Decides.{Decides-like, Decides-and, Decides-eqb}
use Rattle.symbols.specs.declared.symbols.Crossing.{Crossing}
use Rattle.rows.specs.Rows.{items}
use Rattle.rules.specs.Words.{drawn}
use Rattle.symbols.specs.declared.refusals.Refusal.{Refusal}
use Rattle.symbols.specs.declared.symbols.Symbol.{Symbol}
use Rattle.words.specs.declared.Word.{Word}

abbrev pub symbols_of : Word → List Symbol
symbols_of w = items w.symbols

abbrev pub in_symbols : Result Word Refusal → Result (List Symbol) Refusal
in_symbols (Ok w) = Ok (symbols_of w)
in_symbols (Err f) = Err f

abbrev pub same_crossing : Crossing → Crossing → Bool
same_crossing = eq_of_both (on (λ c. c.road) nat_eq) (eq_of_both (on (λ c. c.group) nat_eq) (on (λ c. c.vertex) beq))

abbrev pub draws_same : Word → Word → Bool
draws_same = on (λ w. drawn (symbols_of w)) (pointwise same_crossing)

pub draws_same_laws : IsPartialEquivalence draws_same
draws_same_laws = partial_equiv_from_equiv (on_equiv (λ (w : Word). drawn (symbols_of w)) (lists_equiv (and_equiv (on_equiv (λ (c : Crossing). c.road) nat_eq_equiv) (and_equiv (on_equiv (λ (c : Crossing). c.group) nat_eq_equiv) (on_equiv (λ (c : Crossing). c.vertex) bool_eq_equiv)))))

pub crossings_told : (x y : Crossing) → Decides (same_crossing x y) (x ≡ y)
crossings_told x y = Decides-like (same_crossing x y)
    (λ (e : (x.road ≡ y.road) × ((x.group ≡ y.group) × (x.vertex ≡ y.vertex))). λ i. record { road = e.0 i; group = e.1.0 i; vertex = e.1.1 i })
    (λ (e : x ≡ y). (ap (λ (c : Crossing). c.road) e, (ap (λ (c : Crossing). c.group) e, ap (λ (c : Crossing). c.vertex) e)))
    (Decides-and _ _ (Decides-eqb x.road y.road) (Decides-and _ _ (Decides-eqb x.group y.group) (booleans_Decides x.vertex y.vertex)))

pub draws_same_told : (a b : Word) → Decides (draws_same a b) (drawn (symbols_of a) ≡ drawn (symbols_of b))
draws_same_told a b = pointwise_decides crossings_told (drawn (symbols_of a)) (drawn (symbols_of b))
