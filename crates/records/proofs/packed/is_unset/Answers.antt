use Rattle.std.proofs.Common.{◌≡◌, ℕ, ◌-◌, ◌*◌, false, length, get_or, sym, refl, ap, rules}
use borrow.Author.Tests.{tests}
use Rattle.std.proofs.lemmas.Iterator.{cases_from_all, YieldsList-from_range}
use Rattle.codec.specs.Bits.{bit, bits_of}
use Rattle.codec.proofs.Bits.{bits_of_length}
use Rattle.records.proofs.Triples.{unset_within}
use Rattle.records.proofs.packed.is_unset.Goals as goal

pub returns : goal.returns
returns c =
    let bs = c.args.bytes.now in
    let bits = bits_of bs in
    let i = c.args.from in
    let n : 8 * length bs - i ≡ length bits - i = ap (λ (m : ℕ). m - i) (sym (bits_of_length bs)) in
    unset_within bits i c.all.result
    (cases_from_all _ _ _ (λ p. bit (get_or bits p false) ≡ 0) (λ p. bit (get_or bits p false) ≡ 0 → ⊥) c.all.ensures.ran
    (YieldsList-from_range i (8 * length bs) (length bits - i) refl n) (λ x q k. search (rules, tests)) (λ x q k. search (rules, tests)))
