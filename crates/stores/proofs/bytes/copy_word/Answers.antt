use Rattle.std.proofs.Common.{◌≡◌, ℕ, ◌<◌, List, ◌++◌, length, take, drop, sym, ap, ◌∙◌, arith}
use lib.ListN.{length-map}
use Rattle.std.proofs.lemmas.List.{get_or-map, get_or-take, length-take-le}
use Rattle.symbols.specs.declared.symbols.Symbol.{Symbol}
use Rattle.symbols.specs.declared.symbols.Symbol.TheVariants.{Corner}
use Rattle.stores.specs.Bytes.{decode, decoded, front_word}
use Rattle.stores.proofs.Fronts.{put_more, up_to_take, fills_well}
use Rattle.stores.proofs.bytes.copy_word.Goals as goal

pub loop-i-preserved : goal.loop-i-preserved
loop-i-preserved c =
    let bs = c.args.bytes.now in
    let n : ℕ = c.front_len-n.result in
    let short : c.loop-i.i < n = omega (arith, length-take-le n bs c.front_len-n.ensures.within) in
    let l : c.loop-i.i < length (decoded bs) = omega (arith, length-map bs decode, c.front_len-n.ensures.within) in
    put_more (decoded bs) c.args.out.now c.loop-i.out Corner c.loop-i.i c.symbol_of.result l (omega arith)
    (c.symbol_of.ensures ∙ ap decode (get_or-take n bs c.loop-i.i 0 short) ∙ sym (get_or-map decode bs c.loop-i.i 0 Corner (omega (arith, length-map bs decode)))) c.loop-i.invariant

pub returns-clause-memory : goal.returns-clause-memory
returns-clause-memory c =
    let bs = c.args.bytes.now in
    let n : ℕ = c.front_len-n.result in
    let i : c.loop-i.i ≡ n = omega (arith, length-take-le n bs c.front_len-n.ensures.within) in
    let w : take n (decoded bs) ≡ front_word bs = ap (λ (x : ℕ). take x (decoded bs)) c.front_len-n.ensures.is ∙ sym (up_to_take 4 (decoded bs)) in
    (fills_well (front_word bs) c.args.out.now c.loop-i.out n c.front_len-n.ensures.is (omega arith)
    (c.loop-i.invariant ∙ ap (λ (x : ℕ). take x (decoded bs) ++ drop x c.args.out.now) i ∙ ap (λ (x : List Symbol). x ++ drop n c.args.out.now) w)).holds
