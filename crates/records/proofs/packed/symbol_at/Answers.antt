use Rattle.std.proofs.Common.{◌≡◌, Some, None, Option, refl, ℕ, ◌-◌, ◌*◌, ◌/◌, List, length, take, drop, sym, ap, ◌∙◌, arith, length-drop}
use Rattle.std.proofs.lemmas.List.{take_rest}
use Rattle.std.specs.Result.{result_ok}
use Rattle.symbols.specs.declared.symbols.Symbol.{Symbol}
use Rattle.symbols.specs.Symbols.{coded, or_unknown}
use Rattle.records.proofs.Triples.{none_there, code_there}
use Rattle.records.proofs.packed.symbol_at.Goals as goal

pub returns-then-rows-bytes : goal.returns-then-rows-bytes
returns-then-rows-bytes c = sym (none_there c.args.bytes.now c.args.index (omega (arith, length-drop (3 * (c.args.index / 8)) c.args.bytes.now)))

pub returns-then-within-part : goal.returns-then-within-part
returns-then-within-part c =
    let p = ap length (take_rest c.args.bytes.now (3 * (c.args.index / 8))) in
    sym (none_there c.args.bytes.now c.args.index (omega arith))

-- the symbol of a code that may be unknown
known : (n : ℕ) (o : Option Symbol) → result_ok (or_unknown n o) ≡ o
known n None = refl
known n (Some s) = refl

pub returns : goal.returns
returns c =
    let bs = c.args.bytes.now in
    let k = c.args.index in
    let part : List ℕ = take (length bs - 3 * (k / 8)) (drop (3 * (k / 8)) bs) in
    c.ok.ensures.value ∙ ap result_ok c.try_from.ensures ∙ known c.code_at.result (coded c.code_at.result) ∙ ap coded c.code_at.ensures ∙ sym (code_there bs part k (take_rest bs (3 * (k / 8))) (omega arith))
