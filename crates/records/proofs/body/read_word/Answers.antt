use Rattle.std.proofs.Common.{ℕ, ◌+◌, sym, ap, ◌∙◌, arith, length-take}
use Rattle.rows.specs.Rows.{items}
use Rattle.records.specs.Packed.{symbol_at}
use Rattle.records.proofs.Cuts.{cut_begins, cut_on, cut_stops}
use Rattle.records.proofs.body.read_word.Goals as goal

pub loop-corners-init : goal.loop-corners-init
loop-corners-init c = cut_begins c.args.bytes.now c.args.from (items c.over-word.result) c.over-word.ensures

pub returns-in_err-symbol : goal.returns-in_err-symbol
returns-in_err-symbol c =
    rw c.from_residual.ensures
    (cut_stops c.args.bytes.now c.args.from c.loop-corners.corners (items c.loop-corners.word)
    (sym (c.in_err-symbol.ensures ∙ ap (λ (n : ℕ). symbol_at c.args.bytes.now (c.args.from + n)) c.len.ensures.is)) (omega arith) c.loop-corners.invariant)

pub loop-corners-preserved : goal.loop-corners-preserved
loop-corners-preserved c =
    let v = c.push.new.self in
    cut_on c.args.bytes.now c.args.from c.loop-corners.corners c.corners_behind-corners.result (items c.loop-corners.word) (items v) c.in_ok-symbol.symbol
    (omega (arith, v.within, length-take v.len v.cells)) c.in_ok-push.ensures (omega arith)
    (sym (c.in_ok-symbol.ensures ∙ ap (λ (n : ℕ). symbol_at c.args.bytes.now (c.args.from + n)) c.len.ensures.is)) c.corners_behind-corners.ensures c.loop-corners.invariant
