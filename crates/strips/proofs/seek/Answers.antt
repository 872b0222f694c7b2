use Rattle.std.proofs.Common.{◌≡◌, length, drop, ap, ◌∙◌, arith, length-drop}
use Rattle.std.proofs.lemmas.List.{take_rest}
use Rattle.strips.specs.Strips.{strip_words, lengths}
use Rattle.strips.specs.Cuts.{span, lengths_more}
use Rattle.strips.proofs.seek.Goals as goal

pub loop-word-preserved : goal.loop-word-preserved
loop-word-preserved c =
    let bs = c.args.memory.now in
    let at = c.loop-word.at in
    let s : c.front_len-at.result ≡ span (drop at bs) = c.front_len-at.ensures.is ∙ ap span (take_rest bs at) in
    let e : span (drop at bs) ≡ span (drop (lengths (strip_words c.loop-word._word bs)) bs) = ap (λ m. span (drop m bs)) c.loop-word.invariant.0 in
    (omega (arith, lengths_more c.loop-word._word bs), omega (arith, c.front_len-at.ensures.within, ap length (take_rest bs at), length-drop at bs))
