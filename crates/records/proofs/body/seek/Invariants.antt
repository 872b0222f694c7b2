use Rattle.records.specs.Behind.{any_word}
use Rattle.records.proofs.Cuts.{Skipping}
use Rattle.records.proofs.body.seek.Given as goal

abbrev pub invariant-loop-word : goal.invariant-loop-word
invariant-loop-word l = Skipping any_word l.bytes l.words l._word l.from
