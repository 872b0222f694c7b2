use Rattle.records.specs.Behind.{in_run}
use Rattle.records.proofs.Cuts.{Skipping}
use Rattle.records.proofs.body.has_words.Given as goal

abbrev pub invariant-loop-word : goal.invariant-loop-word
invariant-loop-word l = Skipping in_run l.bytes l.words l._word l.from
