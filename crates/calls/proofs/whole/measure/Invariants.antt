use Rattle.records.specs.Source.{source_told}
use Rattle.records.specs.Left.{words_left}
use Rattle.calls.proofs.Loading.{Counting}
use Rattle.calls.proofs.whole.measure.Given as goal

abbrev pub invariant-loop-word : goal.invariant-loop-word
invariant-loop-word l =
    (goal.iterator-loop-word).can_next l.word-iterator
    × (goal.iterator-loop-word).is_finite l.word-iterator
    × Counting (source_told l.source).words (words_left l.word-iterator) l.longest l.total
