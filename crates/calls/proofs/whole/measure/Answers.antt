use Rattle.std.proofs.Common.{length, refl, ap, ◌∙◌, arith}
use Rattle.words.specs.Held.{symbols_of}
use Rattle.records.specs.Told.{record_lawful}
use Rattle.records.specs.Source.{source_told}
use Rattle.records.specs.Left.{words_left}
use Rattle.calls.proofs.Loading.{count_begins, told_few, count_few, count_on}
use Rattle.calls.proofs.whole.measure.Goals as goal

pub loop-word-init : goal.loop-word-init
loop-word-init c =
    let src = c.args.source.now in
    let l = record_lawful src.width src.height src.runs.now src.symbols.now in
    (tt, tt, count_begins (source_told src).words (words_left c.into_iter-word-iterator.result) (ap words_left c.into_iter-word-iterator.ensures.into_iter_gives ∙ c.words-word-items.ensures.words) l.words)

pub overflow_add-total : goal.overflow_add-total
overflow_add-total c =
    let src = c.args.source.now in
    let l = record_lawful src.width src.height src.runs.now src.symbols.now in
    omega (
      arith,
      count_few (source_told src).words (words_left c.loop-word.word-iterator) (words_left c.next.new.self) (symbols_of c.in-Some.word) c.loop-word.longest c.loop-word.total (length c.symbols-len.result.now)
          c.in-Some.ensures.steps (ap length c.symbols-len.ensures) c.loop-word.invariant.2 (told_few (source_told src) l),
    )

pub loop-word-preserved : goal.loop-word-preserved
loop-word-preserved c =
    let src = c.args.source.now in (
      tt,
      tt,
      count_on (source_told src).words (words_left c.loop-word.word-iterator) (words_left c.next.new.self) (symbols_of c.in-Some.word) c.loop-word.longest c.loop-word.total (length c.symbols-len.result.now)
          c.in-Some.ensures.steps (ap length c.symbols-len.ensures) c.loop-word.invariant.2 _ _ c.max-longest.ensures refl,
    )
