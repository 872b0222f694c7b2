use Rattle.std.proofs.Common.{◌≡◌, ℕ, ◌*◌, [], drop, length, sym, ap, ◌∙◌, arith, rules}
use Rattle.std.proofs.lemmas.List.{drop_all}
use Rattle.codec.specs.Bits.{bits_of}
use Rattle.stores.specs.Sources.{word_at}
use Rattle.words.specs.Held.{symbols_of}
use Rattle.records.specs.Stretches.{run_list}
use Rattle.records.specs.Rows.{runs_left}
use Rattle.records.specs.Told.{side_or_one, word_in, record_lawful}
use Rattle.records.specs.Source.{source_told}
use Rattle.records.specs.Ahead.{word_ahead}
use Rattle.records.proofs.Opening.{told_word}
use Rattle.records.proofs.Ahead.{same_encoded, same_ahead, one_on}
use Rattle.records.proofs.passing.WordsIterator.next.Goals as goal

pub returns-then-self-end-clause-steps : goal.returns-then-self-end-clause-steps
returns-then-self-end-clause-steps c =
    let s = c.args.self.now in
    let src = s.source in
    let end : ℕ = c.side_of.result * c.side_of-2.result in
    let e : end ≡ side_or_one src.width * side_or_one src.height = ap (λ (x : ℕ). x * c.side_of-2.result) c.side_of.ensures.is ∙ ap (λ (y : ℕ). side_or_one src.width * y) c.side_of-2.ensures.is in
    let whole = (record_lawful src.width src.height src.runs.now src.symbols.now).whole in
    let none : drop s.place.pixel (source_told src).words ≡ [] = drop_all s.place.pixel (source_told src).words (omega arith) in
    (none, none)

pub returns-clause-steps : goal.returns-clause-steps
returns-clause-steps c =
    let s = c.args.self.now in
    let src = s.source in
    let t = source_told src in
    let pl = s.place in
    let q = c.entered-place.result in
    let all = bits_of src.symbols.now in
    let end : ℕ = c.side_of.result * c.side_of-2.result in
    let e : end ≡ side_or_one src.width * side_or_one src.height = ap (λ (x : ℕ). x * c.side_of-2.result) c.side_of.ensures.is ∙ ap (λ (y : ℕ). side_or_one src.width * y) c.side_of-2.ensures.is in
    let same = c.entered-place.ensures.same in
    let whole = (record_lawful src.width src.height src.runs.now src.symbols.now).whole in
    let told : word_in end (run_list src.runs.now) all pl.pixel ≡ word_at t pl.pixel = (told_word src.width src.height src.runs.now src.symbols.now c.side_of.result c.side_of-2.result pl.pixel c.side_of.ensures.is c.side_of-2.ensures.is c.if-self-end.false).1 in
    let is : symbols_of c.pass_pixel-passed.result.word ≡ word_at t pl.pixel =
    c.pass_pixel-passed.ensures.word
    ∙ ap (λ (k : ℕ). word_ahead end q.pixel q.inside q.low (runs_left q.runs) (drop (3 * q.from) all) k) same.0
    ∙ same_ahead end pl.pixel pl.inside pl.low pl.from q.pixel q.inside q.low q.from (runs_left pl.runs) (runs_left q.runs) all pl.pixel same.1 (c.entered-place.ensures.spots pl.pixel (omega arith))
    ∙ ap (λ (x : ℕ). word_ahead x pl.pixel pl.inside pl.low (runs_left pl.runs) (drop (3 * pl.from) all) pl.pixel) e
    ∙ same_encoded _ _ (s.told pl.pixel (omega arith))
    ∙ ap (λ (x : ℕ). word_in x (run_list src.runs.now) all pl.pixel) (sym e)
    ∙ told in
    one_on t.words pl.pixel q.pixel _ (omega arith) is same.0

pub returns-clause-goes : goal.returns-clause-goes
returns-clause-goes c = let e = ap length (returns-clause-steps c) in search (rules, e)
