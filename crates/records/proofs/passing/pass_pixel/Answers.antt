use Rattle.std.proofs.Common.{◌≡◌, ℕ, ◌*◌, drop, sym, ap, ◌∙◌, arith}
use Rattle.codec.specs.Bits.{bits_of}
use Rattle.records.specs.Rows.{runs_left}
use Rattle.records.specs.Ahead.{word_ahead}
use Rattle.records.proofs.Ahead.{outside_word, inside_word, inside_on}
use Rattle.records.proofs.passing.pass_pixel.Goals as goal

pub returns-then-place-eq0-clause-word : goal.returns-then-place-eq0-clause-word
returns-then-place-eq0-clause-word c =
    let p = c.args.place in
    let rs = runs_left p.runs in
    let bits = drop (3 * p.from) (bits_of c.args.symbols.now) in
    let z : 0 ≡ p.inside = omega arith in
    c.blank.ensures ∙ sym (outside_word c.args.end p.pixel p.low rs bits c.requires.behind)
    ∙ ap (λ (i : ℕ). word_ahead c.args.end p.pixel i p.low rs bits p.pixel) z

pub returns-clause-word : goal.returns-clause-word
returns-clause-word c =
    let p = c.args.place in
    let bits = drop (3 * p.from) (bits_of c.args.symbols.now) in
    c.pass_word.ensures.word ∙ sym (inside_word c.args.end p.pixel p.inside p.low (runs_left p.runs) bits (omega arith))

pub returns-clause-rest : goal.returns-clause-rest
returns-clause-rest c =
    let p = c.args.place in
    let all = bits_of c.args.symbols.now in
    λ k h. inside_on c.args.end p.pixel p.inside p.low (runs_left p.runs) (drop (3 * p.from) all) (drop (3 * c.pass_word.result.from) all) k (omega arith) h c.pass_word.ensures.behind
