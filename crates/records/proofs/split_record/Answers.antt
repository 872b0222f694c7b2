use Rattle.std.proofs.Common.{◌*◌, ◌≤◌, length, sym, refl, ◌∙◌, arith}
use Rattle.records.proofs.Opening.{bad_length, bad_runs, bad_words, good_record}
use Rattle.records.proofs.split_record.Goals as goal

pub returns-in_err-runs : goal.returns-in_err-runs
returns-in_err-runs c =
    let h = c.in_ok-header.header in
    rw c.from_residual-in_err-runs.ensures
    (c.in_ok-header.ensures.0 ∙ bad_length h.size.width h.size.height h.runs h.rest.now c.in_err-runs.ensures.cases)

pub returns-in_err-words : goal.returns-in_err-words
returns-in_err-words c =
    let h = c.in_ok-header.header in
    let s = c.in_ok-runs in
    let p = s.ensures.cases in
    let fits : 4 * h.runs ≤ length h.rest.now = omega (arith, p.3) in
    rw c.from_residual-in_err-words.ensures
    (c.in_ok-header.ensures.0 ∙ bad_runs h.size.width h.size.height h.runs (h.size.width * h.size.height) h.rest.now s.runs.now s.symbols.now fits p.1 p.2 refl c.in_err-words.ensures)

pub returns-then-not-has_words : goal.returns-then-not-has_words
returns-then-not-has_words c =
    let h = c.in_ok-header.header in
    let s = c.in_ok-runs in
    let p = s.ensures.cases in
    let fits : 4 * h.runs ≤ length h.rest.now = omega (arith, p.3) in
    let r = c.in_ok-words.ensures in
    c.in_ok-header.ensures.0 ∙ bad_words h.size.width h.size.height h.runs (h.size.width * h.size.height) h.rest.now s.runs.now s.symbols.now fits p.1 p.2 refl c.in_ok-words.words r.0 r.1 (sym c.if-not-has_words.ensures)

pub returns : goal.returns
returns c =
    let h = c.in_ok-header.header in
    let s = c.in_ok-runs in
    let p = s.ensures.cases in
    let fits : 4 * h.runs ≤ length h.rest.now = omega (arith, p.3) in
    let r = c.in_ok-words.ensures in
    let e = c.in_ok-header.ensures in
    e.0 ∙ good_record h.size.width h.size.height h.runs (h.size.width * h.size.height) h.rest.now s.runs.now s.symbols.now fits p.1 p.2 refl c.in_ok-words.words e.1 e.2 r.0 r.1 (sym c.if-not-has_words.ensures)
