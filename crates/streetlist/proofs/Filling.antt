-- The street list of a sheet as an answer.
--   list_fills: a list that was put into memory that holds it
use Rattle.std.proofs.Common.{◌≡◌, ℕ, ◌+◌, ◌≤◌, List, ◌++◌, length, drop, Ok, Result, sym, ap, ◌∙◌, arith}
use Rattle.symbols.specs.declared.refusals.Refusal.{Refusal}
use Rattle.model.specs.Streets.{given_if}
use Rattle.stores.proofs.Fronts.{fills_well}
use Rattle.recorder.proofs.Puts.{puts_front}
use Rattle.streetlist.specs.Puts.{Puts}
use Rattle.streetlist.specs.Lists.{memory_after}

pub list_fills : (r : Result (Unit {0}) Refusal) (text old now : List ℕ) (n end : ℕ) → r ≡ Ok tt → n ≡ 0 + length text → n ≤ length old → Puts text old 0 end now → now ≡ memory_after (given_if r text) old
list_fills r text old now n end e m h p =
    let z : end ≡ length text = omega (arith, p.behind) in
    let f = fills_well text old now end z (omega arith) (p.holds ∙ puts_front text old (omega arith) ∙ ap (λ (x : ℕ). text ++ drop x old) (sym z)) in
    f.holds ∙ ap (λ (x : Result (Unit {0}) Refusal). memory_after (given_if x text) old) (sym e)
