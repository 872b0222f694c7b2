use Rattle.std.proofs.Common.{◌≡◌, ℕ, ◌<◌, length, Decides, sym, ap, ◌∙◌, arith, rules}
use Rattle.std.proofs.lemmas.Bool.Decides.{Decides-like}
use Rattle.rules.specs.Tables.{at}
use Rattle.rules.proofs.Tables.{leader, first_le, first_group, same_first}
use Rattle.tables.proofs.judging.flagged.Goals as goal

pub returns : goal.returns
returns c =
    let t = c.args.table.now in
    let told : Decides c.all.result ((i : ℕ) → i < length t → (leader t i < length t) × ((at t (leader t i)).vertex ≡ (at t i).vertex)) = search rules in
    Decides-like c.all.result
    (λ a i j h l e. sym (a i h).1 ∙ ap (λ (x : ℕ). (at t x).vertex) (same_first t i j e) ∙ (a j l).1)
    (λ a i h. let l : leader t i < length t = omega (arith, first_le t i h) in (l, a (leader t i) i l h (first_group t i h)))
    told
