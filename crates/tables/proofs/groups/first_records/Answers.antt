use Rattle.std.proofs.Common.{◌≡◌, ℕ, List, [], ◌∷◌, ◌++◌, length, take, map, sym, ap, ◌∙◌, arith}
use Rattle.std.proofs.lemmas.List.{length-set, take_more_set, take_all}
use Rattle.rules.proofs.Tables.{first_le}
use Rattle.tables.specs.Nests.{firsts_in}
use Rattle.tables.proofs.Members.{firsts_more}
use Rattle.tables.proofs.groups.first_records.Goals as goal

pub overflow_cast-firsts : goal.overflow_cast-firsts
overflow_cast-firsts c = record { fits = omega (arith, c.first_record.ensures, first_le c.args.table.now c.loop-k.k (omega arith), c.requires) }

pub loop-k-preserved : goal.loop-k-preserved
loop-k-preserved c =
    let t = c.args.table.now in
    let k = c.loop-k.k in
    let v = c.loop-k.invariant in (
      length-set c.loop-k.firsts k c.first_record.result ∙ v.0,
      take_more_set c.loop-k.firsts k c.first_record.result (omega (arith, v.0, c.requires))
          ∙ ap (λ (x : List ℕ). x ++ c.first_record.result ∷ []) v.1
          ∙ ap (λ (x : ℕ). map (firsts_in t) (take k t) ++ x ∷ []) c.first_record.ensures
          ∙ sym (firsts_more t k (omega arith)),
    )

pub returns : goal.returns
returns c =
    let t = c.args.table.now in
    let k = c.loop-k.k in
    let end : k ≡ length t = omega arith in
    ap (λ (n : ℕ). take n c.loop-k.firsts) (sym end) ∙ c.loop-k.invariant.1 ∙ ap (map (firsts_in t)) (take_all k t (omega arith))
