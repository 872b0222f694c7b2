use Rattle.std.proofs.Common.{◌≡◌, ℕ, List, length, take, IfOk, vec_items, ap, ◌∙◌, subst, arith}
use Rattle.model.specs.Streets.{street_list}
use Rattle.stores.specs.Sources.{sheet_told}
use Rattle.printed.specs.Printed.{most_list}
use Rattle.printed.proofs.Listing.{refilled, listed_text, refused_list}
use Rattle.printed.proofs.list_of.Goals as goal

pub returns-in-Ok : goal.returns-in-Ok
returns-in-Ok g c =
    let o = street_list (sheet_told (g.S.Source.told c.args.source.now)) in
    let ws = c.street_list.new.out in
    let v = c.in_ok-out.out in
    let old : length c.deref_mut.result.now ≡ most_list = omega (arith, c.in_ok-out.ensures, c.deref_mut.ensures.len) in
    c.truncate.ensures.items
    ∙ ap (take c.in-Ok.n) (refilled v.len v.items ws (omega (arith, c.deref_mut.ensures.len, c.street_list.auto)))
    ∙ listed_text o c.deref_mut.result.now ws c.in-Ok.n old c.in-Ok.ensures.answer c.in-Ok.ensures.memory

pub returns-in-Err : goal.returns-in-Err
returns-in-Err g c =
    let o = street_list (sheet_told (g.S.Source.told c.args.source.now)) in
    let old : length c.deref_mut.result.now ≡ most_list = omega (arith, c.in_ok-out.ensures, c.deref_mut.ensures.len) in
    subst (λ (x : List ℕ). IfOk c.refused.result (λ v. vec_items v ≡ x)) (refused_list o c.deref_mut.result.now c.in-Err.refusal old c.in-Err.ensures.answer) c.refused.ensures
