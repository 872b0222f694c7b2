use Rattle.std.proofs.Common.{◌≡◌, ℕ, ◌+◌, ◌-◌, ◌<◌, eqb, List, [], ◌∷◌, ◌++◌, length, get_or, take, replicate, ap, ◌∙◌, subst, sym, arith}
use Rattle.std.proofs.lemmas.List.{length-append, length-replicate}
use Rattle.symbols.specs.declared.symbols.Symbol.{Symbol}
use Rattle.symbols.specs.declared.symbols.Symbol.TheVariants.{Corner}
use Rattle.rows.specs.Rows.{items}
use Rattle.rows.proofs.Pushing.{pushed}
use Rattle.rules.specs.Tables.{at, symbol_at}
use Rattle.rules.proofs.Tables.{leader, first_le}
use Rattle.tables.proofs.Stacks.{length_firsts}
use Rattle.tables.proofs.Members.{firsts_low, first_told, goes_on_told}
use Rattle.tables.proofs.Turning.{Wrote, wrote_more}
use Rattle.tables.proofs.building.word_of.Goals as goal

pub last_records-lasts-requires : goal.last_records-lasts-requires
last_records-lasts-requires c =
    let t = c.args.table.now in
    let e = c.first_records-firsts.ensures in
    (omega (arith, ap length e, length_firsts t, c.requires.0), firsts_low t (take (length t) c.first_records-firsts.result) e)

pub goes_on-requires : goal.goes_on-requires
goes_on-requires c =
    let t = c.args.table.now in
    let k = c.loop-k.k in
    let xs = take (length t) c.first_records-firsts.result in
    let e = c.first_records-firsts.ensures in
    let h : k < length t = omega arith in
    let low : get_or xs k 0 < 60 = omega (arith, first_told t xs k e h, first_le t k h, h, c.requires.0) in
    (omega (arith, ap length e, length_firsts t, h), low, c.last_records-lasts.ensures)

pub loop-k-preserved : goal.loop-k-preserved
loop-k-preserved c =
    let t = c.args.table.now in
    let k = c.loop-k.k in
    let h : k < length t = omega arith in
    let w = items c.loop-k.word in
    let n = (at t k).road - c.loop-k.road in
    let v = c.loop-k.invariant in
    let xs = take (length t) c.first_records-firsts.result in
    let g = get_or xs k 0 in
    let e = c.first_records-firsts.ensures in
    let l : g ≡ leader t k = first_told t xs k e h in
    let m = c.goes_on.ensures ∙ goes_on_told t xs k e h in
    let s = c.symbol_of.ensures ∙ ap (λ (x : ℕ). symbol_at (at t k).vertex (eqb x k) c.goes_on.result) (c.from.ensures ∙ l) in
    let long : length (items c.push_corners.new.word) < 64 =
    omega (arith, ap length c.push_corners.ensures, length-append w (replicate n Corner), length-replicate n Corner, v.long, v.climbing k (omega arith) h, c.requires.1.0 k h) in
    let p : items c.push.new.self ≡ items c.push_corners.new.word ++ c.symbol_of.result ∷ [] =
    pushed c.push.result c.push_corners.new.word c.push.new.self c.symbol_of.result c.push.ensures long in
    subst (λ (x : List Symbol). Wrote t (k + 1) (at t k).road x) (sym (p ∙ ap (λ (x : List Symbol). x ++ c.symbol_of.result ∷ []) c.push_corners.ensures))
    (wrote_more t k c.loop-k.road w c.symbol_of.result c.goes_on.result c.requires.1 h v m s)
