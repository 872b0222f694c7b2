use Rattle.std.proofs.Common.{◌≡◌, ◌<◌, ◌∙◌, sym, ap, get_or, take, length, reverse, Some, arith}
use Rattle.rows.specs.Rows.{items}
use Rattle.rules.proofs.Tables.{leader, first_le}
use Rattle.tables.proofs.Stacks.{length_firsts}
use Rattle.tables.proofs.Turning.{nests_more, nests_stop, nests_end}
use Rattle.tables.proofs.Members.{firsts_low, first_told, goes_on_told}
use Rattle.tables.proofs.judging.nested.Goals as goal

pub last_records-lasts-requires : goal.last_records-lasts-requires
last_records-lasts-requires c =
    let t = c.args.table.now in
    let e = c.first_records-firsts.ensures in
    (omega (arith, ap length e, length_firsts t, c.requires), firsts_low t (take (length t) c.first_records-firsts.result) e)

pub goes_on-more-requires : goal.goes_on-more-requires
goes_on-more-requires c =
    let t = c.args.table.now in
    let k = c.loop-k.k in
    let xs = take (length t) c.first_records-firsts.result in
    let e = c.first_records-firsts.ensures in
    let h : k < length t = omega (arith, ap length e, length_firsts t) in
    let low : get_or xs k 0 < 60 = omega (arith, first_told t xs k e h, first_le t k h, h, c.requires) in
    (omega (arith, ap length e, length_firsts t, h), low, c.last_records-lasts.ensures)

pub returns-in_default : goal.returns-in_default
returns-in_default c =
    let t = c.args.table.now in
    let k = c.loop-k.k in
    let xs = take (length t) c.first_records-firsts.result in
    let g = get_or xs k 0 in
    let e = c.first_records-firsts.ensures in
    let h : k < length t = omega (arith, ap length e, length_firsts t) in
    let l : g ≡ leader t k = first_told t xs k e h in
    let m = c.goes_on-more.ensures ∙ goes_on_told t xs k e h in
    sym (nests_stop t k g (reverse (items c.loop-k.opened)) c.goes_on-more.result h l m c.in_default.ensures) ∙ c.loop-k.invariant.0

pub loop-k-preserved : goal.loop-k-preserved
loop-k-preserved c =
    let t = c.args.table.now in
    let k = c.loop-k.k in
    let xs = take (length t) c.first_records-firsts.result in
    let g = get_or xs k 0 in
    let e = c.first_records-firsts.ensures in
    let h : k < length t = omega (arith, ap length e, length_firsts t) in
    let l : g ≡ leader t k = first_told t xs k e h in
    let m = c.goes_on-more.ensures ∙ goes_on_told t xs k e h in (
      sym (nests_more t k g (reverse (items c.loop-k.opened)) (Some (reverse (items c.turn.new.opened))) c.goes_on-more.result h l m c.in-Some.ensures.0)
          ∙ c.loop-k.invariant.0,
      omega (arith, c.in-Some.ensures.1, c.loop-k.invariant.1),
    )

pub returns : goal.returns
returns c =
    let t = c.args.table.now in
    sym (nests_end t c.loop-k.k (reverse (items c.loop-k.opened)) (omega (arith, ap length c.first_records-firsts.ensures, length_firsts t)))
    ∙ c.loop-k.invariant.0
