use Rattle.std.proofs.Common.{◌≡◌, ◌≤◌, true, length, get_or, rules}
use Rattle.std.proofs.lemmas.List.{take_rest}
use Rattle.codec.specs.Records.{side}
use Rattle.records.proofs.Opening.{headed}
use Rattle.records.proofs.split_header.Goals as goal

pub returns : goal.returns
returns c =
    let bs = c.args.bytes.now in
    let five : 5 ≤ length bs = search rules in
    let one : get_or bs 0 0 ≡ 1 = search rules in
    let w : side (get_or bs 1 0) ≡ true = search rules in
    let h : side (get_or bs 2 0) ≡ true = search rules in
    let e = headed bs five one w h in
    let rest = take_rest bs 5 in
    (cc, search rules, search rules, search rules)
