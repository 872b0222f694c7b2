use Rattle.std.proofs.Common.{◌≡◌, ◌≤◌, false, List, is_some, sym, subst}
use Rattle.symbols.specs.declared.symbols.Crossing.{Crossing}
use Rattle.rules.specs.Tables.{blank, fault}
use Rattle.drawings.proofs.Sound.{road_low}
use Rattle.drawings.proofs.Drawing.place_of.Goals as goal

pub known_road-requires : goal.known_road-requires
known_road-requires c =
    let l = c.in_ok-code.ensures.lookup.3 in
    let s : is_some (fault c.crossings.result.now) ≡ false =
    subst (λ (d : List Crossing). is_some (fault d) ≡ false) (sym c.crossings.ensures) c.args.self.now.sound in
    subst (λ (x : Crossing). x.road ≤ 3) (sym (l.1 blank)) (road_low c.crossings.result.now c.args.crossing s l.0)
