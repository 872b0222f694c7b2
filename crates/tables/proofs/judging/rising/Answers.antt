use Rattle.std.proofs.Common.{◌+◌, refl, arith}
use Rattle.std.proofs.lemmas.Bool.Decides.{Decides-like}
use Rattle.tables.proofs.Turning.{climbs}
use Rattle.tables.proofs.judging.rising.Goals as goal

pub returns-then-known_roads : goal.returns-then-known_roads
returns-then-known_roads c =
    Decides-like c.never_falls.result
    (λ a. (c.if-known_roads.ensures.0 refl, climbs c.args.table.now a))
    (λ r. λ i h. r.1 i (i + 1) (omega arith) h)
    c.never_falls.ensures
