use Rattle.std.proofs.Common.{ap, ◌∙◌, sym}
use Rattle.drawings.specs.Drawings.{in_crossings}
use Rattle.maps.proofs.Reading.{reads, read_there}
use Rattle.maps.proofs.inside.drawing_at.Goals as goal

pub unwrap-requires : goal.unwrap-requires
unwrap-requires g c =
    let s = c.args.source.now in
    let w = c.in_ok-word.ensures in
    reads (g.S.Source.told s) (g.S.Source.lawful s) c.args.pixel w.0 c.as_slice.result.now (c.as_slice.ensures ∙ w.1) c.read.result c.read.ensures

pub returns : goal.returns
returns g c =
    let s = c.args.source.now in
    let w = c.in_ok-word.ensures in
    (w.0, read_there (g.S.Source.told s) (g.S.Source.lawful s) c.args.pixel w.0 c.as_slice.result.now (c.as_slice.ensures ∙ w.1) _ (ap in_crossings (sym c.unwrap.ensures) ∙ c.read.ensures))
