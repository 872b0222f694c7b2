use Rattle.stores.specs.Sources.{plain_kept}
use Rattle.calls.proofs.Single.{made_built}
use Rattle.calls.proofs.pixels.build.Goals as goal

pub returns : goal.returns
returns g c =
    let m = made_built (plain_kept g.S.Source.told g.S.Store.longest g.S.Store.total c.args.store.now) (plain_kept g.S.Source.told g.S.Store.longest g.S.Store.total c.draw_table.new.store) c.args.pixel c.args.table.now c.draw_table.result c.draw_table.ensures.answer c.draw_table.ensures.after in
    record { answer = m.answer_is; after = m.after_is }
