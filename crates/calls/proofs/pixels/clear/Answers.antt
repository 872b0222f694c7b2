use Rattle.stores.specs.Sources.{plain_kept}
use Rattle.calls.proofs.Single.{made_clear}
use Rattle.calls.proofs.pixels.clear.Goals as goal

pub returns : goal.returns
returns g c =
    let s = c.args.store.now in
    let m = made_clear (plain_kept g.S.Source.told g.S.Store.longest g.S.Store.total s) (plain_kept g.S.Source.told g.S.Store.longest g.S.Store.total c.write_empty.new.store) c.args.pixel c.write_empty.result (g.met.S.Store.keeps s) c.write_empty.ensures.answer c.write_empty.ensures.after in
    record { answer = m.answer_is; after = m.after_is }
