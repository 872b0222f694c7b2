use Rattle.records.specs.Source.{source_told}
use Rattle.stores.specs.Sources.{plain_kept}
use Rattle.calls.proofs.Loading.{blank_now, fits_now}
use Rattle.calls.proofs.whole.copy_all.Goals as goal

pub write_all-requires : goal.write_all-requires
write_all-requires g c =
    let first = plain_kept g.S.Source.told g.S.Store.longest g.S.Store.total c.args.store.now in
    let now = plain_kept g.S.Source.told g.S.Store.longest g.S.Store.total c.empty_all.new.store in
    record {
      blank = blank_now first now c.empty_all.ensures;
      fits = fits_now first now (source_told c.args.source.now) c.empty_all.ensures c.requires;
    }
