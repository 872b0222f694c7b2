use Rattle.std.proofs.Common.{sym}
use Rattle.records.specs.Source.{source_told}
use Rattle.stores.specs.Sources.{plain_kept}
use Rattle.calls.proofs.Loading.{accepted_fits}
use Rattle.calls.proofs.whole.load.Goals as goal

pub copy_all-requires : goal.copy_all-requires
copy_all-requires g c =
    accepted_fits (plain_kept g.S.Source.told g.S.Store.longest g.S.Store.total c.args.store.now) (source_told c.in_ok-source.source) (sym c.in_ok-judge.ensures)
