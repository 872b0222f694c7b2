use Rattle.recorder.proofs.Written.{record_size}
use Rattle.recorder.proofs.record_len.Goals as goal

pub returns : goal.returns
returns g c =
    record_size (g.S.Source.told c.args.source.now) c.size_of_record.result c.count_runs.result c.count_symbols.result c.size_of_record.ensures c.count_runs.ensures.is c.count_symbols.ensures.is
