use Rattle.std.proofs.Common.{arith}
use Rattle.codec.specs.Records.{bytes_of}
use Rattle.stores.specs.Sources.{sheet_told}
use Rattle.stores.proofs.Fronts.{fills_short, fills_well}
use Rattle.recorder.proofs.Written.{record_size, written}
use Rattle.recorder.proofs.write_record.Goals as goal

pub returns-then-n-out : goal.returns-then-n-out
returns-then-n-out g c =
    let t = g.S.Source.told c.args.source.now in
    let n = record_size t c.size_of_record-n.result c.count_runs-runs.result c.count_symbols.result c.size_of_record-n.ensures c.count_runs-runs.ensures.is c.count_symbols.ensures.is in
    let f = fills_short (bytes_of (sheet_told t)) c.args.out.now (omega (arith, c.if-n-out.true)) in
    record { answer = f.told; memory = f.holds }

pub returns : goal.returns
returns g c =
    let t = g.S.Source.told c.args.source.now in
    let len = c.size_of_record-n.result in
    let runs = c.count_runs-runs.result in
    let n = record_size t len runs c.count_symbols.result c.size_of_record-n.ensures c.count_runs-runs.ensures.is c.count_symbols.ensures.is in
    let m = written t c.size.result.width c.size.result.height runs c.size.ensures.width c.size.ensures.height c.count_runs-runs.ensures.is
    c.args.out.now c.write_header.new.out c.write_runs.new.out c.write_words.new.part c.words_at-at.result len c.words_at-at.ensures n
    (omega (arith, c.if-n-out.false)) (omega (arith, c.size_of_record-n.ensures, c.words_at-at.ensures)) c.write_header.ensures c.write_runs.ensures c.write_words.ensures in
    let f = fills_well (bytes_of (sheet_told t)) c.args.out.now _ len n (omega (arith, c.if-n-out.false)) m in
    record { answer = f.told; memory = f.holds }
