use Rattle.std.proofs.Common.{arith}
use Rattle.std.proofs.lemmas.Fmt.{length-decimal-le}
use Rattle.streetlist.proofs.Putting.{number_one, number_more}
use Rattle.streetlist.proofs.text.Text.+put_number.Goals as goal

pub returns-then-n-lt10-clause-puts : goal.returns-then-n-lt10-clause-puts
returns-then-n-lt10-clause-puts t c = number_one c.args.n c.args.self.now c.put_byte.new.self c.if-n-lt10.true c.put_byte.ensures

pub returns : goal.returns
returns t c =
    let p = number_more c.args.n c.args.self.now c.put_number.new.self c.put_byte-2.new.self c.if-n-lt10.false (omega arith) c.put_number.ensures.puts c.put_byte-2.ensures in
    record { puts = p; few = omega (arith, p.puts.behind, length-decimal-le 10 c.args.n (omega arith) (omega arith) (omega arith)) }
