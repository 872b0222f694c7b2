use Rattle.std.proofs.Common.{◌*◌, drop}
use Rattle.codec.specs.Bits.{bits_of}
use Rattle.records.proofs.Ahead.{behind_none}
use Rattle.records.proofs.passing.pass_word.Goals as goal

pub returns-in-None-clause-behind : goal.returns-in-None-clause-behind
returns-in-None-clause-behind c = behind_none (drop (3 * c.args.from) (bits_of c.args.symbols.now)) c.in-None.ensures
