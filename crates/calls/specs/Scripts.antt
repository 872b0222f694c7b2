-- Calls as values, and scripts of them.
--   call_of: the call on a plain sheet that a value stands for
--   calls_of: the calls of a script, in order
use Rattle.std.specs.Prelude.{List, map}
use Rattle.plain.specs.Plain as plain
use Rattle.calls.specs.declared.scripts.Call.{Call}
use Rattle.calls.specs.declared.scripts.Call.TheVariants.{Put, Write, Build, Clear, Load, Question}

abbrev pub call_of : Call → plain.Call
call_of (Put p text) = plain.put p text.now
call_of (Write p word) = plain.write p word.now
call_of (Build p table) = plain.build p table.now
call_of (Clear p) = plain.clear p
call_of (Load bytes) = plain.load bytes.now
call_of Question = plain.question

abbrev pub calls_of : List Call → List plain.Call
calls_of = map call_of
