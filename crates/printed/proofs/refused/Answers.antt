use Rattle.std.proofs.Common.{◌≡◌, [], ◌∷◌, ◌++◌, ◌∙◌, rules}
use Rattle.symbols.specs.Refusals.{refusal_text}
use Rattle.printed.proofs.Lines.{line_is}
use Rattle.printed.proofs.refused.Goals as goal

pub returns : goal.returns
returns c =
    let e : c.into_bytes.result.items ≡ refusal_text c.args.refusal ++ (10 ∷ []) = search rules in
    e ∙ line_is c.args.refusal
