use Rattle.std.specs.Prelude.{◌≡◌, Decides}
use Rattle.std.specs.Cmp.Lexicographic.{pointwise_decides}
use Rattle.std.proofs.Common.{sym, ap, ◌∙◌, rules}
use Rattle.std.proofs.lemmas.Bool.Decides.{Decides-like, same_from_decides}
use denote.Enum.Bare.{same_true, true_same}
use Rattle.symbols.specs.declared.symbols.Symbol.{Symbol}
use Rattle.symbols.specs.contracts.symbols.Symbol.{the_type}
use Rattle.rules.specs.Words.{drawn}
use Rattle.rules.proofs.Correspondence.{words_told}
use Rattle.words.specs.Held.{symbols_of, draws_same, draws_same_told}
use Rattle.words.proofs.showing.WordPartialEq.eq.Goals as goal

pub returns : goal.returns
returns c =
    let a = c.args.self.now in
    let b = c.args.other.now in
    let s : Decides c.eq.result (c.symbols.result.now ≡ c.symbols-2.result.now) =
    rw c.eq.ensures (pointwise_decides (λ (x y : Symbol). (same_true the_type (search rules) x y, true_same the_type x y)) c.symbols.result.now c.symbols-2.result.now) in
    let d : Decides c.eq.result (drawn (symbols_of a) ≡ drawn (symbols_of b)) =
    Decides-like c.eq.result
    (λ e. ap drawn (sym c.symbols.ensures ∙ e ∙ c.symbols-2.ensures))
    (λ e. c.symbols.ensures ∙ words_told (symbols_of a) (symbols_of b) a.sound b.sound e ∙ sym c.symbols-2.ensures)
    s in
    record {
      gives = same_from_decides c.eq.result (draws_same a b) d (draws_same_told a b);
      same = d;
    }
