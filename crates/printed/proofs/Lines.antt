-- The line for a refusal.
--   line_is: a refusal as text, and the end of the line
use Rattle.std.proofs.Common.{◌≡◌, [], ◌∷◌, ◌++◌, append_assoc, append-nil}
use Rattle.symbols.specs.declared.refusals.Refusal.{Refusal}
use Rattle.symbols.specs.declared.refusals.Refusal.TheVariants as r
use Rattle.symbols.specs.Refusals.{refusal_text}
use Rattle.printed.specs.Printed.{refused_text}

pub line_is : (f : Refusal) → refusal_text f ++ (10 ∷ []) ≡ refused_text f
line_is (r.RoadFails p q) = simp append_assoc
line_is (r.OnRing p q k) = simp append_assoc
line_is r.Opening = simp append-nil
line_is r.NoPixel = simp append-nil
line_is r.NoWord = simp append-nil
line_is r.Unlawful = simp append-nil
line_is r.OverLongest = simp append-nil
line_is r.OverTotal = simp append-nil
line_is r.Roads = simp append-nil
line_is r.Flags = simp append-nil
line_is r.Pairs = simp append-nil
line_is r.Crossed = simp append-nil
line_is r.NoDart = simp append-nil
line_is r.Short = simp append-nil
line_is r.BadRecord = simp append-nil
line_is r.Home = simp append-nil
