use Rattle.std.proofs.Common.{◌≡◌, ◌≤◌, length}
use Rattle.strips.specs.Strips.{strip_words, lengths}
use Rattle.strips.proofs.seek.Given as goal

abbrev pub invariant-loop-word : goal.invariant-loop-word
invariant-loop-word l = (l.at ≡ lengths (strip_words l._word l.memory)) × (l.at ≤ length l.memory)
