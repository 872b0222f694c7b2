use Rattle.std.proofs.Common.{ℕ, ◌*◌, drop, replicate, refl, ap, ◌∙◌, arith}
use Rattle.symbols.specs.Refusals.{filled}
use Rattle.plain.specs.Plain.{Opens}
use Rattle.stores.proofs.Fronts.{blank_front}
use Rattle.strips.specs.Cuts.{blank_cuts}
use Rattle.strips.proofs.Steps.{refilled}
use Rattle.strips.proofs.StripStore.open.Goals as goal

pub invariant_of-result : goal.invariant_of-result
invariant_of-result c =
    let m = c.args.memory in
    let n = c.args.width * c.args.height in
    let o : Opens c.args.width c.args.height 64 c.len.result = c.if-not-opens.ensures.0 refl in
    let b = blank_cuts n _ (drop (4 * n) c.deref_mut.result.now) (refilled m.len m.items c.blank_out.new.bytes (omega (arith, c.deref_mut.ensures.len, c.blank_out.auto)) ∙ c.blank_out.ensures
    ∙ ap (λ (x : ℕ). filled (replicate (4 * x) 0) c.deref_mut.result.now) c.pixels.ensures ∙ blank_front (4 * n) c.deref_mut.result.now (omega (arith, o.least_total, c.len.ensures, c.deref_mut.ensures.len))) in
    record { sides = (o.some_width, o.most_width, o.some_height, o.most_height, omega arith); each = b.each }

pub returns : goal.returns
returns c =
    let m = c.args.memory in
    let n = c.args.width * c.args.height in
    let o : Opens c.args.width c.args.height 64 c.len.result = c.if-not-opens.ensures.0 refl in
    let b = blank_cuts n _ (drop (4 * n) c.deref_mut.result.now) (refilled m.len m.items c.blank_out.new.bytes (omega (arith, c.deref_mut.ensures.len, c.blank_out.auto)) ∙ c.blank_out.ensures
    ∙ ap (λ (x : ℕ). filled (replicate (4 * x) 0) c.deref_mut.result.now) c.pixels.ensures ∙ blank_front (4 * n) c.deref_mut.result.now (omega (arith, o.least_total, c.len.ensures, c.deref_mut.ensures.len))) in (
      record {
        some_width = o.some_width;
        most_width = o.most_width;
        some_height = o.some_height;
        most_height = o.most_height;
        least_longest = o.least_longest;
        least_total = omega arith;
      },
      λ k. record { width = c.args.width; height = c.args.height; words = b.words k },
      refl,
    )
