-- Runs one behind the other, and where a pixel stands among their pixels.
--   Follows, follows_parts: what the test of a run says
--   Counting: some runs are counted, and those left begin at `low` or later
--   Seeking: some runs are passed over on the way to a pixel
use Rattle.std.proofs.Common.{◌≡◌, ℕ, ◌+◌, ◌≤◌, true, ◌&&◌, leb, List}
use Rattle.std.specs.Option.{option_map}
use Rattle.std.proofs.lemmas.Bool.{leb-true, and_parts}
use Rattle.codec.specs.Runs.{Run, sound}
use Rattle.records.specs.Stretches.{run_pixels, follows, spot}

pub record Follows (low end : ℕ) (r : Run) : Type 0 where
  pub begins : low ≤ r.offset
  pub some : 1 ≤ r.count
  pub inside : r.offset + r.count ≤ end

pub follows_parts : (low end : ℕ) (r : Run) → follows low end r ≡ true → Follows low end r
follows_parts low end r e =
    let p = and_parts (leb low r.offset) (leb 1 r.count && leb (r.offset + r.count) end) e in
    let q = and_parts (leb 1 r.count) (leb (r.offset + r.count) end) p.1 in
    record { begins = leb-true low r.offset p.0; some = leb-true 1 r.count q.0; inside = leb-true (r.offset + r.count) end q.1 }

pub record Counting (rs left : List Run) (end low n : ℕ) : Type 0 where
  pub all : sound 0 end rs ≡ sound low end left
  pub sum : run_pixels rs ≡ n + run_pixels left
  pub few : n ≤ low
  pub most : n ≤ end

pub record Seeking (rs left : List Run) (end p low n : ℕ) : Type 0 where
  pub is : spot 0 end rs p ≡ option_map (λ k. n + k) (spot low end left p)
  pub few : n ≤ low
  pub most : n ≤ end
