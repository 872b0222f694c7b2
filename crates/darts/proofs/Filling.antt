-- The darts of a pixel, one after another.
--   from_more: one more number of those from one on
--   leave_one, leave_past: a dart leaves; a road has no more places
--   still_one, still_past: the same on the road with a number
--   still_none: behind the last road nothing is left
use Rattle.std.proofs.Common.{◌≡◌, ℕ, suc, ◌+◌, ◌-◌, ◌<◌, ◌≤◌, List, [], ◌∷◌, ◌++◌, length, map, drop, get_or, sym, refl, ap, ◌∙◌, arith}
use Rattle.std.proofs.lemmas.List.{drop_more, drop_all}
use Rattle.symbols.specs.declared.roads.Road.{Road}
use Rattle.symbols.specs.declared.roads.Road.TheVariants.{West}
use Rattle.symbols.specs.Symbols.{roads}
use Rattle.model.specs.Darts.{dart, from_on}
use Rattle.darts.specs.Rest.{leave}

pub from_more : (i n : ℕ) → i < n → from_on i (n - i) ≡ i ∷ from_on (i + 1) (n - (i + 1))
from_more i n h =
    let z : n - i ≡ suc (n - (i + 1)) = omega arith in
    let y : suc i ≡ i + 1 = omega arith in
    ap (from_on i) z ∙ ap (λ (x : ℕ). i ∷ from_on x (n - (i + 1))) y

module _ (p k : ℕ) (q : Road) (qs : List Road) (n : ℕ) (ns : List ℕ) where
  leave_one : k < n → leave p k (q ∷ qs) (n ∷ ns) ≡ dart p q k ∷ leave p (k + 1) (q ∷ qs) (n ∷ ns)
  leave_one h = ap (λ (x : List ℕ). map (dart p q) x ++ leave p 0 qs ns) (from_more k n h)

  leave_past : n ≤ k → leave p k (q ∷ qs) (n ∷ ns) ≡ leave p 0 qs ns
  leave_past h =
      let z : n - k ≡ 0 = omega arith in
      ap (λ (x : ℕ). map (dart p q) (from_on k x) ++ leave p 0 qs ns) z

module _ (p r k : ℕ) (ns : List ℕ) (h : r < 4) (l : length ns ≡ 4) where
  roads_at : drop r roads ≡ get_or roads r West ∷ drop (r + 1) roads
  roads_at = drop_more roads r West h

  counts_at : drop r ns ≡ get_or ns r 0 ∷ drop (r + 1) ns
  counts_at = drop_more ns r 0 (omega arith)

  pub still_one : k < get_or ns r 0 → leave p k (drop r roads) (drop r ns) ≡ dart p (get_or roads r West) k ∷ leave p (k + 1) (drop r roads) (drop r ns)
  still_one m = rw roads_at (rw counts_at (leave_one p k (get_or roads r West) (drop (r + 1) roads) (get_or ns r 0) (drop (r + 1) ns) m))

  pub still_past : get_or ns r 0 ≤ k → leave p 0 (drop (r + 1) roads) (drop (r + 1) ns) ≡ leave p k (drop r roads) (drop r ns)
  still_past m = rw roads_at (rw counts_at (sym (leave_past p k (get_or roads r West) (drop (r + 1) roads) (get_or ns r 0) (drop (r + 1) ns) m)))

pub still_none : (p r k : ℕ) (ns : List ℕ) → 4 ≤ r → leave p k (drop r roads) (drop r ns) ≡ []
still_none p r k ns h = rw (drop_all r roads h) refl
