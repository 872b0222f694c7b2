-- The last and the first record of a group, in a part of a table.
--   behind: the group of a record in the back of a table
--   found_below: the last one below a bound
--   from_or: so many behind a start; z where there is none
--   found_from: the first one from a start on
--   to_the_end: what lies behind a start, to the end
use Rattle.std.proofs.Common.{◌≡◌, ℕ, ◌+◌, ◌-◌, ◌<◌, ◌≤◌, ◌≢◌, List, length, take, drop, Some, None, Option, MatchOption, unwrap_or, sym, ap, ◌∙◌, arith}
use Rattle.std.proofs.lemmas.List.{get_or-take, get_or-drop, length-take-le, length-drop, take_all}
use Rattle.symbols.specs.declared.symbols.Crossing.{Crossing}
use Rattle.rules.specs.Tables.{blank}
use Rattle.rules.specs.Crossings.{group_at, latest, soonest}
use Rattle.rules.proofs.Turns.{latest_is, latest_none, soonest_is, soonest_none}

behind : (t : List Crossing) (n m : ℕ) → n ≤ m → group_at (drop n t) (m - n) ≡ group_at t m
behind t n m h =
    let e : n + (m - n) ≡ m = omega arith in
    ap (λ (c : Crossing). c.group) (get_or-drop n t (m - n) blank) ∙ ap (group_at t) e

pub found_below : (t : List Crossing) (g z n : ℕ) (r : Option ℕ) → n ≤ length t
    → MatchOption r ((k : ℕ) → k < length (take n t) → group_at (take n t) k ≢ g)
    (λ i. (i < length (take n t)) × (group_at (take n t) i ≡ g) × ((k : ℕ) → i < k → k < length (take n t) → group_at (take n t) k ≢ g))
    → unwrap_or r z ≡ latest (group_at t) g z n
found_below t g z n None h f =
    sym (latest_none (group_at t) g z n (λ m a b e. f m (omega (arith, length-take-le n t h)) (ap (λ (c : Crossing). c.group) (get_or-take n t m blank b) ∙ e)))
found_below t g z n (Some i) h f =
    let l : length (take n t) ≡ n = length-take-le n t h in
    let b : i < n = omega (arith, f.0) in
    sym (latest_is (group_at t) g z n i b (sym (ap (λ (c : Crossing). c.group) (get_or-take n t i blank b)) ∙ f.1)
    (λ m a c e. f.2 m (omega arith) (omega arith) (ap (λ (x : Crossing). x.group) (get_or-take n t m blank c) ∙ e)))

abbrev pub from_or : ℕ → ℕ → Option ℕ → ℕ
from_or z n None = z
from_or z n (Some i) = n + i

pub found_from : (t : List Crossing) (g z n : ℕ) (r : Option ℕ) → n ≤ length t
    → MatchOption r ((k : ℕ) → k < length (drop n t) → group_at (drop n t) k ≢ g)
    (λ i. (i < length (drop n t)) × (group_at (drop n t) i ≡ g) × ((k : ℕ) → k < i → group_at (drop n t) k ≢ g))
    → from_or z n r ≡ soonest (group_at t) g z (length t - n) n
found_from t g z n None h f =
    sym (soonest_none (group_at t) g z (length t - n) n (λ m a b e. f (m - n) (omega (arith, length-drop n t)) (behind t n m a ∙ e)))
found_from t g z n (Some i) h f =
    sym (soonest_is (group_at t) g z (length t - n) n (n + i) (omega arith) (omega (arith, f.0, length-drop n t)) (sym (ap (λ (c : Crossing). c.group) (get_or-drop n t i blank)) ∙ f.1)
    (λ m a b e. f.2 (m - n) (omega arith) (behind t n m a ∙ e)))

pub to_the_end : (t : List Crossing) (n : ℕ) → take (length t - n) (drop n t) ≡ drop n t
to_the_end t n = take_all (length t - n) (drop n t) (omega (arith, length-drop n t))
