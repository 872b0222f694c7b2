-- Open marks, and what makes crossings a drawing: the definitions that the proofs share.
--   mark_at, flag: the crossing at which a mark opened, and whether its group has a vertex
--   holds: whether a crossing has an open mark
--   Stack: the open marks' crossings fall, from below a number
--   Fine: what makes a crossing one of a drawing, by what follows it
--   Tidy: each crossing is fine
--   Agrees: the crossings of an open mark's group have its flag
use Rattle.std.proofs.Common.{◌≡◌, ℕ, suc, ◌<◌, ◌≤◌, Bool, true, false, ◌||◌, eqb, ◌⊎◌, List, [], ◌∷◌, refl, arith}
use Rattle.std.specs.List.{AllByRecursion}
use Rattle.std.proofs.lemmas.Bool.{true≢false, or_from, ne_eqb}
use Rattle.symbols.specs.declared.symbols.Mark.{Mark}
use Rattle.symbols.specs.declared.symbols.Mark.TheVariants.{Split, Junction}
use Rattle.symbols.specs.declared.symbols.Crossing.{Crossing}
use Rattle.rules.specs.Tables.{mentions}

-- the crossing of a mark
abbrev pub mark_at : Mark → ℕ
mark_at (Split g) = g
mark_at (Junction g) = g

-- whether crossing g has an open mark
abbrev pub holds : ℕ → List Mark → Bool
holds g [] = false
holds g (m ∷ st) = eqb g (mark_at m) || holds g st

-- the open marks' crossings fall, from below k
abbrev pub Stack : ℕ → List Mark → Type 0
Stack k [] = Unit {0}
Stack k (m ∷ st) = (mark_at m < k) × Stack (mark_at m) st

pub stack_up : (st : List Mark) (j k : ℕ) → j ≤ k → Stack j st → Stack k st
stack_up [] j k h s = tt
stack_up (m ∷ st) j k h s = (omega arith, s.1)

pub stack_fresh : (st : List Mark) (k g : ℕ) → k ≤ g → Stack k st → holds g st ≡ false
stack_fresh [] k g h s = refl
stack_fresh (m ∷ st) k g h s =
    or_from _ _ (ne_eqb g (mark_at m) (omega arith)) (stack_fresh st (mark_at m) g (omega arith) s.1)

pub or_skip : (x y z : Bool) → x ≡ false → y ≡ z → (x || y) ≡ z
or_skip true y z p q = absurd (true≢false p)
or_skip false y z p q = q

pub or_twice : (x y z : Bool) → y ≡ (x || z) → (x || y) ≡ (x || z)
or_twice true y z p = refl
or_twice false y z p = p

-- What makes the crossing e, at number k before the crossings es, one of a drawing, where the crossing before it is on road r.
pub record Fine (r k : ℕ) (e : Crossing) (es : List Crossing) : Type 0 where
  pub low : r ≤ e.road
  pub three : e.road ≤ 3
  pub named : (e.group ≡ k) ⊎ ((e.group < k) × (mentions k es ≡ false))
  pub nested : (h : ℕ) → e.group < h → h < k → mentions h es ≡ false
  pub agree : AllByRecursion (λ (x : Crossing). x.group ≡ e.group → x.vertex ≡ e.vertex) es
  pub opened : e.vertex ≡ false → e.group ≡ k → mentions k es ≡ true
  pub closed : e.vertex ≡ false → e.group < k → mentions e.group es ≡ false

abbrev pub Tidy : ℕ → ℕ → List Crossing → Type 0
Tidy r k [] = Unit {0}
Tidy r k (e ∷ es) = Fine r k e es × Tidy e.road (suc k) es

abbrev pub flag : Mark → Bool
flag (Split g) = false
flag (Junction g) = true

-- the crossings of an open mark's group have its flag
abbrev pub Agrees : List Mark → List Crossing → Type 0
Agrees [] es = Unit {0}
Agrees (m ∷ st) es = AllByRecursion (λ (x : Crossing). x.group ≡ mark_at m → x.vertex ≡ flag m) es × Agrees st es

pub agrees_tail : (st : List Mark) (e : Crossing) (es : List Crossing) → Agrees st (e ∷ es) → Agrees st es
agrees_tail [] e es a = tt
agrees_tail (m ∷ st) e es a = (a.0.1, agrees_tail st e es a.1)
