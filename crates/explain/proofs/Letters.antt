-- Lines follow one another.
--   line_more, tell_turn: one line more
use Rattle.std.proofs.Common.{◌≡◌, ℕ, suc, ◌+◌, ◌-◌, ◌<◌, List, ◌++◌, length, Some, Option, sym, ap, ◌∙◌, add-one, arith}
use Rattle.std.proofs.lemmas.List.{append_assoc}
use Rattle.std.proofs.lemmas.Bool.{lt-ltb}
use Rattle.symbols.specs.declared.symbols.Crossing.{Crossing}
use Rattle.rules.specs.Crossings.{where_in}
use Rattle.explain.specs.declared.Line.{Line}
use Rattle.explain.specs.Explained.{written, line_at, lines}

line_more : (d : List Crossing) (n i : ℕ) (bs whole : List ℕ) → i < n → bs ++ lines d (n - i) i ≡ whole → (bs ++ written (line_at d i)) ++ lines d (n - (i + 1)) (i + 1) ≡ whole
line_more d n i bs whole h e =
    let z : n - i ≡ suc (n - (i + 1)) = omega arith in
    append_assoc bs (written (line_at d i)) (lines d (n - (i + 1)) (i + 1))
    ∙ ap (λ (x : ℕ). bs ++ (written (line_at d i) ++ lines d (n - (i + 1)) x)) (add-one i)
    ∙ ap (λ (x : ℕ). bs ++ lines d x i) (sym z)
    ∙ e

line_is : (d : List Crossing) (i : ℕ) (l : Line) → i < length d → Some l ≡ where_in d i (line_at d i) → l ≡ line_at d i
line_is d i l h e =
    let s : ◌≡◌ {A = Option Line} (Some l) (Some (line_at d i)) = e ∙ rw (lt-ltb i (length d) h) in
    cc

pub tell_turn : (d : List Crossing) (n i : ℕ) (bs next shown whole : List ℕ) (l : Line) → i < n → n ≡ length d → Some l ≡ where_in d i (line_at d i) → shown ≡ written l → next ≡ bs ++ shown → bs ++ lines d (n - i) i ≡ whole → next ++ lines d (n - (i + 1)) (i + 1) ≡ whole
tell_turn d n i bs next shown whole l h m e w a v =
    let s : written l ≡ written (line_at d i) = ap written (line_is d i l (omega arith) e) in
    ap (λ (x : List ℕ). x ++ lines d (n - (i + 1)) (i + 1)) (a ∙ ap (λ (x : List ℕ). bs ++ x) (w ∙ s))
    ∙ line_more d n i bs whole h v
