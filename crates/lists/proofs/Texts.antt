-- The bytes of a street list determine its size and its lines.
--   Digit, Stop: a byte is a digit; what follows a number begins with none
--   number_split, item_split: equal bytes begin with equal numbers, with equal items
--   left_split, line_split, lines_same: the same for what is left of an arrow, for lines, for all lines
--   texts_tell: the theorem
use Rattle.std.proofs.Common.{◌≡◌, ℕ, ◌+◌, ◌%◌, ◌^◌, ◌<◌, Bool, true, false, cond, ◌&&◌, eqb, ltb, leb, List, [], ◌∷◌, ◌++◌, length, decimal, sym, refl, ap, ◌∙◌, subst, append_assoc, arith, length-append}
use mathlib.Core.List.{head-eq_of_cons-eq, tail-eq_of_cons-eq}
use Rattle.std.specs.List.{flat_map, AllByRecursion}
use Rattle.std.proofs.lemmas.Bool.{and_from, le-leb, lt-ltb, both_ways}
use Rattle.std.proofs.lemmas.Fmt.{decimal_by_steps, decimal_nonempty, decimal_injective}
use Rattle.symbols.specs.declared.roads.Road.{Road}
use Rattle.symbols.specs.declared.roads.Road.TheVariants.{West, North, East, South}
use Rattle.symbols.specs.Symbols.{road_letter}
use Rattle.model.specs.declared.darts.Dart.{Dart}
use Rattle.model.specs.Streets.{item, line_text}
use Rattle.lists.specs.Statements.{FitsItem, FitsLine, TextsTell}

abbrev is_digit : ℕ → Bool
is_digit c = leb 48 c && ltb c 58

abbrev Digit : ℕ → Type 0
Digit c = is_digit c ≡ true

abbrev Stop : List ℕ → Type 0
Stop [] = Unit {0}
Stop (c ∷ cs) = is_digit c ≡ false

digit_of : (n : ℕ) → n < 10 → Digit (48 + n)
digit_of n l = and_from (leb 48 (48 + n)) (ltb (48 + n) 58) (le-leb 48 (48 + n) (omega arith)) (lt-ltb (48 + n) 58 (omega arith))

all_push : (ds : List ℕ) (d : ℕ) → AllByRecursion Digit ds → Digit d → AllByRecursion Digit (ds ++ (d ∷ []))
all_push [] d h k = (k, tt)
all_push (x ∷ ds) d h k = (h.0, all_push ds d h.1 k)

decimal_digits : (n : ℕ) → n < 2 ^ 64 → AllByRecursion Digit (decimal n)
decimal_digits =
    decimal_by_steps (λ n ds. AllByRecursion Digit ds) (λ n l. (digit_of n l, tt)) (λ n ds l h. all_push ds (48 + n % 10) h (digit_of (n % 10) (omega arith)))

-- digits end where they end
split : (ds es x y : List ℕ) → AllByRecursion Digit ds → AllByRecursion Digit es → Stop x → Stop y → ds ++ x ≡ es ++ y → (ds ≡ es) × (x ≡ y)
split [] [] x y a b s t e = (refl, e)
split [] (c ∷ es) x y a b s t e = absurd (both_ways (is_digit c) (subst Stop e s) b.0)
split (c ∷ ds) [] x y a b s t e = absurd (both_ways (is_digit c) (subst Stop (sym e) t) a.0)
split (c ∷ ds) (d ∷ es) x y a b s t e =
    let r = split ds es x y a.1 b.1 s t (tail-eq_of_cons-eq e) in
    let h = head-eq_of_cons-eq e in
    let q = r.0 in
    (cc, r.1)

number_split : (m n : ℕ) (x y : List ℕ) → m < 2 ^ 32 → n < 2 ^ 32 → Stop x → Stop y → decimal m ++ x ≡ decimal n ++ y → (m ≡ n) × (x ≡ y)
number_split m n x y a b s t e =
    let c : m < 2 ^ 64 = omega arith in
    let d : n < 2 ^ 64 = omega arith in
    let r = split (decimal m) (decimal n) x y (decimal_digits m c) (decimal_digits n d) s t e in
    (decimal_injective m n c d r.0, r.1)

-- what begins with no digit is no number with something behind it
number_none : (n : ℕ) (x y : List ℕ) → n < 2 ^ 32 → Stop x → Stop y → x ≡ decimal n ++ y → ⊥
number_none n x y a s t e =
    let c : n < 2 ^ 64 = omega arith in
    let r = split [] (decimal n) x y tt (decimal_digits n c) s t e in
    let l : 0 ≡ length (decimal n) = ap length r.0 in
    omega (arith, decimal_nonempty n c)

letter_stop : (q : Road) → is_digit (road_letter q) ≡ false
letter_stop West = refl
letter_stop North = refl
letter_stop East = refl
letter_stop South = refl

abbrev road_of : ℕ → Road
road_of c = cond (eqb c 87) West (cond (eqb c 78) North (cond (eqb c 69) East South))

letter_back : (q : Road) → road_of (road_letter q) ≡ q
letter_back West = refl
letter_back North = refl
letter_back East = refl
letter_back South = refl

item_assoc : (d : Dart) (x : List ℕ) → item d ++ x ≡ decimal d.pixel ++ (road_letter d.road ∷ (decimal d.place ++ x))
item_assoc d x = append_assoc (decimal d.pixel) (road_letter d.road ∷ decimal d.place) x

item_split : (d e : Dart) (x y : List ℕ) → FitsItem d → FitsItem e → Stop x → Stop y → item d ++ x ≡ item e ++ y → (d ≡ e) × (x ≡ y)
item_split d e x y a b s t q =
    let r = number_split d.pixel e.pixel (road_letter d.road ∷ (decimal d.place ++ x)) (road_letter e.road ∷ (decimal e.place ++ y)) a.pixel b.pixel (letter_stop d.road) (letter_stop e.road) (sym (item_assoc d x) ∙ q ∙ item_assoc e y) in
    let u : d.road ≡ e.road = sym (letter_back d.road) ∙ ap road_of (head-eq_of_cons-eq r.1) ∙ letter_back e.road in
    let v = number_split d.place e.place x y a.place b.place s t (tail-eq_of_cons-eq r.1) in
    (λ i. record { pixel = r.0 i; road = u i; place = v.0 i }, v.1)

item_none : (d : Dart) (x y : List ℕ) → FitsItem d → Stop x → x ≡ item d ++ y → ⊥
item_none d x y f s e =
    number_none d.pixel x (road_letter d.road ∷ (decimal d.place ++ y)) f.pixel s (letter_stop d.road) (e ∙ item_assoc d y)

-- an item and the space behind it
abbrev spaced : Dart → List ℕ
spaced d = item d ++ (32 ∷ [])

left_assoc : (d : Dart) (ds : List Dart) (x : List ℕ) → flat_map spaced (d ∷ ds) ++ x ≡ item d ++ (32 ∷ (flat_map spaced ds ++ x))
left_assoc d ds x = simp append_assoc

left_split : (ds es : List Dart) (x y : List ℕ) → AllByRecursion FitsItem ds → AllByRecursion FitsItem es → flat_map spaced ds ++ (62 ∷ x) ≡ flat_map spaced es ++ (62 ∷ y) → (ds ≡ es) × (x ≡ y)
left_split [] [] x y a b e = (refl, tail-eq_of_cons-eq e)
left_split [] (d ∷ es) x y a b e = absurd (item_none d (62 ∷ x) (32 ∷ (flat_map spaced es ++ (62 ∷ y))) b.0 refl (e ∙ left_assoc d es (62 ∷ y)))
left_split (d ∷ ds) [] x y a b e = absurd (item_none d (62 ∷ y) (32 ∷ (flat_map spaced ds ++ (62 ∷ x))) a.0 refl (sym e ∙ left_assoc d ds (62 ∷ x)))
left_split (c ∷ ds) (d ∷ es) x y a b e =
    let r = item_split c d (32 ∷ (flat_map spaced ds ++ (62 ∷ x))) (32 ∷ (flat_map spaced es ++ (62 ∷ y))) a.0 b.0 refl refl (sym (left_assoc c ds (62 ∷ x)) ∙ e ∙ left_assoc d es (62 ∷ y)) in
    let i = left_split ds es x y a.1 b.1 (tail-eq_of_cons-eq r.1) in
    (λ j. r.0 j ∷ i.0 j, i.1)

line_assoc : (l : List Dart × Dart) (x : List ℕ) → line_text l ++ x ≡ flat_map spaced l.0 ++ (62 ∷ 32 ∷ (item l.1 ++ (10 ∷ x)))
line_assoc l x =
    append_assoc (flat_map spaced l.0) (62 ∷ 32 ∷ (item l.1 ++ (10 ∷ []))) x
    ∙ ap (λ (z : List ℕ). flat_map spaced l.0 ++ (62 ∷ 32 ∷ z)) (append_assoc (item l.1) (10 ∷ []) x)

line_split : (l m : List Dart × Dart) (x y : List ℕ) → FitsLine l → FitsLine m → line_text l ++ x ≡ line_text m ++ y → (l ≡ m) × (x ≡ y)
line_split l m x y a b e =
    let r = left_split l.0 m.0 (32 ∷ (item l.1 ++ (10 ∷ x))) (32 ∷ (item m.1 ++ (10 ∷ y))) a.0 b.0 (sym (line_assoc l x) ∙ e ∙ line_assoc m y) in
    let t = item_split l.1 m.1 (10 ∷ x) (10 ∷ y) a.1 b.1 refl refl (tail-eq_of_cons-eq r.1) in
    (λ i. (r.0 i, t.0 i), tail-eq_of_cons-eq t.1)

-- what a line begins with: an item or an arrow
line_none : (l : List Dart × Dart) (x : List ℕ) → [] ≡ line_text l ++ x → ⊥
line_none l x e =
    let n : 0 ≡ length (flat_map spaced l.0 ++ (62 ∷ 32 ∷ (item l.1 ++ (10 ∷ x)))) = ap length (e ∙ line_assoc l x) in
    omega (arith, length-append (flat_map spaced l.0) (62 ∷ 32 ∷ (item l.1 ++ (10 ∷ x))))

lines_same : (ls ms : List (List Dart × Dart)) → AllByRecursion FitsLine ls → AllByRecursion FitsLine ms → flat_map line_text ls ≡ flat_map line_text ms → ls ≡ ms
lines_same [] [] a b e = refl
lines_same [] (m ∷ ms) a b e = absurd (line_none m (flat_map line_text ms) e)
lines_same (l ∷ ls) [] a b e = absurd (line_none l (flat_map line_text ls) (sym e))
lines_same (l ∷ ls) (m ∷ ms) a b e =
    let r = line_split l m (flat_map line_text ls) (flat_map line_text ms) a.0 b.0 e in
    let i = lines_same ls ms a.1 b.1 r.1 in
    λ j. r.0 j ∷ i j

pub texts_tell : TextsTell
texts_tell w h v g ls ms aw ah av ag a b e =
    let r = number_split w v (32 ∷ (decimal h ++ (10 ∷ flat_map line_text ls))) (32 ∷ (decimal g ++ (10 ∷ flat_map line_text ms))) aw av refl refl e in
    let u = number_split h g (10 ∷ flat_map line_text ls) (10 ∷ flat_map line_text ms) ah ag refl refl (tail-eq_of_cons-eq r.1) in
    (r.0, u.0, lines_same ls ms a b (tail-eq_of_cons-eq u.1))
