-- Darts of a sheet are small numbers, and so are their codes.
--   Small: a dart's pixel and place fit a code
--   dart_small: those of a sheet's dart do
--   given-small: so do those of a dart that is given
--   code_back, coded_back, codes_tell: codes and darts come back from each other
use Rattle.std.proofs.Common.{◌≡◌, ℕ, zero, suc, ◌*◌, ◌/◌, ◌%◌, ◌<◌, ◌≤◌, true, List, [], ◌∷◌, length, get_or, IfOk, Ok, Err, Result, sym, refl, ap, ◌∙◌, arith}
use Rattle.std.specs.List.{AllByRecursion}
use Rattle.std.proofs.lemmas.Nat.{mul-le}
use Rattle.symbols.specs.declared.refusals.Refusal.{Refusal}
use Rattle.symbols.specs.declared.roads.Road.{Road}
use Rattle.symbols.specs.declared.roads.Road.TheVariants.{West, North, East, South}
use Rattle.symbols.specs.Symbols.{roads, road_code}
use Rattle.rules.specs.Words.{Drawing}
use Rattle.model.specs.declared.darts.Dart.{Dart}
use Rattle.model.specs.Sheets.{Sheet, Sheetly, IsDrawing, pixels, drawing_at}
use Rattle.model.specs.Darts.{is_dart, unturn, opposite_of, next_of, previous_of, over, opposite, next, previous}
use Rattle.model.proofs.Inside.{dart_parts}
use Rattle.model.proofs.Passing.{over_given, next_undone, opposite_undone}
use Rattle.maps.proofs.Turning.{count_most}
use Rattle.capi.specs.Codes.{dart_code, road_in, dart_coded, CodesTell}

abbrev pub Small : Dart → Type 0
Small d = (d.pixel < 4096) × (d.place < 64)

few_drawn : (ds : List Drawing) (p : ℕ) → AllByRecursion IsDrawing ds → length (get_or ds p []) ≤ 60
few_drawn [] p a = omega arith
few_drawn (d ∷ ds) zero a = a.0.0.few
few_drawn (d ∷ ds) (suc p) a = few_drawn ds p a.1

pub dart_small : (s : Sheet) → Sheetly s → (d : Dart) → is_dart s d ≡ true → Small d
dart_small s h d e =
    let p = dart_parts s d e in
    let all : pixels s ≤ 64 * 64 = mul-le s.width s.height 64 64 h.most_width h.most_height in
    (omega (arith, p.0), omega (arith, p.1, count_most (road_code d.road) (drawing_at s d.pixel), few_drawn s.drawings d.pixel h.drawn))

-- a dart that something is given for is one
asked_is : (s : Sheet) (d e x y : Dart) → over s d e x ≡ Ok y → is_dart s d ≡ true
asked_is s d e x y g = (over_given _ _ _ _ _ _ g).0

pub opposite_small : (s : Sheet) → Sheetly s → (c : Dart) (r : Result Dart Refusal) → r ≡ opposite s c → IfOk r Small
opposite_small s h c (Ok d) e = dart_small s h d (asked_is s d d (opposite_of s d) c (opposite_undone s h c d (sym e)).0)
opposite_small s h c (Err f) e = tt

pub next_small : (s : Sheet) → Sheetly s → (c : Dart) (r : Result Dart Refusal) → r ≡ next s c → IfOk r Small
next_small s h c (Ok d) e = dart_small s h d (asked_is s d (unturn s d) (previous_of s d) c ((next_undone s h c d).0 (sym e)))
next_small s h c (Err f) e = tt

pub previous_small : (s : Sheet) → Sheetly s → (c : Dart) (r : Result Dart Refusal) → r ≡ previous s c → IfOk r Small
previous_small s h c (Ok d) e = dart_small s h d (asked_is s d d (next_of s d) c ((next_undone s h d c).1 (sym e)))
previous_small s h c (Err f) e = tt

-- codes

road_back : (n : ℕ) → n < 4 → road_code (get_or roads n West) ≡ n
road_back zero h = refl
road_back (suc zero) h = refl
road_back (suc (suc zero)) h = refl
road_back (suc (suc (suc zero))) h = refl
road_back (suc (suc (suc (suc n)))) h = absurd (omega arith)

code_back : (n : ℕ) → dart_code (dart_coded n) ≡ n
code_back n = (let r : road_code (road_in (n / 64)) ≡ n / 64 % 4 = road_back (n / 64 % 4) (omega arith) in omega arith)

coded_road : (q : Road) → get_or roads (road_code q) West ≡ q
coded_road West = refl
coded_road North = refl
coded_road East = refl
coded_road South = refl

road_low : (q : Road) → road_code q < 4
road_low West = omega arith
road_low North = omega arith
road_low East = omega arith
road_low South = omega arith

coded_back : (d : Dart) → d.place < 64 → dart_coded (dart_code d) ≡ d
coded_back d h =
    let l = road_low d.road in
    let c = dart_code d in
    let p : c / 256 ≡ d.pixel = omega arith in
    let q : c / 64 % 4 ≡ road_code d.road = omega arith in
    let k : c % 64 ≡ d.place = omega arith in
    let r : road_in (c / 64) ≡ d.road = ap (λ (n : ℕ). get_or roads n West) q ∙ coded_road d.road in
    λ i. record { pixel = p i; road = r i; place = k i }

pub codes_tell : CodesTell
codes_tell = (code_back, λ s h d e. coded_back d (dart_small s h d e).1)
