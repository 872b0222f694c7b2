-- The sidewalks of a sheet pair off.
--   facing_dart: where no road fails, each dart has an opposite one
--   starting: next of a dart leaves a vertex where its opposite does
--   sided: darts and their opposite ones are sided
--   two_banks, streets_pair: each sidewalk has its other bank
--   even: their number is even
--   streets_halve: the number of streets is half of it
use Rattle.std.proofs.Common.{◌≡◌, ℕ, ◌+◌, length, Result, sym, ap, ◌∙◌, arith}
use Rattle.symbols.specs.declared.refusals.Refusal.{Refusal}
use Rattle.orbits.specs.Orbits.{In, begins}
use Rattle.orbits.proofs.Members.{in_kept, kept_in, apart_kept}
use Rattle.model.specs.declared.darts.Dart.{Dart}
use Rattle.model.specs.Sheets.{Sheet, Sheetly}
use Rattle.model.specs.Darts.{same_dart, darts, turn, opposite_of, next_of}
use Rattle.model.specs.Streets.{leaves_vertex, circles, given_if, counts}
use Rattle.model.specs.Statements.{NoRoadFails}
use Rattle.model.proofs.Checking.{check_free}
use Rattle.model.proofs.Inside.{dart_parts}
use Rattle.model.proofs.Passing.{Opposed, opposed, next_given}
use Rattle.model.proofs.Listing.{in_darts, darts_are, apart_darts, dart_told, dart_self, circles_lawful}
use Rattle.streets_pair.specs.Statements.{other_bank, TwoBanks, StreetsPair, StreetsHalve}
use Rattle.streets_pair.proofs.Halves.{halves}
use Rattle.streets_pair.proofs.Banks.{Sided, banked}
use Rattle.streets_pair.proofs.Crossings.{turn_vertex, turn_twice}

module _ (s : Sheet) (k : Sheetly s) (free : NoRoadFails s) where
  facing_dart : (d : Dart) → In d (darts s) → Opposed s d
  facing_dart d m = (let e = darts_are s d m in opposed s k d e (free d.pixel d.road (dart_parts s d e).0))

  starting : (d : Dart) → In d (darts s) → leaves_vertex s (next_of s d) ≡ leaves_vertex s (opposite_of s d)
  starting d m = turn_vertex s k (opposite_of s d) (facing_dart d m).is

  sided : Sided (circles s) (opposite_of s)
  sided = record {
    inside = λ d m. in_darts s (opposite_of s d) (facing_dart d m).is;
    back = λ d m. (facing_dart d m).back;
    moved = λ d m e. (facing_dart d m).moved (ap (λ (x : Dart). x.pixel) e);
    starting = starting;
    passing = λ d m v.
        let n = in_darts s (next_of s d) (next_given s k free d (darts_are s d m)).1 in
        ap (turn s) (facing_dart (next_of s d) n).back ∙ (turn_twice s k (opposite_of s d) (facing_dart d m).is (sym (starting d m) ∙ v)).1;
    turning = λ d m v. (turn_twice s k (opposite_of s d) (facing_dart d m).is (sym (starting d m) ∙ v)).0;
  }

  two_banks : (d : Dart) → In d (begins (circles s)) → TwoBanks s d
  two_banks d m =
      let i = kept_in (leaves_vertex s) d (darts s) m in
      let b = banked (circles s) (circles_lawful s k free) (opposite_of s) sided d i.0 i.1 in
      record {
        begin = in_kept (leaves_vertex s) (other_bank s d) (darts s) b.member b.starts;
        other = b.other;
        back = b.back;
        turned = b.turned;
      }

  even : (n : ℕ) × (length (begins (circles s)) ≡ n + n)
  even =
      halves same_dart dart_told dart_self (other_bank s) (length (begins (circles s))) (begins (circles s)) (omega arith)
      (apart_kept (leaves_vertex s) (darts s) (apart_darts s))
      (λ d m. (two_banks d m).begin) (λ d m. (two_banks d m).back) (λ d m. (two_banks d m).other)

pub streets_pair : StreetsPair
streets_pair s k free d m = two_banks s k free d m

pub streets_halve : StreetsHalve
streets_halve s k e =
    let r = even s k (check_free s e) in
    (r.0, r.1, omega (arith, r.1), ap (λ (x : Result (Unit {0}) Refusal). given_if x (counts s)) e)
