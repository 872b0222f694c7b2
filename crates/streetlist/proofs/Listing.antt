-- The lines of all sidewalks, dart by dart.
--   begun_lines: the lines that darts begin, one after another
--   Listing: what darts begin is put, and how far it may be
--   listing_more: one dart more
use Rattle.std.proofs.Common.{◌≡◌, ℕ, ◌+◌, ◌*◌, ◌^◌, ◌≤◌, List, [], ◌∷◌, ◌++◌, length, map, filter, sym, refl, ap, ◌∙◌, inl, inr, arith, length-append}
use Rattle.std.specs.List.{flat_map}
use Rattle.std.proofs.lemmas.List.{append-nil}
use Rattle.std.proofs.lemmas.Bool.{cases_Bool}
use Rattle.orbits.specs.Orbits.{line}
use Rattle.model.specs.declared.darts.Dart.{Dart}
use Rattle.model.specs.Sheets.{Sheet}
use Rattle.model.specs.Streets.{leaves_vertex, circles, line_text}
use Rattle.codec.proofs.Reading.{joined_append}
use Rattle.streetlist.specs.declared.text.Text.{Text}
use Rattle.streetlist.specs.Puts.{PutsTo}
use Rattle.streetlist.specs.Lists.{begun_line}
use Rattle.streetlist.proofs.Putting.{put_then, put_like}

pub begun_lines : (s : Sheet) (ds : List Dart) → flat_map (begun_line s) ds ≡ flat_map line_text (map (line (circles s)) (filter (leaves_vertex s) ds))
begun_lines s [] = refl
begun_lines s (d ∷ ds) =
    elim (cases_Bool (leaves_vertex s d)) [
      | inl b ↦ rw b (ap (λ (x : List ℕ). line_text (line (circles s) d) ++ x) (begun_lines s ds))
      | inr b ↦ rw b (begun_lines s ds)
    ]

pub record Listing (s : Sheet) (ds : List Dart) (old now : Text) : Type 0 where
  pub puts : PutsTo (flat_map (begun_line s) ds) old now
  pub few : now.at ≤ old.at + length ds * 2 ^ 23

pub listing_more : (s : Sheet) (ds : List Dart) (d : Dart) (old now : Text) → Listing s ds old now
    → (new : Text) → PutsTo (begun_line s d) now new → new.at ≤ now.at + 2 ^ 23 → Listing s (ds ++ (d ∷ [])) old new
listing_more s ds d old now l new p f =
    let e : flat_map (begun_line s) ds ++ begun_line s d ≡ flat_map (begun_line s) (ds ++ (d ∷ [])) =
    ap (λ (x : List ℕ). flat_map (begun_line s) ds ++ x) (sym (append-nil (begun_line s d))) ∙ sym (joined_append (begun_line s) ds (d ∷ [])) in
    record {
      puts = put_like (flat_map (begun_line s) ds ++ begun_line s d) (flat_map (begun_line s) (ds ++ (d ∷ []))) old new e
          (put_then (flat_map (begun_line s) ds) (begun_line s d) old now new l.puts p);
      few = omega (arith, l.few, length-append ds (d ∷ []));
    }
