-- The line of a sidewalk, dart by dart.
--   steps_more: one step more
--   Lining: so many darts of a sidewalk have been put
--   lining_dart, lining_short, lining_more, lining_end: the dart that comes next; how far it may be; one dart more; the
--     line's end
use Rattle.std.proofs.Common.{◌≡◌, ℕ, zero, suc, ◌+◌, ◌*◌, ◌<◌, ◌≤◌, true, false, List, [], ◌∷◌, ◌++◌, length, sym, refl, ap, ◌∙◌, arith}
use Rattle.std.specs.List.{flat_map}
use Rattle.std.proofs.lemmas.List.{append-nil}
use Rattle.orbits.specs.Orbits.{times, steps, line}
use Rattle.model.specs.declared.darts.Dart.{Dart}
use Rattle.model.specs.Sheets.{Sheet, Sheetly}
use Rattle.model.specs.Darts.{is_dart, darts, next_of}
use Rattle.model.specs.Streets.{leaves_vertex, circles, item, line_text}
use Rattle.model.specs.Statements.{NoRoadFails}
use Rattle.model.proofs.Listing.{in_darts, circles_lawful}
use Rattle.codec.proofs.Reading.{joined_append}
use Rattle.walks.proofs.Homing.{darts_few, pixels_few}
use Rattle.darts.proofs.Strolls.{Going, going_line}
use Rattle.darts.proofs.Tours.{stroll_dart, stroll_short, stroll_more}
use Rattle.streetlist.specs.declared.text.Text.{Text}
use Rattle.streetlist.specs.Puts.{PutsTo}
use Rattle.streetlist.proofs.Putting.{put_then, put_like}

abbrev spaced : Dart → List ℕ
spaced d = item d ++ (32 ∷ [])

steps_more : {A : Type 0} (f : A → A) (n : ℕ) (x : A) → steps f (suc n) x ≡ steps f n x ++ (times f n x ∷ [])
steps_more f zero x = refl
steps_more f (suc n) x = ap (λ l. x ∷ l) (steps_more f n (f x))

pub record Lining (s : Sheet) (h d : Dart) (old now : Text) : Type 0 where
  pub made : ℕ
  pub going : Going (circles s) h made d
  pub puts : PutsTo (flat_map spaced (steps (next_of s) made h)) old now
  pub few : now.at ≤ old.at + 22 * made

module _ (s : Sheet) (k : Sheetly s) (free : NoRoadFails s) (h : Dart) (i : is_dart s h ≡ true) (b : leaves_vertex s h ≡ true) (d : Dart) (old now : Text) (l : Lining s h d old now) where
  pub lining_dart : is_dart s d ≡ true
  lining_dart = stroll_dart s k free h i l.made d l.going

  pub lining_short : (now.at < old.at + 22 * length (darts s)) × (now.at ≤ old.at + 22 * 245760)
  lining_short =
      let x = (stroll_short s k free h i l.made d l.going b).0 in
      (omega (arith, l.few), omega (arith, l.few, darts_few s k, pixels_few s k))

  module _ (mid : Text) (e : Dart) (p : PutsTo (spaced d) now mid) (c : mid.at ≤ now.at + 22) (q : e ≡ next_of s d) where
    one_more : PutsTo (flat_map spaced (steps (next_of s) (l.made + 1) h)) old mid
    one_more =
        let z : suc l.made ≡ l.made + 1 = omega arith in
        let w : flat_map spaced (steps (next_of s) l.made h) ++ spaced d ≡ flat_map spaced (steps (next_of s) (l.made + 1) h) =
        ap (λ (x : Dart). flat_map spaced (steps (next_of s) l.made h) ++ spaced x) l.going.at
        ∙ ap (λ (x : List ℕ). flat_map spaced (steps (next_of s) l.made h) ++ x) (sym (append-nil (spaced (times (next_of s) l.made h))))
        ∙ sym (joined_append spaced (steps (next_of s) l.made h) (times (next_of s) l.made h ∷ []))
        ∙ ap (flat_map spaced) (sym (steps_more (next_of s) l.made h))
        ∙ ap (λ (n : ℕ). flat_map spaced (steps (next_of s) n h)) z in
        put_like (flat_map spaced (steps (next_of s) l.made h) ++ spaced d) (flat_map spaced (steps (next_of s) (l.made + 1) h)) old mid w (put_then (flat_map spaced (steps (next_of s) l.made h)) (spaced d) old now mid l.puts p)

    pub lining_more : false ≡ leaves_vertex s e → Lining s h e old mid
    lining_more z = record { made = l.made + 1; going = stroll_more s k free h i l.made d l.going e q z; puts = one_more; few = omega (arith, l.few) }

    pub lining_end : true ≡ leaves_vertex s e → (new : Text) → PutsTo (62 ∷ 32 ∷ (item e ++ (10 ∷ []))) mid new → PutsTo (line_text (line (circles s) h)) old new
    lining_end z new r =
        let ds = steps (next_of s) (l.made + 1) h in
        let w : (ds, e) ≡ line (circles s) h =
        ap (λ (x : Dart). (ds, x)) q
        ∙ sym (going_line (circles s) (circles_lawful s k free) h (in_darts s h i) l.made d l.going b (sym (z ∙ ap (leaves_vertex s) q))) in
        put_like (line_text (ds, e)) (line_text (line (circles s) h)) old new (ap line_text w) (put_then (flat_map spaced ds) (62 ∷ 32 ∷ (item e ++ (10 ∷ []))) old mid new one_more r)
