-- What a store is after its opening, and the limits of an opening.
--   replayed: a store that was opened and ran so
--   slots_within, slots_without: slots that can be opened have limits, and others have none
--   strip_within, strip_without: the same of a strip
--   either: what holds in each case of a result, told otherwise
use Rattle.std.proofs.Common.{◌≡◌, ℕ, zero, suc, ◌*◌, Bool, true, ◌&&◌, leb, List, [], ◌∷◌, map, get_or, replicate, Some, None, Ok, Err, Option, Result, sym, refl, ap, ◌∙◌, inl, inr, arith, MatchResult}
use Rattle.std.proofs.lemmas.List.{get_or-map}
use Rattle.std.proofs.lemmas.Bool.{leb-true, le-leb, and_parts, and_from, cases_Bool, cond-true, cond-false}
use Rattle.rules.specs.Words.{Drawing, drawn}
use Rattle.codec.specs.Records.{side}
use Rattle.codec.proofs.Records.{side_from, side_parts}
use Rattle.plain.specs.Plain.{Plain, Call, Opens, run}
use Rattle.plain.proofs.Runs.{last_accepted_there}
use Rattle.stores.specs.Sources.{Told, fresh, empty_word, plain_told}
use Rattle.slots.specs.Slots.{OpensSlots}
use Rattle.openings.specs.Limits.{Limits, opened_within, slot_limits, strip_limits}
use Rattle.openings.specs.Replays.{OpenedWithin, Replayed}

pub replayed : (limits : Option Limits) (p : Plain) (calls : List Call) (t : Told) (l n : ℕ) → OpenedWithin limits p → plain_told t l n ≡ run p calls → Replayed limits calls t l n
replayed limits p calls t l n o e =
    let a : Limits = o.0 in
    let r : plain_told t l n ≡ run (opened_within a) calls = e ∙ ap (λ (x : Plain). run x calls) o.2 in
    record {
      start = a;
      accepted = o.1;
      ran = r;
      last = λ p h.
          sym (get_or-map drawn t.words p [] [] h)
          ∙ ap (λ (x : Plain). get_or x.drawings p []) r
          ∙ sym (last_accepted_there a.width a.height a.longest a.total calls p);
    }

drawn_fresh : (k : ℕ) → map drawn (replicate k empty_word) ≡ replicate k []
drawn_fresh zero = refl
drawn_fresh (suc k) = ap (λ (x : List Drawing). [] ∷ x) (drawn_fresh k)

module _ (room w h n : ℕ) where
  abbrev roomy : Bool
  roomy = leb (w * h * n) room

  abbrev short : Bool
  short = leb n 64 && roomy

  abbrev slotted : Bool
  slotted = leb 4 n && short

  abbrev high : Bool
  high = side h && slotted

  abbrev all : Bool
  all = side w && high

  abbrev within : Limits
  within = record { width = w; height = h; longest = n; total = w * h * n }

  holds : OpensSlots room w h n → all ≡ true
  holds o =
      let s = o.sides in
      and_from (side w) high (side_from w s.0 s.1)
      (and_from (side h) slotted (side_from h s.2 s.3)
      (and_from (leb 4 n) short (le-leb 4 n o.least_slot)
      (and_from (leb n 64) roomy (le-leb n 64 o.most_slot) (le-leb (w * h * n) room o.roomy))))

  opens : all ≡ true → OpensSlots room w h n
  opens e =
      let a = and_parts (side w) high e in
      let b = and_parts (side h) slotted a.1 in
      let c = and_parts (leb 4 n) short b.1 in
      let d = and_parts (leb n 64) roomy c.1 in
      let x = side_parts w a.0 in
      let y = side_parts h b.0 in
      record { sides = (x.0, x.1, y.0, y.1); least_slot = leb-true 4 n c.0; most_slot = leb-true n 64 d.0; roomy = leb-true (w * h * n) room d.1 }

  pub slots_without : (OpensSlots room w h n → ⊥) → slot_limits room w h n ≡ None
  slots_without f =
      elim (cases_Bool all) [
        | inl e ↦ absurd (f (opens e))
        | inr e ↦ cond-false all (Some within) None e
      ]

  pub slots_within : (t : Told) (m : ℕ) → OpensSlots room w h n → m ≡ n → t ≡ fresh w h → OpenedWithin (slot_limits room w h n) (plain_told t m (t.width * t.height * m))
  slots_within t m o e f = (
    within,
    cond-true all (Some within) None (holds o),
    ap (λ (x : ℕ). plain_told t x (t.width * t.height * x)) e
        ∙ ap (λ (x : Told). plain_told x n (x.width * x.height * n)) f
        ∙ ap (λ (x : List Drawing). record { width = w; height = h; longest = n; total = w * h * n; drawings = x }) (drawn_fresh (w * h)),
  )

module _ (room w h : ℕ) where
  abbrev roomy_strip : Bool
  roomy_strip = leb (4 * (w * h)) room

  abbrev high_strip : Bool
  high_strip = side h && roomy_strip

  abbrev whole_strip : Bool
  whole_strip = side w && high_strip

  abbrev strip : Limits
  strip = record { width = w; height = h; longest = 64; total = room }

  strip_opens : whole_strip ≡ true → Opens w h 64 room
  strip_opens e =
      let a = and_parts (side w) high_strip e in
      let b = and_parts (side h) roomy_strip a.1 in
      let x = side_parts w a.0 in
      let y = side_parts h b.0 in
      record { some_width = x.0; most_width = x.1; some_height = y.0; most_height = y.1; least_longest = omega arith; least_total = leb-true (4 * (w * h)) room b.1 }

  strip_holds : Opens w h 64 room → whole_strip ≡ true
  strip_holds o =
      and_from (side w) high_strip (side_from w o.some_width o.most_width)
      (and_from (side h) roomy_strip (side_from h o.some_height o.most_height) (le-leb (4 * (w * h)) room o.least_total))

  pub strip_without : (Opens w h 64 room → ⊥) → strip_limits room w h ≡ None
  strip_without f =
      elim (cases_Bool whole_strip) [
        | inl e ↦ absurd (f (strip_opens e))
        | inr e ↦ cond-false whole_strip (Some strip) None e
      ]

  pub strip_within : (t : Told) (m : ℕ) → Opens w h 64 room → t ≡ fresh w h → m ≡ room → OpenedWithin (strip_limits room w h) (plain_told t 64 m)
  strip_within t m o f e = (
    strip,
    cond-true whole_strip (Some strip) None (strip_holds o),
    ap (λ (x : ℕ). plain_told t 64 x) e
        ∙ ap (λ (x : Told). plain_told x 64 room) f
        ∙ ap (λ (x : List Drawing). record { width = w; height = h; longest = 64; total = room; drawings = x }) (drawn_fresh (w * h)),
  )

pub either : {A E : Type 0} (P P' : A → Type 0) (Q Q' : E → Type 0) → ((x : A) → P x → P' x) → ((x : E) → Q x → Q' x) → (r : Result A E) → MatchResult r P Q → MatchResult r P' Q'
either P P' Q Q' f g (Ok x) c = f x c
either P P' Q Q' f g (Err x) c = g x c
