-- Histories of calls, told apart by their lists and records.
--   map_accepted, accepted_map: the sheets are the same map exactly when the same drawings were accepted last
--   histories_tell: the theorem
use Rattle.std.proofs.Common.{◌≡◌, ℕ, ◌*◌, sym, ap, ◌∙◌, arith}
use Rattle.model.specs.Sheets.{Sheet, Sheetly, pixels, drawing_at}
use Rattle.lists.specs.Statements.{SameMap}
use Rattle.lists.proofs.Covering.{lists_cover}
use Rattle.lists.proofs.Telling.{sheets_same, lists_tell}
use Rattle.codec.proofs.Theorems.{records_tell}
use Rattle.plain.specs.Plain.{run}
use Rattle.plain.specs.Statements.{SameLimits}
use Rattle.plain.proofs.Runs.{runs_keep, last_accepted_there}
use Rattle.histories.specs.Statements.{History, LawfulHistory, opening, ends_in, accepted_at, SameAccepted, HistoriesTell}

limits : (h : History) → SameLimits (opening h) (run (opening h) h.calls)
limits h = runs_keep.2 (opening h) h.calls

keeps : (h : History) → LawfulHistory h → Sheetly (ends_in h)
keeps h o = (runs_keep.0 h.width h.height h.longest h.total h.calls o).sheetly

there : (h : History) (p : ℕ) → drawing_at (ends_in h) p ≡ accepted_at h p
there h p = sym (last_accepted_there h.width h.height h.longest h.total h.calls p)

pixels_are : (h : History) → pixels (ends_in h) ≡ h.width * h.height
pixels_are h = ap (λ (x : ℕ). x * (ends_in h).height) (limits h).width ∙ ap (λ (x : ℕ). h.width * x) (limits h).height

map_accepted : (g h : History) → SameMap (ends_in g) (ends_in h) → SameAccepted g h
map_accepted g h m = record {
  widths = sym (limits g).width ∙ m.widths ∙ (limits h).width;
  heights = sym (limits g).height ∙ m.heights ∙ (limits h).height;
  drawings = λ p b. sym (there g p) ∙ m.drawings p (omega (arith, pixels_are g)) ∙ there h p;
}

accepted_map : (g h : History) → SameAccepted g h → SameMap (ends_in g) (ends_in h)
accepted_map g h m = record {
  widths = (limits g).width ∙ m.widths ∙ sym (limits h).width;
  heights = (limits g).height ∙ m.heights ∙ sym (limits h).height;
  drawings = λ p b. there g p ∙ m.drawings p (omega (arith, pixels_are g)) ∙ sym (there h p);
}

-- equal sheets are the same map
same_itself : (s t : Sheet) → s ≡ t → SameMap s t
same_itself s t e = record {
  widths = ap (λ (x : Sheet). x.width) e;
  heights = ap (λ (x : Sheet). x.height) e;
  drawings = λ p b. ap (λ (x : Sheet). drawing_at x p) e;
}

pub histories_tell : HistoriesTell
histories_tell g h o r =
    let k = keeps g o in
    let l = keeps h r in
    let t = records_tell (ends_in g) (ends_in h) k l in
    record {
      width = (limits g).width;
      height = (limits g).height;
      there = there g;
      whole = k;
      covers = lists_cover (ends_in g) k;
      lists = λ a b x y. (let u = lists_tell (ends_in g) (ends_in h) k l a b x y in (λ e. map_accepted g h (u.0 e), λ m. u.1 (accepted_map g h m)));
      records = (
        λ e. map_accepted g h (same_itself (ends_in g) (ends_in h) (t.0 e)),
        λ m. t.1 (sheets_same (ends_in g) (ends_in h) k l (accepted_map g h m)),
      );
    }
