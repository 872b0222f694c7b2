-- One symbol of a word that is being read, on the open marks.
--   Meeting: what a crossing symbol does: its group, whether that has a vertex, and the open marks then
--   meets: what a symbol does at a crossing; nothing where it may not stand there
--   open_marks: the open marks in a row, the innermost first
use Rattle.std.specs.Prelude.{ℕ, Bool, true, false, List, [], ◌∷◌, reverse, Some, None, Option}
use Rattle.symbols.specs.declared.symbols.Mark.{Mark}
use Rattle.symbols.specs.declared.symbols.Mark.TheVariants.{Split, Junction}
use Rattle.symbols.specs.declared.symbols.Symbol.{Symbol}
use Rattle.symbols.specs.declared.symbols.Symbol.TheVariants.{Corner, DeadEnd, SplitOpen, SplitClose, JunctionOpen, Branch, JunctionClose}
use Rattle.rows.specs.declared.row.Row.{Row}
use Rattle.rows.specs.Rows.{items}

pub record Meeting : Type 0 where
  pub group : ℕ
  pub vertex : Bool
  pub marks : List Mark

abbrev pub meets : Symbol → ℕ → List Mark → Option Meeting
meets Corner k st = None
meets DeadEnd k st = Some (record { group = k; vertex = true; marks = st })
meets SplitOpen k st = Some (record { group = k; vertex = false; marks = Split k ∷ st })
meets JunctionOpen k st = Some (record { group = k; vertex = true; marks = Junction k ∷ st })
meets SplitClose k [] = None
meets SplitClose k (Split g ∷ st) = Some (record { group = g; vertex = false; marks = st })
meets SplitClose k (Junction g ∷ st) = None
meets Branch k [] = None
meets Branch k (Split g ∷ st) = None
meets Branch k (Junction g ∷ st) = Some (record { group = g; vertex = true; marks = Junction g ∷ st })
meets JunctionClose k [] = None
meets JunctionClose k (Split g ∷ st) = None
meets JunctionClose k (Junction g ∷ st) = Some (record { group = g; vertex = true; marks = st })

abbrev pub open_marks : Row Mark 64 → List Mark
open_marks r = reverse (items r)
