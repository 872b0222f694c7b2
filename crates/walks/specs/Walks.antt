-- Walks: from a dart on by next, until they are home.
--   most_steps: where the count of steps stays
--   walk: a walk that began at a dart, is at another, and has made so many steps
--   started: a walk at its start; refused where there is no such dart
--   is_home: back at the start after a step
--   gone_on: one step further, at a dart
--   step_answer, step_walk: what a step answers, and the walk after it: no such dart, then a failing road, then home; a
--     refused step leaves the walk as it was
--   answer_by, walk_by: the same, by what next answers
--   if_made: one of two, by whether a step was made
--   steps_made, walk_after: up to so many steps, until one is refused: how many were made, and the walk then
--   raised: a count raised by so many, up to its largest
--   onward: next, and next again, so often
use Rattle.std.specs.Prelude.{ℕ, zero, suc, ◌+◌, min, Bool, cond, ◌&&◌, Ok, Err, Result, nat_lt}
use Rattle.symbols.specs.declared.refusals.Refusal.{Refusal}
use Rattle.symbols.specs.declared.refusals.Refusal.TheVariants.{NoDart, Home}
use Rattle.model.specs.declared.darts.Dart.{Dart}
use Rattle.model.specs.Sheets.{Sheet}
use Rattle.model.specs.Darts.{same_dart, is_dart, next}
use Rattle.model.specs.Streets.{then_go}
use Rattle.walks.specs.declared.walk.Walk.{Walk}

abbrev pub most_steps : ℕ
most_steps = 4294967295

abbrev pub walk : Dart → Dart → ℕ → Walk
walk h d n = record { start = h; at = d; steps = n }

abbrev pub started : Sheet → Dart → Result Walk Refusal
started s d = cond (is_dart s d) (Ok (walk d d 0)) (Err NoDart)

abbrev pub is_home : Walk → Bool
is_home w = nat_lt 0 w.steps && same_dart w.at w.start

abbrev pub gone_on : Walk → Dart → Walk
gone_on w d = walk w.start d (min (w.steps + 1) most_steps)

-- by what next of the present dart answers
abbrev pub answer_by : Walk → Result Dart Refusal → Result (Unit {0}) Refusal
answer_by w (Ok d) = cond (is_home w) (Err Home) (Ok tt)
answer_by w (Err f) = Err f

abbrev pub walk_by : Walk → Result Dart Refusal → Walk
walk_by w (Ok d) = cond (is_home w) w (gone_on w d)
walk_by w (Err f) = w

abbrev pub step_answer : Sheet → Walk → Result (Unit {0}) Refusal
step_answer s w = answer_by w (next s w.at)

abbrev pub step_walk : Sheet → Walk → Walk
step_walk s w = walk_by w (next s w.at)

abbrev pub if_made : {A : Type 0} → Result (Unit {0}) Refusal → A → A → A
if_made (Ok u) x y = x
if_made (Err f) x y = y

abbrev pub steps_made : Sheet → ℕ → Walk → ℕ
steps_made s zero w = 0
steps_made s (suc n) w = if_made (step_answer s w) (suc (steps_made s n (step_walk s w))) 0

abbrev pub walk_after : Sheet → ℕ → Walk → Walk
walk_after s zero w = w
walk_after s (suc n) w = if_made (step_answer s w) (walk_after s n (step_walk s w)) w

abbrev pub raised : ℕ → ℕ → ℕ
raised zero n = n
raised (suc k) n = min (n + suc k) most_steps

abbrev pub onward : Sheet → ℕ → Dart → Result Dart Refusal
onward s zero d = Ok d
onward s (suc n) d = then_go (next s d) (onward s n)
