use Rattle.std.proofs.Common.{◌≡◌, drop, map}
use Rattle.plain.specs.Plain.{run}
use Rattle.stores.specs.Sources.{plain_kept}
use Rattle.stores.proofs.steps.replay.Given as goal

-- the steps that are left lead where all of them lead
abbrev pub invariant-loop-step : goal.invariant-loop-step
invariant-loop-step g l =
    run (plain_kept g.S.Source.told g.S.Store.longest g.S.Store.total l.store) (map g.T.Step.call (drop l.step-index l.steps))
    ≡ run (plain_kept g.S.Source.told g.S.Store.longest g.S.Store.total l.initial.store) (map g.T.Step.call l.steps)
