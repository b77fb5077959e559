use Rattle.std.proofs.Common.{◌≡◌, ◌++◌, length}
use Rattle.std.specs.Prelude.{map}
use Rattle.std.specs.List.{flat_map}
use Rattle.b3_base.specs.Observed.{event_of}
use Rattle.b3_trial.specs.Shown.{event_line}
use Rattle.b3_trial.proofs.showing.put_events.Given as goal

abbrev pub invariant-loop-event : goal.invariant-loop-event
invariant-loop-event l = l.out ++ flat_map event_line (map event_of l.left) ≡ l.fn.out ++ flat_map event_line (map event_of l.events)

abbrev pub decreases-loop-event : goal.decreases-loop-event
decreases-loop-event l = length l.left
