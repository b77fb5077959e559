use Rattle.std.proofs.Common.{◌≡◌, Ok}
use Rattle.std.specs.Prelude.{drop}
use Rattle.b3_module.specs.Limits.{parts_of_slots}
use Rattle.b3_module.specs.Counting.{counted_on}
use Rattle.b3_module.proofs.counting.slots.Given as goal

abbrev pub invariant-loop-at : goal.invariant-loop-at
invariant-loop-at l = counted_on (Ok l.counts) (parts_of_slots (drop l.at l.p.procedure.slots)) ≡ counted_on (Ok l.fn.counts) (parts_of_slots l.p.procedure.slots)
