use Rattle.std.proofs.Common.{◌≡◌, ◌++◌, drop}
use Rattle.std.specs.Prelude.{map}
use Rattle.b3_module.specs.Canonical.{row_of_slot}
use Rattle.b3_print.specs.Printed.{text_of}
use Rattle.b3_print.proofs.printing.put_slots.Given as goal

abbrev pub invariant-loop-at : goal.invariant-loop-at
invariant-loop-at l = l.out ++ text_of (map row_of_slot (drop l.at l.p.procedure.slots)) ≡ l.fn.out ++ text_of (map row_of_slot l.p.procedure.slots)
