use Rattle.std.proofs.Common.{◌≡◌, ◌++◌, drop}
use Rattle.b3_ir.specs.Procedure.{procedures}
use Rattle.b3_module.specs.Canonical.{canonical_rows}
use Rattle.b3_print.specs.Printed.{canonical, text_of}
use Rattle.b3_print.proofs.printing.print.Given as goal

abbrev pub invariant-loop-at : goal.invariant-loop-at
invariant-loop-at l = l.out ++ text_of (canonical_rows (procedures (drop l.at l.text))) ≡ canonical (procedures l.text)
