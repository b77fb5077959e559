use Rattle.std.proofs.Common.{◌≡◌, ◌++◌, drop}
use Rattle.std.specs.List.{flat_map}
use Rattle.b3_module.specs.Canonical.{rows_of_block}
use Rattle.b3_print.specs.Printed.{text_of}
use Rattle.b3_print.proofs.printing.put_blocks.Given as goal

abbrev pub invariant-loop-at : goal.invariant-loop-at
invariant-loop-at l = l.out ++ text_of (flat_map rows_of_block (drop l.at l.p.procedure.blocks)) ≡ l.fn.out ++ text_of (flat_map rows_of_block l.p.procedure.blocks)
