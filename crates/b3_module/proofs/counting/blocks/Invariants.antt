use Rattle.std.proofs.Common.{◌≡◌, Ok}
use Rattle.std.specs.Prelude.{drop}
use Rattle.std.specs.List.{flat_map}
use Rattle.b3_module.specs.Limits.{parts_of_block}
use Rattle.b3_module.specs.Counting.{counted_on}
use Rattle.b3_module.proofs.counting.blocks.Given as goal

abbrev pub invariant-loop-at : goal.invariant-loop-at
invariant-loop-at l = counted_on (Ok l.counts) (flat_map parts_of_block (drop l.at l.p.procedure.blocks)) ≡ counted_on (Ok l.fn.counts) (flat_map parts_of_block l.p.procedure.blocks)
