use Rattle.std.proofs.Common.{[], take}
use Rattle.std.specs.List.{list_any}
use Rattle.air_frame.specs.Marks.{Marks}
use Rattle.air_frame.specs.Needs.{block_spills, block_names, greatest}
use Rattle.air_frame.proofs.spills.named_by_proc.Given as goal

abbrev pub invariant-loop-block : goal.invariant-loop-block
invariant-loop-block l =
    Marks [] l.named (greatest block_spills (take l.block-index l.block-items))
    (λ n. list_any (block_names n) (take l.block-index l.block-items))
