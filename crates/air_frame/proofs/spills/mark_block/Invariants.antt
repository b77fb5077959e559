use Rattle.std.proofs.Common.{take}
use Rattle.std.specs.List.{list_any}
use Rattle.air_frame.specs.Marks.{Marks}
use Rattle.air_frame.specs.Needs.{inst_spills, inst_names, greatest}
use Rattle.air_frame.proofs.spills.mark_block.Given as goal

abbrev pub invariant-loop-inst : goal.invariant-loop-inst
invariant-loop-inst l =
    Marks l.fn.named l.named (greatest inst_spills (take l.inst-index l.inst-items))
    (λ n. list_any (inst_names n) (take l.inst-index l.inst-items))
