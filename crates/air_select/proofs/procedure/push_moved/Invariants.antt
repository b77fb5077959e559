use Rattle.std.proofs.Common.{◌≡◌, ◌+◌, ◌++◌, map, take}
use Rattle.air_select.proofs.procedure.push_moved.Given as goal

abbrev pub invariant-loop-block : goal.invariant-loop-block
invariant-loop-block l = l.targets ≡ l.initial.targets ++ map (λ b. b + 1) (take l.block-index l.blocks)
