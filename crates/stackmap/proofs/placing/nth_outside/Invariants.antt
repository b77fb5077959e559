use Rattle.std.proofs.Common.{◌≡◌, drop, not, slice_get}
use Rattle.std.specs.List.{filter}
use Rattle.stackmap.specs.Registers.{has}
use Rattle.stackmap.proofs.placing.nth_outside.Given as goal

abbrev pub invariant-loop-r : goal.invariant-loop-r
invariant-loop-r l =
    slice_get (filter (λ r. not (has l.excluded r)) (drop l.r-index l.registers)) l.left
    ≡ slice_get (filter (λ r. not (has l.excluded r)) l.registers) l.at
