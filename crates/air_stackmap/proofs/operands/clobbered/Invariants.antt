use Rattle.std.proofs.Common.{◌≡◌, ◌||◌, ℕ, drop}
use Rattle.stackmap.specs.Registers.{has}
use Rattle.air_stackmap.specs.SiteCode.{clobbered_from}
use Rattle.air_stackmap.proofs.operands.clobbered.Given as goal

abbrev pub invariant-loop-at : goal.invariant-loop-at
invariant-loop-at l =
    (r : ℕ) → (has l.clobbered r || clobbered_from l.v l.at (drop l.at l.map.constraints) r) ≡ clobbered_from l.v 0 l.map.constraints r
