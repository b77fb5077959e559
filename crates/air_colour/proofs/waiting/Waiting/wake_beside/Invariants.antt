use Rattle.std.proofs.Common.{◌≡◌, length}
use Rattle.air_colour.proofs.waiting.Waiting.wake_beside.Given as goal

abbrev pub invariant-loop-y : goal.invariant-loop-y
invariant-loop-y l = length l.self.listed.items ≡ length l.initial.self.listed.items
