use Rattle.std.proofs.Common.{◌≡◌, length}
use Rattle.air_colour.proofs.waiting.Waiting.wake_all.Given as goal

abbrev pub invariant-loop-x : goal.invariant-loop-x
invariant-loop-x l = length l.self.listed.items ≡ length l.initial.self.listed.items
