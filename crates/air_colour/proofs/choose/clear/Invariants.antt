use Rattle.std.proofs.Common.{◌≡◌, ℕ, ◌<◌, false, slice_index_or}
use Rattle.air_colour.proofs.choose.clear.Given as goal

abbrev pub invariant-loop-bar : goal.invariant-loop-bar
invariant-loop-bar l = (r : ℕ) → r < l.bar-index → slice_index_or l.bars r false ≡ false
