use Rattle.std.proofs.Common.{◌≡◌, ℕ, true, false, vec_len, slice_index_or}
use Rattle.std.specs.Prelude.{Contains}
use Rattle.air_colour.proofs.worklist.pop_left.Given as goal

abbrev pub invariant-loop-a : goal.invariant-loop-a
invariant-loop-a l = record {
  kept : (x : ℕ) → Contains l.low.items x → Contains l.initial.low.items x;
  rest : (x : ℕ) → slice_index_or l.left x false ≡ true → Contains l.initial.low.items x → Contains l.low.items x;
}

abbrev pub decreases-loop-a : goal.decreases-loop-a
decreases-loop-a l = vec_len l.low
