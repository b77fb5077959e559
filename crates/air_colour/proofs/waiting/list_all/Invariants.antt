use Rattle.std.proofs.Common.{◌≡◌, ℕ, ◌<◌, length}
use Rattle.std.specs.Prelude.{Contains}
use Rattle.air_colour.proofs.waiting.list_all.Given as goal

abbrev pub invariant-loop-j : goal.invariant-loop-j
invariant-loop-j l = record {
  long : length l.listed ≡ length l.initial.listed;
  below : (x : ℕ) → Contains l.list.items x → x < length l.initial.listed;
}
