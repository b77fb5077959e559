use Rattle.std.proofs.Common.{◌≡◌, ◌-◌, length}
use Rattle.std.specs.Prelude.{sum_by}
use Rattle.a64_inst.specs.Fields.{bit}
use Rattle.a64_layout.specs.Layout.{Set, IsEnough, IsWithin}
use Rattle.a64_layout.specs.Passes.{ReachBack}
use Rattle.a64_layout.specs.Text.{chosen, label_count}
use Rattle.a64_layout.proofs.layout.choose.Given as goal

abbrev pub invariant-loop-places : goal.invariant-loop-places
invariant-loop-places l = record {
  flags : length l.long ≡ length l.code;
  count : length l.places ≡ label_count l.code;
  least : (other : Set) → IsEnough l.code other → IsWithin (chosen l.long) other;
  reach : ReachBack l.code (chosen l.long);
}

abbrev pub decreases-loop-places : goal.decreases-loop-places
decreases-loop-places l = length l.code - sum_by bit l.long
