use Rattle.std.proofs.Common.{◌≡◌, ℕ, take}
use Rattle.std.specs.Prelude.{◌&&◌, not, All}
use Rattle.std.specs.List.{list_any}
use Rattle.b3_base.specs.Observed.{machine_start_of}
use Rattle.a64_run.specs.Hidden.{covers, EndsBelow}
use Rattle.a64_run.specs.Placement.{in_frame, is_within, slot_address}
use Rattle.a64_run.proofs.hidden.hidden.Given as goal

abbrev pub invariant-loop-slot : goal.invariant-loop-slot
invariant-loop-slot l = record {
  covered : (q : ℕ) → covers l.ranges q ≡ (in_frame l.frame (machine_start_of l.start) q
      && not (list_any (λ slot. is_within (slot_address (machine_start_of l.start) slot) slot.size q) (take l.slot-index l.frame.slots)));
  ends : All EndsBelow l.ranges;
}
