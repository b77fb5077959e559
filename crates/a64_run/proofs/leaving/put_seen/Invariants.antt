use Rattle.std.proofs.Common.{◌≡◌, true}
use Rattle.std.specs.Prelude.{◌||◌, IfSome, is_some}
use Rattle.std.specs.FinMap as map
use Rattle.b3_base.specs.Observed.{machine_start_of}
use Rattle.a64_run.proofs.Left.{seen_below}
use Rattle.a64_run.proofs.Taking.{left_of}
use Rattle.a64_run.specs.Placement.{in_slot}
use Rattle.a64_run.proofs.leaving.put_seen.Given as goal

abbrev pub invariant-loop-next : goal.invariant-loop-next
invariant-loop-next l = record {
  put : map.get l.memory
      ≡ seen_below (λ q. is_some (map.get l.start.memory q) || in_slot l.frame (machine_start_of l.start) q) (map.get l.fn.memory) (map.get l.writes) l.next;
  there : IfSome l.next (λ a. is_some (map.get l.writes a) ≡ true);
}

abbrev pub decreases-loop-next : goal.decreases-loop-next
decreases-loop-next l = left_of l.next
