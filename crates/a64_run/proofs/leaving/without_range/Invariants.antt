use Rattle.std.proofs.Common.{◌≡◌, true}
use Rattle.std.specs.Prelude.{IfSome, is_some}
use Rattle.std.specs.FinMap as map
use Rattle.a64_run.proofs.Left.{kept_below}
use Rattle.a64_run.proofs.Taking.{left_of}
use Rattle.a64_run.proofs.leaving.without_range.Given as goal

abbrev pub invariant-loop-next : goal.invariant-loop-next
invariant-loop-next l = record {
  kept : map.get l.left ≡ kept_below l.first l.end (map.get l.memory) l.next;
  there : IfSome l.next (λ a. is_some (map.get l.memory a) ≡ true);
}

abbrev pub decreases-loop-next : goal.decreases-loop-next
decreases-loop-next l = left_of l.next
