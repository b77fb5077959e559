use Rattle.std.proofs.Common.{◌≡◌, true}
use Rattle.std.specs.Prelude.{IfSome, is_some}
use Rattle.std.specs.FinMap as map
use Rattle.a64_run.proofs.Taking.{taken_below, left_of}
use Rattle.a64_run.proofs.bytes.take_places.Given as goal

abbrev pub invariant-loop-next : goal.invariant-loop-next
invariant-loop-next l = record {
  taken : map.get l.into ≡ taken_below (map.get l.initial.into) (map.get l.from) (map.get l.places) l.next;
  there : IfSome l.next (λ a. is_some (map.get l.places a) ≡ true);
}

abbrev pub decreases-loop-next : goal.decreases-loop-next
decreases-loop-next l = left_of l.next
