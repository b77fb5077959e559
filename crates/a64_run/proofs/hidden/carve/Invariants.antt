use Rattle.std.proofs.Common.{◌≡◌, ℕ, take}
use Rattle.std.specs.Prelude.{◌&&◌, not, All}
use Rattle.a64_run.specs.Hidden.{covers, is_between, EndsBelow}
use Rattle.a64_run.proofs.hidden.carve.Given as goal

abbrev pub invariant-loop-range : goal.invariant-loop-range
invariant-loop-range l = record {
  covered : (q : ℕ) → covers l.left q ≡ (covers (take l.range-index l.ranges) q && not (is_between l.first l.end q));
  ends : All EndsBelow l.left;
}
