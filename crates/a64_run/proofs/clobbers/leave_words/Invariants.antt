use Rattle.std.proofs.Common.{◌≡◌, ℕ, ◌<◌, ◌≤◌}
use Rattle.std.specs.Prelude.{slice_index}
use Rattle.b3_base.specs.Observed.{machine_start_of}
use Rattle.stackmap.specs.World.{registers_after}
use Rattle.a64_run.proofs.clobbers.leave_words.Given as goal

abbrev pub invariant-loop-r : goal.invariant-loop-r
invariant-loop-r l = record {
  done : (q : ℕ) → q < l.r → slice_index l.x q ≡ registers_after l.site (machine_start_of l.start).junk l.i l.value (slice_index l.fn.x) q;
  rest : (q : ℕ) → l.r ≤ q → slice_index l.x q ≡ slice_index l.fn.x q;
}
