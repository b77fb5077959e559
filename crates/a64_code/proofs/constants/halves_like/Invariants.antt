use Rattle.std.proofs.Common.{◌≡◌, ◌≤◌}
use Rattle.a64_code.specs.Constants.{halves_like}
use Rattle.a64_code.proofs.constants.halves_like.Given as goal

abbrev pub invariant-loop-hw : goal.invariant-loop-hw
invariant-loop-hw l = record {
  alike : l.alike ≡ halves_like l.word l.half l.hw;
  most : l.alike ≤ l.hw;
}
