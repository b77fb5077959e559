use Rattle.std.proofs.Common.{◌≡◌, ◌++◌, ◌-◌, ◌≤◌, false}
use Rattle.a64_code.specs.Constants.{half_count, half_moves}
use Rattle.a64_code.specs.Places.{plains}
use Rattle.a64_code.proofs.constants.push_halves.Given as goal

-- what is still to be put is what is left of the half-words
abbrev pub invariant-loop-hw : goal.invariant-loop-hw
invariant-loop-hw l = record {
  within : l.hw ≤ half_count l.width;
  whole : l.code ++ plains (half_moves l.width l.inverted l.reg l.word l.started (half_count l.width - l.hw) l.hw)
      ≡ l.initial.code ++ plains (half_moves l.width l.inverted l.reg l.word false (half_count l.width) 0);
}
