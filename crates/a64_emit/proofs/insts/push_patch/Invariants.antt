use Rattle.std.proofs.Common.{◌≡◌, ◌-◌, ◌++◌}
use Rattle.a64_emit.specs.Code.{breaks}
use Rattle.a64_code.specs.Places.{plains}
use Rattle.a64_emit.proofs.insts.push_patch.Given as goal

-- what is still to be put is the words that are left
abbrev pub invariant-loop-i : goal.invariant-loop-i
invariant-loop-i l = l.code ++ plains (breaks (l.size - l._i)) ≡ l.initial.code ++ plains (breaks l.size)
