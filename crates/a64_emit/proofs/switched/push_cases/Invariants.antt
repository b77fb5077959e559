use Rattle.std.proofs.Common.{◌≡◌, ◌++◌, drop}
use Rattle.a64_emit.specs.Switched.{case_items}
use Rattle.a64_emit.proofs.switched.push_cases.Given as goal

-- what is still to be put is the items of the cases that are left
abbrev pub invariant-loop-case : goal.invariant-loop-case
invariant-loop-case l = l.code ++ case_items l.width l.reg (drop l.case-index l.cases) ≡ l.initial.code ++ case_items l.width l.reg l.cases
