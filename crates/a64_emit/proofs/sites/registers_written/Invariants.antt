use Rattle.std.proofs.Common.{◌≡◌, ◌^◌, ◌<◌, drop, take}
use Rattle.a64_emit.specs.Made.{with_written}
use Rattle.a64_emit.proofs.sites.registers_written.Given as goal

-- what is still to be added is the registers of the operands that are left
abbrev pub invariant-loop-k : goal.invariant-loop-k
invariant-loop-k l = record {
  whole : with_written l.set (drop l.k (take l.n l.operands)) ≡ with_written 0 (take l.n l.operands);
  small : l.set < 2 ^ 31;
}
