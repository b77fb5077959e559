use Rattle.std.proofs.Common.{◌≡◌, ◌≤◌, ◌-◌}
use Rattle.ir_arena.proofs.chains.Chains.reserve.Given as goal

abbrev pub invariant-loop-self : goal.invariant-loop-self
invariant-loop-self g l = record {
  lists : l.self.lists ≡ l.initial.self.lists;
  grown : l.initial.self.spare ≤ l.self.spare;
  kept : l.n ≤ l.initial.self.spare → l.self ≡ l.initial.self;
}

abbrev pub decreases-loop-self : goal.decreases-loop-self
decreases-loop-self g l = l.n - l.self.spare
