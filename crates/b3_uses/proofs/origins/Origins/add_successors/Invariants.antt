use Rattle.std.proofs.Common.{◌≡◌, length, take}
use Rattle.b3_uses.specs.Lists.{AddsTo}
use Rattle.b3_uses.specs.Reversed.{LeadsTo}
use Rattle.b3_uses.proofs.origins.Origins.add_successors.Given as goal

abbrev pub invariant-loop-next : goal.invariant-loop-next
invariant-loop-next l = record {
  sources : AddsTo l.fn.self.sources l.self.sources (LeadsTo (length l.fn.self.sources) l.block (take l.next-index l.successors));
  homes : l.self.homes ≡ l.fn.self.homes;
}
