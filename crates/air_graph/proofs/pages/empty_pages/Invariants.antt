use Rattle.std.proofs.Common.{◌≡◌, [], replicate}
use Rattle.air_graph.proofs.pages.empty_pages.Given as goal

abbrev pub invariant-loop : goal.invariant-loop
invariant-loop l = l.pages.items ≡ replicate l.counter []
