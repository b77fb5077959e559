use Rattle.std.proofs.Common.{◌≡◌, ◌*◌, ◌++◌, take}
use Rattle.std.specs.Prelude.{map}
use Rattle.a64_object.specs.Joined.{site_from}
use Rattle.a64_object.specs.Made.{site_rows}
use Rattle.a64_object.proofs.object.push_sites.Given as goal

abbrev pub invariant-loop-k : goal.invariant-loop-k
invariant-loop-k l = l.rows ≡ l.initial.rows ++ map (site_from (4 * l.first)) (site_rows (take l.k l.marks) (take l.k l.sites))
