use Rattle.std.proofs.Common.{take}
use Rattle.std.specs.BTreeSet as keys
use Rattle.std.specs.Ordering.{nat_cmp}
use Rattle.b3_ir.specs.Procedure.{Procedure}
use Rattle.b3_uses.specs.Origins.{AreOrigins}
use Rattle.b3_uses.specs.Open.{Adds, IsAskedHere}
use Rattle.b3_uses.proofs.gather.OpenUses.add_value.Given as goal

abbrev pub invariant-loop-id : goal.invariant-loop-id
invariant-loop-id l =
    (p : Procedure) → AreOrigins p l.origins → Adds p l.fn.self l.self (IsAskedHere l.block l.value.line (keys.contains nat_cmp l.earlier)
    (take l.id-index l.value.children))
