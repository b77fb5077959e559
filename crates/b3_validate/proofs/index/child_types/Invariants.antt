use Rattle.std.proofs.Common.{◌≡◌, map, take}
use Rattle.b3_ir.specs.Naming.{type_of}
use Rattle.b3_ir.specs.Procedure.{Kept}
use Rattle.b3_validate.specs.Index.{AreNamed}
use Rattle.b3_validate.proofs.index.child_types.Given as goal

abbrev pub invariant-loop-id : goal.invariant-loop-id
invariant-loop-id l = (p : Kept) → AreNamed p l.ids → l.types ≡ map (type_of p.procedure) (take l.id-index l.children)
