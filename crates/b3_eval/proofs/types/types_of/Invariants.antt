use Rattle.std.proofs.Common.{◌≡◌, None, take}
use Rattle.std.specs.BTreeMap as tree
use Rattle.std.specs.List.{flat_map}
use Rattle.std.specs.Ordering.{nat_cmp}
use Rattle.b3_ir.specs.Procedure.{Block}
use Rattle.b3_eval.specs.Lookup.{with_types}
use Rattle.b3_eval.proofs.types.types_of.Given as goal

abbrev pub invariant-loop-block : goal.invariant-loop-block
invariant-loop-block l = tree.get nat_cmp l.types ≡ with_types (λ _. None) (flat_map (λ (b : Block). b.values) (take l.block l.p.procedure.blocks))
