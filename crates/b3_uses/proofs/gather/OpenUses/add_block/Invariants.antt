use Rattle.std.proofs.Common.{◌≡◌, ℕ, List, length}
use Rattle.std.specs.BTreeSet as keys
use Rattle.std.specs.Ordering.{nat_cmp}
use Rattle.b3_ir.specs.Procedure.{values_from}
use Rattle.b3_ir.specs.declared.value.Value.{Value}
use Rattle.b3_uses.specs.Open.{Adds, IsOpenIn, has_id}
use Rattle.b3_uses.specs.Walked.{Walked}
use Rattle.b3_uses.proofs.gather.OpenUses.add_block.Given as goal

abbrev pub invariant-loop-at : goal.invariant-loop-at
invariant-loop-at l =
    (before : List Value) × Walked l.p l.block before l.at × ((q : ℕ) → keys.contains nat_cmp l.earlier q ≡ has_id before q)
    × Adds l.p.procedure l.fn.self l.self (IsOpenIn l.block before)

abbrev pub decreases-loop-at : goal.decreases-loop-at
decreases-loop-at l = length (values_from l.p l.block l.at)
