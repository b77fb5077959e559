use Rattle.std.proofs.Common.{◌≡◌, drop}
use Rattle.air_fold.specs.Foldable.{uses_from}
use Rattle.air_fold.specs.Tallied.{with_all}
use Rattle.air_fold.proofs.uses.note_value.Given as goal

abbrev pub invariant-loop-at : goal.invariant-loop-at
invariant-loop-at l =
    with_all l.index l.pointers l.tallies (uses_from l.block l.value.id l.value.kind.opcode l.at (drop l.at l.children))
    ≡ with_all l.index l.pointers l.initial.tallies (uses_from l.block l.value.id l.value.kind.opcode 0 l.children)
