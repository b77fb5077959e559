use Rattle.std.proofs.Common.{◌≡◌, ◌+◌, ◌*◌, ◌≤◌, take}
use Rattle.air_frame.specs.Placing.{spill_offsets, word_bytes}
use Rattle.air_frame.proofs.placing.place_spills.Given as goal

abbrev pub invariant-loop-asked : goal.invariant-loop-asked
invariant-loop-asked l =
    (l.offset ≡ l.low + word_bytes (take l.asked-index l.named)) × (l.offset ≤ l.low + 8 * l.asked-index)
    × (l.spills ≡ spill_offsets l.low (take l.asked-index l.named))
