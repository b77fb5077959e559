use Rattle.std.proofs.Common.{◌≡◌, ◌*◌, ◌≤◌, take}
use Rattle.air_frame.specs.Placing.{word_bytes}
use Rattle.air_frame.proofs.placing.word_bytes.Given as goal

abbrev pub invariant-loop-asked : goal.invariant-loop-asked
invariant-loop-asked l = (l.bytes ≡ word_bytes (take l.asked-index l.named)) × (l.bytes ≤ 8 * l.asked-index)
