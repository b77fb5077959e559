use Rattle.std.proofs.Common.{◌≡◌, ◌<◌, ◌^◌, length}
use Rattle.b3_items.specs.Numbers.{hex_on}
use Rattle.b3_items.proofs.numbers.hex_value.Given as goal

abbrev pub invariant-loop-first : goal.invariant-loop-first
invariant-loop-first l = (hex_on l.value l.text ≡ hex_on 0 l.digits) × (l.value < 2 ^ 64)

abbrev pub decreases-loop-first : goal.decreases-loop-first
decreases-loop-first l = length l.text
