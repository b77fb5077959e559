use Rattle.std.proofs.Common.{◌≡◌, ◌<◌, ◌^◌, length}
use Rattle.std.specs.Str.{all_ascii_digits}
use Rattle.b3_items.specs.Numbers.{value_on}
use Rattle.b3c_core.proofs.command.digits_value.Given as goal

abbrev pub invariant-loop-digit : goal.invariant-loop-digit
invariant-loop-digit l = (all_ascii_digits l.text ≡ all_ascii_digits l.digits) × (value_on l.value l.text ≡ value_on 0 l.digits) × (l.value < 2 ^ 64)

abbrev pub decreases-loop-digit : goal.decreases-loop-digit
decreases-loop-digit l = length l.text
