use Rattle.std.proofs.Common.{◌≡◌, ◌+◌, drop, false}
use Rattle.b3_items.specs.Items.{item_len}
use Rattle.b3_items.proofs.items.item_len.Given as goal

abbrev pub invariant-loop-i : goal.invariant-loop-i
invariant-loop-i l = l.i + item_len l.inside (drop l.i l.text) ≡ item_len false l.text
