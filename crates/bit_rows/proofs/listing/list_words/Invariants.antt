use Rattle.std.proofs.Common.{◌*◌}
use Rattle.bit_rows.specs.Words.{Lists, is_one}
use Rattle.bit_rows.proofs.listing.list_words.Given as goal

abbrev pub invariant-loop-j : goal.invariant-loop-j
invariant-loop-j l = Lists (is_one l.words l.at) (64 * l.j) l.list
