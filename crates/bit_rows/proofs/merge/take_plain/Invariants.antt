use Rattle.bit_rows.specs.Words.{Merges, without}
use Rattle.bit_rows.proofs.merge.take_plain.Given as goal

abbrev pub invariant-loop-j : goal.invariant-loop-j
invariant-loop-j l = Merges without l.initial.words l.words l.a l.b l.j
