use Rattle.std.proofs.Common.{◌≡◌, bit_or, ◌↔◌}
use Rattle.bit_rows.specs.Words.{Merges, Nothing, added}
use Rattle.bit_rows.proofs.merge.union_plain.Given as goal

abbrev pub invariant-loop-j : goal.invariant-loop-j
invariant-loop-j l = record {
  merges : Merges bit_or l.initial.words l.words l.a l.b l.j;
  fresh : (l.fresh ≡ 0) ↔ Nothing added l.initial.words l.a l.b l.j;
}
