use Rattle.std.proofs.Common.{◌*◌, ◌+◌, ◌∙◌}
use Rattle.std.specs.FinSet as set
use Rattle.bit_rows.specs.BitRows.{row_of}
use Rattle.flow_live.proofs.RowFacts.{length-with}
use Rattle.flow_live.proofs.Visiting.{passes}
use Rattle.flow_live.proofs.solve.pass_through.Goals as goal

pub returns-clause-passes : goal.returns-clause-passes
returns-clause-passes c =
    let n = c.args.blocks in
    let m0 = c.args.rows.now in
    let m1 = c.take_away.new.self in
    let m2 = c.union_into.new.self in
    let m3 = c.take_away-2.new.self in
    let m4 = c.union_into-2.new.self in
    let l1 = length-with m0 m1 (3 * n) (set.difference (row_of m0 (3 * n)) (row_of m0 (3 * n))) c.take_away.ensures in
    let l2 = length-with m1 m2 (3 * n) (set.union (row_of m1 (3 * n)) (row_of m1 (n + c.args.block))) c.union_into.ensures.union in
    let l3 = length-with m2 m3 (3 * n) (set.difference (row_of m2 (3 * n)) (row_of m2 (2 * n + c.args.block))) c.take_away-2.ensures in
    passes m0 m1 m2 m3 m4 n c.args.block c.requires.block c.requires.all
    c.take_away.ensures l1 c.union_into.ensures.union (l2 ∙ l1) c.take_away-2.ensures (l3 ∙ (l2 ∙ l1)) c.union_into-2.ensures.union
    c.union_into-2.result c.union_into-2.ensures.grew
