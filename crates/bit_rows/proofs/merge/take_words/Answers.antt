use Rattle.std.proofs.Common.{◌*◌, ◌-◌, ◌/◌, arith}
use Rattle.bit_rows.specs.Words.{Merges, without}
use Rattle.bit_rows.proofs.Merging.{Merges-join}
use Rattle.bit_rows.proofs.RowSets.{kept-difference}
use Rattle.bit_rows.proofs.merge.take_words.Goals as goal

merged : (c : goal.After-slice_known-3-1) → Merges without c.args.words.now c.take_plain.new.words c.args.a c.args.b c.args.n
merged c =
    let whole = 4 * (c.args.n / 4) in
    Merges-join without c.args.words.now c.take_blocks.new.words c.take_plain.new.words c.args.a c.args.b whole (c.args.n - whole) c.args.n c.args.n
    c.requires.apart c.take_blocks.ensures c.take_plain.ensures (omega arith) (omega arith)

pub returns-clause-difference : goal.returns-clause-difference
returns-clause-difference c = kept-difference c.args.words.now c.take_plain.new.words c.args.a c.args.b c.args.n (merged c)

pub returns-clause-others : goal.returns-clause-others
returns-clause-others c = let m = merged c in record { below = m.below; above = m.above }
