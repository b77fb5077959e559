use Rattle.std.proofs.Common.{◌*◌, ◌∙◌, ap, List}
use Rattle.bit_rows.specs.BitRows.{BitRows, BitSet}
use Rattle.bit_rows.proofs.RowSets.{sets-zeros, seen}
use Rattle.bit_rows.proofs.Rows.new.Goals as goal

pub returns : goal.returns
returns c =
    ap (λ words. seen words c.div_ceil-stride.result c.args.rows c.args.bits) (c.in_ok-vec.ensures.items_if_clones_equal (λ y e. e))
    ∙ ap (λ (l : List BitSet). let r : BitRows = record { bits = c.args.bits; sets = l } in r) (sets-zeros (c.args.rows * c.div_ceil-stride.result) c.div_ceil-stride.result c.args.rows)
