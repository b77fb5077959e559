use Rattle.std.proofs.Common.{◌∙◌}
use Rattle.air_fold.proofs.Masks.{mask_is}
use Rattle.air_fold.proofs.rows.is_mask.Goals as goal

pub returns : goal.returns
returns c =
    c.is_some.ensures ∙ mask_is c.args.width c.args.word c.bit_mask_from.result
    c.bit_mask_from.ensures.named c.bit_mask_from.ensures.range c.bit_mask_from.ensures.none
