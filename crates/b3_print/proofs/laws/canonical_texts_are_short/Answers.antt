use Rattle.std.proofs.Common.{arith}
use Rattle.b3_print.proofs.ShortLemmas.{HasFew, canonical_length}
use Rattle.b3_print.proofs.laws.canonical_texts_are_short.Goals as goal

pub returns-clause-spelled : goal.returns-clause-spelled
returns-clause-spelled c bytes m e k =
    let h = c.texts_are_listed.ensures.given bytes m e in
    let few : HasFew m = record {
      procedures = c.texts_are_named.ensures.few m k;
      values = c.limits_are_counted.ensures.values m k;
      operands = c.limits_are_counted.ensures.operands m k;
      slots = c.limits_are_counted.ensures.slots m k;
      blocks = c.limits_are_counted.ensures.blocks m k;
    } in
    omega (arith, canonical_length c.lines_are_short.ensures c.successors_are_few.ensures m h (c.texts_are_listed.ensures.rows m h) few)

pub returns-clause-text : goal.returns-clause-text
returns-clause-text c m h k =
    let few : HasFew m = record {
      procedures = c.texts_are_named.ensures.few m k;
      values = c.limits_are_counted.ensures.values m k;
      operands = c.limits_are_counted.ensures.operands m k;
      slots = c.limits_are_counted.ensures.slots m k;
      blocks = c.limits_are_counted.ensures.blocks m k;
    } in
    omega (arith, canonical_length c.lines_are_short.ensures c.successors_are_few.ensures m h (c.texts_are_listed.ensures.rows m h) few)
