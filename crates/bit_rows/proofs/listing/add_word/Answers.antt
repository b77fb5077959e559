use Rattle.std.proofs.Common.{List, ℕ, arith, sym, subst}
use Rattle.bit_rows.proofs.Listed.{IsLeft, left_first, left_last, left_step, less_left, without_lowest}
use Rattle.bit_rows.proofs.listing.add_word.Goals as goal

pub bits-init : goal.bits-init
bits-init c = left_first c.args.words.now c.args.at c.args.j c.args.list.now c.requires.listed

pub bits-smaller : goal.bits-smaller
bits-smaller c = less_left c.bits.left (omega arith) (omega arith)

pub bits-preserved : goal.bits-preserved
bits-preserved c =
    subst (λ (l : List ℕ). IsLeft c.args.words.now c.args.at c.args.j (without_lowest c.bits.left) l) (sym c.in_ok-push.ensures.ok)
    (left_step c.args.words.now c.args.at c.args.j c.bits.left c.bits.list (omega arith) (omega arith) c.bits.invariant)

pub returns : goal.returns
returns c = left_last c.args.words.now c.args.at c.args.j c.bits.left c.bits.list (omega arith) c.bits.invariant
