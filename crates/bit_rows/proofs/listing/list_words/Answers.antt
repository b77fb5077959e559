use Rattle.std.proofs.Common.{◌*◌, List, ℕ, arith, sym, subst}
use Rattle.bit_rows.specs.Words.{Lists, is_one}
use Rattle.bit_rows.proofs.Listed.{Lists-none, Lists-same}
use Rattle.bit_rows.proofs.listing.list_words.Goals as goal

pub loop-j-init : goal.loop-j-init
loop-j-init c = subst (λ (l : List ℕ). Lists (is_one c.args.words.now c.args.at) 0 l) (sym c.new-list.ensures) (Lists-none (is_one c.args.words.now c.args.at))

pub returns : goal.returns
returns c = Lists-same (is_one c.args.words.now c.args.at) (64 * c.loop-j.j) (64 * c.args.n) c.loop-j.list (omega arith) c.loop-j.invariant
