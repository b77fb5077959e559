use Rattle.std.proofs.Common.{◌≡◌, ℕ, ◌<◌, ◌↔◌, arith, subst}
use Rattle.std.specs.Prelude.{Contains}
use Rattle.air_colour.proofs.Below.{numbers_more, numbers_none}
use Rattle.air_colour.proofs.moves.numbers.Goals as goal

pub loop-j-init : goal.loop-j-init
loop-j-init c = numbers_none c.new-list.result.items c.new-list.ensures.items

pub loop-j-preserved : goal.loop-j-preserved
loop-j-preserved c = numbers_more c.loop-j.list.items c.push.new.self.items c.loop-j.j c.in_ok-push.ensures.items c.loop-j.invariant

pub returns : goal.returns
returns c =
    let end : c.loop-j.j ≡ c.args.n = omega arith in
    subst (λ (n : ℕ). (x : ℕ) → Contains c.loop-j.list.items x ↔ (x < n)) end c.loop-j.invariant
