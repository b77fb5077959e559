use Rattle.std.proofs.Common.{ℕ, ◌<◌, subst}
use Rattle.stackmap.proofs.Children.{child_at}
use Rattle.stackmap.proofs.obeying.registers_of.Goals as goal

pub with_place-set-requires : goal.with_place-set-requires
with_place-set-requires c =
    (c.requires c.loop-k.k c.get.result.now c.get-in-loop-k.result.now.rep
    (subst (λ (n : ℕ). c.loop-k.k < n) c.child_count-k-end.ensures c.loop-k-test.true)
    (child_at _ _ c.loop-k.k c.get.result.now c.get-in-loop-k.result.now c.get.ensures c.get-in-loop-k.ensures)).1
