use Rattle.std.proofs.Common.{ℕ, List, arith, subst}
use Rattle.std.specs.Prelude.{Contains}
use Rattle.air_colour.specs.Progress.{left_count}
use Rattle.air_colour.proofs.Moving.{pass_falls}
use Rattle.air_colour.proofs.moves.join_waiting.Goals as goal

pub join_pass-requires-clause-below : goal.join_pass-requires-clause-below
join_pass-requires-clause-below c j i =
    let lt = c.take-tried.ensures.below j (subst (λ (l : List ℕ). Contains l j) c.deref.ensures.value i) in
    omega (arith, lt, c.loop-going.invariant.waiting)

pub loop-going-smaller : goal.loop-going-smaller
loop-going-smaller c =
    pass_falls c.loop-going.going c.in_ok-going.going (left_count c.loop-going.left) (left_count c.join_pass.new.left)
    c.loop-going-test.true c.in_ok-going.ensures.fewer c.in_ok-going.ensures.no_more

pub loop-going-preserved : goal.loop-going-preserved
loop-going-preserved c = record {
  waiting = c.join_pass.ensures.waiting;
  state = c.in_ok-going.ensures.state;
  no_more = let before = c.loop-going.invariant.no_more in let now = c.in_ok-going.ensures.no_more in omega (arith, before, now);
  joined = λ g first is kept so.
      let before = c.loop-going.invariant.joined g first is kept so in
      let now = c.in_ok-going.ensures.joined g first is before.0 before.1 in
      (now.0, now.1);
}
