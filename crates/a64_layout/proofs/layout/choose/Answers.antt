use Rattle.std.proofs.Common.{refl, sym, subst, arith}
use Rattle.a64_layout.specs.Text.{chosen}
use Rattle.a64_layout.specs.Passes.{ReachBack}
use Rattle.a64_layout.proofs.Flags.{flags_most, no_both}
use Rattle.a64_layout.proofs.Least.{reach_enough}
use Rattle.a64_layout.proofs.layout.choose.Goals as goal

pub loop-places-init : goal.loop-places-init
loop-places-init c = record {
  flags = c.lengthen_back.ensures.flags;
  count = c.lengthen_back.ensures.places;
  least = λ other enough k is. c.lengthen_back.ensures.least other enough
      (λ j first. absurd (no_both (chosen c.in_ok-long.long j) first (c.in_ok-long.ensures.short j))) k is;
  reach = c.lengthen_back.ensures.reach;
}

pub loop-places-smaller : goal.loop-places-smaller
loop-places-smaller c =
    let most = flags_most c.lengthen_back-in-loop-places.new.long in
    let more = c.loop-places-test.ensures.more refl in
    let kept = c.lengthen_back-in-loop-places.ensures.more in
    let count = c.lengthen_back-in-loop-places.ensures.flags in
    omega arith

pub loop-places-preserved : goal.loop-places-preserved
loop-places-preserved c = record {
  flags = c.lengthen_back-in-loop-places.ensures.flags;
  count = c.lengthen_back-in-loop-places.ensures.places;
  least = λ other enough k is. c.lengthen_back-in-loop-places.ensures.least other enough
      (c.loop-places-test.ensures.least other enough (c.loop-places.invariant.least other enough)) k is;
  reach = c.lengthen_back-in-loop-places.ensures.reach;
}

pub returns-clause-least : goal.returns-clause-least
returns-clause-least c = record {
  enough =
      reach_enough c.args.code.now (chosen c.lengthen_forward.new.long)
      (subst (λ flags. ReachBack c.args.code.now (chosen flags)) (sym (c.loop-places-test.ensures.same refl)) c.loop-places.invariant.reach)
      c.loop-places-test.ensures.reach;
  least = λ other enough. c.loop-places-test.ensures.least other enough (c.loop-places.invariant.least other enough);
}
