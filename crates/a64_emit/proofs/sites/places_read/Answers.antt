use Rattle.std.proofs.Common.{arith}
use Rattle.a64_emit.proofs.SitesPushing.{places_done, places_next}
use Rattle.a64_emit.proofs.sites.places_read.Goals as goal

pub loop-k-preserved : goal.loop-k-preserved
loop-k-preserved c =
    places_next c.args.frame.now c.args.operands.now c.loop-k.k c.get.result.now c.loop-k.places c.push_place.new.places _ c.loop-k.invariant c.get.ensures
    c.in_ok-push_place.ensures

pub returns : goal.returns
returns c = places_done c.args.frame.now c.args.operands.now c.loop-k.k c.loop-k.places _ c.loop-k.invariant (omega arith)
