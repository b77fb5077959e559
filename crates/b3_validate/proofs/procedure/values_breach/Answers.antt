use Rattle.std.proofs.Common.{None, refl}
use Rattle.b3_rules.specs.Valid.{ValueAt}
use Rattle.b3_validate.specs.Spots.{IsInBlock, IsLeastIn}
use Rattle.b3_validate.proofs.Parts.{no_values, one_part, value_more}
use Rattle.b3_validate.proofs.Walking.{here, less_left, reached_all, reached_first, reached_next}
use Rattle.b3_validate.proofs.procedure.values_breach.Goals as goal

pub loop-at-init : goal.loop-at-init
loop-at-init c =
    let p = c.args.p.now in
    reached_first p c.args.block (λ n. IsLeastIn p.procedure (IsInBlock c.args.block n) None) c.first-at.result (no_values p.procedure c.args.block) c.first-at.ensures.rest c.first-at.ensures.there

pub loop-at-smaller : goal.loop-at-smaller
loop-at-smaller c =
    let p = c.args.p.now in
    let b = c.args.block in
    let reached = rw c.in-Some.is at c.loop-at.invariant in
    let v = c.value-value.result.now in
    let h = here p b c.in-Some.node v reached.there c.value-value.ensures.value in
    rw c.in-Some.is (less_left p b c.in-Some.node c.next-at.result v h (c.next-at.ensures.rest b reached.there))

pub loop-at-preserved : goal.loop-at-preserved
loop-at-preserved c =
    let p = c.args.p.now in
    let b = c.args.block in
    let reached = rw c.in-Some.is at c.loop-at.invariant in
    let v = c.value-value.result.now in
    let h = here p b c.in-Some.node v reached.there c.value-value.ensures.value in
    let now = one_part p.procedure (ValueAt b h.place v) h.stands v.line c.in_ok-broken.broken c.spot_on.result refl (c.in_ok-broken.ensures h.place h.node_at h.stands) c.spot_on.ensures in
    let next = value_more p.procedure c.loop-at.least c.spot_on.result c.sooner-least.result c.sooner-least.ensures b h.place v h.stands (reached.known h.place h.left) now in
    reached_next p b (λ n. IsLeastIn p.procedure (IsInBlock b n) c.sooner-least.result) c.in-Some.node c.next-at.result v h next (c.next-at.ensures.rest b reached.there) (c.next-at.ensures.there b reached.there)

pub returns : goal.returns
returns c =
    let p = c.args.p.now in
    reached_all p c.args.block (λ n. IsLeastIn p.procedure (IsInBlock c.args.block n) c.loop-at.least) c.loop-at.at c.in_default.is c.loop-at.invariant
