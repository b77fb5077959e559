use Rattle.std.proofs.Common.{◌≡◌, ℕ, length, refl, subst, arith}
use Rattle.b3_rules.specs.Valid.{SlotAt}
use Rattle.b3_validate.specs.Spots.{IsLeastIn, IsSlotBelow}
use Rattle.b3_validate.proofs.Parts.{no_slots, one_part, slot_more}
use Rattle.b3_validate.proofs.procedure.slots_breach.Goals as goal

pub loop-place-init : goal.loop-place-init
loop-place-init c = no_slots c.args.p.now.procedure

pub loop-place-preserved : goal.loop-place-preserved
loop-place-preserved c =
    let p = c.args.p.now.procedure in
    let n = c.loop-place.place in
    let slot = c.slot-slot.result in
    let here = one_part p (SlotAt n slot) c.slot-slot.ensures slot.line c.slot_breach.result c.spot_on-here.result refl c.slot_breach.ensures c.spot_on-here.ensures in
    slot_more p c.loop-place.least c.spot_on-here.result c.sooner-least.result c.sooner-least.ensures n slot c.slot-slot.ensures c.loop-place.invariant here

pub returns : goal.returns
returns c =
    let p = c.args.p.now.procedure in
    let all : c.loop-place.place ≡ length p.slots = omega arith in
    subst (λ (n : ℕ). IsLeastIn p (IsSlotBelow n) c.loop-place.least) all c.loop-place.invariant
