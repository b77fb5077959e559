use Rattle.std.proofs.Common.{arith}
use Rattle.air_stackmap.proofs.Pushing.{clobber_noted, clobbers_done, given_within, map_count}
use Rattle.air_stackmap.proofs.operands.clobbered.Goals as goal

pub get-requires : goal.get-requires
get-requires c =
    let less = c.loop-at-test.true in
    let same = map_count c.args.v.now c.args.map.now c.args.registers.now c.requires.map c.requires.registers in
    omega (arith, less, same)

pub with_clobbered-clobbered-requires : goal.with_clobbered-clobbered-requires
with_clobbered-clobbered-requires c =
    given_within c.args.v.now c.args.map.now c.args.registers.now c.loop-at.at c.requires.map c.requires.placeable c.requires.registers c.loop-at-test.true

pub loop-at-preserved : goal.loop-at-preserved
loop-at-preserved c r =
    clobber_noted c.args.v.now r _ _ _ c.args.registers.now c.args.map.now.constraints c.loop-at.at _
    c.requires.registers c.loop-at-test.true c.get.ensures (c.loop-at.invariant r) (c.with_clobbered-clobbered.ensures r)

pub returns : goal.returns
returns c r =
    let past = c.loop-at-test.false in
    let same = map_count c.args.v.now c.args.map.now c.args.registers.now c.requires.map c.requires.registers in
    clobbers_done c.args.v.now r _ _ c.args.map.now.constraints c.loop-at.at (omega (arith, past, same)) (c.loop-at.invariant r)
