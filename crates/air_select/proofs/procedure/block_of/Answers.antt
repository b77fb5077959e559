use Rattle.std.proofs.Common.{[], refl}
use Rattle.b3_ir.specs.Procedure.{values_of}
use Rattle.air_select.proofs.Coded.{code_end, code_next, low_targets, with_code}
use Rattle.air_select.proofs.MapFacts.{suits_of}
use Rattle.air_fold.proofs.Walks.{walk_next, walk_smaller, walk_stands}
use Rattle.air_select.proofs.procedure.block_of.Goals as goal

pub loop-at-smaller : goal.loop-at-smaller
loop-at-smaller c =
    let walk = rw c.in-Some.is at c.loop-at.invariant in
    rw c.in-Some.is
    (walk_smaller c.args.p.now c.args.block c.in-Some.node c.value-value.result.now c.next-at.result (c.value-value.ensures.head c.args.block walk.there)
    (c.next-at.ensures.rest c.args.block walk.there))

pub loop-at-preserved : goal.loop-at-preserved
loop-at-preserved c =
    let b = c.args.block in
    let t = c.args.t.now in
    let v = c.value-value.result.now in
    let walk = rw c.in-Some.is at c.loop-at.invariant in
    walk_next c.args.p.now b c.in-Some.node v c.next-at.result (with_code t c.loop-at.insts c.loop-at.targets)
    (with_code t c.push_value.new.insts c.push_targets.new.targets) (with_code t [] [] (values_of c.args.p.now.procedure b))
    walk (c.value-value.ensures.head b walk.there)
    (code_next t c.loop-at.insts c.push_value.new.insts c.loop-at.targets c.push_targets.new.targets v c.in_ok-push_value.ensures c.in_ok-push_targets.ensures)
    (c.next-at.ensures.rest b walk.there) (c.next-at.ensures.there b walk.there)

pub push_targets-requires : goal.push_targets-requires
push_targets-requires c =
    let b = c.args.block in
    let t = c.args.t.now in
    let v = c.value-value.result.now in
    let walk = rw c.in-Some.is at c.loop-at.invariant in
    low_targets c.args.p.now.procedure c.requires.valid c.whole.ensures.fit c.requires.few b walk.place v
    (walk_stands c.args.p.now b c.in-Some.node v (with_code t c.loop-at.insts c.loop-at.targets) (with_code t [] [] (values_of c.args.p.now.procedure b)) walk
    (c.value-value.ensures.head b walk.there))

pub push_value-requires : goal.push_value-requires
push_value-requires c =
    let b = c.args.block in
    let t = c.args.t.now in
    let v = c.value-value.result.now in
    let walk = rw c.in-Some.is at c.loop-at.invariant in
    suits_of c.args.p.now.procedure c.requires.valid c.whole.ensures.fit b walk.place v
    (walk_stands c.args.p.now b c.in-Some.node v (with_code t c.loop-at.insts c.loop-at.targets) (with_code t [] [] (values_of c.args.p.now.procedure b)) walk
    (c.value-value.ensures.head b walk.there))

pub returns : goal.returns
returns c of there =
    let walk = rw c.in_default.is at c.loop-at.invariant in
    code_end c.args.t.now c.args.p.now.procedure c.args.block of c.loop-at.insts c.loop-at.targets there walk.makes
    (record { insts = c.loop-at.insts; targets = c.loop-at.targets }) refl
