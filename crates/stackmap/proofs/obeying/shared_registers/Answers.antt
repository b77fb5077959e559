use Rattle.std.proofs.Common.{◌≡◌, ◌∙◌, ◌↔◌, ℕ, ◌<◌, true, arith, subst}
use Rattle.std.proofs.lemmas.Option.{slice_get-get_or}
use Rattle.b3_ir.specs.declared.value.Constraint.TheVariants.{SomeRegister}
use Rattle.b3_ir.specs.declared.value.Reg.{Reg}
use Rattle.stackmap.specs.Registers.{has}
use Rattle.stackmap.specs.Standing.{child_count, TwiceBelow}
use Rattle.stackmap.specs.declared.obeying.Group.TheVariants.{Every}
use Rattle.stackmap.proofs.Children.{child_at, stands_more, twice_more}
use Rattle.stackmap.proofs.obeying.shared_registers.Goals as goal

pub with_place-twice-requires : goal.with_place-twice-requires
with_place-twice-requires c =
    let within : c.loop-k.k < child_count c.args.map.now c.args.site.now =
    subst (λ (n : ℕ). c.loop-k.k < n) c.child_count-k-end.ensures c.loop-k-test.true in
    (c.requires c.loop-k.k _ c.get.result.now.rep within
    (child_at _ _ c.loop-k.k _ c.get.result.now (slice_get-get_or c.args.map.now.constraints c.loop-k.k SomeRegister (omega arith)) c.get.ensures)).1

pub with_place-once-requires : goal.with_place-once-requires
with_place-once-requires c =
    let within : c.loop-k.k < child_count c.args.map.now c.args.site.now =
    subst (λ (n : ℕ). c.loop-k.k < n) c.child_count-k-end.ensures c.loop-k-test.true in
    (c.requires c.loop-k.k _ c.get.result.now.rep within
    (child_at _ _ c.loop-k.k _ c.get.result.now (slice_get-get_or c.args.map.now.constraints c.loop-k.k SomeRegister (omega arith)) c.get.ensures)).1

pub loop-k-preserved : goal.loop-k-preserved
loop-k-preserved c =
    let within : c.loop-k.k < child_count c.args.map.now c.args.site.now =
    subst (λ (n : ℕ). c.loop-k.k < n) c.child_count-k-end.ensures c.loop-k-test.true in
    let asks = slice_get-get_or c.args.map.now.constraints c.loop-k.k SomeRegister (omega arith) in
    record {
      once = stands_more Every _ _ c.loop-k.k _ c.get.result.now c.loop-k.once _ asks c.get.ensures c.with_place-once.ensures c.loop-k.invariant.once;
      twice = twice_more _ _ c.loop-k.k _ c.get.result.now c.loop-k.once c.loop-k.twice _ c.is_at.result asks c.get.ensures c.is_at.ensures
          c.with_place-twice.ensures c.loop-k.invariant.once c.loop-k.invariant.twice;
    }

pub returns : goal.returns
returns c =
    let ends : c.loop-k.k ≡ c.child_count-k-end.result = omega arith in
    subst (λ (n : ℕ). (reg : Reg) → (has c.loop-k.twice reg.0 ≡ true) ↔ TwiceBelow c.args.map.now c.args.site.now n reg)
    (ends ∙ c.child_count-k-end.ensures) c.loop-k.invariant.twice
