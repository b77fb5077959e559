use Rattle.std.proofs.Common.{◌≡◌, List, refl, subst, sym, ◌∙◌}
use Rattle.std.specs.Prelude.{◌↔◌, IsTrue}
use Rattle.b3_ir.specs.declared.opcode.Ty.{Ty}
use Rattle.b3_validate.proofs.Judging.{alike_held, alike_none}
use Rattle.b3_validate.proofs.values.returns_alike.Goals as goal

pub returns-in-Some : goal.returns-in-Some
returns-in-Some c p is are =
    let P : List Ty → Type 0 = λ first. IsTrue c.same_types.result ↔ (c.args.types.now ≡ first) in
    alike_held p.procedure c.args.value.now c.args.types.now c.in-Some.first c.same_types.result (sym c.is_return.ensures ∙ c.if-not-is_return.false) are (rw c.in-Some.is at is.returned) (subst P c.as_slice.ensures c.same_types.ensures)

pub returns-in-None : goal.returns-in-None
returns-in-None c p is are = (λ _. alike_none p.procedure c.args.value.now (rw c.in-None.is at is.returned), λ _. refl)
