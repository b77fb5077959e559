use Rattle.std.proofs.Common.{◌≡◌, ◌↔◌, IsTrue, Some, nat_eq, ap, eq-eqb, eqb-true, inl, inr}
use Rattle.b3_ir.specs.declared.value.Constraint.{Constraint}
use Rattle.b3_ir.specs.declared.value.Constraint.TheVariants.{SomeEarlyRegister}
use Rattle.b3_ir.specs.declared.value.Reg.{Reg}
use Rattle.stackmap.specs.Registers.{fixed_by}
use Rattle.stackmap.specs.Standing.{ResultHasKind}
use Rattle.stackmap.proofs.Children.{same_register}
use Rattle.stackmap.proofs.obeying.result_has_kind.Goals as goal

fixed_keeps : (c : Constraint) (fixed reg : Reg) (early every : _) → fixed_by c ≡ Some fixed → (c ≡ SomeEarlyRegister → ⊥)
    → IsTrue (nat_eq reg.0 fixed.0) ↔ ResultHasKind c early every reg
fixed_keeps c fixed reg early every is not_early = (
  λ same. record {
    apart = λ e. absurd (not_early e);
    fixed = λ other e. (let one : other ≡ fixed = cc in let here = same_register reg fixed (eqb-true _ _ same) in cc);
  },
  λ kind. eq-eqb _ _ (ap (λ (r : Reg). r.0) (kind.fixed fixed is)),
)

pub returns-in-Fixed : goal.returns-in-Fixed
returns-in-Fixed c = elim c.in-Fixed.is [
  | inl e ↦ fixed_keeps c.args.constraint c.in-Fixed.fixed c.args.reg _ _ (ap fixed_by e) (λ early. cc)
  | inr e ↦ fixed_keeps c.args.constraint c.in-Fixed.fixed c.args.reg _ _ (ap fixed_by e) (λ early. cc)
]
