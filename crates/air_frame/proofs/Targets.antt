-- The registers that operands write are those of their targets.
use Rattle.std.proofs.Common.{◌≡◌, ℕ, Bool, true, false, List, [], ◌∷◌, refl, ap}
use Rattle.std.specs.Prelude.{◌||◌}
use Rattle.std.specs.List.{list_any}
use Rattle.b3_base.specs.declared.word.Width.{Width}
use Rattle.air_ir.specs.Operands.{Target, is_read, targets, and_target}
use Rattle.air_ir.specs.declared.operand.Arg.{Arg}
use Rattle.air_ir.specs.declared.operand.Arg.TheVariants.{At, Imm, Addr, Index, FrameSlot}
use Rattle.air_ir.specs.declared.operand.Operand.{Operand}
use Rattle.air_frame.specs.Needs.{is_register}
use Rattle.air_frame.specs.Targets.{arg_writes, operand_writes}

any_of : ℕ → List Target → Bool
any_of r ts = list_any (λ (t : Target). is_register r t.home) ts

one_target : (reads : Bool) (width : Width) (r : ℕ) (arg : Arg) (ts : List Target)
    → list_any (λ (t : Target). is_register r t.home) (and_target reads width arg ts)
    ≡ (arg_writes reads r arg || list_any (λ (t : Target). is_register r t.home) ts)
one_target false width r (At home) ts = refl
one_target false width r (Imm word) ts = refl
one_target false width r (Addr base offset) ts = refl
one_target false width r (Index base index shift) ts = refl
one_target false width r (FrameSlot number) ts = refl
one_target true width r arg ts = refl

pub targets_written : (r : ℕ) (os : List Operand)
    → list_any (λ (t : Target). is_register r t.home) (targets os) ≡ list_any (operand_writes r) os
unfolding targets
targets_written r [] = refl
targets_written r (o ∷ os) =
    rw (one_target (is_read o.role) o.width r o.arg (targets os)) (ap (λ b. operand_writes r o || b) (targets_written r os))
