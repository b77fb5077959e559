-- The operands of a Move or a Shuffle are those of copies, whose destinations differ.
use Rattle.std.proofs.Common.{◌≡◌, List, [], ◌∷◌, refl, ap, ◌∙◌}
use Rattle.b3_base.specs.declared.word.Width.{Width}
use Rattle.air_ir.specs.Forms.{AllFit, AnyWord, ArePairs, IsHome, Result, Word}
use Rattle.air_ir.specs.Renaming.{Copy, copy_operands, destination, source}
use Rattle.air_ir.specs.declared.operand.Home.{Home}
use Rattle.air_ir.specs.declared.operand.Arg.{Arg}
use Rattle.air_ir.specs.declared.operand.Arg.TheVariants.{At, Imm, Addr, Index, FrameSlot}
use Rattle.air_ir.specs.declared.operand.Role.{Role}
use Rattle.air_ir.specs.declared.operand.Role.TheVariants.{Use, Def}
use Rattle.air_ir.specs.declared.operand.Operand.{Operand}

home_in : (arg : Arg) → IsHome arg → (h : Home) × (arg ≡ At h)
home_in (At h) is = (h, refl)
home_in (Imm word) is = absurd is
home_in (Addr base offset) is = absurd is
home_in (Index base index shift) is = absurd is
home_in (FrameSlot number) is = absurd is

operand-is : (o : Operand) (role : Role) (width : Width) (arg : Arg) → o.role ≡ role → o.width ≡ width → o.arg ≡ arg → o ≡ record { role = role; width = width; arg = arg }
operand-is o role width arg e f g = rw (← e, ← f, ← g) refl

-- the one copy of a Move
pub one_copy : (width : Width) (from to : Operand) → AllFit (Word width AnyWord ∷ Result width ∷ []) (from ∷ to ∷ [])
    → (c : Copy) × (from ≡ source c) × (to ≡ destination c)
unfolding AllFit
one_copy width from to fits =
    let u = fits.0 in
    let d = fits.1.0 in
    let at = home_in to.arg d.2 in (
      record { from = from.arg; to = at.0; width = width },
      operand-is from Use width from.arg u.0 u.1 refl,
      operand-is to Def width (At at.0) d.0 d.1 at.1,
    )

pub pairs_are_copies : (os : List Operand) → ArePairs os → (cs : List Copy) × (os ≡ copy_operands cs)
unfolding ArePairs copy_operands
pairs_are_copies [] pairs = ([], refl)
pairs_are_copies (from ∷ []) pairs = absurd pairs
pairs_are_copies (from ∷ to ∷ os) pairs =
    let one = one_copy pairs.0 from to pairs.1 in
    let rest = pairs_are_copies os pairs.2 in
    (one.0 ∷ rest.0, ap (λ (o : Operand). o ∷ to ∷ os) one.1 ∙ ap (λ (o : Operand). source one.0 ∷ o ∷ os) one.2 ∙ ap (λ (l : List Operand). source one.0 ∷ destination one.0 ∷ l) rest.1)
