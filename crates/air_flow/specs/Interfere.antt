-- When two homes of a procedure interfere, so that they can't share a register.
use Rattle.std.specs.Prelude.{◌≡◌, ◌≢◌, ◌⊎◌, List, [], ◌∷◌, Contains}
use Rattle.b3_base.specs.declared.word.Width.{Width}
use Rattle.b3_ir.specs.declared.value.Reg.{Reg as Register}
use Rattle.flow_live.specs.Graph.{Place}
use Rattle.air_ir.specs.Kinds.{Copies, kind_of}
use Rattle.air_ir.specs.WellFormed.{StandsAt}
use Rattle.air_ir.specs.declared.operand.Arg.TheVariants.{At}
use Rattle.air_ir.specs.declared.operand.Home.{Home}
use Rattle.air_ir.specs.declared.operand.Home.TheVariants.{Reg}
use Rattle.air_ir.specs.declared.operand.Operand.{Operand}
use Rattle.air_ir.specs.declared.operand.Role.TheVariants.{EarlyDef}
use Rattle.air_ir.specs.declared.procedure.AirInst.{AirInst}
use Rattle.air_ir.specs.declared.procedure.AirProc.{AirProc}
use Rattle.air_flow.specs.Living.{IsDefinedBy, IsLiveAfter, IsUsedBy, IsUsedLateBy}

-- an instruction may write a home before it has read its uses
abbrev pub IsEarly : AirInst → Home → Type 0
IsEarly i home = (width : Width) × Contains i.operands (record { role = EarlyDef; width = width; arg = At home })

-- ---- copies

-- operands by pairs of a source and a destination, with this pair among them
unfoldable pub IsPair : List Operand → Home → Home → Type 0
IsPair (from ∷ to ∷ os) a b = ((from.arg ≡ At a) × (to.arg ≡ At b)) ⊎ IsPair os a b
IsPair (o ∷ []) a b = ⊥
IsPair [] a b = ⊥

-- an instruction copies the first home to the second, as a Move or as one pair of a Shuffle
abbrev pub IsCopied : AirInst → Home → Home → Type 0
IsCopied i from to = (kind_of i.op ≡ Copies) × IsPair i.operands from to

-- ---- interference

-- at an instruction a home is defined while another one is needed: the other is live after it and isn't what is
-- copied there, it is used late, it is used and the first is defined early, or it is defined too
abbrev pub Meets : AirProc → Place → AirInst → Home → Home → Type 0
Meets p at i a b = IsDefinedBy p i a
    × ((IsLiveAfter p at b × (IsCopied i b a → ⊥))
    ⊎ (IsUsedLateBy p i b ⊎ ((IsEarly i a × IsUsedBy p i b) ⊎ IsDefinedBy p i b)))

abbrev pub AreRegisters : Home → Home → Type 0
AreRegisters a b = (r : Register) × (s : Register) × (a ≡ Reg r) × (b ≡ Reg s)

-- two different homes interfere where both are registers, or where they meet at some instruction, either way round
abbrev pub Interfere : AirProc → Home → Home → Type 0
Interfere p a b = (a ≢ b)
    × (AreRegisters a b
    ⊎ ((at : Place) × (i : AirInst) × StandsAt p at.block at.place i × (Meets p at i a b ⊎ Meets p at i b a)))
