-- What a stackmap value that keeps the rules has of the placing rule: the registers of its reported children
-- and of its result keep apart from its clobbers and from each other, as its constraints ask.
use Rattle.std.specs.Prelude.{◌≡◌, ℕ, true, false, Some, slice_get}
use Rattle.b3_ir.specs.declared.value.Constraint.{Constraint}
use Rattle.b3_ir.specs.declared.value.Constraint.TheVariants.{SomeEarlyRegister}
use Rattle.b3_ir.specs.declared.value.Reg.{Reg}
use Rattle.b3_ir.specs.declared.value.Stackmap.{Stackmap}
use Rattle.b3_ir.specs.declared.value.Value.{Value}
use Rattle.stackmap.specs.Placing.{register_for, result_register}
use Rattle.stackmap.specs.Registers.{has, is_late}
use Rattle.stackmap.specs.Rules.{IsAllocatable}

-- reported child k of a value is placed in this register
abbrev pub IsPlacedIn : Value → ℕ → Reg → Type 0
IsPlacedIn v k reg = register_for v k ≡ Some reg

-- each placed child has an allocatable register of its own that isn't clobbered early, nor late where it is
-- read late; the result's isn't clobbered late, no late child's, and no child's where it is written early
pub record PlacesObey (v : Value) (map : Stackmap) : Type 0 where
  pub allocatable : (k : ℕ) (reg : Reg) → IsPlacedIn v k reg → IsAllocatable reg
  pub apart : (j k : ℕ) (reg : Reg) → IsPlacedIn v j reg → IsPlacedIn v k reg → j ≡ k
  pub early : (k : ℕ) (reg : Reg) → IsPlacedIn v k reg → has map.early reg.0 ≡ false
  pub late : (k : ℕ) (c : Constraint) (reg : Reg) → slice_get map.constraints k ≡ Some c → is_late c ≡ true
      → IsPlacedIn v k reg → has map.late reg.0 ≡ false
  pub late_result : (k : ℕ) (c : Constraint) (reg : Reg) → slice_get map.constraints k ≡ Some c → is_late c ≡ true
      → IsPlacedIn v k reg → ¬ (result_register v ≡ Some reg)
  pub result : (reg : Reg) → result_register v ≡ Some reg → IsAllocatable reg × (has map.late reg.0 ≡ false)
  pub early_result : map.result ≡ SomeEarlyRegister → (reg : Reg) → result_register v ≡ Some reg
      → (has map.early reg.0 ≡ false) × ((k : ℕ) → ¬ (IsPlacedIn v k reg))
