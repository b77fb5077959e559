-- What the rules of a valid procedure say of its values, each by the values that stand before it in its block.
use Rattle.std.proofs.Common.{◌≡◌, ℕ, ◌<◌, true, false, List, [], ◌∷◌, length}
use Rattle.std.specs.Prelude.{All}
use Rattle.b3_ir.specs.Fits.{Fits}
use Rattle.b3_ir.specs.Procedure.{Procedure, values_of}
use Rattle.b3_ir.specs.Table.{is_terminal}
use Rattle.b3_ir.specs.Types.{allows_types}
use Rattle.b3_ir.specs.declared.value.Body.{Body}
use Rattle.b3_ir.specs.declared.value.Body.TheVariants.{Slot}
use Rattle.b3_ir.specs.declared.value.Value.{Value}
use Rattle.b3_rules.specs.Paths.{IsCovered, successors_in}
use Rattle.b3_rules.specs.Rules.{SuitsPhi, types_of}
use Rattle.b3_sound.specs.Laws.{StandsAfter}

-- the last value of a block is a terminal, and no other is
abbrev pub EndsBlock : List Value → Type 0
EndsBlock [] = ⊥
EndsBlock (v ∷ []) = is_terminal v.kind.opcode ≡ true
EndsBlock (v ∷ w ∷ vs) = (is_terminal v.kind.opcode ≡ false) × EndsBlock (w ∷ vs)

-- what a SlotBase names is the place of a slot
abbrev pub NamesSlot : Procedure → Body → Type 0
NamesSlot p (Slot number) = number < length p.slots
NamesSlot p _ = Unit {0}

-- the value after these of a block keeps the rules that a run needs
pub record KeepsRules (p : Procedure) (block : ℕ) (before : List Value) (v : Value) : Type 0 where
  pub fits : Fits v
  pub typed : allows_types v.kind.opcode v.ty (types_of p v) ≡ true
  pub phi : SuitsPhi p (types_of p v) v.body
  pub slot : NamesSlot p v.body
  pub successors : All (λ next. next < length p.blocks) (successors_in v.body)
  pub covered : All (IsCovered p block before) v.children

-- two values with one id stand at one place
abbrev pub HasDistinctIds : Procedure → Type 0
HasDistinctIds p =
    (b c : ℕ) (before others : List Value) (v w : Value) → StandsAfter p b before v → StandsAfter p c others w → v.id ≡ w.id → (b ≡ c) × (before ≡ others)

pub record IsKept (p : Procedure) : Type 0 where
  pub some : 0 < length p.blocks
  pub ends : (block : ℕ) → block < length p.blocks → EndsBlock (values_of p block)
  pub distinct : HasDistinctIds p
  pub rules : (block : ℕ) (before : List Value) (v : Value) → StandsAfter p block before v → KeepsRules p block before v
