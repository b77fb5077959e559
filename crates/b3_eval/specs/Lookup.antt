-- No public clause cites this module. What is kept by ids.
use Rattle.std.specs.Prelude.{ℕ, ◌&&◌, is_none, nat_eq, if◌then◌else◌, List, [], ◌∷◌, Option, Some, unwrap_or}
use Rattle.std.specs.BTreeMap as tree
use Rattle.std.specs.BTreeMap.{BTreeMap}
use Rattle.std.specs.Ordering.{nat_cmp}
use Rattle.b3_ir.specs.declared.opcode.Ty.{Ty}
use Rattle.b3_ir.specs.declared.opcode.Ty.TheVariants.{Void}
use Rattle.b3_ir.specs.declared.value.Value.{Value}

-- the type of each id, Void where it has none
abbrev pub type_in : BTreeMap ℕ Ty → ℕ → Ty
type_in types id = unwrap_or (tree.get nat_cmp types id) Void

-- words by ids, with one more
abbrev pub with_entry : (ℕ → Option ℕ) → ℕ → ℕ → ℕ → Option ℕ
with_entry words id word q = if nat_eq q id then Some word else words q

-- types by ids, with one more where the id has none
abbrev pub with_type : (ℕ → Option Ty) → ℕ → Ty → ℕ → Option Ty
with_type types id ty q = if nat_eq q id && is_none (types id) then Some ty else types q

-- and with those of some values
abbrev pub with_types : (ℕ → Option Ty) → List Value → ℕ → Option Ty
with_types types [] = types
with_types types (v ∷ vs) = with_types (with_type types v.id v.ty) vs
