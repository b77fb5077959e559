-- What the tables say of a procedure, as the proofs need it.
use Rattle.std.proofs.Common.{◌≡◌, ℕ, ◌<◌, ◌⊎◌, true, length, Some}
use Rattle.std.specs.Prelude.{Contains, slice_get}
use Rattle.b3_ir.specs.Naming.{type_of, value_named}
use Rattle.b3_ir.specs.Procedure.{Procedure, values_of}
use Rattle.b3_ir.specs.declared.value.Value.{Value}
use Rattle.air_fold.specs.Foldable.{fits, is_add, is_bit_test, is_comparison, is_constant, is_pointer, is_shl, pointers}
use Rattle.air_select.specs.Selected.{Tables, folds}
use Rattle.air_fold.specs.Values.{Index, known, known_in, place}
use Rattle.air_fold.specs.declared.known.Known.{Known}

-- a folded value is a constant, a comparison, the test of a bit, a sum or a shift
abbrev pub IsKind : Index → Known → Type 0
IsKind x k =
    (is_constant k.opcode ≡ true)
    ⊎ ((is_comparison k.opcode ≡ true) ⊎ ((is_bit_test x k ≡ true) ⊎ ((is_add k.opcode ≡ true) ⊎ (is_shl k.opcode ≡ true))))

abbrev pub IsFoldedKind : Tables → ℕ → Value → Type 0
IsFoldedKind t b v = IsKind t.index (known_in b v)

pub record IsSound (p : Procedure) (t : Tables) : Type 0 where
  -- no two ids have one place, where one of them names a value
  pub apart : (a b : ℕ) (v : Value) → value_named p a ≡ Some v → place t.index a ≡ place t.index b → a ≡ b
  pub below : (a : ℕ) (v : Value) → value_named p a ≡ Some v → place t.index a < length t.index.ids
  -- what is known
  pub is_known : (b : ℕ) (v : Value) → Contains (values_of p b) v → known t.index v.id ≡ known_in b v
  pub types : (id : ℕ) → (known t.index id).ty ≡ type_of p id
  -- a sum that is folded is known as a pointer
  pub pointer : (b : ℕ) (v : Value) → Contains (values_of p b) v → is_add v.kind.opcode ≡ true → is_pointer t.index (pointers p) v.id ≡ folds t v.id
  -- a folded value fits in each of its uses, and is of one of five kinds
  pub uses_fit : (b i id : ℕ) (v : Value) → Contains (values_of p b) v → slice_get v.children i ≡ Some id
      → folds t id ≡ true
      → fits t.index (pointers p) (record { id = id; block = b; user = v.id; opcode = v.kind.opcode; at = i }) ≡ true
  pub kinds : (b : ℕ) (v : Value) → Contains (values_of p b) v → folds t v.id ≡ true → IsFoldedKind t b v
