-- When a procedure keeps another one, so that it may be compiled in its place: it shows the same in each
-- run, and its values that act on the outside are values of the other.
use Rattle.std.specs.Prelude.{◌≡◌, ◌≢◌, ℕ, Bool, true, false, List, Some, map, All}
use Rattle.b3_base.specs.Observed.{Answer, Start}
use Rattle.b3_base.specs.Ranged.{IsRangedAnswer, IsRangedStart}
use Rattle.b3_base.specs.declared.observation.Status.TheVariants.{Undefined}
use Rattle.b3_ir.specs.Naming.{type_of, value_named}
use Rattle.b3_ir.specs.Procedure.{Procedure, StandsAt}
use Rattle.b3_ir.specs.declared.opcode.Opcode.TheVariants.{Return}
use Rattle.b3_ir.specs.declared.opcode.Ty.{Ty}
use Rattle.b3_ir.specs.declared.value.Value.{Value}
use Rattle.b3_meaning.specs.Roles.{role_of}
use Rattle.b3_meaning.specs.Run.{b3_run}
use Rattle.b3_meaning.specs.declared.role.Role.{Role}
use Rattle.b3_meaning.specs.declared.role.Role.TheVariants.{Load, Store, Call, Patch, Check, CheckedResult}

-- whether a value of this role, which may trap, acts on the outside or may end the run within a block: a
-- call, a patchpoint, a check, and an access that traps
abbrev pub is_outward : Role → Bool → Bool
is_outward Call traps = true
is_outward Patch traps = true
is_outward Check traps = true
is_outward (CheckedResult kind) traps = true
is_outward (Load extent extends) traps = traps
is_outward (Store extent) traps = traps
is_outward _ traps = false

-- the types of a value's children
abbrev pub child_types : Procedure → Value → List Ty
child_types p v = map (type_of p) v.children

-- value v of p and value w of q have the same opcode and flags, type, body and types of children
pub record IsLike (p : Procedure) (v : Value) (q : Procedure) (w : Value) : Type 0 where
  pub kind : w.kind ≡ v.kind
  pub ty : w.ty ≡ v.ty
  pub body : w.body ≡ v.body
  pub types : child_types q w ≡ child_types p v

-- some Return of p has a child where this value of q has one, and of its type
pub record HasReturnLike (p q : Procedure) (w : Value) : Type 0 where
  pub block : ℕ
  pub place : ℕ
  pub value : Value
  pub stands : StandsAt p block place value
  pub is_return : value.kind.opcode ≡ Return
  pub types : child_types q w ≡ child_types p value

-- q keeps p: name and slots; each Return is like one of p; wherever the run of p is not undefined, that of q
-- is equal; and a value that acts on the outside is like the one that its id names in p
pub record Keeps (p q : Procedure) : Type 0 where
  pub name : q.name ≡ p.name
  pub slots : q.slots ≡ p.slots
  pub returns : (block place : ℕ) (w : Value) → StandsAt q block place w → w.kind.opcode ≡ Return → HasReturnLike p q w
  pub runs : (start : Start) (answers : List Answer) (n : ℕ) → IsRangedStart start → All IsRangedAnswer answers
      → (b3_run p start answers n).status ≢ Undefined → b3_run q start answers n ≡ b3_run p start answers n
  pub outward : (id : ℕ) (w : Value) → value_named q id ≡ Some w → is_outward (role_of w.kind.opcode) w.kind.traps ≡ true
      → (v : Value) × (value_named p id ≡ Some v) × IsLike p v q w

-- each procedure keeps itself
abbrev pub KeepsItself : Type 0
KeepsItself = (p : Procedure) → Keeps p p

-- what keeps a procedure that keeps another keeps that one
abbrev pub KeepsThrough : Type 0
KeepsThrough = (p q r : Procedure) → Keeps p q → Keeps q r → Keeps p r
