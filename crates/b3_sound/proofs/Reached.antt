-- What holds along the run of a valid procedure.
use Rattle.std.proofs.Common.{◌≡◌, ◌≢◌, ℕ, List, [], Some}
use Rattle.std.specs.Prelude.{Contains, IsSome}
use Rattle.b3_ir.specs.Procedure.{Procedure}
use Rattle.b3_ir.specs.declared.opcode.Ty.TheVariants.{Void}
use Rattle.b3_ir.specs.declared.value.Body.TheVariants as body
use Rattle.b3_ir.specs.declared.value.Value.{Value}
use Rattle.b3_meaning.specs.Roles.{role_of}
use Rattle.b3_meaning.specs.Run.{At, Config, Lost, Malformed, Over, State, Undefined_}
use Rattle.b3_meaning.specs.declared.role.Role.TheVariants.{Constant, Pure}
use Rattle.b3_rules.specs.Paths.{HasRun, IsPath}
use Rattle.b3_sound.specs.Laws.{HasResult, IsRangedState}

-- a run came along a path to the place of a block after these values: each value that has run has a word if it has
-- a type, each constant its own, and each pure value of this pass of the block what its opcode gives for the words
-- that its children have now
pub record IsReached (p : Procedure) (passed : List ℕ) (block : ℕ) (before : List Value) (st : State) : Type 0 where
  pub path : IsPath p passed block
  pub words : (v : Value) → HasRun p passed before v → v.ty ≢ Void → IsSome (st.words v.id)
  pub constants : (v : Value) (word : ℕ) → HasRun p passed before v → role_of v.kind.opcode ≡ Constant → v.body ≡ body.Constant word → st.words v.id ≡ Some word
  pub pure : (v : Value) → Contains before v → role_of v.kind.opcode ≡ Pure → HasResult p st v
  pub ranged : IsRangedState p st

-- a run stands at a block that a path reaches, or it is over, or it did what B3 leaves undefined
abbrev pub IsSound : Procedure → Config → Type 0
IsSound p (At block st) = (passed : List ℕ) × IsReached p passed block [] st
IsSound p (Over seen) = Unit {0}
IsSound p (Lost (Undefined_ undefined)) = Unit {0}
IsSound p (Lost Malformed) = ⊥
