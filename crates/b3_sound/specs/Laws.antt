-- The laws of the run of a valid procedure: it is never lost as malformed, it stays inside the procedure, and what
-- a value finds when it runs.
use Rattle.std.specs.Prelude.{◌≡◌, ◌≢◌, ℕ, ◌^◌, ◌<◌, List, [], ◌∷◌, ◌++◌, Option, Some, None, All, Contains, length}
use Rattle.b3_base.specs.Memory.{AreBytes}
use Rattle.b3_base.specs.Observed.{Answer, Start}
use Rattle.b3_base.specs.Ranged.{IsRangedAnswer, IsRangedStart}
use Rattle.b3_base.specs.Word.{bits}
use Rattle.b3_ir.specs.Naming.{type_of}
use Rattle.b3_ir.specs.Procedure.{AllFit, Procedure, values_of}
use Rattle.b3_ir.specs.Types.{width_of}
use Rattle.b3_ir.specs.declared.opcode.Ty.TheVariants.{Void}
use Rattle.b3_ir.specs.declared.value.Body.TheVariants.{Constant as ConstantOf}
use Rattle.b3_ir.specs.declared.value.Value.{Value}
use Rattle.b3_meaning.specs.Opcodes.{AreWordsOf, Gives, result}
use Rattle.b3_meaning.specs.Roles.{role_of}
use Rattle.b3_meaning.specs.Run.{At, Effect, Lost, Malformed, Next, State, effect, malformed, run_of, words_of}
use Rattle.b3_meaning.specs.declared.role.Role.TheVariants.{Constant, Pure}
use Rattle.b3_rules.specs.Paths.{IsCovered}
use Rattle.b3_rules.specs.Rules.{types_of}
use Rattle.b3_rules.specs.Valid.{IsValidProcedure}

-- ---- from which starts

-- a procedure may be run from this start with these answers: their numbers are in range, and the start has an
-- address for each slot
pub record IsStarted (p : Procedure) (start : Start) (answers : List Answer) : Type 0 where
  pub start_in_range : IsRangedStart start
  pub answers_in_range : All IsRangedAnswer answers
  pub slots : length start.slots ≡ length p.slots

-- ---- never malformed

-- no run is lost as malformed, after any number of block steps
abbrev pub NeverMalformed : Procedure → Type 0
NeverMalformed p =
    (start : Start) (answers : List Answer) (n : ℕ) → IsStarted p start answers →
    run_of p start answers n ≢ Lost Malformed

-- wherever a run stands at a block, it is one of the procedure's
abbrev pub StaysInside : Procedure → Type 0
StaysInside p =
    (start : Start) (answers : List Answer) (n block : ℕ) (st : State) → IsStarted p start answers →
    run_of p start answers n ≡ At block st → block < length p.blocks

-- ---- what a value finds

-- value v stands in a block, after the values `before` of it
abbrev pub StandsAfter : Procedure → ℕ → List Value → Value → Type 0
StandsAfter p block before v = (rest : List Value) × (values_of p block ≡ before ++ v ∷ rest)

-- the state that a value leads to, where it leads to the value after it
abbrev pub goes_to : Effect → (State → Option State) → Option State
goes_to (Next st) others = others st
goes_to _ others = None

-- the state that some values lead to, each to the value after it
abbrev pub state_after : Procedure → Start → List Value → State → Option State
state_after p start [] st = Some st
state_after p start (v ∷ vs) st = goes_to (effect (type_of p) start st v) (state_after p start vs)

-- a value of a block runs in a state: after some block steps the run stands at the block, and the values
-- before this one lead from there to the state
pub record RunsIn (p : Procedure) (start : Start) (answers : List Answer) (block : ℕ) (before : List Value)
    (v : Value) (st : State) : Type 0 where
  pub stands : StandsAfter p block before v
  pub steps : ℕ
  pub entry : State
  pub comes : run_of p start answers steps ≡ At block entry
  pub leads : state_after p start before entry ≡ Some st

-- a number is a word of the type of what an id names
abbrev pub IsWordOf : Procedure → ℕ → ℕ → Type 0
IsWordOf p id word = word < 2 ^ bits (width_of (type_of p id))

-- an id has a word of its type
abbrev pub HasWord : Procedure → State → ℕ → Type 0
HasWord p st id = (word : ℕ) × (st.words id ≡ Some word) × IsWordOf p id word

-- the words of a value's children, each one of its type
pub record HasOperands (p : Procedure) (st : State) (v : Value) : Type 0 where
  pub words : List ℕ
  pub are : words_of (type_of p) st.words v.children ≡ Some words
  pub typed : AreWordsOf (types_of p v) words

-- a value has the word that its opcode gives for the words that its children have now
pub record HasResult (p : Procedure) (st : State) (v : Value) : Type 0 where
  pub words : List ℕ
  pub children : words_of (type_of p) st.words v.children ≡ Some words
  pub word : ℕ
  pub gives : result v.kind.opcode v.kind.chill v.ty words (types_of p v) ≡ Gives word
  pub has : st.words v.id ≡ Some word

-- each word, and the word in each location, is one of its id's type; the memory holds bytes; and the answers
-- that are left are in range
pub record IsRangedState (p : Procedure) (st : State) : Type 0 where
  pub words : (id word : ℕ) → st.words id ≡ Some word → IsWordOf p id word
  pub locations : (id word : ℕ) → st.locations id ≡ Some word → IsWordOf p id word
  pub memory : AreBytes st.memory
  pub answers : All IsRangedAnswer st.answers

-- what a value finds when it runs: it is not malformed itself; its children have words of their types; so has each
-- id with a type that is covered here, and that of a constant has the constant's; each pure value that stands
-- earlier in the block has the word that its opcode gives for the words that its children have now; and all is in
-- range
pub record IsReady (p : Procedure) (start : Start) (block : ℕ) (before : List Value) (v : Value) (st : State)
    : Type 0 where
  pub well_formed : effect (type_of p) start st v ≢ malformed
  pub operands : HasOperands p st v
  pub children : (id : ℕ) → Contains v.children id → HasWord p st id
  pub covered : (id : ℕ) → IsCovered p block before id → type_of p id ≢ Void → HasWord p st id
  pub constants : (c : ℕ) (w : Value) (word : ℕ) → Contains (values_of p c) w → IsCovered p block before w.id →
      role_of w.kind.opcode ≡ Constant → w.body ≡ ConstantOf word → st.words w.id ≡ Some word
  pub pure : (w : Value) → Contains before w → role_of w.kind.opcode ≡ Pure → HasResult p st w
  pub in_range : IsRangedState p st

-- every value that runs finds this
abbrev pub AlwaysReady : Procedure → Type 0
AlwaysReady p =
    (start : Start) (answers : List Answer) (block : ℕ) (before : List Value) (v : Value) (st : State) →
    IsStarted p start answers → RunsIn p start answers block before v st → IsReady p start block before v st

-- ---- the laws

abbrev pub NeverMalformedIfValid : Type 0
NeverMalformedIfValid = (p : Procedure) → IsValidProcedure p → AllFit p.blocks → NeverMalformed p

abbrev pub StaysInsideIfValid : Type 0
StaysInsideIfValid = (p : Procedure) → IsValidProcedure p → AllFit p.blocks → StaysInside p

abbrev pub AlwaysReadyIfValid : Type 0
AlwaysReadyIfValid = (p : Procedure) → IsValidProcedure p → AllFit p.blocks → AlwaysReady p
