-- The run of a procedure, block step by block step. A block step takes the values of a block in
-- order. A run that is lost says why: it did what B3 leaves undefined, or it came to a value or a
-- block that no valid procedure has.
use Rattle.std.specs.Prelude.{ℕ, ◌*◌, ◌^◌, ◌+ℤ◌, ◌*ℤ◌, ℤ, Bool, nat_eq, nat_lt, if◌then◌else◌, List, [], ◌∷◌, ◌++◌, map, Option, Some, None, is_some, neg_ℤ, slice_get}
use Rattle.std.specs.Option.{option_or}
use Rattle.b3_base.specs.Arithmetic.{low, sign_extended}
use Rattle.b3_base.specs.Memory.{read_word, write_word}
use Rattle.b3_base.specs.Observed.{Memory, Event, Answer, Give, Leave, Observation, undefined, Start}
use Rattle.b3_base.specs.Run.{iterate}
use Rattle.b3_base.specs.Signed.{signed, unsigned, is_signed}
use Rattle.b3_base.specs.Word.{bits}
use Rattle.b3_base.specs.declared.event.EventKind.{EventKind}
use Rattle.b3_base.specs.declared.event.EventKind.TheVariants as event
use Rattle.b3_base.specs.declared.observation.Status.{Status}
use Rattle.b3_base.specs.declared.observation.Status.TheVariants.{Going, Waiting, Left, Returned, Trapped, Exited}
use Rattle.b3_base.specs.declared.word.Width.{Width}
use Rattle.b3_base.specs.declared.word.Width.TheVariants.{W32}
use Rattle.b3_ir.specs.Naming.{type_of}
use Rattle.b3_ir.specs.Procedure.{Procedure, values_of}
use Rattle.b3_ir.specs.Types.{allows_types, width_of}
use Rattle.b3_ir.specs.declared.opcode.Ty.{Ty}
use Rattle.b3_ir.specs.declared.opcode.Ty.TheVariants.{Void, Int32, Int64}
use Rattle.b3_ir.specs.declared.value.Body.{Body}
use Rattle.b3_ir.specs.declared.value.Body.TheVariants as body
use Rattle.b3_ir.specs.declared.value.Value.{Value}
use Rattle.b3_meaning.specs.Access.{Accessed, Done, Trap, Refused, access, offset_address}
use Rattle.b3_meaning.specs.Opcodes.{Undefined, UnsetPhi, CallIntoCode, OopsReached, Outcome, Gives, Undefines, Misfits, result}
use Rattle.b3_meaning.specs.Roles.{extent_bytes, role_of}
use Rattle.b3_meaning.specs.declared.role.Checked.{Checked}
use Rattle.b3_meaning.specs.declared.role.Checked.TheVariants.{Sum, Difference, Product}
use Rattle.b3_meaning.specs.declared.role.Extent.{Extent}
use Rattle.b3_meaning.specs.declared.role.Role.{Role}
use Rattle.b3_meaning.specs.declared.role.Role.TheVariants.{Skip, Constant, Argument, Frame, SlotAddress, Pure, SetPhi, GetPhi, Load, Store, Call, Patch, Check, CheckedResult, Jump, Branch, Switch, Return, Fail}

-- why a run is lost
pub data Loss : Type 0 where
  Undefined_ : (undefined : Undefined) → Loss
  Malformed : Loss

-- the state of a run: the word that each value last gave and the word in the location of each
-- Phi, by their ids, the memory, the events so far and the answers that are left
pub record State : Type 0 where
  pub words : ℕ → Option ℕ
  pub locations : ℕ → Option ℕ
  pub memory : Memory
  pub events : List Event
  pub answers : List Answer

-- a run stands at a block, it is over (or waits, and stays so), or it is lost
pub data Config : Type 0 where
  At : (block : ℕ) (state : State) → Config
  Over : (seen : Observation) → Config
  Lost : (loss : Loss) → Config

-- what is seen of a state, and of a run
abbrev pub seen_as : State → Status → Observation
seen_as st status = record { status = status; events = st.events; memory = st.memory }

abbrev pub observe : Config → Observation
observe (At block st) = seen_as st Going
observe (Over seen) = seen
observe (Lost loss) = undefined

-- what a value leads to: the value after it, another block, or the end of the block step with the
-- run over or lost
pub data Effect : Type 0 where
  Next : (state : State) → Effect
  To : (block : ℕ) (state : State) → Effect
  End : (config : Config) → Effect

-- the run ends with this status; it is lost
abbrev pub ends : State → Status → Effect
ends st status = End (Over (seen_as st status))

abbrev pub malformed : Effect
malformed = End (Lost Malformed)

-- the words of some values, where each has a word of its type
abbrev pub and_word : Option ℕ → Option (List ℕ) → Option (List ℕ)
and_word (Some word) (Some words) = Some (word ∷ words)
and_word (Some word) None = None
and_word None words = None

-- a word that is one of a width
abbrev pub word_in : Width → Option ℕ → Option ℕ
word_in width (Some word) = if nat_lt word (2 ^ bits width) then Some word else None
word_in width None = None

abbrev pub words_of : (ℕ → Ty) → (ℕ → Option ℕ) → List ℕ → Option (List ℕ)
words_of types words [] = Some []
words_of types words (id ∷ ids) = and_word (word_in (width_of (types id)) (words id)) (words_of types words ids)

-- ---- words that values give

-- the state with the word of a value
abbrev pub with_word : State → ℕ → ℕ → State
with_word st id word = record st { words = λ q. if nat_eq q id then Some word else st.words q }

-- the value gives its word, or the run is lost
abbrev pub gives : State → ℕ → Outcome → Effect
gives st id (Gives word) = Next (with_word st id word)
gives st id (Undefines undefined) = End (Lost (Undefined_ undefined))
gives st id Misfits = malformed

-- a word that is there
abbrev pub given : Option ℕ → Outcome
given (Some word) = Gives word
given None = Misfits

-- the word of a constant, of an argument, and of a slot's address
abbrev pub constant_of : Body → Outcome
constant_of (body.Constant word) = Gives word
constant_of _ = Misfits

abbrev pub argument_of : Start → Body → Outcome
argument_of start (body.Argument reg) = Gives (start.arguments reg.0)
argument_of start _ = Misfits

abbrev pub slot_of : Start → Body → Outcome
slot_of start (body.Slot number) = given (slice_get start.slots number)
slot_of start _ = Misfits

-- ---- Phis

-- an Upsilon puts its child's word into the location of its Phi
abbrev pub with_location : State → ℕ → ℕ → State
with_location st phi word = record st { locations = λ q. if nat_eq q phi then Some word else st.locations q }

abbrev pub sets : State → Body → List ℕ → Effect
sets st (body.Target phi) (word ∷ []) = Next (with_location st phi word)
sets st _ words = malformed

-- a Phi whose location was never set is undefined
abbrev pub loaded_phi : Option ℕ → Outcome
loaded_phi (Some word) = Gives word
loaded_phi None = Undefines UnsetPhi

-- ---- accesses

-- an access that traps ends the run with its value's id and its first address, and writes nothing
abbrev pub accesses : State → ℕ → Accessed → Effect → Effect
accesses st id Done done = done
accesses st id (Trap address) done = ends st (Trapped id address)
accesses st id (Refused undefined) done = End (Lost (Undefined_ undefined))

-- what a load of some bytes gives: zeros above them, or their sign in the 32 bits of its word
abbrev pub extended : Bool → ℕ → ℕ → ℕ
extended extends bytes word = if extends then low W32 (sign_extended (8 * bytes) word) else word

abbrev pub loaded : Bool → ℕ → Option ℕ → Outcome
loaded extends bytes (Some word) = Gives (extended extends bytes word)
loaded extends bytes None = Misfits

abbrev pub loads : Start → State → Value → Extent → Bool → Body → List ℕ → Effect
loads start st v extent extends (body.Offset offset) (pointer ∷ []) =
    let address = offset_address pointer offset in
    let bytes = extent_bytes extent v.ty in
    accesses st v.id (access start st.memory address bytes v.kind.traps) (gives st v.id (loaded extends bytes (read_word st.memory address bytes)))
loads start st v extent extends _ words = malformed

-- a store puts the low bytes of its first child, and its second is the pointer
abbrev pub stores : Start → State → Value → Extent → Body → List Ty → List ℕ → Effect
stores start st v extent (body.Offset offset) (ty ∷ types) (word ∷ pointer ∷ []) =
    let address = offset_address pointer offset in
    let bytes = extent_bytes extent ty in
    accesses st v.id (access start st.memory address bytes v.kind.traps) (Next (record st { memory = write_word st.memory address bytes word }))
stores start st v extent _ types words = malformed

-- ---- calls and patchpoints

-- the event of a value: who is called, with these words of these types, and the memory of the moment
abbrev pub event_of : State → EventKind → List Ty → List ℕ → Event
event_of st kind types words = record { kind = kind; arguments = words; widths = map width_of types; memory = st.memory }

-- what an answer writes: of its bytes those count whose addresses the memory holds
abbrev pub with_writes : Memory → Memory → Memory
with_writes memory writes q = if is_some (memory q) then option_or (writes q) (memory q) else None

-- the word that an answer gives a value of a type, modulo its width; a Void value takes none
abbrev pub with_answer : State → ℕ → Ty → ℕ → State
with_answer st id Void value = st
with_answer st id Int32 value = with_word st id (low (width_of Int32) value)
with_answer st id Int64 value = with_word st id (low (width_of Int64) value)

-- the event is added and the next answer taken: the run goes on with what it gives, ends where it leaves,
-- and waits where there is none
abbrev pub answers : State → Value → List Answer → Effect
answers st v [] = ends st Waiting
answers st v (Leave ∷ rest) = ends (record st { answers = rest }) Left
answers st v (Give value writes ∷ rest) = Next (with_answer (record st { memory = with_writes st.memory writes; answers = rest }) v.id v.ty value)

abbrev pub calls_out : State → Value → Event → Effect
calls_out st v shown = answers (record st { events = st.events ++ shown ∷ [] }) v st.answers

-- a call of the function at the first child's address; in the code it is undefined, also where no
-- answer is left
abbrev pub calls : Start → State → Value → List Ty → List ℕ → Effect
calls start st v (ty ∷ types) (callee ∷ words) =
    if start.is_code callee then End (Lost (Undefined_ CallIntoCode)) else calls_out st v (event_of st (event.Call callee) types words)
calls start st v types words = malformed

abbrev pub patches : State → Value → List Ty → List ℕ → Effect
patches st v types words = calls_out st v (event_of st (event.Patch v.id) types words)

-- ---- checks

-- a Check exits where its first child isn't 0, and reports the others
abbrev pub checks : State → Value → List ℕ → Effect
checks st v (test ∷ reported) = if nat_eq test 0 then Next st else ends st (Exited v.id reported)
checks st v [] = malformed

-- the whole result, of which a check asks whether it is a signed number of the width
abbrev pub checked_result : Checked → ℤ → ℤ → ℤ
checked_result Sum x y = x +ℤ y
checked_result Difference x y = x +ℤ neg_ℤ y
checked_result Product x y = x *ℤ y

abbrev pub checked : State → Value → ℤ → List ℕ → Effect
checked st v number reported =
    if is_signed (width_of v.ty) number then Next (with_word st v.id (unsigned (width_of v.ty) number)) else ends st (Exited v.id reported)

abbrev pub checks_result : State → Value → Checked → List ℕ → Effect
checks_result st v kind (x ∷ y ∷ reported) = checked st v (checked_result kind (signed (width_of v.ty) x) (signed (width_of v.ty) y)) reported
checks_result st v kind words = malformed

-- ---- terminals

abbrev pub jumps : State → Body → Effect
jumps st (body.Targets (block ∷ [])) = To block st
jumps st _ = malformed

-- a branch leads to its first successor where its child isn't 0, else to its second
abbrev pub branches : State → Body → List ℕ → Effect
branches st (body.Targets (then_block ∷ else_block ∷ [])) (word ∷ []) = To (if nat_eq word 0 then else_block else then_block) st
branches st _ words = malformed

-- a switch leads to the successor of the first case that is equal to its child in the child's width, and
-- to the last one where there is none
abbrev pub chosen : Width → ℕ → List ℕ → List ℕ → Option ℕ
chosen width word cases [] = None
chosen width word [] (target ∷ targets) = Some target
chosen width word (case ∷ cases) (target ∷ targets) = if nat_eq (low width case) word then Some target else chosen width word cases targets

abbrev pub leads_to : State → Option ℕ → Effect
leads_to st (Some block) = To block st
leads_to st None = malformed

abbrev pub switches : State → Body → List Ty → List ℕ → Effect
switches st (body.Cases cases targets) (ty ∷ []) (word ∷ []) = leads_to st (chosen (width_of ty) word cases targets)
switches st _ types words = malformed

-- a return ends the run, with its child's word where it has a child
abbrev pub returns : State → List ℕ → Effect
returns st [] = ends st (Returned None)
returns st (word ∷ []) = ends st (Returned (Some word))
returns st words = malformed

-- ---- block steps

-- what a value leads to, by its role, and its children's types and words. A Phi loads from its location
-- when it runs, and an Upsilon stores when it runs
abbrev pub effect_by : Role → Start → State → Value → List Ty → List ℕ → Effect
effect_by Skip start st v types words = Next st
effect_by Constant start st v types words = gives st v.id (constant_of v.body)
effect_by Argument start st v types words = gives st v.id (argument_of start v.body)
effect_by Frame start st v types words = gives st v.id (Gives start.frame_pointer)
effect_by SlotAddress start st v types words = gives st v.id (slot_of start v.body)
effect_by Pure start st v types words = gives st v.id (result v.kind.opcode v.kind.chill v.ty words types)
effect_by SetPhi start st v types words = sets st v.body words
effect_by GetPhi start st v types words = gives st v.id (loaded_phi (st.locations v.id))
effect_by (Load extent extends) start st v types words = loads start st v extent extends v.body words
effect_by (Store extent) start st v types words = stores start st v extent v.body types words
effect_by Call start st v types words = calls start st v types words
effect_by Patch start st v types words = patches st v types words
effect_by Check start st v types words = checks st v words
effect_by (CheckedResult kind) start st v types words = checks_result st v kind words
effect_by Jump start st v types words = jumps st v.body
effect_by Branch start st v types words = branches st v.body words
effect_by Switch start st v types words = switches st v.body types words
effect_by Return start st v types words = returns st words
effect_by Fail start st v types words = End (Lost (Undefined_ OopsReached))

-- what it leads to where each child has a word of its type
abbrev pub effect_on : (ℕ → Ty) → Start → State → Value → Option (List ℕ) → Effect
effect_on types start st v (Some words) = effect_by (role_of v.kind.opcode) start st v (map types v.children) words
effect_on types start st v None = malformed

-- a value runs where its row allows its type and those of its children, and each child has a word
abbrev pub effect : (ℕ → Ty) → Start → State → Value → Effect
effect types start st v =
    if allows_types v.kind.opcode v.ty (map types v.children) then effect_on types start st v (words_of types st.words v.children) else malformed

-- the values of a block one after the other; a block without a terminal is malformed
abbrev pub after : Effect → (State → Config) → Config
after (Next st) others = others st
after (To block st) others = At block st
after (End config) others = config

abbrev pub run_values : (ℕ → Ty) → Start → List Value → State → Config
run_values types start [] st = Lost Malformed
run_values types start (v ∷ vs) st = after (effect types start st v) (run_values types start vs)

-- one block step: a run that is over, waits or is lost stays as it is
abbrev pub block_step : Procedure → Start → Config → Config
block_step p start (At block st) = run_values (type_of p) start (values_of p block) st
block_step p start (Over seen) = Over seen
block_step p start (Lost loss) = Lost loss

-- the run stands at block 0, and nothing has a word
abbrev pub first : Start → List Answer → Config
first start answers = At 0 (record { words = λ _. None; locations = λ _. None; memory = start.memory; events = []; answers = answers })

-- the run after n block steps, and what is seen of it
abbrev pub run_of : Procedure → Start → List Answer → ℕ → Config
run_of p start answers n = iterate (block_step p start) n (first start answers)

abbrev pub b3_run : Procedure → Start → List Answer → ℕ → Observation
b3_run p start answers n = observe (run_of p start answers n)
