-- What selection asks of a procedure, and what it promises of sizes, of what is returned and of folded values.
use Rattle.std.specs.Prelude.{◌≡◌, ℕ, ◌+◌, ◌*◌, ◌^◌, ◌≤◌, suc, Bool, true, false, List, [], ◌∷◌, All, Contains, length, map, sum_by, slice_get, slice_index_or, Some, take}
use Rattle.b3_ir.specs.Naming.{value_named}
use Rattle.b3_ir.specs.Procedure.{Block, Kept, Procedure, StandsAt, empty_kept, total}
use Rattle.b3_ir.specs.Types.{width_of}
use Rattle.b3_ir.specs.declared.opcode.Opcode.{Opcode}
use Rattle.b3_ir.specs.declared.opcode.Opcode.TheVariants as opcode
use Rattle.b3_ir.specs.declared.opcode.Ty.{Ty}
use Rattle.b3_ir.specs.declared.value.Body.{Body}
use Rattle.b3_ir.specs.declared.value.Body.TheVariants.{Cases}
use Rattle.b3_ir.specs.declared.value.Value.{Value}
use Rattle.air_ir.specs.Expressed.{IsExpressed}
use Rattle.air_ir.specs.Kinds.{Kind, Copies, Computes, Checks, ChecksResult, Patches, Branches, Jumps, Switches, Returns, Fails, kind_of, makes_site}
use Rattle.air_ir.specs.WellFormed as air
use Rattle.air_ir.specs.declared.op.AirOp.{AirOp}
use Rattle.air_ir.specs.declared.op.AirOp.TheVariants.{BranchIf, CheckIf, SelectIf, Shuffle}
use Rattle.air_ir.specs.declared.op.Test.{Test}
use Rattle.air_ir.specs.declared.op.Test.TheVariants.{Bit, Compare}
use Rattle.air_ir.specs.declared.operand.Arg.{Arg}
use Rattle.air_ir.specs.declared.operand.Arg.TheVariants.{Imm}
use Rattle.air_ir.specs.declared.operand.Operand.{Operand}
use Rattle.air_ir.specs.declared.procedure.AirBlock.{AirBlock}
use Rattle.air_ir.specs.declared.procedure.AirInst.{AirInst}
use Rattle.air_ir.specs.declared.procedure.AirProc.{AirProc}
use Rattle.air_fold.specs.Foldable.{is_add, is_and, is_comparison, is_constant, is_foldable, is_store}
use Rattle.air_select.specs.Selected.{condition, sum_address, tables, turned, use_of}
use Rattle.air_fold.specs.Values.{known_in, word_in}

-- the procedure at a place of a module
abbrev pub procedure_at : List Kept → ℕ → Procedure
procedure_at m k = (slice_index_or m k (empty_kept [] 0)).procedure

-- ---- what is asked

-- the opcodes that are selected as arithmetic: no access, slot, frame pointer, call, patchpoint or check
abbrev pub is_arithmetic_opcode : Opcode → Bool
is_arithmetic_opcode opcode.FramePointer = false
is_arithmetic_opcode opcode.SlotBase = false
is_arithmetic_opcode opcode.Load8Z = false
is_arithmetic_opcode opcode.Load8S = false
is_arithmetic_opcode opcode.Load16Z = false
is_arithmetic_opcode opcode.Load16S = false
is_arithmetic_opcode opcode.Load = false
is_arithmetic_opcode opcode.Store8 = false
is_arithmetic_opcode opcode.Store16 = false
is_arithmetic_opcode opcode.Store = false
is_arithmetic_opcode opcode.CCall = false
is_arithmetic_opcode opcode.Patchpoint = false
is_arithmetic_opcode opcode.Check = false
is_arithmetic_opcode opcode.CheckAdd = false
is_arithmetic_opcode opcode.CheckSub = false
is_arithmetic_opcode opcode.CheckMul = false
is_arithmetic_opcode _ = true

abbrev pub HasArithmeticAlone : Procedure → Type 0
HasArithmeticAlone p =
    All (λ (b : Block). All (λ (v : Value). is_arithmetic_opcode v.kind.opcode ≡ true) b.values) p.blocks

-- no value of a procedure traps
abbrev pub HasNoTraps : Procedure → Type 0
HasNoTraps p = All (λ (b : Block). All (λ (v : Value). v.kind.traps ≡ false) b.values) p.blocks

-- ---- sizes

-- the values of a procedure are `total`; its children and cases
abbrev pub case_count : Body → ℕ
case_count (Cases cases targets) = length cases
case_count _ = 0

abbrev pub child_count : Procedure → ℕ
child_count p =
    sum_by (λ (b : Block). sum_by (λ (v : Value). length v.children + case_count v.body) b.values) p.blocks

pub record IsWithinLimits (p : Procedure) : Type 0 where
  pub values : total p ≤ 16384
  pub blocks : length p.blocks ≤ 4096
  pub children : child_count p ≤ 131072

-- the temporaries of a selected procedure and its blocks
pub record IsFew (p : Procedure) (q : AirProc) : Type 0 where
  pub tmps : q.tmps ≤ 8 * total p + child_count p + 32
  pub most : q.tmps ≤ 65536
  pub blocks : length q.blocks ≡ length p.blocks + 1

-- ---- what is returned

-- some Return of the procedure has a child of this type
abbrev pub ReturnsType : Procedure → Ty → Type 0
ReturnsType p ty = (block : ℕ) × (k : ℕ) × (v : Value) × (i : ℕ) × (j : ℕ) × (m : ℕ) × (child : Value)
    × StandsAt p block k v × (v.kind.opcode ≡ opcode.Return) × (v.children ≡ i ∷ [])
    × StandsAt p j m child × (child.id ≡ i) × (child.ty ≡ ty)

-- ---- ops

-- the kinds of ops of arithmetic: copies, what computes a word, and what ends a block
abbrev pub is_arithmetic_kind : Kind → Bool
is_arithmetic_kind Copies = true
is_arithmetic_kind Computes = true
is_arithmetic_kind (Branches test) = true
is_arithmetic_kind Jumps = true
is_arithmetic_kind (Switches cases) = true
is_arithmetic_kind Returns = true
is_arithmetic_kind Fails = true
is_arithmetic_kind _ = false

-- a Shuffle isn't
abbrev pub is_arithmetic : AirOp → Bool
is_arithmetic Shuffle = false
is_arithmetic op = is_arithmetic_kind (kind_of op)

abbrev pub IsArithmetic : AirProc → Type 0
IsArithmetic q = All (λ (b : AirBlock). All (λ (i : AirInst). is_arithmetic i.op ≡ true) b.insts) q.blocks

-- each op is selected but a Shuffle
abbrev pub is_selected : AirOp → Bool
is_selected Shuffle = false
is_selected op = true

abbrev pub IsSelected : AirProc → Type 0
IsSelected q = All (λ (b : AirBlock). All (λ (i : AirInst). is_selected i.op ≡ true) b.insts) q.blocks

-- the kinds of ops that make a site with a stackmap: patchpoints and checks
abbrev pub has_stackmap : Kind → Bool
has_stackmap (Patches typed) = true
has_stackmap (Checks test) = true
has_stackmap (ChecksResult checked) = true
has_stackmap _ = false

-- each patchpoint and each check is expressed for the value that it names
abbrev pub AreExpressed : Procedure → AirProc → Type 0
AreExpressed p q = (block place : ℕ) (i : AirInst) → air.StandsAt q block place i → has_stackmap (kind_of i.op) ≡ true
    → (v : Value) × (value_named p i.value ≡ Some v) × IsExpressed p v i

-- each instruction that makes a site makes it for a value of a procedure
abbrev pub AreMadeFor : Procedure → AirProc → Type 0
AreMadeFor p q = (block place : ℕ) (i : AirInst) → air.StandsAt q block place i
    → makes_site (kind_of i.op) i.traps ≡ true → (v : Value) × (value_named p i.value ≡ Some v)

-- no instruction traps
abbrev pub IsUntrapped : AirProc → Type 0
IsUntrapped q = All (λ (b : AirBlock). All (λ (i : AirInst). i.traps ≡ false) b.insts) q.blocks

-- ---- folded values

-- a foldable value is made by no instruction
abbrev pub NoneIsMade : Procedure → AirProc → Type 0
NoneIsMade p q = (block place : ℕ) (i : AirInst) → air.StandsAt q block place i → is_foldable p i.value ≡ false

-- an instruction of the block is made for a value and has this
abbrev pub IsMade : AirProc → ℕ → Value → (AirInst → Type 0) → Type 0
IsMade q block v Has = (place : ℕ) × (i : AirInst) × air.StandsAt q (suc block) place i × (i.value ≡ v.id) × Has i

-- the word of a constant as it stands in a use: the amount of a rotation left as its negative
abbrev pub carried_word : Opcode → Ty → ℕ → ℕ
carried_word opcode.RotL ty word = turned (width_of ty) word
carried_word op ty word = word

-- the instruction has this word as its first operand, and as its second
abbrev pub HasFirst : ℕ → AirInst → Type 0
HasFirst word i = (o : Operand) × (slice_get i.operands 0 ≡ Some o) × (o.arg ≡ Imm word)

abbrev pub HasSecond : ℕ → AirInst → Type 0
HasSecond word i = (o : Operand) × (slice_get i.operands 1 ≡ Some o) × (o.arg ≡ Imm word)

abbrev pub test_in : AirOp → List Test
test_in (BranchIf test) = test ∷ []
test_in (SelectIf test) = test ∷ []
test_in (CheckIf test) = test ∷ []
test_in _ = []

-- the instruction tests what a comparison compares: a constant that is folded stands there as its word
abbrev pub TestsComparison : Procedure → Value → AirInst → Type 0
TestsComparison p c i =
    (test_in i.op ≡ Compare (condition c.kind.opcode) ∷ [])
    × (take 2 i.operands ≡ map (use_of (tables p)) c.children)

-- the instruction tests the one bit of a word in a value
abbrev pub TestsBit : Procedure → ℕ → ℕ → AirInst → Type 0
TestsBit p id word i =
    (bit : ℕ) × (2 ^ bit ≡ word) × (test_in i.op ≡ Bit bit ∷ []) × (take 1 i.operands ≡ use_of (tables p) id ∷ [])

-- a foldable constant is carried by each value that uses it and is not folded itself
abbrev pub CarriesConstants : Procedure → AirProc → Type 0
CarriesConstants p q = (b j c m : ℕ) (v k : Value) → StandsAt p b j v → StandsAt p c m k
    → is_foldable p v.id ≡ false → is_constant k.kind.opcode ≡ true → is_foldable p k.id ≡ true
    → slice_get v.children 1 ≡ Some k.id
    → IsMade q b v (HasSecond (carried_word v.kind.opcode v.ty (word_in k.body)))

-- and a foldable 0 by the store that stores it
abbrev pub CarriesStored : Procedure → AirProc → Type 0
CarriesStored p q = (b j c m : ℕ) (v k : Value) → StandsAt p b j v → StandsAt p c m k
    → is_store v.kind.opcode ≡ true → is_constant k.kind.opcode ≡ true → is_foldable p k.id ≡ true
    → slice_get v.children 0 ≡ Some k.id → IsMade q b v (HasFirst 0)

-- the instruction has this address
abbrev pub HasAddress : Arg → AirInst → Type 0
HasAddress address i = (k : ℕ) × (o : Operand) × (slice_get i.operands k ≡ Some o) × (o.arg ≡ address)

-- a foldable sum is carried by the access whose pointer it is, as its address
abbrev pub CarriesSums : Procedure → AirProc → Type 0
CarriesSums p q = (b j c m : ℕ) (v k : Value) → StandsAt p b j v → StandsAt p c m k
    → is_add k.kind.opcode ≡ true → is_foldable p k.id ≡ true → Contains v.children k.id
    → IsMade q b v (HasAddress (sum_address (tables p) v (known_in c k)))

-- a foldable comparison is carried by the value whose condition it is
abbrev pub CarriesComparisons : Procedure → AirProc → Type 0
CarriesComparisons p q = (b j c m : ℕ) (v k : Value) → StandsAt p b j v → StandsAt p c m k
    → is_comparison k.kind.opcode ≡ true → is_foldable p k.id ≡ true → Contains v.children k.id
    → IsMade q b v (TestsComparison p k)

-- and so is a foldable test of a bit, with the constant of the bit
abbrev pub CarriesBits : Procedure → AirProc → Type 0
CarriesBits p q = (b j c m d n : ℕ) (v k w : Value) (x : ℕ) → StandsAt p b j v → StandsAt p c m k
    → is_and k.kind.opcode ≡ true → is_foldable p k.id ≡ true → Contains v.children k.id
    → k.children ≡ x ∷ w.id ∷ [] → StandsAt p d n w → IsMade q b v (TestsBit p x (word_in w.body))

-- no instruction is made for a foldable value, and the instruction of its use carries it
pub record IsFolded (p : Procedure) (q : AirProc) : Type 0 where
  pub none : NoneIsMade p q
  pub constants : CarriesConstants p q
  pub stored : CarriesStored p q
  pub sums : CarriesSums p q
  pub comparisons : CarriesComparisons p q
  pub bits : CarriesBits p q
