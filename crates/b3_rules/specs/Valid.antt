-- When a module is valid: each part of each procedure keeps each rule.
use Rattle.std.specs.Prelude.{◌≡◌, ℕ, ◌<◌, true, List, length, Some, slice_get}
use Rattle.b3_ir.specs.Procedure.{Block, Procedure, StandsAt}
use Rattle.b3_ir.specs.Table.{is_terminal}
use Rattle.b3_ir.specs.declared.procedure.SlotLine.{SlotLine}
use Rattle.b3_ir.specs.declared.value.Value.{Value}
use Rattle.stackmap.specs.Rules.{FixesApart, HasRegisters, NamesConstraints, NamesRegisters}
use Rattle.b3_rules.specs.Rules.{AreCasesOf, CoversUses, HasNewId, HasNewName, HasSizes, IsArgumentAt, IsLast, IsSlotAt, IsTyped, KnowsBlocks, KnowsIds, KnowsSlot, OfStackmap, ReturnsAlike, SuitsPhi, first_type, types_of}
use Rattle.b3_rules.specs.declared.rule.Rule.{Rule}
use Rattle.b3_rules.specs.declared.rule.Rule.TheVariants as rule

-- the parts of a procedure that rules speak of, each at its place: its header, its slots, the headings of its
-- blocks, and its values
pub data Part : Type 0 where
  Header : Part
  SlotAt : (place : ℕ) (slot : SlotLine) → Part
  HeadingAt : (place : ℕ) (block : Block) → Part
  ValueAt : (block place : ℕ) (value : Value) → Part

abbrev pub IsPartOf : Procedure → Part → Type 0
IsPartOf p Header = Unit {0}
IsPartOf p (SlotAt place slot) = slice_get p.slots place ≡ Some slot
IsPartOf p (HeadingAt place block) = slice_get p.blocks place ≡ Some block
IsPartOf p (ValueAt block place value) = StandsAt p block place value

-- the line on which a part stands
abbrev pub line_of : Procedure → Part → ℕ
line_of p Header = p.line
line_of p (SlotAt place slot) = slot.line
line_of p (HeadingAt place block) = block.line
line_of p (ValueAt block place value) = value.line

-- a value keeps a rule on values
abbrev pub ValueKeeps : Rule → Procedure → ℕ → ℕ → Value → Type 0
ValueKeeps rule.Ids p b j v = HasNewId p b j v
ValueKeeps rule.Endings p b j v = IsLast p b j → is_terminal v.kind.opcode ≡ true
ValueKeeps rule.Terminals p b j v = is_terminal v.kind.opcode ≡ true → IsLast p b j
ValueKeeps rule.KnownIds p b j v = KnowsIds p v
ValueKeeps rule.Types p b j v = IsTyped p v
ValueKeeps rule.Phis p b j v = SuitsPhi p (types_of p v) v.body
ValueKeeps rule.KnownSlots p b j v = KnowsSlot p v.body
ValueKeeps rule.Successors p b j v = KnowsBlocks p v
ValueKeeps rule.Cases p b j v = AreCasesOf (first_type (types_of p v)) v.body
ValueKeeps rule.Returns p b j v = ReturnsAlike p v
ValueKeeps rule.Arguments p b j v = IsArgumentAt b v
ValueKeeps rule.Constraints p b j v = OfStackmap NamesConstraints v
ValueKeeps rule.Registers p b j v = OfStackmap NamesRegisters v
ValueKeeps rule.FixedRegisters p b j v = OfStackmap FixesApart v
ValueKeeps rule.RegisterDemand p b j v = OfStackmap HasRegisters v
ValueKeeps rule.Sizes p b j v = HasSizes v
ValueKeeps rule.Uses p b j v = CoversUses p b j v
ValueKeeps _ p b j v = Unit {0}

-- a header keeps the rule that there is a block, and a heading the ones on its number and that a value follows
abbrev pub HeaderKeeps : Rule → Procedure → Type 0
HeaderKeeps rule.Endings p = 0 < length p.blocks
HeaderKeeps _ p = Unit {0}

abbrev pub HeadingKeeps : Rule → ℕ → Block → Type 0
HeadingKeeps rule.Blocks place block = block.number ≡ place
HeadingKeeps rule.Endings place block = 0 < length block.values
HeadingKeeps _ place block = Unit {0}

abbrev pub SlotKeeps : Rule → ℕ → SlotLine → Type 0
SlotKeeps rule.Slots place slot = IsSlotAt place slot
SlotKeeps _ place slot = Unit {0}

-- a part of a procedure keeps a rule, other than that on names
abbrev pub Keeps : Rule → Procedure → Part → Type 0
Keeps r p Header = HeaderKeeps r p
Keeps r p (SlotAt place slot) = SlotKeeps r place slot
Keeps r p (HeadingAt place block) = HeadingKeeps r place block
Keeps r p (ValueAt block place value) = ValueKeeps r p block place value

-- a procedure by itself keeps all rules, which leaves that on names
abbrev pub IsValidProcedure : Procedure → Type 0
IsValidProcedure p = (r : Rule) (part : Part) → IsPartOf p part → Keeps r p part

-- the procedures of a valid module
pub record IsValid (ps : List Procedure) : Type 0 where
  pub names : (k : ℕ) (p : Procedure) → slice_get ps k ≡ Some p → HasNewName ps k p
  pub each : (k : ℕ) (p : Procedure) → slice_get ps k ≡ Some p → IsValidProcedure p
