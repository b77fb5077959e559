-- The canonical text of a module.
use Rattle.std.specs.Prelude.{◌≡◌, ℕ, ◌+◌, ◌≤◌, List, [], ◌∷◌, ◌++◌, length, map, Some}
use Rattle.std.specs.List.{flat_map}
use Rattle.b3_ir.specs.declared.value.Body.{Body}
use Rattle.b3_ir.specs.declared.value.Body.TheVariants.{Targets, Cases}
use Rattle.b3_ir.specs.declared.value.Value.{Value}
use Rattle.b3_ir.specs.declared.procedure.SlotLine.{SlotLine}
use Rattle.b3_ir.specs.Procedure.{Block, Procedure}
use Rattle.b3_rows.specs.declared.row.Row.{Row}
use Rattle.b3_rows.specs.declared.row.Row.TheVariants as rows
use Rattle.b3_module.specs.declared.place.Following.{Following}
use Rattle.b3_module.specs.declared.place.Following.TheVariants.{Nothing, Bare, One, Two, Many}
use Rattle.b3_module.specs.Texts.{following, spelled}

-- a value as its own line says it: its successors stand on the next
abbrev pub bare_body : Body → Body
bare_body (Targets targets) = Targets []
bare_body (Cases cases targets) = Cases cases []
bare_body body = body

abbrev pub bare : Value → Value
bare v = record v { line = 0; body = bare_body v.body }

-- the row of successors, where there are some
abbrev pub row_of_targets : List ℕ → List Row
row_of_targets (target ∷ []) = rows.One target ∷ []
row_of_targets (then_block ∷ else_block ∷ []) = rows.Two then_block else_block ∷ []
row_of_targets _ = []

abbrev pub successors_of : Body → List Row
successors_of (Targets targets) = row_of_targets targets
successors_of (Cases cases targets) = rows.Many targets ∷ []
successors_of _ = []

abbrev pub rows_of_value : Value → List Row
rows_of_value v = rows.ValueRow (bare v) ∷ successors_of v.body

abbrev pub rows_of_block : Block → List Row
rows_of_block b = rows.Heading b.number ∷ flat_map rows_of_value b.values

abbrev pub row_of_slot : SlotLine → Row
row_of_slot s = rows.Slot s.number s.bytes

abbrev pub rows_of_procedure : Procedure → List Row
rows_of_procedure p = rows.Header p.name ∷ (map row_of_slot p.slots ++ flat_map rows_of_block p.blocks)

-- the rows of a module
abbrev pub canonical_rows : List Procedure → List Row
canonical_rows m = flat_map rows_of_procedure m

-- ---- the module with the lines of its canonical text

abbrev pub lined_slots : ℕ → List SlotLine → List SlotLine
lined_slots line [] = []
lined_slots line (s ∷ slots) = record s { line = line } ∷ lined_slots (line + 1) slots

abbrev pub lined_values : ℕ → List Value → List Value
lined_values line [] = []
lined_values line (v ∷ values) = record v { line = line } ∷ lined_values (line + length (rows_of_value v)) values

abbrev pub lined_blocks : ℕ → List Block → List Block
lined_blocks line [] = []
lined_blocks line (b ∷ blocks) = record b { line = line; values = lined_values (line + 1) b.values }
    ∷ lined_blocks (line + length (rows_of_block b)) blocks

abbrev pub lined_procedure : ℕ → Procedure → Procedure
lined_procedure line p = record p {
  line = line;
  slots = lined_slots (line + 1) p.slots;
  blocks = lined_blocks (line + 1 + length p.slots) p.blocks;
}

-- each part on its line of the canonical text, the first header on this one
abbrev pub lined : ℕ → List Procedure → List Procedure
lined line [] = []
lined line (p ∷ m) = lined_procedure line p ∷ lined (line + length (rows_of_procedure p)) m

-- ---- modules that have a canonical text

-- a body is as its opcode asks: it has one successor, two, or one more than cases, or none
abbrev pub Matches : Following → Body → Type 0
Matches Nothing body = (bare_body body ≡ body) × (successors_of body ≡ [])
Matches Bare body = (bare_body body ≡ body) × (successors_of body ≡ [])
Matches One (Targets (target ∷ [])) = Unit {0}
Matches One body = ⊥
Matches Two (Targets (then_block ∷ else_block ∷ [])) = Unit {0}
Matches Two body = ⊥
Matches Many (Cases cases targets) = length targets ≡ length cases + 1
Matches Many body = ⊥

abbrev pub AreMatched : List Value → Type 0
AreMatched [] = Unit {0}
AreMatched (v ∷ values) = Matches (following v.kind.opcode) v.body × AreMatched values

abbrev pub AreBlocksMatched : List Block → Type 0
AreBlocksMatched [] = Unit {0}
AreBlocksMatched (b ∷ blocks) = AreMatched b.values × AreBlocksMatched blocks

-- each procedure has a block, and each value the successors that its opcode asks for
abbrev pub AreRowed : List Procedure → Type 0
AreRowed [] = Unit {0}
AreRowed (p ∷ m) = (1 ≤ length p.blocks) × AreBlocksMatched p.blocks × AreRowed m

-- the rows of a module of one procedure or more spell it, with the lines of these rows
abbrev pub RowsSpell : Type 0
RowsSpell = (m : List Procedure) → 1 ≤ length m → AreRowed m → spelled (canonical_rows m) ≡ Some (lined 1 m)
