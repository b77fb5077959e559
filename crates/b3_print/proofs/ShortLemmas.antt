-- How long canonical text is.
use Rattle.std.proofs.Common.{◌≡◌, ℕ, ◌+◌, ◌*◌, ◌≤◌, List, [], ◌∷◌, ◌++◌, length, map, arith}
use Rattle.std.specs.Prelude.{All, sum_by}
use Rattle.std.specs.List.{AllByRecursion, flat_map}
use Rattle.std.proofs.Math.ListN.{length-append}
use Rattle.std.proofs.lemmas.List.Elements.{recursion_from_All}
use Rattle.std.proofs.lemmas.List.Sums.{sum_by-append, sum_by-cons}
use Rattle.b3_ir.specs.declared.procedure.SlotLine.{SlotLine}
use Rattle.b3_ir.specs.declared.value.Body.{Body}
use Rattle.b3_ir.specs.declared.value.Body.TheVariants as bodies
use Rattle.b3_ir.specs.declared.value.Value.{Value}
use Rattle.b3_ir.specs.Procedure.{Block, Procedure, total}
use Rattle.b3_rows.specs.Ranges.{IsGoodRow}
use Rattle.b3_rows.specs.Successors.{case_count}
use Rattle.b3_rows.specs.Written.{line_of_row}
use Rattle.b3_rows.specs.declared.row.Row.{Row}
use Rattle.b3_rows.specs.declared.row.Row.TheVariants as rows
use Rattle.b3_written.specs.Lengths.{most_bytes}
use Rattle.b3_module.specs.Canonical.{bare, bare_body, canonical_rows, row_of_slot, rows_of_block, rows_of_procedure, rows_of_value, successors_of}
use Rattle.b3_module.specs.Limits.{cases_of, operands}
use Rattle.b3_module.specs.TextModules.{IsTextBlock, IsTextModule, IsTextProcedure, IsTextValue, targets_of}
use Rattle.b3_print.specs.Printed.{canonical, line_text, text_of}

abbrev pub AreShort : Type 0
AreShort = (row : Row) → IsGoodRow row → length (line_of_row row) ≤ most_bytes row

-- a line with the LF behind it
room : Row → ℕ
room row = most_bytes row + 1

text_length : AreShort → (text : List Row) → AllByRecursion IsGoodRow text → length (text_of text) ≤ sum_by room text
unfolding room
text_length short [] good = omega arith
text_length short (row ∷ text) good =
    omega (
      arith,
      length-append (line_text row) (text_of text),
      length-append (line_of_row row) (10 ∷ []),
      short row good.0,
      sum_by-cons room row text,
      text_length short text good.1,
    )

-- ---- values

-- a value of a text has at most two successors more than cases
abbrev pub HasFewSuccessors : Value → Type 0
HasFewSuccessors v = length (targets_of v.body) ≤ cases_of v.body + 2

abbrev pub HaveFewSuccessors : Type 0
HaveFewSuccessors = (v : Value) → IsTextValue v → HasFewSuccessors v

-- cases and successors
successors_room : (body : Body) → length (targets_of body) ≤ cases_of body + 2
    → 22 * case_count (bare_body body) + sum_by room (successors_of body) ≤ 53 + 38 * cases_of body
unfolding room
successors_room bodies.Plain h = omega arith
successors_room (bodies.Constant word) h = omega arith
successors_room (bodies.Argument r) h = omega arith
successors_room (bodies.Slot number) h = omega arith
successors_room (bodies.Offset bytes) h = omega arith
successors_room (bodies.Target phi) h = omega arith
successors_room (bodies.Map m) h = omega arith
successors_room (bodies.Targets []) h = omega arith
successors_room (bodies.Targets (target ∷ [])) h = omega arith
successors_room (bodies.Targets (then_block ∷ else_block ∷ [])) h = omega arith
successors_room (bodies.Targets (a ∷ b ∷ c ∷ more)) h = omega arith
successors_room (bodies.Cases words targets) h = omega arith

value_room : HaveFewSuccessors → (v : Value) → IsTextValue v → sum_by room (rows_of_value v) ≤ 576 + 38 * operands v
value_room few v h =
    let first : room (rows.ValueRow (bare v)) ≡ 523 + 38 * length v.children + 22 * case_count (bare_body v.body) = unfold room in omega arith in
    omega (arith, sum_by-cons room (rows.ValueRow (bare v)) (successors_of v.body), successors_room v.body (few v h))

values_room : HaveFewSuccessors → (vs : List Value) → AllByRecursion IsTextValue vs → sum_by room (flat_map rows_of_value vs) ≤ 576 * length vs + 38 * sum_by operands vs
values_room few [] h = omega arith
values_room few (v ∷ vs) h =
    omega (
      arith,
      sum_by-append room (rows_of_value v) (flat_map rows_of_value vs),
      sum_by-cons operands v vs,
      value_room few v h.0,
      values_room few vs h.1,
    )

-- ---- blocks

abbrev block_values : Block → ℕ
block_values b = length b.values

abbrev block_operands : Block → ℕ
block_operands b = sum_by operands b.values

block_room : HaveFewSuccessors → (b : Block) → IsTextBlock b → sum_by room (rows_of_block b) ≤ 15 + 576 * block_values b + 38 * block_operands b
block_room few b h =
    let first : room (rows.Heading b.number) ≡ 15 = unfold room in omega arith in
    omega (arith, sum_by-cons room (rows.Heading b.number) (flat_map rows_of_value b.values), values_room few b.values h.values)

blocks_room : HaveFewSuccessors → (bs : List Block) → AllByRecursion IsTextBlock bs
    → sum_by room (flat_map rows_of_block bs) ≤ 15 * length bs + 576 * sum_by block_values bs + 38 * sum_by block_operands bs
blocks_room few [] h = omega arith
blocks_room few (b ∷ bs) h =
    omega (
      arith,
      sum_by-append room (rows_of_block b) (flat_map rows_of_block bs),
      sum_by-cons block_values b bs,
      sum_by-cons block_operands b bs,
      block_room few b h.0,
      blocks_room few bs h.1,
    )

-- ---- procedures

slots_room : (slots : List SlotLine) → sum_by room (map row_of_slot slots) ≤ 43 * length slots
slots_room [] = omega arith
slots_room (s ∷ slots) =
    let first : room (row_of_slot s) ≡ 43 = unfold room in omega arith in
    omega (arith, sum_by-cons room (row_of_slot s) (map row_of_slot slots), slots_room slots)

abbrev all_operands : Procedure → ℕ
all_operands p = sum_by block_operands p.blocks

procedure_room : HaveFewSuccessors → (p : Procedure) → IsTextProcedure p → length p.slots ≤ 4096 → length p.blocks ≤ 4096
    → sum_by room (rows_of_procedure p) ≤ 237834 + 576 * total p + 38 * all_operands p
procedure_room few p h slots blocks =
    let first : room (rows.Header p.name) ≡ 266 = unfold room in omega arith in
    omega (
      arith,
      sum_by-cons room (rows.Header p.name) (map row_of_slot p.slots ++ flat_map rows_of_block p.blocks),
      sum_by-append room (map row_of_slot p.slots) (flat_map rows_of_block p.blocks),
      slots_room p.slots,
      blocks_room few p.blocks h.begun.blocks,
    )

abbrev HasFewSlots : Procedure → Type 0
HasFewSlots p = length p.slots ≤ 4096

abbrev HasFewBlocks : Procedure → Type 0
HasFewBlocks p = length p.blocks ≤ 4096

module_room : HaveFewSuccessors → (m : List Procedure) → AllByRecursion IsTextProcedure m → AllByRecursion HasFewSlots m → AllByRecursion HasFewBlocks m
    → sum_by room (canonical_rows m) ≤ 237834 * length m + 576 * sum_by total m + 38 * sum_by all_operands m
module_room few [] h slots blocks = omega arith
module_room few (p ∷ m) h slots blocks =
    omega (
      arith,
      sum_by-append room (rows_of_procedure p) (canonical_rows m),
      sum_by-cons total p m,
      sum_by-cons all_operands p m,
      procedure_room few p h.0 slots.0 blocks.0,
      module_room few m h.1 slots.1 blocks.1,
    )

-- ---- whole modules

-- what the limits say of a module
pub record HasFew (m : List Procedure) : Type 0 where
  pub procedures : length m ≤ 256
  pub values : sum_by total m ≤ 65536
  pub operands : sum_by (λ (p : Procedure). sum_by (λ (b : Block). sum_by operands b.values) p.blocks) m ≤ 262144
  pub slots : All (λ (p : Procedure). length p.slots ≤ 4096) m
  pub blocks : All (λ (p : Procedure). length p.blocks ≤ 4096) m

pub canonical_length : AreShort → HaveFewSuccessors → (m : List Procedure) → IsTextModule m → AllByRecursion IsGoodRow (canonical_rows m) → HasFew m
    → length (canonical m) ≤ 108_595_712
canonical_length short successors m h good few =
    omega (
      arith,
      text_length short (canonical_rows m) good,
      module_room successors m h.procedures (recursion_from_All HasFewSlots m few.slots) (recursion_from_All HasFewBlocks m few.blocks),
    )
