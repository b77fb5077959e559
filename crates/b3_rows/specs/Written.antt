-- The canonical line of a row.
use Rattle.std.specs.Prelude.{ℕ, zero, suc, ◌+◌, Bool, true, false, ◌==◌, if◌then◌else◌, List, [], ◌∷◌, ◌++◌, length, map, codes, ℤ, pos, negsuc}
use Rattle.std.specs.Fmt.{decimal, signed_decimal}
use Rattle.std.specs.Int.{w32, w64, cast_signed, bit_at}
use Rattle.b3_base.specs.declared.word.Width.{Width}
use Rattle.b3_base.specs.declared.word.Width.TheVariants.{W32, W64}
use Rattle.b3_ir.specs.declared.opcode.Kind.{Kind}
use Rattle.b3_ir.specs.declared.table.Carries.{Carries}
use Rattle.b3_ir.specs.declared.table.Carries.TheVariants as carries
use Rattle.b3_ir.specs.declared.value.Body.{Body}
use Rattle.b3_ir.specs.declared.value.Body.TheVariants.{Constant, Argument, Slot, Offset, Target, Map, Cases}
use Rattle.b3_ir.specs.declared.value.Constraint.{Constraint}
use Rattle.b3_ir.specs.declared.value.Constraint.TheVariants.{SomeRegister, Fixed, LateFixed}
use Rattle.b3_ir.specs.declared.value.Stackmap.{Stackmap}
use Rattle.b3_ir.specs.declared.value.Value.{Value}
use Rattle.b3_ir.specs.Table.{row_of}
use Rattle.b3_rows.specs.declared.row.Row.{Row}
use Rattle.b3_rows.specs.declared.row.Row.TheVariants as rows
use Rattle.b3_items.specs.Table.{type_text}
use Rattle.b3_items.specs.Items.{constraint_name}

-- texts with a comma and a blank between them
abbrev pub joined : List (List ℕ) → List ℕ
joined [] = []
joined (text ∷ []) = text
joined (text ∷ next ∷ more) = text ++ (44 ∷ 32 ∷ joined (next ∷ more))

abbrev pub in_brackets : List (List ℕ) → List ℕ
in_brackets texts = 91 ∷ (joined texts ++ (93 ∷ []))

-- ---- numbers, registers and constraints

-- the signed value of a word
abbrev pub word_text : Width → ℕ → List ℕ
word_text W32 word = signed_decimal (cast_signed w32 word)
word_text W64 word = signed_decimal (cast_signed w64 word)

abbrev pub reg_text : ℕ → List ℕ
reg_text n = codes "%x" ++ decimal n

-- the members of a set among `left` registers from x r on, in rising order
unfoldable pub members_from : ℕ → ℕ → ℕ → List ℕ
members_from set r zero = []
members_from set r (suc left) =
    if bit_at set r == 1 then r ∷ members_from set (r + 1) left else members_from set (r + 1) left

abbrev pub set_text : ℕ → List ℕ
set_text set = in_brackets (map reg_text (members_from set 0 31))

abbrev pub constraint_text : Constraint → List ℕ
constraint_text (Fixed r) = reg_text r.0
constraint_text (LateFixed r) = codes "late:" ++ reg_text r.0
constraint_text c = constraint_name c

-- ---- items

-- the item that leads
abbrev pub lead_texts : Carries → Body → List (List ℕ)
lead_texts (carries.Number width) (Constant word) = word_text width word ∷ []
lead_texts c (Argument r) = reg_text r.0 ∷ []
lead_texts c (Slot number) = (codes "stack" ++ decimal number) ∷ []
lead_texts c body = []

abbrev pub child_text : ℕ → List ℕ
child_text id = codes "b@" ++ decimal id

-- the children, those behind the first `skip` with their constraints
abbrev pub child_texts : ℕ → List ℕ → List Constraint → List (List ℕ)
child_texts skip [] cs = []
child_texts zero (id ∷ ids) [] = child_text id ∷ child_texts zero ids []
child_texts zero (id ∷ ids) (c ∷ cs) = (child_text id ++ (58 ∷ constraint_text c)) ∷ child_texts zero ids cs
child_texts (suc skip) (id ∷ ids) cs = child_text id ∷ child_texts skip ids cs

abbrev pub constraints_of : Body → List Constraint
constraints_of (Map map) = map.constraints
constraints_of body = []

abbrev pub is_zero : ℤ → Bool
is_zero (pos n) = n == 0
is_zero (negsuc n) = false

abbrev pub is_some_register : Constraint → Bool
is_some_register SomeRegister = true
is_some_register c = false

-- a named item, which is left out at its default
abbrev pub named_text : Bool → List ℕ → List ℕ → List (List ℕ)
named_text true name text = []
named_text false name text = (name ++ (codes " = " ++ text)) ∷ []

abbrev pub map_texts : Stackmap → List (List ℕ)
map_texts m =
    named_text (is_some_register m.result) (codes "resultConstraint") (constraint_text m.result)
    ++ (named_text (m.size == 1) (codes "size") (decimal m.size)
    ++ (named_text (m.early == 0) (codes "earlyClobbered") (set_text m.early)
    ++ named_text (m.late == 0) (codes "lateClobbered") (set_text m.late)))

abbrev pub phi_text : ℕ → List ℕ
phi_text phi = codes "^" ++ decimal phi

abbrev pub offset_texts : ℤ → List (List ℕ)
offset_texts bytes = named_text (is_zero bytes) (codes "offset") (signed_decimal bytes)

abbrev pub cases_texts : List ℕ → List (List ℕ)
cases_texts words = named_text false (codes "cases") (in_brackets (map (word_text W64) words))

-- what stands behind the children
abbrev pub last_texts : Body → List (List ℕ)
last_texts (Target phi) = phi_text phi ∷ []
last_texts (Offset bytes) = offset_texts bytes
last_texts (Cases words targets) = cases_texts words
last_texts (Map m) = map_texts m
last_texts body = []

-- all items of a value, in order
abbrev pub item_texts : Value → List (List ℕ)
item_texts v =
    lead_texts (row_of v.kind.opcode).carries v.body
    ++ (child_texts (length (row_of v.kind.opcode).takes) v.children (constraints_of v.body) ++ last_texts v.body)

-- ---- lines

abbrev pub chosen_flag : Kind → List ℕ
chosen_flag k = if k.chill then codes "<Chill>" else (if k.traps then codes "<Traps>" else [])

abbrev pub kind_text : Kind → List ℕ
kind_text k = (row_of k.opcode).name ++ chosen_flag k

-- a value without its successors
abbrev pub value_text : Value → List ℕ
value_text v =
    type_text v.ty ++ (codes " b@" ++ (decimal v.id ++ (codes " = "
    ++ (kind_text v.kind ++ (codes "(" ++ (joined (item_texts v) ++ codes ")"))))))

abbrev pub target_text : ℕ → List ℕ
target_text number = codes "#" ++ decimal number

-- the fall-through is the last
abbrev pub target_texts : List ℕ → List (List ℕ)
target_texts [] = []
target_texts (number ∷ []) = (codes "fallThrough:" ++ target_text number) ∷ []
target_texts (number ∷ next ∷ more) = target_text number ∷ target_texts (next ∷ more)

-- a line without the LF at its end
abbrev pub line_of_row : Row → List ℕ
line_of_row rows.Blank = []
line_of_row (rows.Header name) = codes "procedure " ++ name
line_of_row (rows.Slot number bytes) = codes "    stack" ++ (decimal number ++ (codes ": byteSize = " ++ decimal bytes))
line_of_row (rows.Heading number) = codes "BB#" ++ (decimal number ++ codes ":")
line_of_row (rows.ValueRow v) = codes "    " ++ value_text v
line_of_row rows.NoSuccessors = codes "  Successors:"
line_of_row (rows.One number) = codes "  Successors: " ++ target_text number
line_of_row (rows.Two a b) = codes "  Successors: Then:" ++ (target_text a ++ (codes ", Else:" ++ target_text b))
line_of_row (rows.Many targets) = codes "  Successors: " ++ joined (target_texts targets)
line_of_row rows.Bad = []
