-- The line of a value.
use Rattle.std.specs.Prelude.{ℕ, ℤ, ◌+◌, ◌==◌, if◌then◌else◌, List, [], ◌∷◌, length, take, drop, Option, Some, None, option_map, option_and_then, position, pos}
use Rattle.b3_base.specs.declared.word.Width.{Width}
use Rattle.b3_ir.specs.declared.opcode.Ty.{Ty}
use Rattle.b3_ir.specs.declared.opcode.Ty.TheVariants.{Void}
use Rattle.b3_ir.specs.declared.table.Carries.{Carries}
use Rattle.b3_ir.specs.declared.table.Carries.TheVariants as carries
use Rattle.b3_ir.specs.declared.value.Body.{Body}
use Rattle.b3_ir.specs.declared.value.Body.TheVariants as bodies
use Rattle.b3_ir.specs.declared.value.Constraint.{Constraint}
use Rattle.b3_ir.specs.declared.value.Constraint.TheVariants.{SomeRegister}
use Rattle.b3_ir.specs.declared.value.Reg.{Reg}
use Rattle.b3_ir.specs.declared.value.Stackmap.{Stackmap}
use Rattle.b3_ir.specs.declared.value.Value.{Value}
use Rattle.b3_ir.specs.Table.{row_of}
use Rattle.b3_lines.specs.Tokens.{tokens}
use Rattle.b3_rows.specs.declared.gathered.Gathered.{Gathered}
use Rattle.b3_rows.specs.declared.gathered.Lead.{Lead}
use Rattle.b3_rows.specs.declared.gathered.Lead.TheVariants.{NumberLead, RegisterLead, SlotLead}
use Rattle.b3_rows.specs.declared.values.Head.{Head}
use Rattle.b3_items.specs.Numbers.{word_of}
use Rattle.b3_items.specs.Table.{kind_of, type_of}
use Rattle.b3_items.specs.Items.{id_of, is_mark_of}
use Rattle.b3_rows.specs.Gathering.{items_in}

infixl 10 ◌>>=◌
abbrev pub ◌>>=◌ : {A B : Type 0} → Option A → (A → Option B) → Option B
o >>= f = option_and_then f o

-- ---- `TYPE ID = KIND`

unfoldable pub head_parts : List ℕ → List ℕ → List ℕ → Option Head
head_parts ty id kind = do
  t ← type_of ty
  i ← id_of id
  k ← kind_of kind
  Some (record { ty = t; id = i; kind = k })

unfoldable pub head_of : List (List ℕ) → Option Head
head_of (ty ∷ id ∷ mark ∷ kind ∷ []) = if is_mark_of 61 mark then head_parts ty id kind else None
head_of _ = None

-- ---- the body that items give

abbrev pub lead_word : Width → Lead → Option ℕ
lead_word width (NumberLead n) = word_of width n
lead_word width _ = None

abbrev pub lead_reg : Lead → Option Reg
lead_reg (RegisterLead r) = Some r
lead_reg _ = None

abbrev pub lead_slot : Lead → Option ℕ
lead_slot (SlotLead n) = Some n
lead_slot _ = None

abbrev pub or_else : {A : Type 0} → A → Option A → A
or_else default None = default
or_else default (Some x) = x

-- a place of the result where there is one
abbrev pub result_of : Ty → Option Constraint → Constraint
result_of Void c = SomeRegister
result_of _ c = or_else SomeRegister c

-- the constraints of the children behind those that the value computes with
unfoldable pub site_map : Ty → ℕ → Gathered → Stackmap
site_map ty skip g = record {
  constraints = drop skip g.constraints;
  result = result_of ty g.result_place;
  early = or_else 0 g.early;
  late = or_else 0 g.late;
  size = or_else 1 g.size;
}

unfoldable pub exit_map : ℕ → Gathered → Stackmap
exit_map skip g = record {
  constraints = drop skip g.constraints;
  result = SomeRegister;
  early = or_else 0 g.early;
  late = or_else 0 g.late;
  size = 1;
}

abbrev pub constant_body : Width → Lead → Option Body
constant_body width lead = option_map bodies.Constant (lead_word width lead)

abbrev pub argument_body : Lead → Option Body
argument_body lead = option_map bodies.Argument (lead_reg lead)

abbrev pub slot_body : Lead → Option Body
slot_body lead = option_map bodies.Slot (lead_slot lead)

abbrev pub target_body : Option ℕ → Option Body
target_body phi = option_map bodies.Target phi

abbrev pub offset_or_zero : Option ℤ → ℤ
offset_or_zero z = or_else (pos 0) z

abbrev pub cases_body : Option (List ℕ) → Option Body
cases_body words = option_map (λ (ws : List ℕ). bodies.Cases ws []) words

-- the body, without successors; the opcode computes with `skip` children
unfoldable pub body_of : Carries → Ty → ℕ → Gathered → Option Body
body_of carries.Nothing ty skip g = Some bodies.Plain
body_of (carries.Number width) ty skip g = constant_body width g.lead
body_of carries.Register ty skip g = argument_body g.lead
body_of carries.SlotNumber ty skip g = slot_body g.lead
body_of carries.Offset ty skip g = Some (bodies.Offset (offset_or_zero g.offset))
body_of carries.PhiId ty skip g = target_body g.phi
body_of carries.Site ty skip g = Some (bodies.Map (site_map ty skip g))
body_of carries.Exit ty skip g = Some (bodies.Map (exit_map skip g))
body_of carries.OneSuccessor ty skip g = Some (bodies.Targets [])
body_of carries.TwoSuccessors ty skip g = Some (bodies.Targets [])
body_of carries.CaseSuccessors ty skip g = cases_body g.cases

-- a value of line 0
abbrev pub value : Head → List ℕ → Body → Value
value h children body = record { id = h.id; ty = h.ty; kind = h.kind; children = children; body = body; line = 0 }

unfoldable pub built : Head → Gathered → Option Value
built h g =
    option_map (value h g.children)
    (body_of (row_of h.kind.opcode).carries h.ty (length (row_of h.kind.opcode).takes) g)

-- ---- the line

-- the first `(`, 40
unfoldable pub open_in : List ℕ → Option ℕ
open_in text = position (λ b. b == 40) text

-- what stands before `)`, 41, at the end
unfoldable pub inner_of : List ℕ → Option (List ℕ)
inner_of [] = None
inner_of (b ∷ []) = if b == 41 then Some [] else None
inner_of (b ∷ c ∷ bytes) = option_map (λ (rest : List ℕ). b ∷ rest) (inner_of (c ∷ bytes))

abbrev pub value_at : List ℕ → ℕ → Option Value
value_at text at = do
  h ← head_of (tokens (take at text))
  inner ← inner_of (drop (at + 1) text)
  g ← items_in (row_of h.kind.opcode).carries inner
  built h g

-- `TYPE ID = KIND(ITEMS)`, without blanks at its end
unfoldable pub value_of : List ℕ → Option Value
value_of text = open_in text >>= value_at text
