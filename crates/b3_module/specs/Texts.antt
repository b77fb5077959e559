-- Which bytes are the text of a module, and which line of other bytes is bad. A module is one procedure
-- or more; a procedure is a header, slot lines, and one block or more; a block is a heading and value
-- lines. A Jump, a Branch and a Switch are followed by the line of their successors, and a bare line of
-- successors may follow a Return or an Oops. A line that carries nothing may stand anywhere.
use Rattle.std.specs.Prelude.{◌≡◌, ℕ, ◌+◌, ◌-◌, ◌≤◌, ◌⊎◌, ◌==◌, if◌then◌else◌, List, [], ◌∷◌, ◌++◌, length, map, take, Option, Some, None}
use Rattle.b3_ir.specs.declared.opcode.Opcode.{Opcode}
use Rattle.b3_ir.specs.declared.opcode.Opcode.TheVariants as op
use Rattle.b3_ir.specs.declared.value.Body.{Body}
use Rattle.b3_ir.specs.declared.value.Body.TheVariants as bodies
use Rattle.b3_ir.specs.declared.value.Value.{Value}
use Rattle.b3_ir.specs.Procedure.{Block, Procedure, empty_block, empty_procedure}
use Rattle.b3_lines.specs.Lines.{lines_of}
use Rattle.b3_rows.specs.declared.row.Row.{Row}
use Rattle.b3_rows.specs.declared.row.Row.TheVariants as rows
use Rattle.b3_rows.specs.Rows.{row_of_line}
use Rattle.b3_module.specs.declared.place.Following.{Following}
use Rattle.b3_module.specs.declared.place.Following.TheVariants.{Nothing, Bare, One, Two, Many}
use Rattle.b3_module.specs.declared.place.Place.{Place}
use Rattle.b3_module.specs.declared.place.Place.TheVariants as places

-- ---- what a row adds

-- a list with a change of its last item
abbrev pub with_last : {A : Type 0} → (A → A) → List A → List A
with_last f [] = []
with_last f (x ∷ []) = f x ∷ []
with_last f (x ∷ y ∷ xs) = x ∷ with_last f (y ∷ xs)

-- a procedure with one more slot, with one more block, which has no value yet, and with one more value
-- in its last block
abbrev pub with_slot : ℕ → ℕ → ℕ → Procedure → Procedure
with_slot number bytes line p = record p { slots = p.slots ++ record { number = number; bytes = bytes; line = line } ∷ [] }

abbrev pub with_heading : ℕ → ℕ → Procedure → Procedure
with_heading number line p = record p { blocks = p.blocks ++ empty_block number line ∷ [] }

abbrev pub with_value : Value → Procedure → Procedure
with_value v p = record p { blocks = with_last (λ (b : Block). record b { values = b.values ++ v ∷ [] }) p.blocks }

-- a value with its successors
abbrev pub targets_in : Body → List ℕ → Body
targets_in (bodies.Cases cases _) targets = bodies.Cases cases targets
targets_in _ targets = bodies.Targets targets

abbrev pub with_targets : Value → List ℕ → Value
with_targets v targets = record v { body = targets_in v.body targets }

-- how many cases a value has
abbrev pub cases_in : Body → ℕ
cases_in (bodies.Cases cases targets) = length cases
cases_in _ = 0

-- what follows the line of a value of this opcode: nothing, a bare line of successors or nothing, or
-- the line of one successor, of two, or of one more than cases
abbrev pub following : Opcode → Following
following op.Jump = One
following op.Branch = Two
following op.Switch = Many
following op.Return = Bare
following op.Oops = Bare
following _ = Nothing

-- the procedures of which lines were read, and what may come next
pub record State : Type 0 where
  pub procedures : List Procedure
  pub place : Place

abbrev pub at : Place → List Procedure → State
at place ps = record { procedures = ps; place = place }

-- a value in the last block, and what comes next then
abbrev pub added_value : List Procedure → Value → State
added_value ps v = at places.Values (with_last (with_value v) ps)

abbrev pub after_value : Following → List Procedure → Value → State
after_value Nothing ps v = at places.Values (with_last (with_value v) ps)
after_value Bare ps v = at places.Returned (with_last (with_value v) ps)
after_value One ps v = at (places.Jump v) ps
after_value Two ps v = at (places.Branch v) ps
after_value Many ps v = at (places.Switch v) ps

-- the row on a line where the header of the first procedure comes
abbrev pub opened : List Procedure → ℕ → Row → Option State
opened ps line (rows.Header name) = Some (at places.Slots (ps ++ empty_procedure name line ∷ []))
opened ps line _ = None

-- where a slot or the heading of the first block comes
abbrev pub slotted : List Procedure → ℕ → Row → Option State
slotted ps line (rows.Slot number bytes) = Some (at places.Slots (with_last (with_slot number bytes line) ps))
slotted ps line (rows.Heading number) = Some (at places.Values (with_last (with_heading number line) ps))
slotted ps line _ = None

-- where a value, the heading of one more block, or the header of one more procedure comes
abbrev pub valued : List Procedure → ℕ → Row → Option State
valued ps line (rows.ValueRow v) = Some (after_value (following v.kind.opcode) ps (record v { line = line }))
valued ps line (rows.Heading number) = Some (at places.Values (with_last (with_heading number line) ps))
valued ps line (rows.Header name) = Some (at places.Slots (ps ++ empty_procedure name line ∷ []))
valued ps line _ = None

-- where a bare line of successors may come too
abbrev pub returned : List Procedure → ℕ → Row → Option State
returned ps line rows.NoSuccessors = Some (at places.Values ps)
returned ps line row = valued ps line row

-- where the successors of a Jump come, of a Branch, and of a Switch
abbrev pub jumped : Value → List Procedure → Row → Option State
jumped v ps (rows.One target) = Some (added_value ps (with_targets v (target ∷ [])))
jumped v ps _ = None

abbrev pub branched : Value → List Procedure → Row → Option State
branched v ps (rows.Two then_block else_block) = Some (added_value ps (with_targets v (then_block ∷ else_block ∷ [])))
branched v ps _ = None

abbrev pub switched : Value → List Procedure → Row → Option State
switched v ps (rows.Many targets) = if length targets == cases_in v.body + 1
    then Some (added_value ps (with_targets v targets)) else None
switched v ps _ = None

abbrev pub placed : Place → List Procedure → ℕ → Row → Option State
placed places.Outside ps line row = opened ps line row
placed places.Slots ps line row = slotted ps line row
placed places.Values ps line row = valued ps line row
placed places.Returned ps line row = returned ps line row
placed (places.Jump v) ps line row = jumped v ps row
placed (places.Branch v) ps line row = branched v ps row
placed (places.Switch v) ps line row = switched v ps row

-- what the row on a line adds, or None where it may not come
abbrev pub added : State → ℕ → Row → Option State
added s line rows.Blank = Some s
added s line row = placed s.place s.procedures line row

-- ---- whole texts

abbrev pub added_to : Option State → ℕ → Row → Option State
added_to None line row = None
added_to (Some s) line row = added s line row

-- what rows lead to, the first of them on this line
abbrev pub led : Option State → ℕ → List Row → Option State
led s line [] = s
led s line (row ∷ more) = led (added_to s line row) (line + 1) more

abbrev pub first : State
first = at places.Outside []

-- the procedures, where the text may end
abbrev pub ended_at : Place → List Procedure → Option (List Procedure)
ended_at places.Values ps = Some ps
ended_at places.Returned ps = Some ps
ended_at _ ps = None

abbrev pub ended : Option State → Option (List Procedure)
ended None = None
ended (Some s) = ended_at s.place s.procedures

-- the module that rows spell, each on its line
abbrev pub spelled : List Row → Option (List Procedure)
spelled text = ended (led (Some first) 1 text)

abbrev pub rows_of : List ℕ → List Row
rows_of bytes = map row_of_line (lines_of bytes)

-- the bytes are the text of this module
abbrev pub Spells : List ℕ → List Procedure → Type 0
Spells bytes m = spelled (rows_of bytes) ≡ Some m

-- ---- the bad line

-- lines are the text of some module, or they begin one
abbrev pub IsText : List (List ℕ) → Type 0
IsText lines = (m : List Procedure) × (spelled (map row_of_line lines) ≡ Some m)

abbrev pub BeginsText : List (List ℕ) → Type 0
BeginsText lines = (more : List (List ℕ)) × IsText (lines ++ more)

-- the bad line, counted from 1: the least with which lines no longer begin a text, or one more than the
-- number of lines where all of them begin a text but are none
pub record IsBadLine (lines : List (List ℕ)) (line : ℕ) : Type 0 where
  pub counted : 1 ≤ line
  pub before : BeginsText (take (line - 1) lines)
  pub here : ((line ≤ length lines) × ¬ (BeginsText (take line lines))) ⊎ ((line ≡ length lines + 1) × ¬ (IsText lines))

abbrev pub BadLine : List ℕ → ℕ → Type 0
BadLine bytes line = IsBadLine (lines_of bytes) line
