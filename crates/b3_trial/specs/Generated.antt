-- The text of the large module that is made from a number: 16 procedures of 517 values, of which 500 are arithmetic
-- that is drawn by a linear congruence.
use Rattle.std.specs.Prelude.{ℕ, zero, suc, ◌+◌, ◌-◌, ◌*◌, ◌/◌, ◌%◌, ◌^◌, false, nat_lt, if◌then◌else◌, List, [], ◌∷◌, ◌++◌, codes}
use Rattle.std.specs.List.{flat_map}
use Rattle.std.specs.Fmt.{decimal}
use Rattle.b3_ir.specs.declared.opcode.Opcode.{Opcode}
use Rattle.b3_ir.specs.declared.opcode.Opcode.TheVariants as op
use Rattle.b3_ir.specs.declared.opcode.Ty.{Ty}
use Rattle.b3_ir.specs.declared.opcode.Ty.TheVariants.{Int32, Int64, Void}
use Rattle.b3_ir.specs.declared.value.Body.{Body}
use Rattle.b3_ir.specs.declared.value.Body.TheVariants.{Plain, Constant, Argument, Target}
use Rattle.b3_rows.specs.declared.row.Row.{Row}
use Rattle.b3_rows.specs.declared.row.Row.TheVariants.{Header, Heading, ValueRow, One, Two}
use Rattle.b3_rows.specs.Written.{line_of_row}

-- ---- what is drawn

-- the state behind a draw, and what it gives
abbrev pub next_state : ℕ → ℕ
next_state state = (state * 6364136223846793005 + 1442695040888963407) % 2 ^ 64

abbrev pub drawn : ℕ → ℕ
drawn state = next_state state / 2 ^ 33

-- the state behind so many draws
unfoldable pub state_behind : ℕ → ℕ → ℕ
state_behind zero state = state
state_behind (suc draws) state = state_behind draws (next_state state)

-- ---- values

abbrev pub value_row : Ty → ℕ → Opcode → List ℕ → Body → Row
value_row ty id opcode children body = ValueRow (record {
  id = id;
  ty = ty;
  kind = record { opcode = opcode; chill = false; traps = false };
  children = children;
  body = body;
  line = 0;
})

abbrev pub opcode_of : ℕ → Opcode
opcode_of zero = op.Add
opcode_of (suc zero) = op.Sub
opcode_of (suc (suc zero)) = op.Mul
opcode_of (suc (suc (suc zero))) = op.BitAnd
opcode_of (suc (suc (suc (suc zero)))) = op.BitOr
opcode_of _ = op.BitXor

-- a value of type Int64 that stands before value k: all but the two of type Void at the end of block 0
abbrev pub child_before : ℕ → ℕ → ℕ
child_before k draw = if nat_lt (draw % (k - 2)) 10 then draw % (k - 2) else draw % (k - 2) + 2

-- three draws: the opcode, and the children
abbrev pub operation : ℕ → ℕ → Row
operation state k =
    value_row Int64 k (opcode_of (drawn state % 6))
    (child_before k (drawn (next_state state)) ∷ child_before k (drawn (next_state (next_state state))) ∷ []) Plain

unfoldable pub operations : ℕ → ℕ → ℕ → List Row
operations zero state k = []
operations (suc count) state k = operation state k ∷ operations count (state_behind 3 state) (k + 1)

-- ---- procedures

abbrev pub argument_row : ℕ → Row
argument_row r = value_row Int64 r op.ArgumentReg [] (Argument (record { 0 = r }))

-- so many arguments from x r on
unfoldable pub arguments : ℕ → ℕ → List Row
arguments zero r = []
arguments (suc count) r = argument_row r ∷ arguments count (r + 1)

abbrev pub constants : ℕ → List Row
constants constant =
    value_row Int64 8 op.Const64 [] (Constant 1) ∷ value_row Int64 9 op.Const64 [] (Constant constant) ∷ []

abbrev pub entry_end : List Row
entry_end = value_row Void 10 op.Upsilon (0 ∷ []) (Target 12) ∷ value_row Void 11 op.Jump [] Plain ∷ One 1 ∷ []

-- the header and block 0: the eight arguments, 1, a draw, and the first value of the Phi
unfoldable pub entry : ℕ → ℕ → List Row
entry p constant =
    (Header (codes "g" ++ decimal p) ∷ Heading 0 ∷ []) ++ (arguments 8 0 ++ (constants constant ++ entry_end))

-- block 1, a loop, but for its arithmetic; block 2 returns
abbrev pub loop_front : List Row
loop_front = Heading 1 ∷ value_row Int64 12 op.Phi [] Plain ∷ []

abbrev pub loop_back : List Row
loop_back =
    value_row Void 513 op.Upsilon (512 ∷ []) (Target 12) ∷ value_row Int32 514 op.LessThan (512 ∷ 1 ∷ []) Plain
    ∷ value_row Void 515 op.Branch (514 ∷ []) Plain ∷ Two 1 2 ∷ []

abbrev pub last_block : List Row
last_block = Heading 2 ∷ value_row Void 516 op.Return (512 ∷ []) Plain ∷ []

-- procedure `g` p
unfoldable pub procedure_rows : ℕ → ℕ → List Row
procedure_rows state p =
    entry p (drawn state) ++ (loop_front ++ (operations 500 (next_state state) 13 ++ (loop_back ++ last_block)))

-- so many procedures from p on: each takes 1501 draws
unfoldable pub procedures_from : ℕ → ℕ → ℕ → List Row
procedures_from zero state p = []
procedures_from (suc count) state p = procedure_rows state p ++ procedures_from count (state_behind 1501 state) (p + 1)

-- ---- the text

-- LF, 10, ends each line
abbrev pub line_text : Row → List ℕ
line_text row = line_of_row row ++ 10 ∷ []

unfoldable pub text_of : List Row → List ℕ
text_of rows = flat_map line_text rows

abbrev pub generated : ℕ → List ℕ
generated n = text_of (procedures_from 16 n 0)
