-- The module that is made from a number, without its lines: 16 procedures of 517 values in three blocks.
use Rattle.std.specs.Prelude.{ℕ, zero, suc, ◌+◌, ◌%◌, false, List, [], ◌∷◌, ◌++◌, codes}
use Rattle.std.specs.Fmt.{decimal}
use Rattle.b3_ir.specs.Procedure.{Block, Procedure}
use Rattle.b3_ir.specs.declared.opcode.Opcode.{Opcode}
use Rattle.b3_ir.specs.declared.opcode.Opcode.TheVariants as op
use Rattle.b3_ir.specs.declared.opcode.Ty.{Ty}
use Rattle.b3_ir.specs.declared.opcode.Ty.TheVariants.{Int32, Int64, Void}
use Rattle.b3_ir.specs.declared.value.Body.{Body}
use Rattle.b3_ir.specs.declared.value.Body.TheVariants.{Plain, Constant, Argument, Target, Targets}
use Rattle.b3_ir.specs.declared.value.Value.{Value}
use Rattle.b3_trial.specs.Generated.{child_before, drawn, next_state, opcode_of, state_behind}

-- a value on a line, without flags
abbrev pub value_on : ℕ → Ty → ℕ → Opcode → List ℕ → Body → Value
value_on line ty id opcode children body = record {
  id = id;
  ty = ty;
  kind = record { opcode = opcode; chill = false; traps = false };
  children = children;
  body = body;
  line = line;
}

-- ---- block 0: the eight arguments, 1, a draw, the first value of the Phi, and a jump

abbrev pub argument : ℕ → ℕ → Value
argument line r = value_on line Int64 r op.ArgumentReg [] (Argument (record { 0 = r }))

unfoldable pub arguments : ℕ → ℕ → List Value
arguments zero r = []
arguments (suc count) r = argument 0 r ∷ arguments count (r + 1)

abbrev pub constant : ℕ → ℕ → ℕ → Value
constant line id word = value_on line Int64 id op.Const64 [] (Constant word)

abbrev pub upsilon : ℕ → ℕ → ℕ → Value
upsilon line id child = value_on line Void id op.Upsilon (child ∷ []) (Target 12)

abbrev pub jump : ℕ → Value
jump line = value_on line Void 11 op.Jump [] (Targets (1 ∷ []))

abbrev pub entry : ℕ → List Value
entry word = arguments 8 0 ++ (constant 0 8 1 ∷ constant 0 9 word ∷ upsilon 0 10 0 ∷ jump 0 ∷ [])

-- ---- block 1: the Phi, 500 values of arithmetic, and the end of a loop

abbrev pub phi : ℕ → Value
phi line = value_on line Int64 12 op.Phi [] Plain

abbrev pub operation : ℕ → ℕ → ℕ → ℕ → ℕ → Value
operation line id number first second = value_on line Int64 id (opcode_of number) (first ∷ second ∷ []) Plain

-- three draws: the opcode, and the children
unfoldable pub operations : ℕ → ℕ → ℕ → List Value
operations zero state id = []
operations (suc count) state id =
    operation 0 id (drawn state % 6) (child_before id (drawn (next_state state)))
    (child_before id (drawn (next_state (next_state state))))
    ∷ operations count (state_behind 3 state) (id + 1)

abbrev pub less : ℕ → Value
less line = value_on line Int32 514 op.LessThan (512 ∷ 1 ∷ []) Plain

abbrev pub branch : ℕ → Value
branch line = value_on line Void 515 op.Branch (514 ∷ []) (Targets (1 ∷ 2 ∷ []))

abbrev pub loop_values : ℕ → List Value
loop_values state = phi 0 ∷ (operations 500 state 13 ++ (upsilon 0 513 512 ∷ less 0 ∷ branch 0 ∷ []))

-- ---- block 2: a Return

abbrev pub return_value : ℕ → Value
return_value line = value_on line Void 516 op.Return (512 ∷ []) Plain

-- ---- procedures

abbrev pub block_of : ℕ → List Value → Block
block_of number values = record { number = number; line = 0; values = values }

-- procedure `g` k
abbrev pub procedure_of : ℕ → ℕ → Procedure
procedure_of state k = record {
  name = codes "g" ++ decimal k;
  line = 0;
  slots = [];
  blocks = block_of 0 (entry (drawn state)) ∷ block_of 1 (loop_values (next_state state))
      ∷ block_of 2 (return_value 0 ∷ []) ∷ [];
}

-- so many procedures from k on: each takes 1501 draws
unfoldable pub procedures_from : ℕ → ℕ → ℕ → List Procedure
procedures_from zero state k = []
procedures_from (suc count) state k = procedure_of state k ∷ procedures_from count (state_behind 1501 state) (k + 1)

abbrev pub module_of : ℕ → List Procedure
module_of n = procedures_from 16 n 0
