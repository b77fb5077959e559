-- The code of a Patchpoint or of a check: what puts its reported children into registers, and its operands.
use Rattle.std.specs.Prelude.{ℕ, zero, suc, Bool, true, false, ◌&&◌, ◌||◌, if◌then◌else◌, List, [], ◌∷◌, ◌++◌, Option, Some, None}
use Rattle.b3_base.specs.declared.word.Width.{Width}
use Rattle.b3_base.specs.declared.word.Width.TheVariants.{W64}
use Rattle.b3_ir.specs.declared.value.Constraint.{Constraint}
use Rattle.b3_ir.specs.declared.value.Constraint.TheVariants.{SomeRegisterWithClobber}
use Rattle.b3_ir.specs.declared.value.Reg.{Reg as Register}
use Rattle.b3_ir.specs.declared.value.Stackmap.{Stackmap}
use Rattle.b3_ir.specs.declared.value.Value.{Value}
use Rattle.stackmap.specs.Placing.{register_for, result_register}
use Rattle.stackmap.specs.Registers.{constraints_of, has, has_result, is_late, is_register, stackmap_in}
use Rattle.air_ir.specs.Expressed.{result_in}
use Rattle.air_ir.specs.Forms.{SiteOperands, listed, operand_in}
use Rattle.air_ir.specs.declared.op.AirOp.{AirOp}
use Rattle.air_ir.specs.declared.op.AirOp.TheVariants as op
use Rattle.air_ir.specs.declared.operand.Home.{Home}
use Rattle.air_ir.specs.declared.operand.Home.TheVariants.{Reg}
use Rattle.air_ir.specs.declared.operand.Arg.{Arg}
use Rattle.air_ir.specs.declared.operand.Arg.TheVariants.{At, Imm}
use Rattle.air_ir.specs.declared.operand.Role.{Role}
use Rattle.air_ir.specs.declared.operand.Role.TheVariants.{Use, LateUse, EarlyDef, Def, Clobber}
use Rattle.air_ir.specs.declared.operand.Operand.{Operand}
use Rattle.air_ir.specs.declared.procedure.AirInst.{AirInst}
use Rattle.air_stackmap.specs.declared.child.Child.{Child}

-- a constant is its word at a site, and needs no home there; any other child stands in its home
abbrev pub arg_by : Option ℕ → Home → Arg
arg_by (Some word) home = Imm word
arg_by None home = At home

abbrev pub arg_of : Child → Arg
arg_of c = arg_by c.constant c.home

-- ---- operands

-- a child stands in the register that it is given, if it is given one
abbrev pub place_of : Option Register → Child → Arg
place_of (Some reg) c = At (Reg reg)
place_of None c = arg_of c

-- the operand that reports a child of a constraint: a late one is read late
abbrev pub report_by : Constraint → Option Register → Child → Operand
report_by constraint register c = record {
  role = if is_late constraint then LateUse else Use;
  width = c.width;
  arg = place_of register c;
}

abbrev pub is_clobbering : Constraint → Bool
is_clobbering SomeRegisterWithClobber = true
is_clobbering _ = false

-- a result, where there is one
abbrev pub listed_result : Option Operand → List Operand
listed_result (Some o) = o ∷ []
listed_result None = []

-- an operand for a register that is one of these
abbrev pub in_one : Role → (ℕ → Bool) → ℕ → List Operand
in_one role is r = if is r then operand_in role W64 r ∷ [] else []

-- one for each register of these below a number
unfoldable pub in_each : Role → (ℕ → Bool) → ℕ → List Operand
in_each role is zero = []
in_each role is (suc n) = in_each role is n ++ in_one role is n

-- an instruction that is made for a value and doesn't trap
abbrev pub inst : Value → AirOp → List Operand → AirInst
inst v op operands = record { op = op; operands = operands; value = v.id; traps = false }

abbrev pub move_operands : Width → Arg → Register → List Operand
move_operands width from reg =
    record { role = Use; width = width; arg = from } ∷ record { role = Def; width = width; arg = At (Reg reg) } ∷ []

module _ (v : Value) where
  -- ---- moves

  -- a child that is given a register is put into it
  abbrev pub moved : Option Register → Child → List AirInst
  moved (Some reg) c = inst v op.Move (move_operands c.width (arg_of c) reg) ∷ []
  moved None c = []

  -- the children from reported child k on, each by itself, one after the other
  unfoldable pub moves_from : ℕ → List Child → List AirInst
  moves_from k [] = []
  moves_from k (c ∷ cs) = moved (register_for v k) c ++ moves_from (suc k) cs

  abbrev pub child_moves : List Child → List AirInst
  child_moves cs = moves_from 0 cs

  -- ---- reported children

  -- the children from reported child k on, by their constraints
  unfoldable pub reports_from : ℕ → List Constraint → List Child → List Operand
  reports_from k (a ∷ wants) (c ∷ cs) = report_by a (register_for v k) c ∷ reports_from (suc k) wants cs
  reports_from k _ _ = []

  abbrev pub reported : List Child → List Operand
  reported cs = reports_from 0 (constraints_of v) cs

  -- ---- registers that are changed

  -- some reported child, of those from child k on with these constraints, clobbers this register
  unfoldable pub clobbered_from : ℕ → List Constraint → ℕ → Bool
  clobbered_from k [] r = false
  clobbered_from k (c ∷ cs) r = (is_clobbering c && is_register r (register_for v k)) || clobbered_from (suc k) cs r

  abbrev pub is_changed_early : Stackmap → ℕ → Bool
  is_changed_early map r = has map.early r || clobbered_from 0 map.constraints r

  -- the early clobbers and the registers that children clobber, and then the late clobbers
  abbrev pub changed_by : Option Stackmap → List Operand
  changed_by (Some map) = in_each EarlyDef (is_changed_early map) 31 ++ in_each Clobber (has map.late) 31
  changed_by None = []

  abbrev pub changed : List Operand
  changed = changed_by (stackmap_in v.body)

  -- ---- the whole

  -- the parts of a site that computes with these inputs and has these results
  abbrev pub site_operands : List Operand → List Child → List Operand → SiteOperands
  site_operands inputs cs results = record {
    inputs = inputs;
    reported = reported cs;
    changed = changed;
    results = results;
  }

  abbrev pub site_inst : AirOp → List Operand → List Child → List Operand → AirInst
  site_inst op inputs cs results = inst v op (listed (site_operands inputs cs results))

  -- the moves of the children, and the instruction
  abbrev pub site_code : AirOp → List Operand → List Child → List Operand → List AirInst
  site_code op inputs cs results = child_moves cs ++ site_inst op inputs cs results ∷ []

  -- a patchpoint has the size that its value asks for, and a result where it isn't Void
  abbrev pub patch_by : Option Stackmap → AirOp
  patch_by (Some map) = op.Patch map.size (has_result v)
  patch_by None = op.Patch 1 (has_result v)

  abbrev pub patch_op : AirOp
  patch_op = patch_by (stackmap_in v.body)

  abbrev pub results_by : Option Stackmap → List Operand
  results_by (Some map) = result_in map v (result_register v)
  results_by None = []

  abbrev pub patch_results : List Operand
  patch_results = results_by (stackmap_in v.body)

  abbrev pub patch_code : List Child → List AirInst
  patch_code cs = site_code patch_op [] cs patch_results
