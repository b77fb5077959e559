-- What the code of a site has to do with its value, what it weighs, and what its run does.
use Rattle.std.specs.Prelude.{◌≡◌, ℕ, ◌+◌, ◌*◌, ◌≤◌, Bool, true, false, List, [], ◌++◌, Some, None, All, length}
use Rattle.std.specs.List.{sum_by}
use Rattle.b3_ir.specs.Fits.{Fits, reported_count}
use Rattle.b3_ir.specs.Procedure.{Procedure, StandsAt}
use Rattle.b3_ir.specs.declared.opcode.Opcode.{Opcode}
use Rattle.b3_ir.specs.declared.opcode.Opcode.TheVariants as opcode
use Rattle.b3_ir.specs.declared.value.Stackmap.{Stackmap}
use Rattle.b3_ir.specs.declared.value.Value.{Value}
use Rattle.b3_rules.specs.Valid.{IsValidProcedure}
use Rattle.stackmap.specs.Registers.{constraints_of, stackmap_in}
use Rattle.stackmap.specs.Rules.{IsPlaceable}
use Rattle.air_ir.specs.Expressed.{IsExpressed, IsOpOf, IsTemporary}
use Rattle.air_ir.specs.Operands.{Homes, Read, targets, words}
use Rattle.air_ir.specs.Related.{Copies, IsTarget}
use Rattle.air_ir.specs.Steps.{Goes, Meaning, State, steps}
use Rattle.air_ir.specs.Weight.{inst_weight}
use Rattle.air_ir.specs.WellFormed.{IsGoodInst}
use Rattle.air_ir.specs.declared.op.AirOp.{AirOp}
use Rattle.air_ir.specs.declared.op.AirOp.TheVariants as op
use Rattle.air_ir.specs.declared.operand.Home.{Home}
use Rattle.air_ir.specs.declared.operand.Operand.{Operand}
use Rattle.air_ir.specs.declared.procedure.AirProc.{AirProc}
use Rattle.air_stackmap.specs.Described.{AreReported, ComputesWith, HasWords, IsSmall, NameOwn, NamesTemporary}
use Rattle.air_stackmap.specs.Running.{HaveWords, IsFree, StandsFree, moved_homes, reads_of}
use Rattle.air_stackmap.specs.SiteCode.{changed, child_moves, patch_op, patch_results, site_code, site_inst}
use Rattle.air_stackmap.specs.declared.child.Child.{Child}

-- ---- values

-- the opcodes of values with a stackmap
abbrev pub has_stackmap : Opcode → Bool
has_stackmap opcode.Patchpoint = true
has_stackmap opcode.Check = true
has_stackmap opcode.CheckAdd = true
has_stackmap opcode.CheckSub = true
has_stackmap opcode.CheckMul = true
has_stackmap _ = false

-- such a value of a valid procedure keeps the rules on stackmaps, and has a constraint for each reported child
abbrev pub SitesAreKept : Type 0
SitesAreKept = (p : Procedure) (b j : ℕ) (v : Value) → IsValidProcedure p → StandsAt p b j v → Fits v
    → has_stackmap v.kind.opcode ≡ true → IsPlaceable v × (length (constraints_of v) ≡ reported_count v)

-- ---- sites

-- the parts of a site of a value that keeps the rules on stackmaps: its op, its inputs and its results
pub record IsSite (v : Value) (o : AirOp) (inputs results : List Operand) : Type 0 where
  pub placeable : IsPlaceable v
  pub stackmap : Stackmap
  pub carries : stackmap_in v.body ≡ Some stackmap
  pub op : IsOpOf stackmap v o
  pub computes : ComputesWith v o inputs results

-- the op and the result of a Patchpoint are such parts
abbrev pub PatchesAreSites : Type 0
PatchesAreSites =
    (v : Value) → Fits v → IsPlaceable v → v.kind.opcode ≡ opcode.Patchpoint
    → IsSite v (patch_op v) [] (patch_results v)

-- the instruction is expressed for its value
abbrev pub SitesAreExpressed : Type 0
SitesAreExpressed =
    (p : Procedure) (v : Value) (o : AirOp) (inputs : List Operand) (cs : List Child) (results : List Operand)
    → Fits v → IsSite v o inputs results → AreReported p v cs → IsExpressed p v (site_inst v o inputs cs results)

-- the moves and the instruction are good ones of a procedure of Air that has the temporaries of the children and what
-- the inputs and the results name; it may always name the result of a patchpoint
abbrev pub SitesAreGood : Type 0
SitesAreGood =
    (q : AirProc) (v : Value) (o : AirOp) (inputs : List Operand) (cs : List Child) (results : List Operand)
    → IsSite v o inputs results → All IsSmall cs → All (NamesTemporary q) cs → NameOwn q inputs → NameOwn q results
    → All (IsGoodInst q) (site_code v o inputs cs results)

abbrev pub PatchesNameOwn : Type 0
PatchesNameOwn =
    (q : AirProc) (v : Value) → Fits v → IsPlaceable v → v.kind.opcode ≡ opcode.Patchpoint
    → NameOwn q (patch_results v)

-- they weigh at most 73, and 7 for each child
abbrev pub SitesAreLight : Type 0
SitesAreLight = (v : Value) (o : AirOp) (inputs : List Operand) (cs : List Child) (results : List Operand)
    → HasWords o → ComputesWith v o inputs results
    → sum_by inst_weight (site_code v o inputs cs results) ≤ 73 + 7 * length cs

-- ---- the run

-- the moves put the words of the children into their registers, one after the other, and nothing else happens: each
-- temporary keeps what it holds
abbrev pub MovesRun : Type 0
MovesRun = (mean : Meaning) (v : Value) (cs : List Child) (ws : List ℕ) (s : State) (junk : List ℕ)
    → Copies mean (record { op = op.Move; value = v.id; traps = false })
    → All StandsFree cs → HaveWords s.homes cs ws
    → steps mean (child_moves v cs) s junk
    ≡ (Goes None (record { homes = moved_homes v 0 cs ws s.homes; world = s.world }), junk)

abbrev pub TemporariesStay : Type 0
TemporariesStay = (v : Value) (cs : List Child) (ws : List ℕ) (homes : Homes) (g : Home) → IsTemporary g
    → moved_homes v 0 cs ws homes g ≡ homes g

-- then the instruction reads what its inputs read before the moves, and the words of the children in order
abbrev pub SitesRead : Type 0
SitesRead =
    (v : Value) (o : AirOp) (inputs : List Operand) (cs : List Child) (results : List Operand)
    (ins : List Read) (ws : List ℕ) (homes : Homes)
    → IsSite v o inputs results → length cs ≡ length (constraints_of v) → All StandsFree cs → HaveWords homes cs ws
    → All (λ (i : Operand). IsFree i.arg) inputs → words homes inputs ≡ Some ins
    → words (moved_homes v 0 cs ws homes) (site_inst v o inputs cs results).operands ≡ Some (ins ++ reads_of cs ws)

-- and writes registers, none of them a temporary, before its results
abbrev pub SitesWrite : Type 0
SitesWrite = (v : Value) (o : AirOp) (inputs : List Operand) (cs : List Child) (results : List Operand)
    → ComputesWith v o inputs results
    → (targets (site_inst v o inputs cs results).operands ≡ targets (changed v) ++ targets results)
    × ((g : Home) → IsTemporary g → IsTarget g (targets (changed v)) → ⊥)
