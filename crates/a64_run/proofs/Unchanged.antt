-- An instruction that faults or breaks leaves the registers and memory as they were.
use Rattle.std.proofs.Common.{◌≡◌, ℕ, ℤ, Bool, true, false, Option, Some, None, refl}
use Rattle.std.specs.Prelude.{if◌then◌else◌}
use Rattle.b3_base.specs.Memory.{is_mapped, read_word, write_word}
use Rattle.a64_inst.specs.Registers.{Registers, Bytes, Stepped, goes_on, faults, read, read_or_sp}
use Rattle.a64_inst.specs.StepMemory.{access_at, access, access_near, access_index, access_bytes, is_store, load, load_two, load_words, load_pair, moved_sp, pair, store_pair, write_two}
use Rattle.a64_inst.specs.StepBranch.{branch, branch_bit, branch_if, branch_reg, branch_zero}
use Rattle.a64_inst.specs.Step.{step_of}
use Rattle.a64_inst.specs.declared.inst.AccessKind.{AccessKind}
use Rattle.a64_inst.specs.declared.inst.AccessKind.TheVariants.{StrX, LdrX}
use Rattle.a64_inst.specs.declared.inst.Cond.{Cond}
use Rattle.b3_base.specs.declared.word.Width.{Width}
use Rattle.a64_inst.specs.declared.inst.BranchKind.{BranchKind}
use Rattle.a64_inst.specs.declared.inst.BranchKind.TheVariants.{Br, Blr, Ret}
use Rattle.a64_inst.specs.declared.inst.Inst.{Inst}
use Rattle.a64_inst.specs.declared.inst.Inst.TheVariants.{AddSubImm, AddSubReg, LogicImm, LogicReg, MoveWide, BitField, Extract, Divide, ShiftReg, CountZeros, MulAdd, MulLong, MulHigh, Select, Branch, BranchIf, BranchZero, BranchBit, BranchReg, Break, Nop, Access, AccessNear, AccessIndex, Pair, PairSp}
use Rattle.a64_inst.specs.declared.state.Outcome.{Outcome}
use Rattle.a64_inst.specs.declared.state.Outcome.TheVariants as outcome

-- the step is over, and led nowhere
abbrev pub stops_here : Outcome → Bool
stops_here outcome.Next = false
stops_here (outcome.Linked target) = false
stops_here (outcome.Fault address) = true
stops_here (outcome.Break number) = true

abbrev pub Stays : Stepped → Registers → Bytes → Type 0
Stays after s m = stops_here after.outcome ≡ true → (after.registers ≡ s) × (after.memory ≡ m)

moves : (s' s : Registers) (m' m : Bytes) → Stays (goes_on s' m') s m
moves s' s m' m e = absurd cc

stays : (address : ℕ) (s : Registers) (m : Bytes) → Stays (faults address s m) s m
stays address s m e = (refl, refl)

either : (b : Bool) (x y : Stepped) (s : Registers) (m : Bytes) → Stays x s m → Stays y s m → Stays (if b then x else y) s m
either true x y s m p q = p
either false x y s m p q = q

loads : (kind : AccessKind) (rt address : ℕ) (found : Option ℕ) (s : Registers) (m : Bytes) → Stays (load kind rt address found s m) s m
loads kind rt address (Some word) s m e = absurd cc
loads kind rt address None s m e = (refl, refl)

stays_at : (kind : AccessKind) (rt address : ℕ) (s : Registers) (m : Bytes) → Stays (access_at kind rt address s m) s m
stays_at kind rt address s m =
    either (is_store kind) _ _ s m
    (either (is_mapped m address (access_bytes kind)) _ _ s m (moves s s (write_word m address (access_bytes kind) (read s rt)) m) (stays address s m))
    (loads kind rt address (read_word m address (access_bytes kind)) s m)

stays_access : (kind : AccessKind) (rt rn units : ℕ) (s : Registers) (m : Bytes) → Stays (access kind rt rn units s m) s m
unfolding access
stays_access kind rt rn units s m = stays_at kind rt _ s m

stays_near : (kind : AccessKind) (rt rn : ℕ) (offset : ℤ) (s : Registers) (m : Bytes) → Stays (access_near kind rt rn offset s m) s m
unfolding access_near
stays_near kind rt rn offset s m = stays_at kind rt _ s m

stays_index : (load : Bool) (rt rn rm : ℕ) (scaled : Bool) (s : Registers) (m : Bytes) → Stays (access_index load rt rn rm scaled s m) s m
unfolding access_index
stays_index load rt rn rm scaled s m = stays_at (if load then LdrX else StrX) rt _ s m

loads_words : (rt rt2 address : ℕ) (first second : Option ℕ) (s : Registers) (m : Bytes) → Stays (load_words rt rt2 address first second s m) s m
loads_words rt rt2 address (Some first) (Some second) s m e = absurd cc
loads_words rt rt2 address (Some first) None s m e = (refl, refl)
loads_words rt rt2 address None second s m e = (refl, refl)

stays_pair : (load : Bool) (rt rt2 rn : ℕ) (units : ℤ) (s : Registers) (m : Bytes) → Stays (pair load rt rt2 rn units s m) s m
unfolding pair
stays_pair true rt rt2 rn units s m = loads_words rt rt2 _ _ _ s m
stays_pair false rt rt2 rn units s m = either (is_mapped m (moved_sp (read_or_sp s rn) units) 16) _ _ s m
    (moves s s (write_two m (moved_sp (read_or_sp s rn) units) (read s rt) (read s rt2)) m) (stays (moved_sp (read_or_sp s rn) units) s m)

stays_store_pair : (rt rt2 : ℕ) (units : ℤ) (s : Registers) (m : Bytes) → Stays (store_pair rt rt2 units s m) s m
unfolding store_pair
stays_store_pair rt rt2 units s m = either (is_mapped m (moved_sp s.sp units) 16) _ _ s m
    (moves (record s { sp = moved_sp s.sp units }) s (write_two m (moved_sp s.sp units) (read s rt) (read s rt2)) m) (stays (moved_sp s.sp units) s m)

loads_two : (rt rt2 : ℕ) (units : ℤ) (first second : Option ℕ) (s : Registers) (m : Bytes) → Stays (load_two rt rt2 units first second s m) s m
loads_two rt rt2 units (Some first) (Some second) s m e = absurd cc
loads_two rt rt2 units (Some first) None s m e = (refl, refl)
loads_two rt rt2 units None second s m e = (refl, refl)

stays_load_pair : (rt rt2 : ℕ) (units : ℤ) (s : Registers) (m : Bytes) → Stays (load_pair rt rt2 units s m) s m
unfolding load_pair
stays_load_pair rt rt2 units s m = loads_two rt rt2 units _ _ s m

stays_branch : (offset : ℤ) (s : Registers) (m : Bytes) → Stays (branch offset s m) s m
unfolding branch
stays_branch offset s m e = absurd cc

stays_branch_if : (cond : Cond) (offset : ℤ) (s : Registers) (m : Bytes) → Stays (branch_if cond offset s m) s m
unfolding branch_if
stays_branch_if cond offset s m = either _ (branch offset s m) (goes_on s m) s m (stays_branch offset s m) (moves s s m m)

stays_branch_zero : (width : Width) (nonzero : Bool) (rt : ℕ) (offset : ℤ) (s : Registers) (m : Bytes) → Stays (branch_zero width nonzero rt offset s m) s m
unfolding branch_zero
stays_branch_zero width nonzero rt offset s m = either _ (branch offset s m) (goes_on s m) s m (stays_branch offset s m) (moves s s m m)

stays_branch_bit : (nonzero : Bool) (rt at : ℕ) (offset : ℤ) (s : Registers) (m : Bytes) → Stays (branch_bit nonzero rt at offset s m) s m
unfolding branch_bit
stays_branch_bit nonzero rt at offset s m = either _ (branch offset s m) (goes_on s m) s m (stays_branch offset s m) (moves s s m m)

stays_branch_reg : (kind : BranchKind) (rn : ℕ) (s : Registers) (m : Bytes) → Stays (branch_reg kind rn s m) s m
unfolding branch_reg
stays_branch_reg Br rn s m e = absurd cc
stays_branch_reg Blr rn s m e = absurd cc
stays_branch_reg Ret rn s m e = absurd cc

pub unchanged : (inst : Inst) (s : Registers) (m : Bytes) → Stays (step_of inst s m) s m
unfolding step_of
unchanged (AddSubImm width sub flags rd rn imm12 high) s m = moves _ s m m
unchanged (AddSubReg width sub flags rd rn rm shift amount) s m = moves _ s m m
unchanged (LogicImm width op rd rn n immr imms) s m = moves _ s m m
unchanged (LogicReg width op invert rd rn rm shift amount) s m = moves _ s m m
unchanged (MoveWide width op rd imm16 hw) s m = moves _ s m m
unchanged (BitField width sign rd rn immr imms) s m = moves _ s m m
unchanged (Extract width rd rn rm lsb) s m = moves _ s m m
unchanged (Divide width sign rd rn rm) s m = moves _ s m m
unchanged (ShiftReg width kind rd rn rm) s m = moves _ s m m
unchanged (CountZeros width rd rn) s m = moves _ s m m
unchanged (MulAdd width sub rd rn rm ra) s m = moves _ s m m
unchanged (MulLong rd rn rm ra) s m = moves _ s m m
unchanged (MulHigh sign rd rn rm) s m = moves _ s m m
unchanged (Select width inc rd rn rm cond) s m = moves _ s m m
unchanged (Branch offset) s m = stays_branch offset s m
unchanged (BranchIf cond offset) s m = stays_branch_if cond offset s m
unchanged (BranchZero width nonzero rt offset) s m = stays_branch_zero width nonzero rt offset s m
unchanged (BranchBit nonzero rt at offset) s m = stays_branch_bit nonzero rt at offset s m
unchanged (BranchReg kind rn) s m = stays_branch_reg kind rn s m
unchanged (Break imm) s m = λ e. (refl, refl)
unchanged Nop s m = moves s s m m
unchanged (Access kind rt rn units) s m = stays_access kind rt rn units s m
unchanged (AccessNear kind rt rn offset) s m = stays_near kind rt rn offset s m
unchanged (AccessIndex load rt rn rm scaled) s m = stays_index load rt rn rm scaled s m
unchanged (Pair load rt rt2 rn units) s m = stays_pair load rt rt2 rn units s m
unchanged (PairSp load rt rt2 units) s m = either load (load_pair rt rt2 units s m) (store_pair rt rt2 units s m) s m (stays_load_pair rt rt2 units s m)
    (stays_store_pair rt rt2 units s m)
