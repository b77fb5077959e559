-- The operands of a procedure's instructions may be fetched, and their results put in their places.
use Rattle.std.proofs.Common.{◌≡◌, ℕ, zero, suc, ◌<◌, Bool, true, false, List, [], ◌∷◌, Some, refl, sym, ap, ◌∙◌, subst, arith, eq-eqb}
use Rattle.std.specs.Prelude.{◌||◌, All, slice_get}
use Rattle.std.specs.List.{list_any}
use Rattle.std.proofs.lemmas.List.Folds.{list_any_at}
use Rattle.std.proofs.lemmas.Option.{get_or_from_slice_get, slice_get_within}
use Rattle.std.proofs.lemmas.Bool.{or_left, or_right}
use Rattle.b3_base.specs.declared.word.Width.{Width}
use Rattle.b3_base.specs.declared.word.Width.TheVariants.{W32, W64}
use Rattle.stackmap.specs.declared.site.Returns.{Returns}
use Rattle.stackmap.specs.declared.site.Returns.TheVariants as kind
use Rattle.air_ir.specs.Forms.{AllFit, BitOf, HasOperands, Immediates, IsAddress, IsSlot, IsWord, NoImmediate, Takes, Word, home, operand_in, returned, test_takes}
use Rattle.air_ir.specs.Kinds.{target_count}
use Rattle.air_ir.specs.Operands.{Target, and_target, is_read, targets}
use Rattle.air_ir.specs.WellFormed.{IsGoodInst, MayName, NamesOwn}
use Rattle.air_ir.specs.declared.op.AirOp.{AirOp}
use Rattle.air_ir.specs.declared.op.AirOp.TheVariants as op
use Rattle.air_ir.specs.declared.op.Test.{Test}
use Rattle.air_ir.specs.declared.op.Test.TheVariants.{Compare, NonZero, Bit}
use Rattle.air_ir.specs.declared.operand.Arg.{Arg}
use Rattle.air_ir.specs.declared.operand.Arg.TheVariants.{At, Imm, Addr, Index, FrameSlot}
use Rattle.air_ir.specs.declared.operand.Home.{Home}
use Rattle.air_ir.specs.declared.operand.Home.TheVariants.{Reg, Spill, Tmp}
use Rattle.air_ir.specs.declared.operand.Operand.{Operand}
use Rattle.air_ir.specs.declared.operand.Role.TheVariants.{Def, Use}
use Rattle.air_frame.specs.Needs.{arg_names, block_names, block_writes, inst_names, inst_writes, is_register, is_spill, names, writes}
use Rattle.a64_emit.specs.Setting.{Setting}
use Rattle.a64_emit.proofs.AccessesReached.{IsReachable}
use Rattle.a64_emit.proofs.AirSteps.{IsWritten}
use Rattle.a64_emit.proofs.BranchEnds.{AllUsable}
use Rattle.a64_emit.proofs.Fetching.{IsPlaceFor, IsUsable}
use Rattle.a64_emit.proofs.FrameAddresses.{IsOwnSlot}
use Rattle.a64_emit.proofs.Instructions.{AreOpen, home_word}
use Rattle.air_ir.specs.declared.procedure.AirBlock.{AirBlock}
use Rattle.air_ir.specs.declared.procedure.AirInst.{AirInst}

-- ---- lists

pub any_at : {X : Type 0} (p : X → Bool) (xs : List X) (k : ℕ) (x : X) → slice_get xs k ≡ Some x → p x ≡ true → list_any p xs ≡ true
any_at p xs k x there passes = list_any_at p xs k x (slice_get_within xs k x there) (ap p (get_or_from_slice_get xs k x x there) ∙ passes)

pub all_at : {X : Type 0} (P : X → Type 0) (xs : List X) (k : ℕ) (x : X) → slice_get xs k ≡ Some x → All P xs → P x
all_at P xs k x there each = subst P (get_or_from_slice_get xs k x x there) (each k x (slice_get_within xs k x there))

-- ---- names

pub own_spill : (n : ℕ) → arg_names n (At (Spill n)) ≡ true
own_spill n = eq-eqb n n refl

pub usable_arg : (z : Setting) (arg : Arg) → z.procedure.tmps ≡ 0 → NamesOwn z.procedure Use arg → ((n : ℕ) → arg_names n arg ≡ true → names z.procedure n ≡ true)
    → (width : Width) (immediates : Immediates) → IsWord immediates width arg → IsUsable z arg
usable_arg z (At (Tmp n)) none own named width immediates is = let lt : n < z.procedure.tmps = own in absurd (omega (arith, none))
usable_arg z (At (Reg r)) none own named width immediates is = own
usable_arg z (At (Spill n)) none own named width immediates is = named n (own_spill n)
usable_arg z (Imm word) none own named width immediates is = tt
usable_arg z (Addr base offset) none own named width immediates is = absurd is
usable_arg z (Index base index shift) none own named width immediates is = absurd is
usable_arg z (FrameSlot n) none own named width immediates is = absurd is

usable_home : (z : Setting) (home : Home) → z.procedure.tmps ≡ 0 → MayName z.procedure Use home
    → ((n : ℕ) → is_spill n home ≡ true → names z.procedure n ≡ true) → IsUsable z (At home)
usable_home z (Tmp n) none own named = let lt : n < z.procedure.tmps = own in absurd (omega (arith, none))
usable_home z (Reg r) none own named = own
usable_home z (Spill n) none own named = named n (own_spill n)

reachable_arg : (z : Setting) (arg : Arg) → z.procedure.tmps ≡ 0 → NamesOwn z.procedure Use arg → ((n : ℕ) → arg_names n arg ≡ true → names z.procedure n ≡ true)
    → (bytes : ℕ) → IsAddress bytes arg → IsReachable z arg
reachable_arg z (Addr base offset) none own named bytes is = usable_home z base none own named
reachable_arg z (Index base index shift) none own named bytes is = (
  usable_home z base none own.0 (λ n same. named n (or_left (is_spill n base) (is_spill n index) same)),
  usable_home z index none own.1 (λ n same. named n (or_right (is_spill n base) (is_spill n index) same)),
)
reachable_arg z (At home) none own named bytes is = absurd is
reachable_arg z (Imm word) none own named bytes is = absurd is
reachable_arg z (FrameSlot n) none own named bytes is = absurd is

own_slot : (z : Setting) (arg : Arg) → NamesOwn z.procedure Use arg → IsSlot arg → IsOwnSlot z arg
own_slot z (FrameSlot n) own is = own
own_slot z (At home) own is = absurd is
own_slot z (Imm word) own is = absurd is
own_slot z (Addr base offset) own is = absurd is
own_slot z (Index base index shift) own is = absurd is

place_home : (z : Setting) (home : Home) → z.procedure.tmps ≡ 0 → MayName z.procedure Def home
    → ((n : ℕ) → arg_names n (At home) ≡ true → names z.procedure n ≡ true)
    → ((r : ℕ) → is_register r home ≡ true → writes z.procedure r ≡ true) → IsPlaceFor z home
place_home z (Tmp n) none own named written = let lt : n < z.procedure.tmps = own in absurd (omega (arith, none))
place_home z (Reg r) none own named written = (own, written r.0 (eq-eqb r.0 r.0 refl))
place_home z (Spill n) none own named written = named n (own_spill n)

more_role : (r : ℕ) (reads : Bool) (width : Width) (arg : Arg) (ts : List Target) → list_any (λ (t : Target). is_register r t.home) ts ≡ true
    → list_any (λ (t : Target). is_register r t.home) (and_target reads width arg ts) ≡ true
more_role r false width (At home) ts is = elim (is_register r home) as (λ b. (b || list_any (λ (t : Target). is_register r t.home) ts) ≡ true) [
  | true ↦
      refl
  | false ↦ is
]
more_role r true width (At home) ts is = is
more_role r false width (Imm word) ts is = is
more_role r true width (Imm word) ts is = is
more_role r false width (Addr base offset) ts is = is
more_role r true width (Addr base offset) ts is = is
more_role r false width (Index base index shift) ts is = is
more_role r true width (Index base index shift) ts is = is
more_role r false width (FrameSlot n) ts is = is
more_role r true width (FrameSlot n) ts is = is

-- an operand that is written is among the targets
writes_target : (r : ℕ) (os : List Operand) (k : ℕ) (o : Operand) (home : Home) → slice_get os k ≡ Some o → IsWritten o home → is_register r home ≡ true
    → list_any (λ (t : Target). is_register r t.home) (targets os) ≡ true
unfolding targets
writes_target r [] k o home there is same_reg = absurd cc
writes_target r (x ∷ os) zero o home there is same_reg =
    let same : x ≡ o = cc in
    let role : x.role ≡ Def = ap (λ (y : Operand). y.role) same ∙ is.role in
    let arg : x.arg ≡ At home = ap (λ (y : Operand). y.arg) same ∙ is.arg in
    rw (role, arg, same_reg) refl
writes_target r (x ∷ os) (suc k) o home there is same_reg =
    let rest = writes_target r os k o home there is same_reg in
    more_role r (is_read x.role) x.width x.arg (targets os) rest

-- ---- instructions of a procedure

module _ (z : Setting) (b : ℕ) (block : AirBlock) (block_there : slice_get z.procedure.blocks b ≡ Some block) (k : ℕ) (i : AirInst)
    (there : slice_get block.insts k ≡ Some i) where
  inst_named : (n : ℕ) → inst_names n i ≡ true → names z.procedure n ≡ true
  inst_named n is = any_at (block_names n) z.procedure.blocks b block block_there (any_at (inst_names n) block.insts k i there is)

  inst_written : (r : ℕ) → inst_writes r i ≡ true → writes z.procedure r ≡ true
  inst_written r is = any_at (block_writes r) z.procedure.blocks b block block_there (any_at (inst_writes r) block.insts k i there is)

  pub operands_open : z.procedure.tmps ≡ 0 → IsGoodInst z.procedure i → AreOpen z i.operands
  operands_open none good j o at =
      let own : NamesOwn z.procedure o.role o.arg = all_at (λ (o : Operand). NamesOwn z.procedure o.role o.arg) i.operands j o at good.names in
      let named : (n : ℕ) → arg_names n o.arg ≡ true
      → names z.procedure n ≡ true = λ n is. inst_named n (any_at (λ (o : Operand). arg_names n o.arg) i.operands j o at is) in
      record {
        reads = λ role width immediates is. usable_arg z o.arg none (subst (λ r. NamesOwn z.procedure r o.arg) role own) named width immediates is;
        reaches = λ role bytes is. reachable_arg z o.arg none (subst (λ r. NamesOwn z.procedure r o.arg) role own) named bytes is;
        slots = λ role is. own_slot z o.arg (subst (λ r. NamesOwn z.procedure r o.arg) role own) is;
        writes = λ home is. place_home z home none
            (subst (λ arg. NamesOwn z.procedure Def arg) is.arg (subst (λ r. NamesOwn z.procedure r o.arg) is.role own))
            (λ n same_reg. named n (ap (arg_names n) is.arg ∙ same_reg))
            (λ r same_reg. inst_written r (writes_target r i.operands j o home at is same_reg));
      }

-- ---- the operands of what ends a block

-- these are read
abbrev AreReads : List Takes → Type 0
AreReads [] = Unit {0}
AreReads (Word width immediates ∷ ts) = AreReads ts
AreReads (BitOf width bit ∷ ts) = AreReads ts
AreReads (t ∷ ts) = ⊥

reads_usable : (z : Setting) (ts : List Takes) (os : List Operand) → AreReads ts → AllFit ts os → AreOpen z os → AllUsable z os
unfolding AllFit
reads_usable z [] [] reads fits opened j o there = absurd cc
reads_usable z [] (x ∷ os) reads fits opened j o there = absurd fits
reads_usable z (t ∷ ts) [] reads fits opened j o there = absurd fits
reads_usable z (Word width immediates ∷ ts) (x ∷ os) reads fits opened zero o there =
    let same : x ≡ o = cc in subst (λ (y : Operand). IsUsable z y.arg) same ((opened 0 x refl).reads fits.0.0 width immediates fits.0.2)
reads_usable z (BitOf width bit ∷ ts) (x ∷ os) reads fits opened zero o there =
    let same : x ≡ o = cc in subst (λ (y : Operand). IsUsable z y.arg) same
    ((opened 0 x refl).reads fits.0.0 width NoImmediate (home_word width x.arg fits.0.2))
reads_usable z (Word width immediates ∷ ts) (x ∷ os) reads fits opened (suc j) o there =
    reads_usable z ts os reads fits.1 (λ k y at. opened (suc k) y at) j o there
reads_usable z (BitOf width bit ∷ ts) (x ∷ os) reads fits opened (suc j) o there = reads_usable z ts os reads fits.1 (λ k y at. opened (suc k) y at) j o there
reads_usable z (t ∷ ts) (x ∷ os) reads fits opened j o there = absurd reads

tests_read : (t : Test) (width : Width) → AreReads (test_takes t width)
tests_read (Compare cond) width = tt
tests_read NonZero width = tt
tests_read (Bit k) width = tt

returns_usable : (z : Setting) (r : Returns) → AreOpen z (returned r) → AllUsable z (returned r)
returns_usable z kind.Nothing opened j o there = absurd cc
returns_usable z kind.W32 opened zero o there =
    let same : operand_in Use W32 0 ≡ o = cc in
    subst (λ (y : Operand). IsUsable z y.arg) same ((opened 0 (operand_in Use W32 0) refl).reads refl W32 NoImmediate tt)
returns_usable z kind.W64 opened zero o there =
    let same : operand_in Use W64 0 ≡ o = cc in
    subst (λ (y : Operand). IsUsable z y.arg) same ((opened 0 (operand_in Use W64 0) refl).reads refl W64 NoImmediate tt)
returns_usable z kind.W32 opened (suc j) o there = absurd cc
returns_usable z kind.W64 opened (suc j) o there = absurd cc

pub terminal_usable : (z : Setting) (n : ℕ) (o : AirOp) (os : List Operand) → target_count o ≡ Some n → HasOperands z.procedure.returns o os
    → AreOpen z os → AllUsable z os
terminal_usable z n (op.BranchIf t) os ends h opened = reads_usable z (test_takes t h.0) os (tests_read t h.0) h.2 opened
terminal_usable z n op.Jump os ends h opened = reads_usable z [] os tt h.2 opened
terminal_usable z n (op.Switch cases) os ends h opened = reads_usable z (home h.0 ∷ []) os tt h.1 opened
terminal_usable z n op.Return os ends h opened =
    subst (AllUsable z) (sym h) (returns_usable z z.procedure.returns (subst (AreOpen z) h opened))
terminal_usable z n op.Oops os ends h opened = reads_usable z [] os tt h.2 opened
terminal_usable z n o os ends h opened = absurd cc
