-- Each instruction that doesn't end its block does what its code does.
use Rattle.std.proofs.Common.{◌≡◌, ℕ, suc, ◌<◌, ◌≤◌, Bool, length, true, false, inl, inr, List, [], ◌∷◌, ◌++◌, Option, Some, None, refl, sym, ap, ◌∙◌, subst, arith}
use Rattle.std.specs.Prelude.{All, if◌then◌else◌, slice_get}
use Rattle.std.proofs.lemmas.List.Elements.{All-cons, All-nil}
use Rattle.b3_base.specs.declared.word.Width.{Width}
use Rattle.b3_base.specs.declared.word.Width.TheVariants.{W32, W64}
use Rattle.b3_meaning.specs.Opcodes.{truth}
use Rattle.b3_meaning.specs.declared.role.Extent.{Extent}
use Rattle.b3_meaning.specs.declared.role.Extent.TheVariants.{Byte, Half, Whole}
use Rattle.stackmap.specs.declared.site.Returns.{Returns}
use Rattle.a64_layout.specs.Machine.{Machine}
use Rattle.a64_inst.specs.Step.{Registers}
use Rattle.a64_inst.specs.StepMemory.{access_bytes}
use Rattle.a64_inst.specs.declared.inst.AccessKind.{AccessKind}
use Rattle.a64_inst.specs.declared.inst.AccessKind.TheVariants.{Strb, Ldrb, Ldrsb, Strh, Ldrh, Ldrsh, StrW, LdrW, StrX, LdrX}
use Rattle.a64_inst.specs.declared.inst.Cond.{Cond}
use Rattle.a64_inst.specs.declared.inst.Inst.TheVariants.{Select}
use Rattle.a64_layout.specs.Branch.{opposite_cond}
use Rattle.air_ir.specs.Words.{computed}
use Rattle.air_ir.specs.declared.frame.Frame.{Frame}
use Rattle.a64_code.specs.declared.source.Source.{Source}
use Rattle.air_ir.specs.Forms.{Address, AllFit, AnyWord, ArePairs, AreThese, BitOf, Fits, HasOperands, Immediates, IsAddress, IsHome, IsSlot, IsWord, NoImmediate, OfLogic, OfSum, OnlyZero, Result, Slot, Takes, Word, WritesApart, home, load, store, takes}
use Rattle.air_ir.specs.Kinds.{Computes, Copies, FramePointers, Kind, Loads, SlotAddresses, Stores, kind_of}
use Rattle.air_ir.specs.Operands.{Read, and_word, targets, word_of, words}
use Rattle.air_ir.specs.Steps.{State}
use Rattle.air_ir.specs.declared.op.AirOp.{AirOp}
use Rattle.air_ir.specs.declared.op.AirOp.TheVariants as op
use Rattle.air_ir.specs.declared.op.Test.{Test}
use Rattle.air_ir.specs.declared.op.Test.TheVariants.{Compare, NonZero, Bit}
use Rattle.air_ir.specs.declared.operand.Arg.{Arg}
use Rattle.air_ir.specs.declared.operand.Arg.TheVariants.{At, Imm, Addr, Index, FrameSlot}
use Rattle.air_ir.specs.declared.operand.Home.{Home}
use Rattle.air_ir.specs.declared.operand.Home.TheVariants.{Reg, Spill, Tmp}
use Rattle.air_ir.specs.declared.operand.Operand.{Operand}
use Rattle.air_ir.specs.declared.operand.Role.TheVariants.{Use}
use Rattle.air_ir.specs.declared.procedure.AirInst.{AirInst}
use Rattle.air_frame.specs.Frames.{IsFrameOf}
use Rattle.a64_code.specs.Accesses.{access_kind}
use Rattle.a64_emit.specs.Code.{arg_at, compute_code, fetch, fetch_address, fetch_stored, home_of, inst_code, load_code, load_inst, moves_of, put_result, result_reg, source_of, store_code, store_inst}
use Rattle.a64_code.specs.Computing.{condition, reg_of, testing}
use Rattle.a64_code.specs.Fitting.{FitsSource, IsComputed, IsTested}
use Rattle.a64_emit.specs.Related.{IsRelated}
use Rattle.a64_emit.specs.Setting.{IsSet, Setting}
use Rattle.a64_emit.proofs.AccessesReached.{IsReachable}
use Rattle.a64_emit.proofs.AccessesRun.{AccessRuns, IsLoad, IsStore, load_16s, load_16z, load_32, load_64, load_8s, load_8z, load_runs, store_16, store_32, store_64, store_8, store_runs}
use Rattle.a64_emit.proofs.AirSteps.{IsWritten, computes_word, step_gives, step_lost, targets_result, targets_use, words_result, words_use, written_home}
use Rattle.a64_emit.proofs.Computes.{InstRuns, one_runs, place_usable, source_most, three_runs, two_runs}
use Rattle.a64_emit.proofs.Copies.{IsConstantOf, copy_runs}
use Rattle.a64_emit.proofs.ShufflesRun.{IsGiven, shuffle_runs}
use Rattle.a64_emit.proofs.Fetching.{IsPlaceFor, IsUsable}
use Rattle.a64_emit.proofs.FrameAddresses.{IsOwnSlot, pointer_runs, slot_runs}
use Rattle.a64_code.proofs.Ops.{IsRegister, IsWidthOf, second_width, takes_constant}
use Rattle.a64_code.proofs.Tests.{GivesSecond, passes}
use Rattle.a64_emit.proofs.TestsRun.{ready_one, ready_two, select_end, set_end}

-- ---- operands

fit_cons : (t : Takes) (ts : List Takes) (os : List Operand) → AllFit (t ∷ ts) os → (a : Operand) × (rest : List Operand) × (os ≡ a ∷ rest) × Fits t a × AllFit ts rest
unfolding AllFit
fit_cons t ts [] fits = absurd fits
fit_cons t ts (a ∷ rest) fits = (a, rest, refl, fits.0, fits.1)

fit_nil : (os : List Operand) → AllFit [] os → os ≡ []
unfolding AllFit
fit_nil [] fits = refl
fit_nil (a ∷ os) fits = absurd fits

-- what an operand names may be fetched where it is read, and written where it is written
pub record IsOpen (z : Setting) (o : Operand) : Type 0 where
  pub reads : o.role ≡ Use → (width : Width) (immediates : Immediates) → IsWord immediates width o.arg → IsUsable z o.arg
  pub reaches : o.role ≡ Use → (bytes : ℕ) → IsAddress bytes o.arg → IsReachable z o.arg
  pub slots : o.role ≡ Use → IsSlot o.arg → IsOwnSlot z o.arg
  pub writes : (home : Home) → IsWritten o home → IsPlaceFor z home

abbrev pub AreOpen : Setting → List Operand → Type 0
AreOpen z os = (k : ℕ) (o : Operand) → slice_get os k ≡ Some o → IsOpen z o

-- a home is a register once it is fetched
home_register : (z : Setting) (width : Width) (scratch : ℕ) (arg : Arg) → IsUsable z arg → IsWord NoImmediate width arg → IsRegister (source_of scratch arg)
home_register z width scratch (At (Reg r)) usable is = tt
home_register z width scratch (At (Spill n)) usable is = tt
home_register z width scratch (At (Tmp n)) usable is = absurd usable
home_register z width scratch (Imm word) usable is = absurd is.1
home_register z width scratch (Addr base offset) usable is = absurd usable
home_register z width scratch (Index base index shift) usable is = absurd usable
home_register z width scratch (FrameSlot n) usable is = absurd usable

fits_source : (z : Setting) (immediates : Immediates) (width : Width) (scratch : ℕ) (arg : Arg) → IsUsable z arg → IsWord immediates width arg → FitsSource immediates width (source_of scratch arg)
fits_source z immediates width scratch (At (Reg r)) usable is = tt
fits_source z immediates width scratch (At (Spill n)) usable is = tt
fits_source z immediates width scratch (At (Tmp n)) usable is = absurd usable
fits_source z immediates width scratch (Imm word) usable is = is
fits_source z immediates width scratch (Addr base offset) usable is = absurd usable
fits_source z immediates width scratch (Index base index shift) usable is = absurd usable
fits_source z immediates width scratch (FrameSlot n) usable is = absurd usable

constant_of : (z : Setting) (immediates : Immediates) (width : Width) (arg : Arg) → IsUsable z arg → IsWord immediates width arg → IsConstantOf width arg
constant_of z immediates width (At home) usable is = tt
constant_of z immediates width (Imm word) usable is = is.0
constant_of z immediates width (Addr base offset) usable is = tt
constant_of z immediates width (Index base index shift) usable is = tt
constant_of z immediates width (FrameSlot n) usable is = tt

-- a slot of the procedure by its number
slot_number : (z : Setting) (arg : Arg) → IsOwnSlot z arg → (n : ℕ) × (arg ≡ FrameSlot n) × (n < length z.procedure.slots)
slot_number z (FrameSlot n) own = (n, refl, own)
slot_number z (At home) own = absurd own
slot_number z (Imm word) own = absurd own
slot_number z (Addr base offset) own = absurd own
slot_number z (Index base index shift) own = absurd own

-- loads, stores, and ops whose instructions do one thing after the other
abbrev pub is_load_kind : Kind → Bool
is_load_kind (Loads extent extends) = true
is_load_kind _ = false

abbrev pub is_store_kind : Kind → Bool
is_store_kind (Stores extent) = true
is_store_kind _ = false

abbrev pub is_straight_kind : Kind → Bool
is_straight_kind Copies = true
is_straight_kind Computes = true
is_straight_kind SlotAddresses = true
is_straight_kind FramePointers = true
is_straight_kind _ = false

abbrev pub is_load : AirOp → Bool
is_load o = is_load_kind (kind_of o)

abbrev pub is_store_op : AirOp → Bool
is_store_op o = is_store_kind (kind_of o)

abbrev pub is_straight : AirOp → Bool
is_straight o = is_straight_kind (kind_of o)

-- ---- ops of one instruction

abbrev IsSimple : AirOp → Type 0
IsSimple op.Move = ⊥
IsSimple op.Shuffle = ⊥
IsSimple (op.SetIf test) = ⊥
IsSimple (op.SelectIf test) = ⊥
IsSimple op.Load8Z = ⊥
IsSimple op.Load8S = ⊥
IsSimple op.Load16Z = ⊥
IsSimple op.Load16S = ⊥
IsSimple op.Load = ⊥
IsSimple op.Store8 = ⊥
IsSimple op.Store16 = ⊥
IsSimple op.Store = ⊥
IsSimple op.SlotAddress = ⊥
IsSimple op.FramePointer = ⊥
IsSimple _ = Unit {0}

-- a test of one word
pub record OfOne (at : Width) (a : Operand) : Type 0 where
  pub role : a.role ≡ Use
  pub width : a.width ≡ at
  pub word : IsWord NoImmediate at a.arg

pub home_word : (width : Width) (arg : Arg) → IsHome arg → IsWord NoImmediate width arg
home_word width (At home) is = tt
home_word width (Imm word) is = absurd is
home_word width (Addr base offset) is = absurd is
home_word width (Index base index shift) is = absurd is
home_word width (FrameSlot n) is = absurd is

pub record IsOneTest (t : Test) (width : Width) (T : Takes) : Type 0 where
  pub fits : (a : Operand) → Fits T a → OfOne width a
  pub second : (r : Registers) (b : Source) (w : Width) → GivesSecond t r b w 0
  pub may : (b : Source) (a : Operand) → Fits T a → IsTested t width b
  pub set_code : (f : Frame) (a d : Operand) → inst_code f (op.SetIf t) (a ∷ d ∷ [])
      ≡ (fetch f 15 a.arg ++ []) ++ testing t a.width (source_of 15 a.arg) (source_of 16 d.arg)
      ∷ Select W32 true (result_reg d.arg) 31 31 (opposite_cond (condition t)) ∷ put_result f (result_reg d.arg) d.arg
  pub select_code : (f : Frame) (a p q d : Operand) → inst_code f (op.SelectIf t) (a ∷ p ∷ q ∷ d ∷ [])
      ≡ (fetch f 15 a.arg ++ []) ++ testing t a.width (source_of 15 a.arg) (source_of 16 p.arg) ∷ fetch f 15 p.arg ++ fetch f 16 q.arg
      ++ Select p.width false (result_reg d.arg) (reg_of (source_of 15 p.arg)) (reg_of (source_of 16 q.arg)) (condition t) ∷ put_result f (result_reg d.arg) d.arg
  pub sets : (w : Width) (x : ℕ) → computed (op.SetIf t) w (x ∷ []) ≡ Some (truth (passes t w x 0))
  pub selects : (w : Width) (x u v : ℕ) → computed (op.SelectIf t) w (x ∷ u ∷ v ∷ []) ≡ Some (if passes t w x 0 then u else v)

nonzero_test : (width : Width) → IsOneTest NonZero width (home width)
unfolding inst_code
nonzero_test width = record {
  fits = λ a fits. record { role = fits.0; width = fits.1; word = fits.2 };
  second = λ r b w. tt;
  may = λ b a fits. tt;
  set_code = λ f a d. refl;
  select_code = λ f a p q d. refl;
  sets = λ w x. refl;
  selects = λ w x u v. refl;
}

bit_test : (width : Width) (k : ℕ) → IsOneTest (Bit k) width (BitOf width k)
unfolding inst_code
bit_test width k = record {
  fits = λ a fits. record { role = fits.0; width = fits.1; word = home_word width a.arg fits.2 };
  second = λ r b w. tt;
  may = λ b a fits. fits.3;
  set_code = λ f a d. refl;
  select_code = λ f a p q d. refl;
  sets = λ w x. refl;
  selects = λ w x u v. refl;
}

module _ (z : Setting) (set : IsSet z) (serves : IsFrameOf z.procedure z.frame) where
  simple_code : (o : AirOp) (os : List Operand) → IsSimple o → inst_code z.frame o os ≡ compute_code z.frame o os
  unfolding inst_code
  simple_code op.Move os simple = absurd simple
  simple_code op.Shuffle os simple = absurd simple
  simple_code (op.SetIf test) os simple = absurd simple
  simple_code (op.SelectIf test) os simple = absurd simple
  simple_code op.Load8Z os simple = absurd simple
  simple_code op.Load8S os simple = absurd simple
  simple_code op.Load16Z os simple = absurd simple
  simple_code op.Load16S os simple = absurd simple
  simple_code op.Load os simple = absurd simple
  simple_code op.Store8 os simple = absurd simple
  simple_code op.Store16 os simple = absurd simple
  simple_code op.Store os simple = absurd simple
  simple_code op.SlotAddress os simple = absurd simple
  simple_code op.FramePointer os simple = absurd simple
  simple_code o os simple = refl

  one_form : (i : AirInst) (s : State) (c : Machine) (o : AirOp) (wa wd : Width) → i.op ≡ o → IsSimple o → kind_of o ≡ Computes
      → AllFit (home wa ∷ Result wd ∷ []) i.operands → IsWidthOf o wa → ((b : Arg) → IsComputed o wa (source_of 16 b))
      → AreOpen z i.operands → IsRelated z s c → InstRuns z i s c
  one_form i s c o wa wd e simple kind fits at computes opened rel =
      let a = fit_cons (home wa) (Result wd ∷ []) i.operands fits in
      let d = fit_cons (Result wd) [] a.1 a.4 in
      let operands : i.operands ≡ a.0 ∷ d.0 ∷ [] = a.2 ∙ ap (λ os. a.0 ∷ os) (d.2 ∙ ap (λ os. d.0 ∷ os) (fit_nil d.1 d.4)) in
      let written = written_home wd d.0 d.3 in
      let usable = (opened 0 a.0 (ap (λ os. slice_get os 0) operands)).reads a.3.0 wa NoImmediate a.3.2 in
      let width : a.0.width ≡ wa = a.3.1 in
      one_runs z set serves i s c a.0 d.0 written.0 operands (simple_code i.op (a.0 ∷ d.0 ∷ []) (subst IsSimple (sym e) simple)) (ap kind_of e ∙ kind) a.3.0 written.1 rel
      usable ((opened 1 d.0 (ap (λ os. slice_get os 1) operands)).writes written.0 written.1)
      (subst (IsWidthOf i.op) (sym width) (subst (λ o. IsWidthOf o wa) (sym e) at)) (home_register z wa 15 a.0.arg usable a.3.2)
      (subst (λ w. IsComputed i.op w (source_of 16 d.0.arg)) (sym width) (subst (λ o. IsComputed o wa (source_of 16 d.0.arg)) (sym e) (computes d.0.arg)))

  two_form : (i : AirInst) (s : State) (c : Machine) (o : AirOp) (wa wb wd : Width) (immediates : Immediates) → i.op ≡ o → IsSimple o → kind_of o ≡ Computes
      → AllFit (home wa ∷ Word wb immediates ∷ Result wd ∷ []) i.operands → IsWidthOf o wa → wb ≡ second_width o wa → (takes_constant o ≡ false → immediates ≡ NoImmediate)
      → ((b : Arg) → IsUsable z b → IsWord immediates wb b → IsComputed o wa (source_of 16 b))
      → AreOpen z i.operands → IsRelated z s c → InstRuns z i s c
  two_form i s c o wa wb wd immediates e simple kind fits at second none computes opened rel =
      let a = fit_cons (home wa) (Word wb immediates ∷ Result wd ∷ []) i.operands fits in
      let b = fit_cons (Word wb immediates) (Result wd ∷ []) a.1 a.4 in
      let d = fit_cons (Result wd) [] b.1 b.4 in
      let operands : i.operands ≡ a.0 ∷ b.0 ∷ d.0 ∷ [] =
      a.2 ∙ ap (λ os. a.0 ∷ os) (b.2 ∙ ap (λ os. b.0 ∷ os) (d.2 ∙ ap (λ os. d.0 ∷ os) (fit_nil d.1 d.4))) in
      let written = written_home wd d.0 d.3 in
      let usable_a = (opened 0 a.0 (ap (λ os. slice_get os 0) operands)).reads a.3.0 wa NoImmediate a.3.2 in
      let usable_b = (opened 1 b.0 (ap (λ os. slice_get os 1) operands)).reads b.3.0 wb immediates b.3.2 in
      let width : a.0.width ≡ wa = a.3.1 in
      two_runs z set serves i s c a.0 b.0 d.0 written.0 operands (simple_code i.op (a.0 ∷ b.0 ∷ d.0 ∷ []) (subst IsSimple (sym e) simple)) (ap kind_of e ∙ kind) a.3.0 b.3.0 written.1 rel
      usable_a usable_b ((opened 2 d.0 (ap (λ os. slice_get os 2) operands)).writes written.0 written.1)
      (subst (IsWidthOf i.op) (sym width) (subst (λ o. IsWidthOf o wa) (sym e) at))
      (b.3.1 ∙ second ∙ ap (λ o. second_width o wa) (sym e) ∙ ap (second_width i.op) (sym width))
      (home_register z wa 15 a.0.arg usable_a a.3.2)
      (λ no_constant. home_register z wb 16 b.0.arg usable_b (subst (λ m. IsWord m wb b.0.arg) (none (ap takes_constant (sym e) ∙ no_constant)) b.3.2))
      (subst (λ w. IsComputed i.op w (source_of 16 b.0.arg)) (sym width) (subst (λ o. IsComputed o wa (source_of 16 b.0.arg)) (sym e) (computes b.0.arg usable_b b.3.2)))

  three_form : (i : AirInst) (s : State) (c : Machine) (o : AirOp) (wa wd : Width) → i.op ≡ o → IsSimple o → kind_of o ≡ Computes
      → AllFit (home wa ∷ home wa ∷ home wa ∷ Result wd ∷ []) i.operands → IsWidthOf o wa → ((b : Arg) → IsComputed o wa (source_of 16 b))
      → AreOpen z i.operands → IsRelated z s c → InstRuns z i s c
  three_form i s c o wa wd e simple kind fits at computes opened rel =
      let a = fit_cons (home wa) (home wa ∷ home wa ∷ Result wd ∷ []) i.operands fits in
      let b = fit_cons (home wa) (home wa ∷ Result wd ∷ []) a.1 a.4 in
      let x = fit_cons (home wa) (Result wd ∷ []) b.1 b.4 in
      let d = fit_cons (Result wd) [] x.1 x.4 in
      let operands : i.operands ≡ a.0 ∷ b.0 ∷ x.0 ∷ d.0 ∷ [] =
      a.2 ∙ ap (λ os. a.0 ∷ os) (b.2 ∙ ap (λ os. b.0 ∷ os) (x.2 ∙ ap (λ os. x.0 ∷ os) (d.2 ∙ ap (λ os. d.0 ∷ os) (fit_nil d.1 d.4)))) in
      let written = written_home wd d.0 d.3 in
      let usable_a = (opened 0 a.0 (ap (λ os. slice_get os 0) operands)).reads a.3.0 wa NoImmediate a.3.2 in
      let usable_b = (opened 1 b.0 (ap (λ os. slice_get os 1) operands)).reads b.3.0 wa NoImmediate b.3.2 in
      let usable_x = (opened 2 x.0 (ap (λ os. slice_get os 2) operands)).reads x.3.0 wa NoImmediate x.3.2 in
      let width : a.0.width ≡ wa = a.3.1 in
      three_runs z set serves i s c a.0 b.0 x.0 d.0 written.0 operands (simple_code i.op (a.0 ∷ b.0 ∷ x.0 ∷ d.0 ∷ []) (subst IsSimple (sym e) simple)) (ap kind_of e ∙ kind) a.3.0 b.3.0 x.3.0 written.1 rel
      usable_a usable_b usable_x ((opened 3 d.0 (ap (λ os. slice_get os 3) operands)).writes written.0 written.1)
      (subst (IsWidthOf i.op) (sym width) (subst (λ o. IsWidthOf o wa) (sym e) at)) (b.3.1 ∙ sym width) (x.3.1 ∙ sym width)
      (home_register z wa 15 a.0.arg usable_a a.3.2) (home_register z wa 16 b.0.arg usable_b b.3.2) (home_register z wa 17 x.0.arg usable_x x.3.2)
      (subst (λ w. IsComputed i.op w (source_of 16 b.0.arg)) (sym width) (subst (λ o. IsComputed o wa (source_of 16 b.0.arg)) (sym e) (computes b.0.arg)))

  -- ---- copies

  move_form : (i : AirInst) (s : State) (c : Machine) (width : Width) → i.op ≡ op.Move → AllFit (Word width AnyWord ∷ Result width ∷ []) i.operands
      → AreOpen z i.operands → IsRelated z s c → InstRuns z i s c
  unfolding inst_code
  move_form i s c width e fits opened rel =
      let a = fit_cons (Word width AnyWord) (Result width ∷ []) i.operands fits in
      let d = fit_cons (Result width) [] a.1 a.4 in
      let operands : i.operands ≡ a.0 ∷ d.0 ∷ [] = a.2 ∙ ap (λ os. a.0 ∷ os) (d.2 ∙ ap (λ os. d.0 ∷ os) (fit_nil d.1 d.4)) in
      let written = written_home width d.0 d.3 in
      let usable = (opened 0 a.0 (ap (λ os. slice_get os 0) operands)).reads a.3.0 width AnyWord a.3.2 in
      copy_runs z set serves i s c a.0 d.0 written.0 operands (ap (λ o. inst_code z.frame o (a.0 ∷ d.0 ∷ [])) e) (ap kind_of e) a.3.0 (d.3.1 ∙ sym a.3.1) written.1 rel
      usable (subst (λ w. IsConstantOf w a.0.arg) (sym a.3.1) (constant_of z AnyWord width a.0.arg usable a.3.2))
      ((opened 1 d.0 (ap (λ os. slice_get os 1) operands)).writes written.0 written.1)

  -- the moves of a Shuffle are from what may be fetched to homes in which a result may be put
  given_moves : (os : List Operand) → ArePairs os → AreOpen z os → All (IsGiven z) (moves_of os)
  unfolding moves_of ArePairs AllFit
  given_moves [] are opened = All-nil (IsGiven z)
  given_moves (o ∷ []) are opened = absurd are
  given_moves (from ∷ to ∷ os) are opened =
      let a = are.1.0 in
      let d = are.1.1.0 in
      let written = written_home are.0 to d in
      let usable = (opened 0 from refl).reads a.0 are.0 AnyWord a.2 in
      All-cons (IsGiven z) _ (moves_of os)
      (record {
        usable = usable;
        place = subst (IsPlaceFor z) (sym (ap home_of written.1.arg)) ((opened 1 to refl).writes written.0 written.1);
        constant = subst (λ w. IsConstantOf w from.arg) (sym a.1) (constant_of z AnyWord are.0 from.arg usable a.2);
      })
      (given_moves os are.2 (λ k o there. opened (suc (suc k)) o there))

  shuffle_form : (i : AirInst) (s : State) (c : Machine) → i.op ≡ op.Shuffle → ArePairs i.operands × WritesApart i.operands
      → AreOpen z i.operands → IsRelated z s c → InstRuns z i s c
  unfolding inst_code
  shuffle_form i s c e has opened rel =
      shuffle_runs z set serves i s c e (given_moves i.operands has.0 opened) has.0 has.1 rel (ap (λ o. inst_code z.frame o i.operands) e)

  -- ---- memory

  load_form : (i : AirInst) (s : State) (c : Machine) (o : AirOp) (width : Width) (kind : AccessKind) (extent : Extent) (extends : Bool) → i.op ≡ o
      → ((os : List Operand) → inst_code z.frame o os ≡ load_code z.frame o os) → access_kind o width ≡ kind
      → kind_of o ≡ Loads extent extends → IsLoad kind extent extends width
      → AllFit (load width (access_bytes kind)) i.operands → AreOpen z i.operands → IsRelated z s c → AccessRuns z i s c (fetch_address z.frame (arg_at i.operands 0)) (load_inst i.op i.operands)
  load_form i s c o width kind extent extends e code same loads is fits opened rel =
      let a = fit_cons (Address width (access_bytes kind)) (Result width ∷ []) i.operands fits in
      let d = fit_cons (Result width) [] a.1 a.4 in
      let operands : i.operands ≡ a.0 ∷ d.0 ∷ [] = a.2 ∙ ap (λ os. a.0 ∷ os) (d.2 ∙ ap (λ os. d.0 ∷ os) (fit_nil d.1 d.4)) in
      let written = written_home width d.0 d.3 in
      let reachable = (opened 0 a.0 (ap (λ os. slice_get os 0) operands)).reaches a.3.0 (access_bytes kind) a.3.2 in
      load_runs z set serves i s c a.0 d.0 written.0 kind extent extends operands
      (subst (λ o. inst_code z.frame o (a.0 ∷ d.0 ∷ []) ≡ load_code z.frame o (a.0 ∷ d.0 ∷ [])) (sym e) (code (a.0 ∷ d.0 ∷ [])))
      (subst (λ o. access_kind o a.0.width ≡ kind) (sym e) (ap (access_kind o) a.3.1 ∙ same)) (ap kind_of e ∙ loads)
      (subst (IsLoad kind extent extends) (sym a.3.1) is) a.3.0 written.1 rel reachable a.3.2
      ((opened 1 d.0 (ap (λ os. slice_get os 1) operands)).writes written.0 written.1)

  word_load_form : (i : AirInst) (s : State) (c : Machine) (width other : Width) → i.op ≡ op.Load → AreThese (takes op.Load width other) i.operands
      → AreOpen z i.operands → IsRelated z s c → AccessRuns z i s c (fetch_address z.frame (arg_at i.operands 0)) (load_inst i.op i.operands)
  unfolding inst_code
  word_load_form i s c W32 other e fits opened rel =
      load_form i s c op.Load W32 LdrW Whole false e (λ os. refl) refl refl load_32 fits opened rel
  word_load_form i s c W64 other e fits opened rel =
      load_form i s c op.Load W64 LdrX Whole false e (λ os. refl) refl refl load_64 fits opened rel

  store_form : (i : AirInst) (s : State) (c : Machine) (o : AirOp) (width : Width) (kind : AccessKind) (extent : Extent) → i.op ≡ o
      → ((os : List Operand) → inst_code z.frame o os ≡ store_code z.frame o os) → access_kind o width ≡ kind
      → kind_of o ≡ Stores extent → IsStore kind extent width
      → AllFit (store width (access_bytes kind)) i.operands → AreOpen z i.operands → IsRelated z s c → AccessRuns z i s c (fetch_stored z.frame i.operands) (store_inst i.op i.operands)
  store_form i s c o width kind extent e code same stores is fits opened rel =
      let a = fit_cons (Word width OnlyZero) (Address width (access_bytes kind) ∷ []) i.operands fits in
      let b = fit_cons (Address width (access_bytes kind)) [] a.1 a.4 in
      let operands : i.operands ≡ a.0 ∷ b.0 ∷ [] = a.2 ∙ ap (λ os. a.0 ∷ os) (b.2 ∙ ap (λ os. b.0 ∷ os) (fit_nil b.1 b.4)) in
      let usable = (opened 0 a.0 (ap (λ os. slice_get os 0) operands)).reads a.3.0 width OnlyZero a.3.2 in
      let reachable = (opened 1 b.0 (ap (λ os. slice_get os 1) operands)).reaches b.3.0 (access_bytes kind) b.3.2 in
      store_runs z set serves i s c a.0 b.0 kind extent operands
      (subst (λ o. inst_code z.frame o (a.0 ∷ b.0 ∷ []) ≡ store_code z.frame o (a.0 ∷ b.0 ∷ [])) (sym e) (code (a.0 ∷ b.0 ∷ [])))
      (subst (λ o. access_kind o a.0.width ≡ kind) (sym e) (ap (access_kind o) a.3.1 ∙ same)) (ap kind_of e ∙ stores)
      (subst (IsStore kind extent) (sym a.3.1) is) a.3.0 b.3.0 rel usable (subst (λ w. IsWord OnlyZero w a.0.arg) (sym a.3.1) a.3.2) reachable b.3.2

  word_store_form : (i : AirInst) (s : State) (c : Machine) (width other : Width) → i.op ≡ op.Store → AreThese (takes op.Store width other) i.operands
      → AreOpen z i.operands → IsRelated z s c → AccessRuns z i s c (fetch_stored z.frame i.operands) (store_inst i.op i.operands)
  unfolding inst_code
  word_store_form i s c W32 other e fits opened rel =
      store_form i s c op.Store W32 StrW Whole e (λ os. refl) refl refl store_32 fits opened rel
  word_store_form i s c W64 other e fits opened rel =
      store_form i s c op.Store W64 StrX Whole e (λ os. refl) refl refl store_64 fits opened rel

  slot_form : (i : AirInst) (s : State) (c : Machine) → i.op ≡ op.SlotAddress → AllFit (Slot ∷ Result W64 ∷ []) i.operands
      → AreOpen z i.operands → IsRelated z s c → InstRuns z i s c
  unfolding inst_code
  slot_form i s c e fits opened rel =
      let a = fit_cons Slot (Result W64 ∷ []) i.operands fits in
      let d = fit_cons (Result W64) [] a.1 a.4 in
      let operands : i.operands ≡ a.0 ∷ d.0 ∷ [] = a.2 ∙ ap (λ os. a.0 ∷ os) (d.2 ∙ ap (λ os. d.0 ∷ os) (fit_nil d.1 d.4)) in
      let written = written_home W64 d.0 d.3 in
      let slot = slot_number z a.0.arg ((opened 0 a.0 (ap (λ os. slice_get os 0) operands)).slots a.3.0 a.3.2) in
      slot_runs z set serves i s c a.0 d.0 written.0 slot.0 operands slot.1 (ap (λ o. inst_code z.frame o (a.0 ∷ d.0 ∷ [])) e) (ap kind_of e) a.3.0 slot.2
      written.1 rel ((opened 1 d.0 (ap (λ os. slice_get os 1) operands)).writes written.0 written.1)

  pointer_form : (i : AirInst) (s : State) (c : Machine) → i.op ≡ op.FramePointer → AllFit (Result W64 ∷ []) i.operands
      → AreOpen z i.operands → IsRelated z s c → InstRuns z i s c
  unfolding inst_code
  pointer_form i s c e fits opened rel =
      let d = fit_cons (Result W64) [] i.operands fits in
      let operands : i.operands ≡ d.0 ∷ [] = d.2 ∙ ap (λ os. d.0 ∷ os) (fit_nil d.1 d.4) in
      let written = written_home W64 d.0 d.3 in
      pointer_runs z set serves i s c d.0 written.0 operands (ap (λ o. inst_code z.frame o (d.0 ∷ [])) e) (ap kind_of e)
      written.1 rel ((opened 0 d.0 (ap (λ os. slice_get os 0) operands)).writes written.0 written.1)

  -- ---- tests

  -- SetIf of a comparison
  set_compare : (i : AirInst) (s : State) (c : Machine) (cond : Cond) (width : Width) → i.op ≡ op.SetIf (Compare cond)
      → AllFit (home width ∷ Word width OfSum ∷ Result W32 ∷ []) i.operands → AreOpen z i.operands → IsRelated z s c → InstRuns z i s c
  unfolding inst_code
  set_compare i s c cond width e fits opened rel =
      let a = fit_cons (home width) (Word width OfSum ∷ Result W32 ∷ []) i.operands fits in
      let b = fit_cons (Word width OfSum) (Result W32 ∷ []) a.1 a.4 in
      let d = fit_cons (Result W32) [] b.1 b.4 in
      let operands : i.operands ≡ a.0 ∷ b.0 ∷ d.0 ∷ [] = a.2 ∙ ap (λ os. a.0 ∷ os) (b.2 ∙ ap (λ os. b.0 ∷ os) (d.2 ∙ ap (λ os. d.0 ∷ os) (fit_nil d.1 d.4))) in
      let written = written_home W32 d.0 d.3 in
      let usable_a = (opened 0 a.0 (ap (λ os. slice_get os 0) operands)).reads a.3.0 width NoImmediate a.3.2 in
      let usable_b = (opened 1 b.0 (ap (λ os. slice_get os 1) operands)).reads b.3.0 width OfSum b.3.2 in
      let may = (opened 2 d.0 (ap (λ os. slice_get os 2) operands)).writes written.0 written.1 in
      let same : b.0.width ≡ a.0.width = b.3.1 ∙ sym a.3.1 in
      let A : Option ℕ = word_of s.homes a.0.width a.0.arg in
      let B : Option ℕ = word_of s.homes b.0.width b.0.arg in
      let All : Option ℕ → Option ℕ → Option (List Read) = λ A B. and_word a.0.width A (and_word b.0.width B (Some [])) in
      let reads : words s.homes i.operands ≡ All A B =
      ap (words s.homes) operands ∙ words_use s.homes a.0 (b.0 ∷ d.0 ∷ []) a.3.0
      ∙ ap (and_word a.0.width A) (words_use s.homes b.0 (d.0 ∷ []) b.3.0 ∙ ap (and_word b.0.width B) (words_result s.homes d.0 written.0 written.1)) in
      let writes = ap targets operands ∙ targets_use a.0 (b.0 ∷ d.0 ∷ []) a.3.0 ∙ targets_use b.0 (d.0 ∷ []) b.3.0 ∙ targets_result d.0 written.0 written.1 in
      elim (word_of s.homes a.0.width a.0.arg) as (λ o. word_of s.homes a.0.width a.0.arg ≡ o → InstRuns z i s c) [
        | None ↦ λ p. inl (step_lost z.start i s (reads ∙ ap (λ o. All o B) p))
        | Some x ↦ λ p.
            elim (word_of s.homes b.0.width b.0.arg) as (λ o. word_of s.homes b.0.width b.0.arg ≡ o → InstRuns z i s c) [
              | None ↦ λ q. inl (step_lost z.start i s (reads ∙ ap (λ o. All o B) p ∙ ap (λ o. All (Some x) o) q))
              | Some y ↦ λ q.
                  let read = reads ∙ ap (λ o. All o B) p ∙ ap (λ o. All (Some x) o) q in
                  let rs : List Read = (a.0.width, x) ∷ (b.0.width, y) ∷ [] in
                  let t : Test = Compare cond in
                  let ready = ready_two z set serves s c cond a.0.arg b.0.arg a.0.width x y rel usable_a usable_b p (ap (λ w. word_of s.homes w b.0.arg) (sym same) ∙ q) in
                  inr (set_end z set serves i s c t _ (source_of 15 a.0.arg) (source_of 16 b.0.arg) a.0.width x y d.0 written.0 ready written.1 may
                  (home_register z width 15 a.0.arg usable_a a.3.2)
                  (subst (λ w. IsTested t w (source_of 16 b.0.arg)) (sym a.3.1) (fits_source z OfSum width 16 b.0.arg usable_b b.3.2))
                  (source_most z 15 a.0.arg (omega arith) usable_a) (source_most z 16 b.0.arg (omega arith) usable_b)
                  (ap (λ os. inst_code z.frame i.op os) operands ∙ ap (λ o. inst_code z.frame o (a.0 ∷ b.0 ∷ d.0 ∷ [])) e)
                  (step_gives z.start i s rs written.0 d.0.width (truth (passes t a.0.width x y)) read writes
                  (computes_word z.start i s rs (truth (passes t a.0.width x y)) (ap kind_of e) (ap (λ o. computed o a.0.width (x ∷ y ∷ [])) e))))
            ] refl
      ] refl

  -- SetIf of a test of one word
  set_one : (i : AirInst) (s : State) (c : Machine) (t : Test) (width : Width) (T : Takes) → i.op ≡ op.SetIf t
      → AllFit (T ∷ Result W32 ∷ []) i.operands → IsOneTest t width T → AreOpen z i.operands → IsRelated z s c → InstRuns z i s c
  unfolding inst_code
  set_one i s c t width T e fits one opened rel =
      let a = fit_cons T (Result W32 ∷ []) i.operands fits in
      let d = fit_cons (Result W32) [] a.1 a.4 in
      let operands : i.operands ≡ a.0 ∷ d.0 ∷ [] = a.2 ∙ ap (λ os. a.0 ∷ os) (d.2 ∙ ap (λ os. d.0 ∷ os) (fit_nil d.1 d.4)) in
      let tested = one.fits a.0 a.3 in
      let written = written_home W32 d.0 d.3 in
      let usable_a = (opened 0 a.0 (ap (λ os. slice_get os 0) operands)).reads tested.role width NoImmediate tested.word in
      let may = (opened 1 d.0 (ap (λ os. slice_get os 1) operands)).writes written.0 written.1 in
      let reads : words s.homes i.operands ≡ and_word a.0.width (word_of s.homes a.0.width a.0.arg) (Some []) =
      ap (words s.homes) operands ∙ words_use s.homes a.0 (d.0 ∷ []) tested.role ∙ ap (and_word a.0.width (word_of s.homes a.0.width a.0.arg)) (words_result s.homes d.0 written.0 written.1) in
      let writes = ap targets operands ∙ targets_use a.0 (d.0 ∷ []) tested.role ∙ targets_result d.0 written.0 written.1 in
      let place = place_usable z written.0 may in
      elim (word_of s.homes a.0.width a.0.arg) as (λ o. word_of s.homes a.0.width a.0.arg ≡ o → InstRuns z i s c) [
        | None ↦ λ p. inl (step_lost z.start i s (reads ∙ ap (λ o. and_word a.0.width o (Some [])) p))
        | Some x ↦ λ p.
            let read = reads ∙ ap (λ o. and_word a.0.width o (Some [])) p in
            let rs : List Read = (a.0.width, x) ∷ [] in
            let ready = ready_one z set serves s c t a.0.arg (source_of 16 d.0.arg) a.0.width x rel usable_a (λ r. one.second r (source_of 16 d.0.arg) a.0.width) p in
            inr (set_end z set serves i s c t _ (source_of 15 a.0.arg) (source_of 16 d.0.arg) a.0.width x 0 d.0 written.0 ready written.1 may
            (home_register z width 15 a.0.arg usable_a tested.word)
            (subst (λ w. IsTested t w (source_of 16 d.0.arg)) (sym tested.width) (one.may (source_of 16 d.0.arg) a.0 a.3))
            (source_most z 15 a.0.arg (omega arith) usable_a) (subst (λ arg. reg_of (source_of 16 arg) ≤ 31) (sym written.1.arg) (source_most z 16 (At written.0) (omega arith) place))
            (ap (λ os. inst_code z.frame i.op os) operands ∙ ap (λ o. inst_code z.frame o (a.0 ∷ d.0 ∷ [])) e ∙ one.set_code z.frame a.0 d.0)
            (step_gives z.start i s rs written.0 d.0.width (truth (passes t a.0.width x 0)) read writes
            (computes_word z.start i s rs (truth (passes t a.0.width x 0)) (ap kind_of e) (ap (λ o. computed o a.0.width (x ∷ [])) e ∙ one.sets a.0.width x))))
      ] refl

  -- SelectIf of a comparison
  select_compare : (i : AirInst) (s : State) (c : Machine) (cond : Cond) (width other : Width) → i.op ≡ op.SelectIf (Compare cond)
      → AllFit (home width ∷ Word width OfSum ∷ home other ∷ home other ∷ Result other ∷ []) i.operands → AreOpen z i.operands → IsRelated z s c → InstRuns z i s c
  unfolding inst_code
  select_compare i s c cond width other e fits opened rel =
      let a = fit_cons (home width) (Word width OfSum ∷ home other ∷ home other ∷ Result other ∷ []) i.operands fits in
      let b = fit_cons (Word width OfSum) (home other ∷ home other ∷ Result other ∷ []) a.1 a.4 in
      let m = fit_cons (home other) (home other ∷ Result other ∷ []) b.1 b.4 in
      let n = fit_cons (home other) (Result other ∷ []) m.1 m.4 in
      let d = fit_cons (Result other) [] n.1 n.4 in
      let operands : i.operands ≡ a.0 ∷ b.0 ∷ m.0 ∷ n.0 ∷ d.0 ∷ [] =
      a.2 ∙ ap (λ os. a.0 ∷ os) (b.2 ∙ ap (λ os. b.0 ∷ os) (m.2 ∙ ap (λ os. m.0 ∷ os) (n.2 ∙ ap (λ os. n.0 ∷ os) (d.2 ∙ ap (λ os. d.0 ∷ os) (fit_nil d.1 d.4))))) in
      let written = written_home other d.0 d.3 in
      let usable_a = (opened 0 a.0 (ap (λ os. slice_get os 0) operands)).reads a.3.0 width NoImmediate a.3.2 in
      let usable_b = (opened 1 b.0 (ap (λ os. slice_get os 1) operands)).reads b.3.0 width OfSum b.3.2 in
      let usable_m = (opened 2 m.0 (ap (λ os. slice_get os 2) operands)).reads m.3.0 other NoImmediate m.3.2 in
      let usable_n = (opened 3 n.0 (ap (λ os. slice_get os 3) operands)).reads n.3.0 other NoImmediate n.3.2 in
      let may = (opened 4 d.0 (ap (λ os. slice_get os 4) operands)).writes written.0 written.1 in
      let same : b.0.width ≡ a.0.width = b.3.1 ∙ sym a.3.1 in
      let same_n : n.0.width ≡ m.0.width = n.3.1 ∙ sym m.3.1 in
      let All : Option ℕ → Option ℕ → Option ℕ → Option ℕ → Option (List Read) =
      λ A B M N. and_word a.0.width A (and_word b.0.width B (and_word m.0.width M (and_word n.0.width N (Some [])))) in
      let A : Option ℕ = word_of s.homes a.0.width a.0.arg in
      let B : Option ℕ = word_of s.homes b.0.width b.0.arg in
      let M : Option ℕ = word_of s.homes m.0.width m.0.arg in
      let N : Option ℕ = word_of s.homes n.0.width n.0.arg in
      let reads : words s.homes i.operands ≡ All A B M N =
      ap (words s.homes) operands ∙ words_use s.homes a.0 (b.0 ∷ m.0 ∷ n.0 ∷ d.0 ∷ []) a.3.0
      ∙ ap (and_word a.0.width A) (words_use s.homes b.0 (m.0 ∷ n.0 ∷ d.0 ∷ []) b.3.0
      ∙ ap (and_word b.0.width B) (words_use s.homes m.0 (n.0 ∷ d.0 ∷ []) m.3.0
      ∙ ap (and_word m.0.width M) (words_use s.homes n.0 (d.0 ∷ []) n.3.0 ∙ ap (and_word n.0.width N) (words_result s.homes d.0 written.0 written.1)))) in
      let writes = ap targets operands ∙ targets_use a.0 (b.0 ∷ m.0 ∷ n.0 ∷ d.0 ∷ []) a.3.0 ∙ targets_use b.0 (m.0 ∷ n.0 ∷ d.0 ∷ []) b.3.0
      ∙ targets_use m.0 (n.0 ∷ d.0 ∷ []) m.3.0 ∙ targets_use n.0 (d.0 ∷ []) n.3.0 ∙ targets_result d.0 written.0 written.1 in
      elim (word_of s.homes a.0.width a.0.arg) as (λ o. word_of s.homes a.0.width a.0.arg ≡ o → InstRuns z i s c) [
        | None ↦ λ p. inl (step_lost z.start i s (reads ∙ ap (λ o. All o B M N) p))
        | Some x ↦ λ p. elim (word_of s.homes b.0.width b.0.arg) as (λ o. word_of s.homes b.0.width b.0.arg ≡ o → InstRuns z i s c) [
          | None ↦ λ q. inl (step_lost z.start i s (reads ∙ ap (λ o. All o B M N) p ∙ ap (λ o. All (Some x) o M N) q))
          | Some y ↦ λ q. elim (word_of s.homes m.0.width m.0.arg) as (λ o. word_of s.homes m.0.width m.0.arg ≡ o → InstRuns z i s c) [
            | None ↦ λ r. inl (step_lost z.start i s (reads ∙ ap (λ o. All o B M N) p ∙ ap (λ o. All (Some x) o M N) q ∙ ap (λ o. All (Some x) (Some y) o N) r))
            | Some u ↦ λ r. elim (word_of s.homes n.0.width n.0.arg) as (λ o. word_of s.homes n.0.width n.0.arg ≡ o → InstRuns z i s c) [
              | None ↦ λ l. inl (step_lost z.start i s
                  (reads ∙ ap (λ o. All o B M N) p ∙ ap (λ o. All (Some x) o M N) q ∙ ap (λ o. All (Some x) (Some y) o N) r ∙ ap (λ o. All (Some x) (Some y) (Some u) o) l))
              | Some v ↦ λ l.
                  let read = reads ∙ ap (λ o. All o B M N) p ∙ ap (λ o. All (Some x) o M N) q ∙ ap (λ o. All (Some x) (Some y) o N) r ∙ ap (λ o. All (Some x) (Some y) (Some u) o) l in
                  let rs : List Read = (a.0.width, x) ∷ (b.0.width, y) ∷ (m.0.width, u) ∷ (n.0.width, v) ∷ [] in
                  let t : Test = Compare cond in
                  let ready = ready_two z set serves s c cond a.0.arg b.0.arg a.0.width x y rel usable_a usable_b p (ap (λ w. word_of s.homes w b.0.arg) (sym same) ∙ q) in
                  inr (select_end z set serves i s c t _ (source_of 15 a.0.arg) (source_of 16 b.0.arg) a.0.width x y m.0.arg n.0.arg m.0.width u v d.0 written.0 ready written.1 may
                  (home_register z width 15 a.0.arg usable_a a.3.2)
                  (subst (λ w. IsTested t w (source_of 16 b.0.arg)) (sym a.3.1) (fits_source z OfSum width 16 b.0.arg usable_b b.3.2))
                  (source_most z 15 a.0.arg (omega arith) usable_a) (source_most z 16 b.0.arg (omega arith) usable_b)
                  usable_m usable_n (home_register z other 15 m.0.arg usable_m m.3.2) (home_register z other 16 n.0.arg usable_n n.3.2)
                  r (ap (λ w. word_of s.homes w n.0.arg) (sym same_n) ∙ l)
                  (ap (λ os. inst_code z.frame i.op os) operands ∙ ap (λ o. inst_code z.frame o (a.0 ∷ b.0 ∷ m.0 ∷ n.0 ∷ d.0 ∷ [])) e)
                  (step_gives z.start i s rs written.0 d.0.width (if passes t a.0.width x y then u else v) read writes
                  (computes_word z.start i s rs (if passes t a.0.width x y then u else v) (ap kind_of e) (ap (λ o. computed o a.0.width (x ∷ y ∷ u ∷ v ∷ [])) e))))
            ] refl
          ] refl
        ] refl
      ] refl

  -- SelectIf of a test of one word
  select_one : (i : AirInst) (s : State) (c : Machine) (t : Test) (width other : Width) (T : Takes) → i.op ≡ op.SelectIf t
      → AllFit (T ∷ home other ∷ home other ∷ Result other ∷ []) i.operands → IsOneTest t width T → AreOpen z i.operands → IsRelated z s c → InstRuns z i s c
  select_one i s c t width other T e fits one opened rel =
      let a = fit_cons T (home other ∷ home other ∷ Result other ∷ []) i.operands fits in
      let m = fit_cons (home other) (home other ∷ Result other ∷ []) a.1 a.4 in
      let n = fit_cons (home other) (Result other ∷ []) m.1 m.4 in
      let d = fit_cons (Result other) [] n.1 n.4 in
      let operands : i.operands ≡ a.0 ∷ m.0 ∷ n.0 ∷ d.0 ∷ [] =
      a.2 ∙ ap (λ os. a.0 ∷ os) (m.2 ∙ ap (λ os. m.0 ∷ os) (n.2 ∙ ap (λ os. n.0 ∷ os) (d.2 ∙ ap (λ os. d.0 ∷ os) (fit_nil d.1 d.4)))) in
      let tested = one.fits a.0 a.3 in
      let written = written_home other d.0 d.3 in
      let usable_a = (opened 0 a.0 (ap (λ os. slice_get os 0) operands)).reads tested.role width NoImmediate tested.word in
      let usable_m = (opened 1 m.0 (ap (λ os. slice_get os 1) operands)).reads m.3.0 other NoImmediate m.3.2 in
      let usable_n = (opened 2 n.0 (ap (λ os. slice_get os 2) operands)).reads n.3.0 other NoImmediate n.3.2 in
      let may = (opened 3 d.0 (ap (λ os. slice_get os 3) operands)).writes written.0 written.1 in
      let same_n : n.0.width ≡ m.0.width = n.3.1 ∙ sym m.3.1 in
      let All : Option ℕ → Option ℕ → Option ℕ → Option (List Read) = λ A M N. and_word a.0.width A (and_word m.0.width M (and_word n.0.width N (Some []))) in
      let A : Option ℕ = word_of s.homes a.0.width a.0.arg in
      let M : Option ℕ = word_of s.homes m.0.width m.0.arg in
      let N : Option ℕ = word_of s.homes n.0.width n.0.arg in
      let reads : words s.homes i.operands ≡ All A M N =
      ap (words s.homes) operands ∙ words_use s.homes a.0 (m.0 ∷ n.0 ∷ d.0 ∷ []) tested.role
      ∙ ap (and_word a.0.width A) (words_use s.homes m.0 (n.0 ∷ d.0 ∷ []) m.3.0
      ∙ ap (and_word m.0.width M) (words_use s.homes n.0 (d.0 ∷ []) n.3.0 ∙ ap (and_word n.0.width N) (words_result s.homes d.0 written.0 written.1))) in
      let writes = ap targets operands ∙ targets_use a.0 (m.0 ∷ n.0 ∷ d.0 ∷ []) tested.role
      ∙ targets_use m.0 (n.0 ∷ d.0 ∷ []) m.3.0 ∙ targets_use n.0 (d.0 ∷ []) n.3.0 ∙ targets_result d.0 written.0 written.1 in
      elim (word_of s.homes a.0.width a.0.arg) as (λ o. word_of s.homes a.0.width a.0.arg ≡ o → InstRuns z i s c) [
        | None ↦ λ p. inl (step_lost z.start i s (reads ∙ ap (λ o. All o M N) p))
        | Some x ↦ λ p. elim (word_of s.homes m.0.width m.0.arg) as (λ o. word_of s.homes m.0.width m.0.arg ≡ o → InstRuns z i s c) [
          | None ↦ λ r. inl (step_lost z.start i s (reads ∙ ap (λ o. All o M N) p ∙ ap (λ o. All (Some x) o N) r))
          | Some u ↦ λ r. elim (word_of s.homes n.0.width n.0.arg) as (λ o. word_of s.homes n.0.width n.0.arg ≡ o → InstRuns z i s c) [
            | None ↦ λ l. inl (step_lost z.start i s (reads ∙ ap (λ o. All o M N) p ∙ ap (λ o. All (Some x) o N) r ∙ ap (λ o. All (Some x) (Some u) o) l))
            | Some v ↦ λ l.
                let read = reads ∙ ap (λ o. All o M N) p ∙ ap (λ o. All (Some x) o N) r ∙ ap (λ o. All (Some x) (Some u) o) l in
                let rs : List Read = (a.0.width, x) ∷ (m.0.width, u) ∷ (n.0.width, v) ∷ [] in
                let ready = ready_one z set serves s c t a.0.arg (source_of 16 m.0.arg) a.0.width x rel usable_a (λ r. one.second r (source_of 16 m.0.arg) a.0.width) p in
                inr (select_end z set serves i s c t _ (source_of 15 a.0.arg) (source_of 16 m.0.arg) a.0.width x 0 m.0.arg n.0.arg m.0.width u v d.0 written.0 ready written.1 may
                (home_register z width 15 a.0.arg usable_a tested.word)
                (subst (λ w. IsTested t w (source_of 16 m.0.arg)) (sym tested.width) (one.may (source_of 16 m.0.arg) a.0 a.3))
                (source_most z 15 a.0.arg (omega arith) usable_a) (source_most z 16 m.0.arg (omega arith) usable_m)
                usable_m usable_n (home_register z other 15 m.0.arg usable_m m.3.2) (home_register z other 16 n.0.arg usable_n n.3.2)
                r (ap (λ w. word_of s.homes w n.0.arg) (sym same_n) ∙ l)
                (ap (λ os. inst_code z.frame i.op os) operands ∙ ap (λ o. inst_code z.frame o (a.0 ∷ m.0 ∷ n.0 ∷ d.0 ∷ [])) e ∙ one.select_code z.frame a.0 m.0 n.0 d.0)
                (step_gives z.start i s rs written.0 d.0.width (if passes t a.0.width x 0 then u else v) read writes
                (computes_word z.start i s rs (if passes t a.0.width x 0 then u else v) (ap kind_of e) (ap (λ o. computed o a.0.width (x ∷ u ∷ v ∷ [])) e ∙ one.selects a.0.width x u v))))
          ] refl
        ] refl
      ] refl

  -- ---- each instruction

  set_form : (i : AirInst) (s : State) (c : Machine) (t : Test) (width other : Width) → i.op ≡ op.SetIf t → AreThese (takes (op.SetIf t) width other) i.operands
      → AreOpen z i.operands → IsRelated z s c → InstRuns z i s c
  set_form i s c (Compare cond) width other e fits opened rel = set_compare i s c cond width e fits opened rel
  set_form i s c NonZero width other e fits opened rel = set_one i s c NonZero width (home width) e fits (nonzero_test width) opened rel
  set_form i s c (Bit k) width other e fits opened rel = set_one i s c (Bit k) width (BitOf width k) e fits (bit_test width k) opened rel

  select_form : (i : AirInst) (s : State) (c : Machine) (t : Test) (width other : Width) → i.op ≡ op.SelectIf t → AreThese (takes (op.SelectIf t) width other) i.operands
      → AreOpen z i.operands → IsRelated z s c → InstRuns z i s c
  select_form i s c (Compare cond) width other e fits opened rel = select_compare i s c cond width other e fits opened rel
  select_form i s c NonZero width other e fits opened rel = select_one i s c NonZero width other (home width) e fits (nonzero_test width) opened rel
  select_form i s c (Bit k) width other e fits opened rel = select_one i s c (Bit k) width other (BitOf width k) e fits (bit_test width k) opened rel

  -- ---- accesses

  -- an access runs or traps
  abbrev pub LoadRuns : AirInst → State → Machine → Type 0
  LoadRuns i s c = AccessRuns z i s c (fetch_address z.frame (arg_at i.operands 0)) (load_inst i.op i.operands)

  abbrev pub StoreRuns : AirInst → State → Machine → Type 0
  StoreRuns i s c = AccessRuns z i s c (fetch_stored z.frame i.operands) (store_inst i.op i.operands)

  pub load_by : (i : AirInst) (s : State) (c : Machine) (returns : Returns) (o : AirOp) → i.op ≡ o → is_load o ≡ true → HasOperands returns o i.operands
      → AreOpen z i.operands → IsRelated z s c → LoadRuns i s c
  unfolding inst_code
  load_by i s c returns op.Load8Z e is h opened rel = load_form i s c op.Load8Z W32 Ldrb Byte false e (λ os. refl) refl refl (load_8z W32) h.2 opened rel
  load_by i s c returns op.Load8S e is h opened rel = load_form i s c op.Load8S W32 Ldrsb Byte true e (λ os. refl) refl refl (load_8s W32) h.2 opened rel
  load_by i s c returns op.Load16Z e is h opened rel = load_form i s c op.Load16Z W32 Ldrh Half false e (λ os. refl) refl refl (load_16z W32) h.2 opened rel
  load_by i s c returns op.Load16S e is h opened rel = load_form i s c op.Load16S W32 Ldrsh Half true e (λ os. refl) refl refl (load_16s W32) h.2 opened rel
  load_by i s c returns op.Load e is h opened rel = word_load_form i s c h.0 h.1 e h.2 opened rel
  load_by i s c returns o e is h opened rel = absurd cc

  pub store_by : (i : AirInst) (s : State) (c : Machine) (returns : Returns) (o : AirOp) → i.op ≡ o → is_store_op o ≡ true → HasOperands returns o i.operands
      → AreOpen z i.operands → IsRelated z s c → StoreRuns i s c
  unfolding inst_code
  store_by i s c returns op.Store8 e is h opened rel = store_form i s c op.Store8 W32 Strb Byte e (λ os. refl) refl refl store_8 h.2 opened rel
  store_by i s c returns op.Store16 e is h opened rel = store_form i s c op.Store16 W32 Strh Half e (λ os. refl) refl refl store_16 h.2 opened rel
  store_by i s c returns op.Store e is h opened rel = word_store_form i s c h.0 h.1 e h.2 opened rel
  store_by i s c returns o e is h opened rel = absurd cc

  by_op : (i : AirInst) (s : State) (c : Machine) (returns : Returns) (o : AirOp) → i.op ≡ o → is_straight o ≡ true → HasOperands returns o i.operands
      → AreOpen z i.operands → IsRelated z s c → InstRuns z i s c
  unfolding inst_code
  by_op i s c returns op.Move e straight h opened rel = move_form i s c h.0 e h.2 opened rel
  by_op i s c returns op.Shuffle e straight h opened rel = shuffle_form i s c e h opened rel
  by_op i s c returns op.Add e straight h opened rel = two_form i s c op.Add h.0 h.0 h.0 OfSum e tt refl h.2 tt refl (λ n. absurd cc) (λ b usable is. fits_source z OfSum h.0 16 b usable is) opened rel
  by_op i s c returns op.Sub e straight h opened rel = two_form i s c op.Sub h.0 h.0 h.0 NoImmediate e tt refl h.2 tt refl (λ n. refl) (λ b usable is. tt) opened rel
  by_op i s c returns op.Neg e straight h opened rel = one_form i s c op.Neg h.0 h.0 e tt refl h.2 tt (λ b. tt) opened rel
  by_op i s c returns op.Mul e straight h opened rel = two_form i s c op.Mul h.0 h.0 h.0 NoImmediate e tt refl h.2 tt refl (λ n. refl) (λ b usable is. tt) opened rel
  by_op i s c returns op.MulSub e straight h opened rel = three_form i s c op.MulSub h.0 h.0 e tt refl h.2 tt (λ b. tt) opened rel
  by_op i s c returns op.Div e straight h opened rel = two_form i s c op.Div h.0 h.0 h.0 NoImmediate e tt refl h.2 tt refl (λ n. refl) (λ b usable is. tt) opened rel
  by_op i s c returns op.UDiv e straight h opened rel = two_form i s c op.UDiv h.0 h.0 h.0 NoImmediate e tt refl h.2 tt refl (λ n. refl) (λ b usable is. tt) opened rel
  by_op i s c returns op.And e straight h opened rel = two_form i s c op.And h.0 h.0 h.0 OfLogic e tt refl h.2 tt refl (λ n. absurd cc) (λ b usable is. fits_source z OfLogic h.0 16 b usable is) opened rel
  by_op i s c returns op.Or e straight h opened rel = two_form i s c op.Or h.0 h.0 h.0 OfLogic e tt refl h.2 tt refl (λ n. absurd cc) (λ b usable is. fits_source z OfLogic h.0 16 b usable is) opened rel
  by_op i s c returns op.Xor e straight h opened rel = two_form i s c op.Xor h.0 h.0 h.0 OfLogic e tt refl h.2 tt refl (λ n. absurd cc) (λ b usable is. fits_source z OfLogic h.0 16 b usable is) opened rel
  by_op i s c returns op.Lsl e straight h opened rel = two_form i s c op.Lsl h.0 W32 h.0 AnyWord e tt refl h.2 tt refl (λ n. absurd cc) (λ b usable is. tt) opened rel
  by_op i s c returns op.Lsr e straight h opened rel = two_form i s c op.Lsr h.0 W32 h.0 AnyWord e tt refl h.2 tt refl (λ n. absurd cc) (λ b usable is. tt) opened rel
  by_op i s c returns op.Asr e straight h opened rel = two_form i s c op.Asr h.0 W32 h.0 AnyWord e tt refl h.2 tt refl (λ n. absurd cc) (λ b usable is. tt) opened rel
  by_op i s c returns op.Ror e straight h opened rel = two_form i s c op.Ror h.0 W32 h.0 AnyWord e tt refl h.2 tt refl (λ n. absurd cc) (λ b usable is. tt) opened rel
  by_op i s c returns op.Clz e straight h opened rel = one_form i s c op.Clz h.0 h.0 e tt refl h.2 tt (λ b. tt) opened rel
  by_op i s c returns op.SExt8 e straight h opened rel = one_form i s c op.SExt8 W32 W32 e tt refl h.2 refl (λ b. tt) opened rel
  by_op i s c returns op.SExt16 e straight h opened rel = one_form i s c op.SExt16 W32 W32 e tt refl h.2 refl (λ b. tt) opened rel
  by_op i s c returns op.SExt32 e straight h opened rel = one_form i s c op.SExt32 W32 W64 e tt refl h.2 refl (λ b. tt) opened rel
  by_op i s c returns op.ZExt32 e straight h opened rel = one_form i s c op.ZExt32 W32 W64 e tt refl h.2 refl (λ b. tt) opened rel
  by_op i s c returns op.MulHigh e straight h opened rel = two_form i s c op.MulHigh W64 W64 W64 NoImmediate e tt refl h.2 refl refl (λ n. refl) (λ b usable is. tt) opened rel
  by_op i s c returns op.UMulHigh e straight h opened rel = two_form i s c op.UMulHigh W64 W64 W64 NoImmediate e tt refl h.2 refl refl (λ n. refl) (λ b usable is. tt) opened rel
  by_op i s c returns (op.SetIf t) e straight h opened rel = set_form i s c t h.0 h.1 e h.2 opened rel
  by_op i s c returns (op.SelectIf t) e straight h opened rel = select_form i s c t h.0 h.1 e h.2 opened rel
  by_op i s c returns op.Load8Z e straight h opened rel = absurd cc
  by_op i s c returns op.Load8S e straight h opened rel = absurd cc
  by_op i s c returns op.Load16Z e straight h opened rel = absurd cc
  by_op i s c returns op.Load16S e straight h opened rel = absurd cc
  by_op i s c returns op.Load e straight h opened rel = absurd cc
  by_op i s c returns op.Store8 e straight h opened rel = absurd cc
  by_op i s c returns op.Store16 e straight h opened rel = absurd cc
  by_op i s c returns op.Store e straight h opened rel = absurd cc
  by_op i s c returns op.SlotAddress e straight h opened rel = slot_form i s c e h.2 opened rel
  by_op i s c returns op.FramePointer e straight h opened rel = pointer_form i s c e h.2 opened rel
  by_op i s c returns (op.BranchIf t) e straight h opened rel = absurd cc
  by_op i s c returns op.Jump e straight h opened rel = absurd cc
  by_op i s c returns (op.Switch cases) e straight h opened rel = absurd cc
  by_op i s c returns op.Return e straight h opened rel = absurd cc
  by_op i s c returns op.Oops e straight h opened rel = absurd cc
  by_op i s c returns o e straight h opened rel = absurd cc

  pub inst_runs : (i : AirInst) (s : State) (c : Machine) (returns : Returns) → is_straight i.op ≡ true → HasOperands returns i.op i.operands
      → AreOpen z i.operands → IsRelated z s c → InstRuns z i s c
  inst_runs i s c returns straight h opened rel = by_op i s c returns i.op refl straight h opened rel
