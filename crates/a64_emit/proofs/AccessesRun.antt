-- Loads and stores do what their code does.
use Rattle.std.proofs.Common.{◌≡◌, ℕ, ◌+◌, ◌-◌, ◌*◌, ◌%◌, ◌^◌, ◌<◌, ◌≤◌, ◌⊎◌, inl, inr, Bool, true, false, List, [], ◌∷◌, ◌++◌, Option, Some, None, refl, sym, ap, ◌∙◌, subst, arith}
use Rattle.std.specs.Prelude.{nat_lt, if◌then◌else◌}
use Rattle.std.proofs.lemmas.Bool.{ne_eqb}
use Rattle.b3_base.specs.Arithmetic.{low}
use Rattle.b3_base.specs.Memory.{is_mapped, read_word, write_word}
use Rattle.b3_base.specs.Observed.{Memory, Start}
use Rattle.b3_base.specs.declared.word.Width.{Width}
use Rattle.b3_base.specs.declared.word.Width.TheVariants.{W32, W64}
use Rattle.b3_base.specs.declared.observation.Status.TheVariants.{Trapped}
use Rattle.b3_base.proofs.MemoryLaws.{is_some-read_word}
use Rattle.b3_base.proofs.WordLaws.{write_word_low}
use Rattle.b3_base.proofs.Options.{none_of, some_of}
use Rattle.b3_meaning.specs.Access.{Done, Refused, Trap, access, touches_private}
use Rattle.b3_meaning.specs.Opcodes.{Undefined}
use Rattle.b3_meaning.specs.Run.{extended}
use Rattle.b3_meaning.specs.declared.role.Extent.{Extent}
use Rattle.b3_meaning.specs.declared.role.Extent.TheVariants.{Byte, Half, Whole}
use Rattle.a64_inst.specs.Registers.{faults}
use Rattle.a64_inst.specs.Step.{Bytes, Registers, goes_on, put, read, step_of}
use Rattle.a64_inst.specs.StepMemory as machine
use Rattle.a64_inst.specs.declared.inst.AccessKind.{AccessKind}
use Rattle.a64_inst.specs.declared.inst.AccessKind.TheVariants.{Strb, Ldrb, Ldrsb, Strh, Ldrh, Ldrsh, StrW, LdrW, StrX, LdrX}
use Rattle.a64_inst.specs.declared.inst.Inst.{Inst}
use Rattle.a64_inst.proofs.MemoryWords.{read_small}
use Rattle.air_ir.specs.Forms.{IsAddress, IsWord, OnlyZero}
use Rattle.air_ir.specs.Kinds.{Loads, Stores, extent_bytes, kind_of}
use Rattle.air_ir.specs.Meaning.{Over, World, meaning, operation}
use Rattle.air_ir.specs.Operands.{Holds, Read, and_word, put_all, targets, word_of, words}
use Rattle.air_ir.specs.Steps.{Goes, State, junk_words, step}
use Rattle.air_ir.specs.declared.operand.Arg.{Arg}
use Rattle.air_ir.specs.declared.operand.Arg.TheVariants.{At, Imm, Addr, Index, FrameSlot}
use Rattle.air_ir.specs.declared.operand.Home.{Home}
use Rattle.air_ir.specs.declared.operand.Home.TheVariants.{Reg, Spill, Tmp}
use Rattle.air_ir.specs.declared.operand.Operand.{Operand}
use Rattle.air_ir.specs.declared.operand.Role.TheVariants.{Use}
use Rattle.air_ir.specs.declared.procedure.AirInst.{AirInst}
use Rattle.a64_layout.specs.Machine.{Machine, moved_to}
use Rattle.a64_code.specs.Accesses.{access_kind}
use Rattle.a64_emit.specs.Code.{access_inst, arg_at, fetch, fetch_address, fetch_stored, inst_code, load_code, load_inst, put_result, result_reg, source_of, store_code, store_inst}
use Rattle.a64_code.specs.Computing.{reg_of}
use Rattle.a64_emit.specs.Related.{IsRelated}
use Rattle.a64_emit.specs.Setting.{Setting, row, IsSet}
use Rattle.a64_code.specs.declared.source.Source.{Source}
use Rattle.a64_code.specs.declared.source.Source.TheVariants.{InReg, Constant}
use Rattle.a64_emit.proofs.AccessesDone.{Fails, Touches, Traps, comes_to, does_there, gap_there, stored_mapped, stored_related}
use Rattle.a64_emit.proofs.AccessesReached.{IsReachable, not_zero, reaches}
use Rattle.a64_emit.proofs.AccessesSeen.{read_seen}
use Rattle.a64_emit.proofs.AirSteps.{IsWritten, step_gives, step_lost, step_without, targets_none, targets_result, targets_use, words_none, words_result, words_use}
use Rattle.a64_emit.proofs.Computes.{Carried, InstRuns, scratch_17}
use Rattle.a64_emit.proofs.Fetching.{IsPlaceFor, IsUsable, fetch_word, fetched_keeps, finish, result_most}
use Rattle.a64_emit.proofs.Keeping.{keeps_related, whole_of}
use Rattle.a64_code.proofs.Ops.{Gives, read_is}
use Rattle.a64_emit.proofs.Storing.{with_home}
use Rattle.a64_emit.proofs.Straight.{Does, DoesOne, does_both, does_one}
use Rattle.a64_emit.proofs.Words.{put_other, with_memory, with_reg}
use Rattle.air_frame.specs.Frames.{IsFrameOf}

-- ---- what a load gives

-- a load of a kind reads these bytes at a width, and extends them so
pub record IsLoad (kind : AccessKind) (extent : Extent) (extends : Bool) (width : Width) : Type 0 where
  pub load : machine.is_store kind ≡ false
  pub bytes : extent_bytes extent width ≡ machine.access_bytes kind
  pub small : (word : ℕ) → word < 2 ^ (8 * machine.access_bytes kind) → machine.loaded kind word < 2 ^ 64
  pub loaded : (word : ℕ) → word < 2 ^ (8 * machine.access_bytes kind) → machine.loaded kind word ≡ extended extends (machine.access_bytes kind) word

byte_sign : (word : ℕ) → word < 2 ^ 8 → machine.sign_extended 8 word ≡ extended true 1 word
byte_sign word small =
    let F : ℕ → ℕ = λ x. (if nat_lt x 128 then x else x + (2 ^ 64 - 2 ^ 8)) % 2 ^ 32 in
    let same : word % 2 ^ 8 ≡ word = omega arith in
    let one : (if nat_lt word 128 then word else word + (2 ^ 32 - 2 ^ 8)) ≡ F word =
    elim (nat_lt word 128) as (λ b. (if b then word else word + (2 ^ 32 - 2 ^ 8)) ≡ (if b then word else word + (2 ^ 64 - 2 ^ 8)) % 2 ^ 32) [
      | true ↦ omega arith
      | false ↦ omega arith
    ] in
    one ∙ sym (ap F same)

half_sign : (word : ℕ) → word < 2 ^ 16 → machine.sign_extended 16 word ≡ extended true 2 word
half_sign word small =
    let F : ℕ → ℕ = λ x. (if nat_lt x 32768 then x else x + (2 ^ 64 - 2 ^ 16)) % 2 ^ 32 in
    let same : word % 2 ^ 16 ≡ word = omega arith in
    let one : (if nat_lt word 32768 then word else word + (2 ^ 32 - 2 ^ 16)) ≡ F word =
    elim (nat_lt word 32768) as (λ b. (if b then word else word + (2 ^ 32 - 2 ^ 16)) ≡ (if b then word else word + (2 ^ 64 - 2 ^ 16)) % 2 ^ 32) [
      | true ↦ omega arith
      | false ↦ omega arith
    ] in
    one ∙ sym (ap F same)

byte_small : (word : ℕ) → word < 2 ^ 8 → machine.sign_extended 8 word < 2 ^ 64
byte_small word small = elim (nat_lt word 128) as (λ b. (if b then word else word + (2 ^ 32 - 2 ^ 8)) < 2 ^ 64) [ true ↦ omega arith | false ↦ omega arith ]

half_small : (word : ℕ) → word < 2 ^ 16 → machine.sign_extended 16 word < 2 ^ 64
half_small word small = elim (nat_lt word 32768) as (λ b. (if b then word else word + (2 ^ 32 - 2 ^ 16)) < 2 ^ 64) [ true ↦ omega arith | false ↦ omega arith ]

pub load_8z : (width : Width) → IsLoad Ldrb Byte false width
load_8z width = record { load = refl; bytes = refl; small = λ word small. omega arith; loaded = λ word small. refl }

pub load_8s : (width : Width) → IsLoad Ldrsb Byte true width
load_8s width = record { load = refl; bytes = refl; small = byte_small; loaded = byte_sign }

pub load_16z : (width : Width) → IsLoad Ldrh Half false width
load_16z width = record { load = refl; bytes = refl; small = λ word small. omega arith; loaded = λ word small. refl }

pub load_16s : (width : Width) → IsLoad Ldrsh Half true width
load_16s width = record { load = refl; bytes = refl; small = half_small; loaded = half_sign }

pub load_32 : IsLoad LdrW Whole false W32
load_32 = record { load = refl; bytes = refl; small = λ word small. omega arith; loaded = λ word small. refl }

pub load_64 : IsLoad LdrX Whole false W64
load_64 = record { load = refl; bytes = refl; small = λ word small. omega arith; loaded = λ word small. refl }

-- a load puts its word in a register
loads_word : (kind : AccessKind) (rt at v : ℕ) (r : Registers) (m : Bytes) → rt ≤ 30 → machine.is_store kind ≡ false
    → read_word m at (machine.access_bytes kind) ≡ Some v → machine.access_at kind rt at r m ≡ goes_on (put r rt (machine.loaded kind v)) m
loads_word kind rt at v r m le load there = rw (load, there, ne_eqb rt 31 (not_zero rt le)) refl

-- ---- what a store takes

-- a store of a kind writes these bytes of a word of a width
pub record IsStore (kind : AccessKind) (extent : Extent) (width : Width) : Type 0 where
  pub store : machine.is_store kind ≡ true
  pub bytes : extent_bytes extent width ≡ machine.access_bytes kind
  pub same_low : (word : ℕ) → low width word % 2 ^ (8 * machine.access_bytes kind) ≡ word % 2 ^ (8 * machine.access_bytes kind)

pub store_8 : IsStore Strb Byte W32
store_8 = record { store = refl; bytes = refl; same_low = λ word. omega arith }

pub store_16 : IsStore Strh Half W32
store_16 = record { store = refl; bytes = refl; same_low = λ word. omega arith }

pub store_32 : IsStore StrW Whole W32
store_32 = record { store = refl; bytes = refl; same_low = λ word. omega arith }

pub store_64 : IsStore StrX Whole W64
store_64 = record { store = refl; bytes = refl; same_low = λ word. omega arith }

-- a constant that is stored is 0
abbrev IsZeroed : Source → Type 0
IsZeroed (InReg r) = Unit {0}
IsZeroed (Constant k) = k ≡ 0

zeroed : (z : Setting) (scratch : ℕ) (width : Width) (arg : Arg) → IsUsable z arg → IsWord OnlyZero width arg → IsZeroed (source_of scratch arg)
zeroed z scratch width (At (Reg r)) usable is = tt
zeroed z scratch width (At (Spill n)) usable is = tt
zeroed z scratch width (At (Tmp n)) usable is = absurd usable
zeroed z scratch width (Imm word) usable is = is.1
zeroed z scratch width (Addr base offset) usable is = absurd usable
zeroed z scratch width (Index base index shift) usable is = absurd usable
zeroed z scratch width (FrameSlot n) usable is = absurd usable

stored_is : (r : Registers) (a : Source) (width : Width) (word : ℕ) → IsZeroed a → Gives r a width word → low width (read r (reg_of a)) ≡ word
stored_is r (InReg q) width word is gives = ap (low width) (read_is r q gives.0) ∙ gives.1
stored_is r (Constant k) width word is gives = ap (low width) (sym is) ∙ gives

-- the bytes of a word that are stored are those of its low bits
stored_low : (kind : AccessKind) (extent : Extent) (width : Width) (m : Bytes) (at x word : ℕ) → IsStore kind extent width → low width x ≡ word
    → write_word m at (machine.access_bytes kind) x ≡ write_word m at (machine.access_bytes kind) word
stored_low kind extent width m at x word store e =
    let n : ℕ = machine.access_bytes kind in
    sym (write_word_low m at n x) ∙ ap (write_word m at n) (sym (store.same_low x) ∙ ap (λ y. y % 2 ^ (8 * n)) e) ∙ write_word_low m at n word

stores_word : (kind : AccessKind) (extent : Extent) (width : Width) (at word : ℕ) (a : Source) (r : Registers) (m : Bytes) → IsStore kind extent width
    → IsZeroed a → Gives r a width word → is_mapped m at (machine.access_bytes kind) ≡ true
    → machine.access_at kind (reg_of a) at r m ≡ goes_on r (write_word m at (machine.access_bytes kind) word)
stores_word kind extent width at word a r m store is gives mapped =
    rw (store.store, mapped) (ap (goes_on r) (stored_low kind extent width m at (read r (reg_of a)) word store (stored_is r a width word is gives)))

-- ---- steps of the run of Air

module _ (start : Start) (i : AirInst) (s : State) where
  load_means : (extent : Extent) (extends : Bool) (width : Width) (at n v : ℕ) → kind_of i.op ≡ Loads extent extends → extent_bytes extent width ≡ n
      → access start s.world.memory at n i.traps ≡ Done → read_word s.world.memory at n ≡ Some v
      → meaning start (operation i) ((width, at) ∷ []) s.world ≡ Some (record { results = extended extends n v ∷ []; world = s.world; exit = None })
  unfolding meaning
  load_means extent extends width at n v kind bytes done there = rw (kind, bytes, done, there) refl

  load_refused : (extent : Extent) (extends : Bool) (width : Width) (at n : ℕ) (u : Undefined) → kind_of i.op ≡ Loads extent extends
      → extent_bytes extent width ≡ n → access start s.world.memory at n i.traps ≡ Refused u
      → meaning start (operation i) ((width, at) ∷ []) s.world ≡ None
  unfolding meaning
  load_refused extent extends width at n u kind bytes refused = rw (kind, bytes, refused) refl

  store_means : (extent : Extent) (width other : Width) (word at n : ℕ) → kind_of i.op ≡ Stores extent → extent_bytes extent width ≡ n
      → access start s.world.memory at n i.traps ≡ Done
      → meaning start (operation i) ((width, word) ∷ (other, at) ∷ []) s.world
      ≡ Some (record { results = []; world = record s.world { memory = write_word s.world.memory at n word }; exit = None })
  unfolding meaning
  store_means extent width other word at n kind bytes done = rw (kind, bytes, done) refl

  store_refused : (extent : Extent) (width other : Width) (word at n : ℕ) (u : Undefined) → kind_of i.op ≡ Stores extent
      → extent_bytes extent width ≡ n → access start s.world.memory at n i.traps ≡ Refused u
      → meaning start (operation i) ((width, word) ∷ (other, at) ∷ []) s.world ≡ None
  unfolding meaning
  store_refused extent width other word at n u kind bytes refused = rw (kind, bytes, refused) refl

  load_traps : (extent : Extent) (extends : Bool) (width : Width) (at n : ℕ) → kind_of i.op ≡ Loads extent extends
      → extent_bytes extent width ≡ n → access start s.world.memory at n i.traps ≡ Trap at
      → meaning start (operation i) ((width, at) ∷ []) s.world
      ≡ Some (record { results = []; world = s.world; exit = Some (Over (Trapped i.value at)) })
  unfolding meaning
  load_traps extent extends width at n kind bytes trap = rw (kind, bytes, trap) refl

  store_traps : (extent : Extent) (width other : Width) (word at n : ℕ) → kind_of i.op ≡ Stores extent
      → extent_bytes extent width ≡ n → access start s.world.memory at n i.traps ≡ Trap at
      → meaning start (operation i) ((width, word) ∷ (other, at) ∷ []) s.world
      ≡ Some (record { results = []; world = s.world; exit = Some (Over (Trapped i.value at)) })
  unfolding meaning
  store_traps extent width other word at n kind bytes trap = rw (kind, bytes, trap) refl

  -- the home that a load writes takes a word of junk
  step_trapped : (rs : List Read) (home : Home) (width : Width) (at : ℕ) → words s.homes i.operands ≡ Some rs
      → targets i.operands ≡ record { home = home; width = width } ∷ []
      → meaning start (operation i) rs s.world ≡ Some (record { results = []; world = s.world; exit = Some (Over (Trapped i.value at)) })
      → (rest : List ℕ) → step (meaning start) i s (0 ∷ rest) ≡ (Goes (Some (Over (Trapped i.value at))) (with_home s home (Holds width 0)), rest)
  unfolding step junk_words put_all
  step_trapped rs home width at reads writes means rest = rw (reads, means, writes) refl

  step_stopped : (rs : List Read) (at : ℕ) → words s.homes i.operands ≡ Some rs → targets i.operands ≡ []
      → meaning start (operation i) rs s.world ≡ Some (record { results = []; world = s.world; exit = Some (Over (Trapped i.value at)) })
      → (rest : List ℕ) → step (meaning start) i s rest ≡ (Goes (Some (Over (Trapped i.value at))) s, rest)
  unfolding step junk_words put_all
  step_stopped rs at reads writes means rest = rw (reads, means, writes) refl

  step_stores : (rs : List Read) (w : World) → words s.homes i.operands ≡ Some rs → targets i.operands ≡ []
      → meaning start (operation i) rs s.world ≡ Some (record { results = []; world = w; exit = None })
      → (junk : List ℕ) → step (meaning start) i s junk ≡ (Goes None (record { homes = s.homes; world = w }), junk)
  unfolding step junk_words put_all
  step_stores rs w reads writes means junk = rw (reads, means, writes) refl

-- an access of bytes one of which isn't there faults
access_faults : (kind : AccessKind) (rt at : ℕ) (r : Registers) (m : Bytes) → is_mapped m at (machine.access_bytes kind) ≡ false
    → machine.access_at kind rt at r m ≡ faults at r m
access_faults kind rt at r m gap =
    let none = none_of (read_word m at (machine.access_bytes kind)) (is_some-read_word m at (machine.access_bytes kind) ∙ gap) in
    elim (machine.is_store kind) as (λ b. (if b then machine.store at (machine.access_bytes kind) (read r rt) r m else
    machine.load kind rt at (read_word m at (machine.access_bytes kind)) r m) ≡ faults at r m) [
      | true ↦ rw gap refl
      | false ↦ rw none refl
    ]

-- an instruction of Air traps: behind some instructions its access faults
pub record Faulted (z : Setting) (i : AirInst) (s : State) (c : Machine) (front : List Inst) (inst : Inst) : Type 0 where
  pub traps : i.traps ≡ true
  pub address : ℕ
  pub before : Machine
  pub does : Does z c front before
  pub related : IsRelated z s before
  pub junk : List ℕ
  pub state : State
  pub world : state.world ≡ s.world
  pub steps : (rest : List ℕ) → step (meaning z.start) i s (junk ++ rest) ≡ (Goes (Some (Over (Trapped i.value address))) state, rest)
  pub fault : (pc : ℕ) → step_of inst (moved_to pc before).registers before.memory ≡ faults address (moved_to pc before).registers before.memory

abbrev pub AccessRuns : Setting → AirInst → State → Machine → List Inst → Inst → Type 0
AccessRuns z i s c front inst = InstRuns z i s c ⊎ Faulted z i s c front inst

module _ (z : Setting) (set : IsSet z) (serves : IsFrameOf z.procedure z.frame) where
  -- the machine reads the word that the run of Air reads
  same_word : (s : State) (c : Machine) (at n v : ℕ) → IsRelated z s c → is_mapped s.world.memory at n ≡ true → read_word s.world.memory at n ≡ Some v
      → read_word c.memory at n ≡ Some v
  same_word s c at n v rel mapped there =
      sym (read_seen (row z) z.entry c.memory at n (ap (λ (x : Memory). is_mapped x at n) (sym rel.memory) ∙ mapped))
      ∙ ap (λ (x : Memory). read_word x at n) (sym rel.memory) ∙ there

  -- ---- loads

  load_ends : (i : AirInst) (s : State) (c : Machine) (a d : Operand) (home : Home) (kind : AccessKind) (at v w : ℕ) → i.operands ≡ a ∷ d ∷ []
      → inst_code z.frame i.op (a ∷ d ∷ []) ≡ load_code z.frame i.op (a ∷ d ∷ []) → access_kind i.op a.width ≡ kind
      → IsWritten d home → IsRelated z s c → IsReachable z a.arg → IsAddress (machine.access_bytes kind) a.arg → IsPlaceFor z home
      → word_of s.homes a.width a.arg ≡ Some at → machine.is_store kind ≡ false
      → is_mapped s.world.memory at (machine.access_bytes kind) ≡ true → read_word s.world.memory at (machine.access_bytes kind) ≡ Some v
      → machine.loaded kind v ≡ w → w < 2 ^ 64
      → ((junk : List ℕ) → step (meaning z.start) i s junk ≡ (Goes None (with_home s home (Holds d.width w)), junk)) → Carried z i s c
  load_ends i s c a d home kind at v w operands code same is rel reachable fits may reads load mapped there loaded small steps =
      let r = reaches z set serves s c a.arg a.width at rel reachable reads in
      let m : Machine = r.after in
      let rd : ℕ = result_reg (At home) in
      let inst : Inst = access_inst kind rd a.arg in
      let word = same_word s m at (machine.access_bytes kind) v r.related mapped there in
      let most = result_most z set serves home may in
      let one : DoesOne z m inst (with_reg m rd w) =
      does_there z m (with_reg m rd w) inst (whole_of z set serves m r.related.frame) r.related.frame.sp (put_other m rd w 18 (λ e. most.1 (sym e)))
      (λ pc. (r.accesses (moved_to pc m).registers (λ q other. refl) kind rd fits).does m.memory
      ∙ loads_word kind rd at v (moved_to pc m).registers m.memory most.0 load word
      ∙ ap (λ n. goes_on (put (moved_to pc m).registers rd n) m.memory) loaded) in
      let last = finish z set serves s m inst home d.width w r.related may one small in
      let Code : Arg → AccessKind → List Inst = λ to k. fetch_address z.frame a.arg ++ access_inst k (result_reg to) a.arg
      ∷ put_result z.frame (result_reg to) to in
      record {
        next = with_home s home (Holds d.width w);
        after = last.after;
        steps = steps;
        does = subst (λ os. Does z c (inst_code z.frame i.op os) last.after) (sym operands)
            (subst (λ insts. Does z c insts last.after) (sym code)
            (subst (λ to. Does z c (Code to (access_kind i.op a.width)) last.after) (sym is.arg)
            (subst (λ k. Does z c (Code (At home) k) last.after) (sym same)
            (does_both z c m last.after (fetch_address z.frame a.arg) _ r.does last.does))));
        related = last.related;
        world = (refl, refl);
      }

  load_faults : (i : AirInst) (s : State) (c : Machine) (a d : Operand) (home : Home) (kind : AccessKind) (at : ℕ) → i.operands ≡ a ∷ d ∷ []
      → access_kind i.op a.width ≡ kind → IsWritten d home → IsRelated z s c → IsReachable z a.arg → IsAddress (machine.access_bytes kind) a.arg
      → word_of s.homes a.width a.arg ≡ Some at → i.traps ≡ true → touches_private z.start at (machine.access_bytes kind) ≡ false
      → is_mapped s.world.memory at (machine.access_bytes kind) ≡ false
      → ((rest : List ℕ) → step (meaning z.start) i s (0 ∷ rest) ≡ (Goes (Some (Over (Trapped i.value at))) (with_home s home (Holds d.width 0)), rest))
      → Faulted z i s c (fetch_address z.frame (arg_at i.operands 0)) (load_inst i.op i.operands)
  load_faults i s c a d home kind at operands same is rel reachable fits reads traps free gap steps =
      let r = reaches z set serves s c a.arg a.width at rel reachable reads in
      let m : Machine = r.after in
      let n : ℕ = machine.access_bytes kind in
      subst (λ os. Faulted z i s c (fetch_address z.frame (arg_at os 0)) (load_inst i.op os)) (sym operands)
      (subst (λ k. Faulted z i s c (fetch_address z.frame a.arg) (access_inst k (result_reg d.arg) a.arg)) (sym same) (record {
        traps = traps;
        address = at;
        before = m;
        does = r.does;
        related = r.related;
        junk = 0 ∷ [];
        state = with_home s home (Holds d.width 0);
        world = refl;
        steps = steps;
        fault = λ pc. (r.accesses (moved_to pc m).registers (λ q other. refl) kind (result_reg d.arg) fits).does m.memory
            ∙ access_faults kind (result_reg d.arg) at (moved_to pc m).registers m.memory (gap_there z set serves s m r.related at n free gap);
      }))

  pub load_runs : (i : AirInst) (s : State) (c : Machine) (a d : Operand) (home : Home) (kind : AccessKind) (extent : Extent) (extends : Bool)
      → i.operands ≡ a ∷ d ∷ []
      → inst_code z.frame i.op (a ∷ d ∷ []) ≡ load_code z.frame i.op (a ∷ d ∷ []) → access_kind i.op a.width ≡ kind
      → kind_of i.op ≡ Loads extent extends → IsLoad kind extent extends a.width → a.role ≡ Use
      → IsWritten d home → IsRelated z s c → IsReachable z a.arg → IsAddress (machine.access_bytes kind) a.arg → IsPlaceFor z home
      → AccessRuns z i s c (fetch_address z.frame (arg_at i.operands 0)) (load_inst i.op i.operands)
  load_runs i s c a d home kind extent extends operands code same loads load role is rel reachable fits may =
      let n : ℕ = machine.access_bytes kind in
      let Runs : Type 0 = AccessRuns z i s c (fetch_address z.frame (arg_at i.operands 0)) (load_inst i.op i.operands) in
      let reads : words s.homes i.operands ≡ and_word a.width (word_of s.homes a.width a.arg) (Some []) =
      ap (words s.homes) operands ∙ words_use s.homes a (d ∷ []) role
      ∙ ap (and_word a.width (word_of s.homes a.width a.arg)) (words_result s.homes d home is) in
      let writes = ap targets operands ∙ targets_use a (d ∷ []) role ∙ targets_result d home is in
      elim (word_of s.homes a.width a.arg) as (λ o. word_of s.homes a.width a.arg ≡ o → Runs) [
        | None ↦ λ e. inl (inl (step_lost z.start i s (reads ∙ ap (λ o. and_word a.width o (Some [])) e)))
        | Some at ↦ λ e.
            let read = reads ∙ ap (λ o. and_word a.width o (Some [])) e in
            elim (comes_to z.start s.world.memory at n i.traps) as (λ x. Runs) [
              | Fails u refused ↦ inl (inl (step_without z.start i s ((a.width, at) ∷ []) read
                  (load_refused z.start i s extent extends a.width at n u loads load.bytes refused)))
              | Touches done mapped ↦
                  let v = some_of (read_word s.world.memory at n) (is_some-read_word s.world.memory at n ∙ mapped) in
                  let w : ℕ = extended extends n v.0 in
                  let small : v.0 < 2 ^ (8 * n) = read_small c.memory at n v.0 rel.frame.bytes (same_word s c at n v.0 rel mapped v.1) in
                  let loaded = load.loaded v.0 small in
                  inl (inr (load_ends i s c a d home kind at v.0 w operands code same is rel reachable fits may e load.load mapped v.1 loaded
                  (subst (λ x. x < 2 ^ 64) loaded (load.small v.0 small))
                  (step_gives z.start i s ((a.width, at) ∷ []) home d.width w read writes
                  (load_means z.start i s extent extends a.width at n v.0 loads load.bytes done v.1))))
              | Traps trap traps free gap ↦
                  inr (load_faults i s c a d home kind at operands same is rel reachable fits e traps free gap
                  (step_trapped z.start i s ((a.width, at) ∷ []) home d.width at read writes
                  (load_traps z.start i s extent extends a.width at n loads load.bytes trap)))
            ]
      ] refl

  -- ---- stores

  store_ends : (i : AirInst) (s : State) (c : Machine) (a b : Operand) (kind : AccessKind) (extent : Extent) (word at : ℕ) → i.operands ≡ a ∷ b ∷ []
      → inst_code z.frame i.op (a ∷ b ∷ []) ≡ store_code z.frame i.op (a ∷ b ∷ []) → access_kind i.op a.width ≡ kind → IsStore kind extent a.width
      → IsRelated z s c → IsUsable z a.arg → IsWord OnlyZero a.width a.arg → IsReachable z b.arg → IsAddress (machine.access_bytes kind) b.arg
      → word_of s.homes a.width a.arg ≡ Some word → word_of s.homes b.width b.arg ≡ Some at
      → is_mapped s.world.memory at (machine.access_bytes kind) ≡ true
      → ((junk : List ℕ) → step (meaning z.start) i s junk
      ≡ (Goes None (record { homes = s.homes; world = record s.world { memory = write_word s.world.memory at (machine.access_bytes kind) word } }), junk))
      → Carried z i s c
  store_ends i s c a b kind extent word at operands code same store rel usable is reachable fits reads_a reads_b mapped steps =
      let n : ℕ = machine.access_bytes kind in
      let r = reaches z set serves s c b.arg b.width at rel reachable reads_b in
      let second = fetch_word z set serves s r.after 17 a.arg a.width word r.related usable scratch_17 reads_a in
      let m : Machine = second.0.after in
      let rel_m = keeps_related z s r.after m (fetched_keeps z r.after (fetch z.frame 17 a.arg) 17 scratch_17 second.0) r.related in
      let source : Source = source_of 17 a.arg in
      let inst : Inst = access_inst kind (reg_of source) b.arg in
      let after : Machine = with_memory m (write_word m.memory at n word) in
      let one : DoesOne z m inst after =
      does_there z m after inst (whole_of z set serves m rel_m.frame) rel_m.frame.sp refl
      (λ pc. (r.accesses (moved_to pc m).registers (λ q other. second.0.others q other) kind (reg_of source) fits).does m.memory
      ∙ stores_word kind extent a.width at word source (moved_to pc m).registers m.memory store (zeroed z 17 a.width a.arg usable is) second.1
      (stored_mapped z set serves s m rel_m at n word mapped)) in
      let Code : AccessKind → List Inst = λ k. fetch_address z.frame b.arg ++ fetch z.frame 17 a.arg ++ access_inst k (reg_of source) b.arg ∷ [] in
      record {
        next = record { homes = s.homes; world = record s.world { memory = write_word s.world.memory at n word } };
        after = after;
        steps = steps;
        does = subst (λ os. Does z c (inst_code z.frame i.op os) after) (sym operands)
            (subst (λ insts. Does z c insts after) (sym code)
            (subst (λ k. Does z c (Code k) after) (sym same)
            (does_both z c m after (fetch_address z.frame b.arg ++ fetch z.frame 17 a.arg) (inst ∷ [])
            (does_both z c r.after m (fetch_address z.frame b.arg) (fetch z.frame 17 a.arg) r.does second.0.does)
            (does_one z m after inst one))));
        related = stored_related z set serves s m rel_m at n word mapped;
        world = (refl, refl);
      }

  store_faults : (i : AirInst) (s : State) (c : Machine) (a b : Operand) (kind : AccessKind) (word at : ℕ) → i.operands ≡ a ∷ b ∷ []
      → access_kind i.op a.width ≡ kind → IsRelated z s c → IsUsable z a.arg → IsReachable z b.arg → IsAddress (machine.access_bytes kind) b.arg
      → word_of s.homes a.width a.arg ≡ Some word → word_of s.homes b.width b.arg ≡ Some at
      → i.traps ≡ true → touches_private z.start at (machine.access_bytes kind) ≡ false
      → is_mapped s.world.memory at (machine.access_bytes kind) ≡ false
      → ((rest : List ℕ) → step (meaning z.start) i s rest ≡ (Goes (Some (Over (Trapped i.value at))) s, rest))
      → Faulted z i s c (fetch_stored z.frame i.operands) (store_inst i.op i.operands)
  store_faults i s c a b kind word at operands same rel usable reachable fits reads_a reads_b traps free gap steps =
      let n : ℕ = machine.access_bytes kind in
      let r = reaches z set serves s c b.arg b.width at rel reachable reads_b in
      let second = fetch_word z set serves s r.after 17 a.arg a.width word r.related usable scratch_17 reads_a in
      let m : Machine = second.0.after in
      let rel_m = keeps_related z s r.after m (fetched_keeps z r.after (fetch z.frame 17 a.arg) 17 scratch_17 second.0) r.related in
      let reg : ℕ = reg_of (source_of 17 a.arg) in
      subst (λ os. Faulted z i s c (fetch_stored z.frame os) (store_inst i.op os)) (sym operands)
      (subst (λ k. Faulted z i s c (fetch_address z.frame b.arg ++ fetch z.frame 17 a.arg) (access_inst k reg b.arg)) (sym same) (record {
        traps = traps;
        address = at;
        before = m;
        does = does_both z c r.after m (fetch_address z.frame b.arg) (fetch z.frame 17 a.arg) r.does second.0.does;
        related = rel_m;
        junk = [];
        state = s;
        world = refl;
        steps = steps;
        fault = λ pc. (r.accesses (moved_to pc m).registers (λ q other. second.0.others q other) kind reg fits).does m.memory
            ∙ access_faults kind reg at (moved_to pc m).registers m.memory (gap_there z set serves s m rel_m at n free gap);
      }))

  pub store_runs : (i : AirInst) (s : State) (c : Machine) (a b : Operand) (kind : AccessKind) (extent : Extent) → i.operands ≡ a ∷ b ∷ []
      → inst_code z.frame i.op (a ∷ b ∷ []) ≡ store_code z.frame i.op (a ∷ b ∷ []) → access_kind i.op a.width ≡ kind
      → kind_of i.op ≡ Stores extent → IsStore kind extent a.width → a.role ≡ Use → b.role ≡ Use
      → IsRelated z s c → IsUsable z a.arg → IsWord OnlyZero a.width a.arg → IsReachable z b.arg → IsAddress (machine.access_bytes kind) b.arg
      → AccessRuns z i s c (fetch_stored z.frame i.operands) (store_inst i.op i.operands)
  store_runs i s c a b kind extent operands code same stores store role_a role_b rel usable is reachable fits =
      let n : ℕ = machine.access_bytes kind in
      let Runs : Type 0 = AccessRuns z i s c (fetch_stored z.frame i.operands) (store_inst i.op i.operands) in
      let All : Option ℕ → Option ℕ → Option (List Read) = λ A B. and_word a.width A (and_word b.width B (Some [])) in
      let A : Option ℕ = word_of s.homes a.width a.arg in
      let B : Option ℕ = word_of s.homes b.width b.arg in
      let reads : words s.homes i.operands ≡ All A B =
      ap (words s.homes) operands ∙ words_use s.homes a (b ∷ []) role_a
      ∙ ap (and_word a.width A) (words_use s.homes b [] role_b ∙ ap (and_word b.width B) (words_none s.homes)) in
      let writes = ap targets operands ∙ targets_use a (b ∷ []) role_a ∙ targets_use b [] role_b ∙ targets_none in
      elim (word_of s.homes a.width a.arg) as (λ o. word_of s.homes a.width a.arg ≡ o → Runs) [
        | None ↦ λ e. inl (inl (step_lost z.start i s (reads ∙ ap (λ o. All o B) e)))
        | Some word ↦ λ e.
            elim (word_of s.homes b.width b.arg) as (λ o. word_of s.homes b.width b.arg ≡ o → Runs) [
              | None ↦ λ f. inl (inl (step_lost z.start i s (reads ∙ ap (λ o. All o B) e ∙ ap (λ o. All (Some word) o) f)))
              | Some at ↦ λ f.
                  let read = reads ∙ ap (λ o. All o B) e ∙ ap (λ o. All (Some word) o) f in
                  let rs : List Read = (a.width, word) ∷ (b.width, at) ∷ [] in
                  elim (comes_to z.start s.world.memory at n i.traps) as (λ x. Runs) [
                    | Fails u refused ↦ inl (inl (step_without z.start i s rs read
                        (store_refused z.start i s extent a.width b.width word at n u stores store.bytes refused)))
                    | Touches done mapped ↦ inl (inr (store_ends i s c a b kind extent word at operands code same store rel usable is reachable fits e f mapped
                        (step_stores z.start i s rs (record s.world { memory = write_word s.world.memory at n word }) read writes
                        (store_means z.start i s extent a.width b.width word at n stores store.bytes done))))
                    | Traps trap traps free gap ↦ inr (store_faults i s c a b kind word at operands same rel usable reachable fits e f traps free gap
                        (step_stopped z.start i s rs at read writes (store_traps z.start i s extent a.width b.width word at n stores store.bytes trap)))
                  ]
            ] refl
      ] refl
