-- Loads and stores, the addresses of slots and the frame pointer.
use Rattle.std.proofs.Common.{◌≡◌, ℕ, ℤ, pos, ◌+◌, ◌*◌, ◌%◌, ◌^◌, ◌<◌, Bool, true, false, ◌||◌, List, [], ◌∷◌, ◌++◌, map, Option, Some, None, refl, sym, ap, ◌∙◌, subst, arith, ◌≤◌}
use Rattle.std.specs.Prelude.{Contains, if◌then◌else◌, is_some, slice_get}
use Rattle.std.specs.Int.{cast_unsigned, w64}
use Rattle.b3_base.specs.Arithmetic.{low}
use Rattle.b3_base.specs.Memory.{read_word, write_word}
use Rattle.b3_base.specs.Observed.{Event, Memory, Start}
use Rattle.b3_base.specs.Word.{bits}
use Rattle.b3_base.specs.declared.observation.Status.{Status}
use Rattle.b3_base.specs.declared.observation.Status.TheVariants.{Trapped}
use Rattle.b3_base.specs.declared.word.Width.{Width}
use Rattle.b3_base.specs.declared.word.Width.TheVariants.{W64}
use Rattle.b3_base.proofs.WordLaws.{read_word-lt}
use Rattle.b3_base.proofs.Lists.{All-at}
use Rattle.b3_ir.specs.Fits.{IsOffset, IsSlot}
use Rattle.b3_ir.specs.Naming.{type_of}
use Rattle.b3_ir.specs.Types.{AllowsTypes, AreTaken, width_of}
use Rattle.b3_ir.specs.declared.opcode.Opcode.{Opcode}
use Rattle.b3_ir.specs.declared.opcode.Opcode.TheVariants as opcode
use Rattle.b3_ir.specs.declared.opcode.Ty.{Ty}
use Rattle.b3_ir.specs.declared.opcode.Ty.TheVariants.{Int64}
use Rattle.b3_ir.specs.declared.table.More.TheVariants.{NoMore}
use Rattle.b3_ir.specs.declared.table.Takes.{Takes}
use Rattle.b3_ir.specs.declared.table.Takes.TheVariants.{This}
use Rattle.b3_ir.specs.declared.value.Body.{Body}
use Rattle.b3_ir.specs.declared.value.Body.TheVariants.{Offset, Slot}
use Rattle.b3_meaning.specs.Access.{Accessed, Done, Refused, Trap, access, offset_address}
use Rattle.b3_meaning.specs.Opcodes.{Gives, Outcome, sum}
use Rattle.b3_meaning.specs.Roles as roles
use Rattle.b3_meaning.specs.Run as b3
use Rattle.b3_meaning.specs.declared.role.Extent.{Extent}
use Rattle.b3_meaning.specs.declared.role.Extent.TheVariants.{Byte, Half, Whole}
use Rattle.b3_meaning.specs.declared.role.Role.{Role}
use Rattle.b3_meaning.specs.declared.role.Role.TheVariants as role
use Rattle.b3_rules.specs.Rules.{types_of}
use Rattle.b3_sound.proofs.Ranged.{loaded_below}
use Rattle.b3_sound.proofs.Rows.{IsRow}
use Rattle.air_ir.specs.Blocks.{seen_as}
use Rattle.air_ir.specs.Forms.{is_offset}
use Rattle.air_ir.specs.Kinds.{Kind, Loads, Stores, extent_bytes, kind_of}
use Rattle.air_ir.specs.Meaning as air
use Rattle.air_ir.specs.Meaning.{Over, World, effect_of, gives, gives_word, meaning}
use Rattle.air_ir.specs.Operands.{read, word_of, words}
use Rattle.air_ir.specs.Steps.{Goes, State, step, steps}
use Rattle.air_ir.specs.declared.op.AirOp.{AirOp}
use Rattle.air_ir.specs.declared.op.AirOp.TheVariants as op
use Rattle.air_ir.specs.declared.operand.Arg.{Arg}
use Rattle.air_ir.specs.declared.operand.Arg.TheVariants.{Addr, At, FrameSlot, Imm}
use Rattle.air_ir.specs.declared.procedure.AirInst.{AirInst}
use Rattle.air_ir.proofs.Stepping.{steps-one}
use Rattle.air_fold.specs.Foldable.{pointers, value_fits}
use Rattle.air_fold.specs.Values.{child, known, offset_in, place, width_at}
use Rattle.air_fold.specs.declared.known.Known.{Known}
use Rattle.air_select.specs.Selected as code
use Rattle.air_select.specs.Selected.{address_of, arg_of, before_access, def_at, far_sum, folds, frame_of, inst, load_of, move, result_of, slot_in, slot_of, store_of, use_at, use_of, home_address, sum_address, Tables}
use Rattle.air_select.specs.Temporaries.{first_extra, home, second_extra}
use Rattle.air_select.proofs.Addresses.{of_address, sum_word}
use Rattle.air_select.proofs.Children.{child_word, readable, width_is}
use Rattle.air_select.proofs.Copied.{moved, row_of_role}
use Rattle.air_select.proofs.Does.{Does, allows, are_words, at, below_is, gives_does, here, named, puts, words_here, Here}
use Rattle.air_select.proofs.Facts.{child_ran}
use Rattle.air_select.proofs.Instructions.{at_home, of_immediate, one_end, one_quiet, one_word, reads_def, reads_none, reads_use, steps_first, steps_last, with_home, writes_def, writes_none, writes_use}
use Rattle.air_select.proofs.Plain.{computing}
use Rattle.air_select.proofs.Pointers.{PointerAt}
use Rattle.air_select.proofs.Related.{Related, extra_related, holds_word, put_here}
use Rattle.air_select.proofs.Rotations.{reads_two, writes_two}
use Rattle.air_select.proofs.Shapes.{one_child, one_here, two_children, two_here}
use Rattle.b3_ir.specs.Procedure.{Procedure}
use Rattle.b3_ir.specs.declared.value.Value.{Value}

-- ---- words

given_is : (x : Option ℕ) (w : ℕ) → b3.given x ≡ Gives w → x ≡ Some w
given_is (Some y) w e = let same : y ≡ w = cc in ap Some same
given_is None w e = absurd cc

-- what is loaded is the same word in both runs
loaded_is : (extends : Bool) (bytes : ℕ) (x : Option ℕ) (w : ℕ) → b3.loaded extends bytes x ≡ Gives w → air.loaded extends bytes x ≡ Some w
loaded_is extends bytes (Some y) w e = let same : b3.extended extends bytes y ≡ w = cc in ap Some same
loaded_is extends bytes None w e = absurd cc

loaded_some : (extends : Bool) (bytes : ℕ) (x : Option ℕ) (w : ℕ) → b3.loaded extends bytes x ≡ Gives w → is_some x ≡ true
loaded_some extends bytes (Some y) w e = refl
loaded_some extends bytes None w e = absurd cc

pub bytes_alike : (extent : Extent) (ty : Ty) → extent_bytes extent (width_of ty) ≡ roles.extent_bytes extent ty
bytes_alike Byte ty = refl
bytes_alike Half ty = refl
bytes_alike Whole ty = refl

-- the sum of two words, the second of which is read at 64 bits
sum_is : (x k : ℕ) → sum W64 x (low W64 k) ≡ (x + k) % 2 ^ 64
sum_is x k = omega arith

low_small : (k : ℕ) → low W64 k < 2 ^ 64
low_small k = omega arith

sum_small : (x k : ℕ) → (x + k) % 2 ^ 64 < 2 ^ 64
sum_small x k = omega arith

no_offset : (x : ℕ) → x < 2 ^ 64 → offset_address x (pos 0) ≡ x
no_offset x lt = omega arith

pub of_slot : (s : State) (width : Width) (number : ℕ) → word_of s.homes width (FrameSlot number) ≡ Some number
unfolding word_of
of_slot s width number = refl

module _ (p : Procedure) (t : Tables) (start : Start) (v : Value) (h : Here p t start v) (junk : List ℕ) where
  -- ---- slots and the frame pointer

  slot_is : (body : Body) (w : ℕ) → IsSlot body → b3.slot_of start body ≡ Gives w → slice_get start.slots (slot_in body) ≡ Some w
  slot_is (Slot number) w is e = given_is (slice_get start.slots number) w e
  slot_is _ w is e = absurd is

  slot_means : (number w : ℕ) (width : Width) (world : World) → slice_get start.slots number ≡ Some w
      → meaning start (record { op = op.SlotAddress; value = v.id; traps = false }) ((width, number) ∷ []) world ≡ gives world (w ∷ [])
  unfolding meaning
  slot_means number w width world e = ap (gives_word world) e

  frame_means : (world : World)
      → meaning start (record { op = op.FramePointer; value = v.id; traps = false }) [] world ≡ gives world (start.frame_pointer ∷ [])
  unfolding meaning
  frame_means world = refl

  wide : v.ty ≡ Int64 → (w : ℕ) → w < 2 ^ 64 → w < 2 ^ bits (width_of v.ty)
  wide e w lt = subst (λ (ty : Ty). w < 2 ^ bits (width_of ty)) (sym e) lt

  pub slot_does : v.kind.opcode ≡ opcode.SlotBase
      → Does p t start v junk (b3.gives h.st v.id (b3.slot_of start v.body)) (steps (meaning start) (slot_of t v ∷ []) h.s junk)
  slot_does eo =
      let row = row_of_role p t start v h opcode.SlotBase eo in
      let to = home t.index v.id in
      let width = width_of v.ty in
      let number = slot_in v.body in
      gives_does p t start v h junk (b3.slot_of start v.body) (steps (meaning start) (slot_of t v ∷ []) h.s junk)
      (λ w e.
      let address = slot_is v.body w row.1 e in
      let small : w < 2 ^ 64 = All-at (λ x. x < 2 ^ 64) start.slots number w h.ranged.slots address in
      puts p t start v h junk w h.s (steps (meaning start) (slot_of t v ∷ []) h.s junk) (wide row.0 w small) h.related
      (steps_last start (slot_of t v) h.s junk (Goes None (with_home h.s to width w), junk)
      (one_word start (slot_of t v) h.s junk ((W64, number) ∷ []) to width w
      (reads_use h.s.homes W64 (FrameSlot number) (def_at width to ∷ []) number [] (of_slot h.s W64 number) (reads_def h.s.homes width to))
      (slot_means number w W64 h.s.world address)
      (writes_use W64 (FrameSlot number) (def_at width to ∷ []) ∙ writes_def width to))))

  pub frame_does : v.kind.opcode ≡ opcode.FramePointer
      → Does p t start v junk (b3.gives h.st v.id (Gives start.frame_pointer)) (steps (meaning start) (frame_of t v ∷ []) h.s junk)
  frame_does eo =
      let row = row_of_role p t start v h opcode.FramePointer eo in
      let to = home t.index v.id in
      let width = width_of v.ty in
      let w = start.frame_pointer in
      puts p t start v h junk w h.s (steps (meaning start) (frame_of t v ∷ []) h.s junk) (wide row w h.ranged.frame_pointer) h.related
      (steps_last start (frame_of t v) h.s junk (Goes None (with_home h.s to width w), junk)
      (one_word start (frame_of t v) h.s junk [] to width w (reads_def h.s.homes width to) (frame_means h.s.world) (writes_def width to)))

  -- ---- addresses

  -- some code goes on to a related state in which an argument reads an address
  pub record Points (before : List AirInst) (at : Arg) (address : ℕ) : Type 0 where
    pub s : State
    pub runs : (is : List AirInst) → steps (meaning start) (before ++ is) h.s junk ≡ steps (meaning start) is s junk
    pub related : Related p t start h.st s
    pub reads : (width : Width) → word_of s.homes width at ≡ Some address

  module _ (no_phi : v.kind.opcode ≡ opcode.Phi → ⊥) (pointer word : ℕ) (now : h.st.words pointer ≡ Some word) (typed : type_of p pointer ≡ Int64)
      (unfolded : folds t pointer ≡ false) where
    pointer_width : width_at t.index pointer ≡ W64
    pointer_width = ap width_of (h.sound.types pointer ∙ typed)

    pointer_reads : (s : State) → Related p t start h.st s → read W64 (s.homes (home t.index pointer)) ≡ Some word
    pointer_reads s r = ap (λ (k : Width). read k (s.homes (home t.index pointer))) (sym pointer_width) ∙ r.words pointer word now unfolded

    -- it is read at its width
    pointer_word : (s : State) → Related p t start h.st s → word_of s.homes (width_at t.index pointer) (arg_of t pointer) ≡ Some word
    pointer_word s r =
        subst (λ (f : Bool). word_of s.homes (width_at t.index pointer) (if f then Imm (known t.index pointer).word else At (home t.index pointer)) ≡ Some word)
        (sym unfolded) (at_home s.homes (width_at t.index pointer) (home t.index pointer) word (r.words pointer word now unfolded))

    abbrev offset : ℤ
    offset = offset_in v.body

    near_points : Points [] (Addr (home t.index pointer) offset) (offset_address word offset)
    near_points = record {
      s = h.s;
      runs = λ is. refl;
      related = h.related;
      reads = λ width. of_address h.s width (home t.index pointer) offset word (pointer_reads h.s h.related);
    }

    far_points : Points (far_sum t v pointer) (Addr (second_extra t.index v.id) (pos 0)) (offset_address word offset)
    far_points =
        let k = cast_unsigned w64 offset in
        let first = first_extra t.index v.id in
        let second = second_extra t.index v.id in
        let x = width_at t.index pointer in
        let all = (word + k) % 2 ^ 64 in
        let put = move v W64 (Imm k) first in
        let add : AirInst = inst v op.Add (use_of t pointer ∷ use_at W64 (At first) ∷ def_at W64 second ∷ []) in
        let s1 = with_home h.s first W64 (low W64 k) in
        let s2 = with_home s1 second W64 all in
        let r1 : Related p t start h.st s1 = extra_related p t h.sound start h.st h.s h.related v.id v (named p t start v h) 1 _ (omega arith)
        (omega arith) no_phi in
        let r2 : Related p t start h.st s2 = extra_related p t h.sound start h.st s1 r1 v.id v (named p t start v h) 2 _ (omega arith) (omega arith) no_phi in
        let put_step : step (meaning start) put h.s junk ≡ (Goes None s1, junk) =
        sym (steps-one (meaning start) put h.s junk) ∙ moved p t start v h h.s junk W64 (Imm k) first (low W64 k) (of_immediate h.s.homes W64 k) in
        let add_step : step (meaning start) add s1 junk ≡ (Goes None s2, junk) =
        one_word start add s1 junk ((x, word) ∷ (W64, low W64 k) ∷ []) second W64 all
        (reads_two p t start v h junk s1 x W64 (arg_of t pointer) (At first) word (low W64 k) W64 second
        (pointer_word s1 r1)
        (at_home s1.homes W64 first (low W64 k) (ap (read W64) (put_here h.s.homes (3 * place t.index v.id + 1) _) ∙ holds_word W64 (low W64 k) (low_small k))))
        (computing p t start v h op.Add v.id ((x, word) ∷ (W64, low W64 k) ∷ []) s1.world all refl
        (ap (λ (w : Width). Some (sum w word (low W64 k))) pointer_width ∙ ap Some (sum_is word k)))
        (writes_two p t start v h junk x W64 (arg_of t pointer) (At first) W64 second) in
        record {
          s = s2;
          runs = λ is. steps_first start put (add ∷ is) h.s s1 junk put_step ∙ steps_first start add is s1 s2 junk add_step;
          related = r2;
          reads = λ width.
              of_address s2 width second (pos 0) all
              (ap (read W64) (put_here s1.homes (3 * place t.index v.id + 2) _) ∙ holds_word W64 all (sum_small word k))
              ∙ ap Some (no_offset all (sum_small word k));
        }

    home_points : (bytes : ℕ) → Points (if is_offset bytes (offset_in v.body) then [] else far_sum t v pointer) (home_address t v pointer bytes)
        (offset_address word (offset_in v.body))
    home_points bytes = by (is_offset bytes (offset_in v.body))
      where
        by : (near : Bool)
            → Points (if near then [] else far_sum t v pointer)
            (if near then Addr (home t.index pointer) (offset_in v.body) else Addr (second_extra t.index v.id) (pos 0))
            (offset_address word (offset_in v.body))
        by true = near_points
        by false = far_points

  -- the address of an access, in its home or a sum
  points : (o : Opcode) (eo : v.kind.opcode ≡ o) (no_phi : o ≡ opcode.Phi → ⊥) (i bytes : ℕ) → PointerAt p t v o i bytes → (pointer word : ℕ)
      → slice_get v.children i ≡ Some pointer → Contains v.children pointer → h.st.words pointer ≡ Some word → type_of p pointer ≡ Int64
      → Points (before_access t v pointer bytes) (address_of t v pointer bytes) (offset_address word (offset_in v.body))
  points o eo no_phi i bytes pointed pointer word there has now typed = by (folds t pointer) refl
    where
      by : (f : Bool) → folds t pointer ≡ f
          → Points (if f || is_offset bytes (offset_in v.body) then [] else far_sum t v pointer)
          (if f then sum_address t v (known t.index pointer) else home_address t v pointer bytes) (offset_address word (offset_in v.body))
      by false un = home_points (λ e. no_phi (sym eo ∙ e)) pointer word now typed un bytes
      by true gone = record {
        s = h.s;
        runs = λ is. refl;
        related = h.related;
        reads = sum_word p t start v h o eo i bytes pointed pointer word there has now typed gone;
      }

  -- ---- what an access does, in a related state

  loads_mean : (air_op : AirOp) (extent : Extent) (extends : Bool) (width : Width) (address : ℕ) (w : World) → kind_of air_op ≡ Loads extent extends
      → meaning start (record { op = air_op; value = v.id; traps = v.kind.traps }) ((width, address) ∷ []) w
      ≡ air.loads start (record { op = air_op; value = v.id; traps = v.kind.traps }) (extent_bytes extent width) extends (address ∷ []) w
  unfolding meaning
  loads_mean air_op extent extends width address w kind =
      ap (λ (k : Kind). effect_of k start (record { op = air_op; value = v.id; traps = v.kind.traps }) width ((width, address) ∷ []) (address ∷ []) w) kind

  stores_mean : (air_op : AirOp) (extent : Extent) (width other : Width) (word address : ℕ) (w : World) → kind_of air_op ≡ Stores extent
      → meaning start (record { op = air_op; value = v.id; traps = v.kind.traps }) ((width, word) ∷ (other, address) ∷ []) w
      ≡ air.stores start (record { op = air_op; value = v.id; traps = v.kind.traps }) (extent_bytes extent width) (word ∷ address ∷ []) w
  unfolding meaning
  stores_mean air_op extent width other word address w kind =
      ap (λ (k : Kind). effect_of k start (record { op = air_op; value = v.id; traps = v.kind.traps }) width
      ((width, word) ∷ (other, address) ∷ []) (word ∷ address ∷ []) w) kind

  seen_is : (s : State) → Related p t start h.st s → (w : World) → w ≡ s.world → (status : Status) → seen_as w status ≡ b3.seen_as h.st status
  seen_is s r w same status =
      ap (λ (x : World). seen_as x status) same
      ∙ ap (λ (m : Memory). record { status = status; events = s.world.events; memory = m }) r.memory
      ∙ ap (λ (l : List Event). record { status = status; events = l; memory = h.st.memory }) r.events

  module _ (air_op : AirOp) (extent : Extent) (at : Arg) (address : ℕ) (s : State) (r : Related p t start h.st s) where
    module _ (extends : Bool) (kind : kind_of air_op ≡ Loads extent extends) (narrow : 8 * roles.extent_bytes extent v.ty ≤ bits (width_of v.ty))
        (reads : word_of s.homes (width_of v.ty) at ≡ Some address) where
      abbrev load_inst : AirInst
      load_inst = code.access v air_op (use_at (width_of v.ty) at ∷ result_of t v ∷ [])

      abbrev loaded_word : Outcome
      loaded_word = b3.loaded extends (roles.extent_bytes extent v.ty) (read_word h.st.memory address (roles.extent_bytes extent v.ty))

      load_means : (acc : Accessed) → access start h.st.memory address (roles.extent_bytes extent v.ty) v.kind.traps ≡ acc
          → meaning start (record { op = air_op; value = v.id; traps = v.kind.traps }) ((width_of v.ty, address) ∷ []) s.world
          ≡ air.accesses v.id s.world acc
          (gives_word s.world (air.loaded extends (roles.extent_bytes extent v.ty) (read_word h.st.memory address (roles.extent_bytes extent v.ty))))
      load_means acc e =
          let bytes = roles.extent_bytes extent v.ty in
          loads_mean air_op extent extends (width_of v.ty) address s.world kind
          ∙ ap (λ n. air.loads start (record { op = air_op; value = v.id; traps = v.kind.traps }) n extends (address ∷ []) s.world) (bytes_alike extent v.ty)
          ∙ ap (λ (m : Memory). air.accesses v.id s.world (access start m address bytes v.kind.traps)
          (gives_word s.world (air.loaded extends bytes (read_word m address bytes)))) r.memory
          ∙ ap (λ (a : Accessed). air.accesses v.id s.world a (gives_word s.world (air.loaded extends bytes (read_word h.st.memory address bytes)))) e

      load_words : words s.homes (use_at (width_of v.ty) at ∷ result_of t v ∷ []) ≡ Some ((width_of v.ty, address) ∷ [])
      load_words =
          reads_use s.homes (width_of v.ty) at (result_of t v ∷ []) address [] reads (reads_def s.homes (width_of v.ty) (home t.index v.id))

      load_small : (w : ℕ) → loaded_word ≡ Gives w → w < 2 ^ bits (width_of v.ty)
      load_small w g =
          let bytes = roles.extent_bytes extent v.ty in
          let found = read_word h.st.memory address bytes in
          below_is p t start v h (2 ^ bits (width_of v.ty)) (b3.loaded extends bytes found) w
          (loaded_below (width_of v.ty) extends bytes found (loaded_some extends bytes found w g)
          (read_word-lt h.st.memory address bytes h.reached.ranged.memory) narrow) g

      load_by : (acc : Accessed) → access start h.st.memory address (roles.extent_bytes extent v.ty) v.kind.traps ≡ acc
          → Does p t start v junk (b3.accesses h.st v.id acc (b3.gives h.st v.id loaded_word)) (steps (meaning start) (load_inst ∷ []) s junk)
      load_by Done e =
          let bytes = roles.extent_bytes extent v.ty in
          let to = home t.index v.id in
          let width = width_of v.ty in
          let found = read_word h.st.memory address bytes in
          gives_does p t start v h junk loaded_word (steps (meaning start) (load_inst ∷ []) s junk)
          (λ w g.
          puts p t start v h junk w s (steps (meaning start) (load_inst ∷ []) s junk) (load_small w g) r
          (steps_last start load_inst s junk (Goes None (with_home s to width w), junk)
          (one_word start load_inst s junk ((width, address) ∷ []) to width w load_words
          (load_means Done e ∙ ap (gives_word s.world) (loaded_is extends bytes found w g))
          (writes_use width at (def_at width to ∷ []) ∙ writes_def width to))))
      load_by (Trap first) e =
          let ended = one_end start load_inst s junk ((width_of v.ty, address) ∷ []) s.world (Trapped v.id first) load_words (load_means (Trap first) e) in (
            Trapped v.id first,
            ended.0,
            ended.1,
            steps_last start load_inst s junk (Goes (Some (Over (Trapped v.id first))) ended.0, ended.1) ended.2,
            seen_is s r (ended.0).world ended.3 (Trapped v.id first),
          )
      load_by (Refused u) e = tt

    module _ (ty : Ty) (kind : kind_of air_op ≡ Stores extent) (width : Width) (is : width ≡ width_of ty) (from : Arg) (word : ℕ)
        (stored : word_of s.homes width from ≡ Some word) (reads : word_of s.homes width at ≡ Some address) where
      abbrev store_inst : AirInst
      store_inst = code.access v air_op (use_at width from ∷ use_at width at ∷ [])

      abbrev with_stored : Memory → Memory
      with_stored m = write_word m address (roles.extent_bytes extent ty) word

      store_means : (acc : Accessed) → access start h.st.memory address (roles.extent_bytes extent ty) v.kind.traps ≡ acc
          → meaning start (record { op = air_op; value = v.id; traps = v.kind.traps }) ((width, word) ∷ (width, address) ∷ []) s.world
          ≡ air.accesses v.id s.world acc (gives (record s.world { memory = with_stored s.world.memory }) [])
      store_means acc e =
          let bytes = roles.extent_bytes extent ty in
          let o : air.Operation = record { op = air_op; value = v.id; traps = v.kind.traps } in
          let after = gives (record s.world { memory = with_stored s.world.memory }) [] in
          stores_mean air_op extent width width word address s.world kind
          ∙ ap (λ k. air.stores start o (extent_bytes extent k) (word ∷ address ∷ []) s.world) is
          ∙ ap (λ n. air.stores start o n (word ∷ address ∷ []) s.world) (bytes_alike extent ty)
          ∙ ap (λ (m : Memory). air.accesses v.id s.world (access start m address bytes v.kind.traps) after) r.memory
          ∙ ap (λ (a : Accessed). air.accesses v.id s.world a after) e

      store_words : words s.homes (use_at width from ∷ use_at width at ∷ []) ≡ Some ((width, word) ∷ (width, address) ∷ [])
      store_words =
          reads_use s.homes width from (use_at width at ∷ []) word ((width, address) ∷ []) stored
          (reads_use s.homes width at [] address [] reads (reads_none s.homes))

      store_related : Related p t start (record h.st { memory = with_stored h.st.memory })
          (record { homes = s.homes; world = record s.world { memory = with_stored s.world.memory } })
      store_related = record {
        words = r.words;
        locations = r.locations;
        phis = r.phis;
        arguments = r.arguments;
        memory = ap with_stored r.memory;
        events = r.events;
        answers = r.answers;
      }

      store_by : (acc : Accessed) → access start h.st.memory address (roles.extent_bytes extent ty) v.kind.traps ≡ acc
          → Does p t start v junk (b3.accesses h.st v.id acc (b3.Next (record h.st { memory = with_stored h.st.memory })))
          (steps (meaning start) (store_inst ∷ []) s junk)
      store_by Done e =
          let after = record s.world { memory = with_stored s.world.memory } in (
            record { homes = s.homes; world = after },
            steps_last start store_inst s junk (Goes None (record { homes = s.homes; world = after }), junk)
                (one_quiet start store_inst s junk ((width, word) ∷ (width, address) ∷ []) after store_words (store_means Done e)
                (writes_use width from (use_at width at ∷ []) ∙ writes_use width at [] ∙ writes_none)),
            store_related,
          )
      store_by (Trap first) e =
          let ended = one_end start store_inst s junk ((width, word) ∷ (width, address) ∷ []) s.world (Trapped v.id first) store_words
          (store_means (Trap first) e) in (
            Trapped v.id first,
            ended.0,
            ended.1,
            steps_last start store_inst s junk (Goes (Some (Over (Trapped v.id first))) ended.0, ended.1) ended.2,
            seen_is s r (ended.0).world ended.3 (Trapped v.id first),
          )
      store_by (Refused u) e = tt

  -- ---- loads and stores

  offset_is : (body : Body) → IsOffset body → body ≡ Offset (offset_in body)
  offset_is (Offset bytes) is = refl
  offset_is _ is = absurd is

  -- the word that is stored
  stored_word : (o : Opcode) → v.kind.opcode ≡ o → ((k : Known) → value_fits t.index (pointers p) o 0 v.id k ≡ false)
      → (s : State) → Related p t start h.st s → (c w : ℕ) → slice_get v.children 0 ≡ Some c → Contains v.children c → h.st.words c ≡ Some w
      → word_of s.homes (width_at t.index c) (arg_of t c) ≡ Some w
  stored_word o eo none s r c w there has now =
      child_word p h.valid t h.sound start h.passed h.block h.before (v ∷ h.rest) h.stands h.st h.reached s r c w
      (child_ran p h.valid h.passed h.block h.before h.st h.reached v (at p t start v h) c has)
      (readable p h.valid t h.sound start h.block v (here p t start v h) 0 c there
      (λ k. ap (λ (q : Opcode). value_fits t.index (pointers p) q 0 v.id k) eo ∙ none k)) now

  pub load_does : (o : Opcode) (air_op : AirOp) (extent : Extent) (extends : Bool) → v.kind.opcode ≡ o → roles.role_of o ≡ role.Load extent extends
      → kind_of air_op ≡ Loads extent extends → (o ≡ opcode.Phi → ⊥) → PointerAt p t v o 0 (extent_bytes extent (width_of v.ty))
      → ((ty : Ty) (types : List Ty) (a : AllowsTypes o ty types) → AreTaken a.alike (This Int64 ∷ []) NoMore types)
      → Does p t start v junk (b3.loads start h.st v extent extends v.body (words_here p t start v h))
      (steps (meaning start) (load_of t v air_op extent) h.s junk)
  load_does o air_op extent extends eo is kind no_phi pointed takes =
      let ws = words_here p t start v h in
      let row : IsRow (role.Load extent extends) v.ty (types_of p v) v.body =
      subst (λ (r : Role). IsRow r v.ty (types_of p v) v.body) is (row_of_role p t start v h o eo) in
      let allowed = subst (λ (q : Opcode). AllowsTypes q v.ty (types_of p v)) eo (allows p t start v h) in
      let one = one_here (type_of p) h.st.words allowed.alike (This Int64) v.children ws
      (one_child (type_of p) h.st.words allowed.alike (This Int64) v.children ws (takes v.ty (types_of p v) allowed) (are_words p t start v h)) in
      let pointer = child v.children 0 in
      let width = width_of v.ty in
      let bytes = extent_bytes extent width in
      let offset = offset_in v.body in
      let at = address_of t v pointer bytes in
      let pts = points o eo no_phi 0 bytes pointed pointer one.wx one.x_at one.x_in one.x_now one.x_taken in
      let last : AirInst = code.access v air_op (use_at width at ∷ result_of t v ∷ []) in
      let address = offset_address one.wx offset in
      subst (λ (b : Body). Does p t start v junk (b3.loads start h.st v extent extends b ws) (steps (meaning start) (load_of t v air_op extent) h.s junk))
      (sym (offset_is v.body row.1))
      (subst (λ (l : List ℕ). Does p t start v junk (b3.loads start h.st v extent extends (Offset offset) l)
      (steps (meaning start) (load_of t v air_op extent) h.s junk)) (sym one.words)
      (subst (Does p t start v junk (b3.loads start h.st v extent extends (Offset offset) (one.wx ∷ [])))
      (sym (pts.runs (last ∷ [])))
      (load_by air_op extent at address pts.s pts.related extends kind row.2 (pts.reads width)
      (access start h.st.memory address (roles.extent_bytes extent v.ty) v.kind.traps) refl)))

  pub store_does : (o : Opcode) (air_op : AirOp) (extent : Extent) (value : Takes) → v.kind.opcode ≡ o → roles.role_of o ≡ role.Store extent
      → kind_of air_op ≡ Stores extent → (o ≡ opcode.Phi → ⊥) → ((k : Known) → value_fits t.index (pointers p) o 0 v.id k ≡ false)
      → PointerAt p t v o 1 (extent_bytes extent (width_at t.index (child v.children 0)))
      → ((ty : Ty) (types : List Ty) (a : AllowsTypes o ty types) → AreTaken a.alike (value ∷ This Int64 ∷ []) NoMore types)
      → Does p t start v junk (b3.stores start h.st v extent v.body (types_of p v) (words_here p t start v h))
      (steps (meaning start) (store_of t v air_op extent) h.s junk)
  store_does o air_op extent value eo is kind no_phi none pointed takes =
      let ws = words_here p t start v h in
      let row : IsRow (role.Store extent) v.ty (types_of p v) v.body =
      subst (λ (r : Role). IsRow r v.ty (types_of p v) v.body) is (row_of_role p t start v h o eo) in
      let allowed = subst (λ (q : Opcode). AllowsTypes q v.ty (types_of p v)) eo (allows p t start v h) in
      let shape = two_children (type_of p) h.st.words allowed.alike value (This Int64) v.children ws (takes v.ty (types_of p v) allowed)
      (are_words p t start v h) in
      let two = two_here (type_of p) h.st.words allowed.alike value (This Int64) v.children ws shape in
      let from = child v.children 0 in
      let pointer = child v.children 1 in
      let ty = type_of p from in
      let width = width_at t.index from in
      let bytes = extent_bytes extent width in
      let offset = offset_in v.body in
      let at = address_of t v pointer bytes in
      let pts = points o eo no_phi 1 bytes pointed pointer two.wy two.y_at two.y_in two.y_now two.y_taken in
      let width_typed : width ≡ width_of ty =
      width_is p h.valid t h.sound start h.passed h.block h.before (v ∷ h.rest) h.stands h.st h.reached h.s h.related from in
      let last : AirInst = code.access v air_op (use_of t from ∷ use_at width at ∷ []) in
      let address = offset_address two.wy offset in
      let first : from ≡ shape.x = ap (λ (l : List ℕ). child l 0) shape.are in
      let types : types_of p v ≡ ty ∷ type_of p shape.y ∷ [] =
      ap (map (type_of p)) shape.are ∙ ap (λ (x : ℕ). type_of p x ∷ type_of p shape.y ∷ []) (sym first) in
      subst (λ (b : Body). Does p t start v junk (b3.stores start h.st v extent b (types_of p v) ws)
      (steps (meaning start) (store_of t v air_op extent) h.s junk))
      (sym (offset_is v.body row.2))
      (subst (λ (l : List Ty). Does p t start v junk (b3.stores start h.st v extent (Offset offset) l ws)
      (steps (meaning start) (store_of t v air_op extent) h.s junk)) (sym types)
      (subst (λ (l : List ℕ). Does p t start v junk (b3.stores start h.st v extent (Offset offset) (ty ∷ type_of p shape.y ∷ []) l)
      (steps (meaning start) (store_of t v air_op extent) h.s junk)) (sym two.words)
      (subst (Does p t start v junk (b3.stores start h.st v extent (Offset offset) (ty ∷ type_of p shape.y ∷ []) (two.wx ∷ two.wy ∷ [])))
      (sym (pts.runs (last ∷ [])))
      (store_by air_op extent at address pts.s pts.related ty kind width width_typed (arg_of t from) two.wx
      (stored_word o eo none pts.s pts.related from two.wx two.x_at two.x_in two.x_now) (pts.reads width)
      (access start h.st.memory address (roles.extent_bytes extent ty) v.kind.traps) refl))))
