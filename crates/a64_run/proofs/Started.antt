-- The start that a program makes is the start that agrees.
use Rattle.std.proofs.Common.{◌≡◌, ℕ, zero, suc, ◌-◌, ◌*◌, Bool, List, [], ◌∷◌, refl, ap, ◌∙◌, arith, length}
use mathlib.Core.Path.{fun_ext}
use Rattle.std.specs.Prelude.{map, slice_index, ◌&&◌, not}
use Rattle.std.specs.Ordering.{nat_cmp}
use Rattle.std.specs.FinMap as map
use Rattle.b3_base.specs.Observed.{Memory, Start, machine_start_of, in_range}
use Rattle.b3_base.specs.Observed as observed
use Rattle.b3_base.specs.declared.range.Range.{Range}
use Rattle.b3_base.specs.declared.start.MachineStart.{MachineStart as GivenMachineStart}
use Rattle.exit_table.specs.declared.tables.FrameRow.{FrameRow}
use Rattle.elf_obj.specs.declared.object.Object.{Object}
use Rattle.a64_run.specs.Hidden.{covers}
use Rattle.a64_run.specs.Placement.{argument_words, entry_memory, in_frame, in_slot, is_within, slot_address, start_of, visible}

abbrev first_eight : List ℕ → List ℕ
first_eight x = slice_index x 0 ∷ slice_index x 1 ∷ slice_index x 2 ∷ slice_index x 3 ∷ slice_index x 4 ∷ slice_index x 5 ∷ slice_index x 6 ∷ slice_index x 7 ∷ []

argument_at : (x : List ℕ) (r : ℕ) → slice_index (first_eight x) r ≡ argument_words (slice_index x) r
argument_at x zero = refl
argument_at x (suc zero) = refl
argument_at x (suc (suc zero)) = refl
argument_at x (suc (suc (suc zero))) = refl
argument_at x (suc (suc (suc (suc zero)))) = refl
argument_at x (suc (suc (suc (suc (suc zero))))) = refl
argument_at x (suc (suc (suc (suc (suc (suc zero)))))) = refl
argument_at x (suc (suc (suc (suc (suc (suc (suc zero))))))) = refl
argument_at x (suc (suc (suc (suc (suc (suc (suc (suc r)))))))) = grind arith

abbrev made : (ℕ → ℕ) → ℕ → List ℕ → Memory → (ℕ → Bool) → (ℕ → Bool) → Start
made arguments frame_pointer slots memory is_hidden is_code = record { arguments = arguments; frame_pointer = frame_pointer; slots = slots; memory = memory; is_hidden = is_hidden; is_code = is_code }

pub same_start : (o : Object) (frame : FrameRow) (m : GivenMachineStart) (slots : List ℕ) (memory entry : map.FinMap nat_cmp ℕ) (hidden : List Range) (len : ℕ)
    → slots ≡ map (slot_address (machine_start_of m)) frame.slots
    → map.get entry ≡ entry_memory frame (machine_start_of m)
    → map.get memory ≡ visible frame (machine_start_of m) (map.get entry)
    → ((q : ℕ) → covers hidden q ≡ (in_frame frame (machine_start_of m) q && not (in_slot frame (machine_start_of m) q)))
    → len ≡ 4 * length o.text
    → observed.start_of (record { arguments = first_eight m.registers; frame_pointer = m.sp - 16; slots = slots; memory = memory; hidden = hidden; code = record { first = m.code; len = len } })
    ≡ start_of o frame (machine_start_of m)
same_start o frame m slots memory entry hidden len s e v h l =
    let x : slice_index (first_eight m.registers) ≡ argument_words (slice_index m.registers) = fun_ext (argument_at m.registers) in
    let seen : map.get memory ≡ visible frame (machine_start_of m) (entry_memory frame (machine_start_of m)) = v ∙ ap (visible frame (machine_start_of m)) e in
    let own : (λ (q : ℕ). covers hidden q) ≡ (λ (q : ℕ). in_frame frame (machine_start_of m) q && not (in_slot frame (machine_start_of m) q)) = fun_ext h in
    ap (λ (a : ℕ → ℕ). made a (m.sp - 16) slots (map.get memory) (covers hidden) (is_within m.code len)) x
    ∙ ap (λ (a : List ℕ). made (argument_words (slice_index m.registers)) (m.sp - 16) a (map.get memory) (covers hidden) (is_within m.code len)) s
    ∙ ap (λ (a : Memory). made (argument_words (slice_index m.registers)) (m.sp - 16) (map (slot_address (machine_start_of m)) frame.slots) a (covers hidden) (is_within m.code len)) seen
    ∙ ap (λ (a : ℕ → Bool). made (argument_words (slice_index m.registers)) (m.sp - 16) (map (slot_address (machine_start_of m)) frame.slots) (visible frame (machine_start_of m) (entry_memory frame (machine_start_of m))) a (is_within m.code len)) own
    ∙ ap (λ (a : ℕ). made (argument_words (slice_index m.registers)) (m.sp - 16) (map (slot_address (machine_start_of m)) frame.slots) (visible frame (machine_start_of m) (entry_memory frame (machine_start_of m)))
    (λ q. in_frame frame (machine_start_of m) q && not (in_slot frame (machine_start_of m) q)) (is_within m.code a)) l
