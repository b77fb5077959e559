-- Where the run of the machine of an object begins, and its first step: the entry and the block behind it.
use Rattle.std.proofs.Common.{◌≡◌, ℕ, zero, suc, ◌+◌, ◌-◌, ◌^◌, ◌<◌, ◌≤◌, Bool, true, false, Option, Some, None, List, [], ◌∷◌, ◌++◌, length, refl, sym, ap, ◌∙◌, subst, arith, append_assoc, if◌then◌else◌, nat_lt, nat_le}
use Rattle.std.specs.Prelude.{All, IfSome, map}
use Rattle.std.proofs.lemmas.Bool.{and_parts}
use Rattle.std.proofs.lemmas.Bool.Decides.{nat_tests}
use Rattle.std.proofs.lemmas.List.Elements.{All-cons, All-nil}
use Rattle.b3_base.specs.Memory.{AreBytes}
use Rattle.b3_base.specs.Observed.{Answer, MachineStart}
use Rattle.b3_base.specs.Ranged.{AreWords as AreAllWords, IsRangedAnswer, IsRangedStart}
use Rattle.b3_base.specs.Run.{iterate}
use Rattle.b3_base.proofs.Run.{iterate-add, moments_joined}
use Rattle.stackmap.specs.declared.site.SlotRow.{SlotRow}
use Rattle.exit_table.specs.declared.tables.FrameRow.{FrameRow}
use Rattle.air_ir.specs.Blocks as air
use Rattle.air_ir.specs.Blocks.{block_step, run_step}
use Rattle.air_ir.specs.Meaning.{meaning}
use Rattle.air_ir.specs.Run as run
use Rattle.air_ir.specs.Steps.{State}
use Rattle.elf_obj.specs.declared.object.Object.{Object}
use Rattle.elf_obj.specs.declared.object.Symbol.{Symbol}
use Rattle.a64_layout.specs.Layout.{place, position_of}
use Rattle.a64_layout.specs.Machine.{Machine}
use Rattle.a64_layout.proofs.Least.{place-zero}
use Rattle.a64_run.specs.Machine as machine
use Rattle.a64_run.specs.Machine.{Config, Entry, Runs, machine_step}
use Rattle.a64_run.specs.Placement.{Places, argument_words, entry_memory, in_frame, slot_address, start_of}
use Rattle.a64_emit.specs.Setting.{IsSet, Setting, address_of}
use Rattle.a64_emit.specs.Related.{IsRelated}
use Rattle.a64_emit.specs.Emitted.{Begins, CarriesOut, Log, first_state, log_of}
use Rattle.a64_object.proofs.Following.{OneStep}
use Rattle.a64_object.proofs.Stepping.{begin_of}
use Rattle.a64_object.proofs.Subject.{Stands, Subject, as_many_words, at_item, entry, frame_row, setting}
use Rattle.a64_object.proofs.Landing.{Comes, IsAlike, IsMomentOf, proper_for}
use Rattle.a64_object.proofs.Blocks.{Lost, Serves, block_lost, block_over, blocks, bound, carried, number, of_at, run_first, some_words, up}

-- ---- the start that agrees is in range
argument_range : (x : ℕ → ℕ) (r : ℕ) → ((k : ℕ) → x k < 2 ^ 64) → argument_words x r < 2 ^ 64
argument_range x r below = by (nat_lt r 8)
  where
    by : (b : Bool) → (if b then x r else 0) < 2 ^ 64
    by true = below r
    by false = omega arith

slots_range : (m : MachineStart) (slots : List SlotRow) → m.sp < 2 ^ 64 → AreAllWords (map (slot_address m) slots)
slots_range m [] small = All-nil _
slots_range m (slot ∷ slots) small =
    All-cons (λ word. word < 2 ^ 64) (slot_address m slot) (map (slot_address m) slots) (omega arith) (slots_range m slots small)

entry_byte : (m : MachineStart) (frame : FrameRow) (q : ℕ) → m.sp < 2 ^ 64 → frame.bytes ≤ m.sp → AreBytes m.memory → ((a : ℕ) → m.stack a < 256)
    → IfSome (entry_memory frame m q) (λ byte. (q < 2 ^ 64) × (byte < 256))
entry_byte m frame q small room bytes stack = by (in_frame frame m q) refl
  where
    by : (inside : Bool) → in_frame frame m q ≡ inside → IfSome (if inside then Some (m.stack q) else m.memory q) (λ byte. (q < 2 ^ 64) × (byte < 256))
    by true is = let parts = and_parts (nat_le (m.sp - frame.bytes) q) (nat_lt q (m.sp - frame.bytes + frame.bytes)) is in
        (grind (arith, nat_tests, parts.1), stack q)
    by false is = bytes q

seen_bytes : (b : Bool) (o : Option ℕ) (P : ℕ → Type 0) → IfSome o P → IfSome (if b then o else None) P
seen_bytes true o P some = some
seen_bytes false o P some = tt

pub start_ranged : (o : Object) (symbol : Symbol) (frame : FrameRow) (m : MachineStart) → Places o symbol frame m → IsRangedStart (start_of o frame m)
start_ranged o symbol frame m placed = record {
  arguments = λ r. argument_range m.registers r placed.ranged.registers;
  frame_pointer = let small = placed.ranged.sp in omega arith;
  slots = slots_range m frame.slots placed.ranged.sp;
  memory = λ q. seen_bytes _ (entry_memory frame m q) _ (entry_byte m frame q placed.ranged.sp placed.room placed.ranged.memory placed.ranged.stack);
}

module _ (x : Subject) where
  abbrev z : Setting
  z = setting x

  abbrev e : Entry
  e = entry x

  -- what emission asks of a run
  pub is_set : Stands x → Places x.object x.symbol (frame_row x) x.start → IsSet z
  is_set stands placed = record {
    ends = let all = as_many_words x stands in let has = stands.has_text in omega (arith, has.within, has.ends, has.begins);
    ranged = placed.ranged;
    aligned = placed.aligned;
    room = placed.room;
    apart = λ address some. (placed.mapped_apart address some).0;
    arguments = refl;
    frame_pointer = refl;
    slots = refl;
    memory = refl;
    hidden = refl;
  }

  module _ (serves : Serves x) (answers : List Answer) (ranged : All IsRangedAnswer answers) where
    -- the machine at the first word
    begin : Machine
    begin = record {
      registers = record { x = x.start.registers; sp = x.start.sp; pc = begin_of e; flags = record { n = false; z = false; c = false; v = false } };
      memory = entry_memory (frame_row x) x.start;
    }

    abbrev none_yet : Log
    none_yet = record { events = []; answers = answers }

    begins : Begins z begin
    unfolding begin
    begins = record {
      x = refl;
      sp = refl;
      words = record {
        x = serves.set.ranged.registers;
        sp = serves.set.ranged.sp;
        pc = let some = some_words x serves in let has = serves.stands.has_text in omega (arith, has.within, has.ends, has.begins);
      };
      memory = refl;
    }

    first_is : machine.first e answers ≡ at_item x none_yet 0 begin
    unfolding begin
    first_is =
        let at : begin_of e ≡ address_of z 0 = omega (arith, place-zero x.code x.long) in
        ap (λ pc. Runs (record {
          registers = record { x = x.start.registers; sp = x.start.sp; pc = pc; flags = record { n = false; z = false; c = false; v = false } };
          memory = entry_memory (frame_row x) x.start;
          events = [];
          answers = answers;
        })) at

    abbrev Up : air.Config × List ℕ → air.Config × List ℕ
    Up a = run_step (meaning z.start) x.air a

    abbrev pub First : Type 0
    First = OneStep (up x) (machine_step e) (IsAlike x) (IsMomentOf x) (Lost x) (number x) (blocks x) (bound x) (run.first z.start answers)
        (machine.first e answers)

    moved : (s : State) → IsRelated z s begin → ⊥
    unfolding begin
    moved s related = let sp = related.frame.sp in let room = serves.set.room in let least = serves.least in omega arith

    from_first : (P : Config → Type 0) → P (at_item x none_yet 0 begin) → P (machine.first e answers)
    from_first P p = subst P (sym first_is) p

    entry_by : (junk : List ℕ) (next : air.Config)
        → ((rest : List ℕ) → block_step (meaning z.start) x.air (air.At 0 (first_state z answers), junk ++ rest) ≡ (next, rest))
        → Comes x none_yet next 0 begin → (f : First) × (1 ≤ f.steps)
    entry_by junk (air.At b s) steps comes =
        let to = comes.alike in
        let second = carried x serves b s to.3 to.0 to.1 to.2 to.5 in
        let more = second.3 in
        let joined : iterate (machine_step e) (comes.steps + more.steps) (at_item x none_yet 0 begin) ≡ iterate (machine_step e) more.steps
        (at_item x (log_of s.world) (position_of x.code b) to.3) =
        iterate-add (machine_step e) comes.steps more.steps (at_item x none_yet 0 begin) ∙ ap (iterate (machine_step e) more.steps) to.4 in (
          record {
            words = junk ++ second.0;
            next = second.1;
            steps = comes.steps + more.steps;
            is = λ rest.
                ap (λ ws. Up (air.At 0 (first_state z answers), ws)) (append_assoc junk second.0 rest)
                ∙ run_first (meaning z.start) x.air (first_state z answers) (junk ++ (second.0 ++ rest)) (second.0 ++ rest) (air.At b s)
                (steps (second.0 ++ rest))
                ∙ second.2 rest;
            most = let one = comes.most in let two = more.most in omega arith;
            proper = from_first (λ c. (i : ℕ) → i < comes.steps + more.steps → IsMomentOf x second.1 (iterate (machine_step e) i c))
                (moments_joined (machine_step e) (IsMomentOf x second.1) comes.steps more.steps (at_item x none_yet 0 begin)
                (λ i less. proper_for x second.1 (iterate (machine_step e) i (at_item x none_yet 0 begin)) (comes.proper i less))
                (λ i less. subst (λ c. IsMomentOf x second.1 (iterate (machine_step e) i c)) (sym to.4) (more.proper i less)));
            related = from_first (λ c. IsAlike x second.1 (iterate (machine_step e) (comes.steps + more.steps) c))
                (subst (IsAlike x second.1) (sym joined) more.alike);
          },
          some_steps (comes.steps) (more.steps) (λ none. moved s (comes.rises none).1),
        )
      where
        some_steps : (a b : ℕ) → (a ≡ 0 → ⊥) → 1 ≤ a + b
        some_steps zero b moves = absurd (moves refl)
        some_steps (suc a) b moves = omega arith
    entry_by junk (air.Stopped seen) steps comes = (
      record {
        words = junk;
        next = air.Stopped seen;
        steps = comes.steps;
        is = λ rest. run_first (meaning z.start) x.air (first_state z answers) (junk ++ rest) rest (air.Stopped seen) (steps rest)
            ∙ block_over (meaning z.start) x.air seen rest;
        most = let one = comes.most in omega arith;
        proper = from_first (λ c. (i : ℕ) → i < comes.steps → IsMomentOf x (air.Stopped seen) (iterate (machine_step e) i c)) comes.proper;
        related = from_first (λ c. IsAlike x (air.Stopped seen) (iterate (machine_step e) comes.steps c)) comes.alike;
      },
      comes.rises,
    )
    entry_by junk air.Lost steps comes = (
      record {
        words = junk;
        next = air.Lost;
        steps = comes.steps;
        is = λ rest. run_first (meaning z.start) x.air (first_state z answers) (junk ++ rest) rest air.Lost (steps rest)
            ∙ block_lost (meaning z.start) x.air rest;
        most = let one = comes.most in omega arith;
        proper = λ i less. tt;
        related = tt;
      },
      comes.rises,
    )

    pub entry_step : (f : First) × (1 ≤ f.steps)
    entry_step =
        let by : CarriesOut z 0 (first_state z answers) 0 begin = serves.is.entry z answers begin (refl, refl, refl, refl, serves.set) ranged begins in
        let some = some_words x serves in
        let at : place x.code x.long 0 < length x.text.words = omega (arith, place-zero x.code x.long) in
        entry_by by.junk by.next by.is (of_at x serves 0 (first_state z answers) 0 begin by.junk by.next ranged serves.well.entry at by.is by.leads)
