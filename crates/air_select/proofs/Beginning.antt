-- The entry puts the arguments into their temporaries; and so the runs from a start are the same.
use Rattle.std.proofs.Common.{◌≡◌, ℕ, zero, suc, ◌+◌, ◌*◌, ◌<◌, ◌≤◌, inl, inr, Bool, true, false, List, [], ◌∷◌, ◌++◌, map, length, Some, None, refl, sym, ap, ◌∙◌, subst, arith}
use Rattle.std.specs.Prelude.{if◌then◌else◌, slice_index_or}
use Rattle.std.proofs.lemmas.Bool.{cases_eq, lt-ltb}
use Rattle.b3_base.specs.Observed.{Answer, Start}
use Rattle.b3_base.specs.Ranged.{IsRangedStart}
use Rattle.b3_base.specs.Run.{iterate}
use Rattle.b3_base.specs.declared.word.Width.TheVariants.{W64}
use Rattle.b3_ir.specs.Procedure.{Procedure, values_of}
use Rattle.b3_ir.specs.declared.value.Value.{Value}
use Rattle.b3_meaning.specs.Run as b3
use Rattle.b3_sound.specs.Laws.{IsStarted}
use Rattle.b3_sound.proofs.Kept.{IsKept}
use Rattle.b3_sound.proofs.Law.{run_sound}
use Rattle.b3_sound.proofs.Reached.{IsReached}
use Rattle.air_ir.specs.Blocks.{At, Config, block_of, block_step, left, run_step}
use Rattle.air_ir.specs.Meaning.{To, World, gives, leaves, meaning}
use Rattle.air_ir.specs.Operands.{Held, Holds, Homes, put, read}
use Rattle.air_ir.specs.Run.{HasBlocksOf, first_homes, IsUndefined, air_run, first}
use Rattle.air_ir.specs.Steps.{Goes, State, go_on, steps}
use Rattle.air_ir.specs.declared.op.AirOp.TheVariants as op
use Rattle.air_ir.specs.declared.operand.Arg.TheVariants.{At as Stands}
use Rattle.air_ir.specs.declared.operand.Home.TheVariants.{Tmp}
use Rattle.air_ir.specs.declared.procedure.AirBlock.{AirBlock}
use Rattle.air_ir.specs.declared.procedure.AirProc.{AirProc}
use Rattle.air_ir.proofs.Same.{same_at_each}
use Rattle.air_ir.proofs.Stepping.{steps-append}
use Rattle.air_select.specs.Selected.{Tables, argument_move, argument_moves, block_code, def_at, entry_inst, entry_of, last_id, names_argument, register}
use Rattle.air_select.specs.Temporaries.{argument}
use Rattle.air_select.proofs.Does.{HasArguments}
use Rattle.air_select.proofs.Instructions.{at_home, one_leave, one_word, reads_def, reads_none, reads_use, steps_last, with_home, writes_def, writes_none, writes_use}
use Rattle.air_select.proofs.Related.{Related, holds_word, put_here, put_there}
use Rattle.air_select.proofs.SameBlocks.{Alike, AllPlaced, NamesNone, block_alike, runs_alike, seen_alike}
use Rattle.air_select.proofs.Setting.{IsSound}

module _ (t : Tables) (vs : List Value) (start : Start) (ranged : IsRangedStart start) (value : ℕ) (s₀ : State) (junk : List ℕ)
    (registers : (r : ℕ) → r < 8 → s₀.homes (register r) ≡ Holds W64 (start.arguments r)) where
  -- the state after the moves of the arguments below a register
  pub record Entered (n : ℕ) (s : State) : Type 0 where
    pub world : s.world ≡ s₀.world
    pub kept : (r : ℕ) → r < 8 → s.homes (register r) ≡ Holds W64 (start.arguments r)
    pub done : (r : ℕ) → r < n → names_argument vs r ≡ true → read W64 (s.homes (argument t.index r)) ≡ Some (start.arguments r)

  move_means : (word : ℕ) (w : World) → meaning start (record { op = op.Move; value = value; traps = false }) ((W64, word) ∷ []) w ≡ gives w (word ∷ [])
  unfolding meaning
  move_means word w = refl

  put_other : (homes : Homes) (n r : ℕ) (held : Held) → put homes (Tmp n) held (register r) ≡ homes (register r)
  unfolding put
  put_other homes n r held = refl

  move_run : (n : ℕ) (s : State) → n < 8 → Entered n s
      → steps (meaning start) (argument_move t.index value n ∷ []) s junk ≡ (Goes None (with_home s (argument t.index n) W64 (start.arguments n)), junk)
  move_run n s lt e =
      let i = argument_move t.index value n in
      steps_last start i s junk (Goes None (with_home s (argument t.index n) W64 (start.arguments n)), junk)
      (one_word start i s junk ((W64, start.arguments n) ∷ []) (argument t.index n) W64 (start.arguments n)
      (reads_use s.homes W64 (Stands (register n)) (def_at W64 (argument t.index n) ∷ []) (start.arguments n) []
      (at_home s.homes W64 (register n) (start.arguments n) (ap (read W64) (e.kept n lt) ∙ holds_word W64 (start.arguments n) (ranged.arguments n)))
      (reads_def s.homes W64 (argument t.index n)))
      (move_means (start.arguments n) s.world)
      (writes_use W64 (Stands (register n)) (def_at W64 (argument t.index n) ∷ []) ∙ writes_def W64 (argument t.index n)))

  one_more : (n : ℕ) (s : State) → n < 8 → Entered n s → Entered (suc n) (with_home s (argument t.index n) W64 (start.arguments n))
  one_more n s lt e = record {
    world = e.world;
    kept = λ r few. put_other s.homes (3 * length t.index.ids + n) r (Holds W64 (start.arguments n)) ∙ e.kept r few;
    done = λ r few names. elim (cases_eq r n) [
      | inl same ↦
          subst (λ (k : ℕ). read W64 (put s.homes (argument t.index n) (Holds W64 (start.arguments n)) (argument t.index k)) ≡ Some (start.arguments k))
          (sym same)
          (ap (read W64) (put_here s.homes (3 * length t.index.ids + n) (Holds W64 (start.arguments n)))
          ∙ holds_word W64 (start.arguments n) (ranged.arguments n))
      | inr differ ↦
          ap (read W64) (put_there s.homes (3 * length t.index.ids + n) (3 * length t.index.ids + r) (Holds W64 (start.arguments n)) (omega arith))
          ∙ e.done r (omega arith) names
    ];
  }

  none_more : (n : ℕ) (s : State) → names_argument vs n ≡ false → Entered n s → Entered (suc n) s
  none_more n s none e = record {
    world = e.world;
    kept = e.kept;
    done = λ r few names. elim (cases_eq r n) [
      | inl same ↦ absurd (let bad : true ≡ false = sym names ∙ ap (names_argument vs) same ∙ none in cc)
      | inr differ ↦ e.done r (omega arith) names
    ];
  }

  steps_nothing : (s : State) → steps (meaning start) [] s junk ≡ (Goes None s, junk)
  unfolding steps
  steps_nothing s = refl

  one_argument : (n : ℕ) (s : State) → n < 8 → Entered n s
      → (s' : State) × (steps (meaning start) (if names_argument vs n then argument_move t.index value n ∷ [] else [])
      s junk ≡ (Goes None s', junk)) × Entered (suc n) s'
  one_argument n s lt e = go (names_argument vs n) refl
    where
      go : (b : Bool) → names_argument vs n ≡ b → (s' : State) × (steps (meaning start) (if b then argument_move t.index value n ∷ [] else [])
          s junk ≡ (Goes None s', junk)) × Entered (suc n) s'
      go true names = (with_home s (argument t.index n) W64 (start.arguments n), move_run n s lt e, one_more n s lt e)
      go false names = (s, steps_nothing s, none_more n s names e)

  moves_run : (n : ℕ) → n ≤ 8 → (s : State) × (steps (meaning start) (argument_moves t.index vs value n) s₀ junk ≡ (Goes None s, junk)) × Entered n s
  moves_run zero le = (s₀, steps_nothing s₀, record { world = refl; kept = registers; done = λ r few names. absurd (omega arith) })
  moves_run (suc n) le =
      let before = moves_run n (omega arith) in
      let last = one_argument n before.0 (omega arith) before.2 in (
        last.0,
        steps-append (meaning start) (argument_moves t.index vs value n) (if names_argument vs n then argument_move t.index value n ∷ [] else []) s₀ junk
            ∙ ap (go_on (meaning start) (steps (meaning start) (if names_argument vs n then argument_move t.index value n ∷ [] else []))) before.1 ∙ last.1,
        last.2,
      )

  jump_means : (w : World) → meaning start (record { op = op.Jump; value = value; traps = false }) [] w ≡ leaves w (To 0)
  unfolding meaning
  jump_means w = refl

  pub entry_run : (s : State) × (steps (meaning start) (argument_moves t.index vs value 8 ++ entry_inst value op.Jump [] ∷ [])
      s₀ junk ≡ (Goes (Some (To 0)) s, junk)) × Entered 8 s
  entry_run =
      let moves = moves_run 8 (omega arith) in
      let jump = entry_inst value op.Jump [] in (
        moves.0,
        steps-append (meaning start) (argument_moves t.index vs value 8) (jump ∷ []) s₀ junk
            ∙ ap (go_on (meaning start) (steps (meaning start) (jump ∷ []))) moves.1
            ∙ steps_last start jump moves.0 junk (Goes (Some (To 0)) moves.0, junk)
            (one_leave start jump moves.0 junk [] (To 0) (reads_none (moves.0).homes) (jump_means (moves.0).world) writes_none),
        moves.2,
      )

module _ (p : Procedure) (valid : IsKept p) (t : Tables) (sound : IsSound p t) (placed : AllPlaced p) (names_none : NamesNone p) (has_arguments : HasArguments p)
    (q : AirProc) (blocks_are : q.blocks ≡ entry_of t.index (values_of p 0) ∷ map (block_code t) p.blocks) where
  module _ (start : Start) (answers : List Answer) (started : IsStarted p start answers) where
    first_state : State
    first_state = record { homes = first_homes start; world = record { memory = start.memory; events = []; answers = answers } }

    b3_state : b3.State
    b3_state = record { words = λ _. None; locations = λ _. None; memory = start.memory; events = []; answers = answers }

    first_registers : (r : ℕ) → r < 8 → first_homes start (register r) ≡ Holds W64 (start.arguments r)
    first_registers r lt = rw (lt-ltb r 8 lt) refl

    entered_at : (junk : List ℕ) → (s : State) × (block_step (meaning start) q (first start answers, junk) ≡ (At 1 s, junk)) × Related p t start b3_state s
    unfolding block_step entry_of b3_state first_state
    entered_at junk =
        let vs = values_of p 0 in
        let value = last_id vs in
        let run = entry_run t vs start started.start_in_range value first_state junk first_registers in
        let e = run.2 in
        let entry_is : block_of q 0 ≡ entry_of t.index vs = ap (λ (l : List AirBlock). slice_index_or l 0 (record { insts = []; targets = [] })) blocks_are in (
          run.0,
          ap (λ (x : AirBlock). left x.targets (steps (meaning start) x.insts first_state junk)) entry_is ∙ ap (left (1 ∷ [])) run.1,
          record {
            words = λ id w now un. absurd (cc);
            locations = λ id w now. absurd (cc);
            phis = λ id w now. absurd (cc);
            arguments = λ r few names. e.done r few names;
            memory = ap (λ (w : World). w.memory) e.world;
            events = ap (λ (w : World). w.events) e.world;
            answers = ap (λ (w : World). w.answers) e.world;
          },
        )

    first_reached : (passed : List ℕ) × IsReached p passed 0 [] b3_state
    unfolding iterate b3_state
    first_reached = run_sound p valid start answers started 0

    after_first : (junk : List ℕ) → Alike p valid t sound placed names_none has_arguments start answers started
        (b3.block_step p start (b3.first start answers)) (run_step (meaning start) q (first start answers, junk))
    unfolding run_step b3_state
    after_first junk =
        let entry = entered_at junk in
        let reached = first_reached in
        subst (λ (x : Config × List ℕ). Alike p valid t sound placed names_none has_arguments start answers started
        (b3.block_step p start (b3.first start answers)) (block_step (meaning start) q x)) (sym entry.1)
        (block_alike p valid t sound placed names_none has_arguments start answers started q (entry_of t.index (values_of p 0))
        blocks_are junk 0 b3_state entry.0 entry.2 reached.0 reached.1)

    same_after : (junk : List ℕ) (n : ℕ) → ¬ (IsUndefined (b3.b3_run p start answers n)) → air_run q start answers junk n ≡ b3.b3_run p start answers n
    unfolding iterate
    same_after junk zero defined = refl
    same_after junk (suc n) defined =
        seen_alike p valid t sound placed names_none has_arguments start answers started
        (iterate (b3.block_step p start) n (b3.block_step p start (b3.first start answers)))
        (iterate (run_step (meaning start) q) n (run_step (meaning start) q (first start answers, junk)))
        (runs_alike p valid t sound placed names_none has_arguments start answers started q (entry_of t.index (values_of p 0)) blocks_are n
        (b3.block_step p start (b3.first start answers))
        (run_step (meaning start) q (first start answers, junk)) (after_first junk))
        defined

  pub same_blocks : HasBlocksOf p q
  same_blocks start answers ranged ranged_answers slots =
      let started : IsStarted p start answers = record { start_in_range = ranged; answers_in_range = ranged_answers; slots = slots } in
      same_at_each (λ (x : Unit {0}). b3.b3_run p start answers) (air_run q start answers)
      (λ junk n never. (tt, same_after start answers started junk n (never tt)))
