-- The run of the selected procedure has the blocks of the run of B3.
use Rattle.std.proofs.Common.{◌≡◌, ℕ, suc, ◌+◌, ◌<◌, true, false, List, [], ◌∷◌, ◌++◌, map, length, Some, None, refl, sym, ap, ◌∙◌, subst, arith, append-nil, append_assoc}
use Rattle.std.specs.Prelude.{Contains, slice_get, slice_index_or}
use Rattle.std.specs.List.{flat_map}
use Rattle.std.proofs.lemmas.List.Concat.{flat_map-cons}
use Rattle.std.proofs.lemmas.List.{get_or-map}
use Rattle.b3_base.specs.Observed.{Answer, Event, Memory, Observation, Start}
use Rattle.b3_base.specs.Run.{iterate}
use Rattle.b3_base.specs.declared.observation.Status.{Status}
use Rattle.b3_base.specs.declared.observation.Status.TheVariants.{Going}
use Rattle.b3_base.proofs.Run.{iterate-related}
use Rattle.b3_ir.specs.Naming.{type_of}
use Rattle.b3_ir.specs.Procedure.{Procedure, no_block, values_of}
use Rattle.b3_ir.specs.Table.{is_terminal}
use Rattle.b3_ir.specs.declared.value.Value.{Value}
use Rattle.b3_meaning.specs.Roles.{role_of}
use Rattle.b3_meaning.specs.Run as b3
use Rattle.b3_rules.specs.Paths.{successors_in}
use Rattle.b3_sound.specs.Laws.{IsStarted}
use Rattle.b3_sound.proofs.Effects.{IsEffectOf}
use Rattle.b3_sound.proofs.Keeping.{child_words, enters, goes_on, in_block}
use Rattle.b3_sound.proofs.Kept.{EndsBlock, IsKept}
use Rattle.b3_sound.proofs.Law.{effect_here, path_in}
use Rattle.b3_sound.proofs.Reached.{IsReached}
use Rattle.b3_sound.proofs.Rows.{is_ending, terminal_ends}
use Rattle.stackmap.specs.Rules.{IsPlaceable}
use Rattle.air_ir.specs.Blocks.{At, Config, Stopped, block_of, block_step, left, run_step, seen_as}
use Rattle.air_ir.specs.Meaning.{Over, To, meaning}
use Rattle.air_ir.specs.Run.{IsUndefined, observe}
use Rattle.air_ir.specs.Steps.{Goes, Outcome, State, go_on, steps}
use Rattle.air_ir.specs.declared.procedure.AirBlock.{AirBlock}
use Rattle.air_ir.specs.declared.procedure.AirInst.{AirInst}
use Rattle.air_ir.specs.declared.procedure.AirProc.{AirProc}
use Rattle.air_ir.proofs.Stepping.{steps-append}
use Rattle.air_select.specs.Selected.{Tables, block_code, targets_of, value_code}
use Rattle.air_stackmap.specs.Laws.{has_stackmap as has_map}
use Rattle.air_select.proofs.Does.{Does, HasArguments, Here}
use Rattle.air_select.proofs.Related.{Related}
use Rattle.air_select.proofs.Setting.{IsSound}
use Rattle.air_select.proofs.Opcodes.{value_does}

-- a value that is no terminal names no successor
abbrev pub NamesNone : Procedure → Type 0
NamesNone p = (b : ℕ) (v : Value) → Contains (values_of p b) v → is_terminal v.kind.opcode ≡ false → successors_in v.body ≡ []

-- the registers of the children of each patchpoint and each check can be given
abbrev pub AllPlaced : Procedure → Type 0
AllPlaced p = (b : ℕ) (v : Value) → Contains (values_of p b) v → has_map v.kind.opcode ≡ true → IsPlaceable v

module _ (p : Procedure) (valid : IsKept p) (t : Tables) (sound : IsSound p t) (placed : AllPlaced p) (names_none : NamesNone p)
    (has_arguments : HasArguments p)
    (start : Start) (answers : List Answer) (started : IsStarted p start answers) where
  -- what the rest of a block comes to
  abbrev Comes : List ℕ → b3.Config → Outcome × List ℕ → Type 0
  Comes ts (b3.At block st) o =
      (rest : List ℕ) × (k : ℕ) × (s : State) × (o ≡ (Goes (Some (To k)) s, rest)) × (slice_get ts k ≡ Some (block + 1)) × Related p t start st s
      × ((passed : List ℕ) × IsReached p passed block [] st)
  Comes ts (b3.Over seen) o =
      (status : Status) × (s : State) × (rest : List ℕ) × (o ≡ (Goes (Some (Over status)) s, rest)) × (seen_as s.world status ≡ seen)
  Comes ts (b3.Lost loss) o = Unit {0}

  abbrev Running : List Value → State → List ℕ → Outcome × List ℕ
  Running vs s junk = steps (meaning start) (flat_map (value_code t) vs) s junk

  here_at : (b : ℕ) (passed : List ℕ) (before rest : List Value) (v : Value) (st : b3.State) (s : State) → values_of p b ≡ before ++ v ∷ rest
      → IsReached p passed b before st
      → Related p t start st s → Here p t start v
  here_at b passed before rest v st s is reached r = record {
    valid = valid;
    sound = sound;
    ranged = started.start_in_range;
    arguments = has_arguments;
    passed = passed;
    block = b;
    before = before;
    rest = rest;
    stands = is;
    st = st;
    reached = reached;
    s = s;
    related = r;
  }

  -- ---- the last value of a block

  targets_one : (v : Value) → flat_map targets_of (v ∷ []) ≡ targets_of v
  targets_one v = flat_map-cons targets_of v [] ∙ append-nil (targets_of v)

  ends : {X : Type 0} (v : Value) → is_ending (role_of v.kind.opcode) ≡ true → is_terminal v.kind.opcode ≡ false → X
  ends v ending goes = let e : true ≡ false = sym ending ∙ sym (terminal_ends v.kind.opcode) ∙ goes in cc

  last_comes : (b : ℕ) (passed : List ℕ) (before : List Value) (v : Value) (st : b3.State) (left : List ℕ) (is : values_of p b ≡ before ++ v ∷ [])
      → IsReached p passed b before st → (ws : List ℕ) (e : b3.Effect) (o : Outcome × List ℕ)
      → IsEffectOf (role_of v.kind.opcode) p st v ws e → Does p t start v left e o
      → Comes (flat_map targets_of (v ∷ [])) (b3.after e (b3.run_values (type_of p) start [])) (go_on (meaning start) (λ s j. (Goes None s, j)) o)
  last_comes b passed before v st left is reached ws (b3.Next next) o fits does = tt
  last_comes b passed before v st left is reached ws (b3.To block next) o fits does = (
    left,
    does.0,
    does.1,
    rw does.2 refl,
    ap (λ (l : List ℕ). slice_get l does.0) (targets_one v) ∙ does.3,
    does.4,
    (
      b ∷ passed,
      subst (λ (s : b3.State). IsReached p (b ∷ passed) block [] s) (sym fits.2)
          (enters p valid b passed before st v ([], is) reached block refl fits.0 fits.1),
    ),
  )
  last_comes b passed before v st left is reached ws (b3.End (b3.Over seen)) o fits does = (does.0, does.1, does.2, rw does.3 refl, does.4)
  last_comes b passed before v st left is reached ws (b3.End (b3.Lost b3.Malformed)) o fits does = tt
  last_comes b passed before v st left is reached ws (b3.End (b3.Lost (b3.Undefined_ u))) o fits does = tt
  last_comes b passed before v st left is reached ws (b3.End (b3.At block next)) o fits does = absurd fits

  middle_comes : (b : ℕ) (passed : List ℕ) (before rest : List Value) (v : Value) (st : b3.State) (left : List ℕ) (is : values_of p b ≡ before ++ v ∷ rest)
      → (reached : IsReached p passed b before st) → is_terminal v.kind.opcode ≡ false → (e : b3.Effect) (o : Outcome × List ℕ) (ts : List ℕ)
      → IsEffectOf (role_of v.kind.opcode) p st v (child_words p valid b passed before st v (rest, is) reached).0 e → Does p t start v left e o
      → ((next : b3.State) (s : State) → IsReached p passed b (before ++ v ∷ []) next → Related p t start next s
      → Comes ts (b3.run_values (type_of p) start rest next) (Running rest s left))
      → Comes ts (b3.after e (b3.run_values (type_of p) start rest)) (go_on (meaning start) (Running rest) o)
  middle_comes b passed before rest v st left is reached goes (b3.Next next) o ts fits does more =
      rw does.1 (more next does.0 (goes_on p valid b passed before st v (rest, is) reached next fits.1) does.2)
  middle_comes b passed before rest v st left is reached goes (b3.To block next) o ts fits does more = ends v fits.0 goes
  middle_comes b passed before rest v st left is reached goes (b3.End (b3.Over seen)) o ts fits does more = (does.0, does.1, does.2, rw does.3 refl, does.4)
  middle_comes b passed before rest v st left is reached goes (b3.End (b3.Lost b3.Malformed)) o ts fits does more = tt
  middle_comes b passed before rest v st left is reached goes (b3.End (b3.Lost (b3.Undefined_ u))) o ts fits does more = tt
  middle_comes b passed before rest v st left is reached goes (b3.End (b3.At block next)) o ts fits does more = absurd fits

  in_middle : (b : ℕ) (before rest : List Value) (v : Value) → values_of p b ≡ before ++ v ∷ rest → Contains (values_of p b) v
  in_middle b before rest v is = in_block p b before v (rest, is)

  steps_none_is : (s : State) (junk : List ℕ) → steps (meaning start) [] s junk ≡ (Goes None s, junk)
  unfolding steps
  steps_none_is s junk = refl

  values_come : (b : ℕ) (passed : List ℕ) (rest before : List Value) (st : b3.State) (s : State) (junk : List ℕ) → values_of p b ≡ before ++ rest
      → EndsBlock rest
      → IsReached p passed b before st → Related p t start st s
      → Comes (flat_map targets_of rest) (b3.run_values (type_of p) start rest st) (Running rest s junk)
  unfolding here_at
  values_come b passed [] before st s junk is ending reached r = absurd ending
  values_come b passed (v ∷ []) before st s junk is ending reached r =
      let h = here_at b passed before [] v st s is reached r in
      let does = value_does p t start v h junk (placed b v (in_middle b before [] v is)) in
      subst (λ (o : Outcome × List ℕ). Comes (flat_map targets_of (v ∷ [])) (b3.run_values (type_of p) start (v ∷ []) st) o)
      (sym (ap (λ (l : List AirInst). steps (meaning start) l s junk) (flat_map-cons (value_code t) v [])
      ∙ steps-append (meaning start) (value_code t v) [] s junk
      ∙ ap (λ (f : State → List ℕ → Outcome × List ℕ). go_on (meaning start) f (steps (meaning start) (value_code t v) s junk)) (λ i x y. steps_none_is x y i)))
      (last_comes b passed before v st does.0 is reached (child_words p valid b passed before st v ([], is) reached).0 (b3.effect (type_of p) start st v)
      (steps (meaning start) (value_code t v) s junk)
      (effect_here p valid start answers started b passed before st v ([], is) reached) does.1)
  values_come b passed (v ∷ w ∷ vs) before st s junk is ending reached r =
      let h = here_at b passed before (w ∷ vs) v st s is reached r in
      let does = value_does p t start v h junk (placed b v (in_middle b before (w ∷ vs) v is)) in
      let none : targets_of v ≡ [] = ap (map (λ n. n + 1)) (names_none b v (in_middle b before (w ∷ vs) v is) ending.0) in
      let targets_are : flat_map targets_of (v ∷ w ∷ vs) ≡ flat_map targets_of (w ∷ vs) = flat_map-cons targets_of v (w ∷ vs)
      ∙ ap (λ (l : List ℕ). l ++ flat_map targets_of (w ∷ vs)) none in
      subst (λ (l : List ℕ). Comes l (b3.run_values (type_of p) start (v ∷ w ∷ vs) st) (Running (v ∷ w ∷ vs) s junk)) (sym targets_are)
      (subst (λ (o : Outcome × List ℕ). Comes (flat_map targets_of (w ∷ vs)) (b3.run_values (type_of p) start (v ∷ w ∷ vs) st) o)
      (sym (ap (λ (l : List AirInst). steps (meaning start) l s junk) (flat_map-cons (value_code t) v (w ∷ vs))
      ∙ steps-append (meaning start) (value_code t v) (flat_map (value_code t) (w ∷ vs)) s junk))
      (middle_comes b passed before (w ∷ vs) v st does.0 is reached ending.0 (b3.effect (type_of p) start st v) (steps (meaning start) (value_code t v) s junk)
      (flat_map targets_of (w ∷ vs))
      (effect_here p valid start answers started b passed before st v (w ∷ vs, is) reached)
      does.1
      (λ next s' reached' r'. values_come b passed (w ∷ vs) (before ++ v ∷ []) next s' does.0 (is ∙ sym (append_assoc before (v ∷ []) (w ∷ vs)))
      ending.1 reached' r')))

  -- ---- blocks

  abbrev pub Alike : b3.Config → Config × List ℕ → Type 0
  Alike (b3.At block st) d =
      (s : State) × (rest : List ℕ) × (d ≡ (At (suc block) s, rest)) × Related p t start st s × ((passed : List ℕ) × IsReached p passed block [] st)
  Alike (b3.Over seen) d = (rest : List ℕ) × (d ≡ (Stopped seen, rest))
  Alike (b3.Lost loss) d = Unit {0}

  leaves_block : (ts : List ℕ) (c : b3.Config) (o : Outcome × List ℕ) → Comes ts c o → Alike c (left ts o)
  leaves_block ts (b3.At block st) o comes =
      let one : block + 1 ≡ suc block = omega arith in
      (comes.2, comes.0, rw (comes.3, comes.4) (ap (λ n. (At n comes.2, comes.0)) one), comes.5, comes.6)
  leaves_block ts (b3.Over seen) o comes = (comes.2, rw comes.3 (ap (λ (x : Observation). (Stopped x, comes.2)) comes.4))
  leaves_block ts (b3.Lost loss) o comes = tt

  module _ (q : AirProc) (entry : AirBlock) (blocks_are : q.blocks ≡ entry ∷ map (block_code t) p.blocks) where
    block_is : (b : ℕ) → b < length p.blocks → block_of q (suc b) ≡ block_code t (slice_index_or p.blocks b no_block)
    block_is b lt =
        ap (λ (l : List AirBlock). slice_index_or l (suc b) (record { insts = []; targets = [] })) blocks_are
        ∙ get_or-map (block_code t) p.blocks b no_block (record { insts = []; targets = [] }) lt

    pub block_alike : (junk : List ℕ) (b : ℕ) (st : b3.State) (s : State) → Related p t start st s → (passed : List ℕ) → IsReached p passed b [] st
        → Alike (b3.block_step p start (b3.At b st)) (block_step (meaning start) q (At (suc b) s, junk))
    unfolding block_step block_code
    block_alike junk b st s r passed reached =
        let lt = path_in p valid passed b reached.path in
        let code = block_code t (slice_index_or p.blocks b no_block) in
        subst (λ (x : AirBlock). Alike (b3.run_values (type_of p) start (values_of p b) st) (left x.targets (steps (meaning start) x.insts s junk)))
        (sym (block_is b lt))
        (leaves_block (flat_map targets_of (values_of p b)) (b3.run_values (type_of p) start (values_of p b) st) (Running (values_of p b) s junk)
        (values_come b passed (values_of p b) [] st s junk refl (valid.ends b lt) reached r))

    pub run_alike : (c : b3.Config) (d : Config × List ℕ) → Alike c d → Alike (b3.block_step p start c) (run_step (meaning start) q d)
    unfolding run_step
    run_alike (b3.At b st) d a =
        subst (λ (x : Config × List ℕ). Alike (b3.block_step p start (b3.At b st)) (run_step (meaning start) q x)) (sym a.2)
        (block_alike a.1 b st a.0 a.3 a.4.0 a.4.1)
    run_alike (b3.Over seen) d a = (a.0, ap (run_step (meaning start) q) a.1)
    run_alike (b3.Lost loss) d a = tt

    pub runs_alike : (n : ℕ) (c : b3.Config) (d : Config × List ℕ) → Alike c d
        → Alike (iterate (b3.block_step p start) n c) (iterate (run_step (meaning start) q) n d)
    runs_alike n c d a = iterate-related (b3.block_step p start) (run_step (meaning start) q) Alike run_alike n c d a

  -- what is seen
  pub seen_alike : (c : b3.Config) (d : Config × List ℕ) → Alike c d → ¬ (IsUndefined (b3.observe c)) → observe d.0 ≡ b3.observe c
  seen_alike (b3.At b st) d a defined =
      ap (λ (x : Config × List ℕ). observe x.0) a.2
      ∙ ap (λ (m : Memory). record { status = Going; events = (a.0).world.events; memory = m }) a.3.memory
      ∙ ap (λ (l : List Event). record { status = Going; events = l; memory = st.memory }) a.3.events
  seen_alike (b3.Over seen) d a defined = ap (λ (x : Config × List ℕ). observe x.0) a.1
  seen_alike (b3.Lost loss) d a defined = absurd (defined refl)
