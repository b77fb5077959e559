-- No run of a valid procedure is malformed.
use Rattle.std.proofs.Common.{◌≡◌, ◌≢◌, ℕ, ◌<◌, inl, inr, List, [], ◌∷◌, ◌++◌, length, true, false, refl, sym, ◌∙◌, subst}
use Rattle.std.proofs.lemmas.List.{append_assoc}
use Rattle.std.proofs.lemmas.List.Elements.{All-contains}
use Rattle.b3_base.proofs.Run.{iterate-keeps}
use Rattle.b3_base.proofs.Lists.{Contains-none}
use Rattle.b3_ir.specs.Procedure.{Procedure, values_of}
use Rattle.b3_ir.specs.Table.{is_terminal}
use Rattle.b3_ir.specs.declared.value.Value.{Value}
use Rattle.b3_meaning.specs.Roles.{role_of}
use Rattle.b3_ir.specs.Naming.{type_of}
use Rattle.b3_meaning.specs.Run.{State, Config, At, Over, Lost, Undefined_, Malformed, Effect, Next, To, End, effect, after, run_values, block_step, first, run_of}
use Rattle.b3_rules.specs.Paths.{HasRun, IsPath, successors_in}
use Rattle.b3_sound.specs.Laws.{StandsAfter, IsStarted}
use Rattle.b3_sound.proofs.Distinct.{stands}
use Rattle.b3_sound.proofs.Effects.{Goes, IsEffectOf}
use Rattle.b3_sound.proofs.Keeping.{child_words, enters, goes_on, reached_effect}
use Rattle.b3_sound.proofs.Kept.{EndsBlock, IsKept}
use Rattle.b3_sound.proofs.Reached.{IsReached, IsSound}
use Rattle.b3_sound.proofs.Rows.{is_ending, terminal_ends}
use Rattle.b3_base.specs.Observed.{Answer, Start}

-- a path leads to a block of the procedure
pub path_in : (p : Procedure) → IsKept p → (passed : List ℕ) (b : ℕ) → IsPath p passed b → b < length p.blocks
path_in p valid [] b path = subst (λ (x : ℕ). x < length p.blocks) (sym path) valid.some
path_in p valid (last ∷ passed) b path =
    let v = path.0 in
    let at = stands p last v.0 v.1 in
    All-contains (λ next. next < length p.blocks) (successors_in (v.0).body) b (valid.rules last at.0 v.0 at.1).successors v.2

module _ (p : Procedure) (valid : IsKept p) (start : Start) (answers : List Answer) (started : IsStarted p start answers) where
  pub effect_here : (b : ℕ) (passed : List ℕ) (before : List Value) (st : State) (v : Value) (at : StandsAfter p b before v)
      (reached : IsReached p passed b before st)
      → IsEffectOf (role_of v.kind.opcode) p st v (child_words p valid b passed before st v at reached).0 (effect (type_of p) start st v)
  effect_here b passed before st v at reached = reached_effect p valid b passed before st v at reached start started.start_in_range started.slots

  not_both : {X : Type 0} (v : Value) → is_ending (role_of v.kind.opcode) ≡ false → is_terminal v.kind.opcode ≡ true → X
  not_both v goes ends = let e : false ≡ true = sym goes ∙ sym (terminal_ends v.kind.opcode) ∙ ends in cc

  neither : {X : Type 0} (v : Value) → is_ending (role_of v.kind.opcode) ≡ true → is_terminal v.kind.opcode ≡ false → X
  neither v ends goes = let e : true ≡ false = sym ends ∙ sym (terminal_ends v.kind.opcode) ∙ goes in cc

  last_sound : (b : ℕ) (passed : List ℕ) (before : List Value) (st : State) (v : Value) → values_of p b ≡ before ++ v ∷ [] → is_terminal v.kind.opcode ≡ true
      → IsReached p passed b before st
      → (ws : List ℕ) (e : Effect) → IsEffectOf (role_of v.kind.opcode) p st v ws e → IsSound p (after e (run_values (type_of p) start []))
  last_sound b passed before st v is ends reached ws (Next next) fits = not_both v fits.0 ends
  last_sound b passed before st v is ends reached ws (To block next) fits = (
    b ∷ passed,
    subst (λ (s : State). IsReached p (b ∷ passed) block [] s) (sym fits.2)
        (enters p valid b passed before st v ([], is) reached block refl fits.0 fits.1),
  )
  last_sound b passed before st v is ends reached ws (End (Lost Malformed)) fits = fits
  last_sound b passed before st v is ends reached ws (End (Lost (Undefined_ u))) fits = tt
  last_sound b passed before st v is ends reached ws (End (Over seen)) fits = tt
  last_sound b passed before st v is ends reached ws (End (At block next)) fits = absurd fits

  middle_sound : (st : State) (v : Value) (others : State → Config) → is_terminal v.kind.opcode ≡ false → (ws : List ℕ) (e : Effect)
      → IsEffectOf (role_of v.kind.opcode) p st v ws e
      → ((next : State) → Goes (role_of v.kind.opcode) p st v ws next → IsSound p (others next)) → IsSound p (after e others)
  middle_sound st v others goes ws (Next next) fits onward = onward next fits.1
  middle_sound st v others goes ws (To block next) fits onward = neither v fits.0 goes
  middle_sound st v others goes ws (End (Lost Malformed)) fits onward = fits
  middle_sound st v others goes ws (End (Lost (Undefined_ u))) fits onward = tt
  middle_sound st v others goes ws (End (Over seen)) fits onward = tt
  middle_sound st v others goes ws (End (At block next)) fits onward = absurd fits

  -- the values of a block from a place on
  values_sound : (b : ℕ) (passed : List ℕ) (rest before : List Value) (st : State) → values_of p b ≡ before ++ rest → EndsBlock rest
      → IsReached p passed b before st
      → IsSound p (run_values (type_of p) start rest st)
  values_sound b passed [] before st is ends reached = absurd ends
  values_sound b passed (v ∷ []) before st is ends reached =
      last_sound b passed before st v is ends reached (child_words p valid b passed before st v ([], is) reached).0 (effect (type_of p) start st v)
      (effect_here b passed before st v ([], is) reached)
  values_sound b passed (v ∷ w ∷ vs) before st is ends reached =
      middle_sound st v (run_values (type_of p) start (w ∷ vs)) ends.0 (child_words p valid b passed before st v (w ∷ vs, is) reached).0
      (effect (type_of p) start st v)
      (effect_here b passed before st v (w ∷ vs, is) reached)
      (λ next goes. values_sound b passed (w ∷ vs) (before ++ v ∷ []) next (is ∙ sym (append_assoc before (v ∷ []) (w ∷ vs))) ends.1
      (goes_on p valid b passed before st v (w ∷ vs, is) reached next goes))

  step_sound : (c : Config) → IsSound p c → IsSound p (block_step p start c)
  step_sound (At b st) sound = values_sound b sound.0 (values_of p b) [] st refl (valid.ends b (path_in p valid sound.0 b sound.1.path)) sound.1
  step_sound (Over seen) sound = tt
  step_sound (Lost (Undefined_ u)) sound = tt
  step_sound (Lost Malformed) sound = sound

  first_sound : IsSound p (first start answers)
  first_sound = (
    [],
    record {
      path = refl;
      words = λ v ran typed. absurd (none_ran v ran);
      constants = λ v k ran const holds. absurd (none_ran v ran);
      pure = λ v has is. absurd (Contains-none v has);
      ranged = record {
        words = λ id word e. absurd (cc);
        locations = λ id word e. absurd (cc);
        memory = started.start_in_range.memory;
        answers = started.answers_in_range;
      };
    },
  )
    where
      none_ran : (v : Value) → HasRun p [] [] v → ⊥
      none_ran v (inl h) = Contains-none v h
      none_ran v (inr h) = Contains-none h.0 h.1

  -- along every run
  pub run_sound : (n : ℕ) → IsSound p (run_of p start answers n)
  run_sound n = iterate-keeps (block_step p start) (IsSound p) step_sound n (first start answers) first_sound

  -- no run of a valid procedure is malformed
  pub never_malformed : (n : ℕ) → run_of p start answers n ≢ Lost Malformed
  never_malformed n e = subst (λ c. IsSound p c) e (run_sound n)

  -- and it stands at its blocks alone
  pub stays_inside : (n block : ℕ) (st : State) → run_of p start answers n ≡ At block st → block < length p.blocks
  stays_inside n block st e = let sound : IsSound p (At block st) = subst (λ c. IsSound p c) e (run_sound n) in path_in p valid sound.0 block sound.1.path
