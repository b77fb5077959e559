-- What a value finds when it runs.
use Rattle.std.proofs.Common.{◌≡◌, ℕ, List, [], ◌∷◌, ◌++◌, Some, sym, ap, ◌∙◌, subst}
use Rattle.std.proofs.lemmas.List.{append_assoc, append-nil}
use Rattle.b3_base.specs.Observed.{Answer, Start}
use Rattle.b3_ir.specs.Naming.{type_of}
use Rattle.b3_ir.specs.Procedure.{Procedure, values_of}
use Rattle.b3_ir.specs.declared.value.Value.{Value}
use Rattle.b3_meaning.specs.Roles.{role_of}
use Rattle.b3_meaning.specs.Run.{State, At, Effect, Next, To, End, effect}
use Rattle.b3_rules.specs.Paths.{HasRun}
use Rattle.b3_sound.specs.Laws.{HasWord, IsReady, IsStarted, RunsIn, StandsAfter, goes_to, state_after}
use Rattle.b3_sound.proofs.Distinct.{same_value, type_of_value}
use Rattle.b3_sound.proofs.Effects.{IsEffectOf}
use Rattle.b3_sound.proofs.Keeping.{child_has_word, child_words, goes_on, ran_in_block, word_of}
use Rattle.b3_sound.proofs.Kept.{IsKept}
use Rattle.b3_sound.proofs.Law.{effect_here, run_sound}
use Rattle.b3_sound.proofs.Reached.{IsReached, IsSound}

module _ (p : Procedure) (valid : IsKept p) (start : Start) (answers : List Answer) (started : IsStarted p start answers) where
  one_more : (b : ℕ) (passed : List ℕ) (before vs : List Value) (v : Value) (st later : State) (at : StandsAfter p b before v)
      (reached : IsReached p passed b before st)
      → (e : Effect) → IsEffectOf (role_of v.kind.opcode) p st v (child_words p valid b passed before st v at reached).0 e
      → goes_to e (state_after p start vs) ≡ Some later
      → (next : State) × IsReached p passed b (before ++ v ∷ []) next × (state_after p start vs next ≡ Some later)
  one_more b passed before vs v st later at reached (Next next) fits leads = (next, goes_on p valid b passed before st v at reached next fits.1, leads)
  one_more b passed before vs v st later at reached (To block next) fits leads = absurd (cc)
  one_more b passed before vs v st later at reached (End config) fits leads = absurd (cc)

  -- the values before a place lead to what holds there
  reached_after : (b : ℕ) (passed : List ℕ) (vs before rest : List Value) (st later : State) → values_of p b ≡ before ++ (vs ++ rest)
      → IsReached p passed b before st
      → state_after p start vs st ≡ Some later → IsReached p passed b (before ++ vs) later
  reached_after b passed [] before rest st later is reached leads =
      let same : st ≡ later = cc in
      subst (λ (s : State). IsReached p passed b (before ++ []) s) same (subst (λ l. IsReached p passed b l st) (sym (append-nil before)) reached)
  reached_after b passed (v ∷ vs) before rest st later is reached leads =
      let one = one_more b passed before vs v st later (vs ++ rest, is) reached (effect (type_of p) start st v)
      (effect_here p valid start answers started b passed before st v (vs ++ rest, is) reached) leads in
      subst (λ l. IsReached p passed b l later) (append_assoc before (v ∷ []) vs)
      (reached_after b passed vs (before ++ v ∷ []) rest one.0 later (is ∙ sym (append_assoc before (v ∷ []) (vs ++ rest))) one.1 one.2)

  ready : (b : ℕ) (passed : List ℕ) (before : List Value) (v : Value) (st : State) → StandsAfter p b before v → IsReached p passed b before st
      → IsReady p start b before v st
  ready b passed before v st at reached =
      record {
        well_formed = λ e.
            subst (λ f. IsEffectOf (role_of v.kind.opcode) p st v (child_words p valid b passed before st v at reached).0 f) e
            (effect_here p valid start answers started b passed before st v at reached);
        operands =
            let ws = child_words p valid b passed before st v at reached in
            record { words = ws.0; are = ws.1; typed = ws.2 };
        children = child_has_word p valid b passed before st v reached at;
        covered = λ id covered typed.
            let d = covered passed reached.path in
            let there = ran_in_block p b passed before (v ∷ at.0) at.1 d.0 d.2 in
            subst (λ (q : ℕ). HasWord p st q) d.1
            (word_of p st reached.ranged (d.0).id
            (reached.words d.0 d.2 (λ void. typed (ap (type_of p) (sym d.1) ∙ type_of_value p valid.distinct there.0 d.0 there.1 ∙ void))));
        constants = λ c w word in_c covered is holds.
            let d = covered passed reached.path in
            let there = ran_in_block p b passed before (v ∷ at.0) at.1 d.0 d.2 in
            let same : w ≡ d.0 = same_value p valid.distinct c there.0 w d.0 in_c there.1 (sym d.1) in
            reached.constants w word (subst (λ (x : Value). HasRun p passed before x) (sym same) d.2) is holds;
        pure = reached.pure;
        in_range = reached.ranged;
      }

  pub always_ready : (b : ℕ) (before : List Value) (v : Value) (st : State) → RunsIn p start answers b before v st → IsReady p start b before v st
  always_ready b before v st runs =
      let sound : IsSound p (At b runs.entry) = subst (λ c. IsSound p c) runs.comes (run_sound p valid start answers started runs.steps) in
      ready b sound.0 before v st runs.stands
      (reached_after b sound.0 before [] (v ∷ (runs.stands).0) runs.entry st (runs.stands).1 sound.1 runs.leads)
