-- A value that leads to the next one, or to another block, keeps what holds along the run.
use Rattle.std.proofs.Common.{◌≡◌, ◌≢◌, ℕ, ◌^◌, ◌⊎◌, inl, inr, List, [], ◌∷◌, ◌++◌, map, true, Option, Some, None, length, refl, sym, ap, ◌∙◌, subst, rules, ⊎_elim}
use Rattle.std.specs.Prelude.{Contains, IsSome}
use Rattle.std.proofs.lemmas.Bool.{cases_eq, lt-ltb}
use Rattle.std.proofs.lemmas.List.{append-nil, append_assoc}
use Rattle.std.proofs.lemmas.List.Elements.{All-contains, Contains-push_cases, Contains-append_left}
use Rattle.b3_base.proofs.Lists.{Contains-none, Contains-first, Contains-later, Contains-cases, Contains-middle}
use Rattle.b3_base.specs.Observed.{Start}
use Rattle.b3_base.specs.Ranged.{IsRangedStart}
use Rattle.b3_base.specs.Word.{bits}
use Rattle.b3_ir.proofs.Typing.{allowed}
use Rattle.b3_ir.specs.Naming.{type_of}
use Rattle.b3_ir.specs.Procedure.{Procedure, values_of}
use Rattle.b3_ir.specs.Types.{width_of}
use Rattle.b3_ir.specs.declared.opcode.Ty.{Ty}
use Rattle.b3_ir.specs.declared.opcode.Ty.TheVariants.{Void}
use Rattle.b3_ir.specs.declared.value.Value.{Value}
use Rattle.b3_ir.specs.Fits.{reported_count}
use Rattle.b3_meaning.specs.Opcodes.{AreWordsOf}
use Rattle.b3_meaning.specs.Roles.{role_of}
use Rattle.b3_meaning.specs.Run.{State, and_word, effect, effect_on, word_in, words_of}
use Rattle.b3_meaning.specs.declared.role.Role.{Role}
use Rattle.b3_meaning.specs.declared.role.Role.TheVariants.{Constant}
use Rattle.b3_rules.specs.Paths.{HasRun, IsCovered, successors_in}
use Rattle.b3_rules.specs.Rules.{types_of}
use Rattle.b3_sound.specs.Laws.{HasResult, HasWord, IsRangedState, StandsAfter}
use Rattle.b3_sound.proofs.Arriving.{not_used_before}
use Rattle.b3_sound.proofs.Distinct.{same_value, type_of_value}
use Rattle.b3_sound.proofs.Effects.{Goes, IsEffectOf, by_role}
use Rattle.b3_sound.proofs.Kept.{IsKept}
use Rattle.b3_sound.proofs.Lists.{contains_split, not_longer}
use Rattle.b3_sound.proofs.Reached.{IsReached}
use Rattle.b3_sound.proofs.Results.{IsIn, result_fits}
use Rattle.b3_sound.proofs.Rows.{child_typed, ending_void, is_ending, row_by_role}

-- ---- where values stand
pub in_block : (p : Procedure) (b : ℕ) (before : List Value) (v : Value) → StandsAfter p b before v → Contains (values_of p b) v
in_block p b before v at = subst (λ l. Contains l v) (sym at.1) (Contains-middle before at.0 v)

-- what has run stands in a block
pub ran_in_block : (p : Procedure) (b : ℕ) (passed : List ℕ) (before rest : List Value) → values_of p b ≡ before ++ rest → (v : Value)
    → HasRun p passed before v → (c : ℕ) × Contains (values_of p c) v
ran_in_block p b passed before rest is v (inl here) = (b, subst (λ l. Contains l v) (sym is) (Contains-append_left before rest v here))
ran_in_block p b passed before rest is v (inr there) = (there.0, there.2)

-- what has run after one value more
ran_more : (p : Procedure) (passed : List ℕ) (before : List Value) (v w : Value) → HasRun p passed (before ++ v ∷ []) w → HasRun p passed before w ⊎ (v ≡ w)
ran_more p passed before v w (inl here) = ⊎_elim (λ h. inl (inl h)) (λ e. inr e) (Contains-push_cases before v w here)
ran_more p passed before v w (inr there) = inl (inr there)

-- ---- words of children

words_there : (types : ℕ → Ty) (f g : ℕ → Option ℕ) (ids : List ℕ) → ((i : ℕ) → Contains ids i → f i ≡ g i) → words_of types f ids ≡ words_of types g ids
words_there types f g [] same = refl
words_there types f g (i ∷ ids) same =
    ap (λ o. and_word (word_in (width_of (types i)) o) (words_of types f ids)) (same i (Contains-first i ids))
    ∙ ap (and_word (word_in (width_of (types i)) (g i))) (words_there types f g ids (λ q has. same q (Contains-later i ids q has)))

words_some : (types : ℕ → Ty) (words : ℕ → Option ℕ) (ids : List ℕ) → ((i : ℕ) → Contains ids i → (word : ℕ) × (words i ≡ Some word) × IsIn (types i) word)
    → (ws : List ℕ) × (words_of types words ids ≡ Some ws) × AreWordsOf (map types ids) ws
words_some types words [] each = ([], refl, tt)
words_some types words (i ∷ ids) each =
    let rest = words_some types words ids (λ q has. each q (Contains-later i ids q has)) in
    let here = each i (Contains-first i ids) in
    let fits : word_in (width_of (types i)) (Some here.0) ≡ Some here.0 = rw (lt-ltb here.0 (2 ^ bits (width_of (types i))) here.2) refl in (
      here.0 ∷ rest.0,
      ap (λ o. and_word (word_in (width_of (types i)) o) (words_of types words ids)) here.1
          ∙ ap (λ o. and_word o (words_of types words ids)) fits ∙ ap (and_word (Some here.0)) rest.1,
      (here.2, rest.2),
    )

-- a word that is there is one of its type
pub word_of : (p : Procedure) (st : State) → IsRangedState p st → (id : ℕ) → IsSome (st.words id) → HasWord p st id
word_of p st ranged id some =
    elim (st.words id) as (λ o. st.words id ≡ o → IsSome o → HasWord p st id) [
      | None ↦ λ e none. search rules
      | Some word ↦ λ e there. (word, e, ranged.words id word e)
    ] refl some

-- ---- a child has a word where its user stands
pub child_has_word : (p : Procedure) → IsKept p → (b : ℕ) (passed : List ℕ) (before : List Value) (st : State) (v : Value)
    → IsReached p passed b before st → StandsAfter p b before v → (i : ℕ) → Contains v.children i → HasWord p st i
child_has_word p valid b passed before st v reached at i has =
    let rules_here = valid.rules b before v at in
    let d = All-contains (IsCovered p b before) v.children i rules_here.covered has passed reached.path in
    let stands_in = ran_in_block p b passed before (v ∷ at.0) at.1 d.0 d.2 in
    let same_type : type_of p (d.0).id ≡ (d.0).ty = type_of_value p valid.distinct stands_in.0 d.0 stands_in.1 in
    let typed : type_of p i ≢ Void = child_typed v.kind.opcode v.ty (type_of p) v.children i (allowed v.kind.opcode v.ty (types_of p v) rules_here.typed) has in
    subst (λ (q : ℕ). HasWord p st q) d.1
    (word_of p st reached.ranged (d.0).id (reached.words d.0 d.2 (λ void. typed (ap (type_of p) (sym d.1) ∙ same_type ∙ void))))

-- ---- what a value leads to
module _ (p : Procedure) (valid : IsKept p) (b : ℕ) (passed : List ℕ) (before : List Value) (st : State) (v : Value) (at : StandsAfter p b before v)
    (reached : IsReached p passed b before st) where
  pub child_words : (ws : List ℕ) × (words_of (type_of p) st.words v.children ≡ Some ws) × AreWordsOf (map (type_of p) v.children) ws
  child_words = words_some (type_of p) st.words v.children (λ i has. child_has_word p valid b passed before st v reached at i has)

  pub reached_effect : (start : Start) → IsRangedStart start → length start.slots ≡ length p.slots
      → IsEffectOf (role_of v.kind.opcode) p st v child_words.0 (effect (type_of p) start st v)
  reached_effect start fine slots =
      let rules_here = valid.rules b before v at in
      let allows = allowed v.kind.opcode v.ty (types_of p v) rules_here.typed in
      let all : effect (type_of p) start st v ≡ effect_on (type_of p) start st v (words_of (type_of p) st.words v.children) = rw rules_here.typed refl in
      subst (λ e. IsEffectOf (role_of v.kind.opcode) p st v child_words.0 e) (sym (all ∙ ap (effect_on (type_of p) start st v) child_words.1))
      (by_role p st v child_words.0 reached.ranged (type_of_value p valid.distinct b v (in_block p b before v at)) (role_of v.kind.opcode) start
      (types_of p v) fine slots refl
      (row_by_role v.kind.opcode v.ty (types_of p v) (reported_count v) v.body allows rules_here.fits.body) rules_here.phi rules_here.slot child_words.2
      (λ pure. result_fits v.kind.opcode v.kind.chill v.ty child_words.0 (types_of p v) pure allows child_words.2))

  -- ---- the next value

  same_as_here : (w : Value) → HasRun p passed (before ++ v ∷ []) w → w.id ≡ v.id → w ≡ v
  same_as_here w ran e = ⊎_elim
      (λ (old : HasRun p passed before w).
      let there = ran_in_block p b passed before (v ∷ at.0) at.1 w old in
      same_value p valid.distinct there.0 b w v there.1 (in_block p b before v at) e)
      (λ (is : v ≡ w). sym is)
      (ran_more p passed before v w ran)

  ran_before : (w : Value) → HasRun p passed (before ++ v ∷ []) w → w.id ≢ v.id → HasRun p passed before w
  ran_before w ran differ = ⊎_elim
      (λ (old : HasRun p passed before w). old)
      (λ (is : v ≡ w). absurd (differ (ap (λ (x : Value). x.id) (sym is))))
      (ran_more p passed before v w ran)

  -- the values of this pass of the block keep their words, and so do their children
  kept_children : (w : Value) → Contains before w → (i : ℕ) → Contains w.children i → i ≢ v.id
  kept_children w has i child =
      let cut = contains_split before w has in
      let whole : values_of p b ≡ cut.0 ++ (w ∷ cut.1 ++ v ∷ at.0) = at.1 ∙ ap (λ l. l ++ v ∷ at.0) cut.2 ∙ append_assoc cut.0 (w ∷ cut.1) (v ∷ at.0) in
      let at_w : StandsAfter p b cut.0 w = (cut.1 ++ v ∷ at.0, whole) in
      let at_v : StandsAfter p b (cut.0 ++ w ∷ cut.1) v = (at.0, at.1 ∙ ap (λ l. l ++ v ∷ at.0) cut.2) in
      not_used_before p valid b passed reached.path cut.0 (w ∷ cut.1) w v i at_w child at_v

  own_children : (i : ℕ) → Contains v.children i → i ≢ v.id
  own_children i has =
      let at_v : StandsAfter p b (before ++ []) v = (at.0, at.1 ∙ ap (λ l. l ++ v ∷ at.0) (sym (append-nil before))) in
      not_used_before p valid b passed reached.path before [] v v i at has at_v

  kept_id : (w : Value) → Contains before w → w.id ≢ v.id
  kept_id w has e =
      let cut = contains_split before w has in
      let whole : values_of p b ≡ cut.0 ++ (w ∷ cut.1 ++ v ∷ at.0) = at.1 ∙ ap (λ l. l ++ v ∷ at.0) cut.2 ∙ append_assoc cut.0 (w ∷ cut.1) (v ∷ at.0) in
      let places : cut.0 ≡ before = (valid.distinct b b cut.0 before w v (cut.1 ++ v ∷ at.0, whole) at e).1 in
      not_longer cut.0 w cut.1 (places ∙ cut.2)

  pub goes_on : (next : State) → Goes (role_of v.kind.opcode) p st v child_words.0 next → IsReached p passed b (before ++ v ∷ []) next
  goes_on next goes = record {
    path = reached.path;
    words = λ w ran typed. ⊎_elim
        (λ (e : w.id ≡ v.id). subst (λ (q : ℕ). IsSome (next.words q)) (sym e)
        (goes.typed (λ void. typed (ap (λ (x : Value). x.ty) (same_as_here w ran e) ∙ void))))
        (λ (differ : w.id ≢ v.id). subst (λ o. IsSome o) (sym (goes.others w.id differ)) (reached.words w (ran_before w ran differ) typed))
        (cases_eq w.id v.id);
    constants = λ w word ran is holds. ⊎_elim
        (λ (e : w.id ≡ v.id).
        let same : w ≡ v = same_as_here w ran e in
        ap next.words e ∙ goes.constant (ap (λ (x : Value). role_of x.kind.opcode) (sym same) ∙ is) word (ap (λ (x : Value). x.body) (sym same) ∙ holds))
        (λ (differ : w.id ≢ v.id). goes.others w.id differ ∙ reached.constants w word (ran_before w ran differ) is holds)
        (cases_eq w.id v.id);
    pure = λ w has is. ⊎_elim
        (λ (old : Contains before w).
        let h = reached.pure w old is in
        record {
          words = h.words;
          children = words_there (type_of p) next.words st.words w.children (λ i child. goes.others i (kept_children w old i child)) ∙ h.children;
          word = h.word;
          gives = h.gives;
          has = goes.others w.id (kept_id w old) ∙ h.has;
        })
        (λ (e : v ≡ w).
        let h = goes.pure (ap (λ (x : Value). role_of x.kind.opcode) e ∙ is) in
        subst (λ (x : Value). HasResult p next x) e
        (record {
          words = child_words.0;
          children = words_there (type_of p) next.words st.words v.children (λ i child. goes.others i (own_children i child)) ∙ child_words.1;
          word = h.0;
          gives = h.1;
          has = h.2;
        }))
        (Contains-push_cases before v w has);
    ranged = goes.ranged;
  }

  -- ---- another block

  void_at_end : is_ending (role_of v.kind.opcode) ≡ true → v.ty ≡ Void
  void_at_end ends =
      let rules_here = valid.rules b before v at in
      ending_void (role_of v.kind.opcode) v.ty (types_of p v) v.body
      (row_by_role v.kind.opcode v.ty (types_of p v) (reported_count v) v.body
      (allowed v.kind.opcode v.ty (types_of p v) rules_here.typed) rules_here.fits.body) ends

  ends_no_constant : (role : Role) → role ≡ Constant → is_ending role ≡ true → ⊥
  ends_no_constant role is ends = let no : is_ending Constant ≡ true = ap is_ending (sym is) ∙ ends in cc

  pub enters : (next : ℕ) → at.0 ≡ [] → is_ending (role_of v.kind.opcode) ≡ true → Contains (successors_in v.body) next → IsReached p (b ∷ passed) next [] st
  enters next last ends leads =
      record {
        path = ((v, in_block p b before v at, leads), reached.path);
        words = λ w ran typed. ⊎_elim (λ old. reached.words w old typed)
            (λ (e : v ≡ w). absurd (typed (ap (λ (x : Value). x.ty) (sym e) ∙ void_at_end ends))) (back w ran);
        constants = λ w word ran is holds. ⊎_elim (λ old. reached.constants w word old is holds)
            (λ (e : v ≡ w). absurd (ends_no_constant (role_of v.kind.opcode) (ap (λ (x : Value). role_of x.kind.opcode) e ∙ is) ends)) (back w ran);
        pure = λ w has is. absurd (Contains-none w has);
        ranged = reached.ranged;
      }
    where
      whole : values_of p b ≡ before ++ v ∷ []
      whole = at.1 ∙ ap (λ l. before ++ v ∷ l) last

      back : (w : Value) → HasRun p (b ∷ passed) [] w → HasRun p passed before w ⊎ (v ≡ w)
      back w (inl none) = absurd (Contains-none w none)
      back w (inr there) =
          ⊎_elim
          (λ (e : b ≡ there.0).
          let here : Contains (values_of p b) w = subst (λ (c : ℕ). Contains (values_of p c) w) (sym e) there.2 in
          ran_more p passed before v w (inl (subst (λ l. Contains l w) whole here)))
          (λ more. inl (inr (there.0, more, there.2)))
          (Contains-cases b passed there.0 there.1)
