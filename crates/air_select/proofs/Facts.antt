-- What a valid procedure and its run say of the children of values.
use Rattle.std.proofs.Common.{◌≡◌, ℕ, ◌<◌, inl, inr, true, List, ◌∷◌, ◌++◌, refl, sym, ap, ◌∙◌, subst, ⊎_elim}
use Rattle.std.specs.Prelude.{Contains}
use Rattle.std.proofs.lemmas.List.{append_assoc}
use Rattle.std.proofs.lemmas.List.Elements.{All-contains, Contains-append_left}
use Rattle.b3_ir.specs.Fits.{IsConstantBelow}
use Rattle.b3_ir.specs.Procedure.{Procedure, values_of}
use Rattle.b3_ir.specs.declared.opcode.Opcode.{Opcode}
use Rattle.b3_ir.specs.declared.opcode.Opcode.TheVariants.{Const32, Const64}
use Rattle.b3_ir.specs.declared.value.Body.{Body}
use Rattle.b3_ir.specs.declared.value.Body.TheVariants.{Constant}
use Rattle.b3_ir.specs.declared.value.Value.{Value}
use Rattle.b3_meaning.specs.Roles.{role_of}
use Rattle.b3_meaning.specs.Run.{State}
use Rattle.b3_meaning.specs.declared.role.Role.TheVariants as role
use Rattle.b3_rules.specs.Paths.{HasRun, IsCovered}
use Rattle.b3_sound.specs.Laws.{StandsAfter}
use Rattle.b3_sound.proofs.Keeping.{ran_in_block}
use Rattle.b3_sound.proofs.Kept.{IsKept}
use Rattle.b3_sound.proofs.Lists.{contains_split}
use Rattle.b3_sound.proofs.Reached.{IsReached}
use Rattle.air_fold.specs.Foldable.{is_constant}
use Rattle.air_fold.specs.Values.{word_in}

-- a constant carries its word
pub constant_role : (op : Opcode) → is_constant op ≡ true → role_of op ≡ role.Constant
constant_role Const32 e = refl
constant_role Const64 e = refl
constant_role _ e = absurd (cc)

pub body_below : (limit : ℕ) (body : Body) → IsConstantBelow limit body → (body ≡ Constant (word_in body)) × (word_in body < limit)
body_below limit (Constant word) below = (refl, below)
body_below limit _ below = absurd below

module _ (p : Procedure) (valid : IsKept p) where
  -- a value that has run by a place, with an id
  abbrev pub Ran : List ℕ → List Value → ℕ → Type 0
  Ran passed before id = (v : Value) × (v.id ≡ id) × HasRun p passed before v

  module _ (passed : List ℕ) (b : ℕ) (before : List Value) (st : State) (reached : IsReached p passed b before st) where
    -- the children of a value that stands here have run
    pub child_ran : (v : Value) → StandsAfter p b before v → (id : ℕ) → Contains v.children id → Ran passed before id
    child_ran v at id has = All-contains (IsCovered p b before) v.children id (valid.rules b before v at).covered has passed reached.path

    -- and so have those of a value that has run earlier in the block
    pub grandchild_ran : (w : Value) → Contains before w → (rest : List Value) → values_of p b ≡ before ++ rest → (id : ℕ) → Contains w.children id
        → Ran passed before id
    grandchild_ran w has rest is id child =
        let cut = contains_split before w has in
        let at : StandsAfter p b cut.0 w =
        (cut.1 ++ rest, is ∙ ap (λ (l : List Value). l ++ rest) cut.2 ∙ append_assoc cut.0 (w ∷ cut.1) rest) in
        let d = All-contains (IsCovered p b cut.0) w.children id (valid.rules b cut.0 w at).covered child passed reached.path in (
          d.0,
          d.1,
          ⊎_elim (λ here. inl (subst (λ (l : List Value). Contains l d.0) (sym cut.2) (Contains-append_left cut.0 (w ∷ cut.1) d.0 here)))
              (λ there. inr there) d.2,
        )

    -- what has run stands in a block
    pub ran_stands : (rest : List Value) → values_of p b ≡ before ++ rest → (v : Value) → HasRun p passed before v → (c : ℕ) × Contains (values_of p c) v
    ran_stands rest is v ran = ran_in_block p b passed before rest is v ran
