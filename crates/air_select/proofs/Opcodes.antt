-- Each value, by its opcode: its instructions do what it leads to.
use Rattle.std.proofs.Common.{◌≡◌, ℕ, inl, inr, Bool, true, false, ◌&&◌, List, [], refl, sym, ap, ◌∙◌, subst}
use Rattle.std.specs.Prelude.{if◌then◌else◌}
use Rattle.b3_base.proofs.Booleans.{and_first}
use Rattle.b3_ir.specs.Naming.{type_of}
use Rattle.b3_ir.specs.declared.opcode.Opcode.{Opcode}
use Rattle.b3_ir.specs.declared.opcode.Opcode.TheVariants as opcode
use Rattle.b3_meaning.specs.Opcodes.{Outcome, result}
use Rattle.b3_meaning.specs.Roles.{role_of}
use Rattle.b3_meaning.specs.Run as b3
use Rattle.b3_ir.specs.declared.opcode.Ty.TheVariants.{Int32}
use Rattle.b3_ir.specs.declared.table.Takes.TheVariants.{Any, This}
use Rattle.b3_meaning.specs.declared.role.Extent.TheVariants.{Byte, Half, Whole}
use Rattle.air_ir.specs.declared.op.AirOp.TheVariants as op
use Rattle.b3_meaning.specs.declared.role.Role.{Role}
use Rattle.b3_meaning.specs.declared.role.Role.TheVariants as role
use Rattle.b3_rules.specs.Rules.{types_of}
use Rattle.stackmap.specs.Rules.{IsPlaceable}
use Rattle.air_ir.specs.Meaning.{meaning}
use Rattle.air_ir.specs.Steps.{Outcome as Ran, steps}
use Rattle.air_fold.specs.Foldable.{is_add, is_and, is_bit, is_constant, is_shl}
use Rattle.air_select.specs.Selected.{code_of, folds, value_code, Tables}
use Rattle.air_fold.specs.Values.{child, known, known_in}
use Rattle.air_select.proofs.Accesses.{frame_does, load_does, slot_does, store_does}
use Rattle.air_select.proofs.Calls.{call_does}
use Rattle.air_select.proofs.Copied.{argument_does, constant_does, identity_does, phi_does, row_of_role}
use Rattle.air_select.proofs.Deciding.{comparison_row}
use Rattle.air_select.proofs.Does.{Does, DoesSome, effect_is, gives_does, here, named, words_here, Here}
use Rattle.air_stackmap.specs.Laws.{has_stackmap as has_map}
use Rattle.air_select.specs.Sited.{is_site}
use Rattle.air_select.proofs.Facts.{constant_role}
use Rattle.air_select.proofs.Instructions.{steps_none}
use Rattle.air_select.proofs.Leaving.{branch_does, jump_does, return_does, select_does, switch_does}
use Rattle.air_select.proofs.Plain.{one_op_does}
use Rattle.air_select.proofs.Pointers.{load16s_at, load16z_at, load8s_at, load8z_at, load_at, store16_at, store8_at, store_at}
use Rattle.air_select.proofs.Related.{folded_related}
use Rattle.air_select.proofs.Remainders.{mod_does, umod_does}
use Rattle.air_select.proofs.Rotations.{rotate_does}
use Rattle.air_select.proofs.SiteRuns.{add_does, check_does, mul_does, patch_does, sub_does}
use Rattle.air_select.proofs.Sources.{trunc_does, upsilon_does}
use Rattle.b3_base.specs.Observed.{Start}
use Rattle.b3_ir.specs.Procedure.{Procedure}
use Rattle.b3_ir.specs.declared.value.Value.{Value}

and_role : (o : Opcode) → is_and o ≡ true → role_of o ≡ role.Pure
and_role opcode.BitAnd e = refl
and_role _ e = absurd (cc)

add_role : (o : Opcode) → is_add o ≡ true → role_of o ≡ role.Pure
add_role opcode.Add e = refl
add_role _ e = absurd (cc)

shl_role : (o : Opcode) → is_shl o ≡ true → role_of o ≡ role.Pure
shl_role opcode.Shl e = refl
shl_role _ e = absurd (cc)

module _ (p : Procedure) (t : Tables) (start : Start) (v : Value) (h : Here p t start v) (junk : List ℕ) where
  abbrev Wanted : Role → Ran × List ℕ → Type 0
  Wanted r o = Does p t start v junk (b3.effect_by r start h.st v (types_of p v) (words_here p t start v h)) o

  -- ---- a folded value: it has no instructions

  no_code : folds t v.id ≡ true → (out : Outcome) → Does p t start v junk (b3.gives h.st v.id out) (steps (meaning start) [] h.s junk)
  no_code gone out =
      gives_does p t start v h junk out (steps (meaning start) [] h.s junk)
      (λ w e. (h.s, steps_none start h.s junk, folded_related p t h.sound start h.st h.s h.related v.id v (named p t start v h) w gone))

  no_code_pure : folds t v.id ≡ true → role_of v.kind.opcode ≡ role.Pure → Wanted (role_of v.kind.opcode) (steps (meaning start) [] h.s junk)
  no_code_pure gone pure =
      subst (λ (r : Role). Wanted r (steps (meaning start) [] h.s junk)) (sym pure)
      (no_code gone (result v.kind.opcode v.kind.chill v.ty (words_here p t start v h) (types_of p v)))

  folded_does : folds t v.id ≡ true → Wanted (role_of v.kind.opcode) (steps (meaning start) [] h.s junk)
  folded_does gone = elim (h.sound.kinds h.block v (here p t start v h) gone) [
    | inl constant ↦
        subst (λ (r : Role). Wanted r (steps (meaning start) [] h.s junk)) (sym (constant_role v.kind.opcode constant)) (no_code gone (b3.constant_of v.body))
    | inr (inl comparison) ↦ no_code_pure gone (comparison_row v.kind.opcode comparison).0
    | inr (inr (inr (inl sum))) ↦ no_code_pure gone (add_role v.kind.opcode sum)
    | inr (inr (inr (inr shift))) ↦ no_code_pure gone (shl_role v.kind.opcode shift)
    | inr (inr (inl bit)) ↦
        no_code_pure gone (and_role v.kind.opcode (and_first (is_and v.kind.opcode)
        (is_constant (known t.index (child v.children 1)).opcode && is_bit (known t.index (child v.children 1)).word) bit))
  ]

  -- ---- a value that is not folded

  known_here : known t.index v.id ≡ known_in h.block v
  known_here = h.sound.is_known h.block v (here p t start v h)

  plain_does : folds t v.id ≡ false → (o : Opcode) → v.kind.opcode ≡ o → is_site o ≡ false → Wanted (role_of o) (steps (meaning start) (code_of t o v) h.s junk)
  plain_does un opcode.Nop eo alone = (h.s, steps_none start h.s junk, h.related)
  plain_does un opcode.Const32 eo alone = constant_does p t start v h junk (row_of_role p t start v h opcode.Const32 eo)
  plain_does un opcode.Const64 eo alone = constant_does p t start v h junk (row_of_role p t start v h opcode.Const64 eo)
  plain_does un opcode.ArgumentReg eo alone = argument_does p t start v h junk eo
  plain_does un opcode.Identity eo alone = identity_does p t start v h junk eo
  plain_does un opcode.Mod eo alone = mod_does p t start v h junk eo
  plain_does un opcode.UMod eo alone = umod_does p t start v h junk eo
  plain_does un opcode.RotL eo alone = rotate_does p t start v h junk eo
  plain_does un opcode.Trunc eo alone = trunc_does p t start v h junk eo
  plain_does un opcode.Select eo alone = select_does p t start v h junk eo
  plain_does un opcode.Upsilon eo alone = upsilon_does p t start v h junk eo
  plain_does un opcode.Phi eo alone = phi_does p t start v h junk
  plain_does un opcode.Jump eo alone = jump_does p t start v h junk eo
  plain_does un opcode.Oops eo alone = tt
  plain_does un opcode.Branch eo alone = branch_does p t start v h junk eo
  plain_does un opcode.Switch eo alone = switch_does p t start v h junk eo
  plain_does un opcode.Return eo alone = return_does p t start v h junk eo
  plain_does un opcode.FramePointer eo alone = frame_does p t start v h junk eo
  plain_does un opcode.SlotBase eo alone = slot_does p t start v h junk eo
  plain_does un opcode.Load8Z eo alone = load_does p t start v h junk opcode.Load8Z op.Load8Z Byte false eo refl refl (λ e. cc)
      (load8z_at p t v h.block known_here) (λ ty ts a. a.children)
  plain_does un opcode.Load8S eo alone = load_does p t start v h junk opcode.Load8S op.Load8S Byte true eo refl refl (λ e. cc)
      (load8s_at p t v h.block known_here) (λ ty ts a. a.children)
  plain_does un opcode.Load16Z eo alone = load_does p t start v h junk opcode.Load16Z op.Load16Z Half false eo refl refl (λ e. cc)
      (load16z_at p t v h.block known_here) (λ ty ts a. a.children)
  plain_does un opcode.Load16S eo alone = load_does p t start v h junk opcode.Load16S op.Load16S Half true eo refl refl (λ e. cc)
      (load16s_at p t v h.block known_here) (λ ty ts a. a.children)
  plain_does un opcode.Load eo alone = load_does p t start v h junk opcode.Load op.Load Whole false eo refl refl (λ e. cc)
      (load_at p t v h.block known_here) (λ ty ts a. a.children)
  plain_does un opcode.Store8 eo alone =
      store_does p t start v h junk opcode.Store8 op.Store8 Byte (This Int32) eo refl refl (λ e. cc) (λ k. refl)
      (store8_at p t v h.block known_here) (λ ty ts a. a.children)
  plain_does un opcode.Store16 eo alone =
      store_does p t start v h junk opcode.Store16 op.Store16 Half (This Int32) eo refl refl (λ e. cc) (λ k. refl)
      (store16_at p t v h.block known_here) (λ ty ts a. a.children)
  plain_does un opcode.Store eo alone =
      store_does p t start v h junk opcode.Store op.Store Whole Any eo refl refl (λ e. cc) (λ k. refl) (store_at p t v h.block known_here)
      (λ ty ts a. a.children)
  plain_does un opcode.CCall eo alone = absurd (cc)
  plain_does un opcode.Patchpoint eo alone = absurd (cc)
  plain_does un opcode.Check eo alone = absurd (cc)
  plain_does un opcode.CheckAdd eo alone = absurd (cc)
  plain_does un opcode.CheckSub eo alone = absurd (cc)
  plain_does un opcode.CheckMul eo alone = absurd (cc)
  plain_does un o eo alone = one_op_does p t start v h junk o eo refl
      (λ add. h.sound.pointer h.block v (here p t start v h) (ap is_add eo ∙ add) ∙ un)

  -- whatever junk is left
  code_does : folds t v.id ≡ false → (o : Opcode) → v.kind.opcode ≡ o → (has_map o ≡ true → IsPlaceable v)
      → DoesSome p t start v (b3.effect_by (role_of o) start h.st v (types_of p v) (words_here p t start v h)) (steps (meaning start) (code_of t o v) h.s junk)
  code_does un opcode.CCall eo placed = call_does p t start v h junk eo
  code_does un opcode.Patchpoint eo placed = patch_does p t start v h (ap has_map eo) (placed refl) junk eo
  code_does un opcode.Check eo placed = check_does p t start v h (ap has_map eo) (placed refl) junk eo
  code_does un opcode.CheckAdd eo placed = add_does p t start v h (ap has_map eo) (placed refl) junk eo
  code_does un opcode.CheckSub eo placed = sub_does p t start v h (ap has_map eo) (placed refl) junk eo
  code_does un opcode.CheckMul eo placed = mul_does p t start v h (ap has_map eo) (placed refl) junk eo
  code_does un o eo placed = (junk, plain_does un o eo refl)

  pub value_does : (has_map v.kind.opcode ≡ true → IsPlaceable v)
      → DoesSome p t start v (b3.effect (type_of p) start h.st v) (steps (meaning start) (value_code t v) h.s junk)
  unfolding value_code
  value_does placed =
      subst (λ (e : b3.Effect). DoesSome p t start v e (steps (meaning start) (value_code t v) h.s junk)) (sym (effect_is p t start v h))
      (go (folds t v.id) refl)
    where
      go : (f : Bool) → folds t v.id ≡ f
          → DoesSome p t start v (b3.effect_by (role_of v.kind.opcode) start h.st v (types_of p v) (words_here p t start v h))
          (steps (meaning start) (if f then [] else code_of t v.kind.opcode v) h.s junk)
      go true e = (junk, folded_does e)
      go false e = code_does e v.kind.opcode refl placed
