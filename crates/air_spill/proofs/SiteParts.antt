-- The operands of an instruction at a site that define or use homes, by a proper assignment, and what becomes of the
-- reported ones.
use Rattle.std.proofs.Common.{◌≡◌, ◌≢◌, ◌∙◌, ◌⊎◌, ◌&&◌, ℕ, ◌+◌, ◌<◌, ◌≤◌, Bool, true, false, cond, Option, Some, None, List, [], ◌∷◌, ◌++◌, Contains, if◌then◌else◌, inl, inr, refl, sym, ap, subst, arith}
use Rattle.std.proofs.lemmas.Bool.{cases_Bool, false_from_ne_true}
use Rattle.std.proofs.lemmas.List.Elements.{Contains-append_left, Contains-append_right}
use Rattle.b3_base.specs.declared.word.Width.{Width}
use Rattle.b3_base.specs.declared.word.Width.TheVariants.{W64}
use Rattle.b3_ir.specs.Types.{width_of}
use Rattle.b3_ir.specs.declared.value.Constraint.{Constraint}
use Rattle.b3_ir.specs.declared.value.Constraint.TheVariants.{WarmAny, ColdAny, LateColdAny, SomeRegister, SomeRegisterWithClobber, SomeEarlyRegister, SomeLateRegister, Fixed, LateFixed}
use Rattle.b3_ir.specs.declared.value.Reg.{Reg as Register}
use Rattle.flow_live.specs.declared.touch.Touch.{Touch}
use Rattle.flow_live.specs.declared.touch.Touch.TheVariants as touch
use Rattle.stackmap.specs.Placing.{result_register}
use Rattle.stackmap.specs.Registers.{is_late, is_patchpoint}
use Rattle.air_ir.specs.Expressed.{IsPlace, result_role, IsExpressed}
use Rattle.air_ir.specs.Forms.{operand_in}
use Rattle.air_ir.specs.WellFormed.{MayName, NamesOwn, StandsAt, IsWellFormed}
use Rattle.air_ir.specs.declared.operand.Arg.TheVariants.{At}
use Rattle.air_ir.specs.declared.operand.Home.{Home}
use Rattle.air_ir.specs.declared.operand.Home.TheVariants.{Tmp, Reg}
use Rattle.air_ir.specs.declared.operand.Operand.{Operand}
use Rattle.air_ir.specs.declared.operand.Role.{Role}
use Rattle.air_ir.specs.declared.operand.Role.TheVariants.{Use, LateUse, EarlyDef, Def, Clobber}
use Rattle.air_ir.specs.declared.procedure.AirProc.{AirProc}
use Rattle.air_flow.specs.Flow.{operand_touches, touch_as, touches_of}
use Rattle.air_flow.specs.Interfere.{IsEarly}
use Rattle.air_flow.specs.Living.{IsDefinedBy, IsUsedBy, IsUsedLateBy}
use Rattle.air_flow.specs.Proper.{register_of, IsProper}
use Rattle.air_flow.proofs.Among.{Among, among_index}
use Rattle.air_flow.proofs.Lives.{spot}
use Rattle.air_flow.proofs.Names.{owns_of}
use Rattle.air_spill.proofs.SitesObey.{FreeKeeps, allocatable_low}
use Rattle.b3_ir.specs.Procedure.{Procedure}
use Rattle.b3_ir.specs.declared.value.Value.{Value}
use Rattle.air_ir.specs.declared.assignment.Assignment.{Assignment}
use Rattle.air_ir.specs.declared.procedure.AirInst.{AirInst}

-- ---- touches

among_touch : (tmps : ℕ) (os : List Operand) (o : Operand) (t : Touch) → Among (λ (u : Operand). u ≡ o) os
    → Contains (operand_touches tmps o) t
    → Contains (touches_of tmps os) t
unfolding Among
among_touch tmps [] o t a c = absurd a
among_touch tmps (u ∷ os) o t (inl e) c =
    Contains-append_left (operand_touches tmps u) (touches_of tmps os) t
    (subst (λ (x : Operand). Contains (operand_touches tmps x) t) (sym e) c)
among_touch tmps (u ∷ os) o t (inr a) c =
    Contains-append_right (operand_touches tmps u) (touches_of tmps os) t (among_touch tmps os o t a c)

touched : (tmps : ℕ) (os : List Operand) (o : Operand) (t : Touch) → Contains os o → Contains (operand_touches tmps o) t
    → Contains (touches_of tmps os) t
touched tmps os o t c = among_touch tmps os o t (among_index (λ (u : Operand). u ≡ o) os o c.0 c.1 c.2)

in_role : (tmps : ℕ) (width : Width) (role : Role) (h : Home) (o : Operand) (t : Touch) → o.role ≡ role → o.arg ≡ At h
    → Contains (operand_touches tmps (record { role = role; width = width; arg = At h })) t
    → Contains (operand_touches tmps o) t
in_role tmps width role h o t r e c = rw (r, e) c

one : (t u : Touch) → t ≡ u → Contains (t ∷ []) u
one t u e = (0, omega arith, e)

-- a result is written
result_writes : (c : Constraint) (h : Home) (n : ℕ) → touch_as (result_role c) (At h) n ≡ touch.Def n
result_writes WarmAny h n = refl
result_writes ColdAny h n = refl
result_writes LateColdAny h n = refl
result_writes SomeRegister h n = refl
result_writes SomeRegisterWithClobber h n = refl
result_writes SomeEarlyRegister h n = refl
result_writes SomeLateRegister h n = refl
result_writes (Fixed reg) h n = refl
result_writes (LateFixed reg) h n = refl

pub only_patches : (b w : Bool) (o : Option Register) (reg : Register) → cond (b && w) o None ≡ Some reg → b ≡ true
only_patches true w o reg e = refl
only_patches false w o reg e = absurd (cc)

low : (p : AirProc) (role : Role) (reg : Register) → MayName p role (Reg reg) → reg.0 ≤ 30
low p Use reg may = allocatable_low reg may
low p LateUse reg may = allocatable_low reg may
low p Def reg may = allocatable_low reg may
low p EarlyDef reg may = may.0
low p Clobber reg may = may.0

module _ (p : AirProc) (a : Assignment) (block place : ℕ) (i : AirInst) (good : IsWellFormed p) (proper : IsProper p a)
    (at : StandsAt p block place i) where
  -- ---- what is defined and used

  pub own : (o : Operand) → Contains i.operands o → NamesOwn p o.role o.arg
  own o c =
      subst (λ (u : Operand). NamesOwn p u.role u.arg) c.2 (owns_of p block place i good at c.0 o c.1)

  defined : (role : Role) (width : Width) (reg : Register) → ((n : ℕ) → touch_as role (At (Reg reg)) n ≡ touch.Def n)
      → Contains i.operands (record { role = role; width = width; arg = At (Reg reg) }) → IsDefinedBy p i (Reg reg)
  defined role width reg writes c = (
    p.tmps + reg.0,
    (low p role reg (own _ c), refl),
    touched p.tmps i.operands _ (touch.Def (p.tmps + reg.0)) c (one _ _ (writes (p.tmps + reg.0))),
  )

  used : (o : Operand) (n : ℕ) → Contains i.operands o → n < p.tmps → o.role ≡ Use → o.arg ≡ At (Tmp n)
      → IsUsedBy p i (Tmp n)
  used o n c lt r e = (
    n,
    (lt, refl),
    touched p.tmps i.operands o (touch.Use n) c
        (in_role p.tmps W64 Use (Tmp n) o (touch.Use n) r e (one _ _ refl)),
  )

  used_late : (o : Operand) (n : ℕ) → Contains i.operands o → n < p.tmps → o.role ≡ LateUse → o.arg ≡ At (Tmp n)
      → IsUsedLateBy p i (Tmp n)
  used_late o n c lt r e = (
    n,
    (lt, refl),
    touched p.tmps i.operands o (touch.LateUse n) c
        (in_role p.tmps W64 LateUse (Tmp n) o (touch.LateUse n) r e (one _ _ refl)),
  )

  apart : (n : ℕ) (reg : Register) → Reg reg ≢ Tmp n
  apart n reg e = cc

  clash_late : (n : ℕ) (reg : Register) → register_of a (Tmp n) ≡ Some reg → IsDefinedBy p i (Reg reg)
      → IsUsedLateBy p i (Tmp n) → ⊥
  clash_late n reg e d late =
      proper.apart (Reg reg) (Tmp n) reg (apart n reg, inr (spot block place, i, at, inl (d, inr (inl late)))) refl e

  clash_early : (n : ℕ) (reg : Register) → register_of a (Tmp n) ≡ Some reg → IsDefinedBy p i (Reg reg)
      → IsEarly i (Reg reg)
      → IsUsedBy p i (Tmp n) ⊎ IsUsedLateBy p i (Tmp n) → ⊥
  clash_early n reg e d early (inl u) =
      proper.apart (Reg reg) (Tmp n) reg (
        apart n reg,
        inr
            (spot block place, i, at, inl (d, inr (inr (inl (early, u))))),
      ) refl e
  clash_early n reg e d early (inr late) = clash_late n reg e d late

  -- ---- a child in a temporary

  module _ (b3 : Procedure) (v : Value) (is : IsExpressed b3 v i) where
    changes : (o : Operand) → Contains is.site.changed o → Contains i.operands o
    changes o c =
        subst (λ (os : List Operand). Contains os o) (sym is.parts)
        (Contains-append_left (is.site.inputs ++ is.site.reported ++ is.site.changed) is.site.results o
        (Contains-append_right (is.site.inputs ++ is.site.reported) is.site.changed o c))

    results : (o : Operand) → Contains is.site.results o → Contains i.operands o
    results o c =
        subst (λ (os : List Operand). Contains os o) (sym is.parts)
        (Contains-append_right (is.site.inputs ++ is.site.reported ++ is.site.changed) is.site.results o c)

    pub reports : (o : Operand) → Contains is.site.reported o → Contains i.operands o
    reports o c =
        subst (λ (os : List Operand). Contains os o) (sym is.parts)
        (Contains-append_left (is.site.inputs ++ is.site.reported ++ is.site.changed) is.site.results o
        (Contains-append_left (is.site.inputs ++ is.site.reported) is.site.changed o
        (Contains-append_right is.site.inputs is.site.reported o c)))

    the_result : (reg : Register) → result_register v ≡ Some reg
        → Contains i.operands (record
        { role = result_role is.stackmap.result; width = width_of v.ty; arg = At (Reg reg) })
    the_result reg e =
        let patches : is_patchpoint v.kind.opcode ≡ true = only_patches (is_patchpoint v.kind.opcode) _ _ reg e in
        results _ (rw (is.result patches, e) (0, omega arith, refl))

    early_in : (reg : Register) → Contains is.site.changed (operand_in EarlyDef W64 reg.0)
        → IsDefinedBy p i (Reg reg) × IsEarly i (Reg reg)
    early_in reg c = let there = changes _ c in (defined EarlyDef W64 reg (λ n. refl) there, (W64, there))

    module _ (c : Constraint) (o : Operand) (n : ℕ) (reg : Register) (there : Contains i.operands o)
        (role : o.role ≡ (if is_late c then LateUse else Use))
        (stands : o.arg ≡ At (Tmp n)) (lt : n < p.tmps) (in_it : register_of a (Tmp n) ≡ Some reg)
        (within : IsPlace (Reg reg)) where
      read_late : is_late c ≡ true → IsUsedLateBy p i (Tmp n)
      read_late late = used_late o n there lt (role ∙ ap (λ (b : Bool). if b then LateUse else Use) late) stands

      read : IsUsedBy p i (Tmp n) ⊎ IsUsedLateBy p i (Tmp n)
      read = elim (cases_Bool (is_late c)) [
        | inl late ↦ inr (read_late late)
        | inr not_late ↦ inl (used o n there lt (role ∙ ap (λ (b : Bool). if b then LateUse else Use) not_late) stands)
      ]

      no_early : Contains is.site.changed (operand_in EarlyDef W64 reg.0) → ⊥
      no_early e = let d = early_in reg e in clash_early n reg in_it d.0 d.1 read

      pub free_keeps : FreeKeeps v is.stackmap c reg
      free_keeps = record {
        within = within;
        early = false_from_ne_true _ (λ e. no_early ((is.early reg.0).1 (inl e)));
        alone = λ it. no_early ((is.early reg.0).1 (inr it));
        late = λ late. false_from_ne_true _ (λ e.
            clash_late n reg in_it (defined Clobber W64 reg (λ n. refl) (changes _ ((is.late reg.0).1 e)))
            (read_late late));
        late_result = λ late e.
            clash_late n reg in_it (defined (result_role is.stackmap.result) (width_of v.ty) reg
            (result_writes is.stackmap.result (Reg reg)) (the_result reg e))
            (read_late late);
        early_result = λ is_early e.
            let result = the_result reg e in
            clash_early n reg in_it (defined (result_role is.stackmap.result) (width_of v.ty) reg
            (result_writes is.stackmap.result (Reg reg)) result) (
              width_of v.ty,
              subst (λ (c : Constraint). Contains i.operands
                  (record { role = result_role c; width = width_of v.ty; arg = At (Reg reg) })) is_early result,
            )
            read;
      }
