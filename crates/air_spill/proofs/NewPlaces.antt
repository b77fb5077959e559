-- The spill places of a rewritten procedure: those that it named, and one for each temporary that is spilled.
use Rattle.std.proofs.Common.{◌≡◌, ℕ, ◌+◌, ◌⊎◌, inl, inr, Bool, true, false, if◌then◌else◌, Option, Some, None, List, [], ◌∷◌, map, refl, sym, subst}
use Rattle.std.specs.Prelude.{slice_get}
use Rattle.b3_ir.specs.declared.value.Reg.{Reg as Register}
use Rattle.air_ir.specs.Related.{IsOneOf, homes_of}
use Rattle.air_ir.specs.Renaming.{rename, rename_arg, rename_inst}
use Rattle.air_ir.specs.declared.assignment.Assignment.{Assignment}
use Rattle.air_ir.specs.declared.operand.Arg.{Arg}
use Rattle.air_ir.specs.declared.operand.Arg.TheVariants.{At, Imm, Addr, Index, FrameSlot}
use Rattle.air_ir.specs.declared.operand.Home.{Home}
use Rattle.air_ir.specs.declared.operand.Home.TheVariants.{Tmp, Reg, Spill}
use Rattle.air_ir.specs.declared.operand.Operand.{Operand}
use Rattle.air_ir.specs.declared.procedure.AirInst.{AirInst}
use Rattle.air_ir.specs.declared.procedure.AirProc.{AirProc}
use Rattle.air_flow.specs.Living.{IsNamed, IsNamedIn}
use Rattle.air_spill.specs.Rewritten.{first_spill, home_by, is_copy, is_one, kept_operands, rewritten, rewritten_inst, standing, with_operands}
use Rattle.air_spill.specs.Stays.{AddsPlaces, IsSpilledAt}
use Rattle.air_spill.proofs.Sites.{from, stood}

module _ (loc : Home → Home) where
  -- a home that some operands name became this one
  abbrev pub Was : Home → List Operand → Type 0
  Was h os = (g : Home) × IsNamedIn g os × (h ≡ loc g)

  was_one : (arg : Arg) (h : Home) → IsOneOf h (homes_of (rename_arg loc arg)) → (g : Home) × IsOneOf g (homes_of arg) × (h ≡ loc g)
  unfolding IsOneOf
  was_one (At home) h (inl e) = (home, inl refl, e)
  was_one (At home) h (inr none) = absurd none
  was_one (Imm word) h is = absurd is
  was_one (Addr base offset) h (inl e) = (base, inl refl, e)
  was_one (Addr base offset) h (inr none) = absurd none
  was_one (Index base index shift) h (inl e) = (base, inl refl, e)
  was_one (Index base index shift) h (inr (inl e)) = (index, inr (inl refl), e)
  was_one (Index base index shift) h (inr (inr none)) = absurd none
  was_one (FrameSlot number) h is = absurd is

  was_first : (h : Home) (o : Operand) (os : List Operand) → IsOneOf h (homes_of (rename_arg loc o.arg)) → Was h (o ∷ os)
  unfolding IsNamedIn
  was_first h o os is = let g = was_one o.arg h is in (g.0, inl g.1, g.2)

  was_behind : (h : Home) (o : Operand) (os : List Operand) → Was h os → Was h (o ∷ os)
  unfolding IsNamedIn
  was_behind h o os was = (was.0, inr was.1, was.2)

  was_renamed : (h : Home) (os : List Operand) → IsNamedIn h (map (rename loc) os) → Was h os
  unfolding IsNamedIn
  was_renamed h [] is = absurd is
  was_renamed h (o ∷ os) (inl is) = was_first h o os is
  was_renamed h (o ∷ os) (inr is) = was_behind h o os (was_renamed h os is)

  was_kept : (h : Home) (os : List Operand) → IsNamedIn h (kept_operands loc os) → Was h os
  unfolding IsNamedIn kept_operands
  was_kept h [] is = absurd is
  was_kept h (o ∷ []) is = absurd is
  was_kept h (o ∷ u ∷ os) is = by (is_one (rename loc o).arg (rename loc u).arg) is (was_kept h os)
    where
      by : (b : Bool) → IsNamedIn h (if b then kept_operands loc os else rename loc o ∷ rename loc u ∷ kept_operands loc os)
          → (IsNamedIn h (kept_operands loc os) → Was h os) → Was h (o ∷ u ∷ os)
      by true is rest = was_behind h o (u ∷ os) (was_behind h u os (rest is))
      by false (inl is) rest = was_first h o (u ∷ os) is
      by false (inr (inl is)) rest = was_behind h o (u ∷ os) (was_first h u os is)
      by false (inr (inr is)) rest = was_behind h o (u ∷ os) (was_behind h u os (rest is))

  was_with : (h : Home) (i j : AirInst) (os : List Operand) → with_operands i os ≡ j ∷ [] → (IsNamedIn h os → Was h i.operands)
      → IsNamedIn h j.operands → Was h i.operands
  was_with h i j [] e rest is = absurd (cc)
  was_with h i j (o ∷ os) e rest is =
      let same : record i { operands = o ∷ os } ≡ j = cc in rest (subst (λ (k : AirInst). IsNamedIn h k.operands) (sym same) is)

  was : (h : Home) (i j : AirInst) → rewritten_inst loc i ≡ j ∷ [] → IsNamedIn h j.operands → Was h i.operands
  unfolding rewritten_inst
  was h i j e is = by (is_copy i.op) e
    where
      by : (b : Bool) → (if b then with_operands i (kept_operands loc i.operands) else rename_inst loc i ∷ []) ≡ j ∷ [] → Was h i.operands
      by true e = was_with h i j (kept_operands loc i.operands) e (was_kept h i.operands) is
      by false e =
          let same : rename_inst loc i ≡ j = cc in
          was_renamed h i.operands (subst (λ (k : AirInst). IsNamedIn h k.operands) (sym same) is)

-- ---- spill places

spilled_at : (k n : ℕ) (x : Option (Option Register)) → standing k x ≡ Spill n → (x ≡ Some None) × (n ≡ first_spill + k)
spilled_at k n (Some (Some reg)) e = absurd (cc)
spilled_at k n (Some None) e = (refl, cc)
spilled_at k n None e = absurd (cc)

place_was : (p : AirProc) (a : Assignment) (n : ℕ) (g : Home) → IsNamed p g → Spill n ≡ home_by a g → IsNamed p (Spill n) ⊎ IsSpilledAt a n
place_was p a n (Tmp k) named e =
    let at = spilled_at k n (slice_get a.homes k) (sym e) in inr (k, at.0, at.1)
place_was p a n (Reg reg) named e = absurd (cc)
place_was p a n (Spill m) named e = inl (subst (IsNamed p) (sym e) named)

pub adds_places : (p : AirProc) (a : Assignment) → AddsPlaces p a (rewritten p a)
adds_places p a n (block, place, j, at, named) =
    let f = from p a block place j at in
    let g = was (home_by a) (Spill n) f.at.from j f.at.becomes named in
    place_was p a n g.0 (block, f.at.at, f.at.from, stood p a block place j f, g.1) g.2
