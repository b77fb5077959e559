-- Where the homes of a procedure stand by an assignment.
use Rattle.std.proofs.Common.{◌≡◌, ℕ, ◌+◌, ◌⊎◌, inl, inr, Option, Some, None, arith, refl, sym, ap, ◌∙◌}
use Rattle.std.specs.Prelude.{slice_get}
use Rattle.std.proofs.lemmas.Option.{get_or_from_slice_get}
use Rattle.b3_ir.specs.declared.value.Reg.{Reg as Register}
use Rattle.air_ir.specs.WellFormed.{IsSpillBelow}
use Rattle.air_ir.specs.declared.assignment.Assignment.{Assignment}
use Rattle.air_ir.specs.declared.operand.Home.{Home}
use Rattle.air_ir.specs.declared.operand.Home.TheVariants.{Tmp, Reg, Spill}
use Rattle.air_flow.specs.Proper.{register_of}
use Rattle.air_spill.specs.Rewritten.{first_spill, home_by, standing}

-- two homes stand in one register
abbrev pub InOneRegister : Assignment → Home → Home → Type 0
InOneRegister a h g = (reg : Register) × (register_of a h ≡ Some reg) × (register_of a g ≡ Some reg)

module _ (a : Assignment) where
  standing_register : (k : ℕ) (x : Option (Option Register)) (reg : Register) → slice_get a.homes k ≡ x → standing k x ≡ Reg reg
      → register_of a (Tmp k) ≡ Some reg
  standing_register k (Some (Some r)) reg e f =
      let same : r ≡ reg = cc in get_or_from_slice_get a.homes k (Some r) None e ∙ ap (λ (r : Register). Some r) same
  standing_register k (Some None) reg e f = absurd (cc)
  standing_register k None reg e f = absurd (cc)

  -- a home that stands in a register
  pub in_register : (h : Home) (reg : Register) → home_by a h ≡ Reg reg → register_of a h ≡ Some reg
  in_register (Tmp k) reg e = standing_register k (slice_get a.homes k) reg refl e
  in_register (Reg r) reg e = let same : r ≡ reg = cc in ap (λ (r : Register). Some r) same
  in_register (Spill k) reg e = absurd (cc)

  -- one that stands in a spill place
  spill_number : (k n : ℕ) (x : Option (Option Register)) → standing k x ≡ Spill n → n ≡ first_spill + k
  spill_number k n (Some (Some r)) e = absurd (cc)
  spill_number k n (Some None) e = cc
  spill_number k n None e = absurd (cc)

  in_spill : (h g : Home) (n : ℕ) → IsSpillBelow first_spill h → IsSpillBelow first_spill g → home_by a h ≡ Spill n → home_by a g ≡ Spill n → h ≡ g
  in_spill (Tmp j) (Tmp k) n x y e f =
      let one = spill_number j n (slice_get a.homes j) e in
      let two = spill_number k n (slice_get a.homes k) f in
      let same : j ≡ k = omega (arith, one, two) in
      ap Tmp same
  in_spill (Tmp j) (Spill k) n x y e f = let one = spill_number j n (slice_get a.homes j) e in let two : k ≡ n = cc in absurd (omega (arith, one, two, y))
  in_spill (Spill j) (Tmp k) n x y e f = let one : j ≡ n = cc in let two = spill_number k n (slice_get a.homes k) f in absurd (omega (arith, one, two, x))
  in_spill (Spill j) (Spill k) n x y e f = e ∙ sym f
  in_spill (Reg r) g n x y e f = absurd (cc)
  in_spill (Tmp j) (Reg r) n x y e f = absurd (cc)
  in_spill (Spill j) (Reg r) n x y e f = absurd (cc)

  -- one that the assignment doesn't have
  standing_itself : (k n : ℕ) (x : Option (Option Register)) → standing k x ≡ Tmp n → k ≡ n
  standing_itself k n (Some (Some r)) e = absurd (cc)
  standing_itself k n (Some None) e = absurd (cc)
  standing_itself k n None e = cc

  itself : (h : Home) (n : ℕ) → home_by a h ≡ Tmp n → h ≡ Tmp n
  itself (Tmp k) n e = ap Tmp (standing_itself k n (slice_get a.homes k) e)
  itself (Reg r) n e = absurd (cc)
  itself (Spill k) n e = absurd (cc)

  -- two homes become one only where they are one, or stand in one register
  pub become_one : (h g : Home) → IsSpillBelow first_spill h → IsSpillBelow first_spill g → home_by a h ≡ home_by a g → (h ≡ g) ⊎ InOneRegister a h g
  become_one h g x y e = by (home_by a g) refl
    where
      by : (place : Home) → home_by a g ≡ place → (h ≡ g) ⊎ InOneRegister a h g
      by (Tmp n) f = inl (itself h n (e ∙ f) ∙ sym (itself g n f))
      by (Reg reg) f = inr (reg, in_register h reg (e ∙ f), in_register g reg f)
      by (Spill n) f = inl (in_spill h g n x y (e ∙ f) f)
