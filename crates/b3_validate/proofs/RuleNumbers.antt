-- Rules and their numbers, and rules that are kept one after the other.
use Rattle.std.proofs.Common.{◌≡◌, ◌≢◌, false, true, ℕ, ◌+◌, ◌<◌, ◌≤◌, ◌⊎◌, inl, inr, Option, None, Some, refl, sym, ap, subst, ◌∙◌, arith}
use Rattle.std.specs.Prelude.{◌==◌, if◌then◌else◌, is_some}
use Rattle.std.proofs.lemmas.Bool.{cases_lt, cases_order}
use Rattle.b3_rules.specs.Least.{IsLeastBroken, IsWithin}
use Rattle.b3_rules.specs.Numbers.{number_of}
use Rattle.b3_rules.specs.declared.rule.Rule.{Rule}
use Rattle.b3_rules.specs.declared.rule.Rule.TheVariants as rule

abbrev rule_of : ℕ → Rule
rule_of n =
    if n == 1 then rule.Names
    else if n == 2 then rule.Slots
    else if n == 3 then rule.Blocks
    else if n == 4 then rule.Ids
    else if n == 5 then rule.Endings
    else if n == 6 then rule.Terminals
    else if n == 7 then rule.KnownIds
    else if n == 8 then rule.Types
    else if n == 9 then rule.Phis
    else if n == 10 then rule.KnownSlots
    else if n == 11 then rule.Successors
    else if n == 12 then rule.Cases
    else if n == 13 then rule.Returns
    else if n == 14 then rule.Arguments
    else if n == 15 then rule.Constraints
    else if n == 16 then rule.Registers
    else if n == 17 then rule.FixedRegisters
    else if n == 18 then rule.RegisterDemand
    else if n == 19 then rule.Sizes
    else rule.Uses

again : (r : Rule) → rule_of (number_of r) ≡ r
again rule.Names = refl
again rule.Slots = refl
again _ = refl

-- rules of one number are one
pub same_rule : (q r : Rule) → number_of q ≡ number_of r → q ≡ r
same_rule q r e = sym (again q) ∙ ap rule_of e ∙ again r

-- a rule is that on uses, or its number is one of the others'
pub uses_or_other : (r : Rule) → (r ≡ rule.Uses) ⊎ ((r ≢ rule.Uses) × IsWithin 1 19 r)
uses_or_other rule.Uses = inl refl
uses_or_other _ = inr ((λ e. cc), (omega arith, omega arith))

-- ---- rules that are kept one after the other

-- the rules from one number on and below another are kept
abbrev pub KeptBelow : ℕ → ℕ → (Rule → Type 0) → Type 0
KeptBelow low next keeps = (q : Rule) → low ≤ number_of q → number_of q < next → keeps q

module _ (keeps : Rule → Type 0) where
  pub none_yet : (low : ℕ) → KeptBelow low low keeps
  none_yet low q above below = absurd (omega arith)

  pub one_more : (low : ℕ) (r : Rule) → KeptBelow low (number_of r) keeps → keeps r → KeptBelow low (number_of r + 1) keeps
  one_more low r kept now q above below =
      elim (cases_order (number_of q) (number_of r)) [
        | inl same ↦ subst keeps (same_rule r q (sym same)) now
        | inr apart ↦ elim apart [ inl less ↦ kept q above less | inr more ↦ absurd (omega arith) ]
      ]

  pub all_kept : (low high next : ℕ) → next ≡ high + 1 → KeptBelow low next keeps → IsLeastBroken low high keeps None
  all_kept low high next e kept q within = kept q within.0 (omega (arith, within.1))

  pub broken : (low high : ℕ) (r : Rule) → KeptBelow low (number_of r) keeps → low ≤ number_of r → number_of r ≤ high → ¬ (keeps r) → IsLeastBroken low high keeps (Some r)
  broken low high r kept above within breaks = ((above, within), breaks, λ q inside less. kept q inside.0 less)

  -- ---- ranges joined

  -- none is broken in the next range
  pub extended : (low mid high next : ℕ) (o : Option Rule) → KeptBelow low mid keeps → next ≡ high + 1 → is_some o ≡ false → IsLeastBroken mid high keeps o → KeptBelow low next keeps
  extended low mid high next None kept e none least q above below =
      elim (cases_lt (number_of q) mid) [ inl less ↦ kept q above less | inr more ↦ least q (more, omega arith) ]
  extended low mid high next (Some r) kept e none least q above below = absurd cc

  -- one is broken in the next range
  pub ended : (low mid high all : ℕ) (o : Option Rule) → KeptBelow low mid keeps → low ≤ mid → high ≤ all → is_some o ≡ true → IsLeastBroken mid high keeps o → IsLeastBroken low all keeps o
  ended low mid high all None kept le within some least = absurd cc
  ended low mid high all (Some r) kept le within some least = (
    (omega (arith, least.0.0), omega (arith, least.0.1)),
    least.1,
    λ q inside less. elim (cases_lt (number_of q) mid) [
      | inl below ↦ kept q inside.0 below
      | inr more ↦ least.2 q (more, omega (arith, less, least.0.1)) less
    ],
  )

  -- the last range
  pub finished : (low mid high : ℕ) (o : Option Rule) → KeptBelow low mid keeps → low ≤ mid → IsLeastBroken mid high keeps o → IsLeastBroken low high keeps o
  finished low mid high None kept le least = λ q inside.
      elim (cases_lt (number_of q) mid) [ inl less ↦ kept q inside.0 less | inr more ↦ least q (more, inside.1) ]
  finished low mid high (Some r) kept le least = ended low mid high high (Some r) kept le (omega arith) refl least

  -- ---- the rules on what a value names

  pub to_types : keeps rule.KnownIds → KeptBelow 7 8 keeps
  to_types ids = one_more 7 rule.KnownIds (none_yet 7) ids

  pub to_phis : keeps rule.KnownIds → keeps rule.Types → KeptBelow 7 9 keeps
  to_phis ids types = one_more 7 rule.Types (to_types ids) types

  pub to_slots : keeps rule.KnownIds → keeps rule.Types → keeps rule.Phis → KeptBelow 7 10 keeps
  to_slots ids types phis = one_more 7 rule.Phis (to_phis ids types) phis

  pub to_successors : keeps rule.KnownIds → keeps rule.Types → keeps rule.Phis → keeps rule.KnownSlots → KeptBelow 7 11 keeps
  to_successors ids types phis slots = one_more 7 rule.KnownSlots (to_slots ids types phis) slots

  pub to_cases : keeps rule.KnownIds → keeps rule.Types → keeps rule.Phis → keeps rule.KnownSlots → keeps rule.Successors → KeptBelow 7 12 keeps
  to_cases ids types phis slots blocks = one_more 7 rule.Successors (to_successors ids types phis slots) blocks
