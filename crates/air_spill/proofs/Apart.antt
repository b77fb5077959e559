-- By a proper assignment, what an instruction writes becomes no other home that is kept.
use Rattle.std.proofs.Common.{◌≡◌, ◌≢◌, ℕ, inl, inr, List, [], ◌∷◌, All, refl, sym, subst}
use Rattle.std.proofs.lemmas.List.Elements.{All-head, All-tail}
use Rattle.b3_base.proofs.Lists.{All-at}
use Rattle.flow_live.specs.Graph.{Place}
use Rattle.air_ir.specs.Kinds.{Copies, kind_of}
use Rattle.air_ir.specs.Operands.{targets}
use Rattle.air_ir.specs.Related.{AreFine, IsApart, IsOneOf, IsTarget, homes_of}
use Rattle.air_ir.specs.Renaming.{Copy, copy_operands}
use Rattle.air_ir.specs.WellFormed.{IsSpillBelow, SpillsBelow, StandsAt, IsWellFormed, NamesSpillsBelow}
use Rattle.air_ir.specs.declared.operand.Arg.{Arg}
use Rattle.air_ir.specs.declared.operand.Arg.TheVariants.{At, Imm, Addr, Index, FrameSlot}
use Rattle.air_ir.specs.declared.operand.Home.{Home}
use Rattle.air_ir.specs.declared.operand.Home.TheVariants.{Tmp, Reg, Spill}
use Rattle.air_ir.specs.declared.operand.Operand.{Operand}
use Rattle.air_ir.specs.declared.procedure.AirBlock.{AirBlock}
use Rattle.air_ir.specs.declared.procedure.AirInst.{AirInst}
use Rattle.air_flow.specs.Interfere.{IsCopied, IsPair}
use Rattle.air_flow.specs.Living.{IsKept, IsKeptAfter, IsNamedIn}
use Rattle.air_flow.proofs.Apart.{defined, writes_apart}
use Rattle.air_flow.proofs.Lives.{spot}
use Rattle.air_flow.proofs.Touching.{target_is_named}
use Rattle.air_spill.specs.Rewritten.{first_spill, home_by}
use Rattle.air_spill.proofs.Places.{become_one}
use Rattle.air_ir.specs.declared.assignment.Assignment.{Assignment}
use Rattle.air_ir.specs.declared.procedure.AirProc.{AirProc}
use Rattle.air_flow.specs.Proper.{IsProper}

-- ---- spill places that are named

abbrev pub AllBelow : ℕ → List Operand → Type 0
AllBelow n os = All (λ (o : Operand). SpillsBelow n o.arg) os

one_below : (n : ℕ) (h g : Home) → IsSpillBelow n g → h ≡ g → IsSpillBelow n h
one_below n h g below e = subst (IsSpillBelow n) (sym e) below

arg_below : (n : ℕ) (arg : Arg) (h : Home) → SpillsBelow n arg → IsOneOf h (homes_of arg) → IsSpillBelow n h
unfolding IsOneOf
arg_below n (At home) h below (inl e) = one_below n h home below e
arg_below n (At home) h below (inr none) = absurd none
arg_below n (Imm word) h below is = absurd is
arg_below n (Addr base offset) h below (inl e) = one_below n h base below e
arg_below n (Addr base offset) h below (inr none) = absurd none
arg_below n (Index base index shift) h below (inl e) = one_below n h base below.0 e
arg_below n (Index base index shift) h below (inr (inl e)) = one_below n h index below.1 e
arg_below n (Index base index shift) h below (inr (inr none)) = absurd none
arg_below n (FrameSlot number) h below is = absurd is

named_below : (n : ℕ) (os : List Operand) (h : Home) → AllBelow n os → IsNamedIn h os → IsSpillBelow n h
unfolding IsNamedIn
named_below n [] h below is = absurd is
named_below n (o ∷ os) h below (inl is) = arg_below n o.arg h (All-head (λ (o : Operand). SpillsBelow n o.arg) o os below) is
named_below n (o ∷ os) h below (inr is) = named_below n os h (All-tail (λ (o : Operand). SpillsBelow n o.arg) o os below) is

-- ---- copies

pair_to : (from to : Home) (cs : List Copy) → IsPair (copy_operands cs) from to → IsTarget to (targets (copy_operands cs))
unfolding copy_operands targets IsTarget IsPair
pair_to from to [] pair = absurd pair
pair_to from to (c ∷ cs) (inl pair) = inl (let same : to ≡ c.to = cc in same)
pair_to from to (c ∷ cs) (inr pair) = inr (pair_to from to cs pair)

-- the homes that copies write differ
unfoldable pub ToDiffer : List Copy → Type 0
ToDiffer [] = Unit {0}
ToDiffer (c ∷ cs) = (IsTarget c.to (targets (copy_operands cs)) → ⊥) × ToDiffer cs

module _ (p : AirProc) (a : Assignment) (good : IsWellFormed p) (proper : IsProper p a) (named : NamesSpillsBelow first_spill p) where
  inst_below : (block place : ℕ) (i : AirInst) → StandsAt p block place i → AllBelow first_spill i.operands
  inst_below block place i at =
      All-at (λ (i : AirInst). AllBelow first_spill i.operands) at.of.insts place i
      (All-at (λ (b : AirBlock). All (λ (i : AirInst). AllBelow first_spill i.operands) b.insts) p.blocks block at.of named at.block_there) at.inst_there

  kept_below : (at : Place) (h : Home) → IsKept p at h → IsSpillBelow first_spill h
  kept_below at (Tmp k) kept = tt
  kept_below at (Reg r) kept = tt
  kept_below at (Spill k) kept = named_below first_spill kept.2.operands (Spill k) (inst_below kept.0 kept.1 kept.2 kept.3) kept.4

  module _ (block place : ℕ) (i : AirInst) (at : StandsAt p block place i) where
    target_below : (h : Home) → IsTarget h (targets i.operands) → IsSpillBelow first_spill h
    target_below h is = named_below first_spill i.operands h (inst_below block place i at) (target_is_named i.operands h is)

    -- what is written becomes a home that is kept only by a copy of it
    apart : (x y : Home) → IsTarget x (targets i.operands) → IsKeptAfter p (spot block place) y → y ≢ x → (IsCopied i y x → ⊥) → home_by a y ≢ home_by a x
    apart x y is kept ne copied e =
        elim (become_one a y x (kept_below kept.0 y kept.2) (target_below x is) e) [
          | inl same ↦ ne same
          | inr one ↦
              writes_apart p a block place i good proper at x y one.0 is kept (λ same. ne (sym same)) copied one.2 one.1
        ]

    pub is_apart : (kind_of i.op ≡ Copies → ⊥) → IsApart (home_by a) (IsKeptAfter p (spot block place)) (targets i.operands)
    is_apart none x y is kept ne = apart x y is kept ne (λ copied. none copied.0)

    pub are_fine : (cs : List Copy) → ToDiffer cs
        → ((from to : Home) → IsTarget to (targets (copy_operands cs)) → IsPair i.operands from to → IsPair (copy_operands cs) from to)
        → ((to : Home) → IsTarget to (targets (copy_operands cs)) → IsTarget to (targets i.operands))
        → AreFine (home_by a) (IsKeptAfter p (spot block place)) cs
    unfolding copy_operands targets IsTarget IsPair ToDiffer
    are_fine [] differ whole w = tt
    are_fine (c ∷ cs) differ whole w = (
      differ.0,
      λ y kept ne other.
          apart c.to y (w c.to (inl refl)) kept ne (λ copied.
          elim (whole y c.to (inl refl) copied.1) [ inl pair ↦ other pair.0 | inr pair ↦ differ.0 (pair_to y c.to cs pair) ]),
      are_fine cs differ.1
          (λ from to t pair. elim (whole from to (inr t) pair) [
            | inl here ↦ absurd (differ.0 (let same : c.to ≡ to = cc in subst (λ (x : Home). IsTarget x (targets (copy_operands cs))) (sym same) t))
            | inr there ↦ there
          ])
          (λ to t. w to (inr t)),
    )

    -- two homes that are written stand apart
    pub written_apart : (x y : Home) → IsTarget x (targets i.operands) → IsTarget y (targets i.operands) → x ≢ y → home_by a x ≢ home_by a y
    written_apart x y is_x is_y ne e =
        let is_defined = defined p a block place i good proper at in
        elim (become_one a x y (target_below x is_x) (target_below y is_y) e) [
          | inl same ↦ ne same
          | inr one ↦
              proper.apart x y one.0
              (ne, inr (spot block place, i, at, inl (is_defined x one.0 is_x one.1, inr (inr (inr (is_defined y one.0 is_y one.2)))))) one.1 one.2
        ]
