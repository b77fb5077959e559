-- What is kept before and after the instructions of a well-formed procedure.
use Rattle.std.proofs.Common.{◌≡◌, ℕ, ◌+◌, inl, inr, Some, List, [], ◌∷◌, length, arith, refl, ap, subst}
use Rattle.std.specs.Prelude.{slice_get}
use Rattle.std.proofs.lemmas.Option.{get_or_from_slice_get, slice_get_within}
use Rattle.flow_live.specs.Graph.{Defines, IsDefOf, IsUseOf, Uses}
use Rattle.flow_live.specs.declared.touch.Touch.{Touch}
use Rattle.flow_live.specs.declared.touch.Touch.TheVariants as touch
use Rattle.air_ir.specs.Blocks.{block_of}
use Rattle.air_ir.specs.Operands.{targets}
use Rattle.air_ir.specs.Related.{Flows, IsTarget, IsUsed}
use Rattle.air_ir.specs.WellFormed.{IsWellFormed, StandsAt}
use Rattle.air_ir.specs.declared.operand.Home.{Home}
use Rattle.air_ir.specs.declared.operand.Home.TheVariants.{Tmp, Reg, Spill}
use Rattle.air_ir.specs.declared.procedure.AirBlock.{AirBlock}
use Rattle.air_ir.specs.declared.procedure.AirInst.{AirInst}
use Rattle.air_ir.specs.declared.procedure.AirProc.{AirProc}
use Rattle.air_flow.specs.Flow.{flow_of, touches_at, touches_of}
use Rattle.air_flow.specs.Living.{HasName, IsKept, IsKeptAfter, IsLive, IsLiveAfter, IsOf, KeepsOn}
use Rattle.air_flow.proofs.Among.{Among, among_index, index_among}
use Rattle.air_flow.proofs.Lives.{spot, there}
use Rattle.air_flow.proofs.Names.{block_is, named_of, owns_of, same_name, touches_are}
use Rattle.air_flow.proofs.Touching.{defined_is_target, target_is_named, used_is_named, used_is_touched}

module _ (p : AirProc) (block place : ℕ) (i : AirInst) (good : IsWellFormed p) (at : StandsAt p block place i) where
  -- a home that is read is live
  used_lives : (h : Home) (n : ℕ) → HasName p h n → IsUsed h i.operands → IsLive p (spot block place) h
  used_lives h n has used =
      let touched : Among (λ (t : Touch). IsUseOf t n) (touches_at p block place) =
      rw (touches_are p block place i at) (used_is_touched p.tmps i.operands h n has.1 used) in
      let uses : Uses (flow_of p) n (spot block place) =
      (there p block place i at, index_among (λ (t : Touch). IsUseOf t n) (touches_at p block place) (touch.Use 0) touched) in
      (n, has, record { path = []; is_path = tt; ends = uses })

  used_of : (h : Home) → IsUsed h i.operands → IsOf p h
  used_of h used = named_of p i.operands h (owns_of p block place i good at) (used_is_named i.operands h used)

  -- what an instruction defines it writes
  not_defined : (h : Home) (n : ℕ) → HasName p h n → (IsTarget h (targets i.operands) → ⊥) → Defines (flow_of p) n (spot block place) → ⊥
  not_defined h n has none d =
      let touched : Among (λ (t : Touch). IsDefOf t n) (touches_at p block place) =
      among_index (λ (t : Touch). IsDefOf t n) (touches_at p block place) (touch.Use 0) d.1.0 d.1.1 d.1.2 in
      let here : Among (λ (t : Touch). IsDefOf t n) (touches_of p.tmps i.operands) =
      subst (λ (ts : List Touch). Among (λ (t : Touch). IsDefOf t n) ts) (touches_are p block place i at) touched in
      let w = defined_is_target p.tmps i.operands n here in
      let own : IsOf p w.0 = named_of p i.operands w.0 (owns_of p block place i good at) (target_is_named i.operands w.0 w.1) in
      none (subst (λ (g : Home). IsTarget g (targets i.operands)) (same_name p w.0 h n (own, w.2) has) w.1)

  lives_through : (h : Home) → IsLiveAfter p (spot block place) h → (IsTarget h (targets i.operands) → ⊥) → IsLive p (spot block place) h
  lives_through h (next, follows, (n, has, live)) none =
      (n, has, record { path = next ∷ live.path; is_path = (follows, live.is_path); ends = (not_defined h n has none, live.ends) })

  pub keep_uses : Flows (IsKept p (spot block place)) (IsKeptAfter p (spot block place)) i.operands
  keep_uses = record { uses = uses; through = through }
    where
      uses : (h : Home) → IsUsed h i.operands → IsKept p (spot block place) h
      uses (Tmp k) used = used_lives (Tmp k) k (used_of (Tmp k) used, refl) used
      uses (Reg r) used = used_lives (Reg r) (p.tmps + r.0) (used_of (Reg r) used, refl) used
      uses (Spill k) used = (block, place, i, at, used_is_named i.operands (Spill k) used)

      through : (h : Home) → IsKeptAfter p (spot block place) h → (IsTarget h (targets i.operands) → ⊥) → IsKept p (spot block place) h
      through (Tmp k) after none = lives_through (Tmp k) after none
      through (Reg r) after none = lives_through (Reg r) after none
      through (Spill k) after none = after.2

pub keep_on : (p : AirProc) (block place : ℕ) (of : AirBlock) → slice_get p.blocks block ≡ Some of → KeepsOn p block place of
keep_on p block place of e =
    let same : block_of p block ≡ of = block_is p block of e in
    let count : (flow_of p).places block ≡ length of.insts = ap (λ (b : AirBlock). length b.insts) same in
    let targets_are : (block_of p block).targets ≡ of.targets = ap (λ (b : AirBlock). b.targets) same in
    record {
      next = λ home lt kept. (spot block (place + 1), inl (omega (arith, lt, count), refl, refl), kept);
      target = λ home k target last is kept. (
        spot target 0,
        inr (
          omega (arith, last, count),
          (
            k,
            rw targets_are (slice_get_within of.targets k target is),
            rw targets_are (get_or_from_slice_get of.targets k target 0 is),
          ),
          refl,
        ),
        kept,
      );
    }
