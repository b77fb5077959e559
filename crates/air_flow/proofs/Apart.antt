-- What a proper assignment keeps apart.
use Rattle.std.proofs.Common.{◌≡◌, ◌≢◌, ℕ, ◌+◌, inl, inr, Option, Some, None, [], get_or, replicate, ap, arith, refl}
use Rattle.std.proofs.lemmas.Bool.{cases_lt}
use Rattle.std.proofs.lemmas.List.{get_or-replicate, get_or_past, length-replicate}
use Rattle.std.proofs.lemmas.Option.{get_or_from_slice_get}
use Rattle.b3_ir.specs.declared.value.Reg.{Reg as Register}
use Rattle.flow_live.specs.declared.touch.Touch.TheVariants as touch
use Rattle.air_ir.specs.Operands.{targets}
use Rattle.air_ir.specs.Related.{IsTarget}
use Rattle.air_ir.specs.WellFormed.{IsWellFormed, StandsAt}
use Rattle.air_ir.specs.declared.assignment.Assignment.{Assignment}
use Rattle.air_ir.specs.declared.operand.Home.{Home}
use Rattle.air_ir.specs.declared.operand.Home.TheVariants.{Tmp, Reg, Spill}
use Rattle.air_ir.specs.declared.procedure.AirInst.{AirInst}
use Rattle.air_ir.specs.declared.procedure.AirProc.{AirProc}
use Rattle.air_flow.specs.Flow.{touches_of}
use Rattle.air_flow.specs.Interfere.{Interfere, IsCopied}
use Rattle.air_flow.specs.Living.{IsDefinedBy, IsKeptAfter, IsLiveAfter, IsOf}
use Rattle.air_flow.specs.Proper.{IsProper, register_of}
use Rattle.air_flow.proofs.Among.{contains_among}
use Rattle.air_flow.proofs.Lives.{spot}
use Rattle.air_flow.proofs.Names.{named_of, owns_of}
use Rattle.air_flow.proofs.Touching.{target_is_defined, target_is_named}

abbrev pub all_spilled : ℕ → Assignment
all_spilled tmps = record { homes = replicate tmps None; joins = [] }

abbrev nothing : Option Register
nothing = None

-- none of the temporaries has a register
none_there : (tmps number : ℕ) → get_or (replicate tmps nothing) number None ≡ None
none_there tmps number = elim (cases_lt number tmps) [
  | inl lt ↦ get_or-replicate tmps number None None lt
  | inr ge ↦ get_or_past (replicate tmps None) number None (omega (arith, ge, length-replicate tmps nothing))
]

pub spilled : (p : AirProc) → IsProper p (all_spilled p.tmps)
spilled p = record {
  tmps = length-replicate p.tmps None;
  registers = λ number reg e.
      let some : get_or (replicate p.tmps nothing) number None ≡ Some reg = get_or_from_slice_get (replicate p.tmps None) number (Some reg) None e in
      let none = none_there p.tmps number in
      absurd (cc);
  apart = apart;
}
  where
    apart : (x y : Home) (reg : Register) → Interfere p x y → register_of (all_spilled p.tmps) x ≡ Some reg
        → register_of (all_spilled p.tmps) y ≡ Some reg → ⊥
    apart (Tmp a) y reg meet e f = let none = none_there p.tmps a in cc
    apart (Spill a) y reg meet e f = cc
    apart (Reg r) (Tmp b) reg meet e f = let none = none_there p.tmps b in cc
    apart (Reg r) (Spill b) reg meet e f = cc
    apart (Reg r) (Reg s) reg meet e f = meet.0 (let same : r ≡ s = cc in ap Reg same)

module _ (p : AirProc) (a : Assignment) (block place : ℕ) (i : AirInst) (good : IsWellFormed p) (proper : IsProper p a) (at : StandsAt p block place i) where
  own : (x : Home) → IsTarget x (targets i.operands) → IsOf p x
  own x is = named_of p i.operands x (owns_of p block place i good at) (target_is_named i.operands x is)

  pub defined : (x : Home) (reg : Register) → IsTarget x (targets i.operands) → register_of a x ≡ Some reg → IsDefinedBy p i x
  defined (Tmp k) reg is e = (
    k,
    (own (Tmp k) is, refl),
    contains_among (touch.Def k) (touches_of p.tmps i.operands)
        (target_is_defined p.tmps i.operands (Tmp k) k refl is),
  )
  defined (Reg r) reg is e = (
    p.tmps + r.0,
    (own (Reg r) is, refl),
    contains_among (touch.Def (p.tmps + r.0)) (touches_of p.tmps i.operands)
        (target_is_defined p.tmps i.operands (Reg r) (p.tmps + r.0) refl is),
  )
  defined (Spill k) reg is e = absurd (cc)

  lives : (y : Home) (reg : Register) → IsKeptAfter p (spot block place) y → register_of a y ≡ Some reg → IsLiveAfter p (spot block place) y
  lives (Tmp k) reg kept e = kept
  lives (Reg r) reg kept e = kept
  lives (Spill k) reg kept e = absurd (cc)

  pub writes_apart : (x y : Home) (reg : Register) → IsTarget x (targets i.operands) → IsKeptAfter p (spot block place) y → x ≢ y
      → (IsCopied i y x → ⊥) → register_of a x ≡ Some reg → register_of a y ≡ Some reg → ⊥
  writes_apart x y reg is kept differ copied e f =
      proper.apart x y reg (differ, inr (spot block place, i, at, inl (defined x reg is e, inl (lives y reg kept f, copied)))) e f
