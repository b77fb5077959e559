-- The names of homes, and where instructions stand.
use Rattle.std.proofs.Common.{◌≡◌, ℕ, ◌+◌, ◌<◌, inl, inr, Option, Some, None, List, [], ◌∷◌, get_or, arith, refl, sym, ap, ◌∙◌, subst}
use Rattle.std.specs.Prelude.{All, slice_get}
use Rattle.std.specs.List.{cons_option, filter_map}
use Rattle.std.proofs.lemmas.List.{get_or-map, length-map}
use Rattle.std.proofs.lemmas.List.Elements.{All-append, All-cons, All-head, All-map, All-nil, All-tail, All-weaker}
use Rattle.std.proofs.lemmas.Option.{get_or_from_slice_get, slice_get_within}
use Rattle.flow_live.specs.Graph.{IsInRange, name_of as name_in}
use Rattle.flow_live.specs.declared.touch.Touch.{Touch}
use Rattle.flow_live.specs.declared.touch.Touch.TheVariants as touch
use Rattle.air_ir.specs.Blocks.{block_of}
use Rattle.air_ir.specs.Related.{IsOneOf, homes_of}
use Rattle.air_ir.specs.WellFormed.{IsGoodBlock, IsGoodInst, IsWellFormed, MayName, NamesOwn, StandsAt}
use Rattle.air_ir.specs.declared.operand.Arg.{Arg}
use Rattle.air_ir.specs.declared.operand.Arg.TheVariants.{At, Imm, Addr, Index, FrameSlot}
use Rattle.air_ir.specs.declared.operand.Home.{Home}
use Rattle.air_ir.specs.declared.operand.Home.TheVariants.{Tmp, Reg, Spill}
use Rattle.air_ir.specs.declared.operand.Operand.{Operand}
use Rattle.air_ir.specs.declared.operand.Role.{Role}
use Rattle.air_ir.specs.declared.operand.Role.TheVariants.{Use, LateUse, EarlyDef, Def, Clobber}
use Rattle.air_ir.specs.declared.procedure.AirBlock.{AirBlock}
use Rattle.air_ir.specs.declared.procedure.AirInst.{AirInst}
use Rattle.air_ir.specs.declared.procedure.AirProc.{AirProc}
use Rattle.air_flow.specs.Flow.{block_touches, flow_of, inst_touches, name_of, operand_touches, touch_as, touches_at, touches_of}
use Rattle.air_flow.specs.Living.{HasName, IsNamedIn, IsOf}

-- what holds of each element holds of the one at a place
pub all_at : {X : Type 0} (P : X → Type 0) (xs : List X) (k : ℕ) (x : X) → All P xs → slice_get xs k ≡ Some x → P x
all_at P xs k x all e = subst P (get_or_from_slice_get xs k x x e) (all k x (slice_get_within xs k x e))

module _ (p : AirProc) where
  -- no two homes have one name
  pub same_name : (h g : Home) (n : ℕ) → HasName p h n → HasName p g n → h ≡ g
  same_name (Tmp a) (Tmp b) n (x, e) (y, f) = let same : a ≡ b = cc in ap Tmp same
  same_name (Tmp a) (Reg b) n (x, e) (y, f) = let same : a ≡ p.tmps + b.0 = cc in absurd (omega (arith, x, same))
  same_name (Reg a) (Tmp b) n (x, e) (y, f) = let same : b ≡ p.tmps + a.0 = cc in absurd (omega (arith, y, same))
  same_name (Reg a) (Reg b) n (x, e) (y, f) =
      let sums : p.tmps + a.0 ≡ p.tmps + b.0 = cc in
      let same : a.0 ≡ b.0 = omega (arith, sums) in
      ap (λ (r : ℕ). Reg (record { 0 = r })) same
  same_name (Spill a) g n (x, e) (y, f) = absurd (cc)
  same_name (Tmp a) (Spill b) n (x, e) (y, f) = absurd (cc)
  same_name (Reg a) (Spill b) n (x, e) (y, f) = absurd (cc)

  -- a name is below the number of names
  name_below : (h : Home) (n : ℕ) → HasName p h n → n < p.tmps + 31
  name_below (Tmp a) n (x, e) = let same : a ≡ n = cc in omega (arith, x, same)
  name_below (Reg a) n (x, e) = let same : p.tmps + a.0 ≡ n = cc in omega (arith, x, same)
  name_below (Spill a) n (x, e) = absurd (cc)

  -- the homes that the instructions of a well-formed procedure name are its own
  may_of : (role : Role) (h : Home) → MayName p role h → IsOf p h
  may_of role (Tmp n) may = may
  may_of EarlyDef (Reg r) may = may.0
  may_of Clobber (Reg r) may = may.0
  may_of Use (Reg r) (inl low) = omega (arith, low)
  may_of Use (Reg r) (inr high) = omega (arith, high.1)
  may_of LateUse (Reg r) (inl low) = omega (arith, low)
  may_of LateUse (Reg r) (inr high) = omega (arith, high.1)
  may_of Def (Reg r) (inl low) = omega (arith, low)
  may_of Def (Reg r) (inr high) = omega (arith, high.1)
  may_of role (Spill n) may = tt

  one_of : (role : Role) (h g : Home) → MayName p role g → h ≡ g → IsOf p h
  one_of role h g may e = subst (IsOf p) (sym e) (may_of role g may)

  own_of : (role : Role) (arg : Arg) (h : Home) → NamesOwn p role arg → IsOneOf h (homes_of arg) → IsOf p h
  unfolding IsOneOf
  own_of role (At home) h own (inl e) = one_of role h home own e
  own_of role (At home) h own (inr none) = absurd none
  own_of role (Imm word) h own is = absurd is
  own_of role (Addr base offset) h own (inl e) = one_of role h base own e
  own_of role (Addr base offset) h own (inr none) = absurd none
  own_of role (Index base index shift) h own (inl e) = one_of role h base own.0 e
  own_of role (Index base index shift) h own (inr (inl e)) = one_of role h index own.1 e
  own_of role (Index base index shift) h own (inr (inr none)) = absurd none
  own_of role (FrameSlot number) h own is = absurd is

  abbrev pub AllOwn : List Operand → Type 0
  AllOwn os = All (λ (o : Operand). NamesOwn p o.role o.arg) os

  pub named_of : (os : List Operand) (h : Home) → AllOwn os → IsNamedIn h os → IsOf p h
  unfolding IsNamedIn
  named_of [] h own is = absurd is
  named_of (o ∷ os) h own (inl is) = own_of o.role o.arg h (All-head (λ (o : Operand). NamesOwn p o.role o.arg) o os own) is
  named_of (o ∷ os) h own (inr is) = named_of os h (All-tail (λ (o : Operand). NamesOwn p o.role o.arg) o os own) is

  -- their touches are in range
  put_below : (h : Home) (x : Option ℕ) (ns : List ℕ) → IsOf p h → name_of p.tmps h ≡ x → All (λ (n : ℕ). n < p.tmps + 31) ns
      → All (λ (n : ℕ). n < p.tmps + 31) (cons_option x ns)
  put_below h (Some n) ns own e all = All-cons (λ (n : ℕ). n < p.tmps + 31) n ns (name_below h n (own, e)) all
  put_below h None ns own e all = all

  names_below : (hs : List Home) → ((h : Home) → IsOneOf h hs → IsOf p h) → All (λ (n : ℕ). n < p.tmps + 31) (filter_map (name_of p.tmps) hs)
  unfolding IsOneOf
  names_below [] own = All-nil (λ (n : ℕ). n < p.tmps + 31)
  names_below (h ∷ hs) own =
      put_below h (name_of p.tmps h) (filter_map (name_of p.tmps) hs) (own h (inl refl)) refl (names_below hs (λ g is. own g (inr is)))

  written_name : (role : Role) (arg : Arg) (n : ℕ) → n < p.tmps + 31 → name_in (touch_as role arg n) < p.tmps + 31
  written_name Use arg n lt = lt
  written_name LateUse arg n lt = lt
  written_name EarlyDef (At home) n lt = lt
  written_name EarlyDef (Imm word) n lt = lt
  written_name EarlyDef (Addr base offset) n lt = lt
  written_name EarlyDef (Index base index shift) n lt = lt
  written_name EarlyDef (FrameSlot number) n lt = lt
  written_name Def (At home) n lt = lt
  written_name Def (Imm word) n lt = lt
  written_name Def (Addr base offset) n lt = lt
  written_name Def (Index base index shift) n lt = lt
  written_name Def (FrameSlot number) n lt = lt
  written_name Clobber (At home) n lt = lt
  written_name Clobber (Imm word) n lt = lt
  written_name Clobber (Addr base offset) n lt = lt
  written_name Clobber (Index base index shift) n lt = lt
  written_name Clobber (FrameSlot number) n lt = lt

  abbrev IsBelow : Touch → Type 0
  IsBelow t = name_in t < p.tmps + 31

  touches_below : (os : List Operand) → AllOwn os → All IsBelow (touches_of p.tmps os)
  touches_below [] own = All-nil IsBelow
  touches_below (o ∷ os) own =
      All-append IsBelow (operand_touches p.tmps o) (touches_of p.tmps os)
      (All-map IsBelow (touch_as o.role o.arg) (filter_map (name_of p.tmps) (homes_of o.arg))
      (All-weaker (λ (n : ℕ). n < p.tmps + 31) (λ n. IsBelow (touch_as o.role o.arg n)) (written_name o.role o.arg)
      (filter_map (name_of p.tmps) (homes_of o.arg))
      (names_below (homes_of o.arg) (λ h is. own_of o.role o.arg h (All-head (λ (o : Operand). NamesOwn p o.role o.arg) o os own) is))))
      (touches_below os (All-tail (λ (o : Operand). NamesOwn p o.role o.arg) o os own))

  block_below : (b : AirBlock) → IsGoodBlock p b → All (λ ts. All IsBelow ts) (block_touches p.tmps b)
  block_below b good =
      All-map (λ ts. All IsBelow ts) (inst_touches p.tmps) b.insts
      (All-weaker (IsGoodInst p) (λ i. All IsBelow (inst_touches p.tmps i)) (λ i is. touches_below i.operands is.names)
      b.insts good.insts)

  pub in_range : IsWellFormed p → IsInRange (flow_of p)
  in_range good = record {
    successor = λ block k lt lt'. ((good.blocks block (record { insts = []; targets = [] }) lt).targets k 0 lt').1;
    name = λ block place k lt lt' lt''.
        block_below (block_of p block) (good.blocks block (record { insts = []; targets = [] }) lt) place []
        (omega (arith, lt', length-map (block_of p block).insts (inst_touches p.tmps))) k (touch.Use 0) lt'';
  }

  -- ---- where an instruction stands

  pub block_is : (block : ℕ) (of : AirBlock) → slice_get p.blocks block ≡ Some of → block_of p block ≡ of
  block_is block of e = get_or_from_slice_get p.blocks block of (record { insts = []; targets = [] }) e

  pub touches_are : (block place : ℕ) (i : AirInst) → StandsAt p block place i → touches_at p block place ≡ touches_of p.tmps i.operands
  touches_are block place i at =
      ap (λ (b : AirBlock). get_or (block_touches p.tmps b) place []) (block_is block at.of at.block_there)
      ∙ get_or-map (inst_touches p.tmps) at.of.insts place i [] (slice_get_within at.of.insts place i at.inst_there)
      ∙ ap (inst_touches p.tmps) (get_or_from_slice_get at.of.insts place i i at.inst_there)

  pub owns_of : (block place : ℕ) (i : AirInst) → IsWellFormed p → StandsAt p block place i → AllOwn i.operands
  owns_of block place i good at =
      (all_at (IsGoodInst p) at.of.insts place i (all_at (IsGoodBlock p) p.blocks block at.of good.blocks at.block_there).insts at.inst_there).names
