-- The sites of emitted code: which instruction of Air makes one, where its words stand, and what stands in the code where it
-- begins.
use Rattle.std.specs.Prelude.{◌≡◌, ℕ, ◌+◌, ◌^◌, ◌<◌, ◌≤◌, ◌↔◌, Bool, true, if◌then◌else◌, List, [], ◌∷◌, Some, None, slice_get, Contains}
use Rattle.b3_base.specs.declared.word.Width.{Width}
use Rattle.stackmap.specs.Registers.{has}
use Rattle.stackmap.specs.declared.site.Place.{Place}
use Rattle.stackmap.specs.declared.site.Rep.{Rep}
use Rattle.stackmap.specs.declared.site.Rep.TheVariants as rep
use Rattle.stackmap.specs.declared.site.Site.{Site}
use Rattle.stackmap.specs.declared.site.SiteKind.{SiteKind}
use Rattle.stackmap.specs.declared.site.SiteKind.TheVariants as site_kind
use Rattle.a64_inst.specs.declared.inst.BranchKind.TheVariants.{Blr}
use Rattle.a64_inst.specs.declared.inst.Inst.{Inst}
use Rattle.a64_inst.specs.declared.inst.Inst.TheVariants.{Access, AccessIndex, AccessNear, BranchReg, Break}
use Rattle.a64_inst.specs.declared.item.Item.{Item}
use Rattle.a64_inst.specs.declared.item.Item.TheVariants.{Plain}
use Rattle.air_ir.specs.Forms.{OfCall, SiteFits, SiteOperands, call_clobbers, listed}
use Rattle.air_ir.specs.Kinds.{Kind, Calls, Checks, ChecksResult, Loads, Patches, Stores, kind_of, makes_site}
use Rattle.air_ir.specs.SitesInPlaces.{IsSiteFrom}
use Rattle.air_ir.specs.WellFormed.{StandsAt}
use Rattle.air_ir.specs.declared.frame.Frame.{Frame}
use Rattle.air_ir.specs.declared.operand.Arg.{Arg}
use Rattle.air_ir.specs.declared.operand.Arg.TheVariants.{At, Imm}
use Rattle.air_ir.specs.declared.operand.Home.TheVariants.{Reg, Spill}
use Rattle.air_ir.specs.declared.operand.Operand.{Operand}
use Rattle.air_ir.specs.declared.procedure.AirInst.{AirInst}
use Rattle.air_ir.specs.declared.procedure.AirProc.{AirProc}

-- ---- places

-- where the word of an argument stands: in its register, in the frame where it is a spill place, or nowhere
abbrev pub IsRepIn : Frame → Arg → Rep → Type 0
IsRepIn f (At (Reg reg)) where_ = where_ ≡ rep.Register reg
IsRepIn f (At (Spill n)) where_ = (offset : ℕ) × (slice_get f.spills n ≡ Some offset) × (where_ ≡ rep.Slot offset)
IsRepIn f (Imm word) where_ = where_ ≡ rep.Constant word
IsRepIn f _ where_ = ⊥

-- a place for each operand, in order, at its width
unfoldable pub ArePlacesOf : Frame → List Operand → List Place → Type 0
ArePlacesOf f [] [] = Unit {0}
ArePlacesOf f (o ∷ os) (place ∷ places) =
    (place.width ≡ o.width) × IsRepIn f o.arg place.rep × ArePlacesOf f os places
ArePlacesOf f _ _ = ⊥

-- ---- sites of instructions

-- an access that traps reports nothing and changes nothing
pub record IsTrapOf (i : AirInst) (site : Site) : Type 0 where
  pub kind : site.kind ≡ site_kind.Trap
  pub size : site.size ≡ 1
  pub reports : site.reps ≡ []
  pub result : site.result ≡ None
  pub clobbers : site.clobbers ≡ 0

-- the places of arguments, from this register on
abbrev pub argument_places : ℕ → List Width → List Place
argument_places r [] = []
argument_places r (width ∷ widths) =
    record { width = width; rep = rep.Register (record { 0 = r }) } ∷ argument_places (r + 1) widths

-- a call reports its arguments, at most eight, in x0 and on, answers in x0 where it is typed, and may change what a callee
-- may (AAPCS64, 6.1.1)
pub record IsCallOf (typed : Bool) (i : AirInst) (site : Site) : Type 0 where
  pub kind : site.kind ≡ site_kind.Call
  pub size : site.size ≡ 1
  pub operands : OfCall typed i.operands
  pub reports : site.reps ≡ argument_places 0 operands.widths
  pub result : site.result ≡ (if typed then Some (operands.width, record { 0 = 0 }) else None)
  pub clobbers : (r : ℕ) → (has site.clobbers r ≡ true) ↔ Contains call_clobbers r

-- a patchpoint or a check reports its reported operands
pub record IsStackmapOf (f : Frame) (i : AirInst) (site : Site) : Type 0 where
  pub parts : SiteOperands
  pub operands : i.operands ≡ listed parts
  pub fits : SiteFits i.op parts
  pub from : IsSiteFrom i parts site
  pub places : ArePlacesOf f parts.reported site.reps

abbrev pub IsSiteBy : Kind → Frame → AirInst → Site → Type 0
IsSiteBy (Loads extent extends) f i site = IsTrapOf i site
IsSiteBy (Stores extent) f i site = IsTrapOf i site
IsSiteBy (Calls typed) f i site = IsCallOf typed i site
IsSiteBy (Patches typed) f i site = IsStackmapOf f i site
IsSiteBy (Checks test) f i site = IsStackmapOf f i site
IsSiteBy (ChecksResult checked) f i site = IsStackmapOf f i site
IsSiteBy _ f i site = ⊥

-- the site of an instruction of a procedure: its value's id, a number of 32 bits, and what the op says of it
pub record IsSiteIn (p : AirProc) (f : Frame) (site : Site) : Type 0 where
  pub block : ℕ
  pub place : ℕ
  pub inst : AirInst
  pub there : StandsAt p block place inst
  pub makes : makes_site (kind_of inst.op) inst.traps ≡ true
  pub value : site.value ≡ inst.value
  pub small : site.value < 2 ^ 32
  pub is : IsSiteBy (kind_of inst.op) f inst site

-- ---- what stands in the code

abbrev pub IsPlain : List Item → ℕ → Inst → Type 0
IsPlain code k inst = slice_get code k ≡ Some (Plain inst)

abbrev pub IsAccess : Inst → Type 0
IsAccess (Access kind rt rn units) = Unit {0}
IsAccess (AccessNear kind rt rn offset) = Unit {0}
IsAccess (AccessIndex load rt rn rm scaled) = Unit {0}
IsAccess _ = ⊥

-- what stands at an item where a site begins: a BLR, words that are filled in later, the break of an exit, or an access
abbrev pub SuitsItems : List Item → SiteKind → ℕ → ℕ → Type 0
SuitsItems code site_kind.Call size k = (rn : ℕ) × (rn ≤ 30) × IsPlain code k (BranchReg Blr rn)
SuitsItems code site_kind.Patchpoint size k = (i : ℕ) → i < size → IsPlain code (k + i) (Break 2)
SuitsItems code site_kind.Exit size k = IsPlain code k (Break 1)
SuitsItems code site_kind.Trap size k = (inst : Inst) × IsPlain code k inst × IsAccess inst
