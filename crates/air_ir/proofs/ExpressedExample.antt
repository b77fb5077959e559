-- No public clause cites this module. Instructions that are expressed for a patchpoint and for a check.
use Rattle.std.proofs.Common.{◌≡◌, ◌↔◌, ◌⊎◌, ◌+◌, ℕ, zero, suc, inl, inr, true, false, List, [], ◌∷◌, length, Option, Some, None, refl, ap, subst, arith, lit<, lit≤, slice_get, codes, Contains}
use Rattle.std.proofs.lemmas.Bool.{false≢true}
use Rattle.std.proofs.lemmas.List.Elements.{All-from_recursion}
use Rattle.std.proofs.lemmas.Nat.Bits.{bit_at-pow_other, bit_at-zero}
use Rattle.b3_base.specs.declared.word.Width.TheVariants.{W64}
use Rattle.b3_ir.specs.Procedure.{Procedure}
use Rattle.b3_ir.specs.Table.{row_of}
use Rattle.b3_ir.specs.declared.opcode.Opcode.{Opcode}
use Rattle.b3_ir.specs.declared.opcode.Opcode.TheVariants as opcode
use Rattle.b3_ir.specs.declared.opcode.Ty.TheVariants.{Int64}
use Rattle.b3_ir.specs.declared.value.Body.{Body}
use Rattle.b3_ir.specs.declared.value.Body.TheVariants.{Constant, Map}
use Rattle.b3_ir.specs.declared.value.Constraint.{Constraint}
use Rattle.b3_ir.specs.declared.value.Constraint.TheVariants.{LateColdAny, SomeRegister, SomeRegisterWithClobber}
use Rattle.b3_ir.specs.declared.value.Reg.{Reg as Register}
use Rattle.b3_ir.specs.declared.value.Stackmap.{Stackmap}
use Rattle.b3_ir.specs.declared.value.Value.{Value}
use Rattle.stackmap.specs.Registers.{allocatable, has}
use Rattle.stackmap.specs.declared.site.Place.{Place}
use Rattle.stackmap.specs.declared.site.Rep.{Rep}
use Rattle.stackmap.specs.declared.site.Rep.TheVariants as rep
use Rattle.stackmap.specs.declared.site.Site.{Site}
use Rattle.stackmap.specs.declared.site.SiteKind.TheVariants as kind
use Rattle.air_ir.specs.Expressed.{ClobbersIt, IsChild, IsExpressed, IsExpressedIn, IsExpressedInPlaces, IsPlace, IsTemporary}
use Rattle.air_ir.specs.Forms.{AllFit, IsChanged, IsReported, SiteFits, SiteOperands, operand_in}
use Rattle.air_ir.specs.SitesInPlaces.{IsRepOf, IsSiteFrom}
use Rattle.air_ir.specs.declared.op.AirOp.{AirOp}
use Rattle.air_ir.specs.declared.op.AirOp.TheVariants as op
use Rattle.air_ir.specs.declared.op.Test.TheVariants.{NonZero}
use Rattle.air_ir.specs.declared.operand.Home.{Home}
use Rattle.air_ir.specs.declared.operand.Home.TheVariants.{Tmp, Reg, Spill}
use Rattle.air_ir.specs.declared.operand.Arg.{Arg}
use Rattle.air_ir.specs.declared.operand.Arg.TheVariants.{At, Imm}
use Rattle.air_ir.specs.declared.operand.Role.TheVariants.{Use, LateUse, EarlyDef, Def, Clobber}
use Rattle.air_ir.specs.declared.operand.Operand.{Operand}
use Rattle.air_ir.specs.declared.procedure.AirInst.{AirInst}

abbrev value_of : ℕ → Opcode → List ℕ → Body → Value
value_of id opcode children body = record {
  id = id;
  ty = Int64;
  kind = record { opcode = opcode; chill = false; traps = false };
  children = children;
  body = body;
  line = 0;
}

-- a patchpoint of two children, one in some register that it changes, and one late anywhere
abbrev asked : Stackmap
asked = record { constraints = SomeRegisterWithClobber ∷ LateColdAny ∷ []; result = SomeRegister; early = 0; late = 0; size = 4 }

abbrev patchpoint : Value
patchpoint = value_of 3 opcode.Patchpoint (1 ∷ 2 ∷ []) (Map asked)

abbrev procedure : Procedure
procedure = record {
  name = codes "f";
  line = 0;
  slots = [];
  blocks = record { number = 0; line = 0; values = value_of 1 opcode.Const64 [] (Constant 77) ∷ value_of 2 opcode.Const64 [] (Constant 5) ∷ patchpoint ∷ [] } ∷ [];
}

-- the first child stands in x0, the second nowhere, since it is a constant, and the result in x1
abbrev constant : Operand
constant = record { role = LateUse; width = W64; arg = Imm 5 }

abbrev patch : AirInst
patch = record {
  op = op.Patch 4 true;
  operands = operand_in Use W64 0 ∷ constant ∷ operand_in EarlyDef W64 0 ∷ operand_in Def W64 1 ∷ [];
  value = 3;
  traps = false;
}

abbrev reported : List Operand
reported = operand_in Use W64 0 ∷ constant ∷ []

abbrev changed : List Operand
changed = operand_in EarlyDef W64 0 ∷ []

children : (Free : Home → Type 0) (k id : ℕ) (c : Constraint) (o : Operand) → slice_get (1 ∷ 2 ∷ []) (length (row_of opcode.Patchpoint).takes + k) ≡ Some id
    → slice_get asked.constraints k ≡ Some c → slice_get reported k ≡ Some o → IsChild Free procedure patchpoint k id c o
unfolding allocatable
children Free zero id c o e f g =
    let i : 1 ≡ id = cc in
    let d : SomeRegisterWithClobber ≡ c = cc in
    let p : operand_in Use W64 0 ≡ o = cc in
    subst (λ (n : ℕ). IsChild Free procedure patchpoint 0 n c o) i
    (subst (λ (b : Constraint). IsChild Free procedure patchpoint 0 1 b o) d
    (subst (λ (q : Operand). IsChild Free procedure patchpoint 0 1 SomeRegisterWithClobber q) p (record { role = refl; width = refl; stands = refl })))
children Free (suc zero) id c o e f g =
    let i : 2 ≡ id = cc in
    let d : LateColdAny ≡ c = cc in
    let p : constant ≡ o = cc in
    subst (λ (n : ℕ). IsChild Free procedure patchpoint 1 n c o) i
    (subst (λ (b : Constraint). IsChild Free procedure patchpoint 1 2 b o) d
    (subst (λ (q : Operand). IsChild Free procedure patchpoint 1 2 LateColdAny q) p
    (record { role = refl; width = refl; stands = (value_of 2 opcode.Const64 [] (Constant 5), refl, (inr refl, refl)) })))
children Free (suc (suc k)) id c o e f g = absurd (cc)

has_none : (r : ℕ) → has 0 r ≡ true → ⊥
has_none r e = false≢true (rw (bit_at-zero r) at e)

abbrev register : ℕ → Register
register r = record { 0 = r }

abbrev number_in : Arg → ℕ
number_in (At (Reg reg)) = reg.0
number_in _ = 0

abbrev number_of : Option Register → ℕ
number_of (Some reg) = reg.0
number_of None = 0

clobbered : (r : ℕ) → Contains changed (operand_in EarlyDef W64 r) → ClobbersIt asked patchpoint r
unfolding allocatable
clobbered r (zero, less, e) = let same : 0 ≡ r = ap (λ (o : Operand). number_in o.arg) e in subst (λ (q : ℕ). ClobbersIt asked patchpoint q) same (0, refl, refl)
clobbered r (suc k, less, e) = absurd (omega (arith, less))

changed_there : (r : ℕ) → ClobbersIt asked patchpoint r → Contains changed (operand_in EarlyDef W64 r)
unfolding allocatable
changed_there r (zero, e, f) =
    let same : 0 ≡ r = ap number_of f in
    subst (λ (q : ℕ). Contains changed (operand_in EarlyDef W64 q)) same (0, lit< tt, refl)
changed_there r (suc zero, e, f) = absurd (cc)
changed_there r (suc (suc k), e, f) = absurd (cc)

not_clobbered : (r : ℕ) → Contains changed (operand_in Clobber W64 r) → ⊥
not_clobbered r (zero, less, e) = let roles : EarlyDef ≡ Clobber = ap (λ (o : Operand). o.role) e in absurd (cc)
not_clobbered r (suc k, less, e) = omega (arith, less)

abbrev site : SiteOperands
site = record { inputs = []; reported = reported; changed = changed; results = operand_in Def W64 1 ∷ [] }

site_fits : SiteFits patch.op site
unfolding AllFit
site_fits = record {
  width = W64;
  fits = tt;
  reports = All-from_recursion IsReported reported ((inl refl, tt), ((inr refl, (lit< tt, tt)), tt));
  changes = All-from_recursion IsChanged changed ((0, inl refl), tt);
  result = (1, inl (lit≤ tt), inr refl);
}

-- the same at any homes of children that may stand anywhere, since here none has one
expressed_in : (Free : Home → Type 0) → IsExpressedIn Free procedure patchpoint patch
unfolding allocatable
expressed_in Free = record {
  value = refl;
  stackmap = asked;
  carries = refl;
  op = (refl, refl, refl);
  site = site;
  parts = refl;
  fits = site_fits;
  count = refl;
  children = children Free;
  early = λ r. (λ c. inr (clobbered r c), λ either. elim either [ inl e ↦ absurd (has_none r e) | inr c ↦ changed_there r c ]);
  late = λ r. (λ c. absurd (not_clobbered r c), λ e. absurd (has_none r e));
  result = λ e. refl;
}

patch_is_expressed : IsExpressed procedure patchpoint patch
patch_is_expressed = expressed_in IsTemporary

patch_is_placed : IsExpressedInPlaces procedure patchpoint patch
patch_is_placed = expressed_in IsPlace

-- ---- a check of the second value, a constant, that reports it, and then the first one, wherever that stands

abbrev exit_asked : Stackmap
exit_asked = record { constraints = LateColdAny ∷ LateColdAny ∷ []; result = SomeRegister; early = 0; late = 0; size = 1 }

abbrev check : Value
check = value_of 4 opcode.Check (2 ∷ 2 ∷ 1 ∷ []) (Map exit_asked)

abbrev test : AirOp
test = op.CheckIf NonZero

abbrev tested : Operand
tested = record { role = Use; width = W64; arg = At (Tmp 2) }

abbrev late_at : Home → Operand
late_at h = record { role = LateUse; width = W64; arg = At h }

abbrev check_at : Home → AirInst
check_at h = record { op = test; operands = tested ∷ constant ∷ late_at h ∷ []; value = 4; traps = false }

module _ (Free : Home → Type 0) (h : Home) (free : Free h) where
  check_children : (k id : ℕ) (c : Constraint) (o : Operand)
      → slice_get (2 ∷ 2 ∷ 1 ∷ []) (length (row_of opcode.Check).takes + k) ≡ Some id → slice_get exit_asked.constraints k ≡ Some c → slice_get (constant ∷ late_at h ∷ []) k ≡ Some o → IsChild Free procedure check k id c o
  check_children zero id c o e f g =
      let i : 2 ≡ id = cc in
      let d : LateColdAny ≡ c = cc in
      let p : constant ≡ o = cc in
      subst (λ (n : ℕ). IsChild Free procedure check 0 n c o) i
      (subst (λ (b : Constraint). IsChild Free procedure check 0 2 b o) d
      (subst (λ (q : Operand). IsChild Free procedure check 0 2 LateColdAny q) p
      (record { role = refl; width = refl; stands = (value_of 2 opcode.Const64 [] (Constant 5), refl, (inr refl, refl)) })))
  check_children (suc zero) id c o e f g =
      let i : 1 ≡ id = cc in
      let d : LateColdAny ≡ c = cc in
      let p : late_at h ≡ o = cc in
      subst (λ (n : ℕ). IsChild Free procedure check 1 n c o) i
      (subst (λ (b : Constraint). IsChild Free procedure check 1 1 b o) d
      (subst (λ (q : Operand). IsChild Free procedure check 1 1 LateColdAny q) p (record { role = refl; width = refl; stands = free })))
  check_children (suc (suc k)) id c o e f g = absurd (cc)

  none_changed : (o : Operand) → Contains [] o → ⊥
  none_changed o (k, less, e) = omega (arith, less)

  none_clobbers : (r : ℕ) → ClobbersIt exit_asked check r → ⊥
  none_clobbers r (zero, e, f) = absurd (cc)
  none_clobbers r (suc zero, e, f) = absurd (cc)
  none_clobbers r (suc (suc k), e, f) = absurd (cc)

  check_is_expressed : IsExpressedIn Free procedure check (check_at h)
  unfolding AllFit
  check_is_expressed = record {
    value = refl;
    stackmap = exit_asked;
    carries = refl;
    op = refl;
    site = record { inputs = tested ∷ []; reported = constant ∷ late_at h ∷ []; changed = []; results = [] };
    parts = refl;
    fits = record {
      width = W64;
      fits = ((refl, refl, tt), tt);
      reports = All-from_recursion IsReported (constant ∷ late_at h ∷ []) ((inr refl, (lit< tt, tt)), ((inr refl, tt), tt));
      changes = All-from_recursion IsChanged [] tt;
      result = tt;
    };
    count = refl;
    children = check_children;
    early = λ r. (
      λ c. absurd (none_changed (operand_in EarlyDef W64 r) c),
      λ either. elim either [ inl e ↦ absurd (has_none r e) | inr c ↦ absurd (none_clobbers r c) ],
    );
    late = λ r. (λ c. absurd (none_changed (operand_in Clobber W64 r) c), λ e. absurd (has_none r e));
    result = λ e. absurd (cc);
  }

check_is_selected : IsExpressed procedure check (check_at (Tmp 7))
check_is_selected = check_is_expressed IsTemporary (Tmp 7) tt

check_is_spilled : IsExpressedInPlaces procedure check (check_at (Spill 7))
check_is_spilled = check_is_expressed IsPlace (Spill 7) tt

-- ---- the sites that are read off them

abbrev in_place : Rep → Place
in_place where_ = record { width = W64; rep = where_ }

-- the patchpoint's first word stands in x0, which it may change
abbrev patch_site : Site
patch_site = record {
  kind = kind.Patchpoint;
  value = 3;
  size = 4;
  reps = in_place (rep.Register (register 0)) ∷ in_place (rep.Constant 5) ∷ [];
  result = Some (W64, register 1);
  clobbers = 1;
}

abbrev StandsSo : Operand → Place → Type 0
StandsSo o place = (place.width ≡ o.width) × IsRepOf o.arg place.rep

stands_so : (o u : Operand) (given place : Place) → Some o ≡ Some u → Some given ≡ Some place → StandsSo o given
    → StandsSo u place
stands_so o u given place e f so =
    let p : o ≡ u = cc in
    let q : given ≡ place = cc in
    subst (λ (x : Operand). StandsSo x place) p (subst (StandsSo o) q so)

patch_places : (k : ℕ) (o : Operand) (place : Place) → slice_get reported k ≡ Some o
    → slice_get patch_site.reps k ≡ Some place → StandsSo o place
patch_places zero o place e f =
    stands_so (operand_in Use W64 0) o (in_place (rep.Register (register 0))) place e f (refl, refl)
patch_places (suc zero) o place e f = stands_so constant o (in_place (rep.Constant 5)) place e f (refl, refl)
patch_places (suc (suc k)) o place e f = absurd (cc)

lowest : (r : ℕ) → (has 1 r ≡ true)
    ↔ (Contains changed (operand_in EarlyDef W64 r) ⊎ Contains changed (operand_in Clobber W64 r))
lowest zero = (λ e. inl (0, lit< tt, refl), λ c. refl)
lowest (suc k) = (
  λ e. absurd (false≢true (rw (bit_at-pow_other 0 (suc k) (λ e. cc)) at e)),
  λ c. absurd (elim c [
    | inl early ↦ (let none : 0 ≡ suc k = only early in cc)
    | inr late ↦ not_clobbered (suc k) late
  ]),
)
  where
    only : Contains changed (operand_in EarlyDef W64 (suc k)) → 0 ≡ suc k
    only (zero, less, e) = ap (λ (o : Operand). number_in o.arg) e
    only (suc j, less, e) = absurd (omega (arith, less))

is_patch_site : IsSiteFrom patch site patch_site
is_patch_site = record {
  value = refl;
  kind = refl;
  size = refl;
  count = refl;
  places = patch_places;
  result = refl;
  clobbers = lowest;
}

-- the check's second word stands in the frame, wherever
abbrev exit_site : ℕ → Site
exit_site offset = record {
  kind = kind.Exit;
  value = 4;
  size = 1;
  reps = in_place (rep.Constant 5) ∷ in_place (rep.Slot offset) ∷ [];
  result = None;
  clobbers = 0;
}

check_parts : SiteOperands
check_parts = record { inputs = tested ∷ []; reported = constant ∷ late_at (Spill 7) ∷ []; changed = []; results = [] }

exit_places : (offset k : ℕ) (o : Operand) (place : Place) → slice_get check_parts.reported k ≡ Some o
    → slice_get (exit_site offset).reps k ≡ Some place → StandsSo o place
unfolding check_parts
exit_places offset zero o place e f = stands_so constant o (in_place (rep.Constant 5)) place e f (refl, refl)
exit_places offset (suc zero) o place e f =
    stands_so (late_at (Spill 7)) o (in_place (rep.Slot offset)) place e f (refl, tt)
exit_places offset (suc (suc k)) o place e f = absurd (cc)

is_exit_site : (offset : ℕ) → IsSiteFrom (check_at (Spill 7)) check_parts (exit_site offset)
unfolding check_parts
is_exit_site offset = record {
  value = refl;
  kind = refl;
  size = refl;
  count = refl;
  places = exit_places offset;
  result = refl;
  clobbers = refl;
}
