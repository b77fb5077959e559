-- The instruction of a site is expressed for its value.
use Rattle.std.proofs.Common.{◌≡◌, ◌≢◌, ◌↔◌, ◌⊎◌, ◌∙◌, ℕ, ◌+◌, ◌^◌, ◌<◌, Bool, true, false, List, [], Option, Some, None, length, slice_get, inl, inr, refl, sym, ap, subst, arith, cond, All, Contains}
use Rattle.std.proofs.lemmas.Bool.{cases_lt, or_cases, or_left, or_right}
use Rattle.std.proofs.lemmas.List.Elements.{All-append, Contains-append_cases, Contains-append_left, Contains-append_right}
use Rattle.std.proofs.lemmas.Nat.Bits.{bit_at_above}
use Rattle.b3_base.specs.Word.{bits}
use Rattle.b3_base.specs.declared.word.Width.{Width}
use Rattle.b3_base.specs.declared.word.Width.TheVariants.{W64}
use Rattle.b3_ir.specs.Fits.{Fits, IsBody, IsExitBody, IsSiteBody, IsStackmap, reported_count}
use Rattle.b3_ir.specs.Procedure.{Procedure}
use Rattle.b3_ir.specs.Table.{row_of}
use Rattle.b3_ir.specs.Types.{width_of}
use Rattle.b3_ir.specs.declared.opcode.Opcode.{Opcode}
use Rattle.b3_ir.specs.declared.opcode.Opcode.TheVariants as opcode
use Rattle.b3_ir.specs.declared.opcode.Ty.{Ty}
use Rattle.b3_ir.specs.declared.value.Body.{Body}
use Rattle.b3_ir.specs.declared.value.Body.TheVariants.{Map}
use Rattle.b3_ir.specs.declared.value.Constraint.{Constraint}
use Rattle.b3_ir.specs.declared.value.Constraint.TheVariants.{SomeEarlyRegister}
use Rattle.b3_ir.specs.declared.value.Reg.{Reg as Register}
use Rattle.b3_ir.specs.declared.value.Stackmap.{Stackmap}
use Rattle.b3_ir.specs.declared.value.Value.{Value}
use Rattle.stackmap.specs.Placing.{register_for, result_in as placed_in, result_register}
use Rattle.stackmap.specs.Registers.{constraints_of, constraints_in, has, has_result, is_late, is_patchpoint, stackmap_in}
use Rattle.stackmap.specs.Rules.{HasRegisters, IsAllocatable, IsPlaceable, MayResult}
use Rattle.stackmap.proofs.Placed.{result_is_some}
use Rattle.stackmap.proofs.PlacedApart.{places_obey}
use Rattle.air_ir.specs.Expressed.{ClobbersIt, IsChild, IsExpressed, IsOpOf, IsTemporary, StandsAnywhere, StandsBy, result_in, result_role}
use Rattle.air_ir.specs.Forms.{AllFit, IsChanged, IsPlacedResult, IsReported, IsWord, AnyWord, OneIs, SiteFits, operand_in}
use Rattle.air_ir.specs.declared.op.AirOp.{AirOp}
use Rattle.air_ir.specs.declared.op.AirOp.TheVariants as op
use Rattle.air_ir.specs.declared.operand.Home.{Home}
use Rattle.air_ir.specs.declared.operand.Operand.{Operand}
use Rattle.air_ir.specs.declared.operand.Role.{Role}
use Rattle.air_ir.specs.declared.operand.Role.TheVariants.{Use, LateUse, EarlyDef, Clobber}
use Rattle.air_stackmap.specs.Described.{AreReported, ComputesWith, IsSmall, Stands}
use Rattle.air_stackmap.specs.SiteCode.{arg_by, changed, changed_by, in_each, is_changed_early, patch_by, patch_op, patch_results, place_of, report_by, reported, results_by, site_inst, site_operands}
use Rattle.air_stackmap.specs.declared.child.Child.{Child}
use Rattle.air_stackmap.proofs.Listing.{clobbered_is, each_in, each_report, in_each_is, in_each_not, in_each_there, is_clobbered, report_at, reports_count}

from_zero : (n : ℕ) → n ≡ 0 + n
from_zero n = omega arith

-- ---- a report

role_either : (a : Constraint) → (let role : Role = (cond (is_late a) LateUse Use) in (role ≡ Use) ⊎ (role ≡ LateUse))
role_either a = by (is_late a)
  where
    by : (b : Bool) → (cond b LateUse Use ≡ Use) ⊎ (cond b LateUse Use ≡ LateUse)
    by true = inr refl
    by false = inl refl

word_small : (width : Width) (constant : Option ℕ) (home : Home) → ((word : ℕ) → constant ≡ Some word → word < 2 ^ bits width)
    → IsWord AnyWord width (arg_by constant home)
word_small width (Some word) home small = (small word refl, tt)
word_small width None home small = tt

pub place_word : (register : Option Register) (c : Child) → IsSmall c → IsWord AnyWord c.width (place_of register c)
place_word (Some reg) c small = tt
place_word None c small = word_small c.width c.constant c.home small

report_is : (v : Value) (k : ℕ) (a : Constraint) (c : Child) → IsSmall c → IsReported (report_by a (register_for v k) c)
report_is v k a c small = (role_either a, place_word (register_for v k) c small)

stands_anywhere : (p : Procedure) (id : ℕ) (constant : Option ℕ) (home : Home) → Stands p id constant home
    → StandsAnywhere IsTemporary p id (arg_by constant home)
stands_anywhere p id (Some word) home is = is
stands_anywhere p id None home is = is

stands_by : (p : Procedure) (id : ℕ) (register : Option Register) (c : Child) → Stands p id c.constant c.home
    → StandsBy IsTemporary p id register (place_of register c)
stands_by p id (Some reg) c is = refl
stands_by p id None c is = stands_anywhere p id c.constant c.home is

-- ---- the stackmap of a value that fits

-- it has a constraint for each child, and sets of registers
pub record HasMap (v : Value) (map : Stackmap) : Type 0 where
  pub count : length map.constraints ≡ reported_count v
  pub early : map.early < 2 ^ 31
  pub late : map.late < 2 ^ 31

from_site : (ty : Ty) (reported : ℕ) (body : Body) (map : Stackmap) → IsSiteBody ty reported body → stackmap_in body ≡ Some map → IsStackmap reported map
from_site ty reported (Map m) map is e = let same : m ≡ map = cc in subst (IsStackmap reported) same is.sound
from_site ty reported _ map is e = absurd is

from_exit : (reported : ℕ) (body : Body) (map : Stackmap) → IsExitBody reported body → stackmap_in body ≡ Some map → IsStackmap reported map
from_exit reported (Map m) map is e = let same : m ≡ map = cc in subst (IsStackmap reported) same is.sound
from_exit reported _ map is e = absurd is

of_opcode : (o : Opcode) (v : Value) (map : Stackmap) → v.kind.opcode ≡ o → Fits v
    → ((body : IsBody (row_of o).carries v.ty (reported_count v) v.body) → IsStackmap (reported_count v) map) → IsStackmap (reported_count v) map
of_opcode o v map e fits from = from (subst (λ (q : Opcode). IsBody (row_of q).carries v.ty (reported_count v) v.body) e fits.body)

map_of : (map : Stackmap) (v : Value) (o : AirOp) → stackmap_in v.body ≡ Some map → IsOpOf map v o → Fits v → IsStackmap (reported_count v) map
map_of map v (op.Patch size typed) carries is fits =
    of_opcode opcode.Patchpoint v map is.0 fits (λ body. from_site v.ty (reported_count v) v.body map body carries)
map_of map v (op.CheckIf test) carries is fits =
    of_opcode opcode.Check v map is fits (λ body. from_exit (reported_count v) v.body map body carries)
map_of map v op.CheckAdd carries is fits =
    of_opcode opcode.CheckAdd v map is fits (λ body. from_exit (reported_count v) v.body map body carries)
map_of map v op.CheckSub carries is fits =
    of_opcode opcode.CheckSub v map is fits (λ body. from_exit (reported_count v) v.body map body carries)
map_of map v op.CheckMul carries is fits =
    of_opcode opcode.CheckMul v map is fits (λ body. from_exit (reported_count v) v.body map body carries)
map_of map v _ carries is fits = absurd is

-- ---- the result of a patchpoint

-- its register is there exactly where it has a result, and is one that values may stand in
placed_result : (v : Value) (map : Stackmap) → stackmap_in v.body ≡ Some map → IsPlaceable v → (reg : Register) → result_register v ≡ Some reg
    → IsAllocatable reg
placed_result v map carries placeable reg e = ((places_obey v map carries placeable).result reg e).0

result_there : (v : Value) (map : Stackmap) → stackmap_in v.body ≡ Some map → IsPlaceable v → has_result v ≡ true → result_register v ≢ None
result_there v map carries placeable typed none =
    let same : placeable.stackmap ≡ map = (let e = placeable.carries in cc) in
    let enough = subst (λ (b : Bool). HasRegisters b map) typed (subst (λ (m : Stackmap). HasRegisters (has_result v) m) same placeable.enough) in
    let may = subst (λ (m : Stackmap). MayResult m.result) same (placeable.constraints.result typed) in
    result_is_some map enough may
    (ap placed_in (sym carries) ∙ ap (λ (b : Bool). cond b (placed_in (stackmap_in v.body)) None) (sym typed) ∙ none)

role_is : (c : Constraint) (width : Width) (reg : Register) → IsAllocatable reg
    → IsPlacedResult width (record { role = result_role c; width = width; arg = (operand_in Use width reg.0).arg })
role_is SomeEarlyRegister width reg is = (reg.0, is, inl refl)
role_is _ width reg is = (reg.0, is, inr refl)

pub result_fits : (v : Value) (map : Stackmap) → stackmap_in v.body ≡ Some map → IsPlaceable v
    → OneIs (has_result v) (IsPlacedResult (width_of v.ty)) (patch_results v)
result_fits v map carries placeable =
    subst (λ (o : Option Stackmap). OneIs (has_result v) (IsPlacedResult (width_of v.ty)) (results_by v o)) (sym carries)
    (by (has_result v) (result_register v) refl refl)
  where
    by : (b : Bool) (r : Option Register) → has_result v ≡ b → result_register v ≡ r → OneIs b (IsPlacedResult (width_of v.ty)) (result_in map v r)
    by true (Some reg) e f = role_is map.result (width_of v.ty) reg (placed_result v map carries placeable reg f)
    by true None e f = absurd (result_there v map carries placeable e f)
    by false (Some reg) e f = absurd (let none : result_register v ≡ None = ap (λ (b : Bool). cond b (placed_in (stackmap_in v.body)) None) e in cc)
    by false None e f = tt

-- ---- the parts of a site

module _ (v : Value) (map : Stackmap) (carries : stackmap_in v.body ≡ Some map) (placeable : IsPlaceable v) where
  reports_fit : (cs : List Child) → All IsSmall cs → All IsReported (reported v cs)
  reports_fit cs small = each_report IsReported v 0 (constraints_of v) cs IsSmall small (λ k a c is. report_is v k a c is)

  changes_fit : All IsChanged (changed v)
  changes_fit =
      subst (λ (o : Option Stackmap). All IsChanged (changed_by v o)) (sym carries)
      (All-append IsChanged (in_each EarlyDef (is_changed_early v map) 31) (in_each Clobber (has map.late) 31)
      (each_in IsChanged EarlyDef (is_changed_early v map) 31 (λ r less e. (r, inl refl)))
      (each_in IsChanged Clobber (has map.late) 31 (λ r less e. (r, inr refl))))

  pub parts_fit : (o : AirOp) (inputs : List Operand) (cs : List Child) (results : List Operand) → IsOpOf map v o
      → ComputesWith v o inputs results → All IsSmall cs → SiteFits o (site_operands v inputs cs results)
  unfolding AllFit
  parts_fit (op.CheckIf test) inputs cs results is fits small = record {
    width = fits.0;
    fits = fits.1;
    reports = reports_fit cs small;
    changes = changes_fit;
    result = rw fits.2 tt;
  }
  parts_fit op.CheckAdd inputs cs results is fits small =
      record { width = fits.0; fits = fits.1; reports = reports_fit cs small; changes = changes_fit; result = fits.2 }
  parts_fit op.CheckSub inputs cs results is fits small =
      record { width = fits.0; fits = fits.1; reports = reports_fit cs small; changes = changes_fit; result = fits.2 }
  parts_fit op.CheckMul inputs cs results is fits small =
      record { width = fits.0; fits = fits.1; reports = reports_fit cs small; changes = changes_fit; result = fits.2 }
  parts_fit (op.Patch size typed) inputs cs results is fits small = record {
    width = width_of v.ty;
    fits = rw fits.0 tt;
    reports = reports_fit cs small;
    changes = changes_fit;
    result = rw (is.2, fits.1) (result_fits v map carries placeable);
  }
  parts_fit _ inputs cs results is fits small = absurd fits

  -- ---- registers that are changed

  small_register : (set r : ℕ) → set < 2 ^ 31 → has set r ≡ true → r < 31
  small_register set r less e = elim (cases_lt r 31) [
    | inl below ↦ below
    | inr above ↦ absurd (let none : has set r ≡ false = rw (bit_at_above set 31 r less above) refl in cc)
  ]

  early_is : map.early < 2 ^ 31 → (r : ℕ) → Contains (changed v) (operand_in EarlyDef W64 r) ↔ ((has map.early r ≡ true) ⊎ ClobbersIt map v r)
  early_is less r =
      subst (λ (o : Option Stackmap). Contains (changed_by v o) (operand_in EarlyDef W64 r) ↔ ((has map.early r ≡ true) ⊎ ClobbersIt map v r)) (sym carries)
      (to, from)
    where
      to : Contains (changed_by v (Some map)) (operand_in EarlyDef W64 r) → (has map.early r ≡ true) ⊎ ClobbersIt map v r
      to c = elim (Contains-append_cases (in_each EarlyDef (is_changed_early v map) 31) (in_each Clobber (has map.late) 31) (operand_in EarlyDef W64 r) c) [
        | inl early ↦ elim (or_cases _ _ (in_each_is EarlyDef (is_changed_early v map) 31 r early)) [
          | inl listed ↦ inl listed
          | inr clobbered ↦ (let k = clobbered_is v 0 map.constraints r clobbered in
              inr (k.child, k.asks, ap (register_for v) (from_zero k.child) ∙ k.register))
        ]
        | inr late ↦ absurd (in_each_not Clobber EarlyDef (has map.late) 31 r (λ e. cc) late)
      ]

      there : r < 31 → is_changed_early v map r ≡ true → Contains (changed_by v (Some map)) (operand_in EarlyDef W64 r)
      there below is =
          Contains-append_left (in_each EarlyDef (is_changed_early v map) 31) (in_each Clobber (has map.late) 31) (operand_in EarlyDef W64 r)
          (in_each_there EarlyDef (is_changed_early v map) 31 r below is)

      from : (has map.early r ≡ true) ⊎ ClobbersIt map v r → Contains (changed_by v (Some map)) (operand_in EarlyDef W64 r)
      from either = elim either [
        | inl listed ↦ there (small_register map.early r less listed) (or_left _ _ listed)
        | inr clobbers ↦
            (let within = (places_obey v map carries placeable).allocatable clobbers.0 (record { 0 = r }) clobbers.2 in
            there (elim within [ inl low ↦ omega (arith, low) | inr high ↦ omega (arith, high.1) ])
            (or_right _ _ (is_clobbered v 0 map.constraints r clobbers.0 clobbers.1 (ap (register_for v) (sym (from_zero clobbers.0)) ∙ clobbers.2))))
      ]

  late_is : map.late < 2 ^ 31 → (r : ℕ) → Contains (changed v) (operand_in Clobber W64 r) ↔ (has map.late r ≡ true)
  late_is less r =
      subst (λ (o : Option Stackmap). Contains (changed_by v o) (operand_in Clobber W64 r) ↔ (has map.late r ≡ true)) (sym carries) (to, from)
    where
      to : Contains (changed_by v (Some map)) (operand_in Clobber W64 r) → has map.late r ≡ true
      to c = elim (Contains-append_cases (in_each EarlyDef (is_changed_early v map) 31) (in_each Clobber (has map.late) 31) (operand_in Clobber W64 r) c) [
        | inl early ↦ absurd (in_each_not EarlyDef Clobber (is_changed_early v map) 31 r (λ e. cc) early)
        | inr late ↦ in_each_is Clobber (has map.late) 31 r late
      ]

      from : has map.late r ≡ true → Contains (changed_by v (Some map)) (operand_in Clobber W64 r)
      from e =
          Contains-append_right (in_each EarlyDef (is_changed_early v map) 31) (in_each Clobber (has map.late) 31) (operand_in Clobber W64 r)
          (in_each_there Clobber (has map.late) 31 r (small_register map.late r less e) e)

  -- ---- the whole

  child_is : (p : Procedure) (cs : List Child) → AreReported p v cs → (k id : ℕ) (c : Constraint) (o : Operand)
      → slice_get v.children (length (row_of v.kind.opcode).takes + k) ≡ Some id
      → slice_get map.constraints k ≡ Some c → slice_get (reported v cs) k ≡ Some o → IsChild IsTemporary p v k id c o
  child_is p cs are k id c o ei ec eo =
      let asks : slice_get (constraints_of v) k ≡ Some c = ap (λ (m : Option Stackmap). slice_get (constraints_in m) k) carries ∙ ec in
      let r = report_at v 0 (constraints_of v) cs k c o asks eo in
      let is = are.known k id r.child ei r.at in
      subst (λ (u : Operand). IsChild IsTemporary p v k id c u) (ap (λ (n : ℕ). report_by c (register_for v n) r.child) (from_zero k) ∙ r.is)
      (record { role = refl; width = is.width; stands = stands_by p id (register_for v k) r.child is.stands })

  pub expressed : (p : Procedure) (o : AirOp) (inputs : List Operand) (cs : List Child) (results : List Operand) → Fits v → IsOpOf map v o
      → ComputesWith v o inputs results → AreReported p v cs → IsExpressed p v (site_inst v o inputs cs results)
  expressed p o inputs cs results fits is with_ are =
      let sound = map_of map v o carries is fits in
      let counts : length (constraints_of v) ≡ length cs =
      ap (λ (m : Option Stackmap). length (constraints_in m)) carries ∙ sound.count ∙ sym are.count in
      record {
        value = refl;
        stackmap = map;
        carries = carries;
        op = is;
        site = site_operands v inputs cs results;
        parts = refl;
        fits = parts_fit o inputs cs results is with_ are.small;
        count = reports_count v 0 (constraints_of v) cs counts ∙ are.count;
        children = child_is p cs are;
        early = early_is sound.early;
        late = late_is sound.late;
        result = patched o is with_;
      }
    where
      check_is_none : (q : Opcode) → v.kind.opcode ≡ q → is_patchpoint q ≡ false → is_patchpoint v.kind.opcode ≡ true
          → results ≡ result_in map v (result_register v)
      check_is_none q e none is = absurd (let no : is_patchpoint v.kind.opcode ≡ false = ap is_patchpoint e ∙ none in cc)

      patched : (o : AirOp) → IsOpOf map v o → ComputesWith v o inputs results → is_patchpoint v.kind.opcode ≡ true
          → results ≡ result_in map v (result_register v)
      patched (op.Patch size typed) is with_ e = with_.1 ∙ ap (results_by v) carries
      patched (op.CheckIf test) is with_ e = check_is_none opcode.Check is refl e
      patched op.CheckAdd is with_ e = check_is_none opcode.CheckAdd is refl e
      patched op.CheckSub is with_ e = check_is_none opcode.CheckSub is refl e
      patched op.CheckMul is with_ e = check_is_none opcode.CheckMul is refl e
      patched _ is with_ e = absurd with_

-- ---- a patchpoint

-- a value of this opcode that fits has a stackmap
site_map : (ty : Ty) (reported : ℕ) (body : Body) → IsSiteBody ty reported body → (map : Stackmap) × (stackmap_in body ≡ Some map)
site_map ty reported (Map map) is = (map, refl)
site_map ty reported _ is = absurd is

pub patch_map : (v : Value) → Fits v → v.kind.opcode ≡ opcode.Patchpoint → (map : Stackmap) × (stackmap_in v.body ≡ Some map)
patch_map v fits e =
    site_map v.ty (reported_count v) v.body (subst (λ (q : Opcode). IsBody (row_of q).carries v.ty (reported_count v) v.body) e fits.body)

-- its op is the value's, and takes no inputs and the result that its value asks for
pub patch_is : (v : Value) (map : Stackmap) → stackmap_in v.body ≡ Some map → v.kind.opcode ≡ opcode.Patchpoint
    → IsOpOf map v (patch_op v) × ComputesWith v (patch_op v) [] (patch_results v)
patch_is v map carries e =
    subst (λ (o : Option Stackmap). IsOpOf map v (patch_by v o) × ComputesWith v (patch_by v o) [] (patch_results v)) (sym carries)
    ((e, refl, refl), (refl, refl))
