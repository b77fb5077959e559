-- The sites of calls and patchpoints, as they are made of operands.
use Rattle.std.proofs.Common.{◌≡◌, ◌≢◌, ℕ, zero, suc, ◌+◌, ◌≤◌, ◌⊎◌, Bool, true, false, inl, inr, ⊎_elim, List, [], ◌∷◌, Some, None, length, map, refl, sym, ap, ◌∙◌, subst, arith}
use Rattle.std.specs.Prelude.{All, Contains, if◌then◌else◌, nat_lt, slice_get}
use Rattle.std.proofs.lemmas.Bool.Decides.{nat_tests}
use Rattle.std.proofs.lemmas.List.Elements.{All-cons, All-head, All-nil, All-tail}
use Rattle.b3_base.specs.declared.word.Width.{Width}
use Rattle.b3_base.specs.declared.word.Width.TheVariants.{W64}
use Rattle.stackmap.specs.Registers.{has}
use Rattle.stackmap.specs.declared.site.Place.{Place}
use Rattle.stackmap.specs.declared.site.Rep.{Rep}
use Rattle.stackmap.specs.declared.site.SiteKind.TheVariants as site_kind
use Rattle.air_ir.specs.Forms.{HasSite, IsChanged, OfCall, SiteFits, argument_home, arguments_from, call_clobbers, operand_in}
use Rattle.air_ir.specs.SitesInPlaces.{HasClobbers, IsInFrame, IsRepOf, kind_by, patch_in, result_by, size_by}
use Rattle.air_ir.specs.declared.frame.Frame.{Frame}
use Rattle.air_ir.specs.declared.op.AirOp.TheVariants as op
use Rattle.air_ir.specs.declared.operand.Arg.{Arg}
use Rattle.air_ir.specs.declared.operand.Arg.TheVariants.{At, Imm, Addr, Index, FrameSlot}
use Rattle.air_ir.specs.declared.operand.Home.TheVariants.{Reg, Spill, Tmp}
use Rattle.air_ir.specs.declared.operand.Operand.{Operand}
use Rattle.air_ir.specs.declared.operand.Role.TheVariants.{Def, EarlyDef, Clobber}
use Rattle.air_ir.specs.declared.procedure.AirInst.{AirInst}
use Rattle.air_ir.specs.declared.procedure.AirProc.{AirProc}
use Rattle.air_frame.specs.Needs.{names}
use Rattle.a64_emit.specs.Made.{outward_site, places_read, with_written, without_result}
use Rattle.a64_code.specs.Places.{spill_offset}
use Rattle.a64_emit.specs.Sites.{ArePlacesOf, IsCallOf, IsRepIn, IsStackmapOf, argument_places}
use Rattle.a64_emit.proofs.Outward.{Owns, changed_regs, has_changed, places_told, reg_in, written_has}
use Rattle.a64_emit.proofs.OutwardLeads.{call_parts, clobbers_are, patch_parts, reports_are, result_of}

-- ---- places

pub count_placed : (f : Frame) (os : List Operand) (places : List Place) → ArePlacesOf f os places → length places ≡ length os
unfolding ArePlacesOf
count_placed f [] [] are = refl
count_placed f [] (place ∷ places) are = absurd are
count_placed f (o ∷ os) [] are = absurd are
count_placed f (o ∷ os) (place ∷ places) are = ap suc (count_placed f os places are.2)

rep_of_arg : (f : Frame) (arg : Arg) (where_ : Rep) → IsRepIn f arg where_ → IsRepOf arg where_
rep_of_arg f (At (Reg r)) where_ is = is
rep_of_arg f (At (Spill n)) where_ is = subst IsInFrame (sym is.2) tt
rep_of_arg f (At (Tmp n)) where_ is = absurd is
rep_of_arg f (Imm word) where_ is = is
rep_of_arg f (Addr base offset) where_ is = absurd is
rep_of_arg f (Index base index shift) where_ is = absurd is
rep_of_arg f (FrameSlot n) where_ is = absurd is

pub each_placed : (f : Frame) (os : List Operand) (places : List Place) → ArePlacesOf f os places → (k : ℕ) (o : Operand) (place : Place)
    → slice_get os k ≡ Some o → slice_get places k ≡ Some place → (place.width ≡ o.width) × IsRepOf o.arg place.rep
unfolding ArePlacesOf
each_placed f [] places are k o place there placed = absurd cc
each_placed f (x ∷ os) [] are k o place there placed = absurd are
each_placed f (x ∷ os) (y ∷ places) are zero o place there placed =
    let same_o : x ≡ o = cc in
    let same_place : y ≡ place = cc in
    subst (λ (a : Operand). (place.width ≡ a.width) × IsRepOf a.arg place.rep) same_o
    (subst (λ (b : Place). (b.width ≡ x.width) × IsRepOf x.arg b.rep) same_place (are.0, rep_of_arg f x.arg y.rep are.1))
each_placed f (x ∷ os) (y ∷ places) are (suc k) o place there placed = each_placed f os places are.2 k o place there placed

-- ---- registers that are changed

regs_of : (regs : List ℕ) → changed_regs (map (operand_in Clobber W64) regs) ≡ regs
regs_of [] = refl
regs_of (r ∷ regs) = ap (λ (rs : List ℕ). r ∷ rs) (regs_of regs)

few_only : (changed : List Operand) → All (λ (o : Operand). (reg_in o.arg ≤ 30) × (reg_in o.arg ≢ 29)) changed
    → All (λ (o : Operand). reg_in o.arg ≤ 30) changed
few_only [] all = All-nil (λ (o : Operand). reg_in o.arg ≤ 30)
few_only (o ∷ changed) all =
    All-cons (λ (o : Operand). reg_in o.arg ≤ 30) o changed (All-head (λ (o : Operand). (reg_in o.arg ≤ 30) × (reg_in o.arg ≢ 29)) o changed all).0
    (few_only changed (All-tail (λ (o : Operand). (reg_in o.arg ≤ 30) × (reg_in o.arg ≢ 29)) o changed all))

abbrev HasOf : List Operand → ℕ → Type 0
HasOf changed r = Contains changed (operand_in EarlyDef W64 r) ⊎ Contains changed (operand_in Clobber W64 r)

of_rest : (o : Operand) (changed : List Operand) (r : ℕ) → HasOf changed r → HasOf (o ∷ changed) r
of_rest o changed r had =
    ⊎_elim (λ (a : Contains changed (operand_in EarlyDef W64 r)). inl (suc a.0, omega (arith, a.1), a.2))
    (λ (b : Contains changed (operand_in Clobber W64 r)). inr (suc b.0, omega (arith, b.1), b.2)) had

operands_of : (changed : List Operand) (r : ℕ) → All IsChanged changed → Contains (changed_regs changed) r → HasOf changed r
operands_of [] r all there = absurd (omega (arith, there.1))
operands_of (o ∷ changed) r all (zero, lt, is) =
    let here = All-head IsChanged o changed all in
    ⊎_elim
    (λ (e : o ≡ operand_in EarlyDef W64 here.0).
    let same : here.0 ≡ r = ap (λ (x : Operand). reg_in x.arg) (sym e) ∙ is in
    inl (0, omega arith, e ∙ ap (operand_in EarlyDef W64) same))
    (λ (e : o ≡ operand_in Clobber W64 here.0).
    let same : here.0 ≡ r = ap (λ (x : Operand). reg_in x.arg) (sym e) ∙ is in
    inr (0, omega arith, e ∙ ap (operand_in Clobber W64) same))
    here.1
operands_of (o ∷ changed) r all (suc k, lt, is) = of_rest o changed r (operands_of changed r (All-tail IsChanged o changed all) (k, omega arith, is))

reg_of_operand : (changed : List Operand) (o : Operand) → Contains changed o → Contains (changed_regs changed) (reg_in o.arg)
reg_of_operand [] o there = absurd (omega (arith, there.1))
reg_of_operand (x ∷ changed) o (zero, lt, is) = (0, omega arith, ap (λ (y : Operand). reg_in y.arg) is)
reg_of_operand (x ∷ changed) o (suc k, lt, is) =
    let rest = reg_of_operand changed o (k, omega arith, is) in (suc rest.0, omega (arith, rest.1), rest.2)

-- ---- a call

call_answers : (typed : Bool) (width : Width) → result_of (if typed then operand_in Def width 0 ∷ [] else [])
    ≡ (if typed then Some (width, record { 0 = 0 }) else None)
call_answers true width = refl
call_answers false width = refl

in_eight : (i n : ℕ) → i + suc n ≤ 8 → nat_lt i 8 ≡ true
in_eight i n le = grind (arith, nat_tests)

argument_reads : (f : Frame) (i : ℕ) (widths : List Width) → i + length widths ≤ 8 → places_read f (arguments_from i widths) ≡ argument_places i widths
unfolding places_read
argument_reads f i [] few = refl
argument_reads f i (width ∷ widths) few =
    let within = in_eight i (length widths) few in
    let home : argument_home i ≡ Reg (record { 0 = i }) = rw within refl in
    let rest = argument_reads f (i + 1) widths (omega arith) in
    rw (home, rest) refl

-- ---- the sites

module _ (p : AirProc) (f : Frame) (spilled : (n : ℕ) → names p n ≡ true → slice_get f.spills n ≡ Some (spill_offset f n)) (i : AirInst) (owns : Owns p i) where
  pub call_own : (typed : Bool) → OfCall typed i.operands → IsCallOf typed i (outward_site f site_kind.Call 1 typed 1 i)
  call_own typed h =
      let args : List Operand = arguments_from 0 h.widths in
      let clobs : List Operand = map (operand_in Clobber W64) call_clobbers in
      let res : List Operand = if typed then operand_in Def h.width 0 ∷ [] else [] in
      let q = call_parts p typed i.operands h owns.names_own in
      let set_is = clobbers_are p typed i.operands (h.callee ∷ []) args clobs res q in
      record {
        kind = refl;
        size = refl;
        operands = h;
        reports = reports_are p f typed i.operands (h.callee ∷ []) args clobs res q ∙ argument_reads f 0 h.widths (omega (arith, h.few));
        result = q.result_there ∙ call_answers typed h.width;
        clobbers = λ r. (
          λ there. subst (λ rs. Contains rs r) (regs_of call_clobbers) (has_changed clobs r q.changes (subst (λ n. has n r ≡ true) set_is there)),
          λ there. subst (λ n. has n r ≡ true) (sym set_is)
              (written_has clobs 0 r q.changes (few_only clobs q.few) (inr (subst (λ rs. Contains rs r) (sym (regs_of call_clobbers)) there))),
        );
      }

  patch_answers : (size : ℕ) (typed : Bool) (results : List Operand) → result_of results ≡ result_by (Some (size, typed)) results
  patch_answers size typed [] = refl
  patch_answers size typed (o ∷ results) = refl

  pub patch_own : (size : ℕ) (typed : Bool) → i.op ≡ op.Patch size typed → HasSite (op.Patch size typed) i.operands
      → IsStackmapOf f i (outward_site f site_kind.Patchpoint size typed 0 i)
  patch_own size typed is h =
      let q = patch_parts p i size typed h owns in
      let patch : Some (size, typed) ≡ patch_in i.op = sym (ap patch_in is) in
      let set_is = clobbers_are p typed i.operands [] h.0.reported h.0.changed h.0.results q in
      let reports = reports_are p f typed i.operands [] h.0.reported h.0.changed h.0.results q in
      let are : ArePlacesOf f h.0.reported (places_read f i.operands) =
      subst (ArePlacesOf f h.0.reported) (sym reports) (places_told p f spilled h.0.reported q.told) in
      record {
        parts = h.0;
        operands = h.1;
        fits = subst (λ o. SiteFits o h.0) (sym is) h.2;
        from = record {
          value = refl;
          kind = ap kind_by patch;
          size = ap size_by patch;
          count = count_placed f h.0.reported (places_read f i.operands) are;
          places = each_placed f h.0.reported (places_read f i.operands) are;
          result = q.result_there ∙ patch_answers size typed h.0.results ∙ ap (λ x. result_by x h.0.results) patch;
          clobbers = subst (λ x. HasClobbers x h.0.changed (with_written 0 (without_result typed i.operands))) patch (λ r. (
            λ there. operands_of h.0.changed r q.changes (has_changed h.0.changed r q.changes (subst (λ n. has n r ≡ true) set_is there)),
            λ there. subst (λ n. has n r ≡ true) (sym set_is)
                (written_has h.0.changed 0 r q.changes (few_only h.0.changed q.few)
                (inr (⊎_elim (λ (a : Contains h.0.changed (operand_in EarlyDef W64 r)). reg_of_operand h.0.changed (operand_in EarlyDef W64 r) a)
                (λ (b : Contains h.0.changed (operand_in Clobber W64 r)). reg_of_operand h.0.changed (operand_in Clobber W64 r) b) there))),
          ));
        };
        places = are;
      }
