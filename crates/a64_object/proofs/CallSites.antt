-- The site of a call that is selected: it reports the children behind the callee, each at the width of its type, and answers at the
-- width of its value's type.
use Rattle.std.proofs.Common.{◌≡◌, ℕ, suc, ◌+◌, Bool, true, false, Option, Some, None, List, [], ◌∷◌, ◌++◌, drop, refl, sym, ap, ◌∙◌, append_assoc}
use Rattle.std.specs.Prelude.{if◌then◌else◌, map}
use Rattle.b3_base.specs.declared.word.Width.{Width}
use Rattle.b3_base.specs.declared.word.Width.TheVariants.{W64}
use Rattle.b3_ir.specs.Naming.{type_of}
use Rattle.b3_ir.specs.Procedure.{Procedure}
use Rattle.b3_ir.specs.Types.{has_word, width_of}
use Rattle.b3_ir.specs.declared.value.Value.{Value}
use Rattle.b3_rules.specs.Valid.{IsValidProcedure}
use Rattle.stackmap.specs.Obeys.{HasResult}
use Rattle.stackmap.specs.World.{widths_of}
use Rattle.stackmap.specs.declared.site.Site.{Site}
use Rattle.air_ir.specs.Forms.{arguments_from, call_clobbers, operand_in, spills_changed}
use Rattle.air_ir.specs.Kinds.{Calls, kind_of}
use Rattle.air_ir.specs.Renaming.{rename, rename_inst}
use Rattle.air_ir.specs.declared.assignment.Assignment.{Assignment}
use Rattle.air_ir.specs.declared.operand.Home.{Home}
use Rattle.air_ir.specs.declared.operand.Operand.{Operand}
use Rattle.air_ir.specs.declared.operand.Role.{Role}
use Rattle.air_ir.specs.declared.operand.Role.TheVariants.{Clobber, Def, Use}
use Rattle.air_ir.specs.declared.procedure.AirInst.{AirInst}
use Rattle.air_spill.specs.Rewritten.{home_by}
use Rattle.air_fold.specs.Values.{child, width_at}
use Rattle.air_select.specs.Selected.{Tables, arguments_at, call_to, def_at, register, result_into, tables, use_of}
use Rattle.air_select.proofs.Sound.{sound}
use Rattle.a64_run.specs.CodeOf.{IsCallSiteOf}
use Rattle.a64_emit.specs.Sites.{argument_places}
use Rattle.a64_emit.specs.Sites as emitted
use Rattle.a64_object.proofs.Sources.{IsSourceOf, calls}

-- ---- widths of operands
-- those of the words that are used first
abbrev used_by : Role → Width → List Width → List Width
used_by Use width rest = width ∷ rest
used_by _ width rest = []

abbrev used : List Operand → List Width
used [] = []
used (o ∷ os) = used_by o.role o.width (used os)

-- that of the first that is defined
abbrev defined_by : Role → Width → Option Width → Option Width
defined_by Def width rest = Some width
defined_by _ width rest = rest

abbrev defined : List Operand → Option Width
defined [] = None
defined (o ∷ os) = defined_by o.role o.width (defined os)

abbrev changed : List Operand
changed = map (operand_in Clobber W64) call_clobbers

-- ---- as a call is formed
used_from : (r : ℕ) (widths : List Width) (rest : List Operand) → used rest ≡ [] → used (arguments_from r widths ++ rest) ≡ widths
used_from r [] rest none = none
used_from r (w ∷ widths) rest none = ap (λ ws. w ∷ ws) (used_from (r + 1) widths rest none)

defined_from : (r : ℕ) (widths : List Width) (rest : List Operand) → defined (arguments_from r widths ++ rest) ≡ defined rest
defined_from r [] rest = refl
defined_from r (w ∷ widths) rest = defined_from (r + 1) widths rest

used_changed : (rest : List Operand) → used (changed ++ rest) ≡ []
unfolding call_clobbers
used_changed rest = refl

defined_changed : (rest : List Operand) → defined (changed ++ rest) ≡ defined rest
unfolding call_clobbers
defined_changed rest = refl

defined_spills : (n : ℕ) (widths : List Width) (rest : List Operand) → defined (spills_changed n widths ++ rest) ≡ defined rest
defined_spills n [] rest = refl
defined_spills n (w ∷ widths) rest = defined_spills (n + 1) widths rest

-- ---- as it is selected, by other homes
module _ (t : Tables) (v : Value) (loc : Home → Home) where
  abbrev renamed : List Operand → List Operand
  renamed os = map (rename loc) os

  used_at : (r : ℕ) (cs : List ℕ) (rest : List Operand) → used (renamed rest) ≡ [] → used (renamed (arguments_at t r cs ++ rest)) ≡ map (width_at t.index) cs
  used_at r [] rest none = none
  used_at r (c ∷ cs) rest none = ap (λ ws. width_at t.index c ∷ ws) (used_at (suc r) cs rest none)

  defined_at : (r : ℕ) (cs : List ℕ) (rest : List Operand) → defined (renamed (arguments_at t r cs ++ rest)) ≡ defined (renamed rest)
  defined_at r [] rest = refl
  defined_at r (c ∷ cs) rest = defined_at (suc r) cs rest

  used_clobbered : (rest : List Operand) → used (renamed (changed ++ rest)) ≡ []
  unfolding call_clobbers
  used_clobbered rest = refl

  defined_clobbered : (rest : List Operand) → defined (renamed (changed ++ rest)) ≡ defined (renamed rest)
  unfolding call_clobbers
  defined_clobbered rest = refl

  abbrev result_width : Option Width
  result_width = if has_word v.ty then Some (width_of v.ty) else None

  defined_result : defined (renamed (result_into v 0)) ≡ result_width
  defined_result = by (has_word v.ty)
    where
      by : (b : Bool) → defined (renamed (if b then def_at (width_of v.ty) (register 0) ∷ [] else [])) ≡ (if b then Some (width_of v.ty) else None)
      by true = refl
      by false = refl

-- ---- both
same_behind : {X : Type 0} (x y : X) (xs ys : List X) → x ∷ xs ≡ y ∷ ys → xs ≡ ys
same_behind x y xs ys e = cc

same_typed : (a b : Bool) → Calls a ≡ Calls b → a ≡ b
same_typed a b e = cc

same_some : (a b : Width) → Some a ≡ Some b → a ≡ b
same_some a b e = cc

widths_listed : (r : ℕ) (widths : List Width) → widths_of (argument_places r widths) ≡ widths
widths_listed r [] = refl
widths_listed r (w ∷ widths) = ap (λ ws. w ∷ ws) (widths_listed (r + 1) widths)

same_widths : (p : Procedure) → IsValidProcedure p → (ids : List ℕ) → map (width_at (tables p).index) ids ≡ map (λ id. width_of (type_of p id)) ids
same_widths p valid [] = refl
same_widths p valid (id ∷ ids) =
    ap (λ w. w ∷ map (width_at (tables p).index) ids) (ap width_of ((sound p valid).types id))
    ∙ ap (λ ws. width_of (type_of p id) ∷ ws) (same_widths p valid ids)

answer_width : (typed : Bool) (w : Width) → defined (if typed then operand_in Def w 0 ∷ [] else []) ≡ (if typed then Some w else None)
answer_width true w = refl
answer_width false w = refl

has_result : (b typed : Bool) (w width : Width) (site : Site) → typed ≡ b → site.result ≡ (if typed then Some (w, record { 0 = 0 }) else None)
    → (if b then Some width else None) ≡ (if typed then Some w else None) → HasResult b width site
has_result true true w width site same is widths = (record { 0 = 0 }, is ∙ ap (λ x. Some (x, record { 0 = 0 })) (sym (same_some width w widths)))
has_result false false w width site same is widths = is
has_result true false w width site same is widths = absurd cc
has_result false true w width site same is widths = absurd cc

pub call_site : (p : Procedure) → IsValidProcedure p → (a : Assignment) (typed : Bool) (j : AirInst) (site : Site) (s : IsSourceOf p a j)
    → kind_of j.op ≡ Calls typed → emitted.IsCallOf typed j site → IsCallSiteOf p s.selected_for.value site
call_site p valid a typed j site s kind is =
    let v = s.selected_for.value in
    let t = tables p in
    let loc = home_by a in
    let cs = drop 1 v.children in
    let callee = child v.children 0 in
    let call = s.selected_for.from.call (ap (λ o. calls (kind_of o)) (ap (λ (x : AirInst). x.op) (sym s.is)) ∙ ap calls kind) in
    let j_is : j ≡ rename_inst loc (call_to t v callee cs) = s.is ∙ ap (rename_inst loc) call.1 in
    let widths = is.operands.widths in
    let answer : List Operand = if typed then operand_in Def is.operands.width 0 ∷ [] else [] in
    let behind : map (rename loc) (arguments_at t 0 cs ++ (changed ++ result_into v 0))
    ≡ arguments_from 0 widths ++ (changed ++ (spills_changed 0 (drop 8 widths) ++ answer)) =
    same_behind (rename loc (use_of t callee)) is.operands.callee _ _ (ap (λ (x : AirInst). x.operands) (sym j_is) ∙ is.operands.parts)
    ∙ append_assoc (arguments_from 0 widths ++ changed) (spills_changed 0 (drop 8 widths)) answer
    ∙ append_assoc (arguments_from 0 widths) changed (spills_changed 0 (drop 8 widths) ++ answer) in
    let used_are : map (width_at t.index) cs ≡ widths =
    sym (used_at t v loc 0 cs (changed ++ result_into v 0) (used_clobbered t v loc (result_into v 0)))
    ∙ ap used behind
    ∙ used_from 0 widths (changed ++ (spills_changed 0 (drop 8 widths) ++ answer)) (used_changed (spills_changed 0 (drop 8 widths) ++ answer)) in
    let answers : result_width t v loc ≡ (if typed then Some is.operands.width else None) =
    sym (defined_result t v loc) ∙ sym (defined_clobbered t v loc (result_into v 0)) ∙ sym (defined_at t v loc 0 cs (changed ++ result_into v 0))
    ∙ ap defined behind ∙ defined_from 0 widths (changed ++ (spills_changed 0 (drop 8 widths) ++ answer))
    ∙ defined_changed (spills_changed 0 (drop 8 widths) ++ answer) ∙ defined_spills 0 (drop 8 widths) answer ∙ answer_width typed is.operands.width in
    let typed_is : typed ≡ has_word v.ty = same_typed typed (has_word v.ty) (sym kind ∙ ap (λ (x : AirInst). kind_of x.op) j_is) in
    record {
      opcode = call.0;
      widths = ap widths_of is.reports ∙ widths_listed 0 widths ∙ sym used_are ∙ same_widths p valid cs;
      result = has_result (has_word v.ty) typed is.operands.width (width_of v.ty) site typed_is is.result answers;
    }
