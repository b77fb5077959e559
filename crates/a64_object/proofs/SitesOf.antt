-- The sites of emitted code of a procedure: each is that of a trap, of a call, or of the value of B3 that its id names; and each is
-- good, in the frame.
use Rattle.std.proofs.Common.{◌≡◌, ◌||◌, nat_le, get_or, ◌≢◌, ℕ, suc, ◌+◌, ◌*◌, ◌^◌, ◌<◌, ◌≤◌, ◌⊎◌, inl, inr, ⊎_elim, Bool, true, false, if◌then◌else◌, Option, Some, None, List, [], ◌∷◌, ◌++◌, length, refl, sym, ap, ◌∙◌, subst, arith, nat_eq, length-append}
use Rattle.std.specs.Prelude.{All, Contains, bit_and, IfSome, IsBitSet, IsSomeAnd, slice_get, sum_by}
use Rattle.std.specs.Int.{bit_at}
use Rattle.std.specs.List.{range_with_len}
use Rattle.std.proofs.lemmas.Bool.{cases_lt, eq-eqb, eqb-true}
use Rattle.std.proofs.lemmas.Bool.Decides.{nat_tests}
use Rattle.std.proofs.lemmas.List.Elements.{All-cons, All-contains, All-contains_itself, All-head, All-nil, All-tail, All-weaker, Contains-append_left, Contains-append_right, Contains-get_or}
use Rattle.std.proofs.lemmas.List.FromFn.{get_or-range_with_len, length-range_with_len}
use Rattle.std.proofs.lemmas.List.Sums.{AllPass-from_list_all}
use Rattle.std.proofs.lemmas.Nat.{pow_pos}
use Rattle.std.proofs.lemmas.Nat.Bits.{and_pow, bit_at-lt}
use Rattle.std.proofs.Math.Nat.{le-max_right}
use Rattle.b3_base.proofs.Lists.{Contains-at}
use Rattle.b3_base.specs.declared.word.Width.{Width}
use Rattle.b3_base.specs.declared.word.Width.TheVariants as width
use Rattle.b3_ir.specs.Naming.{value_named}
use Rattle.b3_ir.specs.Procedure.{values_of, AllFit, Procedure}
use Rattle.b3_ir.specs.declared.opcode.Opcode.TheVariants as opcode
use Rattle.b3_ir.specs.declared.value.Reg.{Reg as Register}
use Rattle.b3_ir.specs.declared.value.Stackmap.{Stackmap}
use Rattle.b3_ir.specs.declared.value.Value.{Value}
use Rattle.b3_meaning.specs.Keeps.{is_outward}
use Rattle.b3_meaning.specs.Roles.{role_of}
use Rattle.b3_meaning.specs.declared.role.Role.{Role as Role_of}
use Rattle.b3_meaning.specs.declared.role.Role.TheVariants as role
use Rattle.b3_sound.proofs.Distinct.{value_of_id}
use Rattle.b3_sound.proofs.FromValid.{is_kept}
use Rattle.stackmap.specs.Obeys.{HasClobbered, IsSiteOf, size_of}
use Rattle.stackmap.specs.Registers.{has, is_patchpoint}
use Rattle.stackmap.specs.Rules.{IsAllocatable}
use Rattle.stackmap.specs.declared.site.Place.{Place}
use Rattle.stackmap.specs.declared.site.Rep.{Rep}
use Rattle.stackmap.specs.declared.site.Rep.TheVariants as rep
use Rattle.stackmap.specs.declared.site.Site.{Site}
use Rattle.stackmap.specs.declared.site.SiteKind.{SiteKind}
use Rattle.stackmap.specs.declared.site.SiteKind.TheVariants as site_kind
use Rattle.exit_table.specs.Good.{AreDisjoint, AreRegistersFrom, IsGoodCall, IsGoodExit, IsGoodKind, IsGoodPatchpoint, IsGoodRep, Span, spans_of, word_span}
use Rattle.exit_table.specs.declared.tables.FrameRow.{FrameRow}
use Rattle.air_ir.specs.Expressed.{IsExpressedInPlaces, IsOpOf}
use Rattle.air_ir.specs.Forms.{AnyWord, IsChanged, IsPlacedResult, IsReported, IsWord, OneIs, SiteFits, SiteOperands, call_clobbers, listed, operand_in}
use Rattle.air_ir.specs.Kinds.{Kind, Calls, Checks, ChecksResult, Loads, Patches, Stores, kind_of, makes_site}
use Rattle.air_ir.specs.SitesInPlaces.{HasClobbers, kind_by, patch_in, register_at, result_by, size_by}
use Rattle.air_ir.specs.Weight.{inst_weight, weight, words_by}
use Rattle.air_ir.specs.WellFormed.{IsGoodBlock, IsGoodInst, MayName, NamesOwn, StandsAt}
use Rattle.air_ir.specs.declared.op.AirOp.{AirOp}
use Rattle.air_ir.specs.declared.op.AirOp.TheVariants as op
use Rattle.air_ir.specs.declared.operand.Arg.{Arg}
use Rattle.air_ir.specs.declared.operand.Arg.TheVariants.{At, Imm}
use Rattle.air_ir.specs.declared.operand.Home.TheVariants.{Reg, Spill}
use Rattle.air_ir.specs.declared.operand.Operand.{Operand}
use Rattle.air_ir.specs.declared.operand.Role.{Role}
use Rattle.air_ir.specs.declared.operand.Role.TheVariants.{Clobber, EarlyDef, LateUse, Use}
use Rattle.air_ir.specs.declared.procedure.AirBlock.{AirBlock}
use Rattle.air_ir.specs.declared.procedure.AirInst.{AirInst}
use Rattle.air_frame.specs.Frames.{IsFrameOf, row_of}
use Rattle.air_frame.specs.Needs.{arg_names, block_names, inst_names, names}
use Rattle.a64_run.specs.CodeOf.{HasItsValue, IsSiteOfKind, is_access}
use Rattle.a64_emit.specs.Sites.{ArePlacesOf, IsCallOf, IsRepIn, IsSiteBy, IsSiteIn, IsStackmapOf, IsTrapOf, argument_places}
use Rattle.air_select.specs.Contract.{has_stackmap}
use Rattle.a64_object.proofs.Lists.{any_among, any_at, one_in, term_least}
use Rattle.a64_object.proofs.CallSites.{call_site}
use Rattle.a64_object.proofs.Sited.{IsSized}
use Rattle.a64_object.proofs.Sources.{IsSourceOf, accesses, calls, source_of}
use Rattle.a64_object.proofs.Values.{IsNamedIn, has_size, named_in, names_registers}
use Rattle.b3_rules.specs.Valid.{IsValidProcedure}
use Rattle.air_ir.specs.declared.assignment.Assignment.{Assignment}
use Rattle.air_ir.specs.declared.frame.Frame.{Frame}
use Rattle.air_ir.specs.declared.procedure.AirProc.{AirProc}
use Rattle.air_spill.specs.Rewritten.{rewritten}
use Rattle.air_select.specs.Selected.{selected}
use Rattle.a64_object.specs.Made.{IsPlacedOf}

-- ---- sets of registers
has_bit : (set r : ℕ) → IsBitSet set r → has set r ≡ true
has_bit set r is = by (has set r) refl
  where
    by : (b : Bool) → has set r ≡ b → has set r ≡ true
    by true e = e
    by false e =
        let low = bit_at-lt set r in
        let none : bit_at set r ≡ 0 = grind (arith, nat_tests, low, e) in
        let masked : bit_and set (2 ^ r) ≡ 0 * 2 ^ r = and_pow set r ∙ ap (λ (k : ℕ). k * 2 ^ r) none in
        absurd (is (masked ∙ omega arith))

bit_has : (set r : ℕ) → has set r ≡ true → IsBitSet set r
bit_has set r is = λ none.
    let one : bit_at set r ≡ 1 = eqb-true (bit_at set r) 1 is in
    let masked : bit_and set (2 ^ r) ≡ 1 * 2 ^ r = and_pow set r ∙ ap (λ (k : ℕ). k * 2 ^ r) one in
    let positive : 0 < 2 ^ r = pow_pos r in
    omega (arith, none, masked)

-- ---- operands of a site
site_parts : (o : AirOp) (s : SiteOperands) → SiteFits o s → All IsReported s.reported × All IsChanged s.changed
site_parts (op.CheckIf test) s fits = (fits.reports, fits.changes)
site_parts op.CheckAdd s fits = (fits.reports, fits.changes)
site_parts op.CheckSub s fits = (fits.reports, fits.changes)
site_parts op.CheckMul s fits = (fits.reports, fits.changes)
site_parts (op.Patch size typed) s fits = (fits.reports, fits.changes)
site_parts _ s fits = absurd fits

reported_in : (s : SiteOperands) (o : Operand) → Contains s.reported o → Contains (listed s) o
reported_in s o c =
    Contains-append_left (s.inputs ++ s.reported ++ s.changed) s.results o
    (Contains-append_left (s.inputs ++ s.reported) s.changed o (Contains-append_right s.inputs s.reported o c))

changed_in : (s : SiteOperands) (o : Operand) → Contains s.changed o → Contains (listed s) o
changed_in s o c = Contains-append_left (s.inputs ++ s.reported ++ s.changed) s.results o (Contains-append_right (s.inputs ++ s.reported) s.changed o c)

-- ---- places in a frame
narrow_span : (w : Width) (offset : ℕ) (b : Span) → AreDisjoint (word_span width.W64 offset) b → AreDisjoint (word_span w offset) b
narrow_span width.W32 offset b (inl below) = inl (omega arith)
narrow_span width.W32 offset b (inr above) = inr above
narrow_span width.W64 offset b apart = apart

-- what stands at an operand is good at its width
module _ (air : AirProc) (frame : Frame) (is_frame : IsFrameOf air frame) where
  abbrev row : FrameRow
  row = row_of frame air.slots air.returns

  own_register : (role : Role) (reg : Register) → (role ≡ Use) ⊎ (role ≡ LateUse) → MayName air role (Reg reg) → IsAllocatable reg
  own_register role reg (inl early) may = subst (λ r. MayName air r (Reg reg)) early may
  own_register role reg (inr late) may = subst (λ r. MayName air r (Reg reg)) late may

  slot_good : (w : Width) (n offset : ℕ) → names air n ≡ true → slice_get frame.spills n ≡ Some offset → IsGoodRep row w (rep.Slot offset)
  slot_good w n offset named there =
      let good : IsGoodRep row width.W64 (rep.Slot offset) =
      subst (λ o. IsSomeAnd o (λ at. IsGoodRep row width.W64 (rep.Slot at))) there (is_frame.spilled n named) in
      (good.0, All-weaker (AreDisjoint (word_span width.W64 offset)) (AreDisjoint (word_span w offset)) (λ b. narrow_span w offset b) (spans_of row) good.1)

  -- an operand of an instruction of the procedure: what it may name, and that the spill place that it names is one of the procedure's
  pub record IsOwn (o : Operand) : Type 0 where
    pub reported : IsReported o
    pub own : NamesOwn air o.role o.arg
    pub spill : (n : ℕ) → o.arg ≡ At (Spill n) → names air n ≡ true

  rep_good : (o : Operand) (a : Arg) (where_ : Rep) → o.arg ≡ a → IsOwn o → IsRepIn frame a where_ → IsGoodRep row o.width where_
  rep_good o (At (Reg reg)) where_ is own stands =
      subst (IsGoodRep row o.width) (sym stands) (own_register o.role reg own.reported.0 (subst (NamesOwn air o.role) is own.own))
  rep_good o (At (Spill n)) where_ is own stands = subst (IsGoodRep row o.width) (sym stands.2) (slot_good o.width n stands.0 (own.spill n is) stands.1)
  rep_good o (Imm word) where_ is own stands = subst (IsGoodRep row o.width) (sym stands) (subst (IsWord AnyWord o.width) is own.reported.1).0
  rep_good o _ where_ is own stands = absurd stands

  abbrev IsGoodPlace : Place → Type 0
  IsGoodPlace place = IsGoodRep row place.width place.rep

  places_good : (os : List Operand) (places : List Place) → ArePlacesOf frame os places → All IsOwn os → All IsGoodPlace places
  unfolding ArePlacesOf
  places_good [] [] are own = All-nil IsGoodPlace
  places_good [] (place ∷ places) are own = absurd are
  places_good (o ∷ os) [] are own = absurd are
  places_good (o ∷ os) (place ∷ places) are own =
      All-cons IsGoodPlace place places
      (subst (λ w. IsGoodRep row w place.rep) (sym are.0) (rep_good o o.arg place.rep refl (All-head IsOwn o os own) are.1))
      (places_good os places are.2 (All-tail IsOwn o os own))

  pub arguments_good : (r : ℕ) (widths : List Width) → r + length widths ≤ 8 → All IsGoodPlace (argument_places r widths)
  arguments_good r [] few = All-nil IsGoodPlace
  arguments_good r (w ∷ widths) few =
      All-cons IsGoodPlace (record { width = w; rep = rep.Register (record { 0 = r }) }) (argument_places (r + 1) widths) (inl (omega arith))
      (arguments_good (r + 1) widths (omega arith))

arguments_rise : (r : ℕ) (widths : List Width) → AreRegistersFrom r (argument_places r widths)
arguments_rise r [] = tt
arguments_rise r (w ∷ widths) = (refl, arguments_rise (r + 1) widths)

pub arguments_count : (r : ℕ) (widths : List Width) → length (argument_places r widths) ≡ length widths
arguments_count r [] = refl
arguments_count r (w ∷ widths) = ap suc (arguments_count (r + 1) widths)

-- ---- which registers a call changes
call_range : call_clobbers ≡ range_with_len 0 19 ++ 30 ∷ []
unfolding call_clobbers
call_range = refl

is_changed : ℕ → Bool
is_changed r = nat_le r 18 || nat_eq r 30

call_changes : (r : ℕ) → Contains call_clobbers r → (r ≤ 18) ⊎ (r ≡ 30)
unfolding call_clobbers is_changed
call_changes r there =
    let passes : All (λ x. is_changed x ≡ true) call_clobbers = AllPass-from_list_all is_changed call_clobbers refl in
    let is : (nat_le r 18 || nat_eq r 30) ≡ true = All-contains (λ x. is_changed x ≡ true) call_clobbers r passes there in
    by (nat_le r 18) refl is
  where
    by : (b : Bool) → nat_le r 18 ≡ b → (b || nat_eq r 30) ≡ true → (r ≤ 18) ⊎ (r ≡ 30)
    by true le is = inl (grind (arith, nat_tests))
    by false gt is = inr (eqb-true r 30 is)

changed_by_call : (r : ℕ) → (r ≤ 18) ⊎ (r ≡ 30) → Contains call_clobbers r
changed_by_call r (inl le) =
    let in_range : Contains (range_with_len 0 19) (get_or (range_with_len 0 19) r 0) =
    Contains-get_or (range_with_len 0 19) r 0 (omega (arith, length-range_with_len 0 19)) in
    let is : get_or (range_with_len 0 19) r 0 ≡ r = get_or-range_with_len 0 19 r 0 (omega arith) ∙ omega arith in
    subst (λ xs. Contains xs r) (sym call_range) (Contains-append_left (range_with_len 0 19) (30 ∷ []) r (subst (Contains (range_with_len 0 19)) is in_range))
changed_by_call r (inr is) =
    subst (λ xs. Contains xs r) (sym call_range)
    (Contains-append_right (range_with_len 0 19) (30 ∷ []) r (subst (Contains (30 ∷ [])) (sym is) (0, omega arith, refl)))

-- ---- the one that each is
module _ (p : Procedure) (valid : IsValidProcedure p) (fit : AllFit p.blocks) (air : AirProc) (placed : IsPlacedOf p air) (frame : Frame)
    (is_frame : IsFrameOf air frame) where
  -- that of a Patchpoint or a check of B3
  pub record OfStackmap (site : Site) : Type 0 where
    pub block : ℕ
    pub place : ℕ
    pub inst : AirInst
    pub there : StandsAt air block place inst
    pub made : IsStackmapOf frame inst site
    pub value : Value
    pub named : value_named p site.value ≡ Some value
    pub stands : IsNamedIn p site.value value
    pub expressed : IsExpressedInPlaces p value inst
    pub is : IsSiteOf p value site

  pub record OfTrap (site : Site) : Type 0 where
    pub inst : AirInst
    pub trap : IsTrapOf inst site

  pub record OfCall (site : Site) : Type 0 where
    pub typed : Bool
    pub inst : AirInst
    pub call : IsCallOf typed inst site

  pub data IsOne (site : Site) : Type 0 where
    trapped : OfTrap site → IsOne site
    called : OfCall site → IsOne site
    mapped : OfStackmap site → IsOne site

  stackmap_of : (site : Site) (s : IsSiteIn air frame site) → has_stackmap (kind_of s.inst.op) ≡ true → IsStackmapOf frame s.inst site → OfStackmap site
  stackmap_of site s has made =
      let of = placed.expressed s.block s.place s.inst s.there has in
      let named : value_named p site.value ≡ Some of.0 = ap (value_named p) s.value ∙ of.1 in
      record {
        block = s.block;
        place = s.place;
        inst = s.inst;
        there = s.there;
        made = made;
        value = of.0;
        named = named;
        stands = named_in p fit site.value of.0 named;
        expressed = of.2.is;
        is = of.2.sites made.parts site made.operands made.fits made.from;
      }

  stackmap_one : (site : Site) (s : IsSiteIn air frame site) → has_stackmap (kind_of s.inst.op) ≡ true → IsStackmapOf frame s.inst site → IsOne site
  stackmap_one site s has made = mapped (stackmap_of site s has made)

  one_by : (site : Site) (s : IsSiteIn air frame site) (kind : Kind) → kind_of s.inst.op ≡ kind → IsSiteBy kind frame s.inst site → IsOne site
  one_by site s (Loads extent extends) kind is = trapped (record { inst = s.inst; trap = is })
  one_by site s (Stores extent) kind is = trapped (record { inst = s.inst; trap = is })
  one_by site s (Calls typed) kind is = called (record { typed = typed; inst = s.inst; call = is })
  one_by site s (Patches typed) kind is = stackmap_one site s (ap has_stackmap kind) is
  one_by site s (Checks test) kind is = stackmap_one site s (ap has_stackmap kind) is
  one_by site s (ChecksResult checked) kind is = stackmap_one site s (ap has_stackmap kind) is
  one_by site s _ kind is = absurd is

  pub is_one : (site : Site) → IsSiteIn air frame site → IsOne site
  is_one site s = one_by site s (kind_of s.inst.op) refl s.is

  -- ---- its result
  abbrev StandsWell : Option (Width × Register) → Type 0
  StandsWell o = IfSome o (λ result. IsAllocatable result.1)

  of_patch : (width : Width) (o : Operand) → IsPlacedResult width o → StandsWell (register_at o.width o.arg)
  of_patch width o (r, may, inl early) = subst (λ (x : Operand). StandsWell (register_at x.width x.arg)) (sym early) may
  of_patch width o (r, may, inr late) = subst (λ (x : Operand). StandsWell (register_at x.width x.arg)) (sym late) may

  one_of_patch : (size : ℕ) (typed : Bool) (width : Width) (os : List Operand) → OneIs typed (IsPlacedResult width) os
      → StandsWell (result_by (Some (size, typed)) os)
  one_of_patch size true width (o ∷ []) is = of_patch width o is
  one_of_patch size typed width [] is = tt
  one_of_patch size true width (o ∷ other ∷ os) is = absurd is
  one_of_patch size false width (o ∷ os) is = absurd is

  result_by_op : (o : AirOp) (s : SiteOperands) → SiteFits o s → StandsWell (result_by (patch_in o) s.results)
  result_by_op (op.Patch size typed) s fits = one_of_patch size typed fits.width s.results fits.result
  result_by_op _ s fits = tt

  one_result : (site : Site) → IsOne site → StandsWell site.result
  one_result site (trapped t) = subst StandsWell (sym t.trap.result) tt
  one_result site (called t) = subst StandsWell (sym t.call.result) (in_zero t.typed t.call.operands.width)
    where
      in_zero : (typed : Bool) (w : Width) → StandsWell (if typed then Some (w, record { 0 = 0 }) else None)
      in_zero true w = inl (omega arith)
      in_zero false w = tt
  one_result site (mapped m) = subst StandsWell (sym m.made.from.result) (result_by_op m.inst.op m.made.parts m.made.fits)

  -- ---- its value
  outward : (o : AirOp) (map : Stackmap) (v : Value) → IsOpOf map v o → is_outward (role_of v.kind.opcode) v.kind.traps ≡ true
  outward (op.Patch size typed) map v is = ap (λ c. is_outward (role_of c) v.kind.traps) is.0
  outward (op.CheckIf test) map v is = ap (λ c. is_outward (role_of c) v.kind.traps) is
  outward op.CheckAdd map v is = ap (λ c. is_outward (role_of c) v.kind.traps) is
  outward op.CheckSub map v is = ap (λ c. is_outward (role_of c) v.kind.traps) is
  outward op.CheckMul map v is = ap (λ c. is_outward (role_of c) v.kind.traps) is
  outward _ map v is = absurd is

  access_outward : (r : Role_of) (traps : Bool) → is_access r ≡ true → traps ≡ true → is_outward r traps ≡ true
  access_outward (role.Load extent extends) traps access is = is
  access_outward (role.Store extent) traps access is = is
  access_outward _ traps access is = absurd cc

  by_kind : (o : Option (ℕ × Bool)) (v : Value) (site : Site) → IsSiteOf p v site → IsSiteOfKind (kind_by o) p v site
  by_kind (Some patch) v site is = is
  by_kind None v site is = is

  as_kind : (kind is : SiteKind) (v : Value) (site : Site) → kind ≡ is → IsSiteOfKind is p v site → IsSiteOfKind kind p v site
  as_kind kind is v site same holds = subst (λ k. IsSiteOfKind k p v site) (sym same) holds

  module _ (a : Assignment) (is_rewritten : air ≡ rewritten (selected p) a) where
    -- the value that a call, or an access that traps, is selected for
    source_named : (site : Site) (s : IsSiteIn air frame site) (from : IsSourceOf p a s.inst)
        → value_named p site.value ≡ Some from.selected_for.value
    source_named site s from =
        let of = from.selected_for in
        ap (value_named p) (s.value ∙ ap (λ (i : AirInst). i.value) from.is ∙ of.made)
        ∙ value_of_id p (is_kept p valid fit).distinct of.block of.value (Contains-at (values_of p of.block) of.at of.value of.stands)

    trap_value : (site : Site) (s : IsSiteIn air frame site) → accesses (kind_of s.inst.op) ≡ true → s.inst.traps ≡ true → IsTrapOf s.inst site
        → HasItsValue p site
    trap_value site s access traps trap =
        let from : IsSourceOf p a s.inst = source_of p a air s.block s.place s.inst is_rewritten s.there (λ e. (access, traps)) in
        let of = from.selected_for in
        let accessed = of.from.trap (ap (λ (i : AirInst). accesses (kind_of i.op)) (sym from.is) ∙ access)
        (ap (λ (i : AirInst). i.traps) (sym from.is) ∙ traps) in
        record {
          value = of.value;
          named = source_named site s from;
          outward = access_outward (role_of of.value.kind.opcode) of.value.kind.traps accessed.0 accessed.1;
          is = as_kind site.kind site_kind.Trap of.value site trap.kind accessed;
          result = one_result site (trapped (record { inst = s.inst; trap = trap }));
        }

    call_value : (site : Site) (s : IsSiteIn air frame site) (typed : Bool) → kind_of s.inst.op ≡ Calls typed → IsCallOf typed s.inst site
        → HasItsValue p site
    call_value site s typed kind call =
        let from : IsSourceOf p a s.inst = source_of p a air s.block s.place s.inst is_rewritten s.there
        (λ e. absurd (let bad = sym (ap calls kind) ∙ e in cc)) in
        let of = from.selected_for in
        let is = call_site p valid a typed s.inst site from kind call in
        record {
          value = of.value;
          named = source_named site s from;
          outward = ap (λ c. is_outward (role_of c) of.value.kind.traps) is.opcode;
          is = as_kind site.kind site_kind.Call of.value site call.kind is;
          result = one_result site (called (record { typed = typed; inst = s.inst; call = call }));
        }

    map_value : (site : Site) → OfStackmap site → HasItsValue p site
    map_value site m = record {
      value = m.value;
      named = m.named;
      outward = outward m.inst.op m.expressed.stackmap m.value m.expressed.op;
      is = as_kind site.kind (kind_by (patch_in m.inst.op)) m.value site m.made.from.kind (by_kind (patch_in m.inst.op) m.value site m.is);
      result = one_result site (mapped m);
    }

    value_by : (site : Site) (s : IsSiteIn air frame site) (kind : Kind) → kind_of s.inst.op ≡ kind → IsSiteBy kind frame s.inst site → HasItsValue p site
    value_by site s (Loads extent extends) kind is = trap_value site s (ap accesses kind) (ap (λ k. makes_site k s.inst.traps) (sym kind) ∙ s.makes) is
    value_by site s (Stores extent) kind is = trap_value site s (ap accesses kind) (ap (λ k. makes_site k s.inst.traps) (sym kind) ∙ s.makes) is
    value_by site s (Calls typed) kind is = call_value site s typed kind is
    value_by site s (Patches typed) kind is = map_value site (stackmap_of site s (ap has_stackmap kind) is)
    value_by site s (Checks test) kind is = map_value site (stackmap_of site s (ap has_stackmap kind) is)
    value_by site s (ChecksResult checked) kind is = map_value site (stackmap_of site s (ap has_stackmap kind) is)
    value_by site s _ kind is = absurd is

    pub has_its_value : (site : Site) → IsSiteIn air frame site → HasItsValue p site
    has_its_value site s = value_by site s (kind_of s.inst.op) refl s.is

  -- ---- its size
  is_patch : (o : AirOp) (patch : ℕ × Bool) (map : Stackmap) (v : Value) → patch_in o ≡ Some patch → IsOpOf map v o → v.kind.opcode ≡ opcode.Patchpoint
  is_patch (op.Patch size typed) patch map v is of = of.0
  is_patch _ patch map v is of = absurd cc

  patch_size : (site : Site) (m : OfStackmap site) (patch : ℕ × Bool) → patch_in m.inst.op ≡ Some patch → (1 ≤ site.size) × (site.size ≤ 64)
  patch_size site m patch is =
      let opcode_is = is_patch m.inst.op patch m.expressed.stackmap m.value is m.expressed.op in
      let size = m.is.size ∙ ap (λ c. size_of c m.is.stackmap) opcode_is in
      let bounds = has_size p valid m.stands.block m.stands.place m.value m.stands.there m.is.stackmap m.is.carries opcode_is in
      let least = bounds.0 in
      let most = bounds.1 in
      (omega arith, omega arith)

  sized_as : (kind is : SiteKind) (size : ℕ) → kind ≡ is → IsSized is size → IsSized kind size
  sized_as kind is size same sized = subst (λ k. IsSized k size) (sym same) sized

  mapped_size : (site : Site) (m : OfStackmap site) (o : Option (ℕ × Bool)) → patch_in m.inst.op ≡ o → IsSized site.kind site.size
  mapped_size site m (Some patch) is = sized_as site.kind site_kind.Patchpoint site.size (m.made.from.kind ∙ ap kind_by is) (patch_size site m patch is).0
  mapped_size site m None is = sized_as site.kind site_kind.Exit site.size (m.made.from.kind ∙ ap kind_by is) (m.made.from.size ∙ ap size_by is)

  pub one_sized : (site : Site) → IsOne site → IsSized site.kind site.size
  one_sized site (trapped t) = sized_as site.kind site_kind.Trap site.size t.trap.kind t.trap.size
  one_sized site (called t) = sized_as site.kind site_kind.Call site.size t.call.kind t.call.size
  one_sized site (mapped m) = mapped_size site m (patch_in m.inst.op) refl

  -- ---- its places
  abbrev its_row : FrameRow
  its_row = row_of frame air.slots air.returns

  abbrev GoodPlace : Place → Type 0
  GoodPlace place = IsGoodRep its_row place.width place.rep

  good_inst : (block place : ℕ) (i : AirInst) → StandsAt air block place i → IsGoodInst air i
  good_inst block place i at =
      one_in (IsGoodInst air) at.of.insts place i at.inst_there (one_in (IsGoodBlock air) air.blocks block at.of at.block_there placed.well.blocks).insts

  operand_named : (i : AirInst) (n : ℕ) (o : Operand) → Contains i.operands o → arg_names n o.arg ≡ true → inst_names n i ≡ true
  operand_named i n o there named = any_among (λ (x : Operand). arg_names n x.arg) i.operands o there named

  spill_named : (block place : ℕ) (i : AirInst) (n : ℕ) → StandsAt air block place i → inst_names n i ≡ true → names air n ≡ true
  spill_named block place i n at named =
      any_at (block_names n) air.blocks block at.of at.block_there (any_at (inst_names n) at.of.insts place i at.inst_there named)

  own_operand : (site : Site) (m : OfStackmap site) (o : Operand) → Contains m.made.parts.reported o → IsOwn air frame is_frame o
  own_operand site m o there =
      let listed_there = reported_in m.made.parts o there in
      let there_in : Contains m.inst.operands o = subst (λ os. Contains os o) (sym m.made.operands) listed_there in
      let good = good_inst m.block m.place m.inst m.there in
      record {
        reported = All-contains IsReported m.made.parts.reported o (site_parts m.inst.op m.made.parts m.made.fits).0 there;
        own = All-contains (λ (x : Operand). NamesOwn air x.role x.arg) m.inst.operands o good.names there_in;
        spill = λ n is. spill_named m.block m.place m.inst n m.there (operand_named m.inst n o there_in (ap (arg_names n) is ∙ eq-eqb n n refl));
      }

  pub one_placed : (site : Site) → IsOne site → All GoodPlace site.reps
  one_placed site (trapped t) = subst (All GoodPlace) (sym t.trap.reports) (All-nil GoodPlace)
  one_placed site (called t) =
      let few = t.call.operands.few in
      subst (All GoodPlace) (sym t.call.reports) (arguments_good air frame is_frame 0 t.call.operands.widths (omega arith))
  one_placed site (mapped m) =
      places_good air frame is_frame m.made.parts.reported site.reps m.made.places
      (All-weaker (Contains m.made.parts.reported) (IsOwn air frame is_frame) (λ o there. own_operand site m o there) m.made.parts.reported
      (All-contains_itself m.made.parts.reported))

  -- ---- its kind
  good_as : (site : Site) (is : SiteKind) → site.kind ≡ is → IsGoodKind is site → IsGoodKind site.kind site
  good_as site is same good = subst (λ k. IsGoodKind k site) (sym same) good

  result_in_zero : (typed : Bool) (w : Width) (result : Option (Width × Register)) → result ≡ (if typed then Some (w, record { 0 = 0 }) else None)
      → IfSome result (λ r. r.1.0 ≡ 0)
  result_in_zero true w result is = subst (λ x. IfSome x (λ r. r.1.0 ≡ 0)) (sym is) refl
  result_in_zero false w result is = subst (λ x. IfSome x (λ r. r.1.0 ≡ 0)) (sym is) tt

  call_good : (site : Site) (t : OfCall site) → IsGoodCall site
  call_good site t = record {
    size = t.call.size;
    arguments = subst (AreRegistersFrom 0) (sym t.call.reports) (arguments_rise 0 t.call.operands.widths);
    few = let few = t.call.operands.few in omega (arith, ap length t.call.reports, arguments_count 0 t.call.operands.widths);
    answers = result_in_zero t.typed t.call.operands.width site.result t.call.result;
    clobbers = λ r. (
      (λ is. call_changes r ((t.call.clobbers r).0 (has_bit site.clobbers r is))),
      (λ is. bit_has site.clobbers r ((t.call.clobbers r).1 (changed_by_call r is))),
    );
  }

  exit_good : (site : Site) (m : OfStackmap site) → patch_in m.inst.op ≡ None → IsGoodExit site
  exit_good site m is = record {
    size = m.made.from.size ∙ ap size_by is;
    answers = m.made.from.result ∙ ap (λ o. result_by o m.made.parts.results) is;
    clobbers = subst (λ o. HasClobbers o m.made.parts.changed site.clobbers) is m.made.from.clobbers;
  }

  -- a register that a patchpoint changes is none that no operand may name
  changed_named : (site : Site) (m : OfStackmap site) (role : Role) (r : ℕ) → Contains m.made.parts.changed (operand_in role width.W64 r)
      → MayName air role (Reg (record { 0 = r }))
  changed_named site m role r there =
      let there_in : Contains m.inst.operands (operand_in role width.W64 r) =
      subst (λ os. Contains os (operand_in role width.W64 r)) (sym m.made.operands) (changed_in m.made.parts (operand_in role width.W64 r) there) in
      All-contains (λ (x : Operand). NamesOwn air x.role x.arg) m.inst.operands (operand_in role width.W64 r)
      (good_inst m.block m.place m.inst m.there).names there_in

  may_change : (site : Site) (m : OfStackmap site) (patch : ℕ × Bool) (r : ℕ) → patch_in m.inst.op ≡ Some patch → has site.clobbers r ≡ true
      → (r ≤ 30) × (r ≢ 29)
  may_change site m patch r is changes =
      let clobbers = subst (λ o. HasClobbers o m.made.parts.changed site.clobbers) is m.made.from.clobbers in
      ⊎_elim (λ early. changed_named site m EarlyDef r early) (λ late. changed_named site m Clobber r late) ((clobbers r).0 changes)

  -- nor the platform's
  not_platform : (site : Site) (m : OfStackmap site) (patch : ℕ × Bool) (r : ℕ) → patch_in m.inst.op ≡ Some patch → All GoodPlace site.reps
      → has site.clobbers r ≡ true → r ≢ 18
  not_platform site m patch r is good changes platform =
      let opcode_is = is_patch m.inst.op patch m.expressed.stackmap m.value is m.expressed.op in
      let map = m.is.obeys.stackmap in
      let names = names_registers p valid m.stands.block m.stands.place m.value m.stands.there map m.is.obeys.carries in
      let same : is_patchpoint m.value.kind.opcode ≡ true = ap is_patchpoint opcode_is in
      by names.early.0 names.late.0 ((m.is.obeys.keeps.clobbers same (record { 0 = r })).0 changes)
    where
      map_of : Stackmap
      map_of = m.is.obeys.stackmap

      both : (set : ℕ) → has set 18 ≡ false → has set r ≡ true → ⊥
      both set none some = let at : has set 18 ≡ true = ap (has set) (sym platform) ∙ some in absurd cc

      by : has map_of.early 18 ≡ false → has map_of.late 18 ≡ false
          → (has map_of.early r ≡ true) ⊎ (has map_of.late r ≡ true) ⊎ HasClobbered map_of site (record { 0 = r }) → ⊥
      by early late (inl is) = both map_of.early early is
      by early late (inr (inl is)) = both map_of.late late is
      by early late (inr (inr child)) =
          let place : GoodPlace child.is.place = one_in GoodPlace site.reps child.child child.is.place child.is.reported good in
          let stands : (r ≤ 14) ⊎ ((19 ≤ r) × (r ≤ 28)) = subst (IsGoodRep its_row child.is.place.width) child.is.stands place in
          ⊎_elim (λ low. absurd (omega arith)) (λ high. absurd (omega (arith, high.0))) stands

  which_register : (r : ℕ) → r ≤ 30 → r ≢ 29 → r ≢ 18 → (r ≤ 17) ⊎ ((19 ≤ r) × (r ≤ 28)) ⊎ (r ≡ 30)
  which_register r most no_29 no_18 =
      ⊎_elim (λ low. inl (omega arith)) (λ high. ⊎_elim (λ mid. inr (inl (omega arith, omega arith))) (λ top. inr (inr (omega arith))) (cases_lt r 29))
      (cases_lt r 18)

  patch_good : (site : Site) (m : OfStackmap site) (patch : ℕ × Bool) → patch_in m.inst.op ≡ Some patch → All GoodPlace site.reps → IsGoodPatchpoint site
  patch_good site m patch is good =
      let size = patch_size site m patch is in
      record {
        least = size.0;
        most = size.1;
        answers = result_low site.result m.is.obeys.keeps.result;
        clobbers = λ r bit.
            let changes = has_bit site.clobbers r bit in
            let may = may_change site m patch r is changes in
            which_register r may.0 may.1 (not_platform site m patch r is good changes);
      }
    where
      result_low : (result : Option (Width × Register)) → IfSome result (λ x. (x.1.0 ≤ 30) × (has m.is.obeys.stackmap.late x.1.0 ≡ false))
          → IfSome result (λ x. x.1.0 ≤ 30)
      result_low None some = tt
      result_low (Some x) some = some.0

  mapped_good : (site : Site) (m : OfStackmap site) → All GoodPlace site.reps → (o : Option (ℕ × Bool)) → patch_in m.inst.op ≡ o → IsGoodKind site.kind site
  mapped_good site m good (Some patch) is = good_as site site_kind.Patchpoint (m.made.from.kind ∙ ap kind_by is) (patch_good site m patch is good)
  mapped_good site m good None is = good_as site site_kind.Exit (m.made.from.kind ∙ ap kind_by is) (exit_good site m is)

  pub one_good : (site : Site) → IsOne site → IsGoodKind site.kind site
  one_good site (trapped t) =
      good_as site site_kind.Trap t.trap.kind (record { size = t.trap.size; reports = t.trap.reports; answers = t.trap.result; clobbers = t.trap.clobbers })
  one_good site (called t) = good_as site site_kind.Call t.call.kind (call_good site t)
  one_good site (mapped m) = mapped_good site m (one_placed site (mapped m)) (patch_in m.inst.op) refl

  -- ---- how many words it reports
  inst_light : (block place : ℕ) (i : AirInst) → StandsAt air block place i → inst_weight i ≤ weight air
  inst_light block place i at =
      let inner : inst_weight i ≤ sum_by inst_weight at.of.insts = term_least inst_weight at.of.insts place i at.inst_there in
      let outer : sum_by inst_weight at.of.insts ≤ sum_by (λ (b : AirBlock). sum_by inst_weight b.insts) air.blocks =
      term_least (λ (b : AirBlock). sum_by inst_weight b.insts) air.blocks block at.of at.block_there in
      omega arith

  pub one_few : (site : Site) → IsOne site → length site.reps ≤ 8 + weight air
  one_few site (trapped t) = omega (arith, ap length t.trap.reports)
  one_few site (called t) = let few = t.call.operands.few in omega (arith, ap length t.call.reports, arguments_count 0 t.call.operands.widths)
  one_few site (mapped m) =
      let parts = m.made.parts in
      let light = inst_light m.block m.place m.inst m.there in
      let most = le-max_right (words_by m.inst.op m.inst.operands) (1 + length m.inst.operands) in
      omega (
        arith,
        m.made.from.count,
        ap length m.made.operands,
        length-append (parts.inputs ++ parts.reported ++ parts.changed) parts.results,
        length-append (parts.inputs ++ parts.reported) parts.changed,
        length-append parts.inputs parts.reported,
      )
