-- The site of an instruction that is expressed, by a proper assignment, is that of its value and obeys.
use Rattle.std.proofs.Common.{◌≡◌, ◌↔◌, ◌∙◌, ◌⊎◌, ℕ, zero, suc, ◌+◌, ◌-◌, ◌<◌, Bool, true, false, cond, Option, Some, None, IfSome, List, [], ◌∷◌, map, length, Contains, inl, inr, refl, sym, ap, subst, arith}
use Rattle.std.specs.Prelude.{slice_get}
use Rattle.std.proofs.lemmas.List.{length-map}
use Rattle.std.proofs.lemmas.Option.{slice_get-get_or, slice_get_within}
use Rattle.b3_base.proofs.Lists.{get_some, Contains-at}
use Rattle.b3_base.specs.declared.word.Width.{Width}
use Rattle.b3_base.specs.declared.word.Width.TheVariants.{W64}
use Rattle.b3_ir.specs.Fits.{Fits, reported_count, reported_of}
use Rattle.b3_ir.specs.Procedure.{Procedure}
use Rattle.b3_ir.specs.Table.{row_of}
use Rattle.b3_ir.specs.Types.{width_of}
use Rattle.b3_ir.specs.declared.opcode.Opcode.{Opcode}
use Rattle.b3_ir.specs.declared.table.More.{More}
use Rattle.b3_ir.specs.declared.table.More.TheVariants as more
use Rattle.b3_ir.specs.declared.value.Constraint.{Constraint}
use Rattle.b3_ir.specs.declared.value.Reg.{Reg as Register}
use Rattle.b3_ir.specs.declared.value.Stackmap.{Stackmap}
use Rattle.b3_ir.specs.declared.value.Value.{Value}
use Rattle.stackmap.specs.Obeys.{HasResult, IsChild as IsPlacedChild, IsSiteOf, Keeps, Reports, StandsForIt, kind_of, size_of}
use Rattle.stackmap.specs.Placing.{register_for, result_in as result_by_rule, result_register}
use Rattle.stackmap.specs.Registers.{has, has_result, is_patchpoint, stackmap_in}
use Rattle.stackmap.specs.Rules.{HasRegisters, IsPlaceable, MayResult}
use Rattle.stackmap.specs.declared.site.Place.{Place}
use Rattle.stackmap.specs.declared.site.Rep.{Rep}
use Rattle.stackmap.specs.declared.site.Rep.TheVariants as rep
use Rattle.stackmap.specs.declared.site.Site.{Site}
use Rattle.stackmap.proofs.Placed.{result_is_some}
use Rattle.air_ir.specs.Expressed.{ClobbersIt, IsChild, IsExpressed, IsPlace, IsTemporary, StandsAnywhere, StandsBy, result_in}
use Rattle.air_ir.specs.Forms.{operand_in}
use Rattle.air_ir.specs.Renaming.{rename, rename_arg, rename_inst}
use Rattle.air_ir.specs.SitesInPlaces.{HasClobbers, IsRepOf, IsRepOfHome, IsSiteFrom, kind_by, patch_in, result_by, size_by}
use Rattle.air_ir.specs.WellFormed.{NamesOwn, StandsAt, IsWellFormed}
use Rattle.air_ir.specs.declared.operand.Arg.{Arg}
use Rattle.air_ir.specs.declared.operand.Arg.TheVariants.{At, Imm, Addr, Index, FrameSlot}
use Rattle.air_ir.specs.declared.operand.Home.{Home}
use Rattle.air_ir.specs.declared.operand.Home.TheVariants.{Tmp, Reg, Spill}
use Rattle.air_ir.specs.declared.operand.Operand.{Operand}
use Rattle.air_ir.specs.declared.operand.Role.TheVariants.{EarlyDef, Clobber}
use Rattle.air_spill.specs.Rewritten.{home_by, standing}
use Rattle.air_spill.proofs.Good.{is_tmp, stays}
use Rattle.air_spill.proofs.OpByOp.{site-renamed}
use Rattle.air_spill.proofs.Places.{in_register}
use Rattle.air_spill.proofs.Renamed.{renamed_site}
use Rattle.air_spill.proofs.SiteOps.{IsCheckOf, IsPatchOf, constraint_count, op_is}
use Rattle.air_spill.proofs.SiteParts.{free_keeps, own, reports}
use Rattle.air_spill.proofs.SitesObey.{FreeKeeps, HowStands, keeps_places}
use Rattle.air_ir.specs.declared.assignment.Assignment.{Assignment}
use Rattle.air_ir.specs.declared.procedure.AirInst.{AirInst}
use Rattle.air_ir.specs.declared.procedure.AirProc.{AirProc}
use Rattle.air_flow.specs.Proper.{IsProper}

-- ---- lists

mapped_at : {A B : Type 0} (f : A → B) (xs : List A) (k : ℕ) (x : A) → slice_get xs k ≡ Some x
    → slice_get (map f xs) k ≡ Some (f x)
mapped_at f [] k x e = absurd (cc)
mapped_at f (y ∷ xs) zero x e = let same : y ≡ x = cc in ap (λ z. Some (f z)) same
mapped_at f (y ∷ xs) (suc k) x e = mapped_at f xs k x e

reported_least : (m : More) (k rest : ℕ) → k < reported_of m rest → k < rest
reported_least more.NoMore k rest lt = absurd (omega (arith, lt))
reported_least more.One k rest lt = absurd (omega (arith, lt))
reported_least more.Arguments k rest lt = absurd (omega (arith, lt))
reported_least more.Reported k rest lt = lt

-- ---- reps

home_of : (h : Home) (reg : Register) → IsRepOfHome h (rep.Register reg) → h ≡ Reg reg
home_of (Tmp n) reg is = absurd is
home_of (Reg r) reg is = let same : reg ≡ r = cc in ap Reg (sym same)
home_of (Spill n) reg is = absurd is

no_constant : (b3 : Procedure) (id : ℕ) (h : Home) (r : Rep) → IsRepOfHome h r → StandsForIt b3 id r
no_constant b3 id h (rep.Register reg) is = tt
no_constant b3 id h (rep.Slot offset) is = tt
no_constant b3 id (Tmp n) (rep.Constant word) is = absurd is
no_constant b3 id (Reg r) (rep.Constant word) is = absurd (cc)
no_constant b3 id (Spill n) (rep.Constant word) is = absurd is

-- ---- results

with_width : Width → Option Register → Option (Width × Register)
with_width width (Some reg) = Some (width, reg)
with_width width None = None

result_form : (patch : ℕ × Bool) (m : Stackmap) (v : Value) (r : Option Register)
    → result_by (Some patch) (result_in m v r) ≡ with_width (width_of v.ty) r
unfolding with_width
result_form patch m v (Some reg) = refl
result_form patch m v None = refl

with_itself : (width : Width) (given r : Option Register) → given ≡ r
    → IfSome (with_width width r) (λ (result : Width × Register). given ≡ Some result.1)
unfolding with_width
with_itself width given (Some reg) e = e
with_itself width given None e = tt

has_result_by : (typed : Bool) (width : Width) (o r : Option Register) (site : Site) → cond typed o None ≡ r
    → (typed ≡ true → o ≡ None → ⊥)
    → site.result ≡ with_width width r → HasResult typed width site
unfolding with_width
has_result_by true width o (Some reg) site e some is = (reg, is)
has_result_by true width o None site e some is = absurd (some refl e)
has_result_by false width o (Some reg) site e some is = absurd (cc)
has_result_by false width o None site e some is = is

module _ (p : AirProc) (a : Assignment) (proper : IsProper p a) where
  pub place_of : (k : ℕ) (x : Option (Option Register)) → k < p.tmps → slice_get a.homes k ≡ x → IsPlace (standing k x)
  place_of k (Some (Some reg)) lt e = proper.registers k reg e
  place_of k (Some None) lt e = tt
  place_of k None lt e = absurd (let there = slice_get-get_or a.homes k None (omega (arith, lt, proper.tmps)) in cc)

module _ (p : AirProc) (a : Assignment) (block place : ℕ) (i : AirInst) (good : IsWellFormed p) (proper : IsProper p a)
    (at : StandsAt p block place i)
    (b3 : Procedure) (v : Value) (fits : Fits v) (placeable : IsPlaceable v) (is : IsExpressed b3 v i) (site : Site)
    (from : IsSiteFrom (rename_inst (home_by a) i) (renamed_site (home_by a) is.site) site) where
  abbrev m : Stackmap
  m = is.stackmap

  constraints : length m.constraints ≡ reported_count v
  constraints = constraint_count m v i.op is.op is.carries fits

  count : length site.reps ≡ reported_count v
  count = from.count ∙ length-map is.site.reported (rename (home_by a)) ∙ is.count

  -- ---- children

  -- a place is that of a child
  record OfChild (k : ℕ) (given : Place) : Type 0 where
    id : ℕ
    there : slice_get v.children (length (row_of v.kind.opcode).takes + k) ≡ Some id
    c : Constraint
    asks : slice_get m.constraints k ≡ Some c
    o : Operand
    reported : slice_get is.site.reported k ≡ Some o
    is_child : IsChild IsTemporary b3 v k id c o
    width : given.width ≡ o.width
    stands : IsRepOf (rename_arg (home_by a) o.arg) given.rep

  of_child : (k : ℕ) (given : Place) → slice_get site.reps k ≡ Some given → OfChild k given
  of_child k given e =
      let within : k < reported_count v = (let lt = slice_get_within site.reps k given e in omega (arith, lt, count)) in
      let rest = reported_least (row_of v.kind.opcode).more k
      (length v.children - length (row_of v.kind.opcode).takes) within in
      let id = get_some v.children (length (row_of v.kind.opcode).takes + k) (omega (arith, rest)) in
      let c = get_some m.constraints k (omega (arith, within, constraints)) in
      let o = get_some is.site.reported k (let n = is.count in omega (arith, within, n)) in
      let fit = from.places k (rename (home_by a) o.0) given
      (mapped_at (rename (home_by a)) is.site.reported k o.0 o.1) e in
      record {
        id = id.0;
        there = id.1;
        c = c.0;
        asks = c.1;
        o = o.0;
        reported = o.1;
        is_child = is.children k id.0 c.0 o.0 id.1 c.1 o.1;
        width = fit.0;
        stands = fit.1;
      }

  listed_there : (k : ℕ) (given : Place) (child : OfChild k given) → Contains i.operands child.o
  listed_there k given child =
      reports p a block place i good proper at b3 v is child.o (Contains-at is.site.reported k child.o child.reported)

  own_arg : (k : ℕ) (given : Place) (child : OfChild k given) (arg : Arg) → child.o.arg ≡ arg
      → NamesOwn p child.o.role arg
  own_arg k given child arg e =
      subst (NamesOwn p child.o.role) e (own p a block place i good proper at child.o (listed_there k given child))

  free : (k : ℕ) (given : Place) (child : OfChild k given) (reg : Register) (arg : Arg) → child.o.arg ≡ arg
      → StandsAnywhere IsTemporary b3 child.id arg
      → IsRepOf (rename_arg (home_by a) arg) (rep.Register reg) → FreeKeeps v m child.c reg
  free k given child reg (At (Tmp n)) e anywhere is_rep =
      let lt = is_tmp p child.o.role n (own_arg k given child (At (Tmp n)) e) in
      let there = home_of (home_by a (Tmp n)) reg is_rep in
      free_keeps p a block place i good proper at b3 v is child.c child.o n reg (listed_there k given child)
      child.is_child.role e lt
      (in_register a (Tmp n) reg there)
      (subst IsPlace there (place_of p a proper n (slice_get a.homes n) lt refl))
  free k given child reg (At (Reg r)) e anywhere is_rep = absurd anywhere
  free k given child reg (At (Spill n)) e anywhere is_rep = absurd anywhere
  free k given child reg (Imm word) e anywhere is_rep = absurd (cc)
  free k given child reg (Addr base offset) e anywhere is_rep = absurd anywhere
  free k given child reg (Index base index shift) e anywhere is_rep = absurd anywhere
  free k given child reg (FrameSlot number) e anywhere is_rep = absurd anywhere

  how : (k : ℕ) (given : Place) (child : OfChild k given) (r : Option Register) → register_for v k ≡ r
      → StandsBy IsTemporary b3 child.id r child.o.arg
      → HowStands v m k child.c given.rep
  how k given child (Some reg) e by =
      inl (reg, e, subst (λ (arg : Arg). IsRepOf (rename_arg (home_by a) arg) given.rep) by child.stands)
  how k given child None e by = inr (
    e,
    λ reg w. free k given child reg child.o.arg refl by
        (subst (λ (r : Rep). IsRepOf (rename_arg (home_by a) child.o.arg) r) w child.stands),
  )

  stands : (k : ℕ) (c : Constraint) (where_ : Rep) → IsPlacedChild m site k c where_ → HowStands v m k c where_
  stands k c where_ placed =
      let child = of_child k placed.place placed.reported in
      let same : child.c ≡ c = (let e = child.asks in let f = placed.asks in cc) in
      subst (λ (w : Rep). HowStands v m k c w) placed.stands
      (subst (λ (x : Constraint). HowStands v m k x placed.place.rep) same
      (how k placed.place child (register_for v k) refl child.is_child.stands))

  stands_for : (id : ℕ) (r : Rep) (arg : Arg) → StandsAnywhere IsTemporary b3 id arg
      → IsRepOf (rename_arg (home_by a) arg) r → StandsForIt b3 id r
  stands_for id r (At h) anywhere is_rep = no_constant b3 id (home_by a h) r is_rep
  stands_for id r (Imm word) anywhere is_rep = subst (StandsForIt b3 id) (sym is_rep) anywhere
  stands_for id r (Addr base offset) anywhere is_rep = absurd anywhere
  stands_for id r (Index base index shift) anywhere is_rep = absurd anywhere
  stands_for id r (FrameSlot number) anywhere is_rep = absurd anywhere

  stands_by : (id : ℕ) (r : Rep) (reg : Option Register) (arg : Arg) → StandsBy IsTemporary b3 id reg arg
      → IsRepOf (rename_arg (home_by a) arg) r
      → StandsForIt b3 id r
  stands_by id r (Some reg) arg by is_rep =
      subst (StandsForIt b3 id) (sym (subst (λ (x : Arg). IsRepOf (rename_arg (home_by a) x) r) by is_rep)) tt
  stands_by id r None arg by is_rep = stands_for id r arg by is_rep

  reports_it : (k id : ℕ) (given : Place) → slice_get v.children (length (row_of v.kind.opcode).takes + k) ≡ Some id
      → slice_get site.reps k ≡ Some given → Reports b3 id given
  reports_it k id given there e =
      let child = of_child k given e in
      let same : child.id ≡ id = (let f = child.there in cc) in
      subst (λ (n : ℕ). Reports b3 n given) same
      (record {
        width = child.width ∙ child.is_child.width;
        stands = stands_by child.id given.rep (register_for v k) child.o.arg child.is_child.stands child.stands;
      })

  -- ---- the result

  abbrev IsOne : Option (Width × Register) → Type 0
  IsOne result = IfSome result (λ (r : Width × Register). result_register v ≡ Some r.1)

  same_map : placeable.stackmap ≡ m
  same_map = let e = placeable.carries in let f = is.carries in cc

  some_result : has_result v ≡ true → result_by_rule (stackmap_in v.body) ≡ None → ⊥
  some_result typed none =
      result_is_some m
      (subst (λ (b : Bool). HasRegisters b m) typed
      (subst (λ (x : Stackmap). HasRegisters (has_result v) x) same_map placeable.enough))
      (subst (λ (x : Stackmap). MayResult x.result) same_map (placeable.constraints.result typed))
      (ap result_by_rule (sym is.carries) ∙ none)

  result_stays : (r : Option Register) → map (rename (home_by a)) (result_in m v r) ≡ result_in m v r
  result_stays (Some reg) = refl
  result_stays None = refl

  patch_result : IsPatchOf m v i.op → site.result ≡ with_width (width_of v.ty) (result_register v)
  patch_result patch =
      from.result ∙ ap (λ (o : Option (ℕ × Bool)). result_by o (map (rename (home_by a)) is.site.results)) patch.op
      ∙ ap (λ (os : List Operand). result_by (Some (m.size, patch.typed)) (map (rename (home_by a)) os))
      (is.result (ap is_patchpoint patch.opcode))
      ∙ ap (result_by (Some (m.size, patch.typed))) (result_stays (result_register v))
      ∙ result_form (m.size, patch.typed) m v (result_register v)

  check_result : IsCheckOf m v i.op → site.result ≡ None
  check_result check =
      from.result ∙ ap (λ (o : Option (ℕ × Bool)). result_by o (map (rename (home_by a)) is.site.results)) check.op

  one_result : IsOne site.result
  one_result = elim (op_is m v i.op is.op) [
    | inl patch ↦ subst IsOne (sym (patch_result patch))
        (with_itself (width_of v.ty) (result_register v) (result_register v) refl)
    | inr check ↦ subst IsOne (sym (check_result check)) tt
  ]

  no_result : is_patchpoint v.kind.opcode ≡ false → has_result v ≡ false
  no_result e = rw e refl

  its_result : HasResult (has_result v) (width_of v.ty) site
  its_result = elim (op_is m v i.op is.op) [
    | inl patch ↦ has_result_by (has_result v) (width_of v.ty) (result_by_rule (stackmap_in v.body))
        (result_register v) site refl some_result (patch_result patch)
    | inr check ↦ subst (λ (b : Bool). HasResult b (width_of v.ty) site) (sym (no_result check.by.patches))
        (check_result check)
  ]

  -- ---- the rest

  abbrev Changed : ℕ → Type 0
  Changed r = Contains is.site.changed (operand_in EarlyDef W64 r) ⊎ Contains is.site.changed (operand_in Clobber W64 r)

  abbrev Asked : ℕ → Type 0
  Asked r = (has m.early r ≡ true) ⊎ (has m.late r ≡ true) ⊎ ClobbersIt m v r

  asked : (r : ℕ) → Changed r → Asked r
  asked r (inl c) = elim ((is.early r).0 c) [ inl e ↦ inl e | inr it ↦ inr (inr it) ]
  asked r (inr c) = inr (inl ((is.late r).0 c))

  changed : (r : ℕ) → Asked r → Changed r
  changed r (inl e) = inl ((is.early r).1 (inl e))
  changed r (inr (inl e)) = inr ((is.late r).1 e)
  changed r (inr (inr it)) = inl ((is.early r).1 (inr it))

  abbrev Clobbers : Option (ℕ × Bool) → List Operand → Type 0
  Clobbers o os = HasClobbers o os site.clobbers

  clobbers : is_patchpoint v.kind.opcode ≡ true → (reg : Register) → (has site.clobbers reg.0 ≡ true) ↔ Asked reg.0
  clobbers patches reg = elim (op_is m v i.op is.op) [
    | inl patch ↦
        let now = subst (λ (os : List Operand). Clobbers (Some (m.size, patch.typed)) os)
        (site-renamed (home_by a) (stays a) i.op is.site is.fits).1
        (subst (λ (o : Option (ℕ × Bool)). Clobbers o (map (rename (home_by a)) is.site.changed)) patch.op
        from.clobbers) in
        (λ listed. asked reg.0 ((now reg.0).0 listed), λ any. (now reg.0).1 (changed reg.0 any))
    | inr check ↦ absurd (let no = check.by.patches in cc)
  ]

  no_clobbers : is_patchpoint v.kind.opcode ≡ false → site.clobbers ≡ 0
  no_clobbers none = elim (op_is m v i.op is.op) [
    | inl patch ↦ absurd (let yes = ap is_patchpoint patch.opcode in cc)
    | inr check ↦ subst (λ (o : Option (ℕ × Bool)). Clobbers o (map (rename (home_by a)) is.site.changed)) check.op
        from.clobbers
  ]

  its_kind : kind_by (patch_in i.op) ≡ kind_of v.kind.opcode
  its_kind = elim (op_is m v i.op is.op) [
    | inl patch ↦ ap kind_by patch.op ∙ sym (ap kind_of patch.opcode)
    | inr check ↦ ap kind_by check.op ∙ sym check.by.kind
  ]

  its_size : size_by (patch_in i.op) ≡ size_of v.kind.opcode m
  its_size = elim (op_is m v i.op is.op) [
    | inl patch ↦ ap size_by patch.op ∙ sym (ap (λ (c : Opcode). size_of c m) patch.opcode)
    | inr check ↦ ap size_by check.op ∙ sym check.by.size
  ]

  keeps : Keeps (is_patchpoint v.kind.opcode) m site
  keeps = keeps_places v m is.carries placeable site (count ∙ sym constraints) stands one_result clobbers no_clobbers

  pub site_of : IsSiteOf b3 v site
  site_of = record {
    value = from.value ∙ is.value;
    kind = from.kind ∙ its_kind;
    stackmap = m;
    carries = is.carries;
    size = from.size ∙ its_size;
    count = count;
    places = reports_it;
    result = its_result;
    obeys = record { stackmap = m; carries = is.carries; keeps = keeps };
  }
