-- The sites of a rewritten procedure come from those that it had.
use Rattle.std.proofs.Common.{◌≡◌, ℕ, ◌≤◌, ◌↔◌, inl, inr, Bool, true, false, if◌then◌else◌, Option, Some, None, List, [], ◌∷◌, ◌++◌, map, take, length, flat_map, All, Contains, refl, sym, ap, ◌∙◌, subst, arith}
use Rattle.std.specs.Prelude.{slice_get}
use Rattle.std.proofs.lemmas.Bool.{cases_Bool}
use Rattle.std.proofs.lemmas.List.{length-map}
use Rattle.std.proofs.lemmas.List.Elements.{All-head}
use Rattle.b3_base.proofs.Lists.{All-at, All-front, All-behind}
use Rattle.b3_base.specs.declared.word.Width.TheVariants.{W64}
use Rattle.b3_ir.specs.Fits.{Fits}
use Rattle.b3_ir.specs.Procedure.{Procedure}
use Rattle.b3_ir.specs.declared.value.Constraint.{Constraint}
use Rattle.b3_ir.specs.declared.value.Reg.{Reg as Register}
use Rattle.b3_ir.specs.declared.value.Stackmap.{Stackmap}
use Rattle.b3_ir.specs.declared.value.Value.{Value}
use Rattle.stackmap.specs.Placing.{register_for, result_register}
use Rattle.stackmap.specs.Rules.{IsPlaceable}
use Rattle.air_ir.specs.Expressed.{IsChild, IsExpressed, IsExpressedInPlaces, IsOpOf, IsPlace, IsTemporary, StandsAnywhere, StandsBy, result_in}
use Rattle.air_ir.specs.Forms.{SiteOperands, listed, operand_in}
use Rattle.air_ir.specs.Kinds.{kind_of, makes_site}
use Rattle.air_ir.specs.Renaming.{rename, rename_arg, rename_inst}
use Rattle.air_ir.specs.SitesInPlaces.{IsSiteFrom, ObeysInPlaces}
use Rattle.air_ir.specs.WellFormed.{HasOneSiteEach, IsGoodBlock, IsGoodInst, IsWellFormed, NamesOwn, StandsAt}
use Rattle.air_ir.specs.declared.op.AirOp.{AirOp}
use Rattle.air_ir.specs.declared.operand.Arg.{Arg}
use Rattle.air_ir.specs.declared.operand.Arg.TheVariants.{At, Imm, Addr, Index, FrameSlot}
use Rattle.air_ir.specs.declared.operand.Home.{Home}
use Rattle.air_ir.specs.declared.operand.Home.TheVariants.{Tmp, Reg, Spill}
use Rattle.air_ir.specs.declared.operand.Operand.{Operand}
use Rattle.air_ir.specs.declared.operand.Role.{Role}
use Rattle.air_ir.specs.declared.operand.Role.TheVariants.{EarlyDef, Clobber}
use Rattle.air_ir.specs.declared.procedure.AirBlock.{AirBlock}
use Rattle.air_ir.specs.declared.procedure.AirInst.{AirInst}
use Rattle.air_spill.specs.Rewritten.{home_by, is_copy, kept_operands, rewritten, rewritten_block, rewritten_inst, with_operands}
use Rattle.air_spill.specs.Stays.{ComesFrom, ComesFromEach}
use Rattle.air_spill.proofs.Good.{IsLike, is_tmp, like_each, stays}
use Rattle.air_spill.proofs.Members.{AtMostOne, Origin, origin, unmapped}
use Rattle.air_spill.proofs.OpByOp.{copying_op, site-renamed}
use Rattle.air_spill.proofs.Renamed.{listed-renamed, renamed_site}
use Rattle.air_spill.proofs.PartsOnce.{parts_once}
use Rattle.air_spill.proofs.SameRun.{rewritten-other}
use Rattle.air_spill.proofs.SitesMade.{place_of, site_of}
use Rattle.air_ir.specs.declared.assignment.Assignment.{Assignment}
use Rattle.air_ir.specs.declared.procedure.AirProc.{AirProc}
use Rattle.air_flow.specs.Proper.{IsProper}

-- ---- where instructions come from

one_with : (i : AirInst) (os : List Operand) → length (with_operands i os) ≤ 1
one_with i [] = omega arith
one_with i (o ∷ os) = omega arith

at_most_one : (loc : Home → Home) → AtMostOne (rewritten_inst loc)
unfolding rewritten_inst
at_most_one loc i = by (is_copy i.op)
  where
    by : (b : Bool) → length (if b then with_operands i (kept_operands loc i.operands) else rename_inst loc i ∷ []) ≤ 1
    by true = one_with i (kept_operands loc i.operands)
    by false = omega arith

module _ (p : AirProc) (a : Assignment) where
  -- the block at a number is that of the same number, rewritten
  pub record From (block place : ℕ) (j : AirInst) : Type 0 where
    pub of : AirBlock
    pub there : slice_get p.blocks block ≡ Some of
    pub at : Origin (rewritten_inst (home_by a)) of.insts place j

  pub from : (block place : ℕ) (j : AirInst) → StandsAt (rewritten p a) block place j → From block place j
  unfolding rewritten_block
  from block place j at =
      let was = unmapped (rewritten_block (home_by a)) p.blocks block at.of at.block_there in
      record {
        of = was.0;
        there = was.1;
        at = origin (rewritten_inst (home_by a)) (at_most_one (home_by a)) was.0.insts place j
            (ap (λ (b : AirBlock). slice_get b.insts place) was.2 ∙ at.inst_there);
      }

  pub stood : (block place : ℕ) (j : AirInst) (f : From block place j) → StandsAt p block f.at.at f.at.from
  stood block place j f = record { of = f.of; block_there = f.there; inst_there = f.at.there }

  like : (i j : AirInst) → rewritten_inst (home_by a) i ≡ j ∷ [] → IsLike i j
  like i j e = All-head (IsLike i) j [] (subst (All (IsLike i)) e (like_each (home_by a) i))

  -- ---- one site each

  made : (i j : AirInst) → IsLike i j → makes_site (kind_of j.op) j.traps ≡ true
      → makes_site (kind_of i.op) i.traps ≡ true
  made i j is e =
      ap (λ (o : AirOp). makes_site (kind_of o) i.traps) (sym is.op) ∙ ap (makes_site (kind_of j.op)) (sym is.traps) ∙ e

  same_place : (block k l : ℕ) (i j : AirInst) (f : From block k i) (g : From block l j) → f.at.at ≡ g.at.at → k ≡ l
  same_place block k l i j f g e =
      let same : Some f.of ≡ Some g.of = sym f.there ∙ g.there in
      let blocks : f.of ≡ g.of = cc in
      f.at.place ∙ ap (λ (n : ℕ). length (flat_map (rewritten_inst (home_by a)) (take n f.of.insts))) e
      ∙ ap (λ (b : AirBlock). length (flat_map (rewritten_inst (home_by a)) (take g.at.at b.insts))) blocks
      ∙ sym g.at.place

  pub one_site_each : HasOneSiteEach p → HasOneSiteEach (rewritten p a)
  one_site_each once b c k l i j at_i at_j makes_i makes_j value =
      let f = from b k i at_i in
      let g = from c l j at_j in
      let u = like f.at.from i f.at.becomes in
      let v = like g.at.from j g.at.becomes in
      let same = once b c f.at.at g.at.at f.at.from g.at.from (stood b k i f) (stood c l j g)
      (made f.at.from i u makes_i) (made g.at.from j v makes_j)
      (sym u.value ∙ value ∙ v.value)
      in
      (same.0, in_place b c k l i j f g same.0 same.1)
    where
      in_place : (b c k l : ℕ) (i j : AirInst) (f : From b k i) (g : From c l j) → b ≡ c → f.at.at ≡ g.at.at → k ≡ l
      in_place b c k l i j f g e at =
          let there : slice_get p.blocks b ≡ Some g.of = ap (slice_get p.blocks) e ∙ g.there in
          same_place b k l i j f (record { of = g.of; there = there; at = g.at }) at

-- ---- instructions that are expressed

contains_same : (l m : List Operand) (o : Operand) (B : Type 0) → l ≡ m → Contains m o ↔ B → Contains l o ↔ B
contains_same l m o B e is = subst (λ (k : List Operand). Contains k o ↔ B) (sym e) is

no_copy : (map : Stackmap) (v : Value) (o : AirOp) → IsOpOf map v o → is_copy o ≡ false
no_copy map v o is = elim (cases_Bool (is_copy o)) [
  | inl copies ↦ elim (copying_op o copies) [
    | inl move ↦ absurd (subst (IsOpOf map v) move is)
    | inr shuffle ↦ absurd (subst (IsOpOf map v) shuffle is)
  ]
  | inr other ↦ other
]

module _ (p : AirProc) (a : Assignment) (proper : IsProper p a) where
  stands_anywhere : (b3 : Procedure) (id : ℕ) (role : Role) (arg : Arg) → NamesOwn p role arg
      → StandsAnywhere IsTemporary b3 id arg
      → StandsAnywhere IsPlace b3 id (rename_arg (home_by a) arg)
  stands_anywhere b3 id role (At (Tmp k)) own is =
      place_of p a proper k (slice_get a.homes k) (is_tmp p role k own) refl
  stands_anywhere b3 id role (At (Reg reg)) own is = absurd is
  stands_anywhere b3 id role (At (Spill n)) own is = absurd is
  stands_anywhere b3 id role (Imm word) own is = is
  stands_anywhere b3 id role (Addr base offset) own is = absurd is
  stands_anywhere b3 id role (Index base index shift) own is = absurd is
  stands_anywhere b3 id role (FrameSlot number) own is = absurd is

  stands_by : (b3 : Procedure) (id : ℕ) (role : Role) (reg : Option Register) (arg : Arg) → NamesOwn p role arg
      → StandsBy IsTemporary b3 id reg arg
      → StandsBy IsPlace b3 id reg (rename_arg (home_by a) arg)
  stands_by b3 id role (Some reg) arg own is = ap (rename_arg (home_by a)) is
  stands_by b3 id role None arg own is = stands_anywhere b3 id role arg own is

  result_stays : (map' : Stackmap) (v : Value) (reg : Option Register)
      → map (rename (home_by a)) (result_in map' v reg) ≡ result_in map' v reg
  result_stays map' v (Some reg) = refl
  result_stays map' v None = refl

  abbrev Own : Operand → Type 0
  Own o = NamesOwn p o.role o.arg

  child : (b3 : Procedure) (v : Value) (k id : ℕ) (c : Constraint) (o u : Operand) → Own o → rename (home_by a) o ≡ u
      → IsChild IsTemporary b3 v k id c o → IsChild IsPlace b3 v k id c u
  child b3 v k id c o u own e is =
      subst (IsChild IsPlace b3 v k id c) e
      (record {
        role = is.role;
        width = is.width;
        stands = stands_by b3 id o.role (register_for v k) o.arg own
            is.stands;
      })

  reported_own : (os : List Operand) (s : SiteOperands) → os ≡ listed s → All Own os → All Own s.reported
  reported_own os s e own =
      All-behind Own s.inputs s.reported
      (All-front Own (s.inputs ++ s.reported) s.changed
      (All-front Own (s.inputs ++ s.reported ++ s.changed) s.results (subst (All Own) e own)))

  in_places : (i : AirInst) → IsGoodInst p i → (b3 : Procedure) (v : Value) → IsExpressed b3 v i
      → IsExpressedInPlaces b3 v (rename_inst (home_by a) i)
  in_places i good b3 v is =
      let both = site-renamed (home_by a) (stays a) i.op is.site is.fits in
      record {
        value = is.value;
        stackmap = is.stackmap;
        carries = is.carries;
        op = is.op;
        site = renamed_site (home_by a) is.site;
        parts = listed-renamed (home_by a) i.operands is.site is.parts;
        fits = both.0;
        count = length-map is.site.reported (rename (home_by a)) ∙ is.count;
        children = λ k id c u there constraint at.
            let o = unmapped (rename (home_by a)) is.site.reported k u at in
            child b3 v k id c o.0 u (All-at Own is.site.reported k o.0
            (reported_own i.operands is.site is.parts good.names) o.1) o.2
            (is.children k id c o.0 there constraint o.1);
        early = λ r. contains_same (map (rename (home_by a)) is.site.changed) is.site.changed
            (operand_in EarlyDef W64 r) _ both.1 (is.early r);
        late = λ r. contains_same (map (rename (home_by a)) is.site.changed) is.site.changed
            (operand_in Clobber W64 r) _ both.1 (is.late r);
        result = λ patchpoint. ap (map (rename (home_by a))) (is.result patchpoint) ∙ result_stays is.stackmap v
            (result_register v);
      }

  -- whatever parts a site is read off, they are those of the instruction
  obeys : IsWellFormed p → (block place : ℕ) (i : AirInst) → StandsAt p block place i → IsGoodInst p i
      → (b3 : Procedure) (v : Value) → Fits v
      → IsPlaceable v → IsExpressed b3 v i → ObeysInPlaces b3 v (rename_inst (home_by a) i)
  obeys well block place i at good b3 v fits placeable is = record {
    is = in_places i good b3 v is;
    sites = λ s site parts fit from.
        let once : s ≡ renamed_site (home_by a) is.site =
        parts_once i.op s (renamed_site (home_by a) is.site) fit
        (site-renamed (home_by a) (stays a) i.op is.site is.fits).0
        (sym parts ∙ listed-renamed (home_by a) i.operands is.site is.parts) in
        site_of p a block place i well proper at b3 v fits placeable is site
        (subst (λ (t : SiteOperands). IsSiteFrom (rename_inst (home_by a) i) t site) once from);
  }

  comes : IsWellFormed p → (block place : ℕ) (i j : AirInst) → StandsAt p block place i → IsGoodInst p i
      → rewritten_inst (home_by a) i ≡ j ∷ [] → ComesFrom i j
  comes well block place i j at good e =
      let is = like p a i j e in
      record {
        op = is.op;
        value = is.value;
        traps = is.traps;
        expressed = λ b3 v expressed. subst (IsExpressedInPlaces b3 v) (alone b3 v expressed)
            (in_places i good b3 v expressed);
        obeys = λ b3 v fits placeable expressed.
            subst (ObeysInPlaces b3 v) (alone b3 v expressed)
            (obeys well block place i at good b3 v fits placeable expressed);
      }
    where
      alone : (b3 : Procedure) (v : Value) → IsExpressed b3 v i → rename_inst (home_by a) i ≡ j
      alone b3 v expressed =
          let only : rename_inst (home_by a) i ∷ [] ≡ j ∷ [] =
          sym (rewritten-other (home_by a) i (no_copy expressed.stackmap v i.op expressed.op)) ∙ e in cc

  pub comes_from_each : IsWellFormed p → ComesFromEach p (rewritten p a)
  comes_from_each good block place j at =
      let f = from p a block place j at in
      let was = stood p a block place j f in (
        f.at.at,
        f.at.from,
        was,
        comes good block f.at.at f.at.from j was
            (All-at (IsGoodInst p) was.of.insts f.at.at f.at.from
            (All-at (IsGoodBlock p) p.blocks block was.of good.blocks was.block_there).insts was.inst_there)
            f.at.becomes,
      )
