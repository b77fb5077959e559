-- What a well-formed procedure is rewritten to is well formed.
use Rattle.std.proofs.Common.{◌≡◌, ◌≢◌, ℕ, zero, suc, ◌+◌, ◌<◌, inl, inr, Bool, true, false, if◌then◌else◌, Option, Some, None, List, [], ◌∷◌, ◌++◌, map, length, get_or, flat_map, All, refl, sym, ap, ◌∙◌, subst, arith}
use Rattle.std.specs.Prelude.{slice_get}
use Rattle.std.proofs.lemmas.Bool.{cases_Bool}
use Rattle.std.proofs.lemmas.Grind.{flat_map-append}
use Rattle.std.proofs.lemmas.List.{length-map}
use Rattle.std.proofs.lemmas.List.Elements.{All-cons, All-map, All-nil, All-weaker}
use Rattle.std.proofs.lemmas.List.Kept.{AllPairs-cons}
use Rattle.std.proofs.lemmas.Option.{slice_get-get_or}
use Rattle.b3_base.proofs.Lists.{All-at}
use Rattle.b3_base.specs.declared.word.Width.{Width}
use Rattle.b3_ir.specs.declared.value.Reg.{Reg as Register}
use Rattle.stackmap.specs.Rules.{IsAllocatable}
use Rattle.air_ir.specs.Forms.{AllFit, AnyWord, ArePairs, HasOperands, Result, Word, WritesApart}
use Rattle.air_ir.specs.Kinds.{target_count, targets_by}
use Rattle.air_ir.specs.Operands.{Target, targets}
use Rattle.air_ir.specs.Related.{IsTarget}
use Rattle.air_ir.specs.Renaming.{Copy, copy_inst, copy_operands, is_joined, kept, rename, rename_arg, rename_copy, rename_inst, source, destination}
use Rattle.air_ir.specs.WellFormed.{IsGoodBlock, IsGoodInst, IsWellFormed, MayName, NamesOwn, NamesSpillsBelow, StandsAt}
use Rattle.air_ir.specs.declared.assignment.Assignment.{Assignment}
use Rattle.air_ir.specs.declared.op.AirOp.{AirOp}
use Rattle.air_ir.specs.declared.op.AirOp.TheVariants as op
use Rattle.air_ir.specs.declared.operand.Arg.{Arg}
use Rattle.air_ir.specs.declared.operand.Arg.TheVariants.{At, Imm, Addr, Index, FrameSlot}
use Rattle.air_ir.specs.declared.operand.Home.{Home}
use Rattle.air_ir.specs.declared.operand.Home.TheVariants.{Tmp, Reg, Spill}
use Rattle.air_ir.specs.declared.operand.Operand.{Operand}
use Rattle.air_ir.specs.declared.operand.Role.{Role}
use Rattle.air_ir.specs.declared.operand.Role.TheVariants.{Use, LateUse, EarlyDef, Def, Clobber}
use Rattle.air_ir.specs.declared.procedure.AirInst.{AirInst}
use Rattle.air_ir.specs.declared.procedure.AirProc.{AirProc}
use Rattle.air_spill.specs.Rewritten.{first_spill, home_by, is_copy, rewritten, rewritten_block, rewritten_inst, standing, kept_operands, with_operands}
use Rattle.air_spill.proofs.Apart.{ToDiffer, written_apart}
use Rattle.air_spill.proofs.CopyForms.{CopyForm, copy_form, copy_kind, pairs_of}
use Rattle.air_spill.proofs.Members.{all_flat}
use Rattle.air_spill.proofs.OpByOp.{copying_op, operands-renamed}
use Rattle.air_spill.proofs.Renamed.{FixesOthers, fits-renamed}
use Rattle.air_spill.proofs.SameRun.{rewritten-copies, rewritten-other}
use Rattle.air_ir.specs.declared.procedure.AirBlock.{AirBlock}
use Rattle.air_flow.specs.Proper.{IsProper}

pub stays : (a : Assignment) → FixesOthers (home_by a)
stays a = record { registers = λ r. refl; spills = λ n. refl }

-- ---- what stays of an instruction

pub record IsLike (i j : AirInst) : Type 0 where
  pub op : j.op ≡ i.op
  pub value : j.value ≡ i.value
  pub traps : j.traps ≡ i.traps

like_with : (i : AirInst) (os : List Operand) → All (IsLike i) (with_operands i os)
like_with i [] = All-nil (IsLike i)
like_with i (o ∷ os) = All-cons (IsLike i) (record i { operands = o ∷ os }) [] (record { op = refl; value = refl; traps = refl }) (All-nil (IsLike i))

pub like_each : (loc : Home → Home) (i : AirInst) → All (IsLike i) (rewritten_inst loc i)
unfolding rewritten_inst
like_each loc i = by (is_copy i.op)
  where
    by : (b : Bool) → All (IsLike i) (if b then with_operands i (kept_operands loc i.operands) else rename_inst loc i ∷ [])
    by true = like_with i (kept_operands loc i.operands)
    by false = All-cons (IsLike i) (rename_inst loc i) [] (record { op = refl; value = refl; traps = refl }) (All-nil (IsLike i))

-- ---- what operands name

pub is_tmp : (p : AirProc) (role : Role) (k : ℕ) → MayName p role (Tmp k) → k < p.tmps
is_tmp p Use k may = may
is_tmp p LateUse k may = may
is_tmp p Def k may = may
is_tmp p EarlyDef k may = may
is_tmp p Clobber k may = may

module _ (p : AirProc) (a : Assignment) (proper : IsProper p a) where
  may_stand : (role : Role) (reg : Register) → IsAllocatable reg → MayName (rewritten p a) role (Reg reg)
  may_stand Use reg is = is
  may_stand LateUse reg is = is
  may_stand Def reg is = is
  may_stand EarlyDef reg (inl low) = (omega (arith, low), omega (arith, low))
  may_stand EarlyDef reg (inr high) = (omega (arith, high.1), omega (arith, high.1))
  may_stand Clobber reg (inl low) = (omega (arith, low), omega (arith, low))
  may_stand Clobber reg (inr high) = (omega (arith, high.1), omega (arith, high.1))

  may_standing : (role : Role) (k : ℕ) (x : Option (Option Register)) → k < p.tmps → slice_get a.homes k ≡ x → MayName (rewritten p a) role (standing k x)
  may_standing role k (Some (Some reg)) lt e = may_stand role reg (proper.registers k reg e)
  may_standing role k (Some None) lt e = by role
    where
      by : (role : Role) → MayName (rewritten p a) role (Spill (first_spill + k))
      by Use = tt
      by LateUse = tt
      by Def = tt
      by EarlyDef = tt
      by Clobber = tt
  may_standing role k None lt e = absurd (let there = slice_get-get_or a.homes k None (omega (arith, lt, proper.tmps)) in cc)

  may_register : (role : Role) (reg : Register) → MayName p role (Reg reg) → MayName (rewritten p a) role (Reg reg)
  may_register Use reg may = may
  may_register LateUse reg may = may
  may_register Def reg may = may
  may_register EarlyDef reg may = may
  may_register Clobber reg may = may

  may_spill : (role : Role) (n : ℕ) → MayName (rewritten p a) role (Spill n)
  may_spill Use n = tt
  may_spill LateUse n = tt
  may_spill Def n = tt
  may_spill EarlyDef n = tt
  may_spill Clobber n = tt

  may-renamed : (role : Role) (h : Home) → MayName p role h → MayName (rewritten p a) role (home_by a h)
  may-renamed role (Tmp k) may = may_standing role k (slice_get a.homes k) (is_tmp p role k may) refl
  may-renamed role (Reg reg) may = may_register role reg may
  may-renamed role (Spill n) may = may_spill role n

  names-renamed : (role : Role) (arg : Arg) → NamesOwn p role arg → NamesOwn (rewritten p a) role (rename_arg (home_by a) arg)
  names-renamed role (At h) own = may-renamed role h own
  names-renamed role (Imm word) own = tt
  names-renamed role (Addr base offset) own = may-renamed role base own
  names-renamed role (Index base index shift) own = (may-renamed role base own.0, may-renamed role index own.1)
  names-renamed role (FrameSlot number) own = own

  abbrev Own : Operand → Type 0
  Own o = NamesOwn p o.role o.arg

  abbrev OwnAfter : Operand → Type 0
  OwnAfter o = NamesOwn (rewritten p a) o.role o.arg

  all_names : (os : List Operand) → All Own os → All OwnAfter (map (rename (home_by a)) os)
  all_names os own =
      All-map OwnAfter (rename (home_by a)) os (All-weaker Own (λ o. OwnAfter (rename (home_by a) o)) (λ o is. names-renamed o.role o.arg is) os own)

-- ---- copies that are left

-- what holds of the renamed operands of copies holds of those that are left
module _ (loc : Home → Home) (P : Operand → Type 0) where
  pub kept_all : (cs : List Copy) → All P (map (rename loc) (copy_operands cs)) → All P (copy_operands (kept loc cs))
  unfolding copy_operands kept
  kept_all [] all = All-nil P
  kept_all (c ∷ cs) all = by (is_joined loc c.from c.to) (kept_all cs (λ k d lt. all (suc (suc k)) d (omega (arith, lt))))
    where
      by : (b : Bool) → All P (copy_operands (kept loc cs)) → All P (copy_operands (if b then kept loc cs else rename_copy loc c ∷ kept loc cs))
      by true rest = rest
      by false rest =
          All-cons P (source (rename_copy loc c)) (destination (rename_copy loc c) ∷ copy_operands (kept loc cs)) (all 0 (source c) (omega arith))
          (All-cons P (destination (rename_copy loc c)) (copy_operands (kept loc cs)) (all 1 (source c) (omega arith)) rest)

module _ (loc : Home → Home) where
  kept_pairs : (cs : List Copy) → ArePairs (copy_operands cs) → ArePairs (copy_operands (kept loc cs))
  unfolding ArePairs AllFit copy_operands kept
  kept_pairs [] pairs = tt
  kept_pairs (c ∷ cs) pairs = by (is_joined loc c.from c.to) (kept_pairs cs pairs.2)
    where
      by : (b : Bool) → ArePairs (copy_operands (kept loc cs)) → ArePairs (copy_operands (if b then kept loc cs else rename_copy loc c ∷ kept loc cs))
      by true rest = rest
      by false rest = (
        pairs.0,
        (fits-renamed loc (Word pairs.0 AnyWord) (source c) pairs.1.0, (fits-renamed loc (Result pairs.0) (destination c) pairs.1.1.0, tt)),
        rest,
      )

  -- each home that is left to be written was written before it was renamed
  kept_target : (cs : List Copy) (h : Home) → IsTarget h (targets (copy_operands (kept loc cs)))
      → (g : Home) × IsTarget g (targets (copy_operands cs)) × (h ≡ loc g)
  unfolding copy_operands kept targets IsTarget
  kept_target [] h is = absurd is
  kept_target (c ∷ cs) h is = by (is_joined loc c.from c.to) is (kept_target cs h)
    where
      by : (b : Bool) → IsTarget h (targets (copy_operands (if b then kept loc cs else rename_copy loc c ∷ kept loc cs)))
          → (IsTarget h (targets (copy_operands (kept loc cs))) → (g : Home) × IsTarget g (targets (copy_operands cs)) × (h ≡ loc g))
          → (g : Home) × IsTarget g (targets (copy_operands (c ∷ cs))) × (h ≡ loc g)
      by true is rest = let r = rest is in (r.0, inr r.1, r.2)
      by false (inl e) rest = (c.to, inl refl, e)
      by false (inr is) rest = let r = rest is in (r.0, inr r.1, r.2)

  kept_differ : (cs : List Copy) → ToDiffer cs
      → ((x y : Home) → IsTarget x (targets (copy_operands cs)) → IsTarget y (targets (copy_operands cs)) → x ≢ y → loc x ≢ loc y)
      → ToDiffer (kept loc cs)
  unfolding copy_operands kept targets IsTarget ToDiffer
  kept_differ [] differ apart = tt
  kept_differ (c ∷ cs) differ apart = by (is_joined loc c.from c.to) (kept_differ cs differ.1 (λ x y u v ne. apart x y (inr u) (inr v) ne))
    where
      by : (b : Bool) → ToDiffer (kept loc cs) → ToDiffer (if b then kept loc cs else rename_copy loc c ∷ kept loc cs)
      by true rest = rest
      by false rest = (
        λ is.
            let g = kept_target cs (loc c.to) is in
            apart c.to g.0 (inl refl) (inr g.1) (λ same. differ.0 (subst (λ (x : Home). IsTarget x (targets (copy_operands cs))) (sym same) g.1)) g.2,
        rest,
      )

at_target : (h : Home) (ts : List Target) (k : ℕ) (d : Target) → k < length ts → IsTarget (get_or ts k d).home ts
unfolding IsTarget
at_target h [] k d lt = absurd (omega (arith, lt))
at_target h (t ∷ ts) zero d lt = inl refl
at_target h (t ∷ ts) (suc k) d lt = inr (at_target h ts k d (omega (arith, lt)))

apart_differ : (cs : List Copy) → ToDiffer cs → WritesApart (copy_operands cs)
unfolding copy_operands targets ToDiffer
apart_differ [] differ = λ i j d lt within. absurd (omega (arith, within))
apart_differ (c ∷ cs) differ =
    AllPairs-cons (λ (a b : Target). a.home ≢ b.home) (record { home = c.to; width = c.width }) (targets (copy_operands cs))
    (λ k d lt same. differ.0 (subst (λ (x : Home). IsTarget x (targets (copy_operands cs))) (sym same) (at_target c.to (targets (copy_operands cs)) k d lt)))
    (apart_differ cs differ.1)

-- one copy that is left of a Move is that of a Move
move_left : (loc : Home → Home) (width : Width) (cs ks : List Copy) → AllFit (Word width AnyWord ∷ Result width ∷ []) (copy_operands cs) → ks ≡ kept loc cs
    → (c : Copy) (rest : List Copy) → ks ≡ c ∷ rest → AllFit (Word width AnyWord ∷ Result width ∷ []) (copy_operands ks)
unfolding AllFit copy_operands kept
move_left loc width [] ks fits e c rest f = absurd fits
move_left loc width (b ∷ d ∷ cs) ks fits e c rest f = absurd fits.1.1
move_left loc width (b ∷ []) ks fits e c rest f = by (is_joined loc b.from b.to) e
  where
    by : (joined : Bool) → ks ≡ (if joined then [] else rename_copy loc b ∷ []) → AllFit (Word width AnyWord ∷ Result width ∷ []) (copy_operands ks)
    by true g = absurd (let none : c ∷ rest ≡ [] = sym f ∙ g in cc)
    by false g =
        subst (λ (l : List Copy). AllFit (Word width AnyWord ∷ Result width ∷ []) (copy_operands l)) (sym g)
        (fits-renamed loc (Word width AnyWord) (source b) fits.0, (fits-renamed loc (Result width) (destination b) fits.1.0, tt))

-- ---- instructions

module _ (p : AirProc) (a : Assignment) (good : IsWellFormed p) (proper : IsProper p a) (named : NamesSpillsBelow first_spill p) where
  module _ (block place : ℕ) (i : AirInst) (at : StandsAt p block place i) where
    good_inst : IsGoodInst p i
    good_inst = All-at (IsGoodInst p) at.of.insts place i (All-at (IsGoodBlock p) p.blocks block at.of good.blocks at.block_there).insts at.inst_there

    other_good : is_copy i.op ≡ false → IsGoodInst (rewritten p a) (rename_inst (home_by a) i)
    other_good e = record {
      operands = operands-renamed (home_by a) (stays a) p.returns i.op i.operands e good_inst.operands;
      names = all_names p a proper i.operands good_inst.names;
    }

    copy_has : (form : CopyForm i.operands) → is_copy i.op ≡ true → (ks : List Copy) → ks ≡ kept (home_by a) form.copies
        → (c : Copy) (rest : List Copy) → ks ≡ c ∷ rest
        → HasOperands p.returns i.op (copy_operands ks)
    copy_has form e ks is c rest f =
        elim (copying_op i.op e) [
          | inl move ↦
              let has : HasOperands p.returns op.Move (copy_operands form.copies) =
              subst (HasOperands p.returns op.Move) form.are (subst (λ (o : AirOp). HasOperands p.returns o i.operands) move good_inst.operands) in
              let left : HasOperands p.returns op.Move (copy_operands ks) = (has.0, has.1, move_left (home_by a) has.0 form.copies ks has.2 is c rest f) in
              subst (λ (o : AirOp). HasOperands p.returns o (copy_operands ks)) (sym move) left
          | inr shuffle ↦
              let pairs = pairs_of p.returns i.op i.operands e good_inst.operands in
              let written : (x : Home) → IsTarget x (targets (copy_operands form.copies)) → IsTarget x (targets i.operands) =
              λ x t. subst (λ (os : List Operand). IsTarget x (targets os)) (sym form.are) t in
              let apart : (x y : Home) → IsTarget x (targets (copy_operands form.copies)) → IsTarget y (targets (copy_operands form.copies))
              → x ≢ y → home_by a x ≢ home_by a y =
              λ x y u v ne. written_apart p a good proper named block place i at x y (written x u) (written y v) ne in
              let left : HasOperands p.returns op.Shuffle (copy_operands (kept (home_by a) form.copies)) = (
                kept_pairs (home_by a) form.copies (subst ArePairs form.are pairs.0),
                apart_differ (kept (home_by a) form.copies) (kept_differ (home_by a) form.copies form.differ apart),
              ) in
              subst (λ (o : AirOp). HasOperands p.returns o (copy_operands ks)) (sym shuffle)
              (subst (λ (l : List Copy). HasOperands p.returns op.Shuffle (copy_operands l)) (sym is) left)
        ]

    copy_names : (form : CopyForm i.operands) → All (λ (o : Operand). NamesOwn (rewritten p a) o.role o.arg) (copy_operands (kept (home_by a) form.copies))
    copy_names form =
        kept_all (home_by a) (λ (o : Operand). NamesOwn (rewritten p a) o.role o.arg) form.copies
        (subst (λ (os : List Operand). All (λ (o : Operand). NamesOwn (rewritten p a) o.role o.arg) (map (rename (home_by a)) os))
        form.are (all_names p a proper i.operands good_inst.names))

    copies_good : (form : CopyForm i.operands) → is_copy i.op ≡ true → (ks : List Copy) → ks ≡ kept (home_by a) form.copies
        → All (IsGoodInst (rewritten p a)) (copy_inst i ks)
    copies_good form e [] is = All-nil (IsGoodInst (rewritten p a))
    copies_good form e (c ∷ ks) is =
        All-cons (IsGoodInst (rewritten p a)) (record i { operands = copy_operands (c ∷ ks) }) [] (record {
          operands = copy_has form e (c ∷ ks) is c ks refl;
          names = subst (λ (l : List Copy). All (λ (o : Operand). NamesOwn (rewritten p a) o.role o.arg) (copy_operands l)) (sym is) (copy_names form);
        }) (All-nil (IsGoodInst (rewritten p a)))

    pub insts_good : All (IsGoodInst (rewritten p a)) (rewritten_inst (home_by a) i)
    insts_good = elim (cases_Bool (is_copy i.op)) [
      | inr other ↦
          subst (All (IsGoodInst (rewritten p a))) (sym (rewritten-other (home_by a) i other))
          (All-cons (IsGoodInst (rewritten p a)) (rename_inst (home_by a) i) [] (other_good other) (All-nil (IsGoodInst (rewritten p a))))
      | inl e ↦
          let form = copy_form p.returns i.op i.operands e good_inst.operands in
          subst (All (IsGoodInst (rewritten p a))) (sym (rewritten-copies (home_by a) i form.copies e form.are))
          (copies_good form e (kept (home_by a) form.copies) refl)
    ]

  -- ---- blocks

  ends_no_copy : (o : AirOp) (n : ℕ) → target_count o ≡ Some n → is_copy o ≡ false
  ends_no_copy o n e = elim (cases_Bool (is_copy o)) [
    | inl copies ↦ absurd (let none : target_count o ≡ None = ap targets_by (copy_kind o copies) in cc)
    | inr other ↦ other
  ]

  module _ (block : ℕ) (of : AirBlock) (there : slice_get p.blocks block ≡ Some of) where
    was_good : IsGoodBlock p of
    was_good = All-at (IsGoodBlock p) p.blocks block of good.blocks there

    last_alone : rewritten_inst (home_by a) was_good.last ≡ rename_inst (home_by a) was_good.last ∷ []
    last_alone = rewritten-other (home_by a) was_good.last (ends_no_copy was_good.last.op (length of.targets) was_good.ends)

    parts_after : flat_map (rewritten_inst (home_by a)) of.insts
        ≡ flat_map (rewritten_inst (home_by a)) was_good.body ++ rename_inst (home_by a) was_good.last ∷ []
    parts_after =
        ap (flat_map (rewritten_inst (home_by a))) was_good.parts
        ∙ flat_map-append (rewritten_inst (home_by a)) was_good.body (was_good.last ∷ [])
        ∙ ap (λ (l : List AirInst). flat_map (rewritten_inst (home_by a)) was_good.body ++ (l ++ [])) last_alone

    insts_after : All (IsGoodInst (rewritten p a)) (flat_map (rewritten_inst (home_by a)) of.insts)
    insts_after =
        all_flat (λ (i : AirInst). All (IsGoodInst (rewritten p a)) (rewritten_inst (home_by a) i))
        (IsGoodInst (rewritten p a)) (rewritten_inst (home_by a)) of.insts (λ i all. all)
        (λ k d lt. insts_good block k (get_or of.insts k d) (record { of = of; block_there = there; inst_there = slice_get-get_or of.insts k d lt }))

    abbrev IsInner : AirInst → Type 0
    IsInner i = target_count i.op ≡ None

    inner_after : All IsInner (flat_map (rewritten_inst (home_by a)) was_good.body)
    inner_after =
        all_flat IsInner IsInner (rewritten_inst (home_by a)) was_good.body
        (λ i none. All-weaker (IsLike i) IsInner (λ j like. ap target_count like.op ∙ none)
        (rewritten_inst (home_by a) i) (like_each (home_by a) i)) was_good.inner

    block_good : IsGoodBlock (rewritten p a) (rewritten_block (home_by a) of)
    unfolding rewritten_block
    block_good = record {
      body = flat_map (rewritten_inst (home_by a)) was_good.body;
      last = rename_inst (home_by a) was_good.last;
      parts = parts_after;
      inner = inner_after;
      ends = was_good.ends;
      targets = All-weaker (λ (target : ℕ). (0 < target) × (target < length p.blocks)) (λ (target : ℕ). (0 < target) × (target < length (rewritten p a).blocks))
          (λ target in_range. (in_range.0, omega (arith, in_range.1, length-map p.blocks (rewritten_block (home_by a))))) of.targets was_good.targets;
      insts = insts_after;
    }

  pub well : IsWellFormed (rewritten p a)
  well = record {
    entry = omega (arith, good.entry, length-map p.blocks (rewritten_block (home_by a)));
    blocks = All-map (IsGoodBlock (rewritten p a)) (rewritten_block (home_by a)) p.blocks
        (λ k d lt. block_good k (get_or p.blocks k d) (slice_get-get_or p.blocks k d lt));
  }
