-- Each site of emitted code is that of an instruction, no two are of one value, and the marks stand where they are asked for.
use Rattle.a64_emit.proofs.Weights.{fit_count}
use Rattle.a64_emit.proofs.Light.{test_length}
use Rattle.a64_emit.proofs.CheckParts.{exit_own, result_parts, test_parts}
use Rattle.stackmap.specs.declared.site.Returns.{Returns}
use Rattle.air_ir.specs.declared.operand.Operand.{Operand}
use Rattle.air_ir.specs.declared.op.Test.{Test}
use Rattle.air_ir.specs.SitesInPlaces.{patch_in}
use Rattle.b3_meaning.specs.declared.role.Checked.TheVariants.{Sum, Difference, Product}
use Rattle.b3_meaning.specs.declared.role.Checked.{Checked}
use Rattle.std.proofs.lemmas.Bool.Decides.{nat_tests}
use Rattle.std.proofs.Common.{◌≡◌, ◌≢◌, ◌⊎◌, inl, inr, ⊎_elim, ℕ, suc, ◌^◌, ◌<◌, ◌≤◌, true, false, List, [], ◌∷◌, Some, length, refl, sym, ◌∙◌, subst, arith, Bool, Option, ap, None}
use Rattle.std.specs.Prelude.{All, AllPairs, ◌&&◌, if◌then◌else◌, nat_eq, slice_get, IsSomeAnd}
use Rattle.std.specs.List.{flat_map}
use Rattle.std.proofs.lemmas.List.Elements.{All-append, All-cons, All-head, All-nil, All-tail}
use Rattle.air_frame.proofs.Stacked.{pairs_append}
use Rattle.stackmap.specs.declared.site.Site.{Site}
use Rattle.stackmap.specs.declared.site.Rep.TheVariants.{Slot}
use Rattle.stackmap.specs.declared.site.SiteKind.TheVariants as site_kind
use Rattle.exit_table.specs.Good.{IsGoodRep}
use Rattle.std.proofs.lemmas.Option.{get_or_from_slice_get}
use Rattle.b3_base.specs.declared.word.Width.TheVariants.{W64}
use Rattle.air_ir.specs.Forms.{HasOperands, HasSite, SiteFits, SiteOperands, AtSite, Fits, Result, listed, two_homes, test_takes}
use Rattle.air_ir.specs.WellFormed.{IsGoodBlock, IsGoodInst, IsWellFormed, HasOneSiteEach, StandsAt}
use Rattle.air_ir.specs.declared.op.AirOp.{AirOp}
use Rattle.air_ir.specs.declared.op.AirOp.TheVariants as op
use Rattle.air_frame.specs.Frames.{IsFrameOf, row_of}
use Rattle.air_frame.specs.Needs.{names}
use Rattle.a64_emit.proofs.Outward.{owns_of}
use Rattle.a64_emit.proofs.SitesOutward.{call_own, patch_own}
use Rattle.a64_code.specs.Places.{spill_offset}
use Rattle.air_ir.specs.Kinds.{Calls, Kind, Loads, Patches, Stores, kind_of, makes_site, Checks, ChecksResult}
use Rattle.air_ir.specs.declared.frame.Frame.{Frame}
use Rattle.air_ir.specs.declared.procedure.AirBlock.{AirBlock}
use Rattle.air_ir.specs.declared.procedure.AirInst.{AirInst}
use Rattle.air_ir.specs.declared.procedure.AirProc.{AirProc}
use Rattle.a64_emit.specs.Code.{exits_of, has_exit, has_mark, marks_of, test_count}
use Rattle.a64_emit.specs.Made.{HasSmallValues, HasSmallValuesIn, block_exit_sites, block_sites, exit_by, exit_sites, inner_sites, inst_exit, inst_sites, outward_site, patch_size, procedure_sites, sites_by, trap_site, exit_site}
use Rattle.a64_emit.specs.Sites.{IsCallOf, IsSiteBy, IsSiteIn, IsStackmapOf}
use Rattle.a64_emit.proofs.Opened.{all_at}
use Rattle.a64_emit.proofs.Positions.{exits_counted, inst_counted}

-- ---- lists of what each item gives

-- what holds of what each item gives
pub all_flat : {X A : Type 0} (P : A → Type 0) (f : X → List A) (xs : List X) → ((k : ℕ) (x : X) → slice_get xs k ≡ Some x → All P (f x))
    → All P (flat_map f xs)
all_flat P f [] each = All-nil P
all_flat P f (x ∷ xs) each =
    All-append P (f x) (flat_map f xs) (each 0 x refl) (all_flat P f xs (λ k y there. each (suc k) y there))

all_weaker : {A : Type 0} (P Q : A → Type 0) → ((a : A) → P a → Q a) → (xs : List A) → All P xs → All Q xs
all_weaker P Q weaker [] all = All-nil Q
all_weaker P Q weaker (x ∷ xs) all = All-cons Q x xs (weaker x (All-head P x xs all)) (all_weaker P Q weaker xs (All-tail P x xs all))

-- what is so of each two that items give, where it is so of those of one, and of those of one and a later one
pub pairs_flat : {X A : Type 0} (R : A → A → Type 0) (f : X → List A) (xs : List X)
    → ((k : ℕ) (x : X) → slice_get xs k ≡ Some x → AllPairs R (f x))
    → ((k l : ℕ) (x y : X) → k < l → slice_get xs k ≡ Some x → slice_get xs l ≡ Some y → All (λ a. All (R a) (f y)) (f x))
    → AllPairs R (flat_map f xs)
pairs_flat {A = A} R f [] own other = λ i j d lt within. absurd (omega arith)
pairs_flat {X = X} {A = A} R f (x ∷ xs) own other =
    pairs_append R (f x) (flat_map f xs) (own 0 x refl)
    (pairs_flat R f xs (λ k y there. own (suc k) y there) (λ k l y z lt at_k at_l. other (suc k) (suc l) y z (omega arith) at_k at_l))
    (later (f x) (λ l y there. other 0 (suc l) x y (omega arith) refl there))
  where
    later : (es : List A) → ((l : ℕ) (y : X) → slice_get xs l ≡ Some y → All (λ a. All (R a) (f y)) es) → All (λ a. All (R a) (flat_map f xs)) es
    later [] each = All-nil (λ a. All (R a) (flat_map f xs))
    later (a ∷ es) each =
        All-cons (λ a. All (R a) (flat_map f xs)) a es
        (all_flat (R a) f xs (λ l y there. All-head (λ a. All (R a) (f y)) a es (each l y there)))
        (later es (λ l y there. All-tail (λ a. All (R a) (f y)) a es (each l y there)))

-- ---- the sites of an instruction

-- a site of an instruction
pub record IsOwn (f : Frame) (i : AirInst) (site : Site) : Type 0 where
  pub makes : makes_site (kind_of i.op) i.traps ≡ true
  pub value : site.value ≡ i.value
  pub is : IsSiteBy (kind_of i.op) f i site

-- a site of an instruction of this kind
record IsOwnBy (f : Frame) (kind : Kind) (i : AirInst) (site : Site) : Type 0 where
  makes : makes_site kind i.traps ≡ true
  value : site.value ≡ i.value
  is : IsSiteBy kind f i site

trap_own : (f : Frame) (kind : Kind) (i : AirInst) → (i.traps ≡ true → IsOwnBy f kind i (trap_site i.value))
    → All (IsOwnBy f kind i) (if i.traps then trap_site i.value ∷ [] else [])
trap_own f kind i own =
    elim i.traps as (λ b. i.traps ≡ b → All (IsOwnBy f kind i) (if b then trap_site i.value ∷ [] else [])) [
      | true ↦ λ e. All-cons (IsOwnBy f kind i) (trap_site i.value) [] (own e) (All-nil (IsOwnBy f kind i))
      | false ↦ λ e. All-nil (IsOwnBy f kind i)
    ] refl

-- what is so of the sites of calls and patchpoints
record AreOutward (f : Frame) (kind : Kind) (i : AirInst) : Type 0 where
  calls : (typed : Bool) → kind ≡ Calls typed → IsCallOf typed i (outward_site f site_kind.Call 1 typed 1 i)
  tests : (t : Test) → kind ≡ Checks t → IsStackmapOf f i (exit_site f (test_count t) i)
  results : (checked : Checked) → kind ≡ ChecksResult checked → IsStackmapOf f i (exit_site f 2 i)
  patches : (typed : Bool) → kind ≡ Patches typed → IsStackmapOf f i (outward_site f site_kind.Patchpoint (patch_size i.op) typed 0 i)

own_by : (f : Frame) (kind : Kind) (i : AirInst) → AreOutward f kind i → All (IsOwnBy f kind i) (sites_by kind f i)
own_by f (Loads extent extends) i out = trap_own f (Loads extent extends) i
    (λ traps. record { makes = traps; value = refl; is = record { kind = refl; size = refl; reports = refl; result = refl; clobbers = refl } })
own_by f (Stores extent) i out = trap_own f (Stores extent) i
    (λ traps. record { makes = traps; value = refl; is = record { kind = refl; size = refl; reports = refl; result = refl; clobbers = refl } })
own_by f (Calls typed) i out =
    All-cons (IsOwnBy f (Calls typed) i) (outward_site f site_kind.Call 1 typed 1 i) []
    (record { makes = refl; value = refl; is = out.calls typed refl }) (All-nil (IsOwnBy f (Calls typed) i))
own_by f (Patches typed) i out =
    All-cons (IsOwnBy f (Patches typed) i) (outward_site f site_kind.Patchpoint (patch_size i.op) typed 0 i) []
    (record { makes = refl; value = refl; is = out.patches typed refl }) (All-nil (IsOwnBy f (Patches typed) i))
own_by f kind i out = All-nil (IsOwnBy f kind i)

exit_by_own : (f : Frame) (kind : Kind) (i : AirInst) → AreOutward f kind i → All (IsOwnBy f kind i) (exit_by kind f i)
exit_by_own f (Checks t) i out =
    All-cons (IsOwnBy f (Checks t) i) (exit_site f (test_count t) i) [] (record { makes = refl; value = refl; is = out.tests t refl })
    (All-nil (IsOwnBy f (Checks t) i))
exit_by_own f (ChecksResult checked) i out =
    All-cons (IsOwnBy f (ChecksResult checked) i) (exit_site f 2 i) [] (record { makes = refl; value = refl; is = out.results checked refl })
    (All-nil (IsOwnBy f (ChecksResult checked) i))
exit_by_own f kind i out = All-nil (IsOwnBy f kind i)

-- an instruction has no site of its own beside that of its exit
one_kind : (f : Frame) (kind : Kind) (i : AirInst) → (sites_by kind f i ≡ []) ⊎ (exit_by kind f i ≡ [])
one_kind f (Checks t) i = inl refl
one_kind f (ChecksResult checked) i = inl refl
one_kind f kind i = inr refl

call_op : (o : AirOp) (typed : Bool) → kind_of o ≡ Calls typed → o ≡ op.Call typed
call_op (op.Call t) typed e = cc
call_op o typed e = absurd cc

patch_op : (o : AirOp) (typed : Bool) → kind_of o ≡ Patches typed → o ≡ op.Patch (patch_size o) typed
patch_op (op.Patch size t) typed e = let same : t ≡ typed = cc in ap (op.Patch size) same
patch_op o typed e = absurd cc

test_op : (o : AirOp) (t : Test) → kind_of o ≡ Checks t → o ≡ op.CheckIf t
test_op (op.CheckIf u) t e = cc
test_op o t e = absurd cc

-- the op that checks a result of this kind
abbrev pub check_op : Checked → AirOp
check_op Sum = op.CheckAdd
check_op Difference = op.CheckSub
check_op Product = op.CheckMul

result_op : (o : AirOp) (checked : Checked) → kind_of o ≡ ChecksResult checked → o ≡ check_op checked
result_op op.CheckAdd checked e = let same : Sum ≡ checked = cc in ap check_op same
result_op op.CheckSub checked e = let same : Difference ≡ checked = cc in ap check_op same
result_op op.CheckMul checked e = let same : Product ≡ checked = cc in ap check_op same
result_op o checked e = absurd cc

pub result_site : (r : Returns) (checked : Checked) (os : List Operand) → HasOperands r (check_op checked) os
    → (s : SiteOperands) × (os ≡ listed s) × AtSite two_homes true (λ width. Fits (Result width)) s
result_site r Sum os h = h
result_site r Difference os h = h
result_site r Product os h = h

result_fits : (checked : Checked) (s : SiteOperands) → AtSite two_homes true (λ width. Fits (Result width)) s → SiteFits (check_op checked) s
result_fits Sum s h = h
result_fits Difference s h = h
result_fits Product s h = h

no_patch : (checked : Checked) → patch_in (check_op checked) ≡ None
no_patch Sum = refl
no_patch Difference = refl
no_patch Product = refl

-- ---- the sites of a procedure

-- a list of one has no two
few_apart : {A : Type 0} (R : A → A → Type 0) (xs : List A) → length xs ≤ 1 → AllPairs R xs
few_apart R xs few i j d lt within = absurd (omega arith)

one_mark : (i : AirInst) → marks_of i ≤ 1
one_mark i = elim (has_mark (kind_of i.op) i.traps) as (λ b. (if b then 1 else 0) ≤ 1) [ true ↦ omega arith | false ↦ omega arith ]

one_exit : (i : AirInst) → exits_of i ≤ 1
one_exit i = elim (has_exit (kind_of i.op)) as (λ b. (if b then 1 else 0) ≤ 1) [ true ↦ omega arith | false ↦ omega arith ]

abbrev Differ : Site → Site → Type 0
Differ a b = a.value ≢ b.value

some_of : (o : Option ℕ) (P : ℕ → Type 0) → IsSomeAnd o P → (n : ℕ) × (o ≡ Some n)
some_of None P is = absurd is
some_of (Some n) P is = (n, refl)

module _ (p : AirProc) (f : Frame) (well : IsWellFormed p) (no_tmps : p.tmps ≡ 0) (serves : IsFrameOf p f) where
  spilled : (n : ℕ) → names p n ≡ true → slice_get f.spills n ≡ Some (spill_offset f n)
  spilled n named =
      let there = some_of (slice_get f.spills n) (λ offset. IsGoodRep (row_of f p.slots p.returns) W64 (Slot offset)) (serves.spilled n named) in
      there.1 ∙ ap Some (sym (get_or_from_slice_get f.spills n there.0 0 there.1))

  outward : (b k : ℕ) (i : AirInst) → StandsAt p b k i → AreOutward f (kind_of i.op) i
  outward b k i at =
      let good : IsGoodInst p i = all_at (IsGoodInst p) at.of.insts k i at.inst_there (all_at (IsGoodBlock p) p.blocks b at.of at.block_there well.blocks).insts in
      let owns = owns_of p b k i at good.names no_tmps in
      record {
        calls = λ typed e. call_own p f spilled i owns typed (subst (λ o. HasOperands p.returns o i.operands) (call_op i.op typed e) good.operands);
        tests = λ t e.
            let is = test_op i.op t e in
            let h : HasSite (op.CheckIf t) i.operands = subst (λ o. HasOperands p.returns o i.operands) is good.operands in
            exit_own p i owns f spilled h.0 (test_parts p i owns t h) h.1 (subst (λ o. SiteFits o h.0) (sym is) h.2) (ap patch_in is) (test_count t)
            (fit_count (test_takes t h.2.width) h.0.inputs h.2.fits ∙ test_length t h.2.width);
        results = λ checked e.
            let is = result_op i.op checked e in
            let h = result_site p.returns checked i.operands (subst (λ o. HasOperands p.returns o i.operands) is good.operands) in
            exit_own p i owns f spilled h.0 (result_parts p i owns h.0 h.1 h.2) h.1 (subst (λ o. SiteFits o h.0) (sym is) (result_fits checked h.0 h.2))
            (ap patch_in is ∙ no_patch checked) 2 (fit_count (two_homes h.2.width) h.0.inputs h.2.fits);
        patches = λ typed e. patch_own p f spilled i owns (patch_size i.op) typed (patch_op i.op typed e)
            (subst (λ o. HasOperands p.returns o i.operands) (patch_op i.op typed e) good.operands);
      }

  own_sites : (b k : ℕ) (i : AirInst) → StandsAt p b k i → All (IsOwn f i) (inst_sites f i)
  own_sites b k i at =
      all_weaker (IsOwnBy f (kind_of i.op) i) (IsOwn f i) (λ site own. record { makes = own.makes; value = own.value; is = own.is }) (inst_sites f i)
      (own_by f (kind_of i.op) i (outward b k i at))

  own_exit : (b k : ℕ) (i : AirInst) → StandsAt p b k i → All (IsOwn f i) (inst_exit f i)
  own_exit b k i at =
      all_weaker (IsOwnBy f (kind_of i.op) i) (IsOwn f i) (λ site own. record { makes = own.makes; value = own.value; is = own.is }) (inst_exit f i)
      (exit_by_own f (kind_of i.op) i (outward b k i at))

  at_place : (b k : ℕ) (block : AirBlock) (i : AirInst) → slice_get p.blocks b ≡ Some block → slice_get block.insts k ≡ Some i → StandsAt p b k i
  at_place b k block i there at = record { of = block; block_there = there; inst_there = at }

  -- the sites that instructions give
  abbrev Gives : (AirInst → List Site) → Type 0
  Gives g = (b k : ℕ) (i : AirInst) → StandsAt p b k i → All (IsOwn f i) (g i)

  abbrev all_of : (AirInst → List Site) → List Site
  all_of g = flat_map (λ (b : AirBlock). flat_map g b.insts) p.blocks

  made_by : (g : AirInst → List Site) → Gives g → HasSmallValues p → All (IsSiteIn p f) (all_of g)
  made_by g gives small =
      all_flat (IsSiteIn p f) (λ (b : AirBlock). flat_map g b.insts) p.blocks (λ b block there.
      all_flat (IsSiteIn p f) g block.insts (λ k i at.
      all_weaker (IsOwn f i) (IsSiteIn p f) (λ site own. record {
        block = b;
        place = k;
        inst = i;
        there = at_place b k block i there at;
        makes = own.makes;
        value = own.value;
        small = subst (λ n. n < 2 ^ 32) (sym own.value)
            (all_at (λ (i : AirInst). i.value < 2 ^ 32) block.insts k i at (all_at HasSmallValuesIn p.blocks b block there small));
        is = own.is;
      }) (g i) (gives b k i (at_place b k block i there at))))

  pub sites_made : HasSmallValues p → All (IsSiteIn p f) (procedure_sites p f)
  sites_made small =
      All-append (IsSiteIn p f) (inner_sites p f) (exit_sites p f) (made_by (inst_sites f) own_sites small) (made_by (inst_exit f) own_exit small)

  module _ (one : HasOneSiteEach p) where
    differ : (b c k l : ℕ) (i j : AirInst) (x y : Site) → StandsAt p b k i → StandsAt p c l j → IsOwn f i x → IsOwn f j y → ((b ≡ c) × (k ≡ l) → ⊥)
        → Differ x y
    differ b c k l i j x y at_i at_j own_i own_j other e = other (one b c k l i j at_i at_j own_i.makes own_j.makes (sym own_i.value ∙ e ∙ own_j.value))

    both_apart : (g : AirInst → List Site) → Gives g → (b c k l : ℕ) (i j : AirInst) → StandsAt p b k i → StandsAt p c l j → ((b ≡ c) × (k ≡ l) → ⊥)
        → (x : Site) → IsOwn f i x → All (Differ x) (g j)
    both_apart g gives b c k l i j at_i at_j other x own =
        all_weaker (IsOwn f j) (Differ x) (λ y own_y. differ b c k l i j x y at_i at_j own own_y other) (g j) (gives c l j at_j)

    apart_by : (g : AirInst → List Site) → Gives g → ((i : AirInst) → length (g i) ≤ 1) → AllPairs (λ (a b : Site). a.value ≢ b.value) (all_of g)
    apart_by g gives few =
        pairs_flat Differ (λ (b : AirBlock). flat_map g b.insts) p.blocks
        (λ b block there.
        pairs_flat Differ g block.insts
        (λ k i at. few_apart Differ (g i) (few i))
        (λ k l i j lt at_k at_l.
        all_weaker (IsOwn f i) (λ x. All (Differ x) (g j))
        (both_apart g gives b b k l i j (at_place b k block i there at_k) (at_place b l block j there at_l) (λ same. let e = same.1 in omega arith))
        (g i) (gives b k i (at_place b k block i there at_k))))
        (λ b c block other lt at_b at_c.
        all_flat (λ x. All (Differ x) (flat_map g other.insts)) g block.insts (λ k i at_k.
        all_weaker (IsOwn f i) (λ x. All (Differ x) (flat_map g other.insts))
        (λ x own. all_flat (Differ x) g other.insts
        (λ l j at_l. both_apart g gives b c k l i j (at_place b k block i at_b at_k) (at_place c l other j at_c at_l) (λ same. let e = same.0 in omega arith) x own))
        (g i) (gives b k i (at_place b k block i at_b at_k))))

    -- the exit of an instruction differs from the site of an instruction
    exit_apart : (b c k l : ℕ) (i j : AirInst) → StandsAt p b k i → StandsAt p c l j → inst_exit f i ≡ [] → (x : Site) → IsOwn f i x
        → All (Differ x) (inst_exit f j)
    exit_apart b c k l i j at_i at_j none x own =
        elim (nat_eq b c && nat_eq k l) as (λ t. nat_eq b c && nat_eq k l ≡ t → All (Differ x) (inst_exit f j)) [
          | true ↦ λ e.
              let block : b ≡ c = grind (arith, nat_tests) in
              let place : k ≡ l = grind (arith, nat_tests) in
              let same : i ≡ j = same_inst b c k l i j block place at_i at_j in
              subst (All (Differ x)) (sym none ∙ ap (inst_exit f) same) (All-nil (Differ x))
          | false ↦ λ e. both_apart (inst_exit f) own_exit b c k l i j at_i at_j (λ same. absurd (grind (arith, nat_tests))) x own
        ] refl
      where
        same_inst : (b c k l : ℕ) (i j : AirInst) → b ≡ c → k ≡ l → StandsAt p b k i → StandsAt p c l j → i ≡ j
        same_inst b c k l i j block place at_i at_j =
            let of : Some at_i.of ≡ Some at_j.of = sym at_i.block_there ∙ ap (slice_get p.blocks) block ∙ at_j.block_there in
            let blocks : at_i.of ≡ at_j.of = cc in
            let inst : Some i ≡ Some j =
            sym at_i.inst_there ∙ ap (λ (x : AirBlock). slice_get x.insts k) blocks ∙ ap (slice_get at_j.of.insts) place ∙ at_j.inst_there in
            cc

    across : All (λ x. All (Differ x) (exit_sites p f)) (inner_sites p f)
    across =
        all_flat (λ x. All (Differ x) (exit_sites p f)) (block_sites f) p.blocks (λ b block at_b.
        all_flat (λ x. All (Differ x) (exit_sites p f)) (inst_sites f) block.insts (λ k i at_k.
        ⊎_elim
        (λ (none : inst_sites f i ≡ []). subst (All (λ x. All (Differ x) (exit_sites p f))) (sym none) (All-nil (λ x. All (Differ x) (exit_sites p f))))
        (λ (none : inst_exit f i ≡ []). all_weaker (IsOwn f i) (λ x. All (Differ x) (exit_sites p f))
        (λ x own. all_flat (Differ x) (block_exit_sites f) p.blocks (λ c other at_c.
        all_flat (Differ x) (inst_exit f) other.insts (λ l j at_l.
        exit_apart b c k l i j (at_place b k block i at_b at_k) (at_place c l other j at_c at_l) none x own)))
        (inst_sites f i) (own_sites b k i (at_place b k block i at_b at_k)))
        (one_kind f (kind_of i.op) i)))

    pub sites_apart : AllPairs (λ (a b : Site). a.value ≢ b.value) (procedure_sites p f)
    sites_apart =
        pairs_append Differ (inner_sites p f) (exit_sites p f)
        (apart_by (inst_sites f) own_sites (λ i. let count = inst_counted f i in let few = one_mark i in omega arith))
        (apart_by (inst_exit f) own_exit (λ i. let count = exits_counted f i in let few = one_exit i in omega arith)) across
