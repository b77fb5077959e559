-- How much the instructions of a site weigh.
use Rattle.std.proofs.Common.{◌≡◌, ℕ, ◌+◌, ◌*◌, ◌≤◌, Bool, true, false, List, [], ◌∷◌, ◌++◌, Option, Some, None, zero, suc, length, length-append, refl, arith, cond, max}
use Rattle.std.specs.List.{sum_by}
use Rattle.std.proofs.lemmas.List.Sums.{sum_by-append, sum_by-cons}
use Rattle.b3_base.specs.declared.word.Width.{Width}
use Rattle.b3_base.specs.declared.word.Width.TheVariants.{W64}
use Rattle.b3_ir.specs.declared.value.Constraint.{Constraint}
use Rattle.b3_ir.specs.declared.value.Reg.{Reg as Register}
use Rattle.b3_ir.specs.declared.value.Stackmap.{Stackmap}
use Rattle.b3_ir.specs.declared.value.Value.{Value}
use Rattle.stackmap.specs.Placing.{register_for, result_register}
use Rattle.stackmap.specs.Registers.{constraints_of, has, stackmap_in}
use Rattle.air_ir.specs.Expressed.{result_in}
use Rattle.air_ir.specs.Forms.{AllFit, Fits, Immediates, IsHome, IsWord, NoImmediate, OfSum, OneIs, Result, operand_in, test_takes, two_homes}
use Rattle.air_ir.specs.Weight.{arg_words, home_words, inst_weight, is_shuffle, op_words, words_by}
use Rattle.air_ir.specs.declared.op.AirOp.{AirOp}
use Rattle.air_ir.specs.declared.op.AirOp.TheVariants as op
use Rattle.air_ir.specs.declared.op.Test.{Test}
use Rattle.air_ir.specs.declared.op.Test.TheVariants.{Compare, NonZero, Bit}
use Rattle.air_ir.specs.declared.operand.Arg.{Arg}
use Rattle.air_ir.specs.declared.operand.Arg.TheVariants.{At, Imm, Addr, Index, FrameSlot}
use Rattle.air_ir.specs.declared.operand.Home.{Home}
use Rattle.air_ir.specs.declared.operand.Home.TheVariants.{Tmp, Reg, Spill}
use Rattle.air_ir.specs.declared.operand.Operand.{Operand}
use Rattle.air_ir.specs.declared.operand.Role.{Role}
use Rattle.air_ir.specs.declared.operand.Role.TheVariants.{EarlyDef, Clobber}
use Rattle.air_stackmap.specs.Described.{ComputesWith, HasWords, Sums}
use Rattle.air_stackmap.specs.SiteCode.{arg_by, changed, changed_by, child_moves, in_each, in_one, is_changed_early, moved, moves_from, place_of, report_by, reported, reports_from, results_by, site_code, site_inst}
use Rattle.air_stackmap.specs.declared.child.Child.{Child}
use Rattle.air_stackmap.proofs.Listing.{in_each_count}

-- at most so many words and so many operands
pub record Light (words count : ℕ) (os : List Operand) : Type 0 where
  pub few_words : sum_by (λ (o : Operand). arg_words o.arg) os ≤ words
  pub few : length os ≤ count

joined : (a b m n : ℕ) (xs ys : List Operand) → Light a m xs → Light b n ys → Light (a + b) (m + n) (xs ++ ys)
joined a b m n xs ys x y =
    let w = sum_by-append (λ (o : Operand). arg_words o.arg) xs ys in
    let l = length-append xs ys in
    let xw = x.few_words in
    let yw = y.few_words in
    let xc = x.few in
    let yc = y.few in
    record { few_words = omega (arith, w, xw, yw); few = omega (arith, l, xc, yc) }

none_light : (a m : ℕ) → Light a m []
none_light a m = record { few_words = omega arith; few = omega arith }

home_light : (h : Home) → home_words h ≤ 2
home_light (Tmp n) = omega arith
home_light (Reg reg) = omega arith
home_light (Spill n) = omega arith

-- ---- children

by_light : (constant : Option ℕ) (h : Home) → arg_words (arg_by constant h) ≤ 3
by_light (Some word) h = omega arith
by_light None h = let l = home_light h in omega (arith, l)

place_light : (register : Option Register) (c : Child) → arg_words (place_of register c) ≤ 3
place_light (Some reg) c = omega arith
place_light None c = by_light c.constant c.home

reports_light : (v : Value) (k : ℕ) (wants : List Constraint) (cs : List Child) → Light (3 * length cs) (length cs) (reports_from v k wants cs)
unfolding reports_from
reports_light v k [] cs = none_light (3 * length cs) (length cs)
reports_light v k (a ∷ wants) [] = none_light 0 0
reports_light v k (a ∷ wants) (c ∷ cs) =
    let rest = reports_light v (suc k) wants cs in
    let w = rest.few_words in
    let n = rest.few in
    let one = place_light (register_for v k) c in
    more (report_by a (register_for v k) c) (reports_from v (suc k) wants cs) one w n
  where
    more : (o : Operand) (os : List Operand) → arg_words o.arg ≤ 3 → sum_by (λ (o : Operand). arg_words o.arg) os ≤ 3 * length cs → length os ≤ length cs
        → Light (3 * length (c ∷ cs)) (length (c ∷ cs)) (o ∷ os)
    more o os one w n =
        let both = sum_by-cons (λ (q : Operand). arg_words q.arg) o os in
        record { few_words = omega (arith, w, one, both); few = omega (arith, n) }

-- ---- registers that are changed

one_light : (role : Role) (n : ℕ) (b : Bool) → sum_by (λ (o : Operand). arg_words o.arg) (cond b (operand_in role W64 n ∷ []) []) ≤ 0
one_light role n true = omega arith
one_light role n false = omega arith

each_words : (role : Role) (is : ℕ → Bool) (n : ℕ) → sum_by (λ (o : Operand). arg_words o.arg) (in_each role is n) ≤ 0
unfolding in_each
each_words role is zero = omega arith
each_words role is (suc n) =
    let rest = each_words role is n in
    let both = sum_by-append (λ (o : Operand). arg_words o.arg) (in_each role is n) (in_one role is n) in
    let one = one_light role n (is n) in
    omega (arith, rest, both, one)

changed_light : (v : Value) (m : Option Stackmap) → Light 0 62 (changed_by v m)
changed_light v (Some map) =
    joined 0 0 31 31 (in_each EarlyDef (is_changed_early v map) 31) (in_each Clobber (has map.late) 31)
    (record { few_words = each_words EarlyDef (is_changed_early v map) 31; few = in_each_count EarlyDef (is_changed_early v map) 31 })
    (record { few_words = each_words Clobber (has map.late) 31; few = in_each_count Clobber (has map.late) 31 })
changed_light v None = none_light 0 62

-- ---- what is computed with

word_light : (immediates : Immediates) (width : Width) (arg : Arg) → IsWord immediates width arg → arg_words arg ≤ 3
word_light immediates width (At h) is = let l = home_light h in omega (arith, l)
word_light immediates width (Imm word) is = omega arith
word_light immediates width (Addr base offset) is = absurd is
word_light immediates width (Index base index shift) is = absurd is
word_light immediates width (FrameSlot number) is = absurd is

home_arg_light : (arg : Arg) → IsHome arg → arg_words arg ≤ 3
home_arg_light (At h) is = let l = home_light h in omega (arith, l)
home_arg_light (Imm word) is = absurd is
home_arg_light (Addr base offset) is = absurd is
home_arg_light (Index base index shift) is = absurd is
home_arg_light (FrameSlot number) is = absurd is

two_light : (a b : Operand) → arg_words a.arg ≤ 3 → arg_words b.arg ≤ 3 → Light 6 2 (a ∷ b ∷ [])
two_light a b x y = record { few_words = omega (arith, x, y); few = omega arith }

single_light : (a : Operand) → arg_words a.arg ≤ 3 → Light 6 2 (a ∷ [])
single_light a x = record { few_words = omega (arith, x); few = omega arith }

tested_light : (test : Test) (width : Width) (os : List Operand) → AllFit (test_takes test width) os → Light 6 2 os
unfolding AllFit
tested_light (Compare condition) width [] fits = absurd fits
tested_light (Compare condition) width (a ∷ []) fits = absurd fits.1
tested_light (Compare condition) width (a ∷ b ∷ []) fits = two_light a b (word_light NoImmediate width a.arg fits.0.2) (word_light OfSum width b.arg fits.1.0.2)
tested_light (Compare condition) width (a ∷ b ∷ c ∷ os) fits = absurd fits.1.1
tested_light NonZero width [] fits = absurd fits
tested_light NonZero width (a ∷ []) fits = single_light a (word_light NoImmediate width a.arg fits.0.2)
tested_light NonZero width (a ∷ b ∷ os) fits = absurd fits.1
tested_light (Bit bit) width [] fits = absurd fits
tested_light (Bit bit) width (a ∷ []) fits = single_light a (home_arg_light a.arg fits.0.2)
tested_light (Bit bit) width (a ∷ b ∷ os) fits = absurd fits.1

homes_light : (width : Width) (os : List Operand) → AllFit (two_homes width) os → Light 6 2 os
unfolding AllFit
homes_light width [] fits = absurd fits
homes_light width (a ∷ []) fits = absurd fits.1
homes_light width (a ∷ b ∷ []) fits = two_light a b (word_light NoImmediate width a.arg fits.0.2) (word_light NoImmediate width b.arg fits.1.0.2)
homes_light width (a ∷ b ∷ c ∷ os) fits = absurd fits.1.1

result_light : (width : Width) (os : List Operand) → OneIs true (Fits (Result width)) os → Light 3 1 os
result_light width [] is = absurd is
result_light width (a ∷ []) is = (let x = home_arg_light a.arg is.2 in record { few_words = omega (arith, x); few = omega arith })
result_light width (a ∷ b ∷ os) is = absurd is

patch_light : (v : Value) (m : Option Stackmap) (o : Option Register) → Light 3 1 (results_by v m)
patch_light v None o = none_light 3 1
patch_light v (Some map) o = by (result_register v)
  where
    by : (r : Option Register) → Light 3 1 (result_in map v r)
    by (Some reg) = record { few_words = omega arith; few = omega arith }
    by None = none_light 3 1

-- ---- the whole

-- what an op has at most of words of its own, of inputs and of results
pub record Parts (o : AirOp) (ins outs : List Operand) : Type 0 where
  pub op : op_words o ≤ 64
  pub plain : is_shuffle o ≡ false
  pub inputs : Light 6 2 ins
  pub results : Light 3 1 outs

sums_parts : (o : AirOp) (inputs results : List Operand) → op_words o ≤ 64 → is_shuffle o ≡ false → Sums inputs results → Parts o inputs results
sums_parts o inputs results few plain sums =
    record { op = few; plain = plain; inputs = homes_light sums.0 inputs sums.1; results = result_light sums.0 results sums.2 }

parts : (v : Value) (o : AirOp) (inputs results : List Operand) → HasWords o → ComputesWith v o inputs results → Parts o inputs results
parts v (op.CheckIf test) inputs results few is =
    record { op = omega arith; plain = refl; inputs = tested_light test is.0 inputs is.1; results = rw is.2 (none_light 3 1) }
parts v op.CheckAdd inputs results few is = sums_parts op.CheckAdd inputs results (omega arith) refl is
parts v op.CheckSub inputs results few is = sums_parts op.CheckSub inputs results (omega arith) refl is
parts v op.CheckMul inputs results few is = sums_parts op.CheckMul inputs results (omega arith) refl is
parts v (op.Patch size typed) inputs results few is =
    record { op = few; plain = refl; inputs = rw is.0 (none_light 6 2); results = rw is.1 (patch_light v (stackmap_in v.body) (result_register v)) }
parts v _ inputs results few is = absurd is

module _ (v : Value) where
  operands_light : (inputs : List Operand) (cs : List Child) (results : List Operand) → Light 6 2 inputs → Light 3 1 results
      → Light (6 + 3 * length cs + 0 + 3) (2 + length cs + 62 + 1) (inputs ++ reported v cs ++ changed v ++ results)
  operands_light inputs cs results x y =
      joined (6 + 3 * length cs + 0) 3 (2 + length cs + 62) 1 (inputs ++ reported v cs ++ changed v) results
      (joined (6 + 3 * length cs) 0 (2 + length cs) 62 (inputs ++ reported v cs) (changed v)
      (joined 6 (3 * length cs) 2 (length cs) inputs (reported v cs) x (reports_light v 0 (constraints_of v) cs)) (changed_light v (stackmap_in v.body))) y

  heavier : (o : AirOp) (os : List Operand) (w n most : ℕ) → is_shuffle o ≡ false → op_words o ≤ 64 → Light w n os → 64 + w ≤ most → 1 + n ≤ most
      → max (words_by o os) (1 + length os) ≤ most
  heavier o os w n most plain few light a b =
      let lw = light.few_words in
      let ln = light.few in
      rw plain (omega (arith, few, lw, ln, a, b))

  pub site_light : (o : AirOp) (inputs : List Operand) (cs : List Child) (results : List Operand) → HasWords o → ComputesWith v o inputs results
      → inst_weight (site_inst v o inputs cs results) ≤ 73 + 3 * length cs
  site_light o inputs cs results few is =
      let p = parts v o inputs results few is in
      heavier o (inputs ++ reported v cs ++ changed v ++ results) (6 + 3 * length cs + 0 + 3) (2 + length cs + 62 + 1) (73 + 3 * length cs) p.plain p.op
      (operands_light inputs cs results p.inputs p.results) (omega arith) (omega arith)

  moved_light : (register : Option Register) (c : Child) → sum_by inst_weight (moved v register c) ≤ 4
  moved_light (Some reg) c = let l = by_light c.constant c.home in omega (arith, l)
  moved_light None c = omega arith

  moves_light : (k : ℕ) (cs : List Child) → sum_by inst_weight (moves_from v k cs) ≤ 4 * length cs
  unfolding moves_from
  moves_light k [] = omega arith
  moves_light k (c ∷ cs) =
      let rest = moves_light (suc k) cs in
      let one = moved_light (register_for v k) c in
      let both = sum_by-append inst_weight (moved v (register_for v k) c) (moves_from v (suc k) cs) in
      omega (arith, rest, one, both)

  -- a site weighs at most 73 and 7 for each child
  pub code_light : (o : AirOp) (inputs : List Operand) (cs : List Child) (results : List Operand) → HasWords o → ComputesWith v o inputs results
      → sum_by inst_weight (site_code v o inputs cs results) ≤ 73 + 7 * length cs
  code_light o inputs cs results few is =
      let moves = moves_light 0 cs in
      let one = site_light o inputs cs results few is in
      let both = sum_by-append inst_weight (child_moves v cs) (site_inst v o inputs cs results ∷ []) in
      omega (arith, moves, one, both)
