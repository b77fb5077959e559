-- What the instruction of a site reads and writes.
use Rattle.std.proofs.Common.{◌≡◌, ◌≢◌, ◌⊎◌, ◌∙◌, ℕ, List, [], ◌∷◌, ◌++◌, Option, Some, None, zero, suc, inl, inr, length, refl, ap, subst, arith, cond, All, Bool, true, false, append-nil}
use Rattle.b3_base.specs.declared.word.Width.{Width}
use Rattle.b3_base.specs.declared.word.Width.TheVariants.{W64}
use Rattle.b3_ir.specs.declared.value.Constraint.{Constraint}
use Rattle.b3_ir.specs.declared.value.Constraint.TheVariants.{SomeEarlyRegister}
use Rattle.b3_ir.specs.declared.value.Reg.{Reg as Register}
use Rattle.b3_ir.specs.declared.value.Stackmap.{Stackmap}
use Rattle.b3_ir.specs.declared.value.Value.{Value}
use Rattle.stackmap.specs.Placing.{register_for, result_register}
use Rattle.stackmap.specs.Registers.{constraints_of, has, is_late, stackmap_in}
use Rattle.stackmap.specs.Rules.{IsPlaceable}
use Rattle.air_ir.specs.Expressed.{IsTemporary, result_in, result_role}
use Rattle.air_ir.specs.Forms.{AllFit, Fits, OneIs, Result, operand_in, test_takes, two_homes}
use Rattle.air_ir.specs.Operands.{Held, Homes, Read, Target, and_target, and_word, indexed, is_given, is_read, moved, read, targets, word_of, words}
use Rattle.air_ir.specs.Related.{IsTarget}
use Rattle.air_ir.specs.declared.op.AirOp.{AirOp}
use Rattle.air_ir.specs.declared.op.AirOp.TheVariants as op
use Rattle.air_ir.specs.declared.op.Test.{Test}
use Rattle.air_ir.specs.declared.op.Test.TheVariants.{Compare, NonZero, Bit}
use Rattle.air_ir.specs.declared.operand.Arg.{Arg}
use Rattle.air_ir.specs.declared.operand.Arg.TheVariants.{At, Imm, Addr, Index, FrameSlot}
use Rattle.air_ir.specs.declared.operand.Home.{Home}
use Rattle.air_ir.specs.declared.operand.Home.TheVariants.{Tmp, Reg, Spill}
use Rattle.air_ir.specs.declared.operand.Operand.{Operand}
use Rattle.air_ir.specs.declared.operand.Role.{Role}
use Rattle.air_ir.specs.declared.operand.Role.TheVariants.{Use, LateUse, EarlyDef, Def, Clobber}
use Rattle.air_stackmap.specs.Described.{ComputesWith}
use Rattle.air_stackmap.specs.Running.{HaveWords, IsFree, StandsFree, moved_homes, reads_of}
use Rattle.air_stackmap.specs.SiteCode.{changed, changed_by, in_each, in_one, is_changed_early, patch_results, place_of, reported, reports_from, results_by, site_inst}
use Rattle.air_stackmap.specs.declared.child.Child.{Child}
use Rattle.air_stackmap.proofs.Running.{moves_keep, reported_words}

-- ---- lists of operands

both_read : Option (List Read) → Option (List Read) → Option (List Read)
both_read (Some a) (Some b) = Some (a ++ b)
both_read (Some a) None = None
both_read None b = None

and_both : (width : Width) (x : Option ℕ) (a b : Option (List Read)) → and_word width x (both_read a b) ≡ both_read (and_word width x a) b
unfolding both_read
and_both width (Some w) (Some a) (Some b) = refl
and_both width (Some w) (Some a) None = refl
and_both width (Some w) None b = refl
and_both width None a b = refl

-- each operand by itself
words_append : (homes : Homes) (xs ys : List Operand) → words homes (xs ++ ys) ≡ both_read (words homes xs) (words homes ys)
unfolding words both_read
words_append homes [] ys = none (words homes ys)
  where
    none : (o : Option (List Read)) → o ≡ both_read (Some []) o
    none (Some a) = refl
    none None = refl
words_append homes (o ∷ xs) ys = by (is_given (is_read o.role) o.arg) (words_append homes xs ys)
  where
    by : (b : Bool) → words homes (xs ++ ys) ≡ both_read (words homes xs) (words homes ys)
        → cond b (and_word o.width (word_of homes o.width o.arg) (words homes (xs ++ ys))) (words homes (xs ++ ys))
        ≡ both_read (cond b (and_word o.width (word_of homes o.width o.arg) (words homes xs)) (words homes xs)) (words homes ys)
    by true e = ap (and_word o.width (word_of homes o.width o.arg)) e ∙ and_both o.width (word_of homes o.width o.arg) (words homes xs) (words homes ys)
    by false e = e

both_words : (homes : Homes) (xs ys : List Operand) (a b : List Read) → words homes xs ≡ Some a → words homes ys ≡ Some b
    → words homes (xs ++ ys) ≡ Some (a ++ b)
unfolding both_read
both_words homes xs ys a b e f = words_append homes xs ys ∙ ap (λ (o : Option (List Read)). both_read o (words homes ys)) e ∙ ap (both_read (Some a)) f

and_target_append : (reads : Bool) (width : Width) (arg : Arg) (us vs : List Target)
    → and_target reads width arg (us ++ vs) ≡ and_target reads width arg us ++ vs
and_target_append true width arg us vs = refl
and_target_append false width (At h) us vs = refl
and_target_append false width (Imm word) us vs = refl
and_target_append false width (Addr base offset) us vs = refl
and_target_append false width (Index base index shift) us vs = refl
and_target_append false width (FrameSlot number) us vs = refl

targets_append : (xs ys : List Operand) → targets (xs ++ ys) ≡ targets xs ++ targets ys
unfolding targets
targets_append [] ys = refl
targets_append (o ∷ xs) ys =
    ap (and_target (is_read o.role) o.width o.arg) (targets_append xs ys) ∙ and_target_append (is_read o.role) o.width o.arg (targets xs) (targets ys)

-- ---- registers that are changed are only written

changed_read : (homes : Homes) (role : Role) (is : ℕ → Bool) (n : ℕ) → is_read role ≡ false → words homes (in_each role is n) ≡ Some []
unfolding words in_each
changed_read homes role is zero e = refl
changed_read homes role is (suc n) e =
    both_words homes (in_each role is n) (in_one role is n) [] [] (changed_read homes role is n e) (by (is n))
  where
    by : (b : Bool) → words homes (cond b (operand_in role W64 n ∷ []) []) ≡ Some []
    by true = rw e refl
    by false = refl

pub changed_reads_none : (homes : Homes) (v : Value) → words homes (changed v) ≡ Some []
unfolding words
changed_reads_none homes v = by (stackmap_in v.body)
  where
    by : (o : Option Stackmap) → words homes (changed_by v o) ≡ Some []
    by (Some map) = both_words homes (in_each EarlyDef (is_changed_early v map) 31) (in_each Clobber (has map.late) 31) [] []
        (changed_read homes EarlyDef (is_changed_early v map) 31 refl) (changed_read homes Clobber (has map.late) 31 refl)
    by None = refl

-- ---- results are only written

result_read : (homes : Homes) (o : Operand) (h : Home) → is_read o.role ≡ false → o.arg ≡ At h → words homes (o ∷ []) ≡ Some []
unfolding words
result_read homes o h e f = rw (e, f) refl

is_home : (arg : Arg) → (λ (a : Arg). Fits (Result W64) (record { role = Def; width = W64; arg = a })) arg → (h : Home) × (arg ≡ At h)
is_home (At h) is = (h, refl)
is_home (Imm word) is = absurd is.2
is_home (Addr base offset) is = absurd is.2
is_home (Index base index shift) is = absurd is.2
is_home (FrameSlot number) is = absurd is.2

one_result : (homes : Homes) (width : Width) (os : List Operand) → OneIs true (Fits (Result width)) os → words homes os ≡ Some []
one_result homes width [] is = absurd is
one_result homes width (o ∷ []) is =
    let h = is_home o.arg (refl, refl, is.2) in result_read homes o h.0 (ap is_read is.0) h.1
one_result homes width (o ∷ p ∷ os) is = absurd is

role_writes : (c : Constraint) → is_read (result_role c) ≡ false
role_writes SomeEarlyRegister = refl
role_writes _ = refl

patch_read : (homes : Homes) (v : Value) → words homes (patch_results v) ≡ Some []
unfolding words
patch_read homes v = by (stackmap_in v.body)
  where
    for : (map : Stackmap) (r : Option Register) → words homes (result_in map v r) ≡ Some []
    for map (Some reg) = rw (role_writes map.result) refl
    for map None = refl

    by : (o : Option Stackmap) → words homes (results_by v o) ≡ Some []
    by (Some map) = for map (result_register v)
    by None = refl

pub results_read_none : (homes : Homes) (v : Value) (o : AirOp) (inputs results : List Operand) → ComputesWith v o inputs results
    → words homes results ≡ Some []
unfolding words
results_read_none homes v (op.CheckIf test) inputs results is = rw is.2 refl
results_read_none homes v op.CheckAdd inputs results is = one_result homes is.0 results is.2
results_read_none homes v op.CheckSub inputs results is = one_result homes is.0 results is.2
results_read_none homes v op.CheckMul inputs results is = one_result homes is.0 results is.2
results_read_none homes v (op.Patch size typed) inputs results is = rw is.1 (patch_read homes v)
results_read_none homes v _ inputs results is = absurd is

-- ---- the whole

-- after the moves, the site reads what its inputs read and then the words of the children, in order
pub site_reads : (v : Value) (map : Stackmap) → stackmap_in v.body ≡ Some map → IsPlaceable v
    → (o : AirOp) (inputs : List Operand) (cs : List Child) (results : List Operand) (ins : List Read) (ws : List ℕ) (homes : Homes)
    → ComputesWith v o inputs results
    → length cs ≡ length (constraints_of v) → All StandsFree cs → HaveWords homes cs ws → words (moved_homes v 0 cs ws homes) inputs ≡ Some ins
    → words (moved_homes v 0 cs ws homes) (site_inst v o inputs cs results).operands ≡ Some (ins ++ reads_of cs ws)
site_reads v map carries placeable o inputs cs results ins ws homes with_ counts free have reads =
    let final = moved_homes v 0 cs ws homes in
    both_words final (inputs ++ reported v cs ++ changed v) results (ins ++ reads_of cs ws) []
    (both_words final (inputs ++ reported v cs) (changed v) (ins ++ reads_of cs ws) []
    (both_words final inputs (reported v cs) ins (reads_of cs ws) reads (reported_words v map carries placeable cs ws homes counts free have))
    (changed_reads_none final v) ∙ ap Some (append-nil (ins ++ reads_of cs ws)))
    (results_read_none final v o inputs results with_) ∙ ap Some (append-nil (ins ++ reads_of cs ws))

-- inputs that name temporaries alone read the same after the moves
word_kept : (homes next : Homes) (width : Width) (arg : Arg) → IsFree arg → ((g : Home) → IsTemporary g → next g ≡ homes g)
    → word_of next width arg ≡ word_of homes width arg
unfolding word_of
word_kept homes next width (At h) free kept = ap (read width) (kept h free)
word_kept homes next width (Imm word) free kept = refl
word_kept homes next width (Addr base offset) free kept = ap (λ (h : Held). moved offset (read W64 h)) (kept base free)
word_kept homes next width (Index base index shift) free kept =
    ap (λ (h : Held). indexed shift (read W64 h) (read W64 (next index))) (kept base free.0)
    ∙ ap (λ (h : Held). indexed shift (read W64 (homes base)) (read W64 h)) (kept index free.1)
word_kept homes next width (FrameSlot number) free kept = refl

words_kept : (homes next : Homes) (os : List Operand) → All (λ (o : Operand). IsFree o.arg) os → ((g : Home) → IsTemporary g → next g ≡ homes g)
    → words next os ≡ words homes os
unfolding words
words_kept homes next [] free kept = refl
words_kept homes next (o ∷ os) free kept =
    rw (word_kept homes next o.width o.arg (free 0 o (omega arith)) kept, words_kept homes next os (λ i d less. free (suc i) d (omega (arith, less))) kept) refl

pub inputs_read : (v : Value) (cs : List Child) (ws : List ℕ) (homes : Homes) (inputs : List Operand) → All (λ (o : Operand). IsFree o.arg) inputs
    → words (moved_homes v 0 cs ws homes) inputs ≡ words homes inputs
inputs_read v cs ws homes inputs free = words_kept homes (moved_homes v 0 cs ws homes) inputs free (λ g is. moves_keep v 0 cs ws homes g is)

-- ---- what it writes

reports_write_none : (v : Value) (k : ℕ) (wants : List Constraint) (cs : List Child) → targets (reports_from v k wants cs) ≡ []
unfolding targets reports_from
reports_write_none v k [] cs = refl
reports_write_none v k (a ∷ wants) [] = refl
reports_write_none v k (a ∷ wants) (c ∷ cs) = by (is_late a) (place_of (register_for v k) c) (reports_write_none v (suc k) wants cs)
  where
    by : (b : Bool) (arg : Arg) → targets (reports_from v (suc k) wants cs) ≡ []
        → and_target (is_read (cond b LateUse Use)) c.width arg (targets (reports_from v (suc k) wants cs)) ≡ []
    by true arg e = e
    by false arg e = e

use_writes : (os : List Operand) (o : Operand) → o.role ≡ Use → targets (o ∷ os) ≡ targets os
unfolding targets
use_writes os o e = rw e refl

test_writes_none : (test : Test) (width : Width) (os : List Operand) → AllFit (test_takes test width) os → targets os ≡ []
unfolding AllFit targets
test_writes_none (Compare condition) width [] fits = absurd fits
test_writes_none (Compare condition) width (a ∷ []) fits = absurd fits.1
test_writes_none (Compare condition) width (a ∷ b ∷ []) fits = use_writes (b ∷ []) a fits.0.0 ∙ use_writes [] b fits.1.0.0
test_writes_none (Compare condition) width (a ∷ b ∷ c ∷ os) fits = absurd fits.1.1
test_writes_none NonZero width [] fits = absurd fits
test_writes_none NonZero width (a ∷ []) fits = use_writes [] a fits.0.0
test_writes_none NonZero width (a ∷ b ∷ os) fits = absurd fits.1
test_writes_none (Bit bit) width [] fits = absurd fits
test_writes_none (Bit bit) width (a ∷ []) fits = use_writes [] a fits.0.0
test_writes_none (Bit bit) width (a ∷ b ∷ os) fits = absurd fits.1

homes_write_none : (width : Width) (os : List Operand) → AllFit (two_homes width) os → targets os ≡ []
unfolding AllFit targets
homes_write_none width [] fits = absurd fits
homes_write_none width (a ∷ []) fits = absurd fits.1
homes_write_none width (a ∷ b ∷ []) fits = use_writes (b ∷ []) a fits.0.0 ∙ use_writes [] b fits.1.0.0
homes_write_none width (a ∷ b ∷ c ∷ os) fits = absurd fits.1.1

inputs_write_none : (v : Value) (o : AirOp) (inputs results : List Operand) → ComputesWith v o inputs results → targets inputs ≡ []
unfolding targets
inputs_write_none v (op.CheckIf test) inputs results is = test_writes_none test is.0 inputs is.1
inputs_write_none v op.CheckAdd inputs results is = homes_write_none is.0 inputs is.1
inputs_write_none v op.CheckSub inputs results is = homes_write_none is.0 inputs is.1
inputs_write_none v op.CheckMul inputs results is = homes_write_none is.0 inputs is.1
inputs_write_none v (op.Patch size typed) inputs results is = rw is.0 refl
inputs_write_none v _ inputs results is = absurd is

-- the site writes the registers that are changed and then its results
pub site_writes : (v : Value) (o : AirOp) (inputs : List Operand) (cs : List Child) (results : List Operand) → ComputesWith v o inputs results
    → targets (site_inst v o inputs cs results).operands ≡ targets (changed v) ++ targets results
site_writes v o inputs cs results with_ =
    targets_append (inputs ++ reported v cs ++ changed v) results
    ∙ ap (λ (ts : List Target). ts ++ targets results)
    (targets_append (inputs ++ reported v cs) (changed v)
    ∙ ap (λ (ts : List Target). ts ++ targets (changed v))
    (targets_append inputs (reported v cs) ∙ ap (λ (ts : List Target). ts ++ targets (reported v cs)) (inputs_write_none v o inputs results with_)
    ∙ reports_write_none v 0 (constraints_of v) cs))

-- and no register that is changed is a temporary
target_cases : (g : Home) (xs ys : List Target) → IsTarget g (xs ++ ys) → IsTarget g xs ⊎ IsTarget g ys
unfolding IsTarget
target_cases g [] ys there = inr there
target_cases g (x ∷ xs) ys there = elim there [
  | inl here ↦ inl (inl here)
  | inr later ↦ elim (target_cases g xs ys later) [ inl before ↦ inl (inr before) | inr behind ↦ inr behind ]
]

not_register : (g : Home) (reg : Register) → IsTemporary g → g ≢ Reg reg
not_register (Tmp n) reg is e = cc
not_register (Reg r) reg is e = absurd is
not_register (Spill n) reg is e = absurd is

one_target : (g : Home) (role : Role) (n : ℕ) (b : Bool) → is_read role ≡ false → IsTemporary g
    → IsTarget g (targets (cond b (operand_in role W64 n ∷ []) [])) → ⊥
unfolding targets IsTarget
one_target g role n true e free there =
    let made : targets (operand_in role W64 n ∷ []) ≡ record { home = Reg (record { 0 = n }); width = W64 } ∷ [] = rw e refl in
    elim (subst (IsTarget g) made there) [ inl here ↦ not_register g (record { 0 = n }) free here | inr none ↦ none ]
one_target g role n false e free there = there

each_target : (g : Home) (role : Role) (is : ℕ → Bool) (n : ℕ) → is_read role ≡ false → IsTemporary g → IsTarget g (targets (in_each role is n)) → ⊥
unfolding targets in_each IsTarget
each_target g role is zero e free there = there
each_target g role is (suc n) e free there =
    elim (target_cases g (targets (in_each role is n)) (targets (in_one role is n))
    (subst (IsTarget g) (targets_append (in_each role is n) (in_one role is n)) there)) [
      | inl before ↦ each_target g role is n e free before
      | inr last ↦ one_target g role n (is n) e free last
    ]

pub changed_are_registers : (v : Value) (g : Home) → IsTemporary g → IsTarget g (targets (changed v)) → ⊥
unfolding targets IsTarget
changed_are_registers v g free there = by (stackmap_in v.body) there
  where
    by : (o : Option Stackmap) → IsTarget g (targets (changed_by v o)) → ⊥
    by None there = there
    by (Some map) there =
        elim (target_cases g (targets (in_each EarlyDef (is_changed_early v map) 31)) (targets (in_each Clobber (has map.late) 31))
        (subst (IsTarget g) (targets_append (in_each EarlyDef (is_changed_early v map) 31) (in_each Clobber (has map.late) 31)) there)) [
          | inl early ↦ each_target g EarlyDef (is_changed_early v map) 31 refl free early
          | inr late ↦ each_target g Clobber (has map.late) 31 refl free late
        ]
