-- The instructions of ops and tests have their fields in range, and access no memory.
use Rattle.std.proofs.Common.{◌≡◌, ℕ, ◌-◌, ◌*◌, ◌/◌, ◌%◌, ◌^◌, ◌<◌, ◌≤◌, Bool, true, false, Option, Some, None, refl, sym, ap, subst, arith}
use Rattle.std.specs.Prelude.{nat_le, IsSome, if◌then◌else◌}
use Rattle.std.proofs.Math.Nat.{mod-lt}
use Rattle.std.proofs.lemmas.Bool.Decides.{nat_tests}
use Rattle.std.proofs.lemmas.Bool.{leb-true}
use Rattle.b3_base.specs.BitMask.{element_bits}
use Rattle.b3_base.specs.MaskFields.{fields_of_mask}
use Rattle.b3_base.specs.Word.{bits}
use Rattle.b3_base.specs.declared.word.Width.{Width}
use Rattle.b3_base.specs.declared.word.Width.TheVariants.{W32, W64}
use Rattle.b3_base.proofs.MaskSearch.{found_turned}
use Rattle.b3_base.proofs.Masks.{element_bits-le, element_bits-pos}
use Rattle.b3_base.proofs.Widths.{bits-pos}
use Rattle.a64_inst.specs.Step.{Registers}
use Rattle.a64_inst.specs.StepData.{shift_of}
use Rattle.a64_inst.specs.WellFormed.{IsWellFormed}
use Rattle.a64_inst.specs.declared.inst.Inst.{Inst}
use Rattle.a64_inst.specs.declared.inst.Inst.TheVariants.{AddSubImm}
use Rattle.a64_inst.specs.declared.inst.LogicOp.{LogicOp}
use Rattle.a64_inst.specs.declared.inst.LogicOp.TheVariants as logic
use Rattle.a64_inst.specs.declared.inst.ShiftKind.{ShiftKind}
use Rattle.a64_inst.specs.declared.inst.ShiftKind.TheVariants.{Lslv, Lsrv, Asrv, Rorv}
use Rattle.a64_run.specs.Machine.{touched}
use Rattle.air_ir.specs.Forms.{OfSum, is_short, IsImmediate}
use Rattle.air_ir.specs.declared.op.AirOp.{AirOp}
use Rattle.air_ir.specs.declared.op.AirOp.TheVariants as op
use Rattle.air_ir.specs.declared.op.Test.{Test}
use Rattle.air_ir.specs.declared.op.Test.TheVariants.{Compare, NonZero, Bit}
use Rattle.a64_code.specs.Computing.{computing, logic_by, move_reg, move_shifted, reg_of, shift_by, short_sum, sum_by, sum_with, testing}
use Rattle.a64_code.specs.Fitting.{IsComputed, IsMasked, IsSummed, IsTested}
use Rattle.a64_code.specs.declared.source.Source.{Source}
use Rattle.a64_code.specs.declared.source.Source.TheVariants.{InReg, Constant}
use Rattle.a64_code.proofs.Ops.{fields_name, turned_short}

-- an instruction whose fields are in range and that accesses nothing
pub record IsPlain (i : Inst) : Type 0 where
  pub fields : IsWellFormed i
  pub touches : (r : Registers) → touched i r ≡ None

either_plain : (b : Bool) (i j : Inst) → (b ≡ true → IsPlain i) → (b ≡ false → IsPlain j) → IsPlain (if b then i else j)
either_plain true i j first second = first refl
either_plain false i j first second = second refl

some_there : (o : Option ℕ) (k : ℕ) → o ≡ Some k → IsSome o
some_there o k e = subst IsSome (sym e) refl

most_short : (k : ℕ) → is_short k ≡ true → k ≤ 4095 * 4096
most_short k short = grind (arith, nat_tests)

short_plain : (width : Width) (sub flags : Bool) (rd rn k : ℕ) → rd ≤ 31 → rn ≤ 31 → is_short k ≡ true → IsPlain (short_sum width sub flags rd rn k)
short_plain width sub flags rd rn k le_rd le_rn short =
    let most = most_short k short in
    either_plain (nat_le k 4095) (AddSubImm width sub flags rd rn k false) (AddSubImm width sub flags rd rn (k / 4096) true)
    (λ e. let le = leb-true k 4095 e in record { fields = (le_rd, le_rn, omega arith); touches = λ r. refl })
    (λ e. record { fields = (le_rd, le_rn, omega arith); touches = λ r. refl })

with_plain : (width : Width) (sub flags : Bool) (rd rn k : ℕ) → rd ≤ 31 → rn ≤ 31 → IsImmediate OfSum width k → IsPlain (sum_with width sub flags rd rn k)
with_plain width false flags rd rn k le_rd le_rn fits =
    either_plain (is_short k) (short_sum width false flags rd rn k) (short_sum width true flags rd rn (2 ^ bits width - k))
    (λ e. short_plain width false flags rd rn k le_rd le_rn e)
    (λ e. short_plain width true flags rd rn (2 ^ bits width - k) le_rd le_rn (turned_short width k e fits))
with_plain width true flags rd rn k le_rd le_rn fits =
    either_plain (is_short k) (short_sum width true flags rd rn k) (short_sum width false flags rd rn (2 ^ bits width - k))
    (λ e. short_plain width true flags rd rn k le_rd le_rn e)
    (λ e. short_plain width false flags rd rn (2 ^ bits width - k) le_rd le_rn (turned_short width k e fits))

bits_most : (width : Width) (n : ℕ) → n % bits width < bits width
bits_most W32 n = omega arith
bits_most W64 n = omega arith

pub sum_plain : (width : Width) (sub flags : Bool) (rd rn : ℕ) (b : Source) → rd ≤ 31 → rn ≤ 31 → reg_of b ≤ 31 → IsSummed width b → IsPlain (sum_by width sub flags rd rn b)
sum_plain width sub flags rd rn (InReg rm) le_rd le_rn le_rm fits = record { fields = (le_rd, le_rn, le_rm, omega arith, bits-pos width); touches = λ r. refl }
sum_plain width sub flags rd rn (Constant k) le_rd le_rn le_rm fits = with_plain width sub flags rd rn k le_rd le_rn fits.1

less_most : (a b : ℕ) → a < b → b ≤ 64 → a < 64
less_most a b lt le = omega arith

logic_plain : (width : Width) (o : LogicOp) (rd rn : ℕ) (b : Source) → rd ≤ 31 → rn ≤ 31 → reg_of b ≤ 31 → IsMasked width b → IsPlain (logic_by width o rd rn b)
logic_plain width o rd rn (InReg rm) le_rd le_rn le_rm fits = record { fields = (le_rd, le_rn, le_rm, omega arith, bits-pos width); touches = λ r. refl }
logic_plain width o rd rn (Constant k) le_rd le_rn le_rm fits =
    let named = fits.1 in
    let found = found_turned width named.0 named.1 named.2 k (omega (arith, named.3)) (omega (arith, named.5)) named.6 in
    let n : (fields_of_mask width k).0 ≡ named.0 = ap (λ (t : ℕ × ℕ × ℕ). t.0) found in
    let immr : (fields_of_mask width k).1 ≡ named.1 % element_bits named.0 named.2 = ap (λ (t : ℕ × ℕ × ℕ). t.1) found in
    let imms : (fields_of_mask width k).2 ≡ named.2 = ap (λ (t : ℕ × ℕ × ℕ). t.2) found in
    let turn : named.1 % element_bits named.0 named.2 < element_bits named.0 named.2 = mod-lt named.1 (element_bits-pos named.0 named.2) in
    let size : element_bits named.0 named.2 ≤ 64 = element_bits-le named.0 named.2 in
    record {
      fields = (
        le_rd,
        le_rn,
        subst (λ v. v < 2) (sym n) named.3,
        subst (λ v. v < 64) (sym immr) (less_most _ _ turn size),
        subst (λ v. v < 64) (sym imms) named.5,
        some_there _ k (fields_name width k named),
      );
      touches = λ r. refl;
    }

shift_most : (kind : ShiftKind) → shift_of kind ≤ 3
shift_most Lslv = omega arith
shift_most Lsrv = omega arith
shift_most Asrv = omega arith
shift_most Rorv = omega arith

pub moved_plain : (width : Width) (rd rm shift amount : ℕ) → rd ≤ 31 → rm ≤ 31 → shift ≤ 3 → amount < bits width → IsPlain (move_shifted width rd rm shift amount)
moved_plain width rd rm shift amount le_rd le_rm le_shift lt = record { fields = (le_rd, omega arith, le_rm, le_shift, lt); touches = λ r. refl }

pub move_plain : (width : Width) (rd rm : ℕ) → rd ≤ 31 → rm ≤ 31 → IsPlain (move_reg width rd rm)
move_plain width rd rm le_rd le_rm = moved_plain width rd rm 0 0 le_rd le_rm (omega arith) (bits-pos width)

shift_plain : (width : Width) (kind : ShiftKind) (rd rn : ℕ) (b : Source) → rd ≤ 31 → rn ≤ 31 → reg_of b ≤ 31 → IsPlain (shift_by width kind rd rn b)
shift_plain width kind rd rn (InReg rm) le_rd le_rn le_rm = record { fields = (le_rd, le_rn, le_rm); touches = λ r. refl }
shift_plain width kind rd rn (Constant k) le_rd le_rn le_rm = moved_plain width rd rn (shift_of kind) (k % bits width) le_rd le_rn (shift_most kind) (bits_most width k)

pub computing_plain : (o : AirOp) (width : Width) (rd : ℕ) (a b c : Source) → rd ≤ 31 → reg_of a ≤ 31 → reg_of b ≤ 31 → reg_of c ≤ 31 → IsComputed o width b
    → IsPlain (computing o width rd a b c)
unfolding computing
computing_plain op.Add width rd a b c le_rd le_a le_b le_c fits = sum_plain width false false rd (reg_of a) b le_rd le_a le_b fits
computing_plain op.Sub width rd a b c le_rd le_a le_b le_c fits = record { fields = (le_rd, le_a, le_b, omega arith, bits-pos width); touches = λ r. refl }
computing_plain op.Neg width rd a b c le_rd le_a le_b le_c fits = record { fields = (le_rd, omega arith, le_a, omega arith, bits-pos width); touches = λ r. refl }
computing_plain op.Mul width rd a b c le_rd le_a le_b le_c fits = record { fields = (le_rd, le_a, le_b, omega arith); touches = λ r. refl }
computing_plain op.MulSub width rd a b c le_rd le_a le_b le_c fits = record { fields = (le_rd, le_a, le_b, le_c); touches = λ r. refl }
computing_plain op.Div width rd a b c le_rd le_a le_b le_c fits = record { fields = (le_rd, le_a, le_b); touches = λ r. refl }
computing_plain op.UDiv width rd a b c le_rd le_a le_b le_c fits = record { fields = (le_rd, le_a, le_b); touches = λ r. refl }
computing_plain op.And width rd a b c le_rd le_a le_b le_c fits = logic_plain width logic.And rd (reg_of a) b le_rd le_a le_b fits
computing_plain op.Or width rd a b c le_rd le_a le_b le_c fits = logic_plain width logic.Orr rd (reg_of a) b le_rd le_a le_b fits
computing_plain op.Xor width rd a b c le_rd le_a le_b le_c fits = logic_plain width logic.Eor rd (reg_of a) b le_rd le_a le_b fits
computing_plain op.Lsl width rd a b c le_rd le_a le_b le_c fits = shift_plain width Lslv rd (reg_of a) b le_rd le_a le_b
computing_plain op.Lsr width rd a b c le_rd le_a le_b le_c fits = shift_plain width Lsrv rd (reg_of a) b le_rd le_a le_b
computing_plain op.Asr width rd a b c le_rd le_a le_b le_c fits = shift_plain width Asrv rd (reg_of a) b le_rd le_a le_b
computing_plain op.Ror width rd a b c le_rd le_a le_b le_c fits = shift_plain width Rorv rd (reg_of a) b le_rd le_a le_b
computing_plain op.Clz width rd a b c le_rd le_a le_b le_c fits = record { fields = (le_rd, le_a); touches = λ r. refl }
computing_plain op.SExt8 width rd a b c le_rd le_a le_b le_c fits = record { fields = (le_rd, le_a, omega arith, omega arith); touches = λ r. refl }
computing_plain op.SExt16 width rd a b c le_rd le_a le_b le_c fits = record { fields = (le_rd, le_a, omega arith, omega arith); touches = λ r. refl }
computing_plain op.SExt32 width rd a b c le_rd le_a le_b le_c fits = record { fields = (le_rd, le_a, omega arith, omega arith); touches = λ r. refl }
computing_plain op.ZExt32 width rd a b c le_rd le_a le_b le_c fits = move_plain W32 rd (reg_of a) le_rd le_a
computing_plain op.MulHigh width rd a b c le_rd le_a le_b le_c fits = record { fields = (le_rd, le_a, le_b); touches = λ r. refl }
computing_plain op.UMulHigh width rd a b c le_rd le_a le_b le_c fits = record { fields = (le_rd, le_a, le_b); touches = λ r. refl }
computing_plain o width rd a b c le_rd le_a le_b le_c fits = record { fields = tt; touches = λ r. refl }

last_bit : (width : Width) (k : ℕ) → bits width - 1 - k < bits width
last_bit W32 k = omega arith
last_bit W64 k = omega arith

pub testing_plain : (t : Test) (width : Width) (a b : Source) → reg_of a ≤ 31 → reg_of b ≤ 31 → IsTested t width b → IsPlain (testing t width a b)
unfolding testing
testing_plain (Compare cond) width a b le_a le_b fits = sum_plain width true true 31 (reg_of a) b (omega arith) le_a le_b fits
testing_plain NonZero width a b le_a le_b fits = record { fields = (omega arith, le_a, omega arith); touches = λ r. refl }
testing_plain (Bit k) width a b le_a le_b fits = record { fields = (omega arith, omega arith, le_a, omega arith, last_bit width k); touches = λ r. refl }
