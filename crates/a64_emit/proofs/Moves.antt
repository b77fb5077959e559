-- Constants put in registers, and copies.
use Rattle.std.proofs.Common.{◌≡◌, ◌≢◌, ℕ, zero, suc, ◌+◌, ◌-◌, ◌*◌, ◌/◌, ◌%◌, ◌^◌, ◌<◌, ◌≤◌, Bool, true, false, List, [], ◌∷◌, None, refl, sym, ap, ◌∙◌, subst, arith, nat_eq, eqb-true}
use Rattle.std.specs.Prelude.{if◌then◌else◌}
use Rattle.b3_base.proofs.Widths.{width-word}
use Rattle.b3_base.specs.Word.{bits}
use Rattle.b3_base.specs.declared.word.Width.{Width}
use Rattle.b3_base.specs.declared.word.Width.TheVariants.{W32, W64}
use Rattle.a64_inst.specs.Step.{AreWords, Bytes, Registers, step_of, goes_on, low_bits, put, move_wide, with_half}
use Rattle.a64_inst.specs.Values.{complement}
use Rattle.a64_inst.specs.declared.inst.Inst.{Inst}
use Rattle.a64_layout.specs.Machine.{Machine, moved_to}
use Rattle.a64_code.specs.Constants.{constant, filling, half_count, half_move, half_moves, half_word, is_inverted}
use Rattle.a64_emit.specs.Setting.{Setting}
use Rattle.a64_run.specs.Machine.{touched}
use Rattle.a64_code.proofs.Ops.{puts_of, read_is}
use Rattle.a64_emit.proofs.Straight.{DoesOne, IsWhole, does_first, does_none}
use Rattle.a64_emit.proofs.Words.{Puts, put_other, put_same, put_words, puts_by_one, puts_one, whole_same, with_reg}

-- ---- values

-- a word of a width in which each half-word is the filling
abbrev pub filled : Width → Bool → ℕ
filled width true = 2 ^ bits width - 1
filled width false = 0

-- the first n half-words are those of a word, and the others the filling
abbrev pub started_word : Width → Bool → ℕ → ℕ → ℕ
started_word width inverted word n = word % 2 ^ (16 * n) + filled width inverted / 2 ^ (16 * n) * 2 ^ (16 * n)

half_most : (word hw : ℕ) → half_word word hw ≤ 65535
half_most word hw = omega arith

-- one half-word more, where the others stay
next_word : (width : Width) (inverted : Bool) (word hw : ℕ) → hw < half_count width
    → with_half (started_word width inverted word hw) (16 * hw) (half_word word hw) ≡ started_word width inverted word (hw + 1)
next_word W32 true word zero lt = omega arith
next_word W32 false word zero lt = omega arith
next_word W32 true word (suc zero) lt = omega arith
next_word W32 false word (suc zero) lt = omega arith
next_word W32 true word (suc (suc n)) lt = absurd (omega arith)
next_word W32 false word (suc (suc n)) lt = absurd (omega arith)
next_word W64 true word zero lt = omega arith
next_word W64 false word zero lt = omega arith
next_word W64 true word (suc zero) lt = omega arith
next_word W64 false word (suc zero) lt = omega arith
next_word W64 true word (suc (suc zero)) lt = omega arith
next_word W64 false word (suc (suc zero)) lt = omega arith
next_word W64 true word (suc (suc (suc zero))) lt = omega arith
next_word W64 false word (suc (suc (suc zero))) lt = omega arith
next_word W64 true word (suc (suc (suc (suc n)))) lt = absurd (omega arith)
next_word W64 false word (suc (suc (suc (suc n)))) lt = absurd (omega arith)

-- the first one, on the filling
first_word : (width : Width) (inverted : Bool) (word hw : ℕ) → hw < half_count width → started_word width inverted word hw ≡ filled width inverted
    → with_half (filled width inverted) (16 * hw) (half_word word hw) ≡ started_word width inverted word (hw + 1)
first_word W32 true word zero lt e = omega arith
first_word W32 false word zero lt e = omega arith
first_word W32 true word (suc zero) lt e = omega arith
first_word W32 false word (suc zero) lt e = omega arith
first_word W32 true word (suc (suc n)) lt e = absurd (omega arith)
first_word W32 false word (suc (suc n)) lt e = absurd (omega arith)
first_word W64 true word zero lt e = omega arith
first_word W64 false word zero lt e = omega arith
first_word W64 true word (suc zero) lt e = omega arith
first_word W64 false word (suc zero) lt e = omega arith
first_word W64 true word (suc (suc zero)) lt e = omega arith
first_word W64 false word (suc (suc zero)) lt e = omega arith
first_word W64 true word (suc (suc (suc zero))) lt e = omega arith
first_word W64 false word (suc (suc (suc zero))) lt e = omega arith
first_word W64 true word (suc (suc (suc (suc n)))) lt e = absurd (omega arith)
first_word W64 false word (suc (suc (suc (suc n)))) lt e = absurd (omega arith)

-- one that is the filling
same_filling : (width : Width) (inverted : Bool) (word hw : ℕ) → hw < half_count width → half_word word hw ≡ filling inverted
    → started_word width inverted word (hw + 1) ≡ started_word width inverted word hw
same_filling W32 true word zero lt e = omega arith
same_filling W32 false word zero lt e = omega arith
same_filling W32 true word (suc zero) lt e = omega arith
same_filling W32 false word (suc zero) lt e = omega arith
same_filling W32 true word (suc (suc n)) lt e = absurd (omega arith)
same_filling W32 false word (suc (suc n)) lt e = absurd (omega arith)
same_filling W64 true word zero lt e = omega arith
same_filling W64 false word zero lt e = omega arith
same_filling W64 true word (suc zero) lt e = omega arith
same_filling W64 false word (suc zero) lt e = omega arith
same_filling W64 true word (suc (suc zero)) lt e = omega arith
same_filling W64 false word (suc (suc zero)) lt e = omega arith
same_filling W64 true word (suc (suc (suc zero))) lt e = omega arith
same_filling W64 false word (suc (suc (suc zero))) lt e = omega arith
same_filling W64 true word (suc (suc (suc (suc n)))) lt e = absurd (omega arith)
same_filling W64 false word (suc (suc (suc (suc n)))) lt e = absurd (omega arith)

-- what MOVN and MOVZ put is the half-word on the filling
inverted_word : (width : Width) (half hw : ℕ) → hw < half_count width → half ≤ 65535
    → complement width ((65535 - half) * 2 ^ (16 * hw)) ≡ with_half (filled width true) (16 * hw) half
inverted_word W32 half zero lt small = omega arith
inverted_word W32 half (suc zero) lt small = omega arith
inverted_word W32 half (suc (suc n)) lt small = absurd (omega arith)
inverted_word W64 half zero lt small = omega arith
inverted_word W64 half (suc zero) lt small = omega arith
inverted_word W64 half (suc (suc zero)) lt small = omega arith
inverted_word W64 half (suc (suc (suc zero))) lt small = omega arith
inverted_word W64 half (suc (suc (suc (suc n)))) lt small = absurd (omega arith)

zero_word : (half hw : ℕ) → hw < 4 → half * 2 ^ (16 * hw) ≡ with_half 0 (16 * hw) half
zero_word half zero lt = omega arith
zero_word half (suc zero) lt = omega arith
zero_word half (suc (suc zero)) lt = omega arith
zero_word half (suc (suc (suc zero))) lt = omega arith
zero_word half (suc (suc (suc (suc n)))) lt = absurd (omega arith)

count_most : (width : Width) → half_count width ≤ 4
count_most W32 = omega arith
count_most W64 = omega arith

all_words : (width : Width) (inverted : Bool) (word : ℕ) → word < 2 ^ bits width → started_word width inverted word (half_count width) ≡ word
all_words W32 true word small = omega arith
all_words W32 false word small = omega arith
all_words W64 true word small = omega arith
all_words W64 false word small = omega arith

no_words : (width : Width) (inverted : Bool) (word : ℕ) → started_word width inverted word 0 ≡ filled width inverted
no_words W32 true word = omega arith
no_words W32 false word = omega arith
no_words W64 true word = omega arith
no_words W64 false word = omega arith

started_small : (width : Width) (inverted : Bool) (word hw : ℕ) → hw ≤ half_count width → word < 2 ^ bits width
    → started_word width inverted word hw < 2 ^ bits width
started_small W32 true word zero le small = omega arith
started_small W32 false word zero le small = omega arith
started_small W32 true word (suc zero) le small = omega arith
started_small W32 false word (suc zero) le small = omega arith
started_small W32 true word (suc (suc zero)) le small = omega arith
started_small W32 false word (suc (suc zero)) le small = omega arith
started_small W32 true word (suc (suc (suc n))) le small = absurd (omega arith)
started_small W32 false word (suc (suc (suc n))) le small = absurd (omega arith)
started_small W64 true word zero le small = omega arith
started_small W64 false word zero le small = omega arith
started_small W64 true word (suc zero) le small = omega arith
started_small W64 false word (suc zero) le small = omega arith
started_small W64 true word (suc (suc zero)) le small = omega arith
started_small W64 false word (suc (suc zero)) le small = omega arith
started_small W64 true word (suc (suc (suc zero))) le small = omega arith
started_small W64 false word (suc (suc (suc zero))) le small = omega arith
started_small W64 true word (suc (suc (suc (suc zero)))) le small = omega arith
started_small W64 false word (suc (suc (suc (suc zero)))) le small = omega arith
started_small W64 true word (suc (suc (suc (suc (suc n))))) le small = absurd (omega arith)
started_small W64 false word (suc (suc (suc (suc (suc n))))) le small = absurd (omega arith)

low_same : (width : Width) (n : ℕ) → n < 2 ^ bits width → low_bits width n ≡ n
low_same W32 n small = omega arith
low_same W64 n small = omega arith

-- ---- instructions

-- a half-word is put: the register has the first half-words, where some were put, and the filling stands for them where none was
abbrev pub IsAt : Width → Bool → Bool → ℕ → ℕ → ℕ → Type 0
IsAt width inverted true word hw x = x ≡ started_word width inverted word hw
IsAt width inverted false word hw x = started_word width inverted word hw ≡ filled width inverted

half_step : (s : Registers) (m : Bytes) (width : Width) (inverted started : Bool) (reg word hw : ℕ) → reg ≤ 30 → hw < half_count width → word < 2 ^ bits width
    → IsAt width inverted started word hw (s.x reg)
    → step_of (half_move width inverted started reg (half_word word hw) hw) s m ≡ goes_on (put s reg (started_word width inverted word (hw + 1))) m
unfolding step_of move_wide
half_step s m width inverted true reg word hw le lt small at =
    puts_of s m reg _ (started_word width inverted word (hw + 1)) le
    (ap (λ x. with_half (low_bits width x) (16 * hw) (half_word word hw)) (read_is s reg le ∙ at)
    ∙ ap (λ x. with_half x (16 * hw) (half_word word hw))
    (low_same width (started_word width inverted word hw) (started_small width inverted word hw (omega arith) small))
    ∙ next_word width inverted word hw lt)
half_step s m width true false reg word hw le lt small at =
    puts_of s m reg _ (started_word width true word (hw + 1)) le
    (inverted_word width (half_word word hw) hw lt (half_most word hw) ∙ first_word width true word hw lt at)
half_step s m width false false reg word hw le lt small at =
    let most = count_most width in
    puts_of s m reg _ (started_word width false word (hw + 1)) le
    (zero_word (half_word word hw) hw (omega arith) ∙ first_word width false word hw lt at)

-- the filling alone
fill_step : (s : Registers) (m : Bytes) (width : Width) (inverted : Bool) (reg : ℕ) → reg ≤ 30
    → step_of (half_move width inverted false reg (filling inverted) 0) s m ≡ goes_on (put s reg (filled width inverted)) m
unfolding step_of move_wide
fill_step s m W32 true reg le = puts_of s m reg _ (filled W32 true) le refl
fill_step s m W64 true reg le = puts_of s m reg _ (filled W64 true) le refl
fill_step s m width false reg le = puts_of s m reg _ (filled width false) le refl

filled_small : (width : Width) (inverted : Bool) → filled width inverted < 2 ^ 64
filled_small W32 true = omega arith
filled_small W64 true = omega arith
filled_small width false = omega arith

still_at : (width : Width) (inverted started : Bool) (word hw x : ℕ) → hw < half_count width → half_word word hw ≡ filling inverted
    → IsAt width inverted started word hw x
    → IsAt width inverted started word (hw + 1) x
still_at width inverted true word hw x lt e at = at ∙ sym (same_filling width inverted word hw lt e)
still_at width inverted false word hw x lt e at = same_filling width inverted word hw lt e ∙ at

at_pc : (width : Width) (inverted started : Bool) (word hw x : ℕ) → IsAt width inverted started word hw x → IsAt width inverted started word hw x
at_pc width inverted started word hw x at = at

half_touches : (width : Width) (inverted started : Bool) (reg half hw : ℕ) (r : Registers) → touched (half_move width inverted started reg half hw) r ≡ None
half_touches width inverted true reg half hw r = refl
half_touches width true false reg half hw r = refl
half_touches width false false reg half hw r = refl

-- an instruction that puts a word in a register in front
puts_then : (z : Setting) (c : Machine) (inst : Inst) (insts : List Inst) (reg v w : ℕ) → DoesOne z c inst (with_reg c reg v)
    → Puts z (with_reg c reg v) insts reg w
    → Puts z c (inst ∷ insts) reg w
puts_then z c inst insts reg v w one rest = record {
  after = rest.after;
  does = does_first z c (with_reg c reg v) rest.after inst insts one rest.does;
  sp = rest.sp;
  memory = rest.memory;
  flags = rest.flags;
  put = rest.put;
  others = λ r differ. rest.others r differ ∙ put_other c reg v r differ;
  words = rest.words;
}

module _ (z : Setting) (width : Width) (inverted : Bool) (reg word : ℕ) (le : reg ≤ 30) (other : reg ≢ 18) (small : word < 2 ^ bits width) where
  moves_put : (n hw : ℕ) (started : Bool) (c : Machine) → hw + n ≡ half_count width → IsWhole z c → AreWords c.registers
      → IsAt width inverted started word hw (c.registers.x reg) → Puts z c (half_moves width inverted reg word started n hw) reg word
  unfolding half_moves
  moves_put zero hw true c all whole words at =
      let here : hw ≡ half_count width = omega arith in
      record {
        after = c;
        does = does_none z c;
        sp = refl;
        memory = refl;
        flags = refl;
        put = at ∙ ap (started_word width inverted word) here ∙ all_words width inverted word small;
        others = λ r differ. refl;
        words = words;
      }
  moves_put zero hw false c all whole words at =
      let here : hw ≡ half_count width = omega arith in
      let is : word ≡ filled width inverted = sym (all_words width inverted word small) ∙ ap (started_word width inverted word) (sym here) ∙ at in
      subst (λ w. Puts z c (half_move width inverted false reg (filling inverted) 0 ∷ []) reg w) (sym is)
      (puts_by_one z c (half_move width inverted false reg (filling inverted) 0) reg (filled width inverted)
      (puts_one z c (half_move width inverted false reg (filling inverted) 0) reg (filled width inverted) whole other
      (λ pc. half_touches width inverted false reg (filling inverted) 0 (moved_to pc c).registers)
      (λ pc. fill_step (moved_to pc c).registers c.memory width inverted reg le)) words (filled_small width inverted))
  moves_put (suc n) hw started c all whole words at =
      let lt : hw < half_count width = omega arith in
      elim (nat_eq (half_word word hw) (filling inverted)) as (λ b. nat_eq (half_word word hw) (filling inverted) ≡ b
      → Puts z c (if b then half_moves width inverted reg word started n (hw + 1) else
      half_move width inverted started reg (half_word word hw) hw ∷ half_moves width inverted reg word true n (hw + 1)) reg word) [
        | true ↦ λ e. moves_put n (hw + 1) started c (omega arith) whole words
            (still_at width inverted started word hw (c.registers.x reg) lt (eqb-true _ _ e) at)
        | false ↦ λ e.
            let v : ℕ = started_word width inverted word (hw + 1) in
            let v_small = width-word width v (started_small width inverted word (hw + 1) (omega arith) small) in
            let d : Machine = with_reg c reg v in
            puts_then z c (half_move width inverted started reg (half_word word hw) hw) (half_moves width inverted reg word true n (hw + 1)) reg v word
            (puts_one z c (half_move width inverted started reg (half_word word hw) hw) reg v whole other
            (λ pc. half_touches width inverted started reg (half_word word hw) hw (moved_to pc c).registers)
            (λ pc. half_step (moved_to pc c).registers c.memory width inverted started reg word hw le lt small
            (at_pc width inverted started word hw (c.registers.x reg) at)))
            (moves_put n (hw + 1) true d (omega arith) (whole_same z c d refl refl whole) (put_words c reg v words v_small) (put_same c reg v))
      ] refl

-- a constant of a width is put in a register
pub constant_puts : (z : Setting) (c : Machine) (width : Width) (reg word : ℕ) → IsWhole z c → AreWords c.registers → reg ≤ 30 → reg ≢ 18
    → word < 2 ^ bits width
    → Puts z c (constant width reg word) reg word
unfolding constant
constant_puts z c width reg word whole words le other small =
    moves_put z width (is_inverted width word) reg word le other small (half_count width) 0 false c (omega arith) whole words
    (no_words width (is_inverted width word) word)
