-- How long the text is that is made from a number.
use Rattle.std.proofs.Common.{◌≡◌, ℕ, zero, suc, ◌+◌, ◌-◌, ◌*◌, ◌/◌, ◌%◌, ◌^◌, ◌<◌, ◌≤◌, Bool, true, false, List, [], ◌∷◌, ◌++◌, length, refl, sym, ap, subst, ◌∙◌, nat_lt, if◌then◌else◌, arith, lit≤}
use Rattle.std.specs.Prelude.{codes}
use Rattle.std.specs.Fmt.{decimal, digits}
use Rattle.std.proofs.Math.ListN.{length-append}
use Rattle.std.proofs.lemmas.Bool.{lt-ltb}
use Rattle.std.proofs.lemmas.Fmt.{length-decimal-le}
use Rattle.b3_base.specs.declared.word.Width.TheVariants.{W64}
use Rattle.b3_ir.specs.declared.opcode.Opcode.TheVariants as op
use Rattle.b3_ir.specs.declared.opcode.Ty.TheVariants.{Int64}
use Rattle.b3_ir.specs.declared.value.Body.TheVariants.{Plain, Constant}
use Rattle.b3_rows.specs.declared.row.Row.{Row}
use Rattle.b3_rows.specs.declared.row.Row.TheVariants.{Header, Heading}
use Rattle.b3_rows.specs.Written.{line_of_row, word_text}
use Rattle.b3_trial.specs.Generated.{argument_row, arguments, child_before, constants, drawn, entry, entry_end, generated, last_block, line_text, loop_back, loop_front, next_state, opcode_of, operation, operations, procedure_rows, procedures_from, state_behind, text_of, value_row}

-- ---- lines of at most 69 bytes

abbrev AreShort : List Row → Type 0
AreShort [] = Unit {0}
AreShort (row ∷ rows) = (length (line_of_row row) ≤ 69) × AreShort rows

short_both : (a b : List Row) → AreShort a → AreShort b → AreShort (a ++ b)
short_both [] b x y = y
short_both (row ∷ a) b x y = (x.0, short_both a b x.1 y)

text_short : (rows : List Row) → AreShort rows → length (text_of rows) ≤ 70 * length rows
unfolding text_of
text_short [] short = omega arith
text_short (row ∷ rows) short =
    let more : length (text_of rows) ≤ 70 * length rows = text_short rows short.1 in
    let parts : length (line_text row ++ text_of rows) ≡ length (line_text row) + length (text_of rows) = length-append (line_text row) (text_of rows) in
    let line : length (line_text row) ≡ length (line_of_row row) + 1 = length-append (line_of_row row) (10 ∷ []) in
    omega (arith, more, parts, line, short.0)

-- ---- each line

-- a number of at most 10 digits
ten : (n : ℕ) → n < 2 ^ 32 → length (decimal n) ≤ 10
ten n lt = length-decimal-le 10 n (omega arith) (omega arith) (omega arith)

argument_short : (r : ℕ) → r < 2 ^ 32 → length (line_of_row (argument_row r)) ≤ 69
argument_short r lt = let d : length (decimal r) ≤ 10 = ten r lt in simp length-append (omega arith)

word_is : (word : ℕ) → word < 2 ^ 32 → word_text W64 word ≡ decimal word
word_is word lt = let low : nat_lt word (2 ^ 63) ≡ true = lt-ltb word (2 ^ 63) (omega arith) in rw low refl

constant_short : (id word : ℕ) → id < 2 ^ 32 → word < 2 ^ 32 → length (line_of_row (value_row Int64 id op.Const64 [] (Constant word))) ≤ 69
constant_short id word low lt =
    let d : length (decimal id) ≤ 10 = ten id low in
    let e : length (decimal word) ≤ 10 = ten word lt in
    let w : length (word_text W64 word) ≤ 10 = subst (λ (t : List ℕ). length t ≤ 10) (sym (word_is word lt)) e in
    simp length-append (omega arith)

operation_short : (n k a b : ℕ) → k < 2 ^ 32 → a < 2 ^ 32 → b < 2 ^ 32 → length (line_of_row (value_row Int64 k (opcode_of n) (a ∷ b ∷ []) Plain)) ≤ 69
operation_short n k a b low one two =
    let d : length (decimal k) ≤ 10 = ten k low in
    let e : length (decimal a) ≤ 10 = ten a one in
    let f : length (decimal b) ≤ 10 = ten b two in
    by n d e f
  where
    by : (n : ℕ) → length (decimal k) ≤ 10 → length (decimal a) ≤ 10 → length (decimal b) ≤ 10
        → length (line_of_row (value_row Int64 k (opcode_of n) (a ∷ b ∷ []) Plain)) ≤ 69
    by zero d e f = simp length-append (omega arith)
    by (suc zero) d e f = simp length-append (omega arith)
    by (suc (suc zero)) d e f = simp length-append (omega arith)
    by (suc (suc (suc zero))) d e f = simp length-append (omega arith)
    by (suc (suc (suc (suc zero)))) d e f = simp length-append (omega arith)
    by (suc (suc (suc (suc (suc n))))) d e f = simp length-append (omega arith)

header_short : (p : ℕ) → p < 2 ^ 32 → length (line_of_row (Header (codes "g" ++ decimal p))) ≤ 69
header_short p lt = let d : length (decimal p) ≤ 10 = ten p lt in simp length-append (omega arith)

heading_short : (number : ℕ) → number < 2 ^ 32 → length (line_of_row (Heading number)) ≤ 69
heading_short number lt = let d : length (decimal number) ≤ 10 = ten number lt in simp length-append (omega arith)

-- ---- draws

drawn_small : (state : ℕ) → drawn state < 2 ^ 32
drawn_small state = omega arith

child_small : (k draw : ℕ) → 3 ≤ k → k < 1000 → child_before k draw < 2 ^ 32
child_small k draw some few =
    let lt : draw % (k - 2) < k - 2 = omega arith in
    by (nat_lt (draw % (k - 2)) 10) lt
  where
    by : (b : Bool) → draw % (k - 2) < k - 2 → (if b then draw % (k - 2) else draw % (k - 2) + 2) < 2 ^ 32
    by true lt = omega arith
    by false lt = omega arith

-- ---- rows

operations_short : (count state k : ℕ) → 3 ≤ k → k + count < 1000 → AreShort (operations count state k)
unfolding operations
operations_short zero state k some few = tt
operations_short (suc count) state k some few = (
  operation_short (drawn state % 6) k (child_before k (drawn (next_state state))) (child_before k (drawn (next_state (next_state state))))
      (omega arith) (child_small k (drawn (next_state state)) some (omega arith))
      (child_small k (drawn (next_state (next_state state))) some (omega arith)),
  operations_short count (state_behind 3 state) (k + 1) (omega arith) (omega arith),
)

operations_count : (count state k : ℕ) → length (operations count state k) ≡ count
unfolding operations
operations_count zero state k = refl
operations_count (suc count) state k = ap suc (operations_count count (state_behind 3 state) (k + 1))

arguments_short : (count r : ℕ) → r + count < 1000 → AreShort (arguments count r)
unfolding arguments
arguments_short zero r few = tt
arguments_short (suc count) r few = (argument_short r (omega arith), arguments_short count (r + 1) (omega arith))

arguments_count : (count r : ℕ) → length (arguments count r) ≡ count
unfolding arguments
arguments_count zero r = refl
arguments_count (suc count) r = ap suc (arguments_count count (r + 1))

entry_end_short : AreShort entry_end
unfolding digits
entry_end_short = (lit≤ tt, (lit≤ tt, (lit≤ tt, tt)))

loop_front_short : AreShort loop_front
unfolding digits
loop_front_short = (lit≤ tt, (lit≤ tt, tt))

loop_back_short : AreShort loop_back
unfolding digits
loop_back_short = (lit≤ tt, (lit≤ tt, (lit≤ tt, (lit≤ tt, tt))))

last_short : AreShort last_block
unfolding digits
last_short = (lit≤ tt, (lit≤ tt, tt))

entry_short : (p constant : ℕ) → p < 1000 → constant < 2 ^ 32 → AreShort (entry p constant)
unfolding entry
entry_short p constant few small =
    short_both (Header (codes "g" ++ decimal p) ∷ Heading 0 ∷ []) (arguments 8 0 ++ (constants constant ++ entry_end))
    (header_short p (omega arith), (heading_short 0 (omega arith), tt))
    (short_both (arguments 8 0) (constants constant ++ entry_end) (arguments_short 8 0 (omega arith))
    (short_both (constants constant) entry_end (constant_short 8 1 (omega arith) (omega arith), (constant_short 9 constant (omega arith) small, tt)) entry_end_short))

procedure_short : (state p : ℕ) → p < 1000 → AreShort (procedure_rows state p)
unfolding procedure_rows
procedure_short state p few =
    short_both (entry p (drawn state)) (loop_front ++ (operations 500 (next_state state) 13 ++ (loop_back ++ last_block))) (entry_short p (drawn state) few (drawn_small state))
    (short_both loop_front (operations 500 (next_state state) 13 ++ (loop_back ++ last_block)) loop_front_short
    (short_both (operations 500 (next_state state) 13) (loop_back ++ last_block) (operations_short 500 (next_state state) 13 (omega arith) (omega arith))
    (short_both loop_back last_block loop_back_short last_short)))

entry_count : (p constant : ℕ) → length (entry p constant) ≡ 15
unfolding entry
entry_count p constant = simp length-append (omega (arith, arguments_count 8 0))

procedure_count : (state p : ℕ) → length (procedure_rows state p) ≡ 523
unfolding procedure_rows
procedure_count state p =
    simp length-append (omega (arith, entry_count p (drawn state), operations_count 500 (next_state state) 13))

-- how many rows there are, and that each is short
procedures_short : (count state p : ℕ) → p + count < 1000 → AreShort (procedures_from count state p)
unfolding procedures_from
procedures_short zero state p few = tt
procedures_short (suc count) state p few =
    short_both (procedure_rows state p) (procedures_from count (state_behind 1501 state) (p + 1)) (procedure_short state p (omega arith))
    (procedures_short count (state_behind 1501 state) (p + 1) (omega arith))

procedures_count : (count state p : ℕ) → length (procedures_from count state p) ≡ count * 523
unfolding procedures_from
procedures_count zero state p = refl
procedures_count (suc count) state p =
    omega (
      arith,
      length-append (procedure_rows state p) (procedures_from count (state_behind 1501 state) (p + 1)),
      procedure_count state p,
      procedures_count count (state_behind 1501 state) (p + 1),
    )

pub generated_short : (n : ℕ) → length (generated n) ≤ 16_777_216
generated_short n = omega (arith, text_short (procedures_from 16 n 0) (procedures_short 16 n 0 (omega arith)), procedures_count 16 n 0)
