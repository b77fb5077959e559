-- Draws, and lines one after the other.
use Rattle.std.proofs.Common.{◌≡◌, ℕ, zero, suc, ◌+◌, ◌-◌, ◌*◌, ◌%◌, ◌^◌, ◌<◌, List, [], ◌∷◌, ◌++◌, refl, sym, ap, ◌∙◌, append_assoc, zero-add, arith}
use Rattle.std.specs.Prelude.{false}
use Rattle.std.proofs.Math.Nat.{mod-add-mod}
use Rattle.std.proofs.lemmas.List.{append-nil}
use Rattle.b3_ir.specs.declared.table.Carries.{Carries}
use Rattle.b3_ir.specs.declared.table.Carries.TheVariants as carries
use Rattle.b3_ir.specs.declared.opcode.Kind.{Kind}
use Rattle.b3_ir.specs.declared.opcode.Opcode.{Opcode}
use Rattle.b3_ir.specs.declared.opcode.Opcode.TheVariants as op
use Rattle.b3_ir.specs.declared.opcode.Ty.{Ty}
use Rattle.b3_ir.specs.declared.opcode.Ty.TheVariants.{Int64}
use Rattle.b3_ir.specs.declared.value.Body.{Body}
use Rattle.b3_ir.specs.declared.value.Body.TheVariants.{Argument, Plain}
use Rattle.b3_rows.specs.declared.row.Row.TheVariants.{ValueRow}
use Rattle.b3_rows.specs.declared.row.Row.{Row}
use Rattle.b3_rows.specs.Written.{line_of_row}
use Rattle.b3_written.specs.Listed.{FitsWord}
use Rattle.b3_trial.specs.Generated.{argument_row, arguments, line_text, next_state, operation, operations, procedure_rows, procedures_from, state_behind, text_of, value_row}

-- ---- draws

pub state_next : (state product sum : ℕ) → product ≡ (state * 6364136223846793005) % 2 ^ 64 → sum ≡ (product + 1442695040888963407) % 2 ^ 64
    → sum ≡ next_state state
state_next state product sum e f =
    f ∙ ap (λ n. (n + 1442695040888963407) % 2 ^ 64) e ∙ mod-add-mod (state * 6364136223846793005) (2 ^ 64) 1442695040888963407

behind_none : (state : ℕ) → state_behind 0 state ≡ state
unfolding state_behind
behind_none state = refl

pub behind_more : (draws state : ℕ) → state_behind (suc draws) state ≡ state_behind draws (next_state state)
unfolding state_behind
behind_more draws state = refl

pub behind_three : (state : ℕ) → state_behind 3 state ≡ next_state (next_state (next_state state))
unfolding state_behind
behind_three state = refl

pub behind_sum : (draws more state : ℕ) → state_behind (draws + more) state ≡ state_behind more (state_behind draws state)
unfolding state_behind
behind_sum zero more state = ap (λ n. state_behind n state) (zero-add more)
behind_sum (suc draws) more state =
    let one : suc draws + more ≡ suc (draws + more) = omega arith in
    ap (λ n. state_behind n state) one ∙ behind_sum draws more (next_state state)

-- ---- lines

pub text_append : (a b : List Row) → text_of (a ++ b) ≡ text_of a ++ text_of b
unfolding text_of
text_append [] b = refl
text_append (row ∷ a) b = ap (λ (x : List ℕ). line_text row ++ x) (text_append a b) ∙ sym (append_assoc (line_text row) (text_of a) (text_of b))

pub no_text : text_of [] ≡ []
unfolding text_of
no_text = refl

-- one line
pub one_text : (out line new : List ℕ) (row : Row) → line ≡ out ++ line_of_row row → new ≡ line ++ 10 ∷ [] → new ≡ out ++ text_of (row ∷ [])
unfolding text_of
one_text out line new row e f =
    f ∙ ap (λ (x : List ℕ). x ++ 10 ∷ []) e ∙ append_assoc out (line_of_row row) (10 ∷ []) ∙ ap (λ (x : List ℕ). out ++ x) (sym (append-nil (line_text row)))

-- the row of a value by its parts
pub value_same : (ty : Ty) (id : ℕ) (opcode : Opcode) (kind : Kind) (children ids : List ℕ) (body : Body)
    → kind ≡ record { opcode = opcode; chill = false; traps = false }
    → children ≡ ids → ValueRow (record { id = id; ty = ty; kind = kind; children = children; body = body; line = 0 }) ≡ value_row ty id opcode ids body
value_same ty id opcode kind children ids body e f = rw (e, f) refl

-- a line more, where the lines that are left go on
text_goes : (old new first : List ℕ) (row all : List Row) (rest : List Row) → all ≡ row ++ rest → new ≡ old ++ text_of row
    → old ++ text_of all ≡ first → new ++ text_of rest ≡ first
text_goes old new first row all rest e f g =
    ap (λ (t : List ℕ). t ++ text_of rest) f ∙ append_assoc old (text_of row) (text_of rest)
    ∙ ap (λ (t : List ℕ). old ++ t) (sym (text_append row rest)) ∙ ap (λ (x : List Row). old ++ text_of x) (sym e) ∙ g

-- where none is left
pub text_ends : (out first : List ℕ) (rest : List Row) → rest ≡ [] → out ++ text_of rest ≡ first → out ≡ first
text_ends out first rest e g = sym (ap (λ (x : List Row). out ++ text_of x) e ∙ ap (λ (t : List ℕ). out ++ t) no_text ∙ append-nil out) ∙ g

-- ---- loops

arguments_suc : (count r : ℕ) → arguments (suc count) r ≡ argument_row r ∷ arguments count (r + 1)
unfolding arguments
arguments_suc count r = refl

pub arguments_done : (count r : ℕ) → count ≡ 0 → arguments count r ≡ []
unfolding arguments
arguments_done count r e = rw e refl

pub argument_more : (old new first : List ℕ) (r id : ℕ) → r < 8 → id ≡ r
    → new ≡ old ++ text_of (value_row Int64 id op.ArgumentReg [] (Argument (record { 0 = r })) ∷ [])
    → old ++ text_of (arguments (8 - r) r) ≡ first → new ++ text_of (arguments (8 - (r + 1)) (r + 1)) ≡ first
argument_more old new first r id low same f g =
    let n : 8 - r ≡ suc (8 - (r + 1)) = omega arith in
    text_goes old new first (argument_row r ∷ []) (arguments (8 - r) r) (arguments (8 - (r + 1)) (r + 1))
    (ap (λ k. arguments k r) n ∙ arguments_suc (8 - (r + 1)) r)
    (f ∙ ap (λ k. old ++ text_of (value_row Int64 k op.ArgumentReg [] (Argument (record { 0 = r })) ∷ [])) same) g

operations_suc : (count state k : ℕ) → operations (suc count) state k ≡ operation state k ∷ operations count (state_behind 3 state) (k + 1)
unfolding operations
operations_suc count state k = refl

pub operations_done : (count state k : ℕ) → count ≡ 0 → operations count state k ≡ []
unfolding operations
operations_done count state k e = rw e refl

pub operation_more : (old new first : List ℕ) (last state after k : ℕ) → k < last → after ≡ next_state (next_state (next_state state))
    → new ≡ old ++ text_of (operation state k ∷ []) → old ++ text_of (operations (last - k) state k) ≡ first
    → new ++ text_of (operations (last - (k + 1)) after (k + 1)) ≡ first
operation_more old new first last state after k low e f g =
    let n : last - k ≡ suc (last - (k + 1)) = omega arith in
    let same : after ≡ state_behind 3 state = e ∙ sym (behind_three state) in
    text_goes old new first (operation state k ∷ []) (operations (last - k) state k) (operations (last - (k + 1)) after (k + 1))
    (ap (λ c. operations c state k) n ∙ operations_suc (last - (k + 1)) state k
    ∙ ap (λ s. operation state k ∷ operations (last - (k + 1)) s (k + 1)) (sym same)) f g

pub state_more : (last state after k whole : ℕ) → k < last → after ≡ next_state (next_state (next_state state))
    → state_behind (3 * (last - k)) state ≡ whole → state_behind (3 * (last - (k + 1))) after ≡ whole
state_more last state after k whole low e g =
    let n : 3 * (last - k) ≡ 3 + 3 * (last - (k + 1)) = omega arith in
    ap (state_behind (3 * (last - (k + 1)))) (e ∙ sym (behind_three state)) ∙ sym (behind_sum 3 (3 * (last - (k + 1))) state)
    ∙ ap (λ c. state_behind c state) (sym n) ∙ g

pub state_done : (count state whole : ℕ) → count ≡ 0 → state_behind count state ≡ whole → state ≡ whole
state_done count state whole e g = sym (ap (λ c. state_behind c state) e ∙ behind_none state) ∙ g

procedures_suc : (count state p : ℕ) → procedures_from (suc count) state p ≡ procedure_rows state p ++ procedures_from count (state_behind 1501 state) (p + 1)
unfolding procedures_from
procedures_suc count state p = refl

pub procedures_done : (count state p : ℕ) → count ≡ 0 → procedures_from count state p ≡ []
unfolding procedures_from
procedures_done count state p e = rw e refl

pub procedure_more : (old new first : List ℕ) (last state after p : ℕ) → p < last → after ≡ state_behind 1501 state
    → new ≡ old ++ text_of (procedure_rows state p) → old ++ text_of (procedures_from (last - p) state p) ≡ first
    → new ++ text_of (procedures_from (last - (p + 1)) after (p + 1)) ≡ first
procedure_more old new first last state after p low e f g =
    let n : last - p ≡ suc (last - (p + 1)) = omega arith in
    text_goes old new first (procedure_rows state p) (procedures_from (last - p) state p) (procedures_from (last - (p + 1)) after (p + 1))
    (ap (λ c. procedures_from c state p) n ∙ procedures_suc (last - (p + 1)) state p
    ∙ ap (λ s. procedure_rows state p ++ procedures_from (last - (p + 1)) s (p + 1)) (sym e)) f g

-- ---- a body that carries nothing fits

-- ---- in parts

pub two_parts : (out a b x y : List ℕ) → a ≡ out ++ x → b ≡ a ++ y → b ≡ out ++ (x ++ y)
two_parts out a b x y e f = f ∙ ap (λ (t : List ℕ). t ++ y) e ∙ append_assoc out x y

pub texts_joined : (out : List ℕ) (x y : List Row) → (out ++ text_of x) ++ text_of y ≡ out ++ text_of (x ++ y)
texts_joined out x y = append_assoc out (text_of x) (text_of y) ∙ ap (λ (t : List ℕ). out ++ t) (sym (text_append x y))
