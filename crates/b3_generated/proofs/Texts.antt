-- The generated text is the canonical text of the made module, which is one that a text can spell.
use Rattle.std.proofs.Common.{◌≡◌, ℕ, zero, suc, ◌+◌, ◌%◌, ◌^◌, ◌<◌, ◌≤◌, List, [], ◌∷◌, ◌++◌, refl, sym, ap, ◌∙◌, arith, append_assoc}
use Rattle.std.specs.Prelude.{All, codes}
use Rattle.std.specs.Fmt.{decimal}
use Rattle.std.specs.List.{AllByRecursion, flat_map}
use Rattle.std.proofs.lemmas.List.Elements.{All-cons, All-nil}
use Rattle.b3_ir.specs.Names.{IsName}
use Rattle.b3_ir.specs.declared.opcode.Opcode.{Opcode}
use Rattle.b3_ir.specs.declared.opcode.Opcode.TheVariants as op
use Rattle.b3_ir.specs.declared.opcode.Ty.TheVariants.{Int64}
use Rattle.b3_ir.specs.declared.value.Body.TheVariants.{Plain}
use Rattle.b3_ir.specs.declared.value.Value.{Value}
use Rattle.b3_rows.specs.Listed.{IsNumber}
use Rattle.b3_rows.specs.declared.row.Row.{Row}
use Rattle.b3_rows.specs.declared.row.Row.TheVariants.{Header, Heading}
use Rattle.b3_module.specs.Canonical.{canonical_rows, rows_of_procedure, rows_of_value}
use Rattle.b3_module.specs.TextModules.{IsTextProcedure, IsTextValue}
use Rattle.b3_print.specs.Printed.{canonical, line_text, text_of}
use Rattle.b3_trial.specs.Generated as generated
use Rattle.b3_trial.specs.Generated.{child_before, drawn, next_state, opcode_of, state_behind}
use Rattle.b3_generated.specs.Made.{argument, arguments, branch, constant, entry, jump, less, loop_values, module_of, operation, operations, phi, procedure_of, procedures_from, return_value, upsilon, value_on}
use Rattle.b3_generated.proofs.Forms.{IsWordBelow, by_opcode, child_formed, drawn_small}

-- ---- the same text

text_both : (a b : List Row) → text_of (a ++ b) ≡ text_of a ++ text_of b
text_both [] b = refl
text_both (row ∷ a) b = ap (λ (x : List ℕ). line_text row ++ x) (text_both a b) ∙ sym (append_assoc (line_text row) (text_of a) (text_of b))

generated_both : (a b : List Row) → generated.text_of (a ++ b) ≡ generated.text_of a ++ generated.text_of b
unfolding generated.text_of
generated_both = text_both

rows_both : (a b : List Value) → flat_map rows_of_value (a ++ b) ≡ flat_map rows_of_value a ++ flat_map rows_of_value b
rows_both [] b = refl
rows_both (v ∷ a) b = ap (λ (x : List Row). rows_of_value v ++ x) (rows_both a b)
    ∙ sym (append_assoc (rows_of_value v) (flat_map rows_of_value a) (flat_map rows_of_value b))

abbrev values_text : List Value → List ℕ
values_text vs = text_of (flat_map rows_of_value vs)

values_both : (a b : List Value) → values_text (a ++ b) ≡ values_text a ++ values_text b
values_both a b = ap text_of (rows_both a b) ∙ text_both (flat_map rows_of_value a) (flat_map rows_of_value b)

arguments_text : (count r : ℕ) → values_text (arguments count r) ≡ generated.text_of (generated.arguments count r)
unfolding arguments generated.arguments generated.text_of
arguments_text zero r = refl
arguments_text (suc count) r = ap (λ (x : List ℕ). line_text (generated.argument_row r) ++ x) (arguments_text count (r + 1))

operations_text : (count state i : ℕ) → values_text (operations count state i) ≡ generated.text_of (generated.operations count state i)
unfolding operations generated.operations generated.text_of
operations_text zero state i = refl
operations_text (suc count) state i = ap (λ (x : List ℕ). line_text (generated.operation state i) ++ x) (operations_text count (state_behind 3 state) (i + 1))

entry_text : (k word : ℕ) → text_of (Header (codes "g" ++ decimal k) ∷ Heading 0 ∷ flat_map rows_of_value (entry word))
    ≡ generated.text_of (generated.entry k word)
unfolding generated.entry generated.text_of
entry_text k word =
    ap (λ (x : List ℕ). line_text (Header (codes "g" ++ decimal k)) ++ (line_text (Heading 0) ++ x))
    (values_both (arguments 8 0) (constant 0 8 1 ∷ constant 0 9 word ∷ upsilon 0 10 0 ∷ jump 0 ∷ [])
    ∙ ap (λ (x : List ℕ). x ++ values_text (constant 0 8 1 ∷ constant 0 9 word ∷ upsilon 0 10 0 ∷ jump 0 ∷ [])) (arguments_text 8 0)
    ∙ sym (text_both (generated.arguments 8 0) (generated.constants word ++ generated.entry_end)))

loop_text : (state : ℕ) → text_of (Heading 1 ∷ flat_map rows_of_value (loop_values state))
    ≡ generated.text_of (generated.loop_front ++ (generated.operations 500 state 13 ++ generated.loop_back))
unfolding generated.text_of
loop_text state =
    ap (λ (x : List ℕ). line_text (Heading 1) ++ (line_text (generated.value_row Int64 12 op.Phi [] Plain) ++ x))
    (values_both (operations 500 state 13) (upsilon 0 513 512 ∷ less 0 ∷ branch 0 ∷ [])
    ∙ ap (λ (x : List ℕ). x ++ values_text (upsilon 0 513 512 ∷ less 0 ∷ branch 0 ∷ [])) (operations_text 500 state 13)
    ∙ sym (text_both (generated.operations 500 state 13) generated.loop_back))

last_text : text_of (Heading 2 ∷ flat_map rows_of_value (return_value 0 ∷ [])) ≡ generated.text_of generated.last_block
unfolding generated.text_of
last_text = refl

-- lists in five parts, and in three
in_parts : (a b c d e : List Row) → a ++ (b ++ (c ++ (d ++ e))) ≡ a ++ ((b ++ (c ++ d)) ++ e)
in_parts a b c d e = simp append_assoc

procedure_text : (state k : ℕ) → text_of (rows_of_procedure (procedure_of state k)) ≡ generated.text_of (generated.procedure_rows state k)
unfolding generated.procedure_rows
procedure_text state k =
    let front : List Row = Header (codes "g" ++ decimal k) ∷ Heading 0 ∷ flat_map rows_of_value (entry (drawn state)) in
    let middle : List Row = Heading 1 ∷ flat_map rows_of_value (loop_values (next_state state)) in
    let back : List Row = Heading 2 ∷ flat_map rows_of_value (return_value 0 ∷ []) in
    let a = generated.entry k (drawn state) in
    let b = generated.loop_front in
    let c = generated.operations 500 (next_state state) 13 in
    let d = generated.loop_back in
    let e = generated.last_block in
    text_both front (middle ++ back) ∙ ap (λ (x : List ℕ). text_of front ++ x) (text_both middle back)
    ∙ ap (λ (x : List ℕ). x ++ (text_of middle ++ text_of back)) (entry_text k (drawn state))
    ∙ ap (λ (x : List ℕ). generated.text_of a ++ (x ++ text_of back)) (loop_text (next_state state))
    ∙ ap (λ (x : List ℕ). generated.text_of a ++ (generated.text_of (b ++ (c ++ d)) ++ x)) last_text
    ∙ ap (λ (x : List ℕ). generated.text_of a ++ x) (sym (generated_both (b ++ (c ++ d)) e))
    ∙ sym (generated_both a ((b ++ (c ++ d)) ++ e)) ∙ ap generated.text_of (sym (in_parts a b c d e))

procedures_text : (count state k : ℕ) → text_of (canonical_rows (procedures_from count state k)) ≡ generated.text_of (generated.procedures_from count state k)
unfolding procedures_from generated.procedures_from generated.text_of
procedures_text zero state k = refl
procedures_text (suc count) state k =
    text_both (rows_of_procedure (procedure_of state k)) (canonical_rows (procedures_from count (state_behind 1501 state) (k + 1)))
    ∙ ap (λ (x : List ℕ). x ++ text_of (canonical_rows (procedures_from count (state_behind 1501 state) (k + 1)))) (procedure_text state k)
    ∙ ap (λ (x : List ℕ). generated.text_of (generated.procedure_rows state k) ++ x) (procedures_text count (state_behind 1501 state) (k + 1))
    ∙ sym (text_both (generated.procedure_rows state k) (generated.procedures_from count (state_behind 1501 state) (k + 1)))

pub generated_is_canonical : (n : ℕ) → canonical (module_of n) ≡ generated.generated n
generated_is_canonical n = procedures_text 16 n 0

-- ---- each part is one that a line can say

argument_listed : (r : ℕ) → r < 8 → IsTextValue (argument 0 r)
argument_listed r low = record {
  listed = record { id = omega arith; children = All-nil _; body = omega arith; chill = refl; traps = refl; line = refl };
  matched = (refl, refl);
  targets = tt;
}

constant_listed : (id word : ℕ) → id < 10 → word < 2 ^ 32 → IsTextValue (constant 0 id word)
constant_listed id word low small = record {
  listed = record { id = omega arith; children = All-nil _; body = omega arith; chill = refl; traps = refl; line = refl };
  matched = (refl, refl);
  targets = tt;
}

one_number : (x : ℕ) → x < 2 ^ 31 → All IsNumber (x ∷ [])
one_number x lt = All-cons IsNumber x [] lt (All-nil IsNumber)

two_numbers : (x y : ℕ) → x < 2 ^ 31 → y < 2 ^ 31 → All IsNumber (x ∷ y ∷ [])
two_numbers x y lt less = All-cons IsNumber x (y ∷ []) lt (one_number y less)

upsilon_listed : (id child : ℕ) → id < 1000 → child < 1000 → IsTextValue (upsilon 0 id child)
upsilon_listed id child low small = record {
  listed = record { id = omega arith; children = one_number child (omega arith); body = omega arith; chill = refl; traps = refl; line = refl };
  matched = (refl, refl);
  targets = tt;
}

jump_listed : IsTextValue (jump 0)
jump_listed = record {
  listed = record { id = omega arith; children = All-nil _; body = tt; chill = refl; traps = refl; line = refl };
  matched = tt;
  targets = (omega arith, tt);
}

phi_listed : IsTextValue (phi 0)
phi_listed = record {
  listed = record { id = omega arith; children = All-nil _; body = tt; chill = refl; traps = refl; line = refl };
  matched = (refl, refl);
  targets = tt;
}

operation_listed : (i number x y : ℕ) → i < 513 → IsWordBelow i x → IsWordBelow i y → IsTextValue (operation 0 i number x y)
operation_listed i number x y high first second =
    let numbers : All IsNumber (x ∷ y ∷ []) = two_numbers x y (omega (arith, first.0)) (omega (arith, second.0)) in
    let id : i < 2 ^ 31 = omega arith in
    by_opcode (λ (o : Opcode). IsTextValue (value_on 0 Int64 i o (x ∷ y ∷ []) Plain))
    (record { listed = record { id = id; children = numbers; body = tt; chill = refl; traps = refl; line = refl }; matched = (refl, refl); targets = tt })
    (record { listed = record { id = id; children = numbers; body = tt; chill = refl; traps = refl; line = refl }; matched = (refl, refl); targets = tt })
    (record { listed = record { id = id; children = numbers; body = tt; chill = refl; traps = refl; line = refl }; matched = (refl, refl); targets = tt })
    (record { listed = record { id = id; children = numbers; body = tt; chill = refl; traps = refl; line = refl }; matched = (refl, refl); targets = tt })
    (record { listed = record { id = id; children = numbers; body = tt; chill = refl; traps = refl; line = refl }; matched = (refl, refl); targets = tt })
    (record { listed = record { id = id; children = numbers; body = tt; chill = refl; traps = refl; line = refl }; matched = (refl, refl); targets = tt })
    number

less_listed : IsTextValue (less 0)
less_listed = record {
  listed = record { id = omega arith; children = two_numbers 512 1 (omega arith) (omega arith); body = tt; chill = refl; traps = refl; line = refl };
  matched = (refl, refl);
  targets = tt;
}

branch_listed : IsTextValue (branch 0)
branch_listed = record {
  listed = record { id = omega arith; children = one_number 514 (omega arith); body = tt; chill = refl; traps = refl; line = refl };
  matched = tt;
  targets = (omega arith, (omega arith, tt));
}

return_listed : IsTextValue (return_value 0)
return_listed = record {
  listed = record { id = omega arith; children = one_number 512 (omega arith); body = tt; chill = refl; traps = refl; line = refl };
  matched = (refl, refl);
  targets = tt;
}

values_joined : (a b : List Value) → AllByRecursion IsTextValue a → AllByRecursion IsTextValue b → AllByRecursion IsTextValue (a ++ b)
values_joined [] b x y = y
values_joined (v ∷ a) b x y = (x.0, values_joined a b x.1 y)

arguments_listed : (count r : ℕ) → r + count ≤ 8 → AllByRecursion IsTextValue (arguments count r)
unfolding arguments
arguments_listed zero r few = tt
arguments_listed (suc count) r few = (argument_listed r (omega arith), arguments_listed count (r + 1) (omega arith))

operations_listed : (count state i : ℕ) → 13 ≤ i → i + count ≤ 513 → AllByRecursion IsTextValue (operations count state i)
unfolding operations
operations_listed zero state i low high = tt
operations_listed (suc count) state i low high = (
  operation_listed i (drawn state % 6) (child_before i (drawn (next_state state))) (child_before i (drawn (next_state (next_state state))))
      (omega arith) (child_formed i (drawn (next_state state)) low) (child_formed i (drawn (next_state (next_state state))) low),
  operations_listed count (state_behind 3 state) (i + 1) (omega arith) (omega arith),
)

entry_listed : (word : ℕ) → word < 2 ^ 32 → AllByRecursion IsTextValue (entry word)
entry_listed word small =
    values_joined (arguments 8 0) (constant 0 8 1 ∷ constant 0 9 word ∷ upsilon 0 10 0 ∷ jump 0 ∷ []) (arguments_listed 8 0 (omega arith)) (
      constant_listed 8 1 (omega arith) (omega arith),
      (
        constant_listed 9 word (omega arith) small,
        (upsilon_listed 10 0 (omega arith) (omega arith), (jump_listed, tt)),
      ),
    )

loop_listed : (state : ℕ) → AllByRecursion IsTextValue (loop_values state)
loop_listed state = (
  phi_listed,
  values_joined (operations 500 state 13) (upsilon 0 513 512 ∷ less 0 ∷ branch 0 ∷ [])
      (operations_listed 500 state 13 (omega arith) (omega arith))
      (upsilon_listed 513 512 (omega arith) (omega arith), (less_listed, (branch_listed, tt))),
)

pub procedure_listed : (state k : ℕ) → IsName (codes "g" ++ decimal k) → IsTextProcedure (procedure_of state k)
procedure_listed state k name = record {
  begun = record {
    name = name;
    slots = tt;
    blocks = (
      record { number = omega arith; values = entry_listed (drawn state) (drawn_small state) },
      (
        record { number = omega arith; values = loop_listed (next_state state) },
        (record { number = omega arith; values = (return_listed, tt) }, tt),
      ),
    );
  };
  some = omega arith;
}
