-- Lines one after the other.
use Rattle.std.proofs.Common.{◌≡◌, ◌<◌, ℕ, zero, suc, ◌+◌, List, [], ◌∷◌, ◌++◌, length, Some, drop, refl, sym, ap, ◌∙◌, arith, append_assoc}
use Rattle.std.specs.Prelude.{map, codes, slice_get, slice_index_or}
use Rattle.std.specs.List.{flat_map}
use Rattle.std.specs.Fmt.{decimal}
use Rattle.b3_ir.specs.declared.table.Carries.{Carries}
use Rattle.b3_ir.specs.declared.table.Carries.TheVariants as carries
use Rattle.b3_ir.specs.Table.{row_of}
use Rattle.std.proofs.lemmas.List.{append-nil}
use Rattle.b3_ir.specs.declared.procedure.SlotLine.{SlotLine}
use Rattle.b3_ir.specs.declared.value.Body.{Body}
use Rattle.b3_ir.specs.declared.value.Body.TheVariants.{Plain, Constant, Argument, Slot, Offset, Target, Map, Targets, Cases}
use Rattle.b3_ir.specs.declared.value.Value.{Value}
use Rattle.b3_ir.specs.Procedure.{Block, Kept, Procedure, no_block, procedures, values_of}
use Rattle.b3_rows.specs.declared.row.Row.{Row}
use Rattle.b3_rows.specs.declared.row.Row.TheVariants as rows
use Rattle.b3_rows.specs.Written.{child_texts, constraints_of, joined, kind_text, last_texts, lead_texts, line_of_row}
use Rattle.b3_items.specs.Table.{type_text}
use Rattle.b3_module.specs.Canonical.{bare, bare_body, canonical_rows, row_of_slot, rows_of_block, rows_of_procedure, rows_of_value}
use Rattle.b3_print.specs.Printed.{line_text, text_of}

pub text_append : (a b : List Row) → text_of (a ++ b) ≡ text_of a ++ text_of b
text_append [] b = refl
text_append (row ∷ a) b = ap (λ (x : List ℕ). line_text row ++ x) (text_append a b) ∙ sym (append_assoc (line_text row) (text_of a) (text_of b))

-- one line more
pub one_text : (out line : List ℕ) (row : Row) → line ≡ line_of_row row → (out ++ line) ++ 10 ∷ [] ≡ out ++ text_of (row ∷ [])
one_text out line row e = append_assoc out line (10 ∷ []) ∙ ap (λ (x : List ℕ). out ++ (x ++ 10 ∷ [])) e ∙ ap (λ (x : List ℕ). out ++ x) (sym (append-nil (line_text row)))

-- successors do not lead
lead_targets : (c : Carries) (targets : List ℕ) → lead_texts c (Targets targets) ≡ lead_texts c (Targets [])
lead_targets carries.Nothing targets = refl
lead_targets (carries.Number width) targets = refl
lead_targets carries.Register targets = refl
lead_targets carries.SlotNumber targets = refl
lead_targets carries.Offset targets = refl
lead_targets carries.PhiId targets = refl
lead_targets carries.Site targets = refl
lead_targets carries.Exit targets = refl
lead_targets carries.OneSuccessor targets = refl
lead_targets carries.TwoSuccessors targets = refl
lead_targets carries.CaseSuccessors targets = refl

lead_cases : (c : Carries) (words targets : List ℕ) → lead_texts c (Cases words targets) ≡ lead_texts c (Cases words [])
lead_cases carries.Nothing words targets = refl
lead_cases (carries.Number width) words targets = refl
lead_cases carries.Register words targets = refl
lead_cases carries.SlotNumber words targets = refl
lead_cases carries.Offset words targets = refl
lead_cases carries.PhiId words targets = refl
lead_cases carries.Site words targets = refl
lead_cases carries.Exit words targets = refl
lead_cases carries.OneSuccessor words targets = refl
lead_cases carries.TwoSuccessors words targets = refl
lead_cases carries.CaseSuccessors words targets = refl

-- the line of a value with these items in front
abbrev line_with : Value → List (List ℕ) → List (List ℕ) → List ℕ
line_with v lead rest = codes "    " ++ (type_text v.ty ++ (codes " b@" ++ (decimal v.id ++ (codes " = " ++ (kind_text v.kind ++ (codes "(" ++ (joined (lead ++ rest) ++ codes ")")))))))

rest_of : Value → Body → List (List ℕ)
rest_of v body = child_texts (length (row_of v.kind.opcode).takes) v.children (constraints_of body) ++ last_texts body

bare_text : (v : Value) (body : Body) → line_of_row (rows.ValueRow (record v { body = body })) ≡ line_of_row (rows.ValueRow (record v { line = 0; body = bare_body body }))
unfolding rest_of
bare_text v Plain = refl
bare_text v (Constant word) = refl
bare_text v (Argument reg) = refl
bare_text v (Slot number) = refl
bare_text v (Offset bytes) = refl
bare_text v (Target phi) = refl
bare_text v (Map m) = refl
bare_text v (Targets targets) = ap (λ (x : List (List ℕ)). line_with v x (rest_of v (Targets []))) (lead_targets (row_of v.kind.opcode).carries targets)
bare_text v (Cases words targets) = ap (λ (x : List (List ℕ)). line_with v x (rest_of v (Cases words []))) (lead_cases (row_of v.kind.opcode).carries words targets)

pub value_line : (out line : List ℕ) (v : Value) → line ≡ out ++ line_of_row (rows.ValueRow v) → line ++ 10 ∷ [] ≡ out ++ text_of (rows.ValueRow (bare v) ∷ [])
value_line out line v e = ap (λ (x : List ℕ). x ++ 10 ∷ []) e ∙ one_text out (line_of_row (rows.ValueRow v)) (rows.ValueRow (bare v)) (bare_text v v.body)

-- what is written in two parts
pub two_texts : (out a b : List ℕ) (x y : List Row) → a ≡ out ++ text_of x → b ≡ a ++ text_of y → b ≡ out ++ text_of (x ++ y)
two_texts out a b x y e f = f ∙ ap (λ (t : List ℕ). t ++ text_of y) e ∙ append_assoc out (text_of x) (text_of y) ∙ ap (λ (t : List ℕ). out ++ t) (sym (text_append x y))

-- ---- one item of a list more

drop_suc : {A : Type 0} (xs : List A) (i : ℕ) (x : A) → slice_get xs i ≡ Some x → drop i xs ≡ x ∷ drop (suc i) xs
drop_suc [] i x h = absurd cc
drop_suc (y ∷ xs) zero x h = let e : y ≡ x = cc in ap (λ z. z ∷ xs) e
drop_suc (y ∷ xs) (suc i) x h = drop_suc xs i x h

drop_at : {A : Type 0} (xs : List A) (i : ℕ) (x : A) → slice_get xs i ≡ Some x → drop i xs ≡ x ∷ drop (i + 1) xs
drop_at xs i x h =
    let n : suc i ≡ i + 1 = omega arith in
    drop_suc xs i x h ∙ ap (λ (k : ℕ). x ∷ drop k xs) n

abbrev Goes : List ℕ → List ℕ → List Row → List Row → List Row → Type 0
Goes old new row rest all = new ≡ old ++ text_of row → new ++ text_of rest ≡ old ++ text_of all

goes_on : (old new : List ℕ) (row rest all : List Row) → all ≡ row ++ rest → Goes old new row rest all
goes_on old new row rest all e f =
    ap (λ (t : List ℕ). t ++ text_of rest) f ∙ append_assoc old (text_of row) (text_of rest) ∙ ap (λ (t : List ℕ). old ++ t) (sym (text_append row rest)) ∙ ap (λ (x : List Row). old ++ text_of x) (sym e)

pub slot_next : (old new : List ℕ) (slots : List SlotLine) (i : ℕ) (s : SlotLine) → slice_get slots i ≡ Some s → Goes old new (row_of_slot s ∷ []) (map row_of_slot (drop (i + 1) slots)) (map row_of_slot (drop i slots))
slot_next old new slots i s there = goes_on old new (row_of_slot s ∷ []) (map row_of_slot (drop (i + 1) slots)) (map row_of_slot (drop i slots)) (ap (map row_of_slot) (drop_at slots i s there))

pub block_next : (old new : List ℕ) (blocks : List Block) (i : ℕ) (b : Block) → slice_get blocks i ≡ Some b → Goes old new (rows_of_block b) (flat_map rows_of_block (drop (i + 1) blocks)) (flat_map rows_of_block (drop i blocks))
block_next old new blocks i b there = goes_on old new (rows_of_block b) (flat_map rows_of_block (drop (i + 1) blocks)) (flat_map rows_of_block (drop i blocks)) (ap (flat_map rows_of_block) (drop_at blocks i b there))

pub procedure_next : (old new : List ℕ) (m : List Kept) (i : ℕ) (k : Kept) → slice_get m i ≡ Some k → Goes old new (rows_of_procedure k.procedure) (canonical_rows (procedures (drop (i + 1) m))) (canonical_rows (procedures (drop i m)))
procedure_next old new m i k there = goes_on old new (rows_of_procedure k.procedure) (canonical_rows (procedures (drop (i + 1) m))) (canonical_rows (procedures (drop i m))) (ap (λ (x : List Kept). canonical_rows (procedures x)) (drop_at m i k there))

pub value_next : (old new : List ℕ) (values rest : List Value) (v : Value) → slice_get values 0 ≡ Some v → rest ≡ drop 1 values → Goes old new (rows_of_value v) (flat_map rows_of_value rest) (flat_map rows_of_value values)
value_next old new [] rest v h e f = absurd cc
value_next old new (w ∷ values) rest v h e f =
    let same : w ≡ v = cc in
    goes_on old new (rows_of_value v) (flat_map rows_of_value rest) (flat_map rows_of_value (w ∷ values)) (ap (λ (x : Value). rows_of_value x ++ flat_map rows_of_value values) same ∙ ap (λ (vs : List Value). rows_of_value v ++ flat_map rows_of_value vs) (sym e)) f

pub shorter : (values rest : List Value) (v : Value) → slice_get values 0 ≡ Some v → rest ≡ drop 1 values → length rest < length values
shorter [] rest v h e = absurd cc
shorter (w ∷ values) rest v h e = let same = ap length e in omega arith

get_block : (blocks : List Block) (i : ℕ) → i < length blocks → slice_get blocks i ≡ Some (slice_index_or blocks i no_block)
get_block [] i h = absurd (omega arith)
get_block (b ∷ blocks) zero h = refl
get_block (b ∷ blocks) (suc i) h = get_block blocks i (omega arith)

at_below : (blocks : List Block) (i : ℕ) (b : Block) → slice_get blocks i ≡ Some b → i < length blocks
at_below [] i b h = absurd cc
at_below (c ∷ blocks) zero b h = omega arith
at_below (c ∷ blocks) (suc i) b h = omega (arith, at_below blocks i b h)

pub block_there : (blocks : List Block) (i : ℕ) → i < length blocks → slice_get blocks i ≡ Some (slice_index_or blocks i no_block)
block_there blocks i h = get_block blocks i h

-- a heading and the values below it
pub block_written : (p : Procedure) (i number : ℕ) (b : Block) (out a new : List ℕ) → slice_get p.blocks i ≡ Some b → number ≡ (slice_index_or p.blocks i no_block).number → a ≡ out ++ text_of (rows.Heading number ∷ []) → new ≡ a ++ text_of (flat_map rows_of_value (values_of p i)) → new ≡ out ++ text_of (rows_of_block b)
block_written p i number b out a new there e f g =
    let inside = at_below p.blocks i b there in
    let same : slice_index_or p.blocks i no_block ≡ b = let h = sym (get_block p.blocks i inside) ∙ there in cc in
    two_texts out a new (rows.Heading number ∷ []) (flat_map rows_of_value (values_of p i)) f g
    ∙ ap (λ (n : ℕ). out ++ text_of (rows.Heading n ∷ flat_map rows_of_value (values_of p i))) e
    ∙ ap (λ (x : Block). out ++ text_of (rows.Heading x.number ∷ flat_map rows_of_value x.values)) same
