-- Counting goes on, one part after the other.
use Rattle.std.proofs.Common.{◌≡◌, ℕ, zero, suc, ◌+◌, ◌<◌, length, List, [], ◌∷◌, ◌++◌, Some, Result, Ok, Err, refl, sym, ap, ◌∙◌, arith, drop}
use Rattle.std.specs.Prelude.{slice_get, slice_index_or}
use Rattle.std.specs.List.{flat_map}
use Rattle.b3_ir.specs.declared.procedure.SlotLine.{SlotLine}
use Rattle.b3_ir.specs.declared.value.Value.{Value}
use Rattle.b3_ir.specs.Procedure.{Block, Kept, Procedure, no_block, procedures, values_of}
use Rattle.b3_module.specs.declared.counting.Counts.{Counts}
use Rattle.b3_module.specs.declared.counting.Passed.{Passed}
use Rattle.b3_module.specs.Limits.{Placed, operands, parts_of, parts_of_block, parts_of_slots, parts_of_values}
use Rattle.b3_module.specs.Counting.{anew, counted_all, counted_on, with_heading, with_placed, with_slot, with_value}

pub counted_err : (fault : Passed) (parts : List Placed) → counted_on (Err fault) parts ≡ Err fault
counted_err fault [] = refl
counted_err fault (x ∷ parts) = counted_err fault parts

pub counted_append : (r : Result Counts Passed) (a b : List Placed) → counted_on r (a ++ b) ≡ counted_on (counted_on r a) b
counted_append r [] b = refl
counted_append r (x ∷ a) b = counted_append (with_placed r x) a b

pub all_err : (fault : Passed) (ps : List Procedure) → counted_all (Err fault) ps ≡ Err fault
all_err fault [] = refl
all_err fault (p ∷ ps) = ap (λ (r : Result Counts Passed). counted_all r ps) (counted_err fault (parts_of p)) ∙ all_err fault ps

drop_suc : {A : Type 0} (xs : List A) (i : ℕ) (x : A) → slice_get xs i ≡ Some x → drop i xs ≡ x ∷ drop (suc i) xs
drop_suc [] i x h = absurd cc
drop_suc (y ∷ xs) zero x h = let e : y ≡ x = cc in ap (λ z. z ∷ xs) e
drop_suc (y ∷ xs) (suc i) x h = drop_suc xs i x h

pub drop_at : {A : Type 0} (xs : List A) (i : ℕ) (x : A) → slice_get xs i ≡ Some x → drop i xs ≡ x ∷ drop (i + 1) xs
drop_at xs i x h =
    let n : suc i ≡ i + 1 = omega arith in
    drop_suc xs i x h ∙ ap (λ (k : ℕ). x ∷ drop k xs) n

pub slot_next : (slots : List SlotLine) (i : ℕ) (s : SlotLine) (c : Counts) → slice_get slots i ≡ Some s → counted_on (Ok c) (parts_of_slots (drop i slots)) ≡ counted_on (with_slot c s.line s.bytes) (parts_of_slots (drop (i + 1) slots))
slot_next slots i s c there = ap (λ (rest : List SlotLine). counted_on (Ok c) (parts_of_slots rest)) (drop_at slots i s there)

pub value_next : (values rest : List Value) (v : Value) (c : Counts) → slice_get values 0 ≡ Some v → rest ≡ drop 1 values → counted_on (Ok c) (parts_of_values values) ≡ counted_on (with_value c v.line (operands v)) (parts_of_values rest)
value_next [] rest v c h e = absurd cc
value_next (w ∷ values) rest v c h e =
    let same : w ≡ v = cc in
    ap (λ (x : Value). counted_on (with_value c x.line (operands x)) (parts_of_values values)) same ∙ ap (λ (vs : List Value). counted_on (with_value c v.line (operands v)) (parts_of_values vs)) (sym e)

pub block_next : (blocks : List Block) (i : ℕ) (b : Block) (c : Counts) → slice_get blocks i ≡ Some b → counted_on (Ok c) (flat_map parts_of_block (drop i blocks)) ≡ counted_on (counted_on (Ok c) (parts_of_block b)) (flat_map parts_of_block (drop (i + 1) blocks))
block_next blocks i b c there =
    ap (λ (rest : List Block). counted_on (Ok c) (flat_map parts_of_block rest)) (drop_at blocks i b there) ∙ counted_append (Ok c) (parts_of_block b) (flat_map parts_of_block (drop (i + 1) blocks))

pub procedure_next : (m : List Kept) (i : ℕ) (k : Kept) (c : Counts) → slice_get m i ≡ Some k → counted_all (Ok c) (procedures (drop i m)) ≡ counted_all (counted_on (anew (Ok c)) (parts_of k.procedure)) (procedures (drop (i + 1) m))
procedure_next m i k c there = ap (λ (rest : List Kept). counted_all (Ok c) (procedures rest)) (drop_at m i k there)

-- ---- where a count ends at a limit

pub halted : (result r : Result Counts Passed) (x fault : Passed) (rest : List Placed) (all : Result Counts Passed) → result ≡ Err x → x ≡ fault → r ≡ Err fault → counted_on r rest ≡ all → result ≡ all
halted result r x fault rest all told same e goes = told ∙ ap Err same ∙ sym (counted_err fault rest) ∙ ap (λ (s : Result Counts Passed). counted_on s rest) (sym e) ∙ goes

pub all_halted : (result r : Result Counts Passed) (x fault : Passed) (rest : List Procedure) (all : Result Counts Passed) → result ≡ Err x → x ≡ fault → r ≡ Err fault → counted_all r rest ≡ all → result ≡ all
all_halted result r x fault rest all told same e goes = told ∙ ap Err same ∙ sym (all_err fault rest) ∙ ap (λ (s : Result Counts Passed). counted_all s rest) (sym e) ∙ goes

pub get_block : (blocks : List Block) (i : ℕ) → i < length blocks → slice_get blocks i ≡ Some (slice_index_or blocks i no_block)
get_block [] i h = absurd (omega arith)
get_block (b ∷ blocks) zero h = refl
get_block (b ∷ blocks) (suc i) h = get_block blocks i (omega arith)

at_below : (blocks : List Block) (i : ℕ) (b : Block) → slice_get blocks i ≡ Some b → i < length blocks
at_below [] i b h = absurd cc
at_below (c ∷ blocks) zero b h = omega arith
at_below (c ∷ blocks) (suc i) b h = omega (arith, at_below blocks i b h)

-- the heading of a block, and its values
pub block_counted : (p : Procedure) (i line : ℕ) (b : Block) (c : Counts) → slice_get p.blocks i ≡ Some b → line ≡ (slice_index_or p.blocks i no_block).line → counted_on (Ok c) (parts_of_block b) ≡ counted_on (with_heading c line) (parts_of_values (values_of p i))
block_counted p i line b c there e =
    let inside = at_below p.blocks i b there in
    let same : b ≡ slice_index_or p.blocks i no_block = let f = sym there ∙ get_block p.blocks i inside in cc in
    ap (λ (x : Block). counted_on (with_heading c x.line) (parts_of_values x.values)) same ∙ ap (λ (n : ℕ). counted_on (with_heading c n) (parts_of_values (values_of p i))) (sym e)

pub shorter : (values rest : List Value) (v : Value) → slice_get values 0 ≡ Some v → rest ≡ drop 1 values → length rest < length values
shorter [] rest v h e = absurd cc
shorter (w ∷ values) rest v h e = let same = ap length e in omega arith

-- the slots of a procedure, and its blocks, behind its header
pub behind_header : (r : Result Counts Passed) (d : Counts) (slots blocks : List Placed) → r ≡ Ok d → counted_on r (slots ++ blocks) ≡ counted_on (counted_on (Ok d) slots) blocks
behind_header r d slots blocks e = ap (λ (s : Result Counts Passed). counted_on s (slots ++ blocks)) e ∙ counted_append (Ok d) slots blocks
