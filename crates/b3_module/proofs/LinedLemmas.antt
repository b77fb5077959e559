-- A module on the lines of its canonical text.
use Rattle.std.proofs.Common.{◌≡◌, ℕ, zero, suc, ◌+◌, ◌<◌, ◌≤◌, Bool, true, false, cond, List, [], ◌∷◌, ◌++◌, length, map, Some, refl, sym, ap, ◌∙◌, arith}
use Rattle.std.specs.Prelude.{nat_le, slice_get, if◌then◌else◌}
use Rattle.std.specs.List.{flat_map}
use Rattle.std.proofs.lemmas.Bool.Decides.{nat_tests}
use Rattle.std.proofs.lemmas.List.Sums.{sum_by-cons}
use Rattle.b3_ir.specs.declared.procedure.SlotLine.{SlotLine}
use Rattle.b3_ir.specs.declared.value.Value.{Value}
use Rattle.b3_ir.specs.Procedure.{Block, Procedure}
use Rattle.b3_rows.specs.declared.row.Row.{Row}
use Rattle.b3_rows.specs.declared.row.Row.TheVariants as rows
use Rattle.b3_module.specs.declared.fault.LimitName.{LimitName}
use Rattle.b3_module.specs.Canonical.{canonical_rows, lined, lined_blocks, lined_procedure, lined_slots, lined_values, row_of_slot, rows_of_block, rows_of_procedure, rows_of_value}
use Rattle.b3_module.specs.Limits.{EachProcedure, Heading, Header, KeepsLimits, Part, Placed, Scope, WholeText, counted, most, part_of_slot, part_of_value, parts_of, parts_of_block, parts_of_slots, parts_of_values, passes_in, scope, up_to}

-- ---- the same rows

values_same : (line : ℕ) (values : List Value) → flat_map rows_of_value (lined_values line values) ≡ flat_map rows_of_value values
values_same line [] = refl
values_same line (v ∷ values) = ap (λ (x : List Row). rows_of_value v ++ x) (values_same (line + length (rows_of_value v)) values)

blocks_same : (line : ℕ) (blocks : List Block) → flat_map rows_of_block (lined_blocks line blocks) ≡ flat_map rows_of_block blocks
blocks_same line [] = refl
blocks_same line (b ∷ blocks) =
    ap (λ (x : List Row). (rows.Heading b.number ∷ x) ++ flat_map rows_of_block (lined_blocks (line + length (rows_of_block b)) blocks)) (values_same
    (line + 1) b.values)
    ∙ ap (λ (x : List Row). rows_of_block b ++ x) (blocks_same (line + length (rows_of_block b)) blocks)

slots_same : (line : ℕ) (slots : List SlotLine) → map row_of_slot (lined_slots line slots) ≡ map row_of_slot slots
slots_same line [] = refl
slots_same line (s ∷ slots) = ap (λ (x : List Row). row_of_slot s ∷ x) (slots_same (line + 1) slots)

procedure_same : (line : ℕ) (p : Procedure) → rows_of_procedure (lined_procedure line p) ≡ rows_of_procedure p
procedure_same line p =
    ap (λ (x : List Row). rows.Header p.name ∷ (x ++ flat_map rows_of_block (lined_blocks (line + 1 + length p.slots) p.blocks))) (slots_same (line + 1)
    p.slots)
    ∙ ap (λ (x : List Row). rows.Header p.name ∷ (map row_of_slot p.slots ++ x)) (blocks_same (line + 1 + length p.slots) p.blocks)

pub rows_same : (line : ℕ) (m : List Procedure) → canonical_rows (lined line m) ≡ canonical_rows m
rows_same line [] = refl
rows_same line (p ∷ m) =
    ap (λ (x : List Row). x ++ canonical_rows (lined (line + length (rows_of_procedure p)) m)) (procedure_same line p)
    ∙ ap (λ (x : List Row). rows_of_procedure p ++ x) (rows_same (line + length (rows_of_procedure p)) m)

-- ---- the same limits

abbrev kinds : List Placed → List Part
kinds parts = map (λ (x : Placed). x.part) parts

map_both : (xs ys : List Placed) → kinds (xs ++ ys) ≡ kinds xs ++ kinds ys
map_both [] ys = refl
map_both (x ∷ xs) ys = ap (λ (k : List Part). x.part ∷ k) (map_both xs ys)

kinds_two : (a b c d : List Placed) → kinds a ≡ kinds c → kinds b ≡ kinds d → kinds (a ++ b) ≡ kinds (c ++ d)
kinds_two a b c d e f = map_both a b ∙ ap (λ (x : List Part). x ++ kinds b) e ∙ ap (λ (x : List Part). kinds c ++ x) f ∙ sym (map_both c d)

value_kinds : (line : ℕ) (values : List Value) → kinds (parts_of_values (lined_values line values)) ≡ kinds (parts_of_values values)
value_kinds line [] = refl
value_kinds line (v ∷ values) = ap (λ (k : List Part). (part_of_value v).part ∷ k) (value_kinds (line + length (rows_of_value v)) values)

block_kinds : (line : ℕ) (blocks : List Block) → kinds (flat_map parts_of_block (lined_blocks line blocks)) ≡ kinds (flat_map parts_of_block blocks)
block_kinds line [] = refl
block_kinds line (b ∷ blocks) =
    kinds_two (parts_of_block (record b { line = line; values = lined_values (line + 1) b.values })) (flat_map parts_of_block (lined_blocks (line + length
    (rows_of_block b)) blocks)) (parts_of_block b) (flat_map parts_of_block blocks) (ap (λ (k : List Part). Heading ∷ k) (value_kinds (line + 1) b.values))
    (block_kinds (line + length (rows_of_block b)) blocks)

slot_kinds : (line : ℕ) (slots : List SlotLine) → kinds (parts_of_slots (lined_slots line slots)) ≡ kinds (parts_of_slots slots)
slot_kinds line [] = refl
slot_kinds line (s ∷ slots) = ap (λ (k : List Part). (part_of_slot s).part ∷ k) (slot_kinds (line + 1) slots)

procedure_kinds : (line : ℕ) (p : Procedure) → kinds (parts_of (lined_procedure line p)) ≡ kinds (parts_of p)
procedure_kinds line p =
    ap (λ (k : List Part). Header ∷ k) (kinds_two (parts_of_slots (lined_slots (line + 1) p.slots)) (flat_map parts_of_block (lined_blocks (line + 1 +
    length p.slots) p.blocks)) (parts_of_slots p.slots) (flat_map parts_of_block p.blocks) (slot_kinds (line + 1) p.slots) (block_kinds (line + 1 + length
    p.slots) p.blocks))

module_kinds : (line : ℕ) (m : List Procedure) → kinds (flat_map parts_of (lined line m)) ≡ kinds (flat_map parts_of m)
module_kinds line [] = refl
module_kinds line (p ∷ m) =
    kinds_two (parts_of (lined_procedure line p)) (flat_map parts_of (lined (line + length (rows_of_procedure p)) m)) (parts_of p) (flat_map parts_of m)
    (procedure_kinds line p) (module_kinds (line + length (rows_of_procedure p)) m)

-- how much of what is limited stands on all lines
abbrev in_all : LimitName → List Part → ℕ
in_all which [] = 0
in_all which (part ∷ parts) = counted which part + in_all which parts

counts : ℕ → ℕ → ℕ → ℕ
counts line here n = cond (nat_le here line) n 0

counts_less : (x : Bool) (n : ℕ) → cond x n 0 ≤ n
counts_less true n = omega arith
counts_less false n = omega arith

least : (which : LimitName) (line : ℕ) (parts : List Placed) → up_to which line parts ≤ in_all which (kinds parts)
least which line [] = omega arith
least which line (x ∷ parts) =
    omega (
      arith,
      sum_by-cons (λ (y : Placed). if nat_le y.line line then counted which y.part else 0) x parts,
      counts_less (nat_le x.line line) (counted
          which x.part),
      least which line parts,
    )

-- with the lines up to the last
abbrev AreUpTo : ℕ → List Placed → Type 0
AreUpTo line [] = Unit {0}
AreUpTo line (x ∷ parts) = (x.line ≤ line) × AreUpTo line parts

later_up_to : (a b : ℕ) (parts : List Placed) → a ≤ b → AreUpTo a parts → AreUpTo b parts
later_up_to a b [] h k = tt
later_up_to a b (x ∷ parts) h k = (let l = k.0 in omega arith, later_up_to a b parts h k.1)

-- a last line
last_line : (parts : List Placed) → (line : ℕ) × AreUpTo line parts
last_line [] = (0, tt)
last_line (x ∷ parts) =
    let rest = last_line parts in
    (x.line + rest.0, (omega arith, later_up_to rest.0 (x.line + rest.0) parts (omega arith) rest.1))

counts_whole : (here line n : ℕ) → here ≤ line → cond (nat_le here line) n 0 ≡ n
counts_whole here line n h = let yes_ : nat_le here line ≡ true = grind (arith, nat_tests) in rw yes_ refl

greatest : (which : LimitName) (line : ℕ) (parts : List Placed) → AreUpTo line parts → up_to which line parts ≡ in_all which (kinds parts)
greatest which line [] h = refl
greatest which line (x ∷ parts) h =
    omega (
      arith,
      sum_by-cons (λ (y : Placed). if nat_le y.line line then counted which y.part else 0) x parts,
      counts_whole x.line line (counted which
          x.part) h.0,
      greatest which line parts h.1,
    )

-- where parts pass a number, the same parts on other lines do
passes_again : (which : LimitName) (line n : ℕ) (xs ys : List Placed) → kinds xs ≡ kinds ys → n < up_to which line xs → (other : ℕ) × (n < up_to which other ys)
passes_again which line n xs ys e h =
    let last = last_line ys in
    let same = ap (in_all which) e in
    (last.0, omega (arith, least which line xs, greatest which last.0 ys last.1))

found : (line : ℕ) (m : List Procedure) (k : ℕ) (p : Procedure) → slice_get (lined line m) k ≡ Some p
    → (q : Procedure) × (slice_get m k ≡ Some q) × (kinds (parts_of p) ≡ kinds (parts_of q))
found line [] k p e = absurd cc
found line (q ∷ m) zero p e =
    let same : lined_procedure line q ≡ p = cc in
    (q, refl, ap (λ (x : Procedure). kinds (parts_of x)) (sym same) ∙ procedure_kinds line q)
found line (q ∷ m) (suc k) p e = found (line + length (rows_of_procedure q)) m k p e

passes_in_again : (s : Scope) (which : LimitName) (line at : ℕ) (m : List Procedure) → passes_in s which line (lined at m)
    → (other : ℕ) × passes_in s which other m
passes_in_again WholeText which line at m h = passes_again which line (most which) (flat_map parts_of (lined at m)) (flat_map parts_of m) (module_kinds at m) h
passes_in_again EachProcedure which line at m h =
    let q = found at m h.0 h.1 h.2 in
    let other = passes_again which line (most which) (parts_of h.1) (parts_of q.0) q.2 h.3 in
    (other.0, (h.0, q.0, q.1, other.1))

-- limits don't depend on lines
pub limits_same : (at : ℕ) (m : List Procedure) → KeepsLimits m → KeepsLimits (lined at m)
limits_same at m h which line p = let other = passes_in_again (scope which) which line at m p in h which other.0 other.1
