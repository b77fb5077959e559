-- The made module keeps the limits: its parts are few.
use Rattle.std.proofs.Common.{◌≡◌, ℕ, suc, ◌+◌, ◌*◌, ◌≤◌, Bool, true, false, List, [], ◌∷◌, ◌++◌, Some, length, refl, sym, ap, subst, arith, nat_le, if◌then◌else◌}
use Rattle.std.specs.Prelude.{All, map, slice_get, sum_by}
use Rattle.std.specs.List.{flat_map}
use Rattle.std.proofs.lemmas.List.{length-append, length-map}
use Rattle.std.proofs.Math.Nat.{suc-mul}
use Rattle.std.proofs.lemmas.List.Elements.{All-cons, All-nil, All-weaker}
use Rattle.std.proofs.lemmas.List.Sums.{sum_by-append, sum_by-cons, sum_by-le}
use Rattle.b3_ir.specs.Procedure.{Block, Procedure}
use Rattle.b3_ir.specs.declared.value.Value.{Value}
use Rattle.b3_module.specs.Limits.{Computed, Header, Heading, KeepsLimits, Part, Placed, Slot, counted, most, operands, part_of_slot, part_of_value, parts_of, parts_of_block, parts_of_values, placed, up_to}
use Rattle.b3_module.specs.declared.fault.LimitName.{LimitName}
use Rattle.b3_module.specs.declared.fault.LimitName.TheVariants as limits

-- a heading, or a value of at most two children
abbrev pub IsInner : Part → Type 0
IsInner Header = ⊥
IsInner (Slot bytes) = ⊥
IsInner Heading = Unit {0}
IsInner (Computed operands) = operands ≤ 2

-- a procedure without slots, whose other parts are such, 520 of them
pub record HasParts (p : Procedure) : Type 0 where
  pub slots : p.slots ≡ []
  pub inner : All (λ (x : Placed). IsInner x.part) (flat_map parts_of_block p.blocks)
  pub count : length (flat_map parts_of_block p.blocks) ≡ 520

abbrev at_line : LimitName → ℕ → Placed → ℕ
at_line which line x = if nat_le x.line line then counted which x.part else 0

-- how much of what is limited a part is, and the header
abbrev each : LimitName → ℕ
each limits.Procedures = 0
each _ = 2

inner_counted : (which : LimitName) (part : Part) → IsInner part → counted which part ≤ each which
inner_counted which Header inner = absurd inner
inner_counted which (Slot bytes) inner = absurd inner
inner_counted limits.Procedures Heading inner = omega arith
inner_counted limits.Values Heading inner = omega arith
inner_counted limits.Children Heading inner = omega arith
inner_counted limits.ProcedureValues Heading inner = omega arith
inner_counted limits.ProcedureBlocks Heading inner = omega arith
inner_counted limits.ProcedureChildren Heading inner = omega arith
inner_counted limits.Slots Heading inner = omega arith
inner_counted limits.SlotBytes Heading inner = omega arith
inner_counted limits.Procedures (Computed operands) inner = omega (arith, inner)
inner_counted limits.Values (Computed operands) inner = omega (arith, inner)
inner_counted limits.Children (Computed operands) inner = omega (arith, inner)
inner_counted limits.ProcedureValues (Computed operands) inner = omega (arith, inner)
inner_counted limits.ProcedureBlocks (Computed operands) inner = omega (arith, inner)
inner_counted limits.ProcedureChildren (Computed operands) inner = omega (arith, inner)
inner_counted limits.Slots (Computed operands) inner = omega (arith, inner)
inner_counted limits.SlotBytes (Computed operands) inner = omega (arith, inner)

header_counted : (which : LimitName) → counted which Header ≤ 1
header_counted limits.Procedures = omega arith
header_counted limits.Values = omega arith
header_counted limits.Children = omega arith
header_counted limits.ProcedureValues = omega arith
header_counted limits.ProcedureBlocks = omega arith
header_counted limits.ProcedureChildren = omega arith
header_counted limits.Slots = omega arith
header_counted limits.SlotBytes = omega arith

if_counted : (b : Bool) (n most : ℕ) → n ≤ most → (if b then n else 0) ≤ most
if_counted true n most le = le
if_counted false n most le = omega arith

procedure_counted : (which : LimitName) (line : ℕ) (p : Procedure) → HasParts p → up_to which line (parts_of p) ≤ 1 + 520 * each which
procedure_counted which line p has =
    let inner = flat_map parts_of_block p.blocks in
    let header : Placed = placed p.line Header in
    let same : parts_of p ≡ header ∷ inner = ap (λ slots. header ∷ (map part_of_slot slots ++ inner)) has.slots in
    let sum : sum_by (at_line which line) inner ≤ length inner * each which =
    sum_by-le (at_line which line) (each which) inner
    (All-weaker (λ (x : Placed). IsInner x.part) (λ (x : Placed). at_line which line x ≤ each which)
    (λ x is. if_counted (nat_le x.line line) (counted which x.part) (each which) (inner_counted which x.part is)) inner has.inner) in
    let front : at_line which line header ≤ 1 = if_counted (nat_le p.line line) (counted which Header) 1 (header_counted which) in
    let whole : sum_by (at_line which line) (header ∷ inner) ≡ at_line which line header + sum_by (at_line which line) inner =
    sum_by-cons (at_line which line) header inner in
    subst (λ parts. sum_by (at_line which line) parts ≤ 1 + 520 * each which) (sym same)
    (bounded (length inner) (each which) (at_line which line header) (sum_by (at_line which line) inner)
    (sum_by (at_line which line) (header ∷ inner)) has.count sum front whole)
  where
    bounded : (n e a s w : ℕ) → n ≡ 520 → s ≤ n * e → a ≤ 1 → w ≡ a + s → w ≤ 1 + 520 * e
    bounded n e a s w is le one sum = let more : s ≤ 520 * e = subst (λ m. s ≤ m * e) is le in omega arith

text_counted : (which : LimitName) (line : ℕ) (ps : List Procedure) → ((k : ℕ) (p : Procedure) → slice_get ps k ≡ Some p → HasParts p)
    → up_to which line (flat_map parts_of ps) ≤ length ps * (1 + 520 * each which)
text_counted which line [] has = omega arith
text_counted which line (p ∷ ps) has =
    let first : up_to which line (parts_of p) ≤ 1 + 520 * each which = procedure_counted which line p (has 0 p refl) in
    let rest : up_to which line (flat_map parts_of ps) ≤ length ps * (1 + 520 * each which) = text_counted which line ps (λ k q there. has (suc k) q there) in
    let both : up_to which line (parts_of p ++ flat_map parts_of ps) ≡ up_to which line (parts_of p) + up_to which line (flat_map parts_of ps) =
    sum_by-append (at_line which line) (parts_of p) (flat_map parts_of ps) in
    added (length ps) (1 + 520 * each which) (up_to which line (parts_of p)) (up_to which line (flat_map parts_of ps))
    (up_to which line (parts_of p ++ flat_map parts_of ps)) first rest both
  where
    added : (n c a b w : ℕ) → a ≤ c → b ≤ n * c → w ≡ a + b → w ≤ (suc n) * c
    added n c a b w le more sum = simp suc-mul (omega arith)

module _ (ps : List Procedure) (few : length ps ≤ 16) (has : (k : ℕ) (p : Procedure) → slice_get ps k ≡ Some p → HasParts p) where
  whole : (which : LimitName) (line : ℕ) → up_to which line (flat_map parts_of ps) ≤ length ps * (1 + 520 * each which)
  whole which line = text_counted which line ps has

  one : (which : LimitName) (line k : ℕ) (p : Procedure) → slice_get ps k ≡ Some p → up_to which line (parts_of p) ≤ 1 + 520 * each which
  one which line k p there = procedure_counted which line p (has k p there)

  pub keeps_limits : KeepsLimits ps
  keeps_limits limits.Procedures line passes = omega (arith, passes, whole limits.Procedures line, few)
  keeps_limits limits.Values line passes = omega (arith, passes, whole limits.Values line, few)
  keeps_limits limits.Children line passes = omega (arith, passes, whole limits.Children line, few)
  keeps_limits limits.ProcedureValues line passes = omega (arith, passes.3, one limits.ProcedureValues line passes.0 passes.1 passes.2)
  keeps_limits limits.ProcedureBlocks line passes = omega (arith, passes.3, one limits.ProcedureBlocks line passes.0 passes.1 passes.2)
  keeps_limits limits.ProcedureChildren line passes = omega (arith, passes.3, one limits.ProcedureChildren line passes.0 passes.1 passes.2)
  keeps_limits limits.Slots line passes = omega (arith, passes.3, one limits.Slots line passes.0 passes.1 passes.2)
  keeps_limits limits.SlotBytes line passes = omega (arith, passes.3, one limits.SlotBytes line passes.0 passes.1 passes.2)

-- ---- the parts of blocks

parts_both : (a b : List Placed) → All (λ (x : Placed). IsInner x.part) a → All (λ (x : Placed). IsInner x.part) b
    → All (λ (x : Placed). IsInner x.part) (a ++ b)
parts_both [] b x y = y
parts_both (part ∷ a) b x y = All-cons (λ (x : Placed). IsInner x.part) part (a ++ b) (x 0 part (omega arith))
    (parts_both a b (λ k d lt. x (suc k) d (omega arith)) y)

values_inner : (vs : List Value) → All (λ (v : Value). operands v ≤ 2) vs → All (λ (x : Placed). IsInner x.part) (parts_of_values vs)
values_inner [] h = All-nil _
values_inner (v ∷ vs) h = All-cons (λ (x : Placed). IsInner x.part) (part_of_value v) (parts_of_values vs) (h 0 v (omega arith))
    (values_inner vs (λ k d lt. h (suc k) d (omega arith)))

pub block_inner : (b : Block) → All (λ (v : Value). operands v ≤ 2) b.values → All (λ (x : Placed). IsInner x.part) (parts_of_block b)
block_inner b h = All-cons (λ (x : Placed). IsInner x.part) (placed b.line Heading) (parts_of_values b.values) tt (values_inner b.values h)

pub three_inner : (a b c : Block) → All (λ (v : Value). operands v ≤ 2) a.values → All (λ (v : Value). operands v ≤ 2) b.values
    → All (λ (v : Value). operands v ≤ 2) c.values
    → All (λ (x : Placed). IsInner x.part) (flat_map parts_of_block (a ∷ b ∷ c ∷ []))
three_inner a b c x y z =
    parts_both (parts_of_block a) (parts_of_block b ++ (parts_of_block c ++ [])) (block_inner a x)
    (parts_both (parts_of_block b) (parts_of_block c ++ []) (block_inner b y) (parts_both (parts_of_block c) [] (block_inner c z) (All-nil _)))

pub three_count : (a b c : Block) → length (flat_map parts_of_block (a ∷ b ∷ c ∷ [])) ≡ 3 + length a.values + length b.values + length c.values
three_count a b c = omega (
  arith,
  length-append (parts_of_block a) (parts_of_block b ++ (parts_of_block c ++ [])),
  length-append (parts_of_block b) (parts_of_block c ++ []),
  length-append (parts_of_block c) [],
  length-map a.values part_of_value,
  length-map b.values part_of_value,
  length-map c.values part_of_value,
)
