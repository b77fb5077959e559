-- What the limits say of the values, the children and cases, the slots and the blocks of a module; and how many
-- successors a value has.
use Rattle.std.proofs.Common.{◌≡◌, ℕ, ◌+◌, ◌≤◌, List, [], ◌∷◌, ◌++◌, length, map, ap, arith}
use Rattle.std.specs.Prelude.{All, slice_index_or, sum_by}
use Rattle.std.specs.List.{flat_map}
use Rattle.std.proofs.lemmas.Option.{slice_get-get_or}
use Rattle.std.proofs.lemmas.List.Sums.{sum_by-append, sum_by-cons}
use Rattle.b3_ir.specs.declared.procedure.SlotLine.{SlotLine}
use Rattle.b3_ir.specs.declared.value.Body.{Body}
use Rattle.b3_ir.specs.declared.value.Body.TheVariants.{Targets, Cases}
use Rattle.b3_ir.specs.declared.value.Value.{Value}
use Rattle.b3_ir.specs.Procedure.{Block, Procedure, total}
use Rattle.b3_module.specs.Canonical.{Matches}
use Rattle.b3_module.specs.Limits.{Header, Heading, KeepsLimits, Placed, cases_of, operands, part_of_slot, part_of_value, parts_of, parts_of_block, parts_of_slots, parts_of_values, placed}
use Rattle.b3_module.specs.TextModules.{IsTextValue, targets_of}
use Rattle.b3_module.specs.Texts.{following}
use Rattle.b3_module.specs.declared.place.Following.{Following}
use Rattle.b3_module.specs.declared.place.Following.TheVariants.{Nothing, Bare, One, Two, Many}
use Rattle.b3_module.specs.declared.fault.LimitName.TheVariants as limits
use Rattle.b3_module.proofs.LimitSums.{count_of, ones, sums_flat, within}

-- ---- the parts of a procedure

sums_mapped : {X : Type 0} (c : Placed → ℕ) (part : X → Placed) (f : X → ℕ) → ((x : X) → f x ≤ c (part x)) → (xs : List X)
    → sum_by f xs ≤ sum_by c (map part xs)
sums_mapped c part f each [] = omega arith
sums_mapped c part f each (x ∷ xs) =
    omega (arith, sum_by-cons f x xs, sum_by-cons c (part x) (map part xs), each x, sums_mapped c part f each xs)

block_counted : (c : Placed → ℕ) (f : Value → ℕ) → ((v : Value) → f v ≤ c (part_of_value v)) → (b : Block) → sum_by f b.values ≤ sum_by c (parts_of_block b)
block_counted c f each b =
    omega (arith, sum_by-cons c (placed b.line Heading) (parts_of_values b.values), sums_mapped c part_of_value f each b.values)

parts_counted : (c : Placed → ℕ) (p : Procedure)
    → sum_by c (parts_of p) ≡ c (placed p.line Header) + (sum_by c (parts_of_slots p.slots) + sum_by c (flat_map parts_of_block p.blocks))
parts_counted c p =
    omega (
      arith,
      sum_by-cons c (placed p.line Header) (parts_of_slots p.slots ++ flat_map parts_of_block p.blocks),
      sum_by-append c (parts_of_slots p.slots) (flat_map parts_of_block p.blocks),
    )

-- what is counted of each block
of_blocks : (c : Placed → ℕ) (f : Block → ℕ) → ((b : Block) → f b ≤ sum_by c (parts_of_block b)) → (p : Procedure) → sum_by f p.blocks ≤ sum_by c (parts_of p)
of_blocks c f each p = omega (arith, parts_counted c p, sums_flat c parts_of_block f each p.blocks)

-- ---- values, children and cases

one_value : (v : Value) → 1 ≤ count_of limits.Values (part_of_value v)
one_value v = omega arith

values_in_block : (b : Block) → length b.values ≤ sum_by (count_of limits.Values) (parts_of_block b)
values_in_block b = omega (arith, ones b.values, block_counted (count_of limits.Values) (λ (v : Value). 1) one_value b)

values_in : (p : Procedure) → total p ≤ sum_by (count_of limits.Values) (parts_of p)
values_in p = of_blocks (count_of limits.Values) (λ (b : Block). length b.values) values_in_block p

pub few_values : (m : List Procedure) → KeepsLimits m → sum_by total m ≤ 65536
few_values m keeps =
    let most = within limits.Values (flat_map parts_of m) (λ line past. keeps limits.Values line past) in
    omega (arith, sums_flat (count_of limits.Values) parts_of total values_in m)

operands_of : (v : Value) → operands v ≤ count_of limits.Children (part_of_value v)
operands_of v = omega arith

operands_in_block : (b : Block) → sum_by operands b.values ≤ sum_by (count_of limits.Children) (parts_of_block b)
operands_in_block b = block_counted (count_of limits.Children) operands operands_of b

operands_in : (p : Procedure) → sum_by (λ (b : Block). sum_by operands b.values) p.blocks ≤ sum_by (count_of limits.Children) (parts_of p)
operands_in p = of_blocks (count_of limits.Children) (λ (b : Block). sum_by operands b.values) operands_in_block p

pub few_operands : (m : List Procedure) → KeepsLimits m → sum_by (λ (p : Procedure). sum_by (λ (b : Block). sum_by operands b.values) p.blocks) m ≤ 262144
few_operands m keeps =
    let most = within limits.Children (flat_map parts_of m) (λ line past. keeps limits.Children line past) in
    omega (arith, sums_flat (count_of limits.Children) parts_of (λ (p : Procedure). sum_by (λ (b : Block). sum_by operands b.values) p.blocks) operands_in m)

-- ---- slots and blocks

one_slot : (s : SlotLine) → 1 ≤ count_of limits.Slots (part_of_slot s)
one_slot s = omega arith

slots_in : (p : Procedure) → length p.slots ≤ sum_by (count_of limits.Slots) (parts_of p)
slots_in p =
    omega (
      arith,
      parts_counted (count_of limits.Slots) p,
      ones p.slots,
      sums_mapped (count_of limits.Slots) part_of_slot (λ (s : SlotLine). 1) one_slot p.slots,
    )

one_heading : (b : Block) → 1 ≤ sum_by (count_of limits.ProcedureBlocks) (parts_of_block b)
one_heading b = omega (arith, sum_by-cons (count_of limits.ProcedureBlocks) (placed b.line Heading) (parts_of_values b.values))

blocks_in : (p : Procedure) → length p.blocks ≤ sum_by (count_of limits.ProcedureBlocks) (parts_of p)
blocks_in p = omega (arith, ones p.blocks, of_blocks (count_of limits.ProcedureBlocks) (λ (b : Block). 1) one_heading p)

pub few_slots : (m : List Procedure) → KeepsLimits m → All (λ (p : Procedure). length p.slots ≤ 4096) m
few_slots m keeps k d h =
    let p = slice_index_or m k d in
    let most = within limits.Slots (parts_of p) (λ line past. keeps limits.Slots line (k, p, slice_get-get_or m k d h, past)) in
    omega (arith, slots_in p)

pub few_blocks : (m : List Procedure) → KeepsLimits m → All (λ (p : Procedure). length p.blocks ≤ 4096) m
few_blocks m keeps k d h =
    let p = slice_index_or m k d in
    let most = within limits.ProcedureBlocks (parts_of p) (λ line past. keeps limits.ProcedureBlocks line (k, p, slice_get-get_or m k d h, past)) in
    omega (arith, blocks_in p)

-- ---- successors

few_of : (f : Following) (body : Body) → Matches f body → length (targets_of body) ≤ cases_of body + 2
few_of Nothing (Targets targets) h = let none : [] ≡ targets = let e = h.0 in cc in omega (arith, ap length none)
few_of Bare (Targets targets) h = let none : [] ≡ targets = let e = h.0 in cc in omega (arith, ap length none)
few_of One (Targets (target ∷ [])) h = omega arith
few_of Two (Targets (then_block ∷ else_block ∷ [])) h = omega arith
few_of Many (Cases words targets) h = omega arith
few_of Nothing (Cases words targets) h = let e = h.1 in absurd cc
few_of Bare (Cases words targets) h = let e = h.1 in absurd cc
few_of Nothing body h = omega arith
few_of Bare body h = omega arith
few_of f body h = absurd h

pub few_successors : (v : Value) → IsTextValue v → length (targets_of v.body) ≤ cases_of v.body + 2
few_successors v h = few_of (following v.kind.opcode) v.body h.matched
