-- Procedures of a text within the limits have no more values, blocks, children and cases, and slots than those allow.
use Rattle.std.proofs.Common.{◌≡◌, ℕ, ◌+◌, ◌<◌, ◌≤◌, List, [], ◌∷◌, ◌++◌, length, refl, arith}
use Rattle.std.specs.Prelude.{sum_by}
use Rattle.std.specs.List.{flat_map}
use Rattle.std.proofs.lemmas.List.Sums.{sum_by-append, sum_by-cons}
use Rattle.b3_base.proofs.Lists.{All-from_places}
use Rattle.b3_ir.specs.Procedure.{Block, Kept, Procedure, procedures, total}
use Rattle.b3_ir.specs.declared.procedure.SlotLine.{SlotLine}
use Rattle.b3_ir.specs.declared.value.Body.{Body}
use Rattle.b3_ir.specs.declared.value.Body.TheVariants.{Cases}
use Rattle.b3_ir.specs.declared.value.Value.{Value}
use Rattle.b3_module.specs.Limits.{Computed, Header, Heading, KeepsLimits, Placed, cases_of, counted, most, operands, part_of_slot, part_of_value, parts_of, parts_of_block, parts_of_slots, parts_of_values, up_to}
use Rattle.b3_module.specs.declared.fault.LimitName.{LimitName}
use Rattle.b3_module.specs.declared.fault.LimitName.TheVariants as limits
use Rattle.b3_module.proofs.LimitSums.{count_of, ones, sums_flat, within}
use Rattle.a64_run.specs.Agrees.{case_count, child_count}
use Rattle.air_select.specs.Contract.{IsWithinLimits, procedure_at}
use Rattle.a64_object.specs.Taken.{AreWithinLimits, HasFewSlots, bytes_in}
use Rattle.a64_object.proofs.Lists.{one_in}
use Rattle.a64_object.proofs.Making.{procedure_there}

-- ---- the parts of a block, and of a procedure
values_counted : (which : LimitName) → ((n : ℕ) → counted which (Computed n) ≡ 1) → (vs : List Value) → length vs ≤ sum_by (count_of which) (parts_of_values vs)
values_counted which one [] = omega arith
values_counted which one (v ∷ vs) = omega (arith, sum_by-cons (count_of which) (part_of_value v) (parts_of_values vs), one (operands v), values_counted which one vs)

same_cases : (body : Body) → case_count body ≡ cases_of body
same_cases (Cases cases targets) = refl
same_cases _ = refl

children_counted : (which : LimitName) → ((n : ℕ) → counted which (Computed n) ≡ n) → (vs : List Value)
    → sum_by (λ (v : Value). length v.children + case_count v.body) vs ≤ sum_by (count_of which) (parts_of_values vs)
children_counted which all [] = omega arith
children_counted which all (v ∷ vs) =
    omega (
      arith,
      sum_by-cons (count_of which) (part_of_value v) (parts_of_values vs),
      sum_by-cons (λ (x : Value). length x.children + case_count x.body) v vs,
      all (operands v),
      same_cases v.body,
      children_counted which all vs,
    )

in_block : (c : Placed → ℕ) (b : Block) → sum_by c (parts_of_values b.values) ≤ sum_by c (parts_of_block b)
in_block c b = omega (arith, sum_by-cons c (record { line = b.line; part = Heading }) (parts_of_values b.values))

in_procedure : (c : Placed → ℕ) (p : Procedure) → sum_by c (flat_map parts_of_block p.blocks) ≤ sum_by c (parts_of p)
in_procedure c p =
    omega (
      arith,
      sum_by-cons c (record { line = p.line; part = Header }) (parts_of_slots p.slots ++ flat_map parts_of_block p.blocks),
      sum_by-append c (parts_of_slots p.slots) (flat_map parts_of_block p.blocks),
    )

total_counted : (which : LimitName) → ((n : ℕ) → counted which (Computed n) ≡ 1) → (p : Procedure) → total p ≤ sum_by (count_of which) (parts_of p)
total_counted which one p =
    let blocks = sums_flat (count_of which) parts_of_block (λ (b : Block). length b.values)
    (λ b. let inside = in_block (count_of which) b in let few = values_counted which one b.values in omega arith) p.blocks in
    let whole_of = in_procedure (count_of which) p in
    omega arith

child_counted : (which : LimitName) → ((n : ℕ) → counted which (Computed n) ≡ n) → (p : Procedure) → child_count p ≤ sum_by (count_of which) (parts_of p)
child_counted which all p =
    let blocks = sums_flat (count_of which) parts_of_block (λ (b : Block). sum_by (λ (v : Value). length v.children + case_count v.body) b.values)
    (λ b. let inside = in_block (count_of which) b in let few = children_counted which all b.values in omega arith) p.blocks in
    let whole_of = in_procedure (count_of which) p in
    omega arith

blocks_counted : (p : Procedure) → length p.blocks ≤ sum_by (count_of limits.ProcedureBlocks) (parts_of p)
blocks_counted p =
    let blocks = sums_flat (count_of limits.ProcedureBlocks) parts_of_block (λ (b : Block). 1)
    (λ b. omega (arith, sum_by-cons (count_of limits.ProcedureBlocks) (record { line = b.line; part = Heading }) (parts_of_values b.values))) p.blocks in
    let whole_of = in_procedure (count_of limits.ProcedureBlocks) p in
    omega (arith, ones p.blocks)

-- ---- the slots of a procedure
slots_in : (c : Placed → ℕ) (p : Procedure) → sum_by c (parts_of_slots p.slots) ≤ sum_by c (parts_of p)
slots_in c p =
    omega (
      arith,
      sum_by-cons c (record { line = p.line; part = Header }) (parts_of_slots p.slots ++ flat_map parts_of_block p.blocks),
      sum_by-append c (parts_of_slots p.slots) (flat_map parts_of_block p.blocks),
    )

slots_counted : (slots : List SlotLine) → length slots ≤ sum_by (count_of limits.Slots) (parts_of_slots slots)
slots_counted [] = omega arith
slots_counted (slot ∷ slots) = omega (arith, sum_by-cons (count_of limits.Slots) (part_of_slot slot) (parts_of_slots slots), slots_counted slots)

bytes_counted : (slots : List SlotLine) → sum_by bytes_in slots ≤ sum_by (count_of limits.SlotBytes) (parts_of_slots slots)
bytes_counted [] = omega arith
bytes_counted (slot ∷ slots) =
    omega (arith, sum_by-cons bytes_in slot slots, sum_by-cons (count_of limits.SlotBytes) (part_of_slot slot) (parts_of_slots slots), bytes_counted slots)

-- ---- all of it
module _ (ps : List Procedure) (keeps : KeepsLimits ps) where
  in_text : (which : LimitName) → ((line : ℕ) → most which < up_to which line (flat_map parts_of ps) → ⊥) → sum_by (count_of which) (flat_map parts_of ps) ≤ most which
  in_text which never = within which (flat_map parts_of ps) never

  in_each : (which : LimitName) (p : Procedure) → ((line : ℕ) → most which < up_to which line (parts_of p) → ⊥) → sum_by (count_of which) (parts_of p) ≤ most which
  in_each which p never = within which (parts_of p) never

  pub within_limits : AreWithinLimits ps
  within_limits = record {
    values =
        let few = in_text limits.Values (λ line past. keeps limits.Values line past) in
        let sums = sums_flat (count_of limits.Values) parts_of total (total_counted limits.Values (λ n. refl)) ps in
        omega arith;
    children =
        let few = in_text limits.Children (λ line past. keeps limits.Children line past) in
        let sums = sums_flat (count_of limits.Children) parts_of child_count (child_counted limits.Children (λ n. refl)) ps in
        omega arith;
    each = All-from_places IsWithinLimits ps (λ k p there. record {
      values =
          let few = in_each limits.ProcedureValues p (λ line past. keeps limits.ProcedureValues line (k, p, there, past)) in
          let sums = total_counted limits.ProcedureValues (λ n. refl) p in
          omega arith;
      blocks =
          let few = in_each limits.ProcedureBlocks p (λ line past. keeps limits.ProcedureBlocks line (k, p, there, past)) in
          let sums = blocks_counted p in
          omega arith;
      children =
          let few = in_each limits.ProcedureChildren p (λ line past. keeps limits.ProcedureChildren line (k, p, there, past)) in
          let sums = child_counted limits.ProcedureChildren (λ n. refl) p in
          omega arith;
    });
    slots = All-from_places HasFewSlots ps (λ k p there. record {
      slots =
          let few = in_each limits.Slots p (λ line past. keeps limits.Slots line (k, p, there, past)) in
          let count = slots_counted p.slots in
          let inside = slots_in (count_of limits.Slots) p in
          omega arith;
      bytes =
          let few = in_each limits.SlotBytes p (λ line past. keeps limits.SlotBytes line (k, p, there, past)) in
          let sum = bytes_counted p.slots in
          let inside = slots_in (count_of limits.SlotBytes) p in
          omega arith;
    });
  }

-- so each of them may go through the passes
pub limits_there : (m : List Kept) (at : ℕ) → at < length m → KeepsLimits (procedures m) → IsWithinLimits (procedure_at m at)
limits_there m at lt keeps =
    one_in IsWithinLimits (procedures m) at (procedure_at m at) (procedure_there m at lt) (within_limits (procedures m) keeps).each

pub slots_there : (m : List Kept) (at : ℕ) → at < length m → KeepsLimits (procedures m) → HasFewSlots (procedure_at m at)
slots_there m at lt keeps =
    one_in HasFewSlots (procedures m) at (procedure_at m at) (procedure_there m at lt) (within_limits (procedures m) keeps).slots
