-- What the limits say of sums over all lines, and of the number of procedures.
use Rattle.std.proofs.Common.{◌≡◌, ℕ, ◌+◌, ◌<◌, ◌≤◌, true, List, [], ◌∷◌, ◌++◌, length, refl, sym, ap, ◌∙◌, subst, arith, nat_le, le-leb, ⊎_elim, if◌then◌else◌}
use Rattle.std.specs.Prelude.{All, sum_by}
use Rattle.std.specs.List.{AllByRecursion, flat_map}
use Rattle.std.proofs.lemmas.Bool.{cases_lt}
use Rattle.std.proofs.lemmas.List.Concat.{flat_map-cons}
use Rattle.std.proofs.lemmas.List.Elements.{All-cons, All-nil}
use Rattle.std.proofs.lemmas.List.Sums.{sum_by-append, sum_by-cons}
use Rattle.b3_ir.specs.Names.{IsName}
use Rattle.b3_ir.specs.Procedure.{Procedure}
use Rattle.b3_module.specs.Limits.{Header, KeepsLimits, Placed, counted, most, parts_of, parts_of_block, parts_of_slots, placed, up_to}
use Rattle.b3_module.specs.TextModules.{IsTextModule, IsTextProcedure}
use Rattle.b3_module.specs.declared.fault.LimitName.{LimitName}
use Rattle.b3_module.specs.declared.fault.LimitName.TheVariants as limits

-- ---- sums over all lines
abbrev line_of : Placed → ℕ
line_of x = x.line

abbrev pub count_of : LimitName → Placed → ℕ
count_of which x = counted which x.part

-- with the lines up to the last one stands all
whole : (which : LimitName) (line : ℕ) (parts : List Placed) → sum_by line_of parts ≤ line → up_to which line parts ≡ sum_by (count_of which) parts
whole which line [] le = refl
whole which line (x ∷ parts) le =
    let lines = sum_by-cons line_of x parts in
    let first : nat_le x.line line ≡ true = le-leb x.line line (omega arith) in
    let rest = whole which line parts (omega arith) in
    sum_by-cons (λ (y : Placed). if nat_le y.line line then counted which y.part else 0) x parts
    ∙ rw (first, rest) (sym (sum_by-cons (count_of which) x parts))

not_past : (most n : ℕ) → (most < n → ⊥) → n ≤ most
not_past most n never = ⊎_elim (λ past. absurd (never past)) (λ le. le) (cases_lt most n)

-- parts that pass a limit on no line have no more of what it counts
pub within : (which : LimitName) (parts : List Placed) → ((line : ℕ) → most which < up_to which line parts → ⊥)
    → sum_by (count_of which) parts ≤ most which
within which parts never =
    let line = sum_by line_of parts in
    not_past (most which) (sum_by (count_of which) parts)
    (λ past. never line (subst (λ n. most which < n) (sym (whole which line parts (omega arith))) past))

pub sums_flat : {X : Type 0} (c : Placed → ℕ) (h : X → List Placed) (f : X → ℕ) → ((x : X) → f x ≤ sum_by c (h x)) → (xs : List X)
    → sum_by f xs ≤ sum_by c (flat_map h xs)
sums_flat c h f each [] = omega arith
sums_flat c h f each (x ∷ xs) =
    let split : sum_by c (flat_map h (x ∷ xs)) ≡ sum_by c (h x) + sum_by c (flat_map h xs) = ap (sum_by c) (flat_map-cons h x xs) ∙ sum_by-append c (h x) (flat_map h xs) in
    omega (arith, split, sum_by-cons f x xs, each x, sums_flat c h f each xs)

pub ones : {X : Type 0} (xs : List X) → sum_by (λ (x : X). 1) xs ≡ length xs
ones [] = refl
ones {X} (x ∷ xs) = omega (arith, sum_by-cons (λ (y : X). 1) x xs, ones xs)

-- ---- procedures
one_header : (p : Procedure) → 1 ≤ sum_by (count_of limits.Procedures) (parts_of p)
one_header p =
    omega (arith, sum_by-cons (count_of limits.Procedures) (placed p.line Header) (parts_of_slots p.slots ++ flat_map parts_of_block p.blocks))

pub few_procedures : (m : List Procedure) → KeepsLimits m → length m ≤ 256
few_procedures m keeps =
    let few = within limits.Procedures (flat_map parts_of m) (λ line past. keeps limits.Procedures line past) in
    let sums = sums_flat (count_of limits.Procedures) parts_of (λ (p : Procedure). 1) one_header m in
    omega (arith, ones m)

-- ---- names
each_named : (m : List Procedure) → AllByRecursion IsTextProcedure m → All (λ (p : Procedure). IsName p.name) m
each_named [] each = All-nil _
each_named (p ∷ m) each = All-cons (λ (q : Procedure). IsName q.name) p m each.0.begun.name (each_named m each.1)

pub names_listed : (m : List Procedure) → IsTextModule m → All (λ (p : Procedure). IsName p.name) m
names_listed m is = each_named m is.procedures
