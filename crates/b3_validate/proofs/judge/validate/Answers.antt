use Rattle.std.proofs.Common.{ℕ, List, length, Option, None, Some, sym, subst}
use Rattle.b3_rules.specs.declared.rule.Rule.{Rule}
use Rattle.b3_validate.specs.declared.found.Found.{Found}
use Rattle.std.proofs.lemmas.List.{length-map}
use Rattle.b3_ir.specs.Procedure.{Kept, procedures}
use Rattle.b3_validate.specs.Firsts.{IsFirstBelow, IsOther, IsUses}
use Rattle.b3_validate.specs.Faults.{IsFault}
use Rattle.b3_validate.proofs.Firsts.{all_valid, other_invalid, use_invalid}
use Rattle.b3_validate.proofs.judge.validate.Goals as goal

-- the procedures of a module are as many as it keeps
counted : (some : Rule → Type 0) (ms : List Kept) (found : Option Found) → IsFirstBelow some (procedures ms) (length ms) found → IsFirstBelow some (procedures ms) (length (procedures ms)) found
counted some ms found first = subst (λ (n : ℕ). IsFirstBelow some (procedures ms) n found) (sym (length-map ms (λ (m : Kept). m.procedure))) first

pub returns-in-Some-clause-invalid : goal.returns-in-Some-clause-invalid
returns-in-Some-clause-invalid c =
    let ms = c.args.module_ in
    let first : IsFirstBelow IsOther (procedures ms) (length ms) (Some c.in-Some.found) = rw c.in-Some.is at c.in_ok-found.ensures in
    subst (IsFault (procedures ms)) (sym c.fault_of.ensures) (other_invalid (procedures ms) c.in-Some.found (counted IsOther ms (Some c.in-Some.found) first))

pub returns-in-Some-2-clause-invalid : goal.returns-in-Some-2-clause-invalid
returns-in-Some-2-clause-invalid c =
    let ms = c.args.module_ in
    let keep : IsFirstBelow IsOther (procedures ms) (length ms) None = rw c.in_default.is at c.in_ok-found.ensures in
    let first : IsFirstBelow IsUses (procedures ms) (length ms) (Some c.in-Some-2.found) = rw c.in-Some-2.is at c.in_ok-found-2.ensures in
    subst (IsFault (procedures ms)) (sym c.fault_of-in-Some-2.ensures) (use_invalid (procedures ms) c.in-Some-2.found (counted IsOther ms None keep) (counted IsUses ms (Some c.in-Some-2.found) first))

pub new-requires : goal.new-requires
new-requires c =
    let ms = c.args.module_ in
    let keep : IsFirstBelow IsOther (procedures ms) (length ms) None = rw c.in_default.is at c.in_ok-found.ensures in
    let covers : IsFirstBelow IsUses (procedures ms) (length ms) None = rw c.in_default-2.is at c.in_ok-found-2.ensures in
    all_valid (procedures ms) (counted IsOther ms None keep) (counted IsUses ms None covers)
