use Rattle.std.proofs.Common.{◌≡◌, Ok, Err, Result, sym, ◌∙◌, ap, ◌++◌, refl}
use Rattle.std.specs.List.{flat_map}
use Rattle.std.proofs.lemmas.Result.{err_from_is_err_and}
use Rattle.b3_module.specs.declared.counting.Counts.{Counts}
use Rattle.b3_module.specs.declared.counting.Passed.{Passed}
use Rattle.b3_module.specs.Limits.{parts_of_block, parts_of_slots}
use Rattle.b3_module.specs.Counting.{counted_on, with_header}
use Rattle.b3_module.proofs.CountLemmas.{behind_header, halted}
use Rattle.b3_module.proofs.counting.procedure.Goals as goal

-- the counts of a procedure that begins
abbrev fresh : Counts → Counts
fresh c = record c { procedure_values = 0; procedure_blocks = 0; procedure_children = 0; slots = 0; slot_bytes = 0 }

pub returns-in_err-begun : goal.returns-in_err-begun
returns-in_err-begun c =
    let p = err_from_is_err_and c.from_residual.result c.from_residual.ensures.1 in
    let was : with_header (fresh c.args.counts) c.line.result ≡ Err c.in_err-begun.field-0.0 = sym c.header.ensures ∙ c.in_err-begun.was in
    let all = parts_of_slots c.args.p.now.procedure.slots ++ flat_map parts_of_block c.args.p.now.procedure.blocks in
    halted c.from_residual.result _ p.0 c.in_err-begun.field-0.0 all _ p.1 p.2 (rw c.line.ensures at was) refl

pub returns-in_err-with_slots : goal.returns-in_err-with_slots
returns-in_err-with_slots c =
    let p = err_from_is_err_and c.from_residual-in_err-with_slots.result c.from_residual-in_err-with_slots.ensures.1 in
    let was : with_header (fresh c.args.counts) c.line.result ≡ Ok c.in_ok-begun.begun = sym c.header.ensures ∙ c.in_ok-begun.was in
    let slots = parts_of_slots c.args.p.now.procedure.slots in
    let blocks = flat_map parts_of_block c.args.p.now.procedure.blocks in
    halted c.from_residual-in_err-with_slots.result _ p.0 c.in_err-with_slots.field-0.0 blocks _ p.1 p.2 (sym c.slots.ensures ∙ c.in_err-with_slots.was) (sym (behind_header _ c.in_ok-begun.begun slots blocks (rw c.line.ensures at was)))

pub returns : goal.returns
returns c =
    let was : with_header (fresh c.args.counts) c.line.result ≡ Ok c.in_ok-begun.begun = sym c.header.ensures ∙ c.in_ok-begun.was in
    let slots = parts_of_slots c.args.p.now.procedure.slots in
    let blocks = flat_map parts_of_block c.args.p.now.procedure.blocks in
    c.blocks-2.ensures ∙ ap (λ (r : Result Counts Passed). counted_on r blocks) (sym c.in_ok-with_slots.was ∙ c.slots.ensures) ∙ sym (behind_header _ c.in_ok-begun.begun slots blocks (rw c.line.ensures at was))
