use Rattle.std.proofs.Common.{◌∙◌, ap, arith, length, take}
use Rattle.std.specs.List.{filter}
use Rattle.std.proofs.lemmas.Grind.{common_steps}
use Rattle.std.proofs.lemmas.List.Elements.{filter_more}
use Rattle.stackmap.specs.Registers.{has}
use Rattle.air_frame.proofs.Snoc.{length-saved_rows, saved_push}
use Rattle.air_frame.proofs.placing.place_saved.Goals as goal
use Rattle.air_frame.proofs.placing.place_saved.Goals.{then-is_in+in_ok-push, else-is_in}

pub loop-r-preserved : goal.loop-r-preserved
loop-r-preserved c = elim c.if-is_in.branch [
  | then-is_in+in_ok-push w ↦ grind (arith, common_steps, filter_more, saved_push)
  | else-is_in w ↦ grind (arith, common_steps, filter_more, saved_push)
]

pub returns-clause-few : goal.returns-clause-few
returns-clause-few c =
    let inv = c.loop-r.invariant in
    let count = ap length inv.2 ∙ length-saved_rows 0 (filter (has c.args.set) (take c.loop-r.r-index c.args.registers.now)) in
    omega (arith, inv.0, inv.1, count)
