use Rattle.std.proofs.Common.{sym, subst}
use Rattle.b3_ir.specs.Procedure.{procedures}
use Rattle.b3_validate.specs.Firsts.{IsFirstAt, IsUses}
use Rattle.b3_validate.proofs.Firsts.{first_next, procedure_at, uses_first}
use Rattle.b3_validate.proofs.found.use_breach.Goals as goal

pub loop-at-preserved : goal.loop-at-preserved
loop-at-preserved c =
    let ms = c.args.module_.now in
    let p = c.proc.result.now in
    let n = c.loop-at.at in
    let there = procedure_at ms n p c.proc.ensures in
    let here = uses_first (procedures ms) n p.procedure there c.in_ok-line.line c.in_ok-line.ensures.covered c.in_ok-line.ensures.uncovered in
    first_next IsUses (procedures ms) n p.procedure there c.loop-at.found c.use_spot.result c.earlier-found.result c.loop-at.invariant (subst (IsFirstAt IsUses (procedures ms) n p.procedure) (sym c.use_spot.ensures) here) c.earlier-found.ensures
