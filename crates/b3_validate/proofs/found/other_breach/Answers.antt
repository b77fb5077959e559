use Rattle.std.proofs.Common.{◌≡◌, ℕ, length, arith, subst, ◌∙◌}
use Rattle.indexmap.specs.IndexSet.{contains}
use Rattle.b3_ir.specs.Procedure.{procedures}
use Rattle.b3_validate.specs.Firsts.{IsFirstBelow, IsOther, same_bytes}
use Rattle.b3_validate.proofs.Firsts.{first_next, more_names, new_name, others_first, procedure_at, spot_of_name}
use Rattle.b3_validate.proofs.found.other_breach.Goals as goal

pub loop-at-preserved : goal.loop-at-preserved
loop-at-preserved c =
    let ms = c.args.module_.now in
    let p = c.proc-p.result.now in
    let n = c.loop-at.at in
    let there = procedure_at ms n p c.proc-p.ensures in
    let is : c.as_bytes.result.now ≡ p.procedure.name = c.as_bytes.ensures.value ∙ c.name.ensures in
    let tells = new_name (procedures ms) n p.procedure c.as_bytes.result (λ q. contains same_bytes c.loop-at.names q) c.in_ok-new.new c.loop-at.invariant.names is c.in_ok-new.ensures.added in
    let name = spot_of_name p.procedure c.line.result c.in_ok-new.new c.name_breach.result c.spot_on-of_name.result c.spot_on-of_name.ensures c.line.ensures c.name_breach.ensures in
    let here = others_first (procedures ms) n p.procedure there c.in_ok-new.new c.spot_on-of_name.result c.in_ok-of_procedure.of_procedure c.sooner-here.result tells name c.in_ok-of_procedure.ensures c.sooner-here.ensures in
    record {
      names = more_names (procedures ms) n p.procedure c.as_bytes.result (λ q. contains same_bytes c.loop-at.names q) (λ q. contains same_bytes c.insert.new.self q) there c.loop-at.invariant.names is c.in_ok-new.ensures.updates.0;
      found = first_next IsOther (procedures ms) n p.procedure there c.loop-at.found c.sooner-here.result c.earlier-found.result c.loop-at.invariant.found here c.earlier-found.ensures;
    }

pub returns : goal.returns
returns c =
    let ms = c.args.module_.now in
    let all : c.loop-at.at ≡ length ms = omega arith in
    subst (λ (n : ℕ). IsFirstBelow IsOther (procedures ms) n c.loop-at.found) all c.loop-at.invariant.found
