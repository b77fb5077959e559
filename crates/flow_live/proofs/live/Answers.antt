use Rattle.std.proofs.Common.{rules, ◌+◌, ◌*◌, sym, ◌∙◌}
use Rattle.std.proofs.lemmas.Bool.{false≢true}
use Rattle.flow_live.proofs.RowFacts.{has-none}
use Rattle.flow_live.proofs.Least.{liveness}
use Rattle.flow_live.proofs.live.Goals as goal

pub invariant_of-result : goal.invariant_of-result
invariant_of-result g c =
    record {
      all = search rules;
      bits = search rules;
      few = search rules;
      within = λ row name t. absurd (false≢true (sym (has-none c.in_ok-rows.rows 0 0 row name c.in_ok-rows.ensures) ∙ t));
    }

pub gather-requires-clause-blank : goal.gather-requires-clause-blank
gather-requires-clause-blank g c row name =
    has-none c.in_ok-rows-2.rows c.names-names.result (3 * c.blocks-blocks.result + 1) row name c.in_ok-rows-2.ensures

pub returns : goal.returns
returns g c =
    liveness (g.F.Flow.shape c.args.flow.now) c.solve.new.rows c.blocks-blocks.result c.names-names.result c.blocks-blocks.ensures c.names-names.ensures
    c.requires.range c.solve.ensures.solving c.solve.ensures.settled
