use Rattle.std.proofs.Common.{List, subst, arith}
use Rattle.std.specs.Prelude.{Contains}
use Rattle.b3_uses.specs.Leasts.{IsLeastMissed}
use Rattle.b3_uses.specs.Reversed.{graph_of}
use Rattle.b3_uses.specs.declared.gather.OpenUse.{OpenUse}
use Rattle.b3_uses.proofs.Deciding.{all_covered, block_within, first_uncovered, name_within, none_open}
use Rattle.b3_uses.proofs.uncovered.uncovered_use.Goals as goal

pub least_missed-requires-clause-block : goal.least_missed-requires-clause-block
least_missed-requires-clause-block c u has =
    let flow = c.in_ok-flow.flow in
    let found = c.in_ok-found.found in
    let there : Contains found.uses u = subst (λ (l : List OpenUse). Contains l u) c.uses-2.ensures has in
    let within = block_within c.args.p.now.procedure found
    (graph_of flow.names flow.sources flow.defined) c.in_ok-found.ensures c.in_ok-flow.ensures.reversed u there in
    omega (arith, within, c.blocks-3.ensures)

pub least_missed-requires-clause-name : goal.least_missed-requires-clause-name
least_missed-requires-clause-name c u has =
    let flow = c.in_ok-flow.flow in
    let found = c.in_ok-found.found in
    let there : Contains found.uses u = subst (λ (l : List OpenUse). Contains l u) c.uses-2.ensures has in
    let within = name_within c.args.p.now.procedure found
    (graph_of flow.names flow.sources flow.defined) c.in_ok-found.ensures c.in_ok-flow.ensures.reversed u there in
    omega (arith, within, c.in_ok-sets.ensures.names)

pub returns-then-is_empty-clause-covered : goal.returns-then-is_empty-clause-covered
returns-then-is_empty-clause-covered c same =
    none_open c.args.p.now.procedure c.in_ok-found.found c.in_ok-found.ensures c.uses.result.now c.uses.ensures c.if-is_empty.ensures

pub returns-clause-covered : goal.returns-clause-covered
returns-clause-covered c none =
    let flow = c.in_ok-flow.flow in
    let g = graph_of flow.names flow.sources flow.defined in
    let found = c.in_ok-found.found in
    let least : IsLeastMissed g found.uses c.least_missed.result =
    subst (λ (l : List OpenUse). IsLeastMissed g l c.least_missed.result) c.uses-2.ensures (c.least_missed.ensures g c.in_ok-sets.ensures) in
    all_covered c.args.p.now.procedure found g c.in_ok-found.ensures c.in_ok-flow.ensures.reversed c.least_missed.result least none

pub returns-clause-uncovered : goal.returns-clause-uncovered
returns-clause-uncovered c =
    let flow = c.in_ok-flow.flow in
    let g = graph_of flow.names flow.sources flow.defined in
    let found = c.in_ok-found.found in
    let least : IsLeastMissed g found.uses c.least_missed.result =
    subst (λ (l : List OpenUse). IsLeastMissed g l c.least_missed.result) c.uses-2.ensures (c.least_missed.ensures g c.in_ok-sets.ensures) in
    first_uncovered c.args.p.now.procedure found g c.in_ok-found.ensures c.in_ok-flow.ensures.reversed c.least_missed.result least
