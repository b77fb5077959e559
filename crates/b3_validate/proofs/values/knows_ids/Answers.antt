use Rattle.std.proofs.Common.{List, ℕ, subst}
use Rattle.std.specs.Prelude.{◌↔◌, All, IsTrue}
use Rattle.b3_rules.specs.Rules.{IsId, NamesId}
use Rattle.b3_validate.proofs.Judging.{both_held, first_failed}
use Rattle.b3_validate.proofs.values.knows_ids.Goals as goal

pub returns-then-are_ids : goal.returns-then-are_ids
returns-then-are_ids c p is =
    let P : List ℕ → Type 0 = λ ids. IsTrue c.are_ids.result ↔ All (IsId p.procedure) ids in
    let children : P c.args.value.now.children = subst P c.as_slice.ensures (c.are_ids.ensures p is) in
    both_held c.are_ids.result c.names_id.result children c.if-are_ids.true (c.names_id.ensures p is)

pub returns-else-are_ids : goal.returns-else-are_ids
returns-else-are_ids c p is =
    let P : List ℕ → Type 0 = λ ids. IsTrue c.are_ids.result ↔ All (IsId p.procedure) ids in
    let children : P c.args.value.now.children = subst P c.as_slice.ensures (c.are_ids.ensures p is) in
    first_failed {B = NamesId p.procedure c.args.value.now.body} c.are_ids.result children c.if-are_ids.false
