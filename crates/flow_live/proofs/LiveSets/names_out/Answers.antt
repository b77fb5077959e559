use Rattle.std.proofs.Common.{◌≡◌, ℕ, ◌+◌, ◌<◌, ◌↔◌, true}
use Rattle.std.specs.Prelude.{Contains}
use Rattle.std.specs.FinSet as set
use Rattle.std.proofs.lemmas.Result.{IfOk-weaker}
use Rattle.bit_rows.specs.BitRows.{row_of}
use Rattle.flow_live.specs.Graph.{Graph, LiveOut}
use Rattle.flow_live.specs.Liveness.{IsLivenessOf, out_of}
use Rattle.flow_live.proofs.NamesOut.{listed_out, listed_live}
use Rattle.flow_live.proofs.LiveSets.names_out.Goals as goal

pub returns-clause-value : goal.returns-clause-value
returns-clause-value c =
    let w = c.self.inside in
    let v = c.args.self.now in
    IfOk-weaker c.members.result (λ list. (name : ℕ) → Contains list name ↔ (set.contains (row_of w.rows (w.blocks + c.args.block)) name ≡ true))
    (λ list. (name : ℕ) → Contains list name ↔ ((name < v.names) × (set.contains (out_of v c.args.block) name ≡ true)))
    (listed_out w.blocks w.names w.rows v c.self.view_is c.self.invariant c.args.block c.requires)
    c.members.ensures.members

pub returns-clause-live : goal.returns-clause-live
returns-clause-live c =
    let w = c.self.inside in
    let v = c.args.self.now in
    IfOk-weaker c.members.result (λ list. (name : ℕ) → Contains list name ↔ (set.contains (row_of w.rows (w.blocks + c.args.block)) name ≡ true))
    (λ list. (g : Graph) → IsLivenessOf g v → (name : ℕ) → Contains list name ↔ ((name < v.names) × LiveOut g name c.args.block))
    (listed_live w.blocks w.names w.rows v c.self.view_is c.self.invariant c.args.block c.requires)
    c.members.ensures.members
