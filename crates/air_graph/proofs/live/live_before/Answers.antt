use Rattle.std.proofs.Common.{ℕ, ◌⊎◌, ◌↔◌, List, subst}
use Rattle.std.specs.Prelude.{Contains}
use Rattle.air_graph.proofs.Meeting.{live_from}
use Rattle.air_graph.proofs.live.live_before.Goals as goal

pub returns : goal.returns
returns c =
    let t = c.args.t.now in
    let rest : List ℕ = c.in_ok-list.list in
    let more : List ℕ = c.add_missing.new.list in
    let list : List ℕ = c.add_missing-2.new.list in
    live_from t.used t.late t.defined c.args.live rest more list
    (subst (λ (l : List ℕ). (y : ℕ) → Contains rest y ↔ (Contains c.args.live y × (Contains l y → ⊥))) c.as_slice.ensures c.in_ok-list.ensures)
    (subst (λ (l : List ℕ). (y : ℕ) → Contains more y ↔ (Contains rest y ⊎ Contains l y)) c.as_slice-2.ensures c.in_ok-add_missing.ensures)
    (subst (λ (l : List ℕ). (y : ℕ) → Contains list y ↔ (Contains more y ⊎ Contains l y)) c.as_slice-3.ensures c.in_ok-add_missing-2.ensures)
