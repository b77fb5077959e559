use Rattle.std.proofs.Common.{◌≡◌, ℕ, ◌↔◌, not, List, ◌∙◌, ap}
use Rattle.std.specs.Prelude.{Contains, filter}
use Rattle.std.proofs.lemmas.Result.{IfOk-weaker}
use Rattle.air_graph.specs.Walk.{in_list}
use Rattle.air_graph.proofs.Meeting.{without}
use Rattle.air_graph.proofs.live.without_defined.Goals as goal

pub returns : goal.returns
returns c =
    let left : List ℕ → List ℕ = λ live. filter (λ y. not (in_list c.args.defined.now y)) live in
    IfOk-weaker c.undefined.result (λ list. list ≡ left c.as_slice.result.now)
    (λ list. (y : ℕ) → Contains list y ↔ (Contains c.args.live y × (Contains c.args.defined.now y → ⊥)))
    (λ list e. without c.args.defined.now c.args.live list (e ∙ ap left c.as_slice.ensures))
    c.undefined.ensures
