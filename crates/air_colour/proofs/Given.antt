-- An interference graph has the edges that colouring asks for.
use Rattle.std.proofs.Common.{◌≡◌, ℕ, ◌+◌, ◌-◌, ◌<◌, true, arith, sym, ◌∙◌, subst}
use Rattle.std.proofs.lemmas.Bool.{leb-true}
use Rattle.air_graph.specs.Edges.{EdgeSet, has_edge}
use Rattle.air_graph.proofs.Beside.{edge_back, no_edge}
use Rattle.air_colour.specs.Homes.{home_graph}
use Rattle.air_colour.specs.Interference.{IsInterference}

pub given_interference : (e : EdgeSet) (tmps : ℕ) → ((r s : ℕ) → r < 25 → s < 25 → (r ≡ s → ⊥) → has_edge e (tmps + r) (tmps + s) ≡ true)
    → IsInterference (home_graph e tmps 25)
given_interference e tmps registers = record {
  symmetric = λ a b _ _ t. sym (edge_back e a b) ∙ t;
  irreflexive = λ a _. no_edge e a;
  registers = λ a b is_a is_b ne ra rb.
      let la = leb-true tmps a ra in
      let lb = leb-true tmps b rb in
      let ea : tmps + (a - tmps) ≡ a = omega (arith, la) in
      let eb : tmps + (b - tmps) ≡ b = omega (arith, lb) in
      subst (λ (x : ℕ). has_edge e x b ≡ true) ea (subst (λ (y : ℕ). has_edge e (tmps + (a - tmps)) y ≡ true) eb
      (registers (a - tmps) (b - tmps) (omega (arith, la, is_a.0)) (omega (arith, lb, is_b.0)) (λ f. ne (omega (arith, f, la, lb)))));
}
