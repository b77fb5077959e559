use Rattle.std.proofs.Common.{◌≡◌, ℕ, List, [], length, replicate, arith, sym, ap, ◌∙◌, subst}
use Rattle.std.specs.FinSet as set
use Rattle.bit_rows.specs.BitRows.{BitSet}
use Rattle.air_graph.specs.Edges.{AreNear}
use Rattle.air_graph.specs.Pages.{PagedBits}
use Rattle.air_graph.proofs.Beside.{none_near}
use Rattle.air_graph.proofs.edges.Edges.new.Goals as goal

pub invariant_of-result : goal.invariant_of-result
invariant_of-result c =
    let e = c.in_ok-pairs.ensures in
    let row : c.in_ok-pairs.pairs.members ≡ set.empty = ap (λ (p : PagedBits). p.members) e in
    record {
      bits = ap (λ (p : PagedBits). p.bits) e ∙ c.pairs_below.ensures.is;
      few = c.requires;
      beside = subst (λ (l : List (List ℕ)). AreNear (record { names = c.args.names; pairs = c.in_ok-pairs.pairs.members }) l) (sym c.in_ok-near.ensures)
          (subst (λ (s : BitSet). AreNear (record { names = c.args.names; pairs = s }) (replicate c.args.names [])) (sym row) (none_near c.args.names));
    }
