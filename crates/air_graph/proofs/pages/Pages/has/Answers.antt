use Rattle.std.proofs.Common.{ℕ, ◌<◌, ◌/◌, ◌%◌, List, [], slice_index_or, arith, sym, ap, ◌∙◌}
use Rattle.std.specs.FinSet as set
use Rattle.bit_rows.specs.Words.{is_one}
use Rattle.air_graph.specs.Pages.{PagedBits}
use Rattle.air_graph.proofs.Paged.{contains_in}
use Rattle.air_graph.proofs.pages.Pages.has.Goals as goal

pub returns : goal.returns
returns c =
    let same = ap (λ (p : PagedBits). p.bits) c.self.view_is in
    let lt : c.args.bit < c.self.inside.bits = omega (arith, same, c.requires) in
    c.has_at.ensures ∙ ap (λ (l : List (List ℕ)). is_one (slice_index_or l (c.args.bit / 4096) []) 0 (c.args.bit % 4096)) c.deref.ensures.value
    ∙ sym (contains_in c.self.inside.pages.items c.self.inside.bits c.args.bit lt)
    ∙ ap (λ (p : PagedBits). set.contains p.members c.args.bit) c.self.view_is
