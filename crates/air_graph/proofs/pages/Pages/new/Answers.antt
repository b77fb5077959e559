use Rattle.std.proofs.Common.{ap}
use Rattle.bit_rows.specs.BitRows.{BitSet}
use Rattle.air_graph.specs.Pages.{PagedBits}
use Rattle.air_graph.proofs.Paged.{none_in}
use Rattle.air_graph.proofs.pages.Pages.new.Goals as goal

pub returns : goal.returns
returns c =
    ap (λ (s : BitSet). let p : PagedBits = record { bits = c.args.bits; members = s } in p)
    (none_in c.in_ok-pages.pages.items c.div_ceil.result c.args.bits c.in_ok-pages.ensures)
