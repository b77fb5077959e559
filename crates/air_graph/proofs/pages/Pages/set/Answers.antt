use Rattle.std.proofs.Common.{◌≡◌, ℕ, ◌<◌, List, arith, ap, ◌∙◌}
use Rattle.std.proofs.lemmas.List.{with_items_is}
use Rattle.std.proofs.lemmas.Result.{on_err_weaker, on_ok_weaker}
use Rattle.std.specs.FinSet as set
use Rattle.bit_rows.specs.BitRows.{BitSet}
use Rattle.air_graph.specs.Pages.{PagedBits, members_in}
use Rattle.air_graph.proofs.Paged.{none_set, set_in}
use Rattle.air_graph.proofs.pages.Pages.set.Goals as goal

abbrev of : ℕ → BitSet → PagedBits
of bits members = record { bits = bits; members = members }

pub returns-clause-ok : goal.returns-clause-ok
returns-clause-ok c =
    let bits : ℕ = c.self.inside.bits in
    let old : List (List ℕ) = c.deref_mut.result.now in
    let new : List (List ℕ) = c.set_at.new.pages in
    let lt : c.args.bit < bits = let same = ap (λ (p : PagedBits). p.bits) c.self.view_is in omega (arith, same, c.requires) in
    on_ok_weaker c.set_at.result (λ ok.
    ap (λ (l : List (List ℕ)). of bits (members_in l bits)) (with_items_is c.self.inside.pages new (c.set_at.ensures.long ∙ c.deref_mut.ensures.len))
    ∙ ap (of bits) (set_in old new bits c.args.bit lt c.set_at.ensures.others ok)
    ∙ ap (λ (l : List (List ℕ)). of bits (set.insert (members_in l bits) c.args.bit)) c.deref_mut.ensures.value
    ∙ ap (λ (p : PagedBits). of p.bits (set.insert p.members c.args.bit)) c.self.view_is)
    c.set_at.ensures.ok

pub returns-clause-err : goal.returns-clause-err
returns-clause-err c =
    let bits : ℕ = c.self.inside.bits in
    let old : List (List ℕ) = c.deref_mut.result.now in
    let new : List (List ℕ) = c.set_at.new.pages in
    let lt : c.args.bit < bits = let same = ap (λ (p : PagedBits). p.bits) c.self.view_is in omega (arith, same, c.requires) in
    on_err_weaker c.set_at.result (λ err.
    ap (λ (l : List (List ℕ)). of bits (members_in l bits)) (with_items_is c.self.inside.pages new (c.set_at.ensures.long ∙ c.deref_mut.ensures.len))
    ∙ ap (of bits) (none_set old new bits c.args.bit lt c.set_at.ensures.others err)
    ∙ ap (λ (l : List (List ℕ)). of bits (members_in l bits)) c.deref_mut.ensures.value
    ∙ c.self.view_is)
    c.set_at.ensures.err
