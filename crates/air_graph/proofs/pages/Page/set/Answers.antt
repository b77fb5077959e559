use Rattle.std.proofs.Common.{◌≡◌, ℕ, ◌+◌, ◌*◌, ◌/◌, ◌%◌, ◌^◌, ◌||◌, Bool, List, slice_index, bit_or, set as put, eqb, arith, sym, ap, ◌∙◌}
use Rattle.std.proofs.lemmas.Grind.{get_or_default_zero}
use Rattle.bit_rows.specs.Words.{is_one}
use Rattle.bit_rows.proofs.RowSets.{one_set}
use Rattle.air_graph.proofs.pages.Page.set.Goals as goal

pub returns-clause-ok : goal.returns-clause-ok
returns-clause-ok c q =
    let words : List ℕ = c.widen.new.words.items in
    let bit : ℕ = c.args.bit in
    let at : bit / 64 ≡ 0 + bit / 64 = omega arith in
    let word : c.index_mut.result.now ≡ slice_index words (bit / 64)
    = c.index_mut.ensures.value ∙ get_or_default_zero words (bit / 64) c.index_mut.result.now (omega (arith, c.in_ok-widen.ensures.long)) in
    ap (λ (w : ℕ). is_one (put words (bit / 64) (bit_or w (1 * 2 ^ (bit % 64) % 2 ^ 64))) 0 q) word
    ∙ ap (λ (k : ℕ). is_one (put words k (bit_or (slice_index words k) (1 * 2 ^ (bit % 64) % 2 ^ 64))) 0 q) at
    ∙ one_set words 0 bit q (omega (arith, c.in_ok-widen.ensures.long))
    ∙ ap (λ (b : Bool). eqb q bit || b) (c.widen.ensures.same q ∙ ap (λ (l : List ℕ). is_one l 0 q) c.self.view_is)
