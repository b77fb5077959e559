use Rattle.std.proofs.Common.{ℕ, ◌++◌, List, sym, ◌∙◌, ap}
use Rattle.b3_rows.specs.Written.{child_texts}
use Rattle.b3_written.specs.Listed.{child_with, listed, some_with}
use Rattle.b3_written.proofs.ListedLemmas.{child_step, child_more}
use Rattle.b3_written.proofs.items.put_children.Goals as goal

pub loop-id-preserved : goal.loop-id-preserved
loop-id-preserved c = rw (c.one_less-left.ensures, c.next_places-places.ensures) (
  child_step c.loop-id.some c.loop-id.out c.put_separator.new.out c.put_child.new.out c.loop-id.left c.in-Some.id.now c.in-Some.more.now
      c.loop-id.places.now c.in_ok-put_separator.ensures
      (c.in_ok-put_child.ensures ∙ ap (λ p. c.put_separator.new.out ++ child_with c.in-Some.id.now p) c.next_place.ensures)
      ∙ ap (λ (ids : List ℕ). c.loop-id.out ++ listed c.loop-id.some (child_texts c.loop-id.left ids c.loop-id.places.now)) (sym c.in-Some.ensures.cases.0)
      ∙ c.loop-id.invariant.0,
  child_more c.loop-id.some c.loop-id.left c.in-Some.id.now c.in-Some.more.now c.loop-id.places.now
      ∙ ap (λ (ids : List ℕ). some_with c.loop-id.some (child_texts c.loop-id.left ids c.loop-id.places.now)) (sym c.in-Some.ensures.cases.0)
      ∙ c.loop-id.invariant.1,
)
