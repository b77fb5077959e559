use Rattle.std.proofs.Common.{◌+◌, refl, sym, ◌∙◌}
use Rattle.std.specs.Prelude.{nat_eq}
use Rattle.indexmap.specs.IndexMap.{get}
use Rattle.b3_validate.specs.Index.{AreNamedBefore}
use Rattle.b3_validate.proofs.Entries.{block_noted, id_added, id_known}
use Rattle.b3_validate.proofs.Walking.{here, reached_all, reached_next}
use Rattle.b3_validate.proofs.index.note_block.Goals as goal
use Rattle.b3_validate.proofs.index.note_block.Goals.{then-not-contains_key+in_ok-insert, else-not-contains_key}

pub loop-at-preserved : goal.loop-at-preserved
loop-at-preserved c =
    let p = c.args.p.now in
    let b = c.args.block in
    let reached = rw c.in-Some.is at c.loop-at.invariant in
    let v = c.value-value.result.now in
    let h = here p b c.in-Some.node v reached.there c.value-value.ensures.value in
    let named = reached.known h.place h.left in
    let next : AreNamedBefore p b (h.place + 1) c.if-not-contains_key.ids =
    elim c.if-not-contains_key.branch [
      | then-not-contains_key+in_ok-insert w ↦
          rw w.ids-is (id_added p b h.place v h.stands (λ q. get nat_eq c.loop-at.ids q) (λ q. get nat_eq w.insert.new.self q) _ named (sym c.contains_key.ensures ∙ w.if-not-contains_key.true) h.node_at refl refl w.in_ok-insert.ensures.updates.0)
      | else-not-contains_key w ↦ rw w.ids-is (id_known p b h.place v h.stands (λ q. get nat_eq c.loop-at.ids q) named (sym c.contains_key.ensures ∙ w.if-not-contains_key.false))
    ] in
    reached_next p b (λ n. AreNamedBefore p b n c.if-not-contains_key.ids) c.in-Some.node c.next-at.result v h next (c.next-at.ensures.rest b reached.there) (c.next-at.ensures.there b reached.there)

pub returns : goal.returns
returns c id =
    let p = c.args.p.now in
    let b = c.args.block in
    block_noted p b id (get nat_eq c.loop-at.ids id) (reached_all p b (λ n. AreNamedBefore p b n c.loop-at.ids) c.loop-at.at c.in_default.is c.loop-at.invariant id)
