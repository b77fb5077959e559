use Rattle.std.proofs.Common.{◌∙◌, sym}
use Rattle.b3_validate.specs.Index.{NoneBefore, returns}
use Rattle.b3_validate.proofs.Entries.{none_block, none_next}
use Rattle.b3_validate.proofs.Walking.{here, reached_all, reached_next}
use Rattle.b3_validate.proofs.index.return_in.Goals as goal

pub returns-then-is_return-clause-first : goal.returns-then-is_return-clause-first
returns-then-is_return-clause-first c =
    let p = c.args.p.now in
    let reached = rw c.in-Some.is at c.loop-at.invariant in
    let v = c.value-value.result.now in
    let h = here p c.args.block c.in-Some.node v reached.there c.value-value.ensures.value in
    (h.place, record { there = h.stands; passes = sym c.is_return.ensures ∙ c.if-is_return.true; first = reached.known h.place h.left })

pub loop-at-preserved : goal.loop-at-preserved
loop-at-preserved c =
    let p = c.args.p.now in
    let b = c.args.block in
    let reached = rw c.in-Some.is at c.loop-at.invariant in
    let v = c.value-value.result.now in
    let h = here p b c.in-Some.node v reached.there c.value-value.ensures.value in
    let next = none_next p.procedure returns b h.place v (reached.known h.place h.left) h.stands (sym c.is_return.ensures ∙ c.if-is_return.false) in
    reached_next p b (λ n. NoneBefore p.procedure returns b n) c.in-Some.node c.next-at.result v h next (c.next-at.ensures.rest b reached.there) (c.next-at.ensures.there b reached.there)

pub returns-clause-none : goal.returns-clause-none
returns-clause-none c _ =
    let p = c.args.p.now in
    none_block p.procedure returns c.args.block (reached_all p c.args.block (λ n. NoneBefore p.procedure returns c.args.block n) c.loop-at.at c.in_default.is c.loop-at.invariant)
