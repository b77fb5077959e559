use Rattle.std.proofs.Common.{◌++◌, ◌∷◌, [], ◌∙◌, ap}
use Rattle.air_fold.proofs.Listed.{listed_end, listed_first, listed_next}
use Rattle.air_fold.proofs.Walks.{walk_smaller}
use Rattle.air_fold.proofs.index.note_block.Goals as goal

pub loop-at-init : goal.loop-at-init
loop-at-init c =
    listed_first c.args.p.now c.args.block c.args.ids.now.keys c.args.known.now c.first-at.result c.requires.ids c.first-at.ensures.rest
    c.first-at.ensures.there

pub loop-at-smaller : goal.loop-at-smaller
loop-at-smaller c =
    let listed = rw c.in-Some.is at c.loop-at.invariant in
    let there = listed.walk.there in
    rw c.in-Some.is
    (walk_smaller c.args.p.now c.args.block c.in-Some.node c.value-value.result.now c.next-at.result (c.value-value.ensures.head c.args.block there)
    (c.next-at.ensures.rest c.args.block there))

pub loop-at-preserved : goal.loop-at-preserved
loop-at-preserved c =
    let b = c.args.block in
    let v = c.value-value.result.now in
    let listed = rw c.in-Some.is at c.loop-at.invariant in
    let there = listed.walk.there in
    listed_next c.args.p.now c.requires.valid b c.loop-at.ids.keys c.insert_full.new.self.keys c.loop-at.known
    c.push.new.self c.args.known.now c.in-Some.node v c.next-at.result
    listed (c.value-value.ensures.head b there) c.in_ok-insert_full.ensures.keys
    (c.in_ok-push.ensures.ok ∙ ap (λ k. c.loop-at.known ++ k ∷ []) c.known_in.ensures) (c.next-at.ensures.rest b there) (c.next-at.ensures.there b there)

pub returns : goal.returns
returns c =
    let listed = rw c.in_default.is at c.loop-at.invariant in
    let both = listed_end c.args.p.now c.args.block c.loop-at.ids.keys c.loop-at.known c.args.known.now c.requires.in_blocks listed in
    record { ids = both.0; known = both.1 }
