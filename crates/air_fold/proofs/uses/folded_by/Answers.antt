use Rattle.std.proofs.Common.{◌≡◌, ◌∙◌, ◌++◌, ◌≤◌, [], ◌∷◌, Some, length, refl, ap, arith}
use Rattle.std.specs.Prelude.{slice_get}
use Rattle.air_fold.specs.Tallied.{none}
use Rattle.air_fold.proofs.Tallies.{fold_end, fold_next, tallied_all, tallied_next}
use Rattle.air_fold.proofs.uses.folded_by.Goals as goal

pub loop-block-preserved : goal.loop-block-preserved
loop-block-preserved c =
    let x = c.args.index.now in
    tallied_next x c.args.pointers.now c.args.p.now.procedure (none (length x.known)) c.loop-block.tallies c.note_block.new.tallies c.loop-block.block
    (omega (arith, c.blocks-block-end.ensures)) c.loop-block.invariant c.note_block.ensures

pub loop-place-preserved : goal.loop-place-preserved
loop-place-preserved c =
    let x = c.args.index.now in
    let p = c.args.p.now.procedure in
    let at = c.loop-place.place in
    let k = c.get.result.now in
    let t = c.get-in-loop-place.result.now in
    let all =
    tallied_all x c.args.pointers.now p (none (length x.known)) c.loop-block.tallies c.loop-block.block
    (omega (arith, c.blocks-block-end.ensures)) c.loop-block.invariant in
    let at_k : slice_get x.known at ≡ Some k = rw (← c.index.view_is) c.get.ensures in
    let at_t : slice_get c.loop-block.tallies at ≡ Some t = c.get-in-loop-place.ensures in
    fold_next p c.requires.valid x c.args.pointers.now (length x.known) at c.loop-block.tallies k t c.requires.index refl all at_k at_t c.loop-place.folds c.push.new.self
    c.loop-place.invariant (c.in_ok-push.ensures.ok ∙ ap (λ b. c.loop-place.folds ++ b ∷ []) c.is_folded.ensures)

pub returns : goal.returns
returns c =
    let x = c.args.index.now in
    let size : c.len-place-end.result ≡ length x.known = rw (← c.index.view_is) c.len-place-end.ensures in
    let end : length x.known ≤ c.loop-place.place = omega (arith, size, c.loop-place-test.false) in
    fold_end c.args.p.now.procedure x c.args.pointers.now c.loop-place.place c.requires.index end c.loop-place.folds c.loop-place.invariant
