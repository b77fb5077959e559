use Rattle.std.proofs.Common.{◌∙◌, ap, arith}
use Rattle.air_fold.specs.Tallied.{use_of, with_use}
use Rattle.air_fold.proofs.Tallies.{one_kept, one_set}
use Rattle.air_fold.proofs.uses.note_use.Goals as goal

pub returns-then-place-len : goal.returns-then-place-len
returns-then-place-len c =
    one_set c.args.index.now c.args.pointers.now c.args.tallies.now c.set.new.self
    (use_of c.args.id c.args.used) c.place-place.result c.get-tally.result.now c.with.result
    c.place-place.ensures.place c.get-tally.ensures (c.with.ensures ∙ ap (with_use c.get-tally.result.now) c.fits.ensures) c.set.ensures

pub returns-else-place-len : goal.returns-else-place-len
returns-else-place-len c =
    one_kept c.args.index.now c.args.pointers.now c.args.tallies.now (use_of c.args.id c.args.used) c.place-place.result c.place-place.ensures.place
    (omega (arith, c.len.ensures, c.if-place-len.false))
