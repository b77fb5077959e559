use Rattle.std.proofs.Common.{◌≡◌, ◌<◌, sym, ap, ◌∙◌}
use Rattle.std.specs.Prelude.{slice_index_or}
use Rattle.air_shuffle.specs.Moves.{Move}
use Rattle.air_shuffle.specs.Waiting.{lowered, move_at, writer_of}
use Rattle.air_shuffle.proofs.Left.{if_some, read_move}
use Rattle.air_shuffle.proofs.Taking.{IsLeft, released-there}
use Rattle.air_shuffle.proofs.pending.Pending.finish.Goals as goal

pub release-requires-clause-some : goal.release-requires-clause-some
release-requires-clause-some c =
    let p = c.args.self.now in
    let there : IsLeft p c.args.place = record { within = c.requires.within; left = c.requires.left } in
    let from : c.index.result.now ≡ move_at p.moves.items c.args.place = read_move p.moves.items c.args.place c.index.result.now there.within c.index.ensures in
    if_some (writer_of p.writers c.index.result.now.from) (λ j. 0 < slice_index_or p.counts.items j 0)
    (λ j e. (released-there p c.args.place j c.requires.counted there (ap (λ (m : Move). writer_of p.writers m.from) (sym from) ∙ e)).1)

pub returns-clause-counts : goal.returns-clause-counts
returns-clause-counts c =
    let p = c.args.self.now in
    let from : c.index.result.now ≡ move_at p.moves.items c.args.place =
    read_move p.moves.items c.args.place c.index.result.now c.requires.within c.index.ensures in
    c.release.ensures.counts ∙ ap (λ (m : Move). lowered (writer_of p.writers m.from) p.counts.items) from

pub returns-clause-next : goal.returns-clause-next
returns-clause-next c =
    let p = c.args.self.now in
    let from : c.index.result.now ≡ move_at p.moves.items c.args.place =
    read_move p.moves.items c.args.place c.index.result.now c.requires.within c.index.ensures in
    c.release.ensures.next ∙ ap (λ (m : Move). writer_of p.writers m.from) from
