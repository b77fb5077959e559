use Rattle.std.proofs.Common.{◌≡◌, Err, sym, ◌∙◌, ap}
use Rattle.std.specs.FinMap as map
use Rattle.b3_base.specs.Memory.{map_bytes}
use Rattle.b3_base.specs.declared.memory.MapFault.TheVariants.{Overlap, Wrap}
use Rattle.b3_trial.proofs.PieceLemmas.{piece_overlaps, piece_put, piece_wraps}
use Rattle.b3_trial.proofs.so_far.put_piece.Goals as goal

pub returns-in-Ok : goal.returns-in-Ok
returns-in-Ok c =
    let m = map.get c.args.memory.now in
    let same = c.as_slice.ensures in
    piece_put m (map.get c.map.new.self) c.args.piece.now
    (λ over. let bad = c.in-Ok.ensures.wrap.1 (rw same over) in absurd cc)
    (λ both. let bad = c.in-Ok.ensures.overlap.1 (rw same both) in absurd cc)
    (c.in-Ok.ensures.ok ∙ ap (map_bytes m c.args.piece.now.address) same)

pub returns-in-Err-Overlap : goal.returns-in-Err-Overlap
returns-in-Err-Overlap c =
    let is : c.map.result ≡ Err Overlap = c.in-Err-Overlap.is ∙ ap Err c.in-Err-Overlap.field-0-is in
    let both = c.map.ensures.overlap.0 is in
    let same = sym c.as_slice.ensures in
    piece_overlaps (map.get c.args.memory.now) c.args.piece.now (rw same both.0) (rw same both.1)

pub returns-in-Err-Wrap : goal.returns-in-Err-Wrap
returns-in-Err-Wrap c =
    let is : c.map.result ≡ Err Wrap = c.in-Err-Wrap.is ∙ ap Err c.in-Err-Wrap.field-0-is in
    let over = c.map.ensures.wrap.0 is in
    let same = sym c.as_slice.ensures in
    piece_wraps (map.get c.args.memory.now) c.args.piece.now (rw same over)
