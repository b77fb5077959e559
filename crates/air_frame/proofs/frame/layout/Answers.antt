use Rattle.stackmap.specs.Registers.{has}
use Rattle.air_frame.specs.Needs.{callee_saved}
use Rattle.air_frame.proofs.Laid.{layout_serves}
use Rattle.air_frame.proofs.frame.layout.Goals as goal

pub returns : goal.returns
unfolding callee_saved
returns c =
    layout_serves c.args.p.now _ (has c.written_by_proc.result) c.in_ok-named.named c.requires.slots c.requires.room
    c.written_by_proc.ensures c.in_ok-named.ensures
    c.in_ok-saved.ensures.saved
    (cc (c.in_ok-spills.ensures, c.len.ensures, c.as_slice.ensures))
    (cc (c.in_ok-slots.ensures, c.rounded-words.ensures, c.word_bytes.ensures.bytes, c.as_slice-2.ensures, c.as_slice-3.ensures, c.len.ensures))
    (cc (c.slot_bytes.ensures, c.rounded-words.ensures, c.word_bytes.ensures.bytes, c.as_slice-2.ensures, c.as_slice-4.ensures, c.len.ensures))
