-- One more slot is cut out, which stands above the end of the frame.
use Rattle.a64_run.proofs.Slots.{slot_fits, slot_ends}
use Rattle.a64_run.proofs.hidden.hidden.Goals as goal

pub slot_address-first-requires : goal.slot_address-first-requires
slot_address-first-requires c = record {
  begins = slot_fits c.args.frame.now.bytes c.args.start.now.sp c.args.frame.now.slots _ c.loop-slot.slot-index _ c.as_slice-slot-items.ensures c.requires.slots c.requires.room c.loop-slot-test.true;
  ends = slot_ends c.args.frame.now.bytes c.args.frame.now.slots _ c.loop-slot.slot-index _ c.as_slice-slot-items.ensures c.requires.slots c.loop-slot-test.true;
}
