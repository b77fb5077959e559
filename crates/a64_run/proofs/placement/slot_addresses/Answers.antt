-- Each slot stands above the end of the frame.
use Rattle.a64_run.proofs.Slots.{slot_fits, slot_ends}
use Rattle.a64_run.proofs.placement.slot_addresses.Goals as goal

pub slot_address-requires : goal.slot_address-requires
slot_address-requires c = record {
  begins = slot_fits c.args.frame.now.bytes c.args.start.now.sp c.args.frame.now.slots _ c.loop-slot.slot-index _ c.as_slice-slot-items.ensures c.requires.slots c.requires.room c.loop-slot-test.true;
  ends = slot_ends c.args.frame.now.bytes c.args.frame.now.slots _ c.loop-slot.slot-index _ c.as_slice-slot-items.ensures c.requires.slots c.loop-slot-test.true;
}
