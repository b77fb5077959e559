-- The mapped bytes are seen first, and then those of each slot, which stands above the end of the frame.
use Rattle.std.specs.Ordering.{nat_cmp}
use Rattle.std.specs.FinMap as map
use Rattle.a64_run.proofs.Slots.{slot_fits, slot_ends, seen_first}
use Rattle.a64_run.proofs.memories.visible.Goals as goal

pub loop-slot-init : goal.loop-slot-init
loop-slot-init c = λ q. seen_first _ _ (map.get c.args.memory.now) (map.get c.args.start.now.memory) q c.in_ok-take_places.ensures (rw c.new-seen.ensures (map.get-empty nat_cmp q))

pub slot_address-first-requires : goal.slot_address-first-requires
slot_address-first-requires c = record {
  begins = slot_fits c.args.frame.now.bytes c.args.start.now.sp c.args.frame.now.slots _ c.loop-slot.slot-index _ c.as_slice-slot-items.ensures c.requires.slots c.requires.room c.loop-slot-test.true;
  ends = slot_ends c.args.frame.now.bytes c.args.frame.now.slots _ c.loop-slot.slot-index _ c.as_slice-slot-items.ensures c.requires.slots c.loop-slot-test.true;
}
