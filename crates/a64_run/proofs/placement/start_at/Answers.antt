-- Each part of the start is that of the start that agrees.
use Rattle.a64_run.proofs.Started.{same_start}
use Rattle.a64_run.proofs.placement.start_at.Goals as goal

pub returns : goal.returns
returns c = same_start c.args.object.now c.args.frame.now c.args.start.now c.in_ok-slot_addresses.field-0 c.in_ok-visible.field-0 c.in_ok-entry.entry c.in_ok-hidden.field-0 c.text_bytes.result
    c.in_ok-slot_addresses.ensures c.in_ok-entry.ensures c.in_ok-visible.ensures c.in_ok-hidden.ensures c.text_bytes.ensures
