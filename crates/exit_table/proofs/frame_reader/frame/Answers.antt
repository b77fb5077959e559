use Rattle.std.proofs.Common.{◌∙◌, sym, ap, map, Bool}
use Rattle.exit_table.specs.Good.{Span, slot_span, saved_span}
use Rattle.exit_table.specs.Taken.{leaves}
use Rattle.exit_table.proofs.TakenLaws.{leaves_append}
use Rattle.exit_table.proofs.frame_reader.frame.Goals as goal

pub returns-clause-taken : goal.returns-clause-taken
returns-clause-taken c = c.in_ok-saved.ensures.clear ∙ ap (λ (f : Span → Bool). leaves f (map saved_span c.in_ok-saved.saved)) c.in_ok-slots.ensures.clear ∙ sym (leaves_append (map slot_span c.in_ok-slots.slots) (map saved_span c.in_ok-saved.saved))
