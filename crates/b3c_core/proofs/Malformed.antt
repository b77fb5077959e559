-- No run of a procedure of a compiled text is lost as malformed.
use Rattle.std.proofs.Common.{◌≡◌, ◌<◌, length, sym, ap, subst, ◌∙◌, get_or}
use Rattle.std.specs.Prelude.{map}
use Rattle.std.proofs.lemmas.List.{length-map}
use Rattle.std.proofs.lemmas.Option.{slice_get-get_or, slice_get_within}
use Rattle.b3_ir.specs.Procedure.{AllFit, Procedure}
use Rattle.b3_ir.specs.declared.procedure.SlotLine.{SlotLine}
use Rattle.b3_sound.proofs.FromValid.{is_kept}
use Rattle.b3_sound.proofs.Law.{never_malformed}
use Rattle.stackmap.specs.declared.site.SlotRow.{SlotRow}
use Rattle.a64_run.specs.Placement.{slot_address, start_of}
use Rattle.a64_object.proofs.Beginning.{start_ranged}
use Rattle.a64_object.proofs.Lists.{one_in}
use Rattle.b3c_core.specs.Tried.{CompiledNeverMalformed}

pub compiled_never_malformed : CompiledNeverMalformed
compiled_never_malformed text file c k p symbol frame m answers n there symbol_there frame_there placed ranged =
    let o = c.file_of.object in
    let code = c.file_of.is.code in
    let reduced = c.file_of.is.reduced in
    let short : k < length reduced = subst (λ count. k < count) (sym code.count) (slice_get_within c.procedures k p there) in
    let one = code.each k p (get_or reduced k p) symbol frame there (slice_get-get_or reduced k p short) symbol_there frame_there in
    let fit : AllFit p.blocks = one_in (λ (q : Procedure). AllFit q.blocks) c.procedures k p there code.fit in
    let slots : length (map (slot_address m) frame.slots) ≡ length p.slots =
    length-map frame.slots (slot_address m) ∙ sym (length-map frame.slots (λ (slot : SlotRow). slot.size)) ∙ ap length one.agrees.slots
    ∙ length-map p.slots (λ (slot : SlotLine). slot.bytes) in
    never_malformed p (is_kept p (c.valid.each k p there) fit) (start_of o frame m) answers
    (record { start_in_range = start_ranged o symbol frame m placed; answers_in_range = ranged; slots = slots }) n
