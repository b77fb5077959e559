use Rattle.std.proofs.Common.{refl, sym, ap, ◌∙◌}
use Rattle.std.proofs.lemmas.Int.{to_z-of_z}
use Rattle.std.specs.Int.{w32}
use Rattle.b3_meaning.specs.Access.{offset_address}
use Rattle.b3_base.specs.Observed.{start_of}
use Rattle.b3_meaning.specs.Opcodes.{Gives}
use Rattle.b3_eval.proofs.Stepping.{load_done, load_refused, shows_same, shown_same}
use Rattle.b3_eval.specs.Stands.{state_of}
use Rattle.b3_eval.proofs.access.load_at.Goals as goal

pub returns-in-Some : goal.returns-in-Some
returns-in-Some c = λ rest.
    shows_same _ _ _ _
    (load_done (start_of c.args.start.now) (state_of rest c.args.st.now) c.args.v.now c.args.extent c.args.extends c.args.offset c.args.pointer
    c.offset_address-address.result c.extent_bytes-bytes.result c.in-Some.word c.extended.result
    (c.offset_address-address.ensures ∙ ap (offset_address c.args.pointer) (to_z-of_z w32 c.args.offset c.ranges.offset))
    c.extent_bytes-bytes.ensures.value (sym c.if-touches_private.ensures) (sym c.in-Some.ensures) c.extended.ensures)
    (c.give.ensures rest (Gives c.extended.result) refl)

pub returns-in-None : goal.returns-in-None
returns-in-None c = λ rest.
    shown_same _ _ _ _
    (load_refused (start_of c.args.start.now) (state_of rest c.args.st.now) c.args.v.now c.args.extent c.args.extends c.args.offset c.args.pointer
    c.offset_address-address.result c.extent_bytes-bytes.result
    (c.offset_address-address.ensures ∙ ap (offset_address c.args.pointer) (to_z-of_z w32 c.args.offset c.ranges.offset))
    c.extent_bytes-bytes.ensures.value (sym c.if-touches_private.ensures) (sym c.in-None.ensures))
    (c.refused.ensures (state_of rest c.args.st.now) _)
