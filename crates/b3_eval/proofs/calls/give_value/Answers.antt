use Rattle.std.proofs.Common.{refl, ap, ◌∙◌}
use Rattle.b3_base.specs.Arithmetic.{low}
use Rattle.b3_meaning.specs.Opcodes.{Gives}
use Rattle.b3_eval.proofs.Stepping.{answer_narrow, answer_wide, shows_same}
use Rattle.b3_eval.specs.Stands.{state_of}
use Rattle.b3_eval.proofs.calls.give_value.Goals as goal

pub returns-in-Int32 : goal.returns-in-Int32
returns-in-Int32 c = λ rest.
    shows_same _ _ _ _
    (answer_narrow (state_of rest c.args.st.now) c.args.v.now c.args.value c.low.result c.in-Int32.is (c.low.ensures.value
    ∙ ap (λ w. low w c.args.value) c.width_of.ensures))
    (c.give.ensures rest (Gives c.low.result) refl)

pub returns-in-Int64 : goal.returns-in-Int64
returns-in-Int64 c = λ rest.
    shows_same _ _ _ _
    (answer_wide (state_of rest c.args.st.now) c.args.v.now c.args.value c.low-in-Int64.result c.in-Int64.is (c.low-in-Int64.ensures.value
    ∙ ap (λ w. low w c.args.value) c.width_of-in-Int64.ensures))
    (c.give-in-Int64.ensures rest (Gives c.low-in-Int64.result) refl)
