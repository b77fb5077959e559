use Rattle.std.proofs.Common.{sym, ap, ◌∙◌, rules, arith}
use Rattle.std.proofs.lemmas.Int.{to_z-of_z}
use Rattle.std.specs.Int.{w32}
use Rattle.b3_base.specs.Observed.{start_of}
use Rattle.b3_ir.specs.declared.value.Body.TheVariants.{Offset}
use Rattle.b3_eval.proofs.Stepping.{loads_same, one_word, shows_same}
use Rattle.b3_eval.specs.Stands.{state_of}
use Rattle.b3_eval.proofs.access.load.Goals as goal

pub returns-in-Offset-len1 : goal.returns-in-Offset-len1
returns-in-Offset-len1 c = λ rest.
    let one = one_word c.args.words.now (omega arith) in
    let same = to_z-of_z w32 c.in-Offset-len1.offset (search rules) in
    shows_same _ _ _ _
    (loads_same (start_of c.args.start.now) (state_of rest c.args.st.now) c.args.v.now c.args.extent c.args.extends _ _ _ _ (c.in-Offset-len1.is-0
    ∙ ap Offset (sym same)) one)
    (c.load_at.ensures rest)
