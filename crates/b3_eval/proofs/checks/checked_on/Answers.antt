use Rattle.std.proofs.Common.{◌≡◌, Some, None, refl, subst}
use Rattle.b3_base.specs.Signed.{signed}
use Rattle.b3_base.specs.declared.word.Width.{Width}
use Rattle.b3_ir.specs.Types.{width_of}
use Rattle.b3_meaning.specs.Opcodes.{Gives}
use Rattle.b3_meaning.specs.Run.{checked_result}
use Rattle.b3_eval.proofs.Stepping.{check_failed, check_passed, shows_same}
use Rattle.b3_eval.specs.Signs.{word_where_signed}
use Rattle.b3_eval.specs.Stands.{state_of}
use Rattle.b3_eval.proofs.checks.checked_on.Goals as goal

pub returns-in-Some : goal.returns-in-Some
returns-in-Some c = λ rest.
    let given : Some c.in-Some.word ≡ word_where_signed (width_of c.args.v.now.ty) (checked_result c.args.kind (signed (width_of c.args.v.now.ty) c.args.x)
    (signed (width_of c.args.v.now.ty) c.args.y)) =
    subst (λ (w : Width). Some c.in-Some.word ≡ word_where_signed w (checked_result c.args.kind (signed w c.args.x) (signed w c.args.y)))
    c.width_of.ensures c.in-Some.ensures in
    shows_same _ _ _ _
    (check_passed (state_of rest c.args.st.now) c.args.v.now _ c.args.reported.now c.in-Some.word given)
    (c.give.ensures rest (Gives c.in-Some.word) refl)

pub returns-in-None : goal.returns-in-None
returns-in-None c = λ rest.
    let none : None ≡ word_where_signed (width_of c.args.v.now.ty) (checked_result c.args.kind (signed (width_of c.args.v.now.ty) c.args.x) (signed
    (width_of c.args.v.now.ty) c.args.y)) =
    subst (λ (w : Width). None ≡ word_where_signed w (checked_result c.args.kind (signed w c.args.x) (signed w c.args.y))) c.width_of.ensures
    c.in-None.ensures in
    shows_same _ _ _ _
    (check_failed (state_of rest c.args.st.now) c.args.v.now _ c.args.reported.now none)
    (c.exit.ensures (state_of rest c.args.st.now))
