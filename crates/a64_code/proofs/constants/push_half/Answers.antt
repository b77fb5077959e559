use Rattle.std.proofs.Common.{◌++◌, [], ◌∷◌, ap, sym, ◌∙◌, eq-eqb}
use Rattle.std.proofs.lemmas.Bool.{ne_eqb}
use Rattle.a64_inst.specs.declared.item.Item.TheVariants.{Plain}
use Rattle.a64_code.specs.Constants.{filling, half_move, half_word}
use Rattle.a64_code.proofs.Pushing.{half_passed, half_put}
use Rattle.a64_code.proofs.constants.push_half.Goals as goal

pub returns-then-half-filling : goal.returns-then-half-filling
returns-then-half-filling c =
    half_passed c.args.width c.args.inverted c.args.reg c.args.word c.args.started c.args.hw c.args.code.now
    (eq-eqb (half_word c.args.word c.args.hw) (filling c.args.inverted) (sym c.half_word-half.ensures ∙ c.if-half-filling.true ∙ c.filling.ensures.value))

pub returns : goal.returns
returns c =
    half_put c.args.width c.args.inverted c.args.reg c.args.word c.args.started c.args.hw c.args.code.now c.push.new.code
    (ne_eqb (half_word c.args.word c.args.hw) (filling c.args.inverted) (λ e. c.if-half-filling.false (c.half_word-half.ensures ∙ e ∙ sym c.filling.ensures.value)))
    (c.in_ok-push.ensures ∙ ap (λ i. c.args.code.now ++ Plain i ∷ []) c.half_move.ensures
    ∙ ap (λ h. c.args.code.now ++ Plain (half_move c.args.width c.args.inverted c.args.started c.args.reg h c.args.hw) ∷ []) c.half_word-half.ensures)
