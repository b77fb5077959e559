use Rattle.std.proofs.Common.{refl, sym, ap, ◌∙◌}
use Rattle.b3_base.specs.Observed.{start_of}
use Rattle.b3_ir.proofs.Typing.{allowed}
use Rattle.b3_meaning.specs.Opcodes.{Gives, result}
use Rattle.b3_meaning.specs.Run.{effect_by}
use Rattle.b3_meaning.specs.declared.role.Role.{Role}
use Rattle.b3_eval.proofs.Stepping.{shows_same}
use Rattle.b3_eval.specs.Stands.{answers_from, state_of}
use Rattle.b3_eval.proofs.effect.by_role.Goals as goal

pub fold-requires : goal.fold-requires
fold-requires c = record {
  pure = sym c.requires.role ∙ c.in-Pure.is;
  types = allowed c.args.v.now.kind.opcode c.args.v.now.ty c.args.types.now c.requires.types;
  words = c.requires.words;
}

pub returns-in-Frame : goal.returns-in-Frame
returns-in-Frame c =
    let rest = answers_from c.args.answers.now c.args.taken.now in
    shows_same _ _ _ _
    (ap (λ (role : Role). effect_by role (start_of c.args.start.now) (state_of rest c.args.st.now) c.args.v.now c.args.types.now c.args.words.now)
    c.in-Frame.is)
    (c.give-in-Frame.ensures rest (Gives c.args.start.now.frame_pointer) refl)

pub returns-in-Pure : goal.returns-in-Pure
returns-in-Pure c =
    let rest = answers_from c.args.answers.now c.args.taken.now in
    shows_same _ _ _ _
    (ap (λ (role : Role). effect_by role (start_of c.args.start.now) (state_of rest c.args.st.now) c.args.v.now c.args.types.now c.args.words.now)
    c.in-Pure.is)
    (c.give-in-Pure.ensures rest (result c.args.v.now.kind.opcode c.args.v.now.kind.chill c.args.v.now.ty c.args.words.now c.args.types.now) c.fold.ensures.word)
