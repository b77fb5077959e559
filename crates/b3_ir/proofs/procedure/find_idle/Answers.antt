use Rattle.std.proofs.Common.{arith, ◌∙◌, ap, ◌++◌, ◌∷◌, [], List}
use Rattle.b3_ir.specs.declared.procedure.Heading.{Heading}
use Rattle.b3_ir.proofs.Idle.{held_more}
use Rattle.b3_ir.proofs.procedure.find_idle.Goals as goal

pub returns-clause-held : goal.returns-clause-held
returns-clause-held c =
    let b : Heading = record { number = 0; line = 0; chain = c.in_ok-chain.chain } in
    let items = c.push_reserved.ensures.items ∙ ap (λ (bs : List Heading). bs ++ b ∷ []) c.in_ok-reserve.ensures.items in
    rw (c.in_ok-chain.ensures.lists, items) (held_more c.args.chains.now.lists c.args.headings.now.items c.args.live c.requires.held b c.in_ok-chain.ensures.id (omega arith))
