use Rattle.std.proofs.Common.{◌<◌, List, [], ◌∷◌, ◌++◌, length, map, take, sym, ap, ◌∙◌, arith}
use Rattle.b3_ir.specs.declared.opcode.Ty.{Ty}
use Rattle.b3_eval.proofs.Gathered.{map_one_more}
use Rattle.b3_eval.specs.Lookup.{type_in}
use Rattle.b3_eval.proofs.children.child_types.Goals as goal

pub loop-child-preserved : goal.loop-child-preserved
loop-child-preserved c =
    let lt : c.loop-child.child-index < length c.args.children.now = omega arith in
    c.in_ok-push.ensures.ok
    ∙ ap (λ (xs : List Ty). xs ++ c.type_at.result ∷ []) c.loop-child.invariant
    ∙ ap (λ (t : Ty). map (type_in c.args.types.now) (take c.loop-child.child-index c.args.children.now) ++ t ∷ []) c.type_at.ensures
    ∙ sym (map_one_more (type_in c.args.types.now) c.args.children.now c.loop-child.child-index lt)
