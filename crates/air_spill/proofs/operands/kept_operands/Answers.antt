use Rattle.std.proofs.Common.{◌≡◌, ◌∙◌, sym, ap, subst, ◌++◌, ◌∷◌, [], List, drop, ◌+◌, ◌*◌}
use Rattle.air_ir.specs.declared.operand.Operand.{Operand}
use Rattle.air_spill.specs.Rewritten.{home_by, kept_operands}
use Rattle.air_spill.proofs.KeptPairs.{kept_joined, kept_pushed, kept_all}
use Rattle.air_spill.proofs.operands.kept_operands.Goals as goal
use Rattle.air_spill.proofs.operands.kept_operands.Goals.{then-not-is_one+in_ok-push+in_ok-push-2, else-not-is_one}

pub loop-k-preserved : goal.loop-k-preserved
loop-k-preserved c =
    let loc = home_by c.args.assignment.now in
    elim c.if-not-is_one.branch [
      | then-not-is_one+in_ok-push+in_ok-push-2 w ↦
          let e : c.if-not-is_one.list ≡ (c.loop-k.list ++ c.renamed-from.result ∷ []) ++ c.renamed-to.result ∷ [] =
          w.list-is ∙ w.in_ok-push-2.ensures.ok ∙ ap (λ (xs : List Operand). xs ++ c.renamed-to.result ∷ []) w.in_ok-push.ensures.ok in
          subst (λ (xs : List Operand). xs ++ kept_operands loc (drop (2 * (c.loop-k.k + 1)) c.args.operands.now) ≡ kept_operands loc c.args.operands.now)
          (sym e)
          (kept_pushed loc c.args.operands.now c.loop-k.k _ c.loop-k-test.true c.loop-k.list
          c.renamed-from.result c.renamed-to.result c.renamed-from.ensures c.renamed-to.ensures c.loop-k.invariant
          (sym c.is_one.ensures ∙ w.if-not-is_one.true))
      | else-not-is_one w ↦
          subst (λ (xs : List Operand). xs ++ kept_operands loc (drop (2 * (c.loop-k.k + 1)) c.args.operands.now) ≡ kept_operands loc c.args.operands.now)
          (sym w.list-is)
          (kept_joined loc c.args.operands.now c.loop-k.k _ c.loop-k-test.true c.loop-k.list
          c.renamed-from.result c.renamed-to.result c.renamed-from.ensures c.renamed-to.ensures c.loop-k.invariant
          (sym c.is_one.ensures ∙ w.if-not-is_one.false))
    ]

pub returns : goal.returns
returns c = kept_all (home_by c.args.assignment.now) c.args.operands.now c.loop-k.list c.loop-k.k c.loop-k-test.false c.loop-k.invariant
