use Rattle.std.proofs.Common.{ℕ, ◌⊎◌, ◌↔◌, inl, inr, get_or, List, arith, sym, ap, ◌∙◌, subst}
use Rattle.std.specs.Prelude.{Contains}
use Rattle.std.proofs.lemmas.List.{take_all}
use Rattle.air_graph.specs.Walk.{in_list}
use Rattle.air_graph.proofs.Meeting.{missing_had, missing_pushed}
use Rattle.air_graph.proofs.live.add_missing.Goals as goal
use Rattle.air_graph.proofs.live.add_missing.Goals.{then-not-in_list+in_ok-push, else-not-in_list}

pub loop-y-init : goal.loop-y-init
loop-y-init c x = (λ i. inl i, λ e. elim e [ inl i ↦ i | inr i ↦ absurd (omega (arith, i.1)) ])

pub loop-y-preserved : goal.loop-y-preserved
loop-y-preserved c =
    let k : ℕ = c.loop-y.y-index in
    elim c.if-not-in_list.branch [
      | then-not-in_list+in_ok-push w ↦
          missing_pushed c.args.list.now c.loop-y.list c.if-not-in_list.list c.args.more.now k c.loop-y-test.true c.loop-y.invariant
          (w.list-is ∙ w.in_ok-push.ensures.ok)
      | else-not-in_list w ↦
          missing_had c.args.list.now c.loop-y.list c.if-not-in_list.list c.args.more.now k c.loop-y-test.true c.loop-y.invariant
          w.list-is
          (sym (ap (λ (l : List ℕ). in_list l (get_or c.args.more.now k 0)) c.as_slice.ensures) ∙ sym c.in_list.ensures ∙ w.if-not-in_list.false)
    ]

pub returns : goal.returns
returns c =
    subst (λ (l : List ℕ). (y : ℕ) → Contains c.loop-y.list y ↔ (Contains c.args.list.now y ⊎ Contains l y))
    (take_all c.loop-y.y-index c.args.more.now c.loop-y-test.false) c.loop-y.invariant
