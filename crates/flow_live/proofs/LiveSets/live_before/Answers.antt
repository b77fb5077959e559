use Rattle.std.proofs.Common.{◌≡◌, ℕ, ◌-◌, inl, inr, arith, ◌∙◌, sym, refl, subst}
use Rattle.std.proofs.lemmas.Bool.{cases_lt, false≢true}
use Rattle.flow_live.specs.Graph.{Uses, Defines}
use Rattle.flow_live.proofs.Paths.{at_place, live-use, live_cases}
use Rattle.flow_live.proofs.Least.{skip, skip_all}
use Rattle.flow_live.proofs.LiveSets.live_before.Goals as goal

pub returns-then-uses : goal.returns-then-uses
returns-then-uses g c =
    let s = g.F.Flow.shape c.args.flow.now in
    let at = c.loop-at.at in
    let from = c.args.place in
    let there = skip s c.args.name c.args.block (at - from) from at (omega arith) (omega (arith, c.places-at-end.ensures)) c.loop-at.invariant in
    (λ _. there.1 (live-use s c.args.name (at_place c.args.block at) (c.uses.ensures.0 c.if-uses.true)), λ _. refl)

pub returns-then-defines : goal.returns-then-defines
returns-then-defines g c =
    let s = g.F.Flow.shape c.args.flow.now in
    let at = c.loop-at.at in
    let from = c.args.place in
    let there = skip s c.args.name c.args.block (at - from) from at (omega arith) (omega (arith, c.places-at-end.ensures)) c.loop-at.invariant in (
      λ f. absurd (false≢true f),
      λ live. absurd (elim (live_cases s c.args.name (at_place c.args.block at) (there.0 live)) [
        | inl u ↦ false≢true (sym c.if-uses.false ∙ c.uses.ensures.1 u)
        | inr n ↦ n.0 (c.defines.ensures.0 c.if-defines.true)
      ]),
    )

pub loop-at-preserved : goal.loop-at-preserved
loop-at-preserved g c k le lt =
    let s = g.F.Flow.shape c.args.flow.now in
    elim (cases_lt k c.loop-at.at) [
      | inl less ↦ c.loop-at.invariant k le less
      | inr more ↦
          let same : k ≡ c.loop-at.at = omega arith in (
            λ u. false≢true (sym c.if-uses.false ∙ c.uses.ensures.1 (subst (λ (x : ℕ). Uses s c.args.name (at_place c.args.block x)) same u)),
            λ d. false≢true (sym c.if-defines.false ∙ c.defines.ensures.1 (subst (λ (x : ℕ). Defines s c.args.name (at_place c.args.block x)) same d)),
          )
    ]

pub returns : goal.returns
returns g c =
    let s = g.F.Flow.shape c.args.flow.now in
    let there = skip_all s c.args.name c.args.block c.args.place c.requires.place (λ k le lt. c.loop-at.invariant k le (omega (arith, c.places-at-end.ensures, lt))) in
    let out = c.live_out.ensures.live s c.requires.liveness in
    (λ t. there.1 (out.0 t), λ live. out.1 (there.0 live))
