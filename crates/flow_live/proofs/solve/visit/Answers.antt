use Rattle.std.proofs.Common.{◌≡◌, ℕ, true, inl, inr, arith, ◌∙◌, sym, subst}
use Rattle.std.proofs.lemmas.Bool.{cases_eq}
use Rattle.flow_live.specs.Solving.{has, HasRoom, Joins, Passes, IsSolving}
use Rattle.flow_live.proofs.RowFacts.{same-row}
use Rattle.flow_live.proofs.Visiting.{IsSolving-visit, in_grows, advances_visit}
use Rattle.flow_live.proofs.solve.visit.Goals as goal

solving : goal.returns-clause-solving
solving g c =
    let s = g.F.Flow.shape c.args.flow.now in
    let m0 = c.args.rows.now in
    let m1 = c.join_successors.new.rows in
    let m2 = c.pass_through.new.rows in
    let e = c.requires.blocks in
    let room1 = c.join_successors.ensures.room in
    let room : HasRoom s m2 = record { bits = c.pass_through.ensures.bits ∙ room1.bits; all = c.pass_through.ensures.rows ∙ room1.all; few = room1.few } in
    IsSolving-visit s c.args.block m0 m1 m2 c.pass_through.result c.requires.range (omega (arith, e, c.requires.block)) c.requires.solving
    (subst (λ (n : ℕ). Joins s n c.args.block m0 m1) e c.join_successors.ensures.joins)
    (subst (λ (n : ℕ). Passes n c.args.block m1 m2 c.pass_through.result) e c.pass_through.ensures.passes) room

pub returns-clause-solving : goal.returns-clause-solving
returns-clause-solving g c = solving g c

pub returns-clause-advances : goal.returns-clause-advances
returns-clause-advances g c =
    let s = g.F.Flow.shape c.args.flow.now in
    let m0 = c.args.rows.now in
    let m1 = c.join_successors.new.rows in
    let m2 = c.pass_through.new.rows in
    let block = c.args.block in
    let e = c.requires.blocks in
    let joins = subst (λ (n : ℕ). Joins s n block m0 m1) e c.join_successors.ensures.joins in
    let passes = subst (λ (n : ℕ). Passes n block m1 m2 c.pass_through.result) e c.pass_through.ensures.passes in
    let grows = in_grows s block m0 m1 m2 c.pass_through.result c.requires.range (omega (arith, e, c.requires.block)) c.requires.solving joins passes in
    let now : IsSolving s m2 = solving g c in
    advances_visit s block m0 m1 m2 c.pass_through.result (omega (arith, e, c.requires.block))
    (λ b name lt t. elim (cases_eq b block) [
      | inl same ↦ subst (λ (r : ℕ). has m2 r name ≡ true) (sym same) (grows name (subst (λ (r : ℕ). has m0 r name ≡ true) same t))
      | inr ne ↦
          same-row m1 m2 b name (passes.others b ne (λ x. omega arith)) ∙ same-row m0 m1 b name (joins.others b (λ x. omega arith)) ∙ t
    ])
    (λ name t. c.requires.solving.in_names block name t) (λ name t. now.in_names block name t)
    (joins.others block (λ x. omega (arith, e, c.requires.block))) passes.still
