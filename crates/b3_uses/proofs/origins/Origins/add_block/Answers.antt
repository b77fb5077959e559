use Rattle.std.proofs.Common.{◌≡◌, ℕ, ◌<◌, [], ◌∷◌, ◌++◌, Option, length, sym, subst, ◌∙◌}
use Rattle.b3_ir.specs.Procedure.{values_from}
use Rattle.b3_rules.specs.Paths.{successors_in}
use Rattle.b3_uses.specs.Lists.{AddsTo}
use Rattle.b3_uses.specs.Reversed.{LeadsTo}
use Rattle.b3_uses.specs.Walked.{Walked}
use Rattle.b3_uses.proofs.Adding.{values_more, values_start}
use Rattle.b3_uses.proofs.Passing.{home_more}
use Rattle.b3_uses.proofs.Walking.{last_walked, shorter, walk_on, walk_start}
use Rattle.b3_uses.proofs.origins.Origins.add_block.Goals as goal

pub loop-at-init : goal.loop-at-init
loop-at-init c =
    let n : ℕ = length c.args.p.now.procedure.blocks in (
      [],
      walk_start c.args.p.now c.args.block c.first-at.result c.first-at.ensures.rest c.first-at.ensures.there,
      values_start n c.args.block c.args.self.now.sources,
      c.requires.homes,
    )

pub loop-at-smaller : goal.loop-at-smaller
loop-at-smaller c =
    let there = rw c.in-Some.is at (c.loop-at.invariant.1).there in
    subst (λ (at : Option ℕ). length (values_from c.args.p.now c.args.block c.next-at.result) < length (values_from c.args.p.now c.args.block at)) (sym
    c.in-Some.is)
    (shorter _ _ _ (c.value-value.ensures.head c.args.block there) (c.next-at.ensures.rest c.args.block there))

pub loop-at-preserved : goal.loop-at-preserved
loop-at-preserved c =
    let inv = c.loop-at.invariant in
    let p = c.args.p.now in
    let block = c.args.block in
    let v = c.value-value.result.now in
    let there = rw c.in-Some.is at (c.loop-at.invariant.1).there in
    let n : ℕ = length p.procedure.blocks in
    let many : length c.loop-at.self.sources ≡ n = (inv.2).as_many ∙ c.requires.blocks in
    let sources : AddsTo c.loop-at.self.sources c.add_value.new.self.sources (LeadsTo n block (successors_in v.body)) =
    subst (λ (m : ℕ). AddsTo c.loop-at.self.sources c.add_value.new.self.sources
    (LeadsTo m block (successors_in v.body))) many c.in_ok-add_value.ensures.sources in
    let walked : Walked p block (inv.0 ++ v ∷ []) c.next-at.result =
    walk_on p block inv.0 c.loop-at.at c.next-at.result c.in-Some.node v inv.1 c.in-Some.is (c.value-value.ensures.head block there)
    (c.next-at.ensures.rest block there)
    (c.next-at.ensures.there block there) in (
      inv.0 ++ v ∷ [],
      walked,
      values_more n block inv.0 v c.args.self.now.sources c.loop-at.self.sources c.add_value.new.self.sources inv.2 sources,
      home_more p.procedure c.loop-at.self.homes c.add_value.new.self.homes v block inv.3
          (last_walked p block inv.0 v c.next-at.result walked) c.in_ok-add_value.ensures.homes,
    )
