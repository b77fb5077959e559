use Rattle.std.proofs.Common.{◌≡◌, ℕ, ◌<◌, [], ◌∷◌, ◌++◌, Option, length, refl, sym, ap, subst, ◌∙◌}
use Rattle.std.specs.BTreeMap as tree
use Rattle.std.specs.Ordering.{nat_cmp}
use Rattle.b3_ir.specs.Procedure.{values_from}
use Rattle.b3_uses.specs.Lists.{AddsTo}
use Rattle.b3_uses.specs.Reversed.{DefinesOne}
use Rattle.b3_uses.proofs.Adding.{names_more, names_start}
use Rattle.b3_uses.proofs.Walking.{shorter, walk_on, walk_start}
use Rattle.b3_uses.proofs.flow.Reversed.add_block.Goals as goal

pub loop-at-init : goal.loop-at-init
loop-at-init c =
    let n : ℕ = length c.args.p.now.procedure.blocks in (
      [],
      walk_start c.args.p.now c.args.block c.first-at.result c.first-at.ensures.rest c.first-at.ensures.there,
      refl,
      refl,
      names_start n c.args.block (tree.get nat_cmp c.args.names.now.numbers) c.args.self.now.defined,
    )

pub loop-at-smaller : goal.loop-at-smaller
loop-at-smaller c =
    let there = rw c.in-Some.is at (c.loop-at.invariant.1).there in
    subst (λ (at : Option ℕ). length (values_from c.args.p.now c.args.block c.next-at.result) < length (values_from c.args.p.now c.args.block at)) (sym
    c.in-Some.is)
    (shorter _ _ _ (c.value-value.ensures.head c.args.block there) (c.next-at.ensures.rest c.args.block there))

pub loop-at-preserved : goal.loop-at-preserved
loop-at-preserved c =
    let inv = c.loop-at.invariant in
    let p = c.args.p.now in
    let block = c.args.block in
    let v = c.value-value.result.now in
    let there = rw c.in-Some.is at (c.loop-at.invariant.1).there in
    let n : ℕ = length p.procedure.blocks in
    let many : length c.loop-at.self.sources ≡ n = ap length inv.3 ∙ c.requires.blocks in
    let names = tree.get nat_cmp c.args.names.now.numbers in
    let added : AddsTo c.loop-at.self.defined c.add_name.new.self.defined (DefinesOne (length c.loop-at.self.sources) block (names v.id)) =
    subst (λ (name : Option ℕ). AddsTo c.loop-at.self.defined c.add_name.new.self.defined
    (DefinesOne (length c.loop-at.self.sources) block name)) c.get.ensures c.in_ok-add_name.ensures.defined in
    let defined : AddsTo c.loop-at.self.defined c.add_name.new.self.defined (DefinesOne n block (names v.id)) =
    subst (λ (m : ℕ). AddsTo c.loop-at.self.defined c.add_name.new.self.defined (DefinesOne m block (names v.id))) many added in (
      inv.0 ++ v ∷ [],
      walk_on p block inv.0 c.loop-at.at c.next-at.result c.in-Some.node v inv.1 c.in-Some.is (c.value-value.ensures.head block there)
          (c.next-at.ensures.rest block there)
          (c.next-at.ensures.there block there),
      c.in_ok-add_name.ensures.names ∙ inv.2,
      c.in_ok-add_name.ensures.sources ∙ inv.3,
      names_more n block names inv.0 v c.args.self.now.defined c.loop-at.self.defined c.add_name.new.self.defined inv.4 defined,
    )
