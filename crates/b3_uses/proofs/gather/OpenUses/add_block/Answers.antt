use Rattle.std.proofs.Common.{ℕ, ◌<◌, [], ◌∷◌, ◌++◌, Option, length, sym, ap, subst}
use Rattle.std.specs.BTreeSet as keys
use Rattle.std.specs.Ordering.{nat_cmp}
use Rattle.std.specs.BTreeMap.{is_at}
use Rattle.std.specs.List.{list_any}
use Rattle.b3_ir.specs.Procedure.{values_from}
use Rattle.b3_uses.proofs.Noting.{seen_more, value_noted, values_none}
use Rattle.b3_uses.proofs.Walking.{shorter, walk_on, walk_start}
use Rattle.b3_uses.proofs.gather.OpenUses.add_block.Goals as goal

pub loop-at-init : goal.loop-at-init
loop-at-init c = (
  [],
  walk_start c.args.p.now c.args.block c.first-at.result c.first-at.ensures.rest c.first-at.ensures.there,
  (λ q. ap (λ ks. list_any (is_at (nat_cmp q)) ks) c.new-earlier.ensures.empty),
  values_none c.args.p.now.procedure c.args.self.now c.args.block,
)

pub loop-at-smaller : goal.loop-at-smaller
loop-at-smaller c =
    let there = rw c.in-Some.is at (c.loop-at.invariant.1).there in
    subst (λ (at : Option ℕ). length (values_from c.args.p.now c.args.block c.next-at.result) < length (values_from c.args.p.now c.args.block at)) (sym
    c.in-Some.is)
    (shorter _ _ _ (c.value-value.ensures.head c.args.block there) (c.next-at.ensures.rest c.args.block there))

pub loop-at-preserved : goal.loop-at-preserved
loop-at-preserved c =
    let inv = c.loop-at.invariant in
    let p = c.args.p.now in
    let block = c.args.block in
    let v = c.value-value.result.now in
    let there = rw c.in-Some.is at (c.loop-at.invariant.1).there in (
      inv.0 ++ v ∷ [],
      walk_on p block inv.0 c.loop-at.at c.next-at.result c.in-Some.node v inv.1 c.in-Some.is (c.value-value.ensures.head block there)
          (c.next-at.ensures.rest block there)
          (c.next-at.ensures.there block there),
      seen_more (keys.contains nat_cmp c.loop-at.earlier) (keys.contains nat_cmp c.add_key.new.set) inv.0 v inv.2 c.in_ok-add_key.ensures,
      value_noted p.procedure c.args.self.now c.loop-at.self c.add_value.new.self block
          (keys.contains nat_cmp c.loop-at.earlier) inv.0 v inv.2 inv.3 (c.in_ok-add_value.ensures p.procedure c.requires.origins),
    )
