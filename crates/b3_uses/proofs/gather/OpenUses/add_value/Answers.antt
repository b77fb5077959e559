use Rattle.std.proofs.Common.{◌≡◌, ℕ, ◌+◌, inl, inr, [], ◌∷◌, ◌++◌, take, sym, subst, ◌∙◌}
use Rattle.std.specs.BTreeSet as keys
use Rattle.std.specs.Ordering.{nat_cmp}
use Rattle.std.specs.Prelude.{slice_index_or}
use Rattle.b3_uses.specs.Open.{Adds, IsAskedHere}
use Rattle.b3_uses.proofs.Noting.{child_noted, child_seen, one_more}
use Rattle.b3_uses.proofs.gather.OpenUses.add_value.Goals as goal
use Rattle.b3_uses.proofs.gather.OpenUses.add_value.Goals.{then-not-contains+then-not-is_passed+in_ok-add, else-not-contains, else-not-contains-via-then-not-contains+else-not-is_passed, else-not-contains-via-else-not-contains}

pub loop-id-preserved : goal.loop-id-preserved
loop-id-preserved c p are =
    let old = c.args.self.now in
    let line = c.args.value.now.line in
    let earlier = keys.contains nat_cmp c.args.earlier.now in
    let ids = c.args.value.now.children in
    let i = c.loop-id.id-index in
    let id : ℕ = slice_index_or c.as_slice-id-items.result.now i 0 in
    let more : take (i + 1) ids ≡ take i ids ++ id ∷ [] = one_more c.as_slice-id-items.result.now ids i c.as_slice-id-items.ensures c.loop-id-test.true in
    let so_far = c.loop-id.invariant p are in
    subst (λ l. Adds p old c.if-not-contains.self (IsAskedHere c.args.block line earlier l)) (sym more)
    (elim c.if-not-contains.branch [
      | then-not-contains+then-not-is_passed+in_ok-add w ↦
          subst (λ new. Adds p old new (IsAskedHere c.args.block line earlier (take i ids ++ id ∷ []))) (sym w.self-is)
          (child_noted p old c.loop-id.self w.add.new.self c.args.block line earlier (take i ids) id so_far
          (sym c.contains.ensures ∙ w.if-not-contains.true) (w.in_ok-add.ensures p))
      | else-not-contains w ↦
          subst (λ new. Adds p old new (IsAskedHere c.args.block line earlier (take i ids ++ id ∷ []))) (sym w.self-is)
          (child_seen p old c.loop-id.self c.args.block line earlier (take i ids) id so_far
          (elim w.else-not-contains.branch [
            | else-not-contains-via-then-not-contains+else-not-is_passed v ↦ inr (v.is_passed.ensures p are v.if-not-is_passed.false)
            | else-not-contains-via-else-not-contains v ↦ inl (sym c.contains.ensures ∙ v.if-not-contains.false)
          ]))
    ])
