use Rattle.std.proofs.Common.{◌≡◌, ℕ, ◌-◌, ◌<◌, length, set, Some, IsSome, sym, ap, ◌∙◌, length-set}
use Rattle.ir_arena.specs.Chains.{Chains, list_at, item_in, inserted}
use Rattle.ir_arena.specs.Layout.{IsAfter, node_in, used}
use Rattle.ir_arena.proofs.Layouts.{settled, lists_are}
use Rattle.ir_arena.proofs.Readers.{laid_at, node_within}
use Rattle.ir_arena.proofs.Steps.{insert_step, after_within, free_within}
use Rattle.ir_arena.proofs.Readers.{keeps_at_insertion}
use Rattle.ir_arena.proofs.chains.Chains.insert_after.Goals as goal

pub after-next-requires : goal.after-next-requires
after-next-requires g c x is =
    let laid = laid_at c.self.inside.nodes c.self.inside.ends.items c.self.inside.free c.self.inside.spare c.args.self.now c.self.view_is c.self.invariant in
    let spare = ap (λ (s : Chains g.row.T.Denot). s.spare) c.self.view_is in
    let below : c.chain.inside.0 < length c.args.self.now.lists = rw c.chain.view_is c.requires.chain in
    let has : (a : ℕ) → c.link-before.result ≡ Some a → IsSome (item_in (list_at c.args.self.now.lists c.chain.inside.0) a) = λ a is. rw c.chain.view_is (c.requires.after a (sym c.link-before.ensures ∙ is)) in
    node_within c.self.inside.nodes c.self.inside.ends.items c.self.inside.free c.args.self.now.spare c.args.self.now.lists laid x (c.chain.inside.0, has x is)

pub replace-old-requires : goal.replace-old-requires
replace-old-requires g c =
    let laid = laid_at c.self.inside.nodes c.self.inside.ends.items c.self.inside.free c.self.inside.spare c.args.self.now c.self.view_is c.self.invariant in
    let spare = ap (λ (s : Chains g.row.T.Denot). s.spare) c.self.view_is in
    free_within c.self.inside.nodes c.self.inside.ends.items c.self.inside.free c.args.self.now.spare c.args.self.now.lists laid c.in-Some.id c.requires.room c.in-Some.is

pub relink-requires-clause-before : goal.relink-requires-clause-before
relink-requires-clause-before g c x is =
    let laid = laid_at c.self.inside.nodes c.self.inside.ends.items c.self.inside.free c.self.inside.spare c.args.self.now c.self.view_is c.self.invariant in
    let spare = ap (λ (s : Chains g.row.T.Denot). s.spare) c.self.view_is in
    let below : c.chain.inside.0 < length c.args.self.now.lists = rw c.chain.view_is c.requires.chain in
    let has : (a : ℕ) → c.link-before.result ≡ Some a → IsSome (item_in (list_at c.args.self.now.lists c.chain.inside.0) a) = λ a is. rw c.chain.view_is (c.requires.after a (sym c.link-before.ensures ∙ is)) in
    rw (c.replace-old.ensures.put, length-set) (node_within c.self.inside.nodes c.self.inside.ends.items c.self.inside.free c.args.self.now.spare c.args.self.now.lists laid x (c.chain.inside.0, has x is))

pub relink-requires-clause-after : goal.relink-requires-clause-after
relink-requires-clause-after g c x is =
    let laid = laid_at c.self.inside.nodes c.self.inside.ends.items c.self.inside.free c.self.inside.spare c.args.self.now c.self.view_is c.self.invariant in
    let spare = ap (λ (s : Chains g.row.T.Denot). s.spare) c.self.view_is in
    let below : c.chain.inside.0 < length c.args.self.now.lists = rw c.chain.view_is c.requires.chain in
    let has : (a : ℕ) → c.link-before.result ≡ Some a → IsSome (item_in (list_at c.args.self.now.lists c.chain.inside.0) a) = λ a is. rw c.chain.view_is (c.requires.after a (sym c.link-before.ensures ∙ is)) in
    let is_after : IsAfter (node_in c.self.inside.nodes) c.index.result.now.first c.link-before.result c.after-next.result = record { at_start = c.after-next.ensures.at_start; at_node = c.after-next.ensures.at_node } in
    rw (c.replace-old.ensures.put, length-set) (after_within c.self.inside.nodes c.self.inside.ends.items c.self.inside.free c.args.self.now.spare c.args.self.now.lists laid c.chain.inside.0 c.index.result.now c.link-before.result c.after-next.result below c.index.ensures has is_after x is)

pub invariant_of-self : goal.invariant_of-self
invariant_of-self g c =
    let laid = laid_at c.self.inside.nodes c.self.inside.ends.items c.self.inside.free c.self.inside.spare c.args.self.now c.self.view_is c.self.invariant in
    let spare = ap (λ (s : Chains g.row.T.Denot). s.spare) c.self.view_is in
    let below : c.chain.inside.0 < length c.args.self.now.lists = rw c.chain.view_is c.requires.chain in
    let has : (a : ℕ) → c.link-before.result ≡ Some a → IsSome (item_in (list_at c.args.self.now.lists c.chain.inside.0) a) = λ a is. rw c.chain.view_is (c.requires.after a (sym c.link-before.ensures ∙ is)) in
    let is_after : IsAfter (node_in c.self.inside.nodes) c.index.result.now.first c.link-before.result c.after-next.result = record { at_start = c.after-next.ensures.at_start; at_node = c.after-next.ensures.at_node } in
    let step = insert_step c.self.inside.nodes c.self.inside.ends.items c.self.inside.free c.args.self.now.spare c.args.self.now.lists laid c.replace-old.new.self c.relink.new.nodes c.index.result.now c.index_mut.result.now c.relink.new.ends c.replace-old.result c.chain.inside.0 c.link-before.result c.after-next.result c.in-Some.id c.args.item c.requires.room below has c.in-Some.is c.index.ensures c.index_mut.ensures.value c.replace-old.ensures.was c.replace-old.ensures.put is_after c.relink.ensures.nodes c.relink.ensures.len c.relink.ensures.first c.relink.ensures.last in
    rw spare (settled c.relink.new.nodes (set c.self.inside.ends.items c.chain.inside.0 c.relink.new.ends) c.replace-old.result.next (c.args.self.now.spare - 1) (set c.args.self.now.lists c.chain.inside.0 (inserted (list_at c.args.self.now.lists c.chain.inside.0) c.link-before.result (c.in-Some.id, c.args.item))) step.0)

pub returns-clause-fresh : goal.returns-clause-fresh
returns-clause-fresh g c used =
    let laid = laid_at c.self.inside.nodes c.self.inside.ends.items c.self.inside.free c.self.inside.spare c.args.self.now c.self.view_is c.self.invariant in
    let spare = ap (λ (s : Chains g.row.T.Denot). s.spare) c.self.view_is in
    let below : c.chain.inside.0 < length c.args.self.now.lists = rw c.chain.view_is c.requires.chain in
    let has : (a : ℕ) → c.link-before.result ≡ Some a → IsSome (item_in (list_at c.args.self.now.lists c.chain.inside.0) a) = λ a is. rw c.chain.view_is (c.requires.after a (sym c.link-before.ensures ∙ is)) in
    let is_after : IsAfter (node_in c.self.inside.nodes) c.index.result.now.first c.link-before.result c.after-next.result = record { at_start = c.after-next.ensures.at_start; at_node = c.after-next.ensures.at_node } in
    let step = insert_step c.self.inside.nodes c.self.inside.ends.items c.self.inside.free c.args.self.now.spare c.args.self.now.lists laid c.replace-old.new.self c.relink.new.nodes c.index.result.now c.index_mut.result.now c.relink.new.ends c.replace-old.result c.chain.inside.0 c.link-before.result c.after-next.result c.in-Some.id c.args.item c.requires.room below has c.in-Some.is c.index.ensures c.index_mut.ensures.value c.replace-old.ensures.was c.replace-old.ensures.put is_after c.relink.ensures.nodes c.relink.ensures.len c.relink.ensures.first c.relink.ensures.last in
    step.1 used.0 used.1

pub returns-clause-lists : goal.returns-clause-lists
returns-clause-lists g c =
    let laid = laid_at c.self.inside.nodes c.self.inside.ends.items c.self.inside.free c.self.inside.spare c.args.self.now c.self.view_is c.self.invariant in
    let spare = ap (λ (s : Chains g.row.T.Denot). s.spare) c.self.view_is in
    let below : c.chain.inside.0 < length c.args.self.now.lists = rw c.chain.view_is c.requires.chain in
    let has : (a : ℕ) → c.link-before.result ≡ Some a → IsSome (item_in (list_at c.args.self.now.lists c.chain.inside.0) a) = λ a is. rw c.chain.view_is (c.requires.after a (sym c.link-before.ensures ∙ is)) in
    let is_after : IsAfter (node_in c.self.inside.nodes) c.index.result.now.first c.link-before.result c.after-next.result = record { at_start = c.after-next.ensures.at_start; at_node = c.after-next.ensures.at_node } in
    let step = insert_step c.self.inside.nodes c.self.inside.ends.items c.self.inside.free c.args.self.now.spare c.args.self.now.lists laid c.replace-old.new.self c.relink.new.nodes c.index.result.now c.index_mut.result.now c.relink.new.ends c.replace-old.result c.chain.inside.0 c.link-before.result c.after-next.result c.in-Some.id c.args.item c.requires.room below has c.in-Some.is c.index.ensures c.index_mut.ensures.value c.replace-old.ensures.was c.replace-old.ensures.put is_after c.relink.ensures.nodes c.relink.ensures.len c.relink.ensures.first c.relink.ensures.last in
    rw (← c.chain.view_is, ← c.link-before.ensures) (lists_are c.relink.new.nodes (set c.self.inside.ends.items c.chain.inside.0 c.relink.new.ends) c.replace-old.result.next (c.args.self.now.spare - 1) (set c.args.self.now.lists c.chain.inside.0 (inserted (list_at c.args.self.now.lists c.chain.inside.0) c.link-before.result (c.in-Some.id, c.args.item))) step.0)

pub returns-clause-keeps : goal.returns-clause-keeps
returns-clause-keeps g c k other ne =
    rw (returns-clause-lists g c) (keeps_at_insertion c.args.self.now.lists c.args.chain c.args.after c.in-Some.id c.args.item c.requires.chain k other ne)
