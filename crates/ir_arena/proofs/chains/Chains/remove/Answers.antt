use Rattle.std.proofs.Common.{◌≡◌, ◌+◌, map, set, Some, None, slice_get, sym, ap, ◌∙◌, arith, length-set}
use Rattle.ir_arena.specs.Chains.{Chains, without}
use Rattle.ir_arena.specs.Layout.{vacant}
use Rattle.ir_arena.proofs.Layouts.{settled, lists_are}
use Rattle.ir_arena.proofs.Readers.{laid_at, node_within, tells, holds_item}
use Rattle.ir_arena.proofs.Steps.{remove_step, chain_within, links_within}
use Rattle.ir_arena.proofs.Readers.{keeps_at_removal}
use Rattle.ir_arena.proofs.chains.Chains.remove.Goals as goal

pub replace-chain-requires : goal.replace-chain-requires
replace-chain-requires g c =
    let laid = laid_at c.self.inside.nodes c.self.inside.ends.items c.self.inside.free c.self.inside.spare c.args.self.now c.self.view_is c.self.invariant in
    let spare = ap (λ (s : Chains g.row.T.Denot). s.spare) c.self.view_is in
    rw c.id.view_is (node_within c.self.inside.nodes c.self.inside.ends.items c.self.inside.free c.args.self.now.spare c.args.self.now.lists laid c.args.id c.requires)

pub index_mut-requires : goal.index_mut-requires
index_mut-requires g c =
    let laid = laid_at c.self.inside.nodes c.self.inside.ends.items c.self.inside.free c.self.inside.spare c.args.self.now c.self.view_is c.self.invariant in
    let spare = ap (λ (s : Chains g.row.T.Denot). s.spare) c.self.view_is in
    let was : slice_get c.self.inside.nodes c.args.id ≡ Some c.replace-chain.result = rw (← c.id.view_is) c.replace-chain.ensures.was in
    let counted = laid.counted in
    let within = chain_within c.self.inside.nodes c.self.inside.ends.items c.self.inside.free c.args.self.now.spare c.args.self.now.lists laid c.args.id c.replace-chain.result c.requires was in
    omega arith

pub relink-requires-clause-before : goal.relink-requires-clause-before
relink-requires-clause-before g c x is =
    let laid = laid_at c.self.inside.nodes c.self.inside.ends.items c.self.inside.free c.self.inside.spare c.args.self.now c.self.view_is c.self.invariant in
    let spare = ap (λ (s : Chains g.row.T.Denot). s.spare) c.self.view_is in
    let was : slice_get c.self.inside.nodes c.args.id ≡ Some c.replace-chain.result = rw (← c.id.view_is) c.replace-chain.ensures.was in
    let within = links_within c.self.inside.nodes c.self.inside.ends.items c.self.inside.free c.args.self.now.spare c.args.self.now.lists laid c.args.id c.replace-chain.result c.requires was in
    rw (c.replace-chain.ensures.put, length-set) (within.0 x is)

pub relink-requires-clause-after : goal.relink-requires-clause-after
relink-requires-clause-after g c x is =
    let laid = laid_at c.self.inside.nodes c.self.inside.ends.items c.self.inside.free c.self.inside.spare c.args.self.now c.self.view_is c.self.invariant in
    let spare = ap (λ (s : Chains g.row.T.Denot). s.spare) c.self.view_is in
    let was : slice_get c.self.inside.nodes c.args.id ≡ Some c.replace-chain.result = rw (← c.id.view_is) c.replace-chain.ensures.was in
    let within = links_within c.self.inside.nodes c.self.inside.ends.items c.self.inside.free c.args.self.now.spare c.args.self.now.lists laid c.args.id c.replace-chain.result c.requires was in
    rw (c.replace-chain.ensures.put, length-set) (within.1 x is)

pub unreachable-requires : goal.unreachable-requires
unreachable-requires g c =
    let laid = laid_at c.self.inside.nodes c.self.inside.ends.items c.self.inside.free c.self.inside.spare c.args.self.now c.self.view_is c.self.invariant in
    let spare = ap (λ (s : Chains g.row.T.Denot). s.spare) c.self.view_is in
    let was : slice_get c.self.inside.nodes c.args.id ≡ Some c.replace-chain.result = rw (← c.id.view_is) c.replace-chain.ensures.was in
    let told = tells c.self.inside.nodes c.self.inside.ends.items c.self.inside.free c.args.self.now.spare c.args.self.now.lists laid c.args.id c.replace-chain.result c.requires.0 was c.requires.1 in
    let none = c.in-None.is in
    let clash : None ≡ Some told.v = sym none ∙ told.item in
    cc

pub invariant_of-self : goal.invariant_of-self
invariant_of-self g c =
    let laid = laid_at c.self.inside.nodes c.self.inside.ends.items c.self.inside.free c.self.inside.spare c.args.self.now c.self.view_is c.self.invariant in
    let spare = ap (λ (s : Chains g.row.T.Denot). s.spare) c.self.view_is in
    let was : slice_get c.self.inside.nodes c.args.id ≡ Some c.replace-chain.result = rw (← c.id.view_is) c.replace-chain.ensures.was in
    let put : c.replace-chain.new.self ≡ set c.self.inside.nodes c.args.id (vacant c.self.inside.free) = rw (← c.id.view_is) c.replace-chain.ensures.put in
    let step = remove_step c.self.inside.nodes c.self.inside.ends.items c.self.inside.free c.args.self.now.spare c.args.self.now.lists laid c.replace-chain.new.self c.relink.new.nodes c.index_mut.result.now c.relink.new.ends c.args.id c.replace-chain.result c.requires was put c.index_mut.ensures.value c.relink.ensures.nodes c.relink.ensures.len c.relink.ensures.first c.relink.ensures.last in
    rw (c.id.view_is, spare) (settled c.relink.new.nodes (set c.self.inside.ends.items c.replace-chain.result.chain c.relink.new.ends) (Some c.args.id) (c.args.self.now.spare + 1) (map (without c.args.id) c.args.self.now.lists) step)

pub returns-clause-item : goal.returns-clause-item
returns-clause-item g c =
    let laid = laid_at c.self.inside.nodes c.self.inside.ends.items c.self.inside.free c.self.inside.spare c.args.self.now c.self.view_is c.self.invariant in
    let spare = ap (λ (s : Chains g.row.T.Denot). s.spare) c.self.view_is in
    let was : slice_get c.self.inside.nodes c.args.id ≡ Some c.replace-chain.result = rw (← c.id.view_is) c.replace-chain.ensures.was in
    holds_item c.self.inside.nodes c.self.inside.ends.items c.self.inside.free c.args.self.now.spare c.args.self.now.lists laid c.args.id c.replace-chain.result c.in-Some.item was c.in-Some.is

pub returns-clause-lists : goal.returns-clause-lists
returns-clause-lists g c =
    let laid = laid_at c.self.inside.nodes c.self.inside.ends.items c.self.inside.free c.self.inside.spare c.args.self.now c.self.view_is c.self.invariant in
    let spare = ap (λ (s : Chains g.row.T.Denot). s.spare) c.self.view_is in
    let was : slice_get c.self.inside.nodes c.args.id ≡ Some c.replace-chain.result = rw (← c.id.view_is) c.replace-chain.ensures.was in
    let put : c.replace-chain.new.self ≡ set c.self.inside.nodes c.args.id (vacant c.self.inside.free) = rw (← c.id.view_is) c.replace-chain.ensures.put in
    let step = remove_step c.self.inside.nodes c.self.inside.ends.items c.self.inside.free c.args.self.now.spare c.args.self.now.lists laid c.replace-chain.new.self c.relink.new.nodes c.index_mut.result.now c.relink.new.ends c.args.id c.replace-chain.result c.requires was put c.index_mut.ensures.value c.relink.ensures.nodes c.relink.ensures.len c.relink.ensures.first c.relink.ensures.last in
    lists_are c.relink.new.nodes (set c.self.inside.ends.items c.replace-chain.result.chain c.relink.new.ends) (Some c.args.id) (c.args.self.now.spare + 1) (map (without c.args.id) c.args.self.now.lists) step

pub returns-clause-keeps : goal.returns-clause-keeps
returns-clause-keeps g c k other ne =
    rw (returns-clause-lists g c) (keeps_at_removal c.args.self.now.lists c.args.id k other ne)
