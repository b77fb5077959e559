use Rattle.std.proofs.Common.{◌≡◌, Some, slice_get, set, map, refl, ap}
use Rattle.ir_arena.specs.Chains.{Chains, with_item}
use Rattle.ir_arena.proofs.Layouts.{settled, lists_are}
use Rattle.ir_arena.proofs.Readers.{laid_at, node_within, tells, holds_item, items_laid}
use Rattle.ir_arena.proofs.chains.Chains.get_mut.Goals as goal

pub node_mut-requires : goal.node_mut-requires
node_mut-requires g c =
    let laid = laid_at c.self.inside.nodes c.self.inside.ends.items c.self.inside.free c.self.inside.spare c.args.self.now c.self.view_is c.self.invariant in
    rw c.id.view_is (node_within c.self.inside.nodes c.self.inside.ends.items c.self.inside.free c.args.self.now.spare c.args.self.now.lists laid c.args.id c.requires)

pub item_mut-requires : goal.item_mut-requires
item_mut-requires g c =
    let laid = laid_at c.self.inside.nodes c.self.inside.ends.items c.self.inside.free c.self.inside.spare c.args.self.now c.self.view_is c.self.invariant in
    let at_id : slice_get c.self.inside.nodes c.args.id ≡ Some c.node_mut.result.now = rw (← c.id.view_is) c.node_mut.ensures.value in
    let told = tells c.self.inside.nodes c.self.inside.ends.items c.self.inside.free c.args.self.now.spare c.args.self.now.lists laid c.args.id c.node_mut.result.now c.requires.0 at_id c.requires.1 in
    rw told.item refl

pub invariant_of-self-lent : goal.invariant_of-self-lent
invariant_of-self-lent g c w =
    let laid = laid_at c.self.inside.nodes c.self.inside.ends.items c.self.inside.free c.self.inside.spare c.args.self.now c.self.view_is c.self.invariant in
    let at_id : slice_get c.self.inside.nodes c.args.id ≡ Some c.node_mut.result.now = rw (← c.id.view_is) c.node_mut.ensures.value in
    let spare = ap (λ (s : Chains g.row.T.Denot). s.spare) c.self.view_is in
    let changed = items_laid c.self.inside.nodes c.self.inside.ends.items c.self.inside.free c.args.self.now.spare c.args.self.now.lists laid c.args.id c.node_mut.result.now w at_id c.requires in
    rw (c.id.view_is, spare) (settled (set c.self.inside.nodes c.args.id (record c.node_mut.result.now { item = Some w })) c.self.inside.ends.items c.self.inside.free c.args.self.now.spare (map (with_item c.args.id w) c.args.self.now.lists) changed)

pub returns : goal.returns
returns g c =
    let laid = laid_at c.self.inside.nodes c.self.inside.ends.items c.self.inside.free c.self.inside.spare c.args.self.now c.self.view_is c.self.invariant in
    let at_id : slice_get c.self.inside.nodes c.args.id ≡ Some c.node_mut.result.now = rw (← c.id.view_is) c.node_mut.ensures.value in
    let spare = ap (λ (s : Chains g.row.T.Denot). s.spare) c.self.view_is in (
      (
        refl,
        λ w.
            let changed = items_laid c.self.inside.nodes c.self.inside.ends.items c.self.inside.free c.args.self.now.spare c.args.self.now.lists laid c.args.id c.node_mut.result.now w at_id c.requires in
            rw (c.id.view_is, spare, lists_are (set c.self.inside.nodes c.args.id (record c.node_mut.result.now { item = Some w })) c.self.inside.ends.items c.self.inside.free c.args.self.now.spare (map (with_item c.args.id w) c.args.self.now.lists) changed) refl,
      ),
      record {
        writes_back = tt;
        item = holds_item c.self.inside.nodes c.self.inside.ends.items c.self.inside.free c.args.self.now.spare c.args.self.now.lists laid c.args.id c.node_mut.result.now c.item_mut.result.now at_id c.item_mut.ensures.value;
      },
    )
