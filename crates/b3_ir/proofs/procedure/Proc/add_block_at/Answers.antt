use Rattle.std.proofs.Common.{ℕ, ap, ◌∙◌, ◌∷◌, ◌++◌, List, take, [], arith, length}
use Rattle.std.proofs.lemmas.List.{length-set}
use Rattle.std.proofs.lemmas.List.Elements.{All-nil}
use Rattle.std.specs.Prelude.{All}
use Rattle.std.proofs.lemmas.List.Sums.{sum_by_push}
use Rattle.b3_ir.specs.Procedure.{Kept, Block, empty_block, total}
use Rattle.b3_ir.proofs.Changes.{by_parts}
use Rattle.b3_ir.proofs.Fitting.{All-push}
use Rattle.b3_ir.specs.Fits.{Fits}
use Rattle.b3_ir.proofs.Idle.{same_blocks, Used, used}
use Rattle.b3_ir.proofs.procedure.Proc.add_block_at.Goals as goal

step : (c : goal.After-self-2-1) → Used c.find_idle.new.chains.lists c.self.inside.chains.lists c.self.inside.headings.items c.find_idle.new.headings.items c.self.inside.live (record { number = c.args.number; line = c.args.line; chain = c.index_mut-heading.result.now.chain })
step c = used c.find_idle.new.chains.lists c.self.inside.chains.lists c.self.inside.headings.items c.find_idle.new.headings.items c.self.inside.live c.args.number c.args.line c.index_mut-heading.result.now c.in_ok-find_idle.ensures.held c.in_ok-find_idle.ensures.ok c.in_ok-find_idle.ensures.live_blocks c.in_ok-find_idle.ensures.lists c.index_mut-heading.ensures.value

-- where the block is refused
pub invariant_of-self : goal.invariant_of-self
invariant_of-self c = record {
  held = c.find_idle.ensures.held;
  short = c.find_idle.ensures.short;
  few_slots = c.self.invariant.few_slots;
  fit = rw (c.find_idle.ensures.live_blocks, same_blocks c.find_idle.new.chains.lists c.self.inside.chains.lists c.find_idle.ensures.lists (take c.self.inside.live c.self.inside.headings.items)) c.self.invariant.fit;
}

pub invariant_of-self-2 : goal.invariant_of-self-2
invariant_of-self-2 c = record {
  held = (step c).held;
  short = rw length-set c.in_ok-find_idle.ensures.short;
  few_slots = c.self.invariant.few_slots;
  fit = rw (step c).blocks (All-push (λ (b : Block). All Fits b.values) _ (empty_block c.args.number c.args.line) (All-nil Fits) c.self.invariant.fit);
}

pub returns-clause-ok : goal.returns-clause-ok
returns-clause-ok c = by_parts _ _ _ _ _ _ _ (ap (λ (k : Kept). k.procedure) c.self.view_is) ((step c).blocks ∙ ap (λ (s : List Block). s ++ empty_block c.args.number c.args.line ∷ []) (ap (λ (k : Kept). k.procedure.blocks) c.self.view_is))

pub returns-clause-nodes : goal.returns-clause-nodes
returns-clause-nodes c = (step c).nodes ∙ ap (λ (s : List (List ℕ)). s ++ [] ∷ []) (ap (λ (k : Kept). k.nodes) c.self.view_is)

pub returns-clause-count : goal.returns-clause-count
returns-clause-count c =
    let blocks = ap total (returns-clause-ok c) in
    let push = sum_by_push (λ (b : Block). length b.values) c.args.self.now.procedure.blocks (empty_block c.args.number c.args.line) in
    omega (arith, blocks, push)
