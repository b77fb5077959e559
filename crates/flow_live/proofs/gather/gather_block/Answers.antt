use Rattle.std.proofs.Common.{◌≡◌, ℕ, ◌+◌, ◌*◌, ◌⊎◌, ◌↔◌, true, false, arith, ◌∙◌, subst}
use Rattle.flow_live.specs.Graph.{Uses, Defines}
use Rattle.flow_live.specs.Solving.{has}
use Rattle.flow_live.proofs.Paths.{at_place}
use Rattle.flow_live.proofs.Gathering.{IsGathered-more}
use Rattle.flow_live.proofs.gather.gather_block.Goals as goal

pub loop-place-preserved : goal.loop-place-preserved
loop-place-preserved g c =
    let s = g.F.Flow.shape c.args.flow.now in
    let b = c.args.block in
    let p = c.loop-place.place in
    let old = c.loop-place.rows in
    let mid = c.gather_uses.new.rows in
    let new = c.gather_defs.new.rows in
    let uses = c.gather_uses.ensures in
    let defs = c.gather_defs.ensures in
    record {
      room = defs.room;
      others = λ row x y. defs.others row y ∙ uses.others row x ∙ c.loop-place.invariant.others row x y;
      gathered =
          IsGathered-more s b p old mid new (omega (arith, c.requires.blocks, c.requires.block)) c.loop-place.invariant.gathered
          (subst (λ (n : ℕ). (name : ℕ) → (has mid b name ≡ true) ↔ ((has old b name ≡ true) ⊎ (Uses s name (at_place b p) × (has old (2 * n + b) name ≡ false)))) c.requires.blocks uses.used)
          (subst (λ (n : ℕ). (name : ℕ) → (has new (2 * n + b) name ≡ true) ↔ ((has mid (2 * n + b) name ≡ true) ⊎ Defines s name (at_place b p))) c.requires.blocks defs.defined)
          (uses.others (2 * s.blocks + b) (λ e. omega (arith, c.requires.blocks, c.requires.block)))
          (defs.others b (λ e. omega (arith, c.requires.blocks, c.requires.block)));
    }
