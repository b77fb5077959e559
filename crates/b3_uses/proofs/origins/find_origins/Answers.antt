use Rattle.std.proofs.Common.{◌≡◌, ℕ, [], length, replicate, subst, arith}
use Rattle.b3_ir.specs.Procedure.{values_of}
use Rattle.b3_uses.specs.Origins.{AreOriginsBelow}
use Rattle.b3_uses.specs.Reversed.{LeadsToAny}
use Rattle.b3_uses.proofs.Adding.{adds_below}
use Rattle.b3_uses.proofs.origins.find_origins.Goals as goal

pub loop-block-preserved : goal.loop-block-preserved
loop-block-preserved c =
    let inv = c.loop-block.invariant in
    let p = c.args.p.now.procedure in
    let n : ℕ = length p.blocks in
    record {
      sources = adds_below (λ block. LeadsToAny n block (values_of p block)) c.loop-block.block
          (replicate n []) c.loop-block.origins.sources c.add_block.new.self.sources inv.sources
          c.in_ok-add_block.ensures.sources;
      homes = c.in_ok-add_block.ensures.homes;
    }

pub returns : goal.returns
returns c =
    let p = c.args.p.now.procedure in
    let end : c.loop-block.block ≡ length p.blocks = omega (arith, c.blocks-blocks.ensures, c.loop-block-test.false, c.loop-block.auto.block-end) in
    subst (λ (m : ℕ). AreOriginsBelow p m c.loop-block.origins) end c.loop-block.invariant
