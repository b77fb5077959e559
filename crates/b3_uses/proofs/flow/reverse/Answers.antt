use Rattle.std.proofs.Common.{◌≡◌, ℕ, [], length, replicate, sym, subst, ◌∙◌, arith}
use Rattle.std.specs.BTreeMap as tree
use Rattle.std.specs.Ordering.{nat_cmp}
use Rattle.b3_ir.specs.Procedure.{values_of}
use Rattle.b3_uses.specs.Lists.{AddsTo}
use Rattle.b3_uses.specs.Names.{IsNumbered}
use Rattle.b3_uses.specs.Reversed.{DefinedBelow, DefinesAt, LedBelow}
use Rattle.b3_uses.proofs.Adding.{adds_below}
use Rattle.b3_uses.proofs.Turning.{in_range, reversed_is}
use Rattle.b3_uses.proofs.flow.reverse.Goals as goal

pub loop-block-preserved : goal.loop-block-preserved
loop-block-preserved c =
    let inv = c.loop-block.invariant in
    let p = c.args.p.now.procedure in
    let names = tree.get nat_cmp c.args.names.now.numbers in
    let n : ℕ = length p.blocks in
    let k = c.loop-block.block in
    record {
      blocks = inv.blocks;
      names = c.in_ok-add_block.ensures.names ∙ inv.names;
      sources = subst (λ l. AddsTo (replicate n []) l (LedBelow p n)) (sym c.in_ok-add_block.ensures.sources) inv.sources;
      defined = adds_below (λ block. DefinesAt n block names (values_of p block)) k
          (replicate n []) c.loop-block.flow.defined c.add_block.new.self.defined inv.defined
          c.in_ok-add_block.ensures.defined;
    }

pub returns-clause-reversed : goal.returns-clause-reversed
returns-clause-reversed c =
    let inv = c.loop-block.invariant in
    let p = c.args.p.now.procedure in
    let names = tree.get nat_cmp c.args.names.now.numbers in
    let end : c.loop-block.block ≡ length p.blocks = omega (arith, inv.blocks) in
    reversed_is p names c.loop-block.flow.names c.loop-block.flow.sources c.loop-block.flow.defined
    (subst (λ (m : ℕ). IsNumbered names m) (sym inv.names) c.args.names.now.numbered)
    inv.sources
    (subst (λ (m : ℕ). AddsTo (replicate (length p.blocks) []) c.loop-block.flow.defined (DefinedBelow p names m)) end inv.defined)

pub returns-clause-range : goal.returns-clause-range
returns-clause-range c =
    let inv = c.loop-block.invariant in
    let p = c.args.p.now.procedure in
    let names = tree.get nat_cmp c.args.names.now.numbers in
    let end : c.loop-block.block ≡ length p.blocks = omega (arith, inv.blocks) in
    in_range p names c.loop-block.flow.names c.loop-block.flow.sources c.loop-block.flow.defined
    (subst (λ (m : ℕ). IsNumbered names m) (sym inv.names) c.args.names.now.numbered)
    inv.sources
    (subst (λ (m : ℕ). AddsTo (replicate (length p.blocks) []) c.loop-block.flow.defined (DefinedBelow p names m)) end inv.defined)
