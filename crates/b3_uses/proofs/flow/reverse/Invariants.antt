use Rattle.std.proofs.Common.{◌≡◌, [], length, replicate}
use Rattle.std.specs.BTreeMap as tree
use Rattle.std.specs.BTreeMap.{btree_map_len}
use Rattle.std.specs.Ordering.{nat_cmp}
use Rattle.b3_uses.specs.Lists.{AddsTo}
use Rattle.b3_uses.specs.Reversed.{DefinedBelow, LedBelow}
use Rattle.b3_uses.proofs.flow.reverse.Given as goal

abbrev pub invariant-loop-block : goal.invariant-loop-block
invariant-loop-block l = record {
  blocks : l.blocks ≡ length l.p.procedure.blocks;
  names : l.flow.names ≡ btree_map_len l.names.numbers;
  sources : AddsTo (replicate (length l.p.procedure.blocks) []) l.flow.sources (LedBelow l.p.procedure (length l.p.procedure.blocks));
  defined : AddsTo (replicate (length l.p.procedure.blocks) []) l.flow.defined (DefinedBelow l.p.procedure (tree.get nat_cmp l.names.numbers) l.block);
}
