-- No public clause cites this module: the ids of the values before a place of a block.
use Rattle.std.specs.Prelude.{ℕ, List, map, take, ◌++◌}
use Rattle.std.specs.List.{flat_map}
use Rattle.b3_ir.specs.Procedure.{Block, Procedure, values_of}
use Rattle.b3_ir.specs.declared.value.Value.{Value}

-- the ids of values
abbrev pub ids : List Value → List ℕ
ids vs = map (λ (v : Value). v.id) vs

-- the ids of the values in the first blocks, so many of them, and of so many values of the next block
abbrev pub ids_before : Procedure → ℕ → ℕ → List ℕ
ids_before p block count =
    ids (flat_map (λ (b : Block). b.values) (take block p.blocks)) ++ ids (take count (values_of p block))
