-- No public clause cites this module. Blocks walked value by value.
use Rattle.std.specs.Prelude.{◌≡◌, ℕ, List, ◌++◌, Option, IfSome}
use Rattle.b3_ir.specs.Procedure.{IsIn, Kept, values_from, values_of}
use Rattle.b3_ir.specs.declared.value.Value.{Value}

-- the values before a node of a block, or all of the block's where there is no node
pub record Walked (p : Kept) (block : ℕ) (before : List Value) (at : Option ℕ) : Type 0 where
  pub split : values_of p.procedure block ≡ before ++ values_from p block at
  pub there : IfSome at (λ node. IsIn p node block)
