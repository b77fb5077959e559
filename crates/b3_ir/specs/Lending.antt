-- What a module is after one of its procedures was lent.
use Rattle.std.specs.Prelude.{ℕ, List, slice_set}
use Rattle.std.specs.Borrow.{Lends, MutBor, Fml}
use Rattle.b3_ir.specs.Procedure.{Kept}
use Rattle.b3_ir.specs.contracts.procedure.Module.{the_row}
use Rattle.b3_ir.specs.contracts.procedure.Proc.{the_row as proc_row}

-- the module ends with the last value behind the reference in the place of the procedure
abbrev pub LendsProc : MutBor (List Kept) → ℕ → MutBor Kept → Fml
LendsProc module_ at lent = Lends the_row proc_row module_ lent (λ last. slice_set module_.now at last)
