-- What `gen` promises of the text that is made from a number.
use Rattle.std.specs.Prelude.{◌≡◌, ℕ, List, ◌++◌, codes, length, sum_by}
use Rattle.std.specs.Fmt.{decimal}
use Rattle.b3_ir.specs.Procedure.{Procedure, total}
use Rattle.b3_trial.specs.Generated.{generated}
use Rattle.b3c_core.specs.Compiled.{IsCompiled, IsTextOf}

-- the summary: how many procedures and values there are, and the bytes of the text and of an object of it
unfoldable pub summary : ℕ → ℕ → ℕ → ℕ → List ℕ
summary procedures values module_bytes object_bytes =
    codes "procedures " ++ (decimal procedures
    ++ (codes "\nvalues " ++ (decimal values
    ++ (codes "\nmodule bytes " ++ (decimal module_bytes
    ++ (codes "\nobject bytes " ++ (decimal object_bytes ++ codes "\n")))))))

-- the text that is made from a number spells these procedures, and a file is one that `compile` may give for it: this is
-- the summary of all three
pub record IsSummary (n : ℕ) (output : List ℕ) : Type 0 where
  pub procedures : List Procedure
  pub text_of : IsTextOf (generated n) procedures
  pub file : List ℕ
  pub compiled : IsCompiled (generated n) file
  pub is : output ≡ summary (length procedures) (sum_by total procedures) (length (generated n)) (length file)
