-- What is known of the text that is made from a number.
use Rattle.std.specs.Prelude.{◌≡◌, ℕ, length, sum_by}
use Rattle.b3_ir.specs.Procedure.{total}
use Rattle.b3_module.specs.Canonical.{lined}
use Rattle.b3_module.specs.Limits.{KeepsLimits}
use Rattle.b3_module.specs.Texts.{Spells}
use Rattle.b3_rules.specs.Valid.{IsValid}
use Rattle.b3_trial.specs.Generated.{generated}
use Rattle.b3_generated.specs.Made.{module_of}

-- the text that is made from a number spells the module that is, on the lines of that text; the module has 16 procedures
-- and 8,272 values in all, and keeps the limits and all rules
pub record IsGoodText (n : ℕ) : Type 0 where
  pub spells : Spells (generated n) (lined 1 (module_of n))
  pub within : KeepsLimits (lined 1 (module_of n))
  pub valid : IsValid (lined 1 (module_of n))
  pub procedures : length (lined 1 (module_of n)) ≡ 16
  pub values : sum_by total (lined 1 (module_of n)) ≡ 8272
