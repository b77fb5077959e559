-- What a refused module breaks.
use Rattle.std.specs.Prelude.{◌≡◌, ℕ, List}
use Rattle.b3_ir.specs.Procedure.{Procedure}
use Rattle.b3_rules.specs.Breaches.{IsFirstBreach}
use Rattle.b3_rules.specs.Numbers.{number_of}
use Rattle.b3_rules.specs.Valid.{IsValid}
use Rattle.b3_rules.specs.declared.rule.Rule.{Rule}
use Rattle.b3_validate.specs.declared.fault.ValidateFault.{ValidateFault}
use Rattle.b3_validate.specs.declared.fault.ValidateFault.TheVariants.{Invalid, NoMemory}

-- the first breach of the module is of the rule of this number, on this line of the procedure at this place;
-- so the module isn't valid
pub record IsInvalid (ps : List Procedure) (number procedure line : ℕ) : Type 0 where
  pub broken : Rule
  pub is_number : number ≡ number_of broken
  pub first : IsFirstBreach ps (record { rule = broken; procedure = procedure; line = line })
  pub refused : ¬ (IsValid ps)

abbrev pub IsFault : List Procedure → ValidateFault → Type 0
IsFault ps (Invalid rule procedure line) = IsInvalid ps rule procedure line
IsFault ps NoMemory = Unit {0}
