-- The numbers of the rules: where several are broken on one line, the one of the least number is named.
use Rattle.std.specs.Prelude.{ℕ}
use Rattle.b3_rules.specs.declared.rule.Rule.{Rule}
use Rattle.b3_rules.specs.declared.rule.Rule.TheVariants as rule

abbrev pub number_of : Rule → ℕ
number_of rule.Names = 1
number_of rule.Slots = 2
number_of rule.Blocks = 3
number_of rule.Ids = 4
number_of rule.Endings = 5
number_of rule.Terminals = 6
number_of rule.KnownIds = 7
number_of rule.Types = 8
number_of rule.Phis = 9
number_of rule.KnownSlots = 10
number_of rule.Successors = 11
number_of rule.Cases = 12
number_of rule.Returns = 13
number_of rule.Arguments = 14
number_of rule.Constraints = 15
number_of rule.Registers = 16
number_of rule.FixedRegisters = 17
number_of rule.RegisterDemand = 18
number_of rule.Sizes = 19
number_of rule.Uses = 20
