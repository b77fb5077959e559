use Rattle.b3_module.proofs.LimitSums.{few_procedures, names_listed}
use Rattle.b3_module.proofs.laws.texts_are_named.Goals as goal

pub returns-clause-few : goal.returns-clause-few
returns-clause-few c = few_procedures

pub returns-clause-names : goal.returns-clause-names
returns-clause-names c = λ bytes m spells. names_listed m (c.texts_are_listed.ensures.given bytes m spells)
