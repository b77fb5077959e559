use Rattle.air_ir.proofs.Same.{same_itself, same_through}
use Rattle.air_ir.proofs.laws.same_blocks_laws.Goals as goal
use Rattle.b3_meaning.specs.Run.{b3_run}
use Rattle.air_ir.specs.Run.{air_run}

pub returns-clause-itself : goal.returns-clause-itself
returns-clause-itself c = λ p start answers ranged all. same_itself (air_run p start answers)

pub returns-clause-through : goal.returns-clause-through
returns-clause-through c =
    λ p q r first second start answers ranged all.
    same_through (air_run p start answers) (air_run q start answers) (air_run r start answers)
    (first start answers ranged all) (second start answers ranged all)

pub returns-clause-onward : goal.returns-clause-onward
returns-clause-onward c =
    λ p q r first second start answers ranged all slots.
    same_through {J = Unit {0}} (λ _. b3_run p start answers) (air_run q start answers) (air_run r start answers)
    (first start answers ranged all slots) (second start answers ranged all)
