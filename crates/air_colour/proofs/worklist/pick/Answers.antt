use Rattle.air_colour.proofs.worklist.pick.Goals as goal

pub pop_left-requires : goal.pop_left-requires
pop_left-requires c = record { below = λ x i. (c.requires.below x i).0 }
