use Rattle.std.proofs.Common.{ℕ, List, subst}
use Rattle.std.specs.Prelude.{Contains}
use Rattle.air_colour.proofs.waiting.Waiting.note_join.Goals as goal

pub wake_beside-requires-clause-below : goal.wake_beside-requires-clause-below
wake_beside-requires-clause-below c x i = c.requires.below x (subst (λ (l : List ℕ). Contains l x) c.deref-3.ensures.value i)
