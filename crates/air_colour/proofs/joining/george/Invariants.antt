use Rattle.std.proofs.Common.{◌≡◌, ℕ, ◌<◌, ◌⊎◌, true, false, take, slice_index_or}
use Rattle.std.specs.Prelude.{Contains}
use Rattle.air_colour.specs.Interference.{IsIn, degree}
use Rattle.air_colour.specs.Kept.{graph_of, has}
use Rattle.air_colour.proofs.joining.george.Given as goal

abbrev pub invariant-loop-y : goal.invariant-loop-y
invariant-loop-y l = (x : ℕ) → Contains (take l.y-index l.near) x → IsIn (graph_of l.edges l.left l.fixed) x
    → (slice_index_or l.fixed x false ≡ true) ⊎ ((has l.edges x l.a ≡ true) ⊎ (degree (graph_of l.edges l.left l.fixed) x < l.k))
