-- No public clause cites this module. Where the code stands on its way to the list of moves in order.
use Rattle.std.specs.Prelude.{◌≡◌, ◌≢◌, ℕ, ◌≤◌, ◌<◌, true, false, List, ◌++◌, Option, Some}
use Rattle.std.specs.Prelude.{slice_set}
use Rattle.air_ir.specs.declared.operand.Arg.{Arg}
use Rattle.air_shuffle.specs.Moves.{Move, reads}
use Rattle.air_shuffle.specs.Pending.{Has, costs, readers}
use Rattle.air_shuffle.specs.Sequenced.{Does, choice, ordered}
use Rattle.air_shuffle.specs.Waiting.{count_at, is_left_at, left_of, move_at, pending_in}
use Rattle.air_shuffle.specs.declared.pending.Pending.{Pending}

-- some moves are done, the last of which read a source, and a place is to be looked at: what is done and what comes in
-- order is the whole; below a bound no other move that is left is free; a free move at the place comes next, and where
-- none is there no move to the home that was read last is free
pub record IsAt (whole : List Move) (bound : ℕ) (next : Option ℕ) (done : List Move) (p : Pending) : Type 0 where
  pub last : Arg
  pub fuel : ℕ
  pub enough : costs p.scratch (pending_in p) ≤ fuel
  pub goes : done ++ ordered fuel p.scratch last (pending_in p) ≡ whole
  pub passed : (k : ℕ) → k < bound → is_left_at p k ≡ true → next ≢ Some k → 0 < count_at p.counts.items k
  pub picks : (j : ℕ) → next ≡ Some j → is_left_at p j ≡ true → count_at p.counts.items j ≡ 0
      → choice last (pending_in p)
      ≡ Does (move_at p.moves.items j) (left_of p.moves.items (slice_set p.left.items j false))
  pub rests : ((j : ℕ) → next ≡ Some j → is_left_at p j ≡ true → 0 < count_at p.counts.items j)
      → (c : Move) → Has c (pending_in p) → reads c.to last ≡ true → 0 < readers c.to (pending_in p)
