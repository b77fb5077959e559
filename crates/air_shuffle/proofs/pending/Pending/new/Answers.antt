use Rattle.std.proofs.Common.{Bool, List, sym, subst}
use Rattle.air_shuffle.specs.Moves.{Move}
use Rattle.air_shuffle.specs.Waiting.{AreCounts, left_of}
use Rattle.air_shuffle.specs.declared.pending.Pending.{Pending}
use Rattle.air_shuffle.proofs.Beginning.{First, first-counted}
use Rattle.air_shuffle.proofs.pending.Pending.new.Goals as goal

pub returns-clause-counted : goal.returns-clause-counted
returns-clause-counted c =
    let ms : List Move = c.args.moves.now in
    let p : Pending = record {
      scratch = c.args.scratch;
      moves = c.in_ok-from_slice.field-0;
      left = c.in_ok-left.left;
      counts = c.in_ok-counts.counts;
      writers = c.in_ok-writers.writers;
    } in
    let first : First ms p = record {
      sound = c.requires.sound;
      apart = c.requires.apart;
      writers = c.in_ok-writers.ensures;
      left = c.in_ok-left.ensures;
      counts = subst (λ (l : List Bool). AreCounts ms (left_of ms l) p.counts.items) c.as_slice.ensures.value c.in_ok-counts.ensures;
    } in
    first-counted p (subst (λ (l : List Move). First l p) (sym c.in_ok-from_slice.ensures.items) first)
