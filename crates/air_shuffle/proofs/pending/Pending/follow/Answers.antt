use Rattle.std.proofs.Common.{◌≡◌, ℕ, suc, ◌<◌, ◌∷◌, [], ◌++◌, Option, length, arith, sym, ap, ◌∙◌, subst}
use Rattle.std.specs.Prelude.{IfSome}
use Rattle.air_shuffle.specs.Following.{IsAt}
use Rattle.air_shuffle.specs.Moves.{IsSource, Move}
use Rattle.air_shuffle.specs.Waiting.{IsCounted, move_at, pending_in, writer_of}
use Rattle.air_shuffle.proofs.Following.{free_parts, goes_on, next_within}
use Rattle.air_shuffle.proofs.Left.{read_move}
use Rattle.air_shuffle.proofs.Releasing.{released-counted}
use Rattle.air_shuffle.proofs.Taking.{IsDone, IsGone, IsLeft, done-releases, done-shorter, from_at, still_left}
use Rattle.air_shuffle.proofs.pending.Pending.follow.Goals as goal

pub loop-next-smaller : goal.loop-next-smaller
loop-next-smaller c =
    let p = c.loop-next.self in
    let q = c.finish-next.new.self in
    let k : ℕ = c.in-Some.place in
    let inv = c.loop-next.invariant in
    let within : k < length p.moves.items = subst (λ (o : Option ℕ). IfSome o (λ i. i < length p.moves.items)) c.in-Some.is inv.there in
    let free = free_parts p k (sym c.is_free.ensures ∙ c.if-not-is_free.false) in
    let there : IsLeft p k = record { within = within; left = free.0 } in
    let gone : IsGone p q k = record { moves = ap (λ v. v.items) c.finish-next.ensures.moves; left = c.finish-next.ensures.left } in
    let shorter : length (pending_in p) ≡ suc (length (pending_in q)) = done-shorter p q k inv.counted there gone in
    let less : length (pending_in q) < length (pending_in p) = omega arith in
    less

pub loop-next-preserved : goal.loop-next-preserved
loop-next-preserved c =
    let p = c.loop-next.self in
    let q = c.finish-next.new.self in
    let k : ℕ = c.in-Some.place in
    let inv = c.loop-next.invariant in
    let g : IsCounted p = inv.counted in
    let within : k < length p.moves.items = subst (λ (o : Option ℕ). IfSome o (λ i. i < length p.moves.items)) c.in-Some.is inv.there in
    let free = free_parts p k (sym c.is_free.ensures ∙ c.if-not-is_free.false) in
    let there : IsLeft p k = record { within = within; left = free.0 } in
    let d : IsDone p q k = record {
      gone = record { moves = ap (λ v. v.items) c.finish-next.ensures.moves; left = c.finish-next.ensures.left };
      scratch = c.finish-next.ensures.scratch;
      writers = c.finish-next.ensures.writers;
      counts = c.finish-next.ensures.counts;
    } in
    let h : IsCounted q = released-counted (from_at p k) p q g (done-releases p q k g there d) in
    let source : IsSource (from_at p k) = (g.sound).sources k within in
    let next : c.finish-next.result ≡ writer_of p.writers (from_at p k) = c.finish-next.ensures.next in
    let read : c.index.result.now ≡ move_at p.moves.items k = read_move p.moves.items k c.index.result.now within c.index.ensures in
    let done : c.push.new.self ≡ c.loop-next.done ++ move_at p.moves.items k ∷ [] =
    c.in_ok-push.ensures.ok ∙ ap (λ (m : Move). c.loop-next.done ++ m ∷ []) read in
    record {
      counted = h;
      there = subst (λ (o : Option ℕ). IfSome o (λ i. i < length q.moves.items)) (sym next)
          (subst (λ (n : ℕ). IfSome (writer_of p.writers (from_at p k)) (λ i. i < n)) (sym (ap (λ v. length v.items) c.finish-next.ensures.moves))
          (next_within p (from_at p k) g source));
      scratch = c.finish-next.ensures.scratch ∙ inv.scratch;
      moves = c.finish-next.ensures.moves ∙ inv.moves;
      left = λ i l. inv.left i (still_left p q k i g within d.gone.left l).1;
      at = λ whole bound start.
          subst (λ (o : Option ℕ). IsAt whole bound o c.push.new.self q) (sym next)
          (goes_on whole bound c.loop-next.done c.push.new.self p q k g h there d free.1 done
          (subst (λ (o : Option ℕ). IsAt whole bound o c.loop-next.done p) c.in-Some.is (inv.at whole bound start)));
    }
