use Rattle.std.proofs.Common.{◌≡◌, ℕ, ◌+◌, ◌*◌, ◌<◌, List, length, arith, sym, ap, ◌∙◌, subst}
use Rattle.std.specs.Prelude.{None}
use Rattle.b3_ir.specs.declared.value.Reg.{Reg as Register}
use Rattle.air_shuffle.specs.Following.{IsAt}
use Rattle.air_shuffle.specs.Moves.{Move}
use Rattle.air_shuffle.specs.Sequenced.{IsSequenceOf, sequenced}
use Rattle.air_shuffle.specs.Waiting.{left_of, pending_in}
use Rattle.air_shuffle.proofs.Beginning.{apart-at, count-others, first-going, sequenceable}
use Rattle.air_shuffle.proofs.Following.{looks, starts}
use Rattle.air_shuffle.proofs.Left.{others}
use Rattle.air_shuffle.proofs.Sequenced.{length-least, sequences_right}
use Rattle.air_shuffle.proofs.order.sequence.Goals as goal

pub loop-place-init : goal.loop-place-init
loop-place-init c =
    let ms : List Move = c.args.moves.now in
    let p = c.in_ok-pending.pending in
    let whole : List Move = left_of ms (others ms) in
    let first = first-going c.args.scratch ms (sequenceable ms c.requires.sources c.requires.differ) (apart-at c.args.scratch ms c.requires.apart) in
    let count = count-others ms in
    let pending : pending_in p ≡ whole =
    ap (λ (l : List Move). left_of l p.left.items) c.in_ok-pending.ensures.moves ∙ ap (left_of ms) c.in_ok-pending.ensures.left in
    record {
      counted = c.in_ok-pending.ensures.counted;
      many = ap length c.in_ok-pending.ensures.moves;
      at = subst (λ (l : List Move). IsAt (sequenced c.args.scratch ms) 0 None l p) (sym c.new-done.ensures)
          (starts c.args.scratch ms p c.in_ok-pending.ensures.scratch pending
          (length-least c.args.scratch whole whole (2 * length ms) first (omega arith)));
    }

pub loop-place-preserved : goal.loop-place-preserved
loop-place-preserved c =
    let ms : List Move = c.args.moves.now in
    let p = c.loop-place.pending in
    let inv = c.loop-place.invariant in
    let within : c.loop-place.place < length p.moves.items = subst (λ (n : ℕ). c.loop-place.place < n) (sym inv.many) c.loop-place-test.true in
    record {
      counted = c.in_ok-follow.ensures.counted;
      many = ap (λ v. length v.items) c.follow.ensures.moves ∙ inv.many;
      at = c.in_ok-follow.ensures.rests (sequenced c.args.scratch ms) (c.loop-place.place + 1)
          (looks (sequenced c.args.scratch ms) c.loop-place.place c.loop-place.done p inv.counted within inv.at);
    }

pub returns-clause-is : goal.returns-clause-is
returns-clause-is c =
    let ms : List Move = c.args.moves.now in
    let inv = c.loop-place.invariant in
    let all : c.loop-place.place ≡ length ms = omega (arith, c.loop-place-test.false, c.loop-place.auto.place-end) in
    c.in_ok-cut_cycles.ensures (sequenced c.args.scratch ms)
    (subst (λ (n : ℕ). IsAt (sequenced c.args.scratch ms) n None c.loop-place.done c.loop-place.pending) all inv.at)

right : (scratch : Register) (ms done : List Move) → done ≡ sequenced scratch ms → IsSequenceOf scratch ms (sequenced scratch ms) → IsSequenceOf scratch ms done
right scratch ms done e is = subst (IsSequenceOf scratch ms) (sym e) is

pub returns-clause-at_once : goal.returns-clause-at_once
returns-clause-at_once c =
    (right c.args.scratch c.args.moves.now _ (returns-clause-is c)
    (sequences_right c.args.scratch c.args.moves.now c.requires.sources c.requires.differ c.requires.apart)).at_once

pub returns-clause-made : goal.returns-clause-made
returns-clause-made c =
    (right c.args.scratch c.args.moves.now _ (returns-clause-is c)
    (sequences_right c.args.scratch c.args.moves.now c.requires.sources c.requires.differ c.requires.apart)).made

pub returns-clause-no_self : goal.returns-clause-no_self
returns-clause-no_self c =
    (right c.args.scratch c.args.moves.now _ (returns-clause-is c)
    (sequences_right c.args.scratch c.args.moves.now c.requires.sources c.requires.differ c.requires.apart)).no_self

pub returns-clause-length : goal.returns-clause-length
returns-clause-length c =
    (right c.args.scratch c.args.moves.now _ (returns-clause-is c)
    (sequences_right c.args.scratch c.args.moves.now c.requires.sources c.requires.differ c.requires.apart)).lengths

pub returns-clause-straight : goal.returns-clause-straight
returns-clause-straight c =
    (right c.args.scratch c.args.moves.now _ (returns-clause-is c)
    (sequences_right c.args.scratch c.args.moves.now c.requires.sources c.requires.differ c.requires.apart)).straight

pub returns-clause-few : goal.returns-clause-few
returns-clause-few c =
    (right c.args.scratch c.args.moves.now _ (returns-clause-is c)
    (sequences_right c.args.scratch c.args.moves.now c.requires.sources c.requires.differ c.requires.apart)).few
