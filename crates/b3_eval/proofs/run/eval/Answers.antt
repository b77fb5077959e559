use Rattle.std.proofs.Common.{◌≡◌, ◌-◌, ◌<◌, map, sym, refl, ap, ◌∙◌, arith}
use Rattle.b3_base.specs.Observed.{answer_of, start_of}
use Rattle.b3_base.specs.Run.{iterate}
use Rattle.b3_base.proofs.Run.{iterate-fixed, iterate-zero, iterate-one_less}
use Rattle.b3_meaning.specs.Run.{At, Lost, Over, block_step, observe, seen_as}
use Rattle.b3_eval.proofs.Walks.{led_lost, led_over, led_to}
use Rattle.b3_eval.specs.Lookup.{type_in}
use Rattle.b3_eval.specs.Stands.{answers_from, state_of}
use Rattle.b3_eval.proofs.run.eval.Goals as goal

pub loop-left-init : goal.loop-left-init
loop-left-init c = record {
  types = c.in_ok-types.ensures;
  same = ap (iterate (block_step c.args.p.now.procedure (start_of c.args.start.now)) c.args.n) (c.in_ok-st.ensures (map answer_of c.args.answers.now));
}

pub loop-left-preserved : goal.loop-left-preserved
loop-left-preserved c =
    let f = block_step c.args.p.now.procedure (start_of c.args.start.now) in
    let some : 0 < c.loop-left.left = omega arith in
    record {
      types = c.loop-left.invariant.types;
      same = c.loop-left.invariant.same ∙ iterate-one_less f c.loop-left.left _ some
          ∙ ap (iterate f (c.loop-left.left - 1)) (led_to c.args.p.now.procedure (start_of c.args.start.now) (type_in c.in_ok-types.types)
          c.loop-left.block c.in-To.next _ _ _ c.loop-left.invariant.types c.in-To.is c.in_ok-next.ensures);
    }

pub returns-in-Over : goal.returns-in-Over
returns-in-Over c =
    let f = block_step c.args.p.now.procedure (start_of c.args.start.now) in
    let some : 0 < c.loop-left.left = omega arith in
    let seen = seen_as (state_of (answers_from c.args.answers.now c.block_step.new.taken) c.block_step.new.st) c.in-Over.status in
    c.seen_as.ensures (answers_from c.args.answers.now c.block_step.new.taken)
    ∙ sym (ap observe (c.loop-left.invariant.same ∙ iterate-one_less f c.loop-left.left _ some
    ∙ ap (iterate f (c.loop-left.left - 1)) (led_over c.args.p.now.procedure (start_of c.args.start.now) (type_in c.in_ok-types.types) c.loop-left.block _
    _ _ c.in-Over.status c.loop-left.invariant.types c.in-Over.is c.in_ok-next.ensures)
    ∙ iterate-fixed f (c.loop-left.left - 1) (Over seen) refl))

pub returns-in-Lost : goal.returns-in-Lost
returns-in-Lost c =
    let f = block_step c.args.p.now.procedure (start_of c.args.start.now) in
    let some : 0 < c.loop-left.left = omega arith in
    let lost = led_lost c.args.p.now.procedure (start_of c.args.start.now) (type_in c.in_ok-types.types) c.loop-left.block _ _ _
    c.loop-left.invariant.types c.in-Lost.is c.in_ok-next.ensures in
    c.undefined.ensures
    ∙ sym (ap observe (c.loop-left.invariant.same ∙ iterate-one_less f c.loop-left.left _ some
    ∙ ap (iterate f (c.loop-left.left - 1)) lost.1
    ∙ iterate-fixed f (c.loop-left.left - 1) (Lost lost.0) refl))

pub returns : goal.returns
returns c =
    let f = block_step c.args.p.now.procedure (start_of c.args.start.now) in
    let none : c.loop-left.left ≡ 0 = omega arith in
    let rest = answers_from c.args.answers.now c.loop-left.taken in
    c.seen_as-2.ensures rest
    ∙ sym (ap observe (c.loop-left.invariant.same ∙ ap (λ n. iterate f n (At c.loop-left.block (state_of rest c.loop-left.st))) none ∙ iterate-zero f _))
