-- Each step of the program is one of the run, and a run that has stopped stays.
use Rattle.std.proofs.Common.{◌≡◌, ℕ, ◌-◌, ◌<◌, refl, sym, ap, ◌∙◌, arith}
use Rattle.b3_base.specs.Run.{iterate}
use Rattle.b3_base.proofs.Run.{iterate-fixed, iterate-zero}
use Rattle.a64_run.proofs.Stepping.{led_on, led_over, one_less, seen_same}
use Rattle.a64_run.specs.Kept.{entry_of, state_of}
use Rattle.a64_run.specs.Machine.{Runs, Stops, machine_step, observe, seen_as}
use Rattle.a64_run.proofs.running.run_from.Goals as goal

pub loop-left-preserved : goal.loop-left-preserved
loop-left-preserved c =
    let e = entry_of c.args.e.now in
    let f = machine_step e in
    let some : 0 < c.loop-left.left = omega arith in
    c.loop-left.invariant ∙ one_less f c.loop-left.left (Runs (state_of c.loop-left.st)) some
    ∙ ap (iterate f (c.loop-left.left - 1))
    (led_on e c.in_ok-step_once.field-0 (state_of c.step_once.new.st) (f (Runs (state_of c.loop-left.st))) c.in-On.is c.in_ok-step_once.ensures)

pub returns-in-Over : goal.returns-in-Over
returns-in-Over c =
    let e = entry_of c.args.e.now in
    let f = machine_step e in
    let some : 0 < c.loop-left.left = omega arith in
    let seen = seen_as e (state_of c.step_once.new.st) c.in-Over.status in
    seen_same c.seen_as.result seen _ (sym (ap (observe e) (c.loop-left.invariant ∙ one_less f c.loop-left.left (Runs (state_of c.loop-left.st)) some
    ∙ ap (iterate f (c.loop-left.left - 1))
    (led_over e c.in_ok-step_once.field-0 (state_of c.step_once.new.st) (f (Runs (state_of c.loop-left.st))) c.in-Over.status c.in-Over.is
    c.in_ok-step_once.ensures) ∙ iterate-fixed f (c.loop-left.left - 1) (Stops seen) refl))) c.seen_as.ensures

pub returns : goal.returns
returns c =
    let e = entry_of c.args.e.now in
    let f = machine_step e in
    let none : c.loop-left.left ≡ 0 = omega arith in
    seen_same c.seen_as-2.result _ _ (sym (ap (observe e) (c.loop-left.invariant ∙ ap (λ (n : ℕ). iterate f n (Runs (state_of c.loop-left.st))) none
    ∙ iterate-zero f (Runs (state_of c.loop-left.st))))) c.seen_as-2.ensures
