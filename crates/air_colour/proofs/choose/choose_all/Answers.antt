use Rattle.std.proofs.Common.{◌≡◌, ℕ, ◌+◌, ◌-◌, ◌<◌, length, refl, sym, ◌∙◌, subst, arith, None, slice_index_or, get_or-set_other, IfSome, IfNone}
use Rattle.air_colour.specs.Kept.{graph_of, given_in, IsTaken}
use Rattle.air_colour.specs.Chosen.{IsChosenFrom}
use Rattle.air_colour.proofs.ChosenSteps.{chosen_step, chosen_first}
use Rattle.air_colour.proofs.choose.choose_all.Goals as goal

pub loop-i-init : goal.loop-i-init
loop-i-init c = record {
  long = refl;
  chosen = λ left fixed long s start. chosen_first (length c.args.bars.now) (given_in c.args.given.now) c.args.order.now (length c.args.order.now)
      (graph_of c.args.edges.now left fixed) s start (omega arith);
  others = λ x none. refl;
}

pub loop-i-preserved : goal.loop-i-preserved
loop-i-preserved c =
    let more : c.loop-i.i ≡ c.loop-i.i - 1 + 1 = let some = c.loop-i-test.true in omega arith in
    let here : c.loop-i.i - 1 < length c.args.order.now = let some = c.loop-i-test.true in let le = c.loop-i.auto.i in omega arith in
    let same_length = c.loop-i.auto.given in
    let bars : length c.loop-i.bars ≡ length c.args.bars.now = c.loop-i.invariant.long in
    record {
      long = c.first_free.ensures.long ∙ bars;
      chosen = λ left fixed long s start.
          chosen_step (length c.args.bars.now) c.args.edges.now c.loop-i.given c.args.order.now (c.loop-i.i - 1) (graph_of c.args.edges.now left fixed)
          c.first_free.result refl (long ∙ sym same_length) s here
          (subst (λ (i : ℕ). IsChosenFrom (length c.args.bars.now) (graph_of c.args.edges.now left fixed) (given_in c.loop-i.given) c.args.order.now i) more
          (c.loop-i.invariant.chosen left fixed long s start))
          (subst (λ (n : ℕ). IfSome c.first_free.result (λ r. (r < n) × (IsTaken c.args.edges.now c.loop-i.given
          (slice_index_or c.args.order.now (c.loop-i.i - 1) 0) r → ⊥))) bars c.first_free.ensures.free)
          (subst (λ (n : ℕ). IfNone c.first_free.result ((r : ℕ) → r < n → IsTaken c.args.edges.now c.loop-i.given
          (slice_index_or c.args.order.now (c.loop-i.i - 1) 0) r)) bars c.first_free.ensures.all);
      others = λ x none.
          get_or-set_other c.loop-i.given (slice_index_or c.args.order.now (c.loop-i.i - 1) 0) x c.first_free.result None
          (λ e. none (c.loop-i.i - 1) (omega arith) here (sym e))
          ∙ c.loop-i.invariant.others x (λ j le lt e. none j (omega arith) lt e);
    }

pub returns-clause-chosen : goal.returns-clause-chosen
returns-clause-chosen c = λ left fixed long s start.
    let none : c.loop-i.i ≡ 0 = omega arith in
    (subst (λ (i : ℕ). IsChosenFrom (length c.args.bars.now) (graph_of c.args.edges.now left fixed) (given_in c.loop-i.given) c.args.order.now i) none
    (c.loop-i.invariant.chosen left fixed long s start)).chosen

pub returns-clause-others : goal.returns-clause-others
returns-clause-others c = λ x none. c.loop-i.invariant.others x (λ j le lt. none j lt)
