use Rattle.std.proofs.Common.{◌≡◌, ◌≢◌, ◌<◌, false, length, drop, add-one, ◌∙◌, nat_eq, slice_index_or, rules, arith}
use Rattle.std.proofs.Math.Seq.{drop-cons}
use Rattle.std.proofs.lemmas.Bool.{ne_eqb}
use Rattle.b3_base.specs.Arithmetic.{low}
use Rattle.b3_eval.proofs.Gathered.{chosen_next}
use Rattle.b3_eval.proofs.terminals.chosen.Goals as goal

pub loop-at-preserved : goal.loop-at-preserved
loop-at-preserved c =
    let in_cases : c.loop-at.at < length c.args.cases.now = omega arith in
    let in_targets : c.loop-at.at < length c.args.targets.now = omega arith in
    let ne : c.low.result ≢ c.args.word = search rules in
    let not : nat_eq (low c.args.width (slice_index_or c.args.cases.now c.loop-at.at 0)) c.args.word ≡ false = ne_eqb _ _ (λ e. ne (c.low.ensures.value
    ∙ e)) in
    rw add-one
    (c.loop-at.invariant
    ∙ chosen_next c.args.width c.args.word (drop c.loop-at.at c.args.cases.now) (drop c.loop-at.at c.args.targets.now) _ _ _ _
    (drop-cons c.args.cases.now c.loop-at.at 0 in_cases) (drop-cons c.args.targets.now c.loop-at.at 0 in_targets) not)
