use Rattle.std.proofs.Common.{ℕ, ◌++◌, List, sym, ◌∙◌, ap}
use Rattle.b3_rows.specs.Written.{target_texts}
use Rattle.b3_written.specs.Listed.{listed}
use Rattle.b3_written.proofs.ListedLemmas.{target_step}
use Rattle.b3_written.proofs.lines.put_targets.Goals as goal

pub loop-number-preserved : goal.loop-number-preserved
loop-number-preserved c =
    target_step c.loop-number.some c.loop-number.out c.put_separator.new.out c.put_chosen.new.out c.in-Some.number.now c.in-Some.more.now
    c.in_ok-put_separator.ensures c.in_ok-put_chosen.ensures
    ∙ ap (λ (left : List ℕ). c.loop-number.out ++ listed c.loop-number.some (target_texts left)) (sym c.in-Some.ensures.cases.0)
    ∙ c.loop-number.invariant
