-- Where nothing stands in the frame below SP, nothing is lost.
use Rattle.std.proofs.Common.{◌≡◌, ◌∙◌, ℕ, ◌-◌, Bool, true, false, ap, arith}
use Rattle.std.specs.FinMap as map
use Rattle.b3_base.specs.Observed.{machine_start_of}
use Rattle.a64_run.proofs.Left.{lost_at, nothing_between, nothing_lost}
use Rattle.a64_run.proofs.leaving.lose_below.Goals as goal
use Rattle.a64_run.proofs.leaving.lose_below.Goals.{else-first-end-via-then-first-end+else-is_any_within, else-first-end-via-else-first-end}

differs : (b : Bool) → b ≡ false → b ≡ true → ⊥
differs b is_false is_true = cc

pub returns-else-first-end : goal.returns-else-first-end
returns-else-first-end c =
    let first : c.args.start.now.sp - c.from.result ≡ c.args.start.now.sp - c.args.frame.now.bytes = ap (λ (n : ℕ). c.args.start.now.sp - n) c.from.ensures in
    let same = lost_at c.args.frame.now (machine_start_of c.args.start.now) c.args.sp (map.get c.args.memory.now) _ _ c.requires first c.min-end.ensures in
    elim c.else-first-end.branch [
      | else-first-end-via-then-first-end+else-is_any_within w ↦
          nothing_lost (c.args.start.now.sp - c.from.result) c.min-end.result (map.get c.args.memory.now)
          (λ any. differs w.is_any_within.result w.if-is_any_within.false (w.is_any_within.ensures.1 any)) ∙ same
      | else-first-end-via-else-first-end w ↦
          nothing_between (c.args.start.now.sp - c.from.result) c.min-end.result (map.get c.args.memory.now) (omega (arith, w.if-first-end.false)) ∙ same
    ]
