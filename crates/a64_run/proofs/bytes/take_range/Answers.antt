-- One more byte is taken over.
use Rattle.std.proofs.Common.{◌+◌, ◌∙◌, ap}
use Rattle.std.specs.FinMap as map
use Rattle.b3_base.specs.Observed.{Memory}
use Rattle.a64_run.specs.Taking.{with_range}
use Rattle.a64_run.proofs.Taking.{take_more, take_nothing}
use Rattle.a64_run.proofs.bytes.take_range.Goals as goal

pub loop-i-init : goal.loop-i-init
loop-i-init c = take_nothing (map.get c.args.into.now) (map.get c.args.from.now) c.args.first

pub loop-i-preserved : goal.loop-i-preserved
loop-i-preserved c =
    c.in_ok-take_over.ensures
    ∙ ap (λ (m : Memory). with_range m (map.get c.args.from.now) (c.args.first + c.loop-i.i) 1) c.loop-i.invariant
    ∙ take_more (map.get c.args.into.now) (map.get c.args.from.now) c.args.first c.loop-i.i
