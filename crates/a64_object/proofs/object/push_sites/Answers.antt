use Rattle.std.proofs.Common.{Some, ap, sym, ◌∙◌}
use Rattle.a64_object.proofs.SiteLists.{rows_more}
use Rattle.a64_object.proofs.object.push_sites.Goals as goal

pub loop-k-preserved : goal.loop-k-preserved
loop-k-preserved c =
    rows_more c.args.first c.args.rows.now c.args.marks.now c.args.sites.now c.loop-k.k c.get.result.now c.in_ok-copied.field-0 c.loop-k.rows c.push.new.self
    c.requires.each c.get.ensures (c.get-in-loop-k.ensures ∙ ap (λ site. Some site) (sym c.in_ok-copied.ensures)) c.loop-k.invariant c.in_ok-push.ensures.ok
