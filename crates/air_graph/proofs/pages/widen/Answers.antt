use Rattle.std.proofs.Common.{◌∙◌, ap}
use Rattle.air_graph.proofs.Paged.{widened}
use Rattle.air_graph.proofs.pages.widen.Goals as goal

pub loop-words-preserved : goal.loop-words-preserved
loop-words-preserved c q = widened c.loop-words.words.items c.push.new.self.items q c.in_ok-push.ensures.items ∙ c.loop-words.invariant q
