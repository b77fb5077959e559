use Rattle.std.proofs.Common.{length, arith}
use Rattle.std.proofs.lemmas.Result.{on_ok_weaker}
use Rattle.b3_uses.proofs.Adding.{successor_put}
use Rattle.b3_uses.proofs.origins.Origins.add_successor.Goals as goal

pub returns-clause-sources : goal.returns-clause-sources
returns-clause-sources c =
    on_ok_weaker c.add.result (λ added. successor_put c.len-last.result
    (length c.args.self.now.sources) c.args.block c.args.next c.args.self.now.sources c.add.new.self
    c.len-last.ensures c.requires (λ lt. omega (arith, c.if-next-last.false)) added) c.add.ensures.added
