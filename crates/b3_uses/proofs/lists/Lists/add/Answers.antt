use Rattle.std.proofs.Common.{ℕ, List}
use Rattle.std.proofs.lemmas.Result.{on_ok_weaker}
use Rattle.b3_uses.proofs.Adding.{put_in}
use Rattle.b3_uses.proofs.lists.Lists.add.Goals as goal

pub returns-clause-added : goal.returns-clause-added
returns-clause-added c =
    let lists : List (List ℕ) = c.self.inside.lists.items in
    on_ok_weaker c.push.result (λ pushed. put_in c.args.self.now lists c.index_mut.result.now c.push.new.self c.args.at c.args.number c.self.view_is c.requires
    c.index_mut.ensures.value pushed) c.push.ensures.ok
