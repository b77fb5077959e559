use Rattle.std.proofs.Common.{◌≡◌, true, rules}
use Rattle.b3_validate.specs.Index.{IsNamedAt}
use Rattle.b3_validate.proofs.Entries.{new_id_from_node, node_from_new_id, not_none}
use Rattle.b3_validate.proofs.index.Index.has_new_id.Goals as goal

pub returns-in-Some : goal.returns-in-Some
returns-in-Some c p b j v is whole at there own =
    let named : IsNamedAt p c.args.id c.in-Some.first = rw c.in-Some.is at (c.named.ensures p is) in
    let same : (c.eq.result ≡ true → c.in-Some.first.node ≡ c.args.node) × (c.in-Some.first.node ≡ c.args.node → c.eq.result ≡ true) = search rules in (
      λ yes. new_id_from_node p b j v c.args.id c.args.node c.in-Some.first whole named at own (same.0 yes),
      λ new. same.1 (node_from_new_id p b j v c.args.id c.args.node c.in-Some.first named at there own new),
    )

pub returns-in-None : goal.returns-in-None
returns-in-None c p b j v is whole at there own = absurd (not_none p b j v c.args.id (rw c.in-None.is at (c.named.ensures p is)) there own)
