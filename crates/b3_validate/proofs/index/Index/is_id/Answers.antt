use Rattle.std.proofs.Common.{sym, subst}
use Rattle.std.specs.Prelude.{◌↔◌, Bool, IsTrue}
use Rattle.b3_rules.specs.Rules.{IsId}
use Rattle.b3_validate.proofs.Entries.{id_is}
use Rattle.b3_validate.proofs.index.Index.is_id.Goals as goal

pub returns : goal.returns
returns c p is = let P : Bool → Type 0 = λ t. IsTrue t ↔ IsId p.procedure c.args.id in subst P (sym c.is_some.ensures) (id_is p c.args.id c.named.result (c.named.ensures p is))
