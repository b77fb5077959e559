use Rattle.std.proofs.Common.{◌≡◌, ℕ, ◌-◌, Option, Some, None, ap, ◌∙◌}
use Rattle.std.proofs.lemmas.Option.{IfSome_then}
use Rattle.std.specs.Prelude.{IfSome, SomeIff, slice_index_or}
use Rattle.b3_uses.specs.Lists.{list_at}
use Rattle.b3_uses.proofs.Passing.{only_source_is}
use Rattle.b3_uses.proofs.origins.Origins.only_source.Goals as goal

value_is : (r : Option ℕ) (P : Type 0) (x : ℕ) → SomeIff r P x → IfSome r (λ y. y ≡ x)
value_is None P x is = tt
value_is (Some y) P x is = is.1

pub returns-clause-only : goal.returns-clause-only
returns-clause-only c =
    let lists = c.args.self.now.sources in
    let list = c.list-sources.result.now in
    IfSome_then c.checked_sub.result (value_is c.checked_sub.result _ (c.len-last.result - 1 - slice_index_or list 0 0) c.checked_sub.ensures)
    (λ source is p are. only_source_is p c.args.self.now c.args.block source list are c.requires c.if-block-eq0.false
    (c.list-sources.ensures ∙ ap (λ (n : ℕ). list_at lists (n - 1 - c.args.block)) c.len-last.ensures) c.if-count-ne1.false
    (is ∙ ap (λ (n : ℕ). n - 1 - slice_index_or list 0 0) c.len-last.ensures))
