use Rattle.std.proofs.Common.{◌≡◌, List, Bool, map, subst, ap, ◌∙◌}
use Rattle.std.specs.Prelude.{IfOk}
use Rattle.air_fold.specs.Foldable.{is_folded_by, pointers, uses}
use Rattle.air_fold.specs.Values.{ids_of, index_of}
use Rattle.air_fold.proofs.uses.folded_values.Goals as goal

pub returns : goal.returns
returns c =
    let p = c.args.p.now.procedure in
    let mark : List Bool → List Bool = λ f. map (is_folded_by (index_of p) f (uses p)) (ids_of p) in
    let is : c.in_ok-pointers.pointers ≡ pointers p = c.in_ok-pointers.ensures ∙ ap mark c.new-none.ensures in
    subst (λ (f : List Bool). IfOk c.folded_by-2.result (λ folds. folds ≡ mark f)) is c.folded_by-2.ensures
