use Rattle.std.proofs.Common.{ℕ, ◌++◌, List, sym, ◌∙◌, ap}
use Rattle.air_colour.proofs.Members.{all_merged, going_below, list_of, members_merged, members_same}
use Rattle.air_colour.proofs.classes.move_members.Goals as goal

pub returns-in_err-extend_at-clause-members : goal.returns-in_err-extend_at-clause-members
returns-in_err-extend_at-clause-members c =
    members_same c.args.class.now c.args.members.now c.extend_at.new.lists c.args.a c.extend_at.ensures.long c.extend_at.ensures.others
    c.in_err-extend_at.ensures.err c.requires.members

pub relabel_all-requires : goal.relabel_all-requires
relabel_all-requires c =
    going_below c.args.class.now c.args.members.now c.args.a c.args.b c.as_slice-2.result.now c.requires.members c.requires.b
    (c.as_slice-2.ensures ∙ c.in_ok-going.ensures)

pub returns-clause-members : goal.returns-clause-members
returns-clause-members c =
    members_merged c.args.class.now c.args.members.now c.args.a c.args.b c.as_slice-2.result.now c.requires.members c.requires.b
    (c.as_slice-2.ensures ∙ c.in_ok-going.ensures) c.relabel_all.new.class c.relabel_all.ensures.those c.relabel_all.ensures.either
    c.extend_at.new.lists c.empty_at.new.lists c.requires.differ c.relabel_all.ensures.long c.extend_at.ensures.long c.extend_at.ensures.others
    (c.in_ok-extend_at.ensures.ok ∙ ap (λ (l : List ℕ). list_of c.args.members.now c.args.a ++ l) (c.as_slice.ensures ∙ sym c.as_slice-2.ensures))
    c.empty_at.ensures.long c.empty_at.ensures.others c.empty_at.ensures.empty

pub returns-clause-merged : goal.returns-clause-merged
returns-clause-merged c =
    all_merged c.args.class.now c.args.members.now c.args.a c.args.b c.as_slice-2.result.now c.requires.members c.requires.b
    (c.as_slice-2.ensures ∙ c.in_ok-going.ensures) c.relabel_all.new.class c.relabel_all.ensures.those c.relabel_all.ensures.either
