use Rattle.std.proofs.Common.{◌∙◌, ap, length, sym}
use Rattle.stackmap.specs.Registers.{constraints_of}
use Rattle.stackmap.proofs.InOrder.{registers_count}
use Rattle.air_stackmap.proofs.site.push_site.Goals as goal

pub push_asked-requires-clause-children : goal.push_asked-requires-clause-children
push_asked-requires-clause-children c =
    c.requires.children ∙ sym (registers_count c.args.v.now 0 (constraints_of c.args.v.now)) ∙ ap length (sym (c.as_slice.ensures ∙ c.in_ok-registers.ensures))

pub push_moves-requires-clause-children : goal.push_moves-requires-clause-children
push_moves-requires-clause-children c =
    c.requires.children ∙ sym (registers_count c.args.v.now 0 (constraints_of c.args.v.now))
    ∙ ap length (sym (c.as_slice-2.ensures ∙ c.in_ok-registers.ensures))
