use Rattle.std.proofs.Common.{◌≡◌, ℕ, Option, List, map, take, ◌++◌, refl, sym, ap, ◌∙◌, subst}
use Rattle.std.specs.Prelude.{All, IfSome, ◌<◌}
use Rattle.air_graph.specs.declared.interference.Interference.{Interference}
use Rattle.air_graph.specs.declared.moves.Copied.{Copied}
use Rattle.air_colour.specs.Assigned.{as_register, colours, graph_in, move_of}
use Rattle.air_colour.specs.Colouring.{IsColouring}
use Rattle.air_colour.specs.Homes.{register_of}
use Rattle.air_colour.specs.Kept.{given_in}
use Rattle.air_colour.specs.Progress.{moves_of}
use Rattle.air_colour.specs.declared.moves.Move.{Move}
use Rattle.air_colour.proofs.Assigned.{assigned, few_given, proper}
use Rattle.air_colour.proofs.Given.{given_interference}
use Rattle.air_colour.proofs.colouring.colour.Goals as goal

pub colour_homes-requires-clause-interference : goal.colour_homes-requires-clause-interference
colour_homes-requires-clause-interference c = given_interference c.args.graph.edges c.args.graph.tmps c.args.graph.registers

pub registers_of-requires : goal.registers_of-requires
registers_of-requires c =
    subst (λ (l : List (Option ℕ)). All (λ g. IfSome g (λ k. k < 25)) (take c.args.graph.tmps l)) (sym c.deref.ensures.value)
    (few_given c.in_ok-colouring.colouring.given.items c.args.graph.tmps c.in_ok-colouring.ensures.long
    (λ u r lt e. c.in_ok-colouring.ensures.coloured.below u r (lt, refl) e))

pub returns-clause-coloured : goal.returns-clause-coloured
returns-clause-coloured c =
    let g : Interference = c.args.graph in
    let given : List (Option ℕ) = c.in_ok-colouring.colouring.given.items in
    let joins : List ℕ = c.in_ok-colouring.colouring.joins.items in
    let moves : c.as_slice-2.result.now ≡ map (move_of g.tmps) g.moves =
    c.as_slice-2.ensures ∙ c.in_ok-moves.ensures ∙ ap (λ (l : List Copied). map (move_of g.tmps) l) c.as_slice.ensures in
    assigned g given joins c.in_ok-colouring.ensures.long
    (subst (λ (l : List Move). IsColouring colours (graph_in g) (register_of g.tmps) (moves_of l) joins
    (given_in given)) moves c.in_ok-colouring.ensures.coloured)
    _ (c.in_ok-homes.ensures ∙ ap (λ (l : List (Option ℕ)). map as_register (take g.tmps l)) c.deref.ensures.value)
    (c.in_ok-extend.ensures.ok ∙ ap (λ (l : List ℕ). l ++ c.deref-2.result.now) c.new-joins.ensures ∙ c.deref-2.ensures.value)

pub returns-clause-proper : goal.returns-clause-proper
returns-clause-proper c p of = proper c.args.graph _ (returns-clause-coloured c) p of
