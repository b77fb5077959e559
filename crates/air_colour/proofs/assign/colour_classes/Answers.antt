use Rattle.std.proofs.Common.{◌≡◌, ℕ, ◌+◌, ◌<◌, length, slice_index_or, List, Some, arith, sym, subst}
use Rattle.air_colour.specs.Choosing.{Simplifies}
use Rattle.air_colour.specs.Kept.{given_in, graph_of}
use Rattle.air_colour.specs.Homes.{home_graph}
use Rattle.air_colour.specs.Progress.{moves_of}
use Rattle.air_colour.proofs.Whole.{started_state, started_kept, registers_apart, registers_start, order_below, whole}
use Rattle.air_colour.proofs.assign.colour_classes.Goals as goal

pub join_moves-requires : goal.join_moves-requires
join_moves-requires c = record {
  few = c.requires.few;
  state = started_state c.args.edges.now c.args.left.now c.args.fixed.now c.args.class.now c.args.given.now c.args.temporaries c.args.k c.requires.start
      c.requires.interference;
}

pub give_registers-requires-clause-apart : goal.give_registers-requires-clause-apart
give_registers-requires-clause-apart c =
    let kept0 = started_kept c.args.edges.now c.args.left.now c.args.fixed.now c.args.class.now c.args.given.now c.args.temporaries c.args.k c.requires.start
    c.requires.interference in
    let kept = (c.in_ok-joins.ensures.joined (home_graph c.args.edges.now c.args.temporaries c.args.k) c.requires.interference kept0).0 in
    let slice : c.as_slice.result.now ≡ c.join_moves.new.class = c.as_slice.ensures in
    subst (λ (l : List ℕ). (r s : ℕ) → r < c.args.k → s < c.args.k
    → slice_index_or l (c.args.temporaries + r) 0 ≡ slice_index_or l (c.args.temporaries + s) 0 → r ≡ s) (sym slice)
    (registers_apart c.args.edges.now c.args.left.now c.args.fixed.now c.args.class.now c.args.given.now c.args.temporaries c.args.k c.requires.start
    c.requires.interference
    c.join_moves.new.edges c.join_moves.new.left c.join_moves.new.class c.in_ok-joins.ensures.state kept
    (let a = c.in_ok-joins.ensures.state.classes in let b = c.requires.start.class_long in let d = c.requires.start.left_long in omega arith))

pub choose-requires-clause-below : goal.choose-requires-clause-below
choose-requires-clause-below c =
    let kept0 = started_kept c.args.edges.now c.args.left.now c.args.fixed.now c.args.class.now c.args.given.now c.args.temporaries c.args.k c.requires.start
    c.requires.interference in
    let kept = (c.in_ok-joins.ensures.joined (home_graph c.args.edges.now c.args.temporaries c.args.k) c.requires.interference kept0).0 in
    let simplifies : Simplifies c.args.k (graph_of c.join_moves.new.edges c.join_moves.new.left c.args.fixed.now) c.deref.result.now
    = subst (λ (l : List ℕ). Simplifies c.args.k (graph_of c.join_moves.new.edges c.join_moves.new.left c.args.fixed.now) l)
    (sym c.deref.ensures.value) c.in_ok-order.ensures in
    let given_long : length c.give_registers.new.given ≡ length c.join_moves.new.left = let a = c.requires.start.given_long in let b =
    c.requires.start.left_long in omega arith in
    let slice : c.as_slice.result.now ≡ c.join_moves.new.class = c.as_slice.ensures in
    let own = subst (λ (l : List ℕ). (r : ℕ) → r < c.args.k → given_in c.give_registers.new.given (slice_index_or l (c.args.temporaries + r) 0) ≡ Some r)
    slice c.give_registers.ensures.own in
    let only = subst (λ (l : List ℕ). (x r : ℕ) → given_in c.give_registers.new.given x ≡ Some r → (r < c.args.k)
    × (slice_index_or l (c.args.temporaries + r) 0 ≡ x)) slice c.give_registers.ensures.only in
    λ i lt.
    let below = order_below c.args.edges.now c.args.left.now c.args.fixed.now c.args.class.now c.args.given.now c.args.temporaries c.args.k c.requires.start
    c.requires.interference
    c.join_moves.new.edges c.join_moves.new.left c.join_moves.new.class c.in_ok-joins.ensures.state kept
    (let a = c.in_ok-joins.ensures.state.classes in let b = c.requires.start.class_long in let d = c.requires.start.left_long in omega arith)
    c.give_registers.new.given c.give_registers.new.given c.deref.result.now own only simplifies i lt in
    omega arith

pub returns-clause-coloured : goal.returns-clause-coloured
returns-clause-coloured c =
    let g = home_graph c.args.edges.now c.args.temporaries c.args.k in
    let kept0 = started_kept c.args.edges.now c.args.left.now c.args.fixed.now c.args.class.now c.args.given.now c.args.temporaries c.args.k c.requires.start
    c.requires.interference in
    let joined = c.in_ok-joins.ensures.joined (home_graph c.args.edges.now c.args.temporaries c.args.k) c.requires.interference kept0 in
    let long : length c.join_moves.new.class ≡ length c.args.class.now =
    let a = c.in_ok-joins.ensures.state.classes in let b = c.requires.start.class_long in let d = c.requires.start.left_long in omega arith in
    let slice : c.as_slice.result.now ≡ c.join_moves.new.class = c.as_slice.ensures in
    let own = subst (λ (l : List ℕ). (r : ℕ) → r < c.args.k → given_in c.give_registers.new.given (slice_index_or l (c.args.temporaries + r) 0) ≡ Some r)
    slice c.give_registers.ensures.own in
    let only = subst (λ (l : List ℕ). (x r : ℕ) → given_in c.give_registers.new.given x ≡ Some r → (r < c.args.k)
    × (slice_index_or l (c.args.temporaries + r) 0 ≡ x)) slice c.give_registers.ensures.only in
    let simplifies : Simplifies c.args.k (graph_of c.join_moves.new.edges c.join_moves.new.left c.args.fixed.now) c.deref.result.now
    = subst (λ (l : List ℕ). Simplifies c.args.k (graph_of c.join_moves.new.edges c.join_moves.new.left c.args.fixed.now) l)
    (sym c.deref.ensures.value) c.in_ok-order.ensures in
    let given_long : length c.join_moves.new.left ≡ length c.give_registers.new.given = let a = c.requires.start.given_long in let b =
    c.requires.start.left_long in omega arith in
    let begun = registers_start c.args.edges.now c.args.left.now c.args.fixed.now c.args.class.now c.args.given.now c.args.temporaries c.args.k
    c.requires.start c.requires.interference
    c.join_moves.new.edges c.join_moves.new.left c.join_moves.new.class c.in_ok-joins.ensures.state joined.0 long
    c.give_registers.new.given c.choose.new.given c.deref.result.now own only simplifies in
    let chosen = c.in_ok-choose.ensures.chosen c.join_moves.new.left c.args.fixed.now given_long simplifies begun in
    whole c.args.edges.now c.args.left.now c.args.fixed.now c.args.class.now c.args.given.now c.args.temporaries c.args.k c.requires.start
    c.requires.interference
    c.join_moves.new.edges c.join_moves.new.left c.join_moves.new.class c.in_ok-joins.ensures.state joined.0 long
    c.give_registers.new.given c.choose.new.given c.deref.result.now own only simplifies
    (moves_of c.args.moves.now) c.in_ok-joins.joins.items joined.1 joined.2 chosen c.in_ok-choose.ensures.others
