use Rattle.std.proofs.Common.{◌≡◌, ◌<◌, ℕ, length, length-set, slice_index_or, false, Bool, List, arith, sym, ◌∙◌, subst, ap}
use Rattle.std.proofs.lemmas.Bool.{false≢true}
use Rattle.air_colour.specs.Interference.{count}
use Rattle.air_colour.specs.Joining.{MayJoin}
use Rattle.air_colour.specs.Kept.{graph_of}
use Rattle.air_colour.specs.Classes.{MayJoinMove, after_move}
use Rattle.air_colour.specs.Progress.{class_in, IsState, IsKept}
use Rattle.air_colour.proofs.KeptGraph.{fewer_left}
use Rattle.air_colour.proofs.Moving.{goes_in, join_state, move_kept, move_joined, stays_in}
use Rattle.air_colour.proofs.moves.join_move.Goals as goal

pub returns-then-not-may_join-clause-not_joined : goal.returns-then-not-may_join-clause-not_joined
returns-then-not-may_join-clause-not_joined c = λ _ g is kept may.
    let slice : c.as_slice-homes.result.now ≡ c.args.class.now = c.as_slice-homes.ensures in
    let long : length c.as_slice-homes.result.now ≡ length c.args.class.now = ap length slice in
    let stays : c.sides-a.result.0 ≡ stays_in c.args.fixed.now c.args.class.now c.args.m =
    subst (λ (l : List ℕ). c.sides-a.result.0 ≡ stays_in c.args.fixed.now l c.args.m) slice c.sides-a.ensures.stays in
    let goes : c.sides-a.result.1 ≡ goes_in c.args.fixed.now c.args.class.now c.args.m =
    subst (λ (l : List ℕ). c.sides-a.result.1 ≡ goes_in c.args.fixed.now l c.args.m) slice c.sides-a.ensures.goes in
    let lf : c.args.m.from < length c.args.class.now = omega arith in
    let lt : c.args.m.to < length c.args.class.now = omega arith in
    let t = c.may_join.ensures.1 (move_kept g c.args.edges.now c.args.left.now c.args.fixed.now c.args.class.now c.args.m c.requires.state kept lf lt c.args.k
    c.sides-a.result.0 c.sides-a.result.1 stays goes may) in
    false≢true (sym c.if-not-may_join.true ∙ t)

pub merge-requires-clause-differ : goal.merge-requires-clause-differ
merge-requires-clause-differ c e =
    let may : MayJoin c.args.k
    (graph_of c.args.edges.now c.args.left.now c.args.fixed.now) c.sides-a.result.0 c.sides-a.result.1 = c.may_join.ensures.0 c.if-not-may_join.false in
    may.differ e

pub returns-clause-state : goal.returns-clause-state
returns-clause-state c =
    let may : MayJoin c.args.k
    (graph_of c.args.edges.now c.args.left.now c.args.fixed.now) c.sides-a.result.0 c.sides-a.result.1 = c.may_join.ensures.0 c.if-not-may_join.false in
    subst (λ (l : List Bool). IsState c.join.new.edges l c.args.fixed.now c.merge.new.self) (sym c.in_ok-near.ensures.left)
    (join_state c.args.edges.now c.join.new.edges c.args.left.now c.args.fixed.now c.args.class.now c.merge.new.self c.sides-a.result.0 c.sides-a.result.1
    c.requires.state may.into.0 may.from.0 c.join.ensures.room c.in_ok-near.ensures.meets c.in_ok-merge.ensures.merged c.merge.ensures.long)

pub returns-clause-fewer : goal.returns-clause-fewer
returns-clause-fewer c =
    let may : MayJoin c.args.k
    (graph_of c.args.edges.now c.args.left.now c.args.fixed.now) c.sides-a.result.0 c.sides-a.result.1 = c.may_join.ensures.0 c.if-not-may_join.false in
    λ _. subst (λ (l : List Bool). count (λ x. slice_index_or l x false) (length l) < count (λ x. slice_index_or c.args.left.now x false)
    (length c.args.left.now)) (sym c.in_ok-near.ensures.left)
    (fewer_left c.args.left.now c.sides-a.result.1 may.from.0 may.from.1)

pub returns-clause-joined : goal.returns-clause-joined
returns-clause-joined c = λ _ g is kept.
    let slice : c.as_slice-homes.result.now ≡ c.args.class.now = c.as_slice-homes.ensures in
    let long : length c.as_slice-homes.result.now ≡ length c.args.class.now = ap length slice in
    let stays : c.sides-a.result.0 ≡ stays_in c.args.fixed.now c.args.class.now c.args.m =
    subst (λ (l : List ℕ). c.sides-a.result.0 ≡ stays_in c.args.fixed.now l c.args.m) slice c.sides-a.ensures.stays in
    let goes : c.sides-a.result.1 ≡ goes_in c.args.fixed.now c.args.class.now c.args.m =
    subst (λ (l : List ℕ). c.sides-a.result.1 ≡ goes_in c.args.fixed.now l c.args.m) slice c.sides-a.ensures.goes in
    let lf : c.args.m.from < length c.args.class.now = omega arith in
    let lt : c.args.m.to < length c.args.class.now = omega arith in
    let may : MayJoin c.args.k
    (graph_of c.args.edges.now c.args.left.now c.args.fixed.now) c.sides-a.result.0 c.sides-a.result.1 = c.may_join.ensures.0 c.if-not-may_join.false in
    subst (λ (l : List Bool). MayJoinMove c.args.k g (class_in c.args.class.now) c.args.m × IsKept g c.join.new.edges l c.args.fixed.now c.merge.new.self
    × (class_in c.merge.new.self ≡ after_move g (class_in c.args.class.now) c.args.m)) (sym c.in_ok-near.ensures.left)
    (move_joined c.args.k g c.args.edges.now c.join.new.edges c.args.left.now c.args.fixed.now c.args.class.now c.merge.new.self c.args.m c.sides-a.result.0
    c.sides-a.result.1
    is c.requires.state kept lf lt stays goes may c.join.ensures.room c.in_ok-near.ensures.meets c.in_ok-merge.ensures.merged
    c.merge.ensures.long)

pub note_join-requires-clause-below : goal.note_join-requires-clause-below
note_join-requires-clause-below c x i =
    let lt = c.in_ok-near.ensures.below x i in
    subst (λ (l : List Bool). x < length l) (sym c.in_ok-near.ensures.left)
    (let same = length-set c.args.left.now c.sides-a.result.1 false in omega (arith, lt, same))
