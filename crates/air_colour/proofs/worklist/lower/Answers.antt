use Rattle.std.proofs.Common.{◌≡◌, ℕ, ◌-◌, ◌<◌, List, [], ◌∷◌, ◌++◌, length, length-set, take, get_or, arith, sym, ap, ◌∙◌, subst}
use Rattle.std.specs.Prelude.{Contains, slice_set}
use Rattle.std.proofs.Math.Seq.{take-length}
use Rattle.std.proofs.lemmas.Bool.{false≢true}
use Rattle.std.proofs.lemmas.List.Elements.{Contains-append_left, Contains-get_or}
use Rattle.b3_base.proofs.Booleans.{same_tests}
use Rattle.air_graph.specs.Walk.{in_list}
use Rattle.air_graph.proofs.Adding.{listed}
use Rattle.air_colour.specs.Interference.{one}
use Rattle.air_colour.specs.Kept.{has}
use Rattle.air_colour.specs.Worklist.{degree_in}
use Rattle.air_colour.proofs.Working.{left_fresh, left_only, lower_step, now_same, pushed_fresh, pushed_only}
use Rattle.air_colour.proofs.worklist.lower.Goals as goal
use Rattle.air_colour.proofs.worklist.lower.Goals.{then-opens+in_ok-push, else-opens}

pub bounds-degrees-x : goal.bounds-degrees-x
bounds-degrees-x c =
    let lt = c.near-near.ensures.below (get_or c.near-near.result.now c.loop-y.y-index 0)
    (Contains-get_or c.near-near.result.now c.loop-y.y-index 0 c.loop-y-test.true) in
    omega (arith, lt, c.requires.room.names, c.loop-y.invariant.long)

pub overflow_sub-degree : goal.overflow_sub-degree
overflow_sub-degree c =
    let x : ℕ = get_or c.near-near.result.now c.loop-y.y-index 0 in
    let there = Contains-get_or c.near-near.result.now c.loop-y.y-index 0 c.loop-y-test.true in
    let lt : x < length c.args.degrees.now = let l = c.near-near.ensures.below x there in omega (arith, l, c.requires.room.names) in
    let some = c.requires.some x lt ((c.near-near.ensures.is.all x).0 there) in
    let same = now_same c.near-near.result.now c.loop-y.degrees c.args.degrees.now c.loop-y.y-index c.near-near.ensures.is.once c.loop-y-test.true
    c.loop-y.invariant.lower in
    omega (arith, some, same)

pub loop-y-preserved : goal.loop-y-preserved
loop-y-preserved c =
    let near : List ℕ = c.near-near.result.now in
    let i : ℕ = c.loop-y.y-index in
    let x : ℕ = get_or near i 0 in
    let now : List ℕ = c.loop-y.degrees in
    let init : List ℕ = c.args.degrees.now in
    let low : List ℕ = c.loop-y.low.items in
    let there = Contains-get_or near i 0 c.loop-y-test.true in
    let below : x < length init = let l = c.near-near.ensures.below x there in omega (arith, l, c.requires.room.names) in
    let inside : x < length now = omega (arith, below, c.loop-y.invariant.long) in
    let some = c.requires.some x below ((c.near-near.ensures.is.all x).0 there) in
    let once = c.near-near.ensures.is.once in
    let lower = lower_step near now init i once c.loop-y-test.true c.loop-y.invariant.lower inside some in
    let long : length (slice_set now x (degree_in now x - 1)) ≡ length init = length-set now x (degree_in now x - 1) ∙ c.loop-y.invariant.long in
    elim c.if-opens.branch [
      | then-opens+in_ok-push w ↦
          let e : c.if-opens.low.items ≡ low ++ x ∷ [] = ap (λ v. v.items) w.low-is ∙ w.in_ok-push.ensures.items in
          let q = c.opens.ensures.0 w.if-opens.true in
          record {
            long = long;
            lower = lower;
            kept = λ z j. subst (λ (l : List ℕ). Contains l z) (sym e) (Contains-append_left low (x ∷ []) z (c.loop-y.invariant.kept z j));
            fresh = pushed_fresh near now init i once c.loop-y-test.true c.loop-y.invariant.lower inside some c.args.k (length init) c.args.fixed.now
                c.args.low.now.items low c.if-opens.low.items below c.loop-y.invariant.fresh c.loop-y.invariant.only e;
            only = pushed_only near now init i once c.loop-y-test.true c.loop-y.invariant.lower inside some c.args.k (length init) c.args.fixed.now
                c.args.low.now.items low c.if-opens.low.items below c.loop-y.invariant.fresh c.loop-y.invariant.only e q.0 q.1;
          }
      | else-opens w ↦
          let e : c.if-opens.low.items ≡ low = ap (λ v. v.items) w.low-is in
          record {
            long = long;
            lower = lower;
            kept = λ z j. subst (λ (l : List ℕ). Contains l z) (sym e) (c.loop-y.invariant.kept z j);
            fresh = left_fresh near now init i once c.loop-y-test.true c.loop-y.invariant.lower inside some c.args.k (length init) c.args.fixed.now
                c.args.low.now.items low c.if-opens.low.items below c.loop-y.invariant.fresh c.loop-y.invariant.only e
                (λ q. false≢true (sym w.if-opens.false ∙ c.opens.ensures.1 q));
            only = left_only near now init i once c.loop-y-test.true c.loop-y.invariant.lower inside some c.args.k (length init) c.args.fixed.now
                c.args.low.now.items low c.if-opens.low.items below c.loop-y.invariant.fresh c.loop-y.invariant.only e;
          }
    ]

pub returns-clause-lower : goal.returns-clause-lower
returns-clause-lower c x =
    let near : List ℕ = c.near-near.result.now in
    let end : c.loop-y.y-index ≡ length near = omega (arith, c.loop-y-test.false, c.loop-y.auto.y-index-end) in
    let all : take c.loop-y.y-index near ≡ near = ap (λ (k : ℕ). take k near) end ∙ take-length near in
    let same : in_list near x ≡ has c.args.edges.now c.args.a x =
    same_tests (in_list near x) (has c.args.edges.now c.args.a x)
    (λ t. (c.near-near.ensures.is.all x).0 ((listed near x).0 t)) (λ t. (listed near x).1 ((c.near-near.ensures.is.all x).1 t)) in
    let o : one (in_list (take c.loop-y.y-index near) x) ≡ one (has c.args.edges.now c.args.a x) = ap (λ (l : List ℕ). one (in_list l x)) all ∙ ap one same in
    let e = c.loop-y.invariant.lower x in
    omega (arith, e, o)

pub bounds-degrees-x-in-loop-y : goal.bounds-degrees-x-in-loop-y
bounds-degrees-x-in-loop-y c =
    let lt = c.near-near.ensures.below (get_or c.near-near.result.now c.loop-y.y-index 0)
    (Contains-get_or c.near-near.result.now c.loop-y.y-index 0 c.loop-y-test.true) in
    omega (arith, lt, c.requires.room.names, c.loop-y.invariant.long)

pub opens-requires : goal.opens-requires
opens-requires c =
    let lt = c.near-near.ensures.below (get_or c.near-near.result.now c.loop-y.y-index 0)
    (Contains-get_or c.near-near.result.now c.loop-y.y-index 0 c.loop-y-test.true) in
    record { x = omega (arith, lt, c.requires.room.names, c.requires.room.same) }
