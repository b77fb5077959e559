use Rattle.std.proofs.Common.{◌≡◌, ℕ, ◌<◌, ◌≤◌, ◌⊎◌, length, List, [], ◌∷◌, ◌++◌, sym, ◌∙◌, subst, ap, arith, append_assoc, append-nil, drop, length-set, take, take_at}
use Rattle.std.specs.Prelude.{Contains, false, slice_set}
use Rattle.air_colour.specs.Interference.{Graph, take_away}
use Rattle.air_colour.specs.Choosing.{IsNext, Simplifies}
use Rattle.air_colour.specs.Kept.{graph_of, HasRoom}
use Rattle.air_colour.specs.Worklist.{AreDegrees, AreLow, HasLow, IsLow, degree_in}
use Rattle.air_colour.proofs.KeptGraph.{graph_taken, fewer_left}
use Rattle.air_colour.proofs.Working.{emptied_of, lowered, next_of, some_left, still_all, still_low, still_passed}
use Rattle.air_colour.proofs.simplify.simplify.Goals as goal

pub loop-a-init : goal.loop-a-init
loop-a-init c = record {
  room = c.requires.room;
  so_far = λ rest s. subst (λ (l : List ℕ). Simplifies c.args.k (graph_of c.args.edges.now c.args.left.now c.args.fixed.now) (l ++ rest))
      (sym c.new-order.ensures.items) s;
  degrees = c.in_ok-degrees.ensures;
  low = subst (λ (l : List ℕ). AreLow c.args.k (length c.args.left.now) c.args.fixed.now l c.in_ok-low.low.items) c.deref.ensures.value c.in_ok-low.ensures.low;
  has = subst (λ (l : List ℕ). HasLow c.args.k c.args.left.now c.args.fixed.now l c.in_ok-low.low.items (λ x. ⊥)) c.deref.ensures.value
      (λ x _ is _. c.in_ok-low.ensures.all x is);
  passed = λ x lt. absurd (omega (arith, lt));
}

pub lower-requires-clause-some : goal.lower-requires-clause-some
lower-requires-clause-some c x lx t =
    let is = c.in-Some.ensures.is in
    let lent : c.deref_mut.result.now ≡ c.loop-a.degrees.items = c.deref_mut.ensures.value in
    let long : length c.deref_mut.result.now ≡ length c.loop-a.degrees.items = ap (λ (l : List ℕ). length l) lent in
    let d = c.loop-a.invariant.degrees.long in
    subst (λ (l : List ℕ). 0 < degree_in l x) (sym lent)
    (some_left c.args.k c.args.edges.now c.loop-a.left c.args.fixed.now c.loop-a.degrees.items c.loop-a.invariant.degrees c.in-Some.a is.0 is.1 x
    (omega (arith, lx, long, d)) t)

pub loop-a-smaller : goal.loop-a-smaller
loop-a-smaller c = let is = c.in-Some.ensures.is in fewer_left c.loop-a.left c.in-Some.a is.0 is.1

pub loop-a-preserved : goal.loop-a-preserved
loop-a-preserved c =
    let a : ℕ = c.in-Some.a in
    let is = c.in-Some.ensures.is in
    let degrees : List ℕ = c.loop-a.degrees.items in
    let degrees' : List ℕ = c.lower.new.degrees in
    let d : AreDegrees c.args.edges.now c.loop-a.left degrees = c.loop-a.invariant.degrees in
    let lent : c.deref_mut.result.now ≡ degrees = c.deref_mut.ensures.value in
    let long : length degrees' ≡ length degrees = c.lower.ensures.long ∙ ap (λ (l : List ℕ). length l) lent in
    let lower = λ (x : ℕ). (c.in_ok-lower.ensures.lower x ∙ ap (λ (l : List ℕ). degree_in l x) lent) in
    let back : take c.loop-a.degrees.len (degrees' ++ drop (length degrees') degrees) ≡ degrees' =
    take_at degrees' (drop (length degrees') degrees) c.loop-a.degrees.len (omega arith) in
    let next : IsNext c.args.k (graph_of c.args.edges.now c.loop-a.left c.args.fixed.now) a =
    next_of c.args.k c.args.edges.now c.loop-a.left c.args.fixed.now degrees d c.loop-a.low.items c.loop-a.invariant.low c.loop-a.invariant.has
    a is.0 is.1 is.2 c.in-Some.ensures.either in
    let same_length = length-set c.loop-a.left a false in
    let room : HasRoom c.args.edges.now (length c.loop-a.left) (length c.args.fixed.now) = c.loop-a.invariant.room in
    let items : c.push.new.self.items ≡ c.loop-a.order.items ++ a ∷ [] = c.in_ok-push.ensures.items in
    let n : length c.deref_mut.result.now ≡ length c.loop-a.left = ap (λ (l : List ℕ). length l) lent ∙ d.long in
    let fresh = subst (λ (m : ℕ). (x : ℕ) → IsLow c.args.k m c.args.fixed.now degrees' x → c.args.k ≤ degree_in c.deref_mut.result.now x
    → Contains c.lower.new.low.items x) n c.in_ok-lower.ensures.fresh in
    let only = subst (λ (m : ℕ). (x : ℕ) → Contains c.lower.new.low.items x → Contains c.pick.new.low.items x
    ⊎ IsLow c.args.k m c.args.fixed.now degrees' x) n c.in_ok-lower.ensures.only in
    let fresh' = subst (λ (l : List ℕ). (x : ℕ) → IsLow c.args.k (length c.loop-a.left) c.args.fixed.now degrees' x → c.args.k ≤ degree_in l x
    → Contains c.lower.new.low.items x) lent fresh in
    record {
      room = rw same_length room;
      so_far = λ rest s.
          let after : Simplifies c.args.k (take_away (graph_of c.args.edges.now c.loop-a.left c.args.fixed.now) a) rest
          = subst (λ (g : Graph). Simplifies c.args.k g rest) (graph_taken c.args.edges.now c.loop-a.left c.args.fixed.now a is.0) s in
          let whole = c.loop-a.invariant.so_far (a ∷ rest) (next, after) in
          subst (λ (l : List ℕ). Simplifies c.args.k (graph_of c.args.edges.now c.args.left.now c.args.fixed.now) l)
          (sym (append_assoc c.loop-a.order.items (a ∷ []) rest) ∙ sym (ap (λ (l : List ℕ). l ++ rest) items))
          whole;
      degrees = subst (λ (l : List ℕ). AreDegrees c.args.edges.now (slice_set c.loop-a.left a false) l) (sym back)
          (lowered c.args.k c.args.edges.now c.loop-a.left c.args.fixed.now degrees d a is.0 is.1 degrees' long lower);
      low = subst (λ (l : List ℕ). AreLow c.args.k (length (slice_set c.loop-a.left a false)) c.args.fixed.now l c.lower.new.low.items) (sym back)
          (still_low c.args.k c.args.edges.now c.loop-a.left c.args.fixed.now degrees d a is.0 is.1 degrees' long lower
          c.loop-a.low.items c.pick.new.low.items c.lower.new.low.items c.loop-a.invariant.low c.loop-a.invariant.has
          c.in-Some.ensures.kept c.in-Some.ensures.rest c.in_ok-lower.ensures.kept fresh' only);
      has = subst (λ (l : List ℕ). HasLow c.args.k (slice_set c.loop-a.left a false) c.args.fixed.now l c.lower.new.low.items (λ x. ⊥)) (sym back)
          (still_all c.args.k c.args.edges.now c.loop-a.left c.args.fixed.now degrees d a is.0 is.1 degrees' long lower
          c.loop-a.low.items c.pick.new.low.items c.lower.new.low.items c.loop-a.invariant.low c.loop-a.invariant.has
          c.in-Some.ensures.kept c.in-Some.ensures.rest c.in_ok-lower.ensures.kept fresh' only);
      passed = still_passed c.args.k c.args.edges.now c.loop-a.left c.args.fixed.now degrees d a is.0 is.1 c.pick.new.high c.in-Some.ensures.passed;
    }

pub returns : goal.returns
returns c =
    subst (λ (l : List ℕ). Simplifies c.args.k (graph_of c.args.edges.now c.args.left.now c.args.fixed.now) l)
    (append-nil c.loop-a.order.items) (c.loop-a.invariant.so_far [] (emptied_of c.args.k c.args.edges.now c.loop-a.left c.args.fixed.now
    c.loop-a.degrees.items c.loop-a.invariant.degrees c.in_default.ensures.none))
