use Rattle.std.proofs.Common.{◌≡◌, ℕ, ◌+◌, ◌-◌, ◌<◌, ◌≤◌, ◌⊎◌, List, length, arith, refl, sym, ◌∙◌, subst}
use Rattle.std.specs.Prelude.{Contains}
use Rattle.air_ir.specs.Blocks.{block_of}
use Rattle.air_ir.specs.declared.procedure.AirProc.{AirProc}
use Rattle.air_graph.specs.Edges.{EdgeSet}
use Rattle.air_graph.specs.Walk.{Adds, AreBelow, IsMet, LiveNow, MeetAt}
use Rattle.air_graph.proofs.Walking.{all_below, edges_step, live_last, live_step, none_behind, some_inst}
use Rattle.air_graph.proofs.walk.add_block.Goals as goal

pub loop-place-init : goal.loop-place-init
loop-place-init c =
    let p : AirProc = c.args.flow.now.proc.now in
    let old : EdgeSet = c.args.edges.now in
    record {
      names = refl;
      live = subst (λ (k : ℕ). LiveNow p c.args.block k c.in_ok-now.now) (sym c.places-place.ensures)
          (live_last p c.args.block c.in_ok-now.now c.in_ok-now.ensures.below (c.in_ok-now.ensures.live p c.requires.live));
      edges = subst (λ (k : ℕ). Adds k old old (λ a b. (at : ℕ) × (c.places-place.result ≤ at) × MeetAt p c.args.block at a b)) (sym c.requires.sized)
          (subst (λ (k : ℕ). Adds (p.tmps + 25) old old (λ a b. (at : ℕ) × (k ≤ at) × MeetAt p c.args.block at a b)) (sym c.places-place.ensures)
          (none_behind p c.args.block old));
    }

pub add_defined-requires-clause-live : goal.add_defined-requires-clause-live
add_defined-requires-clause-live c x i =
    c.loop-place.invariant.live.below x (subst (λ (l : List ℕ). Contains l x) c.as_slice-in-loop-place.ensures i)

pub add_defined-requires-clause-used : goal.add_defined-requires-clause-used
add_defined-requires-clause-used c =
    let p : AirProc = c.args.flow.now.proc.now in
    let some = c.loop-place-test.true in
    let e : c.loop-place.place ≡ c.loop-place.place - 1 + 1 = omega (arith, some) in
    let lt : c.loop-place.place - 1 < length (block_of p c.args.block).insts = omega (arith, some, c.loop-place.auto.place, c.places-place.ensures) in
    (all_below p c.args.block c.requires.block (c.loop-place.place - 1) some_inst lt c.live_homes.ensures.touches c.live_homes.ensures.goes_on c.in_ok-t.t
    c.in_ok-t.ensures c.loop-place.now (subst (λ (k : ℕ). LiveNow p c.args.block k c.loop-place.now) e c.loop-place.invariant.live)).0

pub add_defined-requires-clause-late : goal.add_defined-requires-clause-late
add_defined-requires-clause-late c =
    let p : AirProc = c.args.flow.now.proc.now in
    let some = c.loop-place-test.true in
    let e : c.loop-place.place ≡ c.loop-place.place - 1 + 1 = omega (arith, some) in
    let lt : c.loop-place.place - 1 < length (block_of p c.args.block).insts = omega (arith, some, c.loop-place.auto.place, c.places-place.ensures) in
    (all_below p c.args.block c.requires.block (c.loop-place.place - 1) some_inst lt c.live_homes.ensures.touches c.live_homes.ensures.goes_on c.in_ok-t.t
    c.in_ok-t.ensures c.loop-place.now (subst (λ (k : ℕ). LiveNow p c.args.block k c.loop-place.now) e c.loop-place.invariant.live)).1.0

pub add_defined-requires-clause-defined : goal.add_defined-requires-clause-defined
add_defined-requires-clause-defined c =
    let p : AirProc = c.args.flow.now.proc.now in
    let some = c.loop-place-test.true in
    let e : c.loop-place.place ≡ c.loop-place.place - 1 + 1 = omega (arith, some) in
    let lt : c.loop-place.place - 1 < length (block_of p c.args.block).insts = omega (arith, some, c.loop-place.auto.place, c.places-place.ensures) in
    subst (λ (l : List ℕ). AreBelow (p.tmps + 25) l) (sym c.as_slice.ensures)
    (all_below p c.args.block c.requires.block (c.loop-place.place - 1) some_inst lt c.live_homes.ensures.touches c.live_homes.ensures.goes_on c.in_ok-t.t
    c.in_ok-t.ensures c.loop-place.now (subst (λ (k : ℕ). LiveNow p c.args.block k c.loop-place.now) e c.loop-place.invariant.live)).1.1

pub loop-place-preserved : goal.loop-place-preserved
loop-place-preserved c =
    let p : AirProc = c.args.flow.now.proc.now in
    let some = c.loop-place-test.true in
    let e : c.loop-place.place ≡ c.loop-place.place - 1 + 1 = omega (arith, some) in
    let lt : c.loop-place.place - 1 < length (block_of p c.args.block).insts = omega (arith, some, c.loop-place.auto.place, c.places-place.ensures) in
    let now : LiveNow p c.args.block (c.loop-place.place - 1 + 1) c.loop-place.now =
    subst (λ (k : ℕ). LiveNow p c.args.block k c.loop-place.now) e c.loop-place.invariant.live in
    record {
      names = c.add_defined.ensures.names ∙ c.loop-place.invariant.names;
      live = live_step p c.args.block c.requires.block
          (c.loop-place.place - 1) some_inst lt c.live_homes.ensures.touches c.live_homes.ensures.goes_on c.in_ok-t.t
          c.in_ok-t.ensures c.loop-place.now now c.in_ok-now-2.now
          c.in_ok-now-2.ensures;
      edges = subst (λ (k : ℕ). Adds k c.args.edges.now c.add_defined.new.edges
          (λ a b. (at : ℕ) × (c.loop-place.place - 1 ≤ at) × MeetAt p c.args.block at a b)) (sym c.requires.sized)
          (edges_step p c.args.block c.requires.block
          (c.loop-place.place - 1) some_inst lt c.live_homes.ensures.touches c.live_homes.ensures.goes_on c.in_ok-t.t
          c.in_ok-t.ensures c.loop-place.now now c.args.edges.now c.loop-place.edges c.add_defined.new.edges
          (subst (λ (k : ℕ). Adds k c.args.edges.now c.loop-place.edges (λ a b. (at : ℕ) × (c.loop-place.place - 1 + 1 ≤ at) × MeetAt p c.args.block at a b))
          c.requires.sized
          (subst (λ (k : ℕ). Adds c.args.edges.now.names c.args.edges.now c.loop-place.edges (λ a b. (at : ℕ) × (k ≤ at) × MeetAt p c.args.block at a b)) e
          c.loop-place.invariant.edges))
          (subst (λ (l : List ℕ). Adds (p.tmps + 25) c.loop-place.edges c.add_defined.new.edges
          (λ a b. (Contains l a × IsMet p.tmps c.in_ok-t.t c.loop-place.now a b) ⊎ (Contains l b × IsMet p.tmps c.in_ok-t.t c.loop-place.now b a)))
          c.as_slice.ensures
          (subst (λ (l : List ℕ). Adds (p.tmps + 25) c.loop-place.edges c.add_defined.new.edges
          (λ a b. (Contains c.as_slice.result.now a × IsMet p.tmps c.in_ok-t.t l a b) ⊎ (Contains c.as_slice.result.now b × IsMet p.tmps c.in_ok-t.t l b a)))
          c.as_slice-in-loop-place.ensures c.in_ok-add_defined.ensures.edges)));
    }
