use Rattle.std.proofs.Common.{◌≡◌, ℕ, inl, inr, List, length, get_or, arith, sym, ◌∙◌, ap, subst}
use Rattle.std.specs.Prelude.{Contains}
use Rattle.std.proofs.lemmas.Bool.{false≢true}
use Rattle.std.proofs.lemmas.List.{take_all}
use Rattle.std.proofs.lemmas.List.Elements.{Contains-get_or}
use Rattle.air_graph.proofs.Adding.{contains_more}
use Rattle.air_colour.specs.declared.moves.Move.{Move}
use Rattle.air_colour.specs.Classes.{MayJoinMove}
use Rattle.air_colour.specs.Progress.{class_in, moves_of, IsJoinedSoFar, IsKept, left_count}
use Rattle.air_colour.proofs.Moving.{one_joined, kept_unchanged}
use Rattle.air_colour.proofs.moves.join_pass.Goals as goal
use Rattle.air_colour.proofs.moves.join_pass.Goals.{then-joined+in_ok-push, else-joined}

pub bounds-moves-at : goal.bounds-moves-at
bounds-moves-at c = c.requires.below (get_or c.args.tried.now c.loop-j.j-index 0) (Contains-get_or c.args.tried.now c.loop-j.j-index 0 c.loop-j-test.true)

pub note_tried-requires : goal.note_tried-requires
note_tried-requires c =
    let lt = c.requires.below (get_or c.args.tried.now c.loop-j.j-index 0) (Contains-get_or c.args.tried.now c.loop-j.j-index 0 c.loop-j-test.true) in
    omega (arith, lt, c.loop-j.invariant.waiting)

pub loop-j-preserved : goal.loop-j-preserved
loop-j-preserved c =
    let i : ℕ = c.loop-j.j-index in
    let j : ℕ = get_or c.args.tried.now i 0 in
    let m : Move = (moves_of c.args.moves.now).at j in
    let class' : List ℕ = c.join_move.new.class in
    let here : Contains c.args.tried.now j = Contains-get_or c.args.tried.now i 0 c.loop-j-test.true in
    let waiting : length c.join_move.new.waiting.listed.items ≡ length c.args.moves.now
    = c.join_move.ensures.waiting ∙ c.note_tried.ensures ∙ c.loop-j.invariant.waiting in
    let no_more = c.loop-j.invariant.no_more in
    elim c.if-joined.branch [
      | then-joined+in_ok-push w ↦
          let fewer = c.in_ok-joined.ensures.fewer w.if-joined.true in
          record {
            waiting = waiting;
            state = c.in_ok-joined.ensures.state;
            fewer = λ _. omega arith;
            no_more = omega arith;
            joined = λ g first is kept so.
                let before = c.loop-j.invariant.joined g first is kept so in
                let now = c.in_ok-joined.ensures.joined w.if-joined.true g is before.0 in (
                  now.1,
                  one_joined c.args.k g (moves_of c.args.moves.now) first c.loop-j.joins.items c.if-joined.joins.items (class_in c.loop-j.class)
                      (class_in class') j
                      before.1 (c.requires.below j here) now.0 now.2 (ap (λ v. v.items) w.joins-is ∙ w.in_ok-push.ensures.items),
                  λ f. absurd (false≢true (sym f ∙ w.any-is)),
                );
          }
      | else-joined w ↦
          let same = c.in_ok-joined.ensures.unchanged w.if-joined.false in
          let count : left_count c.join_move.new.left ≡ left_count c.loop-j.left = ap left_count same.1 in
          record {
            waiting = waiting;
            state = c.in_ok-joined.ensures.state;
            fewer = λ t. let fewer = c.loop-j.invariant.fewer (sym w.any-is ∙ t) in omega arith;
            no_more = omega arith;
            joined = λ g first is kept so.
                let before = c.loop-j.invariant.joined g first is kept so in
                let kept' : IsKept g c.join_move.new.edges c.join_move.new.left c.args.fixed.now class' =
                kept_unchanged g c.loop-j.edges c.join_move.new.edges c.loop-j.left c.join_move.new.left c.args.fixed.now c.loop-j.class class'
                same.0 same.1 same.2 before.0 in (
                  kept',
                  subst (λ (l : List ℕ). IsJoinedSoFar c.args.k g (moves_of c.args.moves.now) first l (class_in class')) (sym (ap
                      (λ v. v.items) w.joins-is))
                      (subst (λ (l : List ℕ). IsJoinedSoFar c.args.k g (moves_of c.args.moves.now) first c.loop-j.joins.items (class_in l))
                      (sym same.2) before.1),
                  λ f n there. subst (λ (l : List ℕ). MayJoinMove c.args.k g (class_in l) ((moves_of c.args.moves.now).at n) → ⊥) (sym same.2)
                      (elim ((contains_more c.args.tried.now i 0 n c.loop-j-test.true).0 there) [
                        | inl old ↦ before.2 (sym w.any-is ∙ f) n old
                        | inr e ↦ subst (λ (z : ℕ). MayJoinMove c.args.k g (class_in c.loop-j.class) ((moves_of c.args.moves.now).at z) → ⊥) (sym e)
                            (c.in_ok-joined.ensures.not_joined w.if-joined.false g is before.0)
                      ]),
                );
          }
    ]

pub returns-clause-joined : goal.returns-clause-joined
returns-clause-joined c = λ g first is kept so.
    let before = c.loop-j.invariant.joined g first is kept so in (
      before.0,
      before.1,
      λ f. subst (λ (l : List ℕ). (i : ℕ) → Contains l i → MayJoinMove c.args.k g (class_in c.loop-j.class) ((moves_of c.args.moves.now).at i) → ⊥)
          (take_all c.loop-j.j-index c.args.tried.now c.loop-j-test.false) (before.2 f),
    )
