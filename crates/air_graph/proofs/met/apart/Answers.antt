use Rattle.std.proofs.Common.{◌≡◌, ℕ, not, cond, true, false, Bool, List, [], ◌∷◌, ◌++◌, get_or, take, sym, ap, ◌∙◌, append-nil}
use Rattle.std.specs.Prelude.{filter}
use Rattle.std.specs.List.{list_any}
use Rattle.std.proofs.lemmas.List.Elements.{Contains-get_or, filter_more}
use Rattle.air_ir.specs.Operands.{same_home}
use Rattle.air_ir.specs.declared.operand.Home.{Home}
use Rattle.air_graph.specs.Homes.{home_at}
use Rattle.air_graph.specs.Walk.{is_move}
use Rattle.air_graph.proofs.Meeting.{all_kept}
use Rattle.air_graph.proofs.met.apart.Goals as goal
use Rattle.air_graph.proofs.met.apart.Goals.{then-not-has_home+in_ok-push, else-not-has_home}

pub home_at-requires-in-loop-y : goal.home_at-requires-in-loop-y
home_at-requires-in-loop-y c =
    c.requires.live (get_or c.args.live.now c.loop-y.y-index 0) (Contains-get_or c.args.live.now c.loop-y.y-index 0 c.loop-y-test.true)

pub loop-y-preserved : goal.loop-y-preserved
loop-y-preserved c =
    let k : ℕ = c.loop-y.y-index in
    let y : ℕ = get_or c.args.live.now k 0 in
    let test : ℕ → Bool = λ y. not (is_move c.args.moves.now (home_at c.args.tmps y) (home_at c.args.tmps c.args.x)) in
    let is : c.has_home.result ≡ is_move c.args.moves.now (home_at c.args.tmps y) (home_at c.args.tmps c.args.x) =
    c.has_home.ensures
    ∙ ap (λ (l : List Home). list_any (λ h. same_home h c.home_at-in-loop-y.result) l) c.as_slice.ensures
    ∙ c.in_ok-sources.ensures c.home_at-in-loop-y.result
    ∙ ap (λ (h : Home). is_move c.args.moves.now h c.home_at.result) c.home_at-in-loop-y.ensures
    ∙ ap (λ (h : Home). is_move c.args.moves.now (home_at c.args.tmps y) h) c.home_at.ensures in
    let more = filter_more test c.args.live.now k 0 c.loop-y-test.true in
    let old : List ℕ = filter test (take k c.args.live.now) in
    elim c.if-not-has_home.branch [
      | then-not-has_home+in_ok-push w ↦
          let t = ap not (sym is ∙ w.if-not-has_home.true) in
          w.list-is ∙ w.in_ok-push.ensures.ok ∙ ap (λ (l : List ℕ). l ++ y ∷ []) c.loop-y.invariant
          ∙ sym (more ∙ ap (λ (b : Bool). old ++ cond b (y ∷ []) []) t)
      | else-not-has_home w ↦
          let t = ap not (sym is ∙ w.if-not-has_home.false) in
          w.list-is ∙ c.loop-y.invariant ∙ sym (more ∙ ap (λ (b : Bool). old ++ cond b (y ∷ []) []) t ∙ append-nil old)
    ]

pub returns-then-is_empty : goal.returns-then-is_empty
returns-then-is_empty c =
    let to : Home = home_at c.args.tmps c.args.x in
    let test : ℕ → Bool = λ y. not (is_move c.args.moves.now (home_at c.args.tmps y) to) in
    let empty : c.in_ok-sources.sources ≡ [] = c.is_empty.ensures.0 c.if-is_empty.true in
    let none : (from : Home) → is_move c.args.moves.now from to ≡ false = λ from.
    sym (ap (λ (l : List Home). list_any (λ h. same_home h from) l) (sym empty) ∙ c.in_ok-sources.ensures from
    ∙ ap (λ (h : Home). is_move c.args.moves.now from h) c.home_at.ensures) in
    let kept : filter test c.args.live.now ≡ c.args.live.now = all_kept test c.args.live.now (λ y. ap not (none (home_at c.args.tmps y))) in
    c.in_ok-extend.ensures.ok ∙ ap (λ (l : List ℕ). l ++ c.args.live.now) c.new-list.ensures ∙ sym kept
