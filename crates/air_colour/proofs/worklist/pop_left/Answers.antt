use Rattle.std.proofs.Common.{◌≡◌, ℕ, true, false, inl, inr, List, [], ◌∷◌, ◌++◌, slice_index_or, sym, ◌∙◌, subst}
use Rattle.std.specs.Prelude.{Contains}
use Rattle.std.proofs.lemmas.Bool.{false≢true}
use Rattle.std.proofs.lemmas.List.Elements.{Contains-append_left, Contains-push, Contains-push_cases}
use Rattle.air_colour.proofs.worklist.pop_left.Goals as goal

pub loop-a-preserved : goal.loop-a-preserved
loop-a-preserved c =
    let items : List ℕ = c.pop.new.self.items in
    let e : c.loop-a.low.items ≡ items ++ c.in-Some.a ∷ [] = c.in-Some.ensures.items in
    record {
      kept = λ x i. c.loop-a.invariant.kept x (subst (λ (l : List ℕ). Contains l x) (sym e) (Contains-append_left items (c.in-Some.a ∷ []) x i));
      rest = λ x t i. elim (Contains-push_cases items c.in-Some.a x (subst (λ (l : List ℕ). Contains l x) e (c.loop-a.invariant.rest x t i))) [
        | inl j ↦ j
        | inr s ↦ absurd (false≢true (sym c.if-left-a.false ∙ subst (λ (z : ℕ). slice_index_or c.args.left.now z false ≡ true) (sym s) t))
      ];
    }

pub bounds-left-a : goal.bounds-left-a
bounds-left-a c =
    let e : c.loop-a.low.items ≡ c.pop.new.self.items ++ c.in-Some.a ∷ [] = c.in-Some.ensures.items in
    c.requires.below c.in-Some.a (c.loop-a.invariant.kept c.in-Some.a
    (subst (λ (l : List ℕ). Contains l c.in-Some.a) (sym e) (Contains-push c.pop.new.self.items c.in-Some.a)))
