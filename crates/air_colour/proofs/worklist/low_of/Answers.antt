use Rattle.std.proofs.Common.{◌≡◌, ℕ, length, inl, inr, List, [], ◌∷◌, ◌++◌, arith, sym, ap, ◌∙◌, subst}
use Rattle.std.specs.Prelude.{Contains}
use Rattle.std.proofs.lemmas.Bool.{cases_lt, false≢true}
use Rattle.std.proofs.lemmas.List.Elements.{Contains-append_left, Contains-push, Contains-push_cases}
use Rattle.air_colour.specs.Worklist.{IsLow}
use Rattle.air_colour.proofs.worklist.low_of.Goals as goal
use Rattle.air_colour.proofs.worklist.low_of.Goals.{then-is_low+in_ok-push, else-is_low}

pub loop-x-preserved : goal.loop-x-preserved
loop-x-preserved c =
    let x : ℕ = c.loop-x.x in
    let old : List ℕ = c.loop-x.low.items in
    elim c.if-is_low.branch [
      | then-is_low+in_ok-push w ↦
          let e : c.if-is_low.low.items ≡ old ++ x ∷ [] = ap (λ v. v.items) w.low-is ∙ w.in_ok-push.ensures.items in
          let q = c.is_low.ensures.0 w.if-is_low.true in
          let is : IsLow c.args.k (length c.args.left.now) c.args.fixed.now c.args.degrees.now x =
          record { below = c.loop-x-test.true; free = q.0; few = q.1 } in
          record {
            low = λ y i. elim (Contains-push_cases old x y (subst (λ (l : List ℕ). Contains l y) e i)) [
              | inl j ↦ c.loop-x.invariant.low y j
              | inr s ↦ subst (λ (z : ℕ). IsLow c.args.k (length c.args.left.now) c.args.fixed.now c.args.degrees.now z) s is
            ];
            all = λ y lt l. subst (λ (l : List ℕ). Contains l y) (sym e) (elim (cases_lt y x) [
              | inl less ↦ Contains-append_left old (x ∷ []) y (c.loop-x.invariant.all y less l)
              | inr le ↦ let s : x ≡ y = omega (arith, lt, le) in subst (λ (z : ℕ). Contains (old ++ x ∷ []) z) s (Contains-push old x)
            ]);
          }
      | else-is_low w ↦
          let e : c.if-is_low.low.items ≡ old = ap (λ v. v.items) w.low-is in
          record {
            low = λ y i. c.loop-x.invariant.low y (subst (λ (l : List ℕ). Contains l y) e i);
            all = λ y lt l. subst (λ (l : List ℕ). Contains l y) (sym e) (elim (cases_lt y x) [
              | inl less ↦ c.loop-x.invariant.all y less l
              | inr le ↦
                  let s : y ≡ x = omega (arith, lt, le) in
                  let l' : IsLow c.args.k (length c.args.left.now) c.args.fixed.now c.args.degrees.now x =
                  subst (λ (z : ℕ). IsLow c.args.k (length c.args.left.now) c.args.fixed.now c.args.degrees.now z) s l in
                  absurd (false≢true (sym w.if-is_low.false ∙ c.is_low.ensures.1 (l'.free, l'.few)))
            ]);
          }
    ]
