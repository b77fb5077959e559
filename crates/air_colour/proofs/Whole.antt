-- From the start to the colouring.
use Rattle.std.proofs.Common.{◌≡◌, ℕ, ◌+◌, ◌-◌, ◌<◌, inl, inr, true, false, Some, List, [], ◌∷◌, length, zero, suc, leb, arith, refl, sym, ◌∙◌, ap, subst, slice_index_or, Bool, Option}
use Rattle.std.proofs.lemmas.Bool.{cases_eq, cases_lt, leb-true, le-leb, false≢true}
use Rattle.std.proofs.lemmas.List.{get_or_past}
use Rattle.std.proofs.lemmas.Grind.{get_or_default_zero}
use Rattle.b3_base.proofs.Booleans.{same_tests}
use Rattle.air_colour.specs.Interference.{Graph, IsIn, IsInterference, take_away}
use Rattle.air_colour.specs.Choosing.{Simplifies, IsChosen}
use Rattle.air_colour.specs.Classes.{classes_of, alone, JoinsFrom, after_joins, classes_left, Moves}
use Rattle.air_colour.specs.Colouring.{IsOwn, IsColouring}
use Rattle.air_colour.specs.Kept.{graph_of, given_in, IsStart}
use Rattle.air_colour.specs.Progress.{IsSame, IsClassing, class_in, IsState, IsKept}
use Rattle.air_colour.specs.Homes.{home_graph, register_of, IsStarted}
use Rattle.air_colour.proofs.Merging.{alone_classing, alone_part, member_test, meets_members, members_meet, member_register, class_stands}
use Rattle.air_colour.proofs.Same.{same_in, same_sym, same_trans, same_simplifies, same_chosen}
use Rattle.air_colour.proofs.Taking.{in_taken}
use Rattle.air_colour.proofs.Promise.{colouring}
use std.Path.{fun_ext}
use Rattle.air_graph.specs.Edges.{EdgeSet}

-- the classes in a graph where each home stands alone
alone_same : (g : Graph) → IsInterference g → ((u : ℕ) → u < g.names → g.has u ≡ true) → IsSame g (classes_of g alone)
alone_same g is all = record {
  names = refl;
  classes = λ x lt. all x lt ∙ sym (member_test g alone x x ((lt, all x lt), refl));
  registers = λ x there. sym ((alone_part 0 g is).registers x (there.0, member_test g alone x x (there, refl)));
  meets = λ x y there there'. same_tests (g.meets x y) ((classes_of g alone).meets x y)
      (λ t. members_meet g alone x y x y (there, refl) (there', refl) t)
      (λ t. by_members x y t);
}
  where
    by_members : (x y : ℕ) → (classes_of g alone).meets x y ≡ true → g.meets x y ≡ true
    by_members x y t =
        let m = meets_members g alone x y t in
        subst (λ (z : ℕ). g.meets x z ≡ true) m.also.1 (subst (λ (z : ℕ). g.meets z m.other ≡ true) m.member.1 m.meets)

-- classes of the order are left and hold no register
order_in : (k : ℕ) (order : List ℕ) (g : Graph) (i : ℕ) → Simplifies k g order → i < length order → IsIn g (slice_index_or order i 0)
    × (g.register (slice_index_or order i 0) ≡ false)
order_in k [] g i s lt = absurd (omega arith)
order_in k (a ∷ rest) g zero s lt = (s.0.is_in, s.0.free)
order_in k (a ∷ rest) g (suc i) s lt =
    let more = order_in k rest (take_away g a) i s.1 (omega arith) in
    (in_taken g a (slice_index_or rest i 0) more.0, more.1)

module _ (edges : EdgeSet) (left fixed : List Bool) (class : List ℕ) (given : List (Option ℕ)) (t k : ℕ) (start : IsStarted edges left fixed class given t k)
    (is : IsInterference (home_graph edges t k)) where
  pub started_alone : class_in class ≡ alone
  started_alone = fun_ext (λ x. elim (cases_lt x (t + k)) [
    | inl lt ↦ start.class x lt
    | inr le ↦ get_or_past class x x (let e = start.class_long in omega arith)
  ])

  home : (x : ℕ) → x < t + k → IsIn (home_graph edges t k) x
  home x lt = (lt, refl)

  pub started_state : IsState edges left fixed class
  started_state = record {
    room = record { names = let e = start.left_long in start.names ∙ sym e; same = start.fixed_long ∙ sym start.left_long };
    classes = start.class_long ∙ sym start.left_long;
    below = λ u lt.
        let e = start.class_long in
        let at = get_or_default_zero class u u lt in
        let is_u = start.class u (omega arith) in
        let long = start.left_long in
        omega arith;
  }

  homes_same : IsSame (graph_of edges left fixed) (home_graph edges t k)
  homes_same = record {
    names = start.left_long;
    classes = λ x lt. start.left x (let e = start.left_long in omega arith);
    registers = λ x there. start.fixed x (let lt = there.0 in let e = start.left_long in omega arith);
    meets = λ x y _ _. refl;
  }

  pub started_kept : IsKept (home_graph edges t k) edges left fixed class
  started_kept = record {
    all = λ u lt. refl;
    same = subst (λ (f : ℕ → ℕ). IsSame (graph_of edges left fixed) (classes_of (home_graph edges t k) f)) (sym started_alone)
        (same_trans (graph_of edges left fixed) (home_graph edges t k) (classes_of (home_graph edges t k) alone) homes_same (alone_same
        (home_graph edges t k) is (λ u lt. refl)));
    classing = subst (λ (f : ℕ → ℕ). IsClassing (home_graph edges t k) f) (sym started_alone) (alone_classing (home_graph edges t k) is);
  }

  -- after the joins
  module _ (edges' : EdgeSet) (left' : List Bool) (class' : List ℕ) (state : IsState edges' left' fixed class') (kept : IsKept
      (home_graph edges t k) edges' left' fixed class')
      (long : length class' ≡ length class) where
    class_at : (u : ℕ) → u < t + k → slice_index_or class' u 0 ≡ class_in class' u
    class_at u lt = sym (get_or_default_zero class' u u (let e = start.class_long in omega arith))

    register_home : (r : ℕ) → leb t (t + r) ≡ true
    register_home r = le-leb t (t + r) (omega arith)

    pub registers_apart : (r s : ℕ) → r < k → s < k → slice_index_or class' (t + r) 0 ≡ slice_index_or class' (t + s) 0 → r ≡ s
    registers_apart r s lr ls e =
        elim (cases_eq r s) [
          | inl same ↦ same
          | inr ne ↦
              let in_r = home (t + r) (omega arith) in
              let in_s = home (t + s) (omega arith) in
              let one = sym (class_at (t + r) (omega arith)) ∙ e ∙ class_at (t + s) (omega arith) in
              absurd (false≢true (sym (kept.classing.apart (t + r) (t + s) in_r in_s one)
              ∙ is.registers (t + r) (t + s) in_r in_s (λ e'. ne (omega arith)) (register_home r) (register_home s)))
        ]

    -- the class of a register, as it is kept
    register_class : (r : ℕ) → r < k → IsIn (graph_of edges' left' fixed) (slice_index_or class' (t + r) 0)
        × (slice_index_or fixed (slice_index_or class' (t + r) 0) false ≡ true)
    register_class r lr =
        let u : ℕ = t + r in
        let in_u = home u (omega arith) in
        let c : Graph = classes_of (home_graph edges t k) (class_in class') in
        let there : IsIn c (class_in class' u) = class_stands (home_graph edges t k) (class_in class') kept.classing u in_u in
        let here : IsIn (graph_of edges' left' fixed) (class_in class' u) = same_in c (graph_of edges' left' fixed) (same_sym
        (graph_of edges' left' fixed) c kept.same) (class_in class' u) there in
        let holds : slice_index_or fixed (class_in class' u) false ≡ true = kept.same.registers (class_in class' u) here
        ∙ member_register (home_graph edges t k) (class_in class') (class_in class' u) u (in_u, refl) (register_home r) in
        let at = class_at u (omega arith) in
        (subst (λ (x : ℕ). IsIn (graph_of edges' left' fixed) x) (sym at) here, subst (λ (x : ℕ). slice_index_or fixed x false ≡ true) (sym at) holds)

    module _ (given' given'' : List (Option ℕ)) (order : List ℕ)
        (own : (r : ℕ) → r < k → given_in given' (slice_index_or class' (t + r) 0) ≡ Some r)
        (only : (x r : ℕ) → given_in given' x ≡ Some r → (r < k) × (slice_index_or class' (t + r) 0 ≡ x))
        (simplifies : Simplifies k (graph_of edges' left' fixed) order) where
      pub registers_start : IsStart (graph_of edges' left' fixed) (given_in given')
      registers_start x r e =
          let by = only x r e in
          let at = register_class r by.0 in
          (subst (λ (y : ℕ). IsIn (graph_of edges' left' fixed) y) by.1 at.0, subst (λ (y : ℕ). slice_index_or fixed y false ≡ true) by.1 at.1)

      pub order_below : (i : ℕ) → i < length order → slice_index_or order i 0 < length left'
      order_below i lt = (order_in k order (graph_of edges' left' fixed) i simplifies lt).0.0

      module _ (moves : Moves) (joins : List ℕ)
          (joined : JoinsFrom k (home_graph edges t k) moves (class_in class) joins)
          (left_by : class_in class' ≡ after_joins (home_graph edges t k) moves (class_in class) joins)
          (chosen : IsChosen k (graph_of edges' left' fixed) (given_in given'') order)
          (others : (x : ℕ) → ((i : ℕ) → i < length order → slice_index_or order i 0 ≡ x → ⊥) → given_in given'' x ≡ given_in given' x) where
        class_is : class_in class' ≡ classes_left (home_graph edges t k) moves joins
        class_is = left_by ∙ ap (λ (f : ℕ → ℕ). after_joins (home_graph edges t k) moves f joins) started_alone

        register_kept : (r : ℕ) → r < k → given_in given'' (slice_index_or class' (t + r) 0) ≡ Some r
        register_kept r lr =
            others (slice_index_or class' (t + r) 0) (λ i lt e.
            false≢true (sym (order_in k order (graph_of edges' left' fixed) i simplifies lt).1
            ∙ subst (λ (x : ℕ). slice_index_or fixed x false ≡ true) (sym e) (register_class r lr).1))
            ∙ own r lr

        own_is : (u : ℕ) → IsIn (home_graph edges t k) u → leb t u ≡ true → given_in given'' (class_in class' u) ≡ Some (register_of t u)
        own_is u there r =
            let le = leb-true t u r in
            let lt = there.0 in
            let e : t + (u - t) ≡ u = omega arith in
            let here = register_kept (u - t) (omega arith) in
            let here' : given_in given'' (slice_index_or class' u 0) ≡ Some (u - t) = subst (λ (x : ℕ). given_in given'' (slice_index_or class' x 0) ≡ Some
            (u - t)) e here in
            ap (given_in given'') (sym (class_at u lt)) ∙ here'

        owned : IsOwn k (home_graph edges t k) (register_of t)
        owned = record {
          below = λ u there r. let le = leb-true t u r in let lt = there.0 in omega arith;
          differ = λ u v _ _ r s e. let le = leb-true t u r in let le' = leb-true t v s in omega arith;
        }

        same_left : IsSame (graph_of edges' left' fixed) (classes_of (home_graph edges t k) (classes_left (home_graph edges t k) moves joins))
        same_left = subst (λ (f : ℕ → ℕ). IsSame (graph_of edges' left' fixed) (classes_of (home_graph edges t k) f)) class_is kept.same

        pub whole : IsColouring k (home_graph edges t k) (register_of t) moves joins (λ u. given_in given'' (class_in class' u))
        whole =
            subst (λ (f : ℕ → ℕ). IsColouring k (home_graph edges t k) (register_of t) moves joins (λ u. given_in given'' (f u))) (sym class_is)
            (colouring k (home_graph edges t k) (register_of t) moves joins (given_in given'') order is owned
            (subst (λ (f : ℕ → ℕ). JoinsFrom k (home_graph edges t k) moves f joins) started_alone joined)
            (λ u there r. subst (λ (f : ℕ → ℕ). given_in given'' (f u) ≡ Some (register_of t u)) class_is (own_is u there r))
            (same_simplifies k order (graph_of edges' left' fixed) (classes_of (home_graph edges t k) (classes_left
            (home_graph edges t k) moves joins)) same_left simplifies)
            (same_chosen k (given_in given'') order (graph_of edges' left' fixed) (classes_of (home_graph edges t k) (classes_left
            (home_graph edges t k) moves joins)) same_left simplifies chosen))
