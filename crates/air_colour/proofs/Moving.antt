-- What is kept when the classes of a move are joined.
use Rattle.std.proofs.Common.{◌≡◌, ℕ, ◌+◌, ◌<◌, ◌≤◌, ◌⊎◌, inl, inr, ◌↔◌, Bool, true, false, cond, ◌&&◌, ◌||◌, List, [], ◌∷◌, ◌++◌, length, arith, refl, sym, ◌∙◌, ap, subst, length-set, slice_index_or, append_assoc}
use Rattle.std.specs.Prelude.{◌==◌, slice_set}
use Rattle.std.proofs.lemmas.Bool.{and_from, cases_eq, or_left, or_right, eq-eqb, false≢true}
use Rattle.std.proofs.lemmas.Grind.{get_or_default_zero}
use Rattle.b3_base.proofs.Booleans.{same_tests}
use Rattle.air_graph.specs.Edges.{EdgeSet}
use Rattle.air_graph.proofs.Beside.{edge_back}
use Rattle.air_colour.specs.Interference.{Graph, IsIn, IsInterference, one}
use Rattle.air_colour.specs.Joining.{join, MayJoin}
use Rattle.air_colour.specs.Classes.{classes_of, merged, stays, goes, MayJoinMove, after_move, after_joins, JoinsFrom, Moves}
use Rattle.air_colour.specs.declared.moves.Move.{Move}
use Rattle.air_colour.specs.Kept.{graph_of, has, HasRoom}
use Rattle.air_colour.specs.Progress.{IsClassing, IsSame, class_in, IsState, IsKept, IsJoinedSoFar}
use Rattle.air_colour.proofs.Joins.{join_meets}
use Rattle.air_colour.proofs.Counting.{but, but_gone, but_same}
use Rattle.air_colour.proofs.KeptGraph.{is_left, left_taken}
use Rattle.air_colour.proofs.Merging.{class_stands, merged_cases, merged_same, merged_classing}
use Rattle.air_colour.proofs.Same.{same_in, same_sym, same_trans, same_may, same_join}
use std.Path.{fun_ext}

-- what joining does to the edges between classes that are left
abbrev pub Takes : EdgeSet → EdgeSet → List Bool → ℕ → ℕ → Type 0
Takes old new left a b = (x y : ℕ) → is_left left x ≡ true → is_left left y ≡ true
    → (has new x y ≡ true) ↔ ((has old x y ≡ true) ⊎ (((x ≡ a) × (has old b y ≡ true)) ⊎ ((y ≡ a) × (has old b x ≡ true))))

-- what is left was left before
still_left : (left : List Bool) (b x : ℕ) → b < length left → is_left (slice_set left b false) x ≡ true → is_left left x ≡ true
still_left left b x lt t =
    elim (cases_eq x b) [
      | inl e ↦ absurd (false≢true (sym (but_gone (is_left left) b) ∙ subst (λ (y : ℕ). but (is_left left) b y ≡ true) e (sym (left_taken left b x lt) ∙ t)))
      | inr ne ↦ sym (but_same (is_left left) b x ne) ∙ sym (left_taken left b x lt) ∙ t
    ]

module _ (edges new : EdgeSet) (left fixed : List Bool) (class class' : List ℕ) (a b : ℕ) (state : IsState edges left fixed class)
    (in_a : a < length left) (in_b : b < length left)
    (room : HasRoom new (length left) (length left)) (takes : Takes edges new left a b)
    (moved : (x : ℕ) → class_in class' x ≡ merged (class_in class) a b x) (long : length class' ≡ length class) where
  at_zero : (l : List ℕ) (u : ℕ) → u < length l → slice_index_or l u 0 ≡ class_in l u
  at_zero l u lt = sym (get_or_default_zero l u u lt)

  merged_below : (u : ℕ) → u < length class' → slice_index_or class' u 0 < length left
  merged_below u lt =
      let is = at_zero class' u lt in
      let was = at_zero class u (omega arith) in
      let old = state.below u (omega arith) in
      let now = moved u in
      elim (merged_cases (class_in class) a b u) [
        | inl p ↦ let e = p.1 in omega arith
        | inr p ↦ let e = p.1 in omega arith
      ]

  pub join_state : IsState new (slice_set left b false) fixed class'
  join_state =
      let same = length-set left b false in
      record {
        room = record { names = let h = room.names in omega arith; same = let h = state.room.same in omega arith };
        classes = let h = state.classes in omega arith;
        below = λ u lt. let h = merged_below u lt in omega arith;
      }

  -- the kept graph is the joined one
  join_kept : slice_index_or fixed b false ≡ false → IsSame (graph_of new (slice_set left b false) fixed) (join (graph_of edges left fixed) a b)
  join_kept free = record {
    names = length-set left b false;
    classes = λ x lt. left_taken left b x in_b;
    registers = λ x there. sym (ap (λ r. slice_index_or fixed x false || ((x == a) && r)) free ∙ drop_false (slice_index_or fixed x false) (x == a));
    meets = λ x y there there'.
        let lx = still_left left b x in_b there.1 in
        let ly = still_left left b y in_b there'.1 in
        same_tests (has new x y) ((join (graph_of edges left fixed) a b).meets x y)
        (λ t. elim ((takes x y lx ly).0 t) [
          | inl old ↦ or_left (has edges x y) (((x == a) && has edges b y) || ((y == a) && has edges x b)) old
          | inr p ↦ or_right (has edges x y) (((x == a) && has edges b y) || ((y == a) && has edges x b)) (elim p [
            | inl q ↦ or_left ((x == a) && has edges b y) ((y == a) && has edges x b) (and_from (x == a) (has edges b y) (eq-eqb x a q.0) q.1)
            | inr q ↦ or_right ((x == a) && has edges b y) ((y == a)
                && has edges x b) (and_from (y == a) (has edges x b) (eq-eqb y a q.0) (edge_back edges x b ∙ q.1))
          ])
        ])
        (λ t. (takes x y lx ly).1 (elim (join_meets (graph_of edges left fixed) a b x y t) [
          | inl old ↦ inl old
          | inr p ↦ inr (elim p [ inl q ↦ inl q | inr q ↦ inr (q.0, edge_back edges b x ∙ q.1) ])
        ]));
  }
    where
      drop_false : (u v : Bool) → (u || (v && false)) ≡ u
      drop_false true v = refl
      drop_false false true = refl
      drop_false false false = refl

  pub moved_class : class_in class' ≡ merged (class_in class) a b
  moved_class = fun_ext moved

  pub join_keeps : (k : ℕ) (g : Graph) → IsInterference g → IsKept g edges left fixed class → MayJoin k (graph_of edges left fixed) a b
      → slice_index_or fixed b false ≡ false
      → IsKept g new (slice_set left b false) fixed class'
  join_keeps k g is kept may free =
      let c : Graph = classes_of g (class_in class) in
      let may' : MayJoin k c a b = same_may k (graph_of edges left fixed) c a b kept.same may in
      let into : IsSame (join c a b) (classes_of g (merged (class_in class) a b)) = merged_same g
      (class_in class) a b is kept.classing may'.into may'.from may'.differ may'.apart in
      record {
        all = kept.all;
        same = subst (λ (f : ℕ → ℕ). IsSame (graph_of new (slice_set left b false) fixed) (classes_of g f)) (sym moved_class)
            (same_trans (graph_of new (slice_set left b false) fixed) (join (graph_of edges left fixed) a b) (classes_of g (merged (class_in class) a b))
            (join_kept free)
            (same_trans (join (graph_of edges left fixed) a b) (join c a b) (classes_of g (merged (class_in class) a b))
            (same_join (graph_of edges left fixed) c a b kept.same may.into may.from) into));
        classing = subst (λ (f : ℕ → ℕ). IsClassing g f) (sym moved_class) (merged_classing g
            (class_in class) a b is kept.classing may'.into may'.from may'.differ may'.apart);
      }

-- ---- the classes of a move

free_from : (k : ℕ) (g : Graph) (a b : ℕ) → MayJoin k g a b → g.register b ≡ false
free_from k g a b may = elim may.test [ inl t ↦ t.also_free | inr t ↦ t.free ]

-- the side of a move that stays, as the lists say it
abbrev pub stays_in : List Bool → List ℕ → Move → ℕ
stays_in fixed class m = cond (slice_index_or fixed (slice_index_or class m.from 0) false) (slice_index_or class m.from 0) (slice_index_or class m.to 0)

abbrev pub goes_in : List Bool → List ℕ → Move → ℕ
goes_in fixed class m = cond (slice_index_or fixed (slice_index_or class m.from 0) false) (slice_index_or class m.to 0) (slice_index_or class m.from 0)

module _ (g : Graph) (edges : EdgeSet) (left fixed : List Bool) (class : List ℕ) (m : Move) (state : IsState edges left fixed class)
    (kept : IsKept g edges left fixed class)
    (from_below : m.from < length class) (to_below : m.to < length class) where
  names_are : g.names ≡ length class
  names_are = sym kept.same.names ∙ sym state.classes

  home_in : (u : ℕ) → u < length class → IsIn g u
  home_in u lt = let e = names_are in let lt' : u < g.names = omega arith in (lt', kept.all u lt')

  from_in : IsIn (classes_of g (class_in class)) (class_in class m.from)
  from_in = class_stands g (class_in class) kept.classing m.from (home_in m.from from_below)

  registers_are : slice_index_or fixed (class_in class m.from) false ≡ (classes_of g (class_in class)).register (class_in class m.from)
  registers_are = kept.same.registers (class_in class m.from) (same_in (classes_of g (class_in class)) (graph_of edges left fixed) (same_sym
      (graph_of edges left fixed) (classes_of g (class_in class)) kept.same) (class_in class m.from) from_in)

  from_at : slice_index_or class m.from 0 ≡ class_in class m.from
  from_at = sym (get_or_default_zero class m.from m.from from_below)

  to_at : slice_index_or class m.to 0 ≡ class_in class m.to
  to_at = sym (get_or_default_zero class m.to m.to to_below)

  pub stays_are : stays_in fixed class m ≡ stays g (class_in class) m
  stays_are =
      ap (λ (f : ℕ). cond (slice_index_or fixed f false) f (slice_index_or class m.to 0)) from_at
      ∙ ap (λ (t : ℕ). cond (slice_index_or fixed (class_in class m.from) false) (class_in class m.from) t) to_at
      ∙ ap (λ (r : Bool). cond r (class_in class m.from) (class_in class m.to)) registers_are

  pub goes_are : goes_in fixed class m ≡ goes g (class_in class) m
  goes_are =
      ap (λ (f : ℕ). cond (slice_index_or fixed f false) (slice_index_or class m.to 0) f) from_at
      ∙ ap (λ (t : ℕ). cond (slice_index_or fixed (class_in class m.from) false) t (class_in class m.from)) to_at
      ∙ ap (λ (r : Bool). cond r (class_in class m.to) (class_in class m.from)) registers_are

  pub move_kept : (k a b : ℕ) → a ≡ stays_in fixed class m → b ≡ goes_in fixed class m → MayJoinMove k g (class_in class) m
      → MayJoin k (graph_of edges left fixed) a b
  move_kept k a b ea eb may =
      let there : MayJoin k (graph_of edges left fixed) (stays g (class_in class) m) (goes g (class_in class) m)
      = same_may k (classes_of g (class_in class)) (graph_of edges left fixed) (stays g (class_in class) m) (goes g (class_in class) m) (same_sym
      (graph_of edges left fixed) (classes_of g (class_in class)) kept.same) may.may in
      subst (λ (x : ℕ). MayJoin k (graph_of edges left fixed) x b) (sym (ea
      ∙ stays_are)) (subst (λ (y : ℕ). MayJoin k (graph_of edges left fixed) (stays g (class_in class) m) y) (sym (eb ∙ goes_are)) there)

  pub kept_move : (k a b : ℕ) → a ≡ stays_in fixed class m → b ≡ goes_in fixed class m → MayJoin k (graph_of edges left fixed) a b
      → MayJoinMove k g (class_in class) m
  kept_move k a b ea eb may = record {
    from = home_in m.from from_below;
    to = home_in m.to to_below;
    may =
        let there : MayJoin k (classes_of g (class_in class)) a b = same_may k (graph_of edges left fixed) (classes_of g (class_in class)) a b kept.same may in
        subst (λ (x : ℕ). MayJoin k (classes_of g (class_in class)) x (goes g (class_in class) m)) (ea
        ∙ stays_are) (subst (λ (y : ℕ). MayJoin k (classes_of g (class_in class)) a y) (eb ∙ goes_are) there);
  }

-- a move was joined
pub move_joined : (k : ℕ) (g : Graph) (edges new : EdgeSet) (left fixed : List Bool) (class class' : List ℕ) (m : Move) (a b : ℕ)
    → IsInterference g → IsState edges left fixed class → IsKept g edges left fixed class → m.from < length class → m.to < length class
    → a ≡ stays_in fixed class m → b ≡ goes_in fixed class m → MayJoin k (graph_of edges left fixed) a b
    → HasRoom new (length left) (length left) → Takes edges new left a b
    → ((x : ℕ) → class_in class' x ≡ merged (class_in class) a b x) → length class' ≡ length class
    → MayJoinMove k g (class_in class) m × IsKept g new (slice_set left b false) fixed class' × (class_in class' ≡ after_move g (class_in class) m)
move_joined k g edges new left fixed class class' m a b is state kept lf lt ea eb may room takes moved long =
    let in_a : a < length left = may.into.0 in
    let in_b : b < length left = may.from.0 in
    let e : class_in class' ≡ merged
    (class_in class) a b = moved_class edges new left fixed class class' a b state in_a in_b room takes moved long in (
      kept_move g edges left fixed class m state kept lf lt k a b ea eb may,
      join_keeps edges new left fixed class class' a b state in_a in_b room takes moved long k g is kept may (free_from k
          (graph_of edges left fixed) a b may),
      e ∙ ap (λ (x : ℕ). merged (class_in class) x b) (ea ∙ stays_are g edges left fixed class m state kept lf lt)
          ∙ ap (λ (y : ℕ). merged (class_in class) (stays g (class_in class) m) y) (eb ∙ goes_are g edges left fixed class m state kept lf lt),
    )

-- ---- moves joined one after the other

module _ (k : ℕ) (g : Graph) (moves : Moves) (first : ℕ → ℕ) where
  pub none_joined : IsJoinedSoFar k g moves first [] first
  none_joined = record { more = λ rest j. j; after = λ rest. refl }

  pub one_joined : (joins joins' : List ℕ) (class class' : ℕ → ℕ) (j : ℕ) → IsJoinedSoFar k g moves first joins class → j < moves.count
      → MayJoinMove k g class (moves.at j)
      → class' ≡ after_move g class (moves.at j) → joins' ≡ joins ++ j ∷ [] → IsJoinedSoFar k g moves first joins' class'
  one_joined joins joins' class class' j so lt may e grown =
      record {
        more = λ rest s.
            subst (λ (l : List ℕ). JoinsFrom k g moves first l) (longer rest)
            (so.more (j ∷ rest) (lt, may, subst (λ (f : ℕ → ℕ). JoinsFrom k g moves f rest) e s));
        after = λ rest.
            sym (ap (after_joins g moves first) (longer rest)) ∙ so.after (j ∷ rest) ∙ sym (ap (λ (f : ℕ → ℕ). after_joins g moves f rest) e);
      }
    where
      longer : (rest : List ℕ) → joins ++ (j ∷ rest) ≡ joins' ++ rest
      longer rest = sym (append_assoc joins (j ∷ []) rest) ∙ sym (ap (λ (l : List ℕ). l ++ rest) grown)

-- nothing was changed
pub kept_unchanged : (g : Graph) (edges edges' : EdgeSet) (left left' fixed : List Bool) (class class' : List ℕ) → edges' ≡ edges → left' ≡ left
    → class' ≡ class
    → IsKept g edges left fixed class → IsKept g edges' left' fixed class'
kept_unchanged g edges edges' left left' fixed class class' er el ec kept =
    subst (λ (r : EdgeSet). IsKept g r left' fixed class') (sym er)
    (subst (λ (l : List Bool). IsKept g edges l fixed class') (sym el) (subst (λ (c : List ℕ). IsKept g edges left fixed c) (sym ec) kept))

-- a pass that joins leaves fewer classes, and one that doesn't is the last
pub pass_falls : (going any : Bool) (m n : ℕ) → going ≡ true → (any ≡ true → n < m) → n ≤ m → n + one any < m + one going
pass_falls going true m n e fewer le = let was : one going ≡ 1 = ap one e in let lt = fewer refl in omega arith
pass_falls going false m n e fewer le = let was : one going ≡ 1 = ap one e in omega arith
