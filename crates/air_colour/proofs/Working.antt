-- Degrees and the list of classes that can go, as a class is taken away.
use Rattle.std.proofs.Common.{◌≡◌, ℕ, zero, suc, ◌+◌, ◌-◌, ◌<◌, ◌≤◌, ◌⊎◌, inl, inr, Bool, true, false, not, ◌&&◌, eqb, List, [], ◌∷◌, ◌++◌, length, get_or, take, arith, refl, sym, ap, ◌∙◌, subst, length-set}
use Rattle.std.specs.Prelude.{Contains, slice_set, slice_index_or}
use Rattle.std.proofs.lemmas.Bool.{cases_eq, cases_lt, false≢true, false_from_ne_true}
use Rattle.std.proofs.lemmas.List.{get_or-set_other, get_or-set_same}
use Rattle.std.proofs.lemmas.List.Elements.{Contains-append_left, Contains-get_or, Contains-push, Contains-push_cases}
use Rattle.b3_base.proofs.Booleans.{same_tests}
use Rattle.air_graph.specs.Edges.{IsOnce, EdgeSet}
use Rattle.air_graph.specs.Walk.{in_list}
use Rattle.air_graph.proofs.Adding.{contains_more, listed}
use Rattle.air_graph.proofs.Beside.{edge_back}
use Rattle.air_graph.proofs.Numbers.{In, from_in, to_in}
use Rattle.air_colour.specs.Easy.{IsEmptied}
use Rattle.air_colour.specs.Choosing.{IsNext}
use Rattle.air_colour.specs.Interference.{Graph, count, one}
use Rattle.air_colour.specs.Kept.{graph_of, has, neighbours_left}
use Rattle.air_colour.specs.Worklist.{AreDegrees, AreLow, HasLow, IsLow, IsPassed, degree_in}
use Rattle.air_colour.proofs.Counting.{but, count_same, count_without}
use Rattle.air_colour.proofs.KeptGraph.{left_taken}

-- ---- lists

-- an element stands at one place of a list without repetition
pub not_before : (list : List ℕ) (k : ℕ) → IsOnce list → k < length list → Contains (take k list) (get_or list k 0) → ⊥
unfolding IsOnce In
not_before [] k once lt c = absurd (omega (arith, lt))
not_before (x ∷ xs) zero once lt c = let l = c.1 in omega (arith, l)
not_before (x ∷ xs) (suc k) (first, more) lt c =
    let there : k < length xs = omega (arith, lt) in
    elim (to_in (x ∷ take k xs) (get_or xs k 0) c) [
      | inl e ↦ first (subst (λ (z : ℕ). Contains xs z) (sym e) (Contains-get_or xs k 0 there))
      | inr i ↦ not_before xs k more there (from_in (take k xs) (get_or xs k 0) i)
    ]

-- ---- degrees are lowered

module _ (near now init : List ℕ) (k : ℕ) (once : IsOnce near) (lt : k < length near)
    (so_far : (y : ℕ) → degree_in now y + one (in_list (take k near) y) ≡ degree_in init y) where
  abbrev x : ℕ
  x = get_or near k 0

  not_yet : in_list (take k near) x ≡ false
  not_yet = false_from_ne_true (in_list (take k near) x) (λ t. not_before near k once lt ((listed (take k near) x).0 t))

  pub now_same : degree_in now x ≡ degree_in init x
  now_same = let e = so_far x in let z : one (in_list (take k near) x) ≡ 0 = ap one not_yet in omega (arith, e, z)

  then_listed : in_list (take (k + 1) near) x ≡ true
  then_listed = (listed (take (k + 1) near) x).1 ((contains_more near k 0 x lt).1 (inr refl))

  others_same : (y : ℕ) → (y ≡ x → ⊥) → in_list (take (k + 1) near) y ≡ in_list (take k near) y
  others_same y ne =
      same_tests (in_list (take (k + 1) near) y) (in_list (take k near) y)
      (λ t. elim ((contains_more near k 0 y lt).0 ((listed (take (k + 1) near) y).0 t)) [
        | inl i ↦ (listed (take k near) y).1 i
        | inr e ↦ absurd (ne e)
      ])
      (λ t. (listed (take (k + 1) near) y).1 ((contains_more near k 0 y lt).1 (inl ((listed (take k near) y).0 t))))

  module _ (there : x < length now) (some : 0 < degree_in init x) where
    abbrev next : List ℕ
    next = slice_set now x (degree_in now x - 1)

    at_x : degree_in next x ≡ degree_in now x - 1
    at_x = get_or-set_same now x (degree_in now x - 1) 0 there

    at_other : (y : ℕ) → (y ≡ x → ⊥) → degree_in next y ≡ degree_in now y
    at_other y ne = get_or-set_other now x y (degree_in now x - 1) 0 ne

    pub lower_step : (y : ℕ) → degree_in next y + one (in_list (take (k + 1) near) y) ≡ degree_in init y
    lower_step y =
        elim (cases_eq y x) [
          | inl e ↦ subst (λ (z : ℕ). degree_in next z + one (in_list (take (k + 1) near) z) ≡ degree_in init z) (sym e)
              (let o : one (in_list (take (k + 1) near) x) ≡ 1 = ap one then_listed in
              let a = at_x in let s = now_same in omega (arith, o, a, s, some))
          | inr ne ↦
              let o : one (in_list (take (k + 1) near) y) ≡ one (in_list (take k near) y) = ap one (others_same y ne) in
              let a = at_other y ne in let s = so_far y in omega (arith, o, a, s)
        ]

    fewer : (y : ℕ) → degree_in next y ≤ degree_in now y
    fewer y =
        elim (cases_eq y x) [
          | inl e ↦ subst (λ (z : ℕ). degree_in next z ≤ degree_in now z) (sym e) (let a = at_x in omega (arith, a))
          | inr ne ↦ let a = at_other y ne in omega (arith, a)
        ]

    -- the list goes on
    module _ (m n : ℕ) (fixed : List Bool) (first low low' : List ℕ) (below : x < n)
        (fresh : (y : ℕ) → IsLow m n fixed now y → m ≤ degree_in init y → Contains low y)
        (only : (y : ℕ) → Contains low y → Contains first y ⊎ IsLow m n fixed now y) where
      lower_low : (y : ℕ) → IsLow m n fixed now y → IsLow m n fixed next y
      lower_low y is = record { below = is.below; free = is.free; few = let f = fewer y in let few = is.few in omega (arith, f, few) }

      pub pushed_fresh : low' ≡ low ++ x ∷ [] → (y : ℕ) → IsLow m n fixed next y → m ≤ degree_in init y → Contains low' y
      pushed_fresh e y is le =
          subst (λ (l : List ℕ). Contains l y) (sym e) (elim (cases_eq y x) [
            | inl s ↦ subst (λ (z : ℕ). Contains (low ++ x ∷ []) z) (sym s) (Contains-push low x)
            | inr ne ↦ Contains-append_left low (x ∷ []) y
                (fresh y (record { below = is.below; free = is.free; few = let a = at_other y ne in let few = is.few in omega (arith, a, few) }) le)
          ])

      pub pushed_only : low' ≡ low ++ x ∷ [] → degree_in now x - 1 + 1 ≡ m → slice_index_or fixed x false ≡ false → (y : ℕ) → Contains low' y
          → Contains first y ⊎ IsLow m n fixed next y
      pushed_only e is free y c =
          elim (Contains-push_cases low x y (subst (λ (l : List ℕ). Contains l y) e c)) [
            | inl i ↦ elim (only y i) [ inl f ↦ inl f | inr l ↦ inr (lower_low y l) ]
            | inr s ↦ inr (subst (λ (z : ℕ). IsLow m n fixed next z) s
                (record { below = below; free = free; few = let a = at_x in omega (arith, a, is) }))
          ]

      pub left_fresh : low' ≡ low → ((degree_in now x - 1 + 1 ≡ m) × (slice_index_or fixed x false ≡ false) → ⊥) → (y : ℕ)
          → IsLow m n fixed next y → m ≤ degree_in init y → Contains low' y
      left_fresh e none y is le =
          subst (λ (l : List ℕ). Contains l y) (sym e) (elim (cases_eq y x) [
            | inl s ↦
                let is' : IsLow m n fixed next x = subst (λ (z : ℕ). IsLow m n fixed next z) s is in
                let le' : m ≤ degree_in init x = subst (λ (z : ℕ). m ≤ degree_in init z) s le in
                let few = is'.few in let a = at_x in let same = now_same in
                absurd (none (omega (arith, few, a, same, le', some), is'.free))
            | inr ne ↦ fresh y (record { below = is.below; free = is.free; few = let a = at_other y ne in let few = is.few in omega (arith, a, few) }) le
          ])

      pub left_only : low' ≡ low → (y : ℕ) → Contains low' y → Contains first y ⊎ IsLow m n fixed next y
      left_only e y c =
          elim (only y (subst (λ (l : List ℕ). Contains l y) e c)) [ inl f ↦ inl f | inr l ↦ inr (lower_low y l) ]

-- ---- a class is taken away

module _ (k : ℕ) (edges : EdgeSet) (left fixed : List Bool) (degrees : List ℕ) (is : AreDegrees edges left degrees) where
  abbrev G : Graph
  G = graph_of edges left fixed

  module _ (low : List ℕ) (all : AreLow k (length left) fixed degrees low) (has_low : HasLow k left fixed degrees low (λ x. ⊥)) where
    pub next_of : (a : ℕ) → a < length left → slice_index_or left a false ≡ true → slice_index_or fixed a false ≡ false
        → Contains low a ⊎ ((x : ℕ) → Contains low x → slice_index_or left x false ≡ false) → IsNext k G a
    next_of a lt there free either = record {
      is_in = (lt, there);
      free = free;
      either = elim either [
        | inl c ↦ inl (let few = (all a c).few in let same = is.are a lt in omega (arith, few, same))
        | inr none ↦ inr (λ x go.
            let few : degree_in degrees x < k = let f = go.few in let same = is.are x go.is_in.0 in omega (arith, f, same) in
            let low_x : IsLow k (length left) fixed degrees x = record { below = go.is_in.0; free = go.free; few = few } in
            false≢true (sym (none x (has_low x go.is_in.1 low_x (λ z. z))) ∙ go.is_in.1))
      ];
    }

  pub emptied_of : IsPassed left fixed (length left) → IsEmptied G
  emptied_of passed a there = passed a there.0 there.1

  -- the degrees without one class
  module _ (a : ℕ) (lt : a < length left) (there : slice_index_or left a false ≡ true) where
    abbrev left' : List Bool
    left' = slice_set left a false

    rest_same : (x : ℕ) → count (but (λ b. slice_index_or left b false && has edges x b) a) (length left) ≡ neighbours_left edges left' x
    rest_same x =
        count_same (but (λ b. slice_index_or left b false && has edges x b) a) (λ b. slice_index_or left' b false && has edges x b) (length left)
        (λ b _. turn (slice_index_or left b false) (has edges x b) (not (eqb b a)) ∙ ap (λ (t : Bool). t && has edges x b) (sym (left_taken left a b lt)))
        ∙ ap (count (λ b. slice_index_or left' b false && has edges x b)) (sym (length-set left a false))
      where
        turn : (l h o : Bool) → ((l && h) && o) ≡ ((l && o) && h)
        turn true true true = refl
        turn true true false = refl
        turn true false true = refl
        turn true false false = refl
        turn false h o = refl

    pub one_less : (x : ℕ) → neighbours_left edges left x ≡ one (has edges a x) + neighbours_left edges left' x
    one_less x =
        count_without (λ b. slice_index_or left b false && has edges x b) a (length left) lt
        ∙ ap (λ (b : Bool). one (b && has edges x a) + count (but (λ b. slice_index_or left b false && has edges x b) a) (length left)) there
        ∙ ap (λ (b : Bool). one b + count (but (λ b. slice_index_or left b false && has edges x b) a) (length left)) (edge_back edges x a)
        ∙ ap (λ (m : ℕ). one (has edges a x) + m) (rest_same x)

    pub some_left : (x : ℕ) → x < length left → has edges a x ≡ true → 0 < degree_in degrees x
    some_left x lx t =
        let e = one_less x in let o : one (has edges a x) ≡ 1 = ap one t in let same = is.are x lx in
        omega (arith, e, o, same)

    module _ (degrees' : List ℕ) (long : length degrees' ≡ length degrees)
        (lower : (x : ℕ) → degree_in degrees' x + one (has edges a x) ≡ degree_in degrees x) where
      pub lowered : AreDegrees edges left' degrees'
      lowered = record {
        long = long ∙ is.long ∙ sym (length-set left a false);
        are = λ x lx.
            let e = one_less x in let s = lower x in
            let same = is.are x (let l = length-set left a false in omega (arith, lx, l)) in
            omega (arith, e, s, same);
      }

      module _ (old low low' : List ℕ) (all : AreLow k (length left) fixed degrees old) (has_low : HasLow k left fixed degrees old (λ x. ⊥))
          (kept : (x : ℕ) → Contains low x → Contains old x)
          (rest : (x : ℕ) → slice_index_or left x false ≡ true → (x ≡ a → ⊥) → Contains old x → Contains low x)
          (more : (x : ℕ) → Contains low x → Contains low' x)
          (fresh : (x : ℕ) → IsLow k (length left) fixed degrees' x → k ≤ degree_in degrees x → Contains low' x)
          (only : (x : ℕ) → Contains low' x → Contains low x ⊎ IsLow k (length left) fixed degrees' x) where
        same_long : length left' ≡ length left
        same_long = length-set left a false

        pub still_low : AreLow k (length left') fixed degrees' low'
        still_low x c =
            let l = same_long in
            elim (only x c) [
              | inl i ↦
                  let was = all x (kept x i) in let s = lower x in let few = was.few in let b = was.below in
                  record { below = omega (arith, b, l); free = was.free; few = omega (arith, s, few) }
              | inr is ↦ let b = is.below in record { below = omega (arith, b, l); free = is.free; few = is.few }
            ]

        pub still_all : HasLow k left' fixed degrees' low' (λ x. ⊥)
        still_all x t is _ =
            let l = same_long in
            let b = is.below in
            let bx : x < length left = omega (arith, b, l) in
            let ne : x ≡ a → ⊥ = λ e. false≢true (sym (get_or-set_same left a false false lt) ∙ subst (λ (z : ℕ). slice_index_or left' z false ≡ true) e t) in
            let t' : slice_index_or left x false ≡ true = sym (get_or-set_other left a x false false ne) ∙ t in
            elim (cases_lt (degree_in degrees x) k) [
              | inl few ↦ more x (rest x t' ne (has_low x t' (record { below = bx; free = is.free; few = few }) (λ z. z)))
              | inr le ↦ fresh x (record { below = bx; free = is.free; few = is.few }) le
            ]

    pub still_passed : (high : ℕ) → IsPassed left fixed high → IsPassed left' fixed high
    still_passed high passed x lx t =
        elim (cases_eq x a) [
          | inl e ↦ absurd (false≢true (sym (get_or-set_same left a false false lt) ∙ subst (λ (z : ℕ). slice_index_or left' z false ≡ true) e t))
          | inr ne ↦ passed x lx (sym (get_or-set_other left a x false false ne) ∙ t)
        ]
