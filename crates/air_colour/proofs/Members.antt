-- The members of a class go into another one.
use Rattle.std.proofs.Common.{◌≡◌, ℕ, ◌+◌, ◌<◌, ◌⊎◌, inl, inr, cond, List, [], ◌∷◌, ◌++◌, length, get_or, take, arith, sym, ◌∙◌, ap, subst, slice_index_or}
use Rattle.std.specs.Prelude.{◌==◌, Contains}
use Rattle.std.proofs.lemmas.Bool.{cases_eq, cases_lt}
use Rattle.std.proofs.lemmas.List.{get_or_past}
use Rattle.std.proofs.lemmas.List.Elements.{Contains-append_cases, Contains-append_left, Contains-append_right, Contains-push, Contains-push_cases}
use Rattle.b3_base.proofs.Lists.{Contains-none}
use Rattle.air_graph.proofs.Adding.{contains_more}
use Rattle.air_colour.specs.Classes.{merged}
use Rattle.air_colour.specs.Members.{AreMembers}
use Rattle.air_colour.specs.Progress.{class_in}
use Rattle.air_colour.proofs.Merging.{merged_cases}

-- the list of a home
abbrev pub list_of : List (List ℕ) → ℕ → List ℕ
list_of members c = slice_index_or members c []

-- lists that are as they were
pub members_same : (class : List ℕ) (members members' : List (List ℕ)) (a : ℕ) → length members' ≡ length members
    → ((c : ℕ) → (c ≡ a → ⊥) → list_of members' c ≡ list_of members c) → list_of members' a ≡ list_of members a → AreMembers class members
    → AreMembers class members'
members_same class members members' a long others here are = record {
  long = long ∙ are.long;
  all = λ u lt ne. subst (λ (l : List ℕ). Contains l u) (sym (same (class_in class u))) (are.all u lt ne);
  below = λ c u i. are.below c u (subst (λ (l : List ℕ). Contains l u) (same c) i);
}
  where
    same : (c : ℕ) → list_of members' c ≡ list_of members c
    same c = elim (cases_eq c a) [
      | inl e ↦ ap (list_of members') e ∙ here ∙ sym (ap (list_of members) e)
      | inr ne ↦ others c ne
    ]

-- ---- homes are relabelled one after the other

module _ (first class class' : ℕ → ℕ) (a b u : ℕ) (either : (x : ℕ) → (class x ≡ first x) ⊎ (class x ≡ merged first a b x))
    (here : class' u ≡ merged class a b u) (others : (x : ℕ) → (x ≡ u → ⊥) → class' x ≡ class x) where
  here_merged : class' u ≡ merged first a b u
  here_merged = here ∙ twice (merged_cases class a b u) (merged_cases first a b u)
    where
      twice : ((class u ≡ b) × (merged class a b u ≡ a)) ⊎ ((class u ≡ b → ⊥) × (merged class a b u ≡ class u))
          → ((first u ≡ b) × (merged first a b u ≡ a)) ⊎ ((first u ≡ b → ⊥) × (merged first a b u ≡ first u))
          → merged class a b u ≡ merged first a b u
      twice p q = elim (either u) [
        | inl e ↦ ap (λ (c : ℕ). cond (c == b) a c) e
        | inr e ↦ elim p [
          | inr n ↦ n.1 ∙ e
          | inl m ↦ elim q [
            | inl f ↦ m.1 ∙ sym f.1
            | inr f ↦ absurd (f.0 (sym f.1 ∙ sym e ∙ m.0))
          ]
        ]
      ]

  pub relabelled_either : (x : ℕ) → (class' x ≡ first x) ⊎ (class' x ≡ merged first a b x)
  relabelled_either x = elim (cases_eq x u) [
    | inl e ↦ inr (subst (λ (z : ℕ). class' z ≡ merged first a b z) (sym e) here_merged)
    | inr ne ↦ elim (either x) [ inl e ↦ inl (others x ne ∙ e) | inr e ↦ inr (others x ne ∙ e) ]
  ]

  pub relabelled_those : (homes : List ℕ) (i : ℕ) → i < length homes → u ≡ get_or homes i 0
      → ((x : ℕ) → Contains (take i homes) x → class x ≡ merged first a b x)
      → (x : ℕ) → Contains (take (i + 1) homes) x → class' x ≡ merged first a b x
  relabelled_those homes i lt is those x there = elim (cases_eq x u) [
    | inl e ↦ subst (λ (z : ℕ). class' z ≡ merged first a b z) (sym e) here_merged
    | inr ne ↦ others x ne ∙ elim ((contains_more homes i 0 x lt).0 there) [
      | inl old ↦ those x old
      | inr e ↦ absurd (ne (e ∙ sym is))
    ]
  ]

-- ---- the members of class b go into class a

module _ (class : List ℕ) (members : List (List ℕ)) (a b : ℕ) (going : List ℕ) (are : AreMembers class members) (lb : b < length class)
    (going_is : going ≡ list_of members b ++ b ∷ []) where
  all_going : (u : ℕ) → class_in class u ≡ b → Contains going u
  all_going u e = subst (λ (l : List ℕ). Contains l u) (sym going_is) (elim (cases_eq u b) [
    | inl same ↦ subst (λ (z : ℕ). Contains (list_of members b ++ b ∷ []) z) (sym same) (Contains-push (list_of members b) b)
    | inr ne ↦ elim (cases_lt u (length class)) [
      | inl lt ↦ Contains-append_left (list_of members b) (b ∷ []) u
          (subst (λ (c : ℕ). Contains (list_of members c) u) e (are.all u lt (λ s. ne (sym s ∙ e))))
      | inr le ↦ absurd (ne (sym (get_or_past class u u le) ∙ e))
    ]
  ])

  pub going_below : (u : ℕ) → Contains going u → u < length class
  going_below u i = elim (Contains-push_cases (list_of members b) b u (subst (λ (l : List ℕ). Contains l u) going_is i)) [
    | inl j ↦ are.below b u j
    | inr e ↦ subst (λ (z : ℕ). z < length class) e lb
  ]

  module _ (class' : List ℕ) (those : (u : ℕ) → Contains going u → class_in class' u ≡ merged (class_in class) a b u)
      (either : (u : ℕ) → (class_in class' u ≡ class_in class u) ⊎ (class_in class' u ≡ merged (class_in class) a b u)) where
    pub all_merged : (u : ℕ) → class_in class' u ≡ merged (class_in class) a b u
    all_merged u = elim (merged_cases (class_in class) a b u) [
      | inl p ↦ those u (all_going u p.0)
      | inr p ↦ elim (either u) [ inl e ↦ e ∙ sym p.1 | inr e ↦ e ]
    ]

    module _ (members' members'' : List (List ℕ)) (differ : a ≡ b → ⊥) (long : length class' ≡ length class)
        (long' : length members' ≡ length members) (others : (c : ℕ) → (c ≡ a → ⊥) → list_of members' c ≡ list_of members c)
        (grown : list_of members' a ≡ list_of members a ++ going)
        (long'' : length members'' ≡ length members') (others' : (c : ℕ) → (c ≡ b → ⊥) → list_of members'' c ≡ list_of members' c)
        (emptied : list_of members'' b ≡ []) where
      -- a member stays in its list, if that isn't emptied
      still_in : (c u : ℕ) → (c ≡ b → ⊥) → Contains (list_of members c) u → Contains (list_of members'' c) u
      still_in c u ne i = subst (λ (l : List ℕ). Contains l u) (sym (others' c ne)) (elim (cases_eq c a) [
        | inl e ↦ subst (λ (z : ℕ). Contains (list_of members' z) u) (sym e)
            (subst (λ (l : List ℕ). Contains l u) (sym grown) (Contains-append_left (list_of members a) going u
            (subst (λ (z : ℕ). Contains (list_of members z) u) e i)))
        | inr nea ↦ subst (λ (l : List ℕ). Contains l u) (sym (others c nea)) i
      ])

      now_in : (u : ℕ) → class_in class u ≡ b → Contains (list_of members'' a) u
      now_in u e = subst (λ (l : List ℕ). Contains l u) (sym (others' a differ ∙ grown)) (Contains-append_right (list_of members a) going u (all_going u e))

      in_below : (c u : ℕ) → Contains (list_of members'' c) u → u < length class
      in_below c u i = elim (cases_eq c b) [
        | inl e ↦ absurd (Contains-none u (subst (λ (l : List ℕ). Contains l u) (ap (list_of members'') e ∙ emptied) i))
        | inr ne ↦ elim (cases_eq c a) [
          | inl e ↦ elim (Contains-append_cases (list_of members a) going u
              (subst (λ (l : List ℕ). Contains l u) (others' c ne ∙ ap (list_of members') e ∙ grown) i)) [
                | inl j ↦ are.below a u j
                | inr j ↦ going_below u j
              ]
          | inr nea ↦ are.below c u (subst (λ (l : List ℕ). Contains l u) (others' c ne ∙ others c nea) i)
        ]
      ]

      pub members_merged : AreMembers class' members''
      members_merged = record {
        long = long'' ∙ long' ∙ are.long ∙ sym long;
        all = λ u lt ne. elim (merged_cases (class_in class) a b u) [
          | inl p ↦ subst (λ (c : ℕ). Contains (list_of members'' c) u) (sym (all_merged u ∙ p.1)) (now_in u p.0)
          | inr p ↦
              let same : class_in class' u ≡ class_in class u = all_merged u ∙ p.1 in
              subst (λ (c : ℕ). Contains (list_of members'' c) u) (sym same) (still_in (class_in class u) u p.0
              (are.all u (omega (arith, lt, long)) (λ e. ne (same ∙ e))))
        ];
        below = λ c u i. let lt = in_below c u i in omega (arith, lt, long);
      }
