-- Edges one after the other, as two classes are joined.
use Rattle.std.proofs.Common.{◌≡◌, ℕ, ◌+◌, ◌<◌, ◌⊎◌, inl, inr, ◌↔◌, true, false, not, ◌&&◌, List, get_or, length, take, arith, sym, ◌∙◌, subst}
use Rattle.std.specs.Prelude.{Contains, filter, slice_index_or, Bool}
use Rattle.std.proofs.lemmas.Bool.{and_from, cases_Bool, not_from_false}
use Rattle.air_graph.specs.Edges.{ArePair, EdgeSet}
use Rattle.air_graph.proofs.Adding.{contains_more, filtered}
use Rattle.air_graph.proofs.Beside.{edge_back}
use Rattle.air_colour.specs.Kept.{JoinedTo, has}

pub none_joined_to : (old : EdgeSet) (a : ℕ) (near : List ℕ) (y z : ℕ) → JoinedTo old old a (take 0 near) y z
none_joined_to old a near y z = (
  λ t. inl t,
  λ t. elim t [
    | inl u ↦ u
    | inr u ↦ elim u [
      | inl q ↦ absurd (none q.1)
      | inr q ↦ absurd (none q.1)
    ]
  ],
)
  where
    none : {x : ℕ} → Contains (take 0 near) x → ⊥
    none c = let lt = c.1 in omega (arith, lt)

pub joined_more : (old m new : EdgeSet) (a : ℕ) (near : List ℕ) (k : ℕ) → k < length near
    → ((y z : ℕ) → JoinedTo old m a (take k near) y z)
    → ((y z : ℕ) → (has new y z ≡ true) ↔ ((has m y z ≡ true) ⊎ ArePair a (get_or near k 0) y z))
    → (y z : ℕ) → JoinedTo old new a (take (k + 1) near) y z
joined_more old m new a near k lt so_far added y z =
    let at_y = contains_more near k 0 y lt in
    let at_z = contains_more near k 0 z lt in (
      λ t. elim ((added y z).0 t) [
        | inl u ↦ elim ((so_far y z).0 u) [
          | inl v ↦ inl v
          | inr v ↦ inr (elim v [ inl q ↦ inl (q.0, at_z.1 (inl q.1)) | inr q ↦ inr (q.0, at_y.1 (inl q.1)) ])
        ]
        | inr p ↦ inr (elim p [ inl q ↦ inl (q.0, at_z.1 (inr q.1)) | inr q ↦ inr (q.1, at_y.1 (inr q.0)) ])
      ],
      λ t. (added y z).1 (elim t [
        | inl u ↦ inl ((so_far y z).1 (inl u))
        | inr v ↦ elim v [
          | inl q ↦ elim (at_z.0 q.1) [
            | inl i ↦ inl ((so_far y z).1 (inr (inl (q.0, i))))
            | inr e ↦ inr (inl (q.0, e))
          ]
          | inr q ↦ elim (at_y.0 q.1) [
            | inl i ↦ inl ((so_far y z).1 (inr (inr (q.0, i))))
            | inr e ↦ inr (inr (e, q.0))
          ]
        ]
      ]),
    )

-- where the class had an edge already none is added, and none to a class that is gone
module _ (old new : EdgeSet) (left : List Bool) (a b : ℕ) (near fresh : List ℕ) (are : (x : ℕ) → Contains near x ↔ (has old b x ≡ true))
    (e : fresh ≡ filter (λ x. slice_index_or left x false && not (has old a x)) near)
    (joined : (y z : ℕ) → JoinedTo old new a fresh y z) where
  pub fresh_near : (x : ℕ) → Contains fresh x → Contains near x
  fresh_near x c = ((filtered (λ y. slice_index_or left y false && not (has old a y)) near x).0 (subst (λ (l : List ℕ). Contains l x) e c)).0

  near_fresh : (x : ℕ) → slice_index_or left x false ≡ true → has old b x ≡ true → (has old a x ≡ true) ⊎ Contains fresh x
  near_fresh x lx t = elim (cases_Bool (has old a x)) [
    | inl u ↦ inl u
    | inr f ↦ inr (subst (λ (l : List ℕ). Contains l x) (sym e) ((filtered (λ y. slice_index_or left y false && not (has old a y)) near x).1
        ((are x).1 t, and_from (slice_index_or left x false) (not (has old a x)) lx (not_from_false (has old a x) f))))
  ]

  pub joined_left : (y z : ℕ) → slice_index_or left y false ≡ true → slice_index_or left z false ≡ true
      → (has new y z ≡ true) ↔ ((has old y z ≡ true) ⊎ (((y ≡ a) × (has old b z ≡ true)) ⊎ ((z ≡ a) × (has old b y ≡ true))))
  joined_left y z ly lz = (
    λ t. elim ((joined y z).0 t) [
      | inl u ↦ inl u
      | inr v ↦ inr (elim v [
        | inl q ↦ inl (q.0, (are z).0 (fresh_near z q.1))
        | inr q ↦ inr (q.0, (are y).0 (fresh_near y q.1))
      ])
    ],
    λ t. elim t [
      | inl u ↦ (joined y z).1 (inl u)
      | inr v ↦ elim v [
        | inl q ↦ elim (near_fresh z lz q.1) [
          | inl u ↦ (joined y z).1 (inl (subst (λ (x : ℕ). has old x z ≡ true) (sym q.0) u))
          | inr c ↦ (joined y z).1 (inr (inl (q.0, c)))
        ]
        | inr q ↦ elim (near_fresh y ly q.1) [
          | inl u ↦ (joined y z).1 (inl (subst (λ (x : ℕ). has old y x ≡ true) (sym q.0) (edge_back old y a ∙ u)))
          | inr c ↦ (joined y z).1 (inr (inr (q.0, c)))
        ]
      ]
    ],
  )
