-- The registers that are barred from a class, marked neighbour by neighbour.
use Rattle.std.proofs.Common.{◌≡◌, ℕ, ◌+◌, ◌<◌, ◌↔◌, ◌⊎◌, inl, inr, Bool, true, false, Option, Some, List, length, get_or, take, arith, refl, sym, ◌∙◌, ap, slice_index_or}
use Rattle.std.specs.Prelude.{Contains}
use Rattle.std.proofs.lemmas.Bool.{false≢true}
use Rattle.air_graph.specs.Edges.{EdgeSet, IsListOf}
use Rattle.air_graph.proofs.Adding.{contains_more}
use Rattle.air_colour.specs.Kept.{given_in, has, IsTaken}

-- a class of the list is given the register
abbrev pub IsGivenIn : List (Option ℕ) → List ℕ → ℕ → Type 0
IsGivenIn given near r = (y : ℕ) × Contains near y × (given_in given y ≡ Some r)

-- the marks are those of the classes of a list
abbrev pub AreBars : List Bool → List (Option ℕ) → List ℕ → Type 0
AreBars bars given near = (r : ℕ) → r < length bars → (slice_index_or bars r false ≡ true) ↔ IsGivenIn given near r

pub bars_none : (bars : List Bool) (given : List (Option ℕ)) (near : List ℕ) → ((r : ℕ) → slice_index_or bars r false ≡ false)
    → AreBars bars given (take 0 near)
bars_none bars given near clear r lt = (
  λ t. absurd (false≢true (sym (clear r) ∙ t)),
  λ by. absurd (let less = by.1.1 in omega (arith, less)),
)

pub bars_more : (bars bars' : List Bool) (given : List (Option ℕ)) (near : List ℕ) (i : ℕ) → i < length near → length bars' ≡ length bars
    → AreBars bars given (take i near)
    → ((r : ℕ) → r < length bars
    → (slice_index_or bars' r false ≡ true) ↔ ((slice_index_or bars r false ≡ true) ⊎ (given_in given (get_or near i 0) ≡ Some r)))
    → AreBars bars' given (take (i + 1) near)
bars_more bars bars' given near i lt long are step r lr =
    let lr' : r < length bars = omega arith in (
      λ t. elim ((step r lr').0 t) [
        | inl old ↦ let by = (are r lr').0 old in (by.0, (contains_more near i 0 by.0 lt).1 (inl by.1), by.2)
        | inr e ↦ (get_or near i 0, (contains_more near i 0 (get_or near i 0) lt).1 (inr refl), e)
      ],
      λ by. (step r lr').1 (elim ((contains_more near i 0 by.0 lt).0 by.1) [
        | inl old ↦ inl ((are r lr').1 (by.0, old, by.2))
        | inr e ↦ inr (ap (given_in given) (sym e) ∙ by.2)
      ]),
    )

pub bars_all : (edges : EdgeSet) (bars : List Bool) (given : List (Option ℕ)) (near : List ℕ) (a : ℕ) → IsListOf (has edges a) near
    → ((x : ℕ) → Contains near x → x < length given) → AreBars bars given near
    → (r : ℕ) → r < length bars → (slice_index_or bars r false ≡ true) ↔ IsTaken edges given a r
bars_all edges bars given near a is below are r lt = (
  λ t. let by = (are r lt).0 t in (by.0, below by.0 by.1, (is.all by.0).0 by.1, by.2),
  λ by. (are r lt).1 (by.0, (is.all by.0).1 by.2, by.3),
)
