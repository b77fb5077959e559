-- The kept graph when a class is taken away.
use Rattle.std.proofs.Common.{◌≡◌, ℕ, ◌<◌, Bool, true, false, inl, inr, List, length, arith, sym, ◌∙◌, ap, subst, get_or-set_same, get_or-set_other, length-set}
use Rattle.std.specs.Prelude.{slice_index_or, slice_set}
use Rattle.std.proofs.lemmas.Bool.{cases_eq}
use Rattle.air_graph.specs.Edges.{EdgeSet}
use Rattle.air_colour.specs.Interference.{Graph, one, count, take_away}
use Rattle.air_colour.specs.Kept.{has, graph_of}
use Rattle.air_colour.proofs.Counting.{but, but_same, but_gone, count_same, count_without}
use std.Path.{fun_ext}

-- whether a class is left
abbrev pub is_left : List Bool → ℕ → Bool
is_left left x = slice_index_or left x false

pub left_taken : (left : List Bool) (a x : ℕ) → a < length left → is_left (slice_set left a false) x ≡ but (is_left left) a x
left_taken left a x lt =
    elim (cases_eq x a) [
      | inl e ↦ subst (λ (y : ℕ). is_left (slice_set left a false) y ≡ but (is_left left) a y) (sym e) (get_or-set_same left a false false lt
          ∙ sym (but_gone (is_left left) a))
      | inr ne ↦ get_or-set_other left a x false false ne ∙ sym (but_same (is_left left) a x ne)
    ]

abbrev with : EdgeSet → List Bool → (ℕ → Bool) → ℕ → Graph
with edges fixed h n = record { names = n; has = h; register = λ x. slice_index_or fixed x false; meets = has edges }

-- fewer are left
pub fewer_left : (left : List Bool) (a : ℕ) → a < length left → is_left left a ≡ true
    → count (is_left (slice_set left a false)) (length (slice_set left a false)) < count (is_left left) (length left)
fewer_left left a lt t =
    let same_length = length-set left a false in
    let split = count_without (is_left left) a (length left) lt in
    let here : one (is_left left a) ≡ 1 = ap one t in
    let same : count (is_left (slice_set left a false)) (length left) ≡ count (but (is_left left) a) (length left)
    = count_same (is_left (slice_set left a false)) (but (is_left left) a) (length left) (λ x _. left_taken left a x lt) in
    rw same_length (omega arith)

pub graph_taken : (edges : EdgeSet) (left fixed : List Bool) (a : ℕ) → a < length left
    → graph_of edges (slice_set left a false) fixed ≡ take_away (graph_of edges left fixed) a
graph_taken edges left fixed a lt =
    ap (λ (n : ℕ). with edges fixed (is_left (slice_set left a false)) n) (length-set left a false) ∙ ap (λ (h : ℕ
    → Bool). with edges fixed h (length left)) (fun_ext (λ x. left_taken left a x lt))
