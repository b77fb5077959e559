-- A block whose values are taken out one by one.
use Rattle.std.proofs.Common.{◌≡◌, ℕ, zero, suc, ◌+◌, ◌<◌, List, [], ◌∷◌, length, set, remove, None, Some, slice_get, slice_index_or, refl, sym, ap, ◌∙◌, arith}
use Rattle.std.proofs.lemmas.List.{get_or-set_same, length-set}
use Rattle.std.proofs.lemmas.List.Edits.{length-remove}
use Rattle.std.proofs.lemmas.Option.{slice_get_within}
use Rattle.b3_ir.specs.declared.value.Value.{Value}
use Rattle.b3_ir.specs.Procedure.{Block, Kept, Procedure, no_block, nodes_of, values_of, with_values}

set_twice : {X : Type 0} (xs : List X) (i : ℕ) (x y : X) → set (set xs i x) i y ≡ set xs i y
set_twice [] zero x y = refl
set_twice [] (suc i) x y = refl
set_twice (z ∷ xs) zero x y = refl
set_twice {X = X} (z ∷ xs) (suc i) x y = ap (λ (l : List X). z ∷ l) (set_twice xs i x y)

-- what a change of the values of a block leaves
pub values_put : (p : Procedure) (block : ℕ) (vs : List Value) → block < length p.blocks → values_of (with_values p block vs) block ≡ vs
values_put p block vs h = ap (λ (s : Block). s.values) (get_or-set_same p.blocks block (record (slice_index_or p.blocks block no_block) { values = vs }) no_block h)

pub values_put_twice : (p : Procedure) (block : ℕ) (vs ws : List Value) → block < length p.blocks → with_values (with_values p block vs) block ws ≡ with_values p block ws
values_put_twice p block vs ws h =
    let here = get_or-set_same p.blocks block (record (slice_index_or p.blocks block no_block) { values = vs }) no_block h in
    ap (λ (bs : List Block). let q : Procedure = record { name = p.name; line = p.line; slots = p.slots; blocks = bs } in q)
    (
    ap (λ (s : Block). set (set p.blocks block (record (slice_index_or p.blocks block no_block) { values = vs })) block (record s { values = ws })) here
    ∙ set_twice p.blocks block (record (slice_index_or p.blocks block no_block) { values = vs }) (record (slice_index_or p.blocks block no_block) { values = ws })
    )

-- what is left of a block of which some values were taken out, and what is spare by then
pub record IsEmptied (old now : Kept) (block : ℕ) : Type 0 where
  pub inside : block < length old.procedure.blocks
  pub in_nodes : block < length old.nodes
  pub procedure : now.procedure ≡ with_values old.procedure block (values_of now.procedure block)
  pub nodes : now.nodes ≡ set old.nodes block (nodes_of now block)
  pub spare : now.spare + length (values_of now.procedure block) ≡ old.spare + length (values_of old.procedure block)

pub one_taken : (old p new : Kept) (block : ℕ) (v : Value) → IsEmptied old p block → slice_get (values_of p.procedure block) 0 ≡ Some v → new.procedure ≡ with_values p.procedure block (remove (values_of p.procedure block) 0) → new.nodes ≡ set p.nodes block (remove (nodes_of p block) 0) → new.spare ≡ p.spare + 1
    → IsEmptied old new block × (length (values_of new.procedure block) < length (values_of p.procedure block))
one_taken old p new block v e at procedure nodes spare =
    let vs = values_of p.procedure block in
    let inside' : block < length p.procedure.blocks = let size = length-set old.procedure.blocks block (record (slice_index_or old.procedure.blocks block no_block) { values = values_of p.procedure block }) in let same = ap (λ (q : Procedure). length q.blocks) e.procedure in let i = e.inside in omega (arith, size, same) in
    let in_nodes' : block < length p.nodes = let size = length-set old.nodes block (nodes_of p block) in let same = ap length e.nodes in let i = e.in_nodes in omega (arith, size, same) in
    let ws : values_of new.procedure block ≡ remove (values_of p.procedure block) 0 = ap (λ (q : Procedure). values_of q block) procedure ∙ values_put p.procedure block (remove (values_of p.procedure block) 0) inside' in
    let ns : nodes_of new block ≡ remove (nodes_of p block) 0 = ap (λ (q : List (List ℕ)). slice_index_or q block []) nodes ∙ get_or-set_same p.nodes block (remove (nodes_of p block) 0) [] in_nodes' in
    let fewer = length-remove (values_of p.procedure block) 0 (slice_get_within (values_of p.procedure block) 0 v at) in
    let sizes = ap length ws in (
      record {
        inside = e.inside;
        in_nodes = e.in_nodes;
        procedure = procedure ∙ rw ws (ap (λ (q : Procedure). with_values q block (remove (values_of p.procedure block) 0)) e.procedure ∙ values_put_twice old.procedure block (values_of p.procedure block) (remove (values_of p.procedure block) 0) e.inside);
        nodes = nodes ∙ rw ns (ap (λ (q : List (List ℕ)). set q block (remove (nodes_of p block) 0)) e.nodes ∙ set_twice old.nodes block (nodes_of p block) (remove (nodes_of p block) 0));
        spare = let s = e.spare in omega (arith, sizes, fewer, spare);
      },
      omega (arith, sizes, fewer),
    )

pub all_taken : (old p : Kept) (block : ℕ) → IsEmptied old p block → None ≡ slice_get (nodes_of p block) 0 → [] ≡ values_of p.procedure block → (p.procedure ≡ with_values old.procedure block []) × (p.nodes ≡ set old.nodes block []) × (p.spare ≡ old.spare + length (values_of old.procedure block))
all_taken old p block e none empty =
    let ns = nothing_at (nodes_of p block) none in
    let size = ap length empty in
    let spare = e.spare in (
      e.procedure ∙ ap (λ (vs : List Value). with_values old.procedure block vs) (sym empty),
      e.nodes ∙ ap (λ (l : List ℕ). set old.nodes block l) ns,
      omega (arith, size, spare),
    )
  where
    nothing_at : (l : List ℕ) → None ≡ slice_get l 0 → l ≡ []
    nothing_at [] h = refl
    nothing_at (n ∷ l) h = absurd (cc)
