-- The list of the free nodes.
use Rattle.std.proofs.Common.{◌≡◌, ℕ, zero, suc, ◌+◌, ◌<◌, List, [], ◌∷◌, ◌++◌, length, Option, Some, None, slice_get, refl, sym, ap, subst, ◌∙◌, arith, length-append, append_assoc, add-one}
use Rattle.std.proofs.lemmas.Option.{same_Some}
use Rattle.ir_arena.specs.declared.node.Node.{Node}
use Rattle.ir_arena.specs.Layout.{NodeAt, vacant, IsFree, node_in, free_head, free_nodes}
use Rattle.ir_arena.proofs.ChunkLemmas.{slice_get-more, slice_get-push}

pub length-free_nodes : (T : Type 0) (start : ℕ) (rest : Option ℕ) (n : ℕ) → length (free_nodes {T = T} start rest n) ≡ n
unfolding free_nodes
length-free_nodes T start rest zero = refl
length-free_nodes T start rest (suc n) =
    let fewer = length-free_nodes T start rest n in
    let both = length-append (free_nodes {T = T} start rest n) (vacant {T = T} (free_head start rest n) ∷ []) in
    omega arith

module _ {T : Type 0} where
  -- a link begins one list of free nodes at most
  pub same_count : (at : NodeAt T) (m n : ℕ) (l : Option ℕ) → IsFree at m l → IsFree at n l → m ≡ n
  same_count at zero zero l p q = refl
  same_count at zero (suc n) l p q = let some = q.2 in absurd (cc)
  same_count at (suc m) zero l p q = let some = p.2 in absurd (cc)
  same_count at (suc m) (suc n) l p q =
      let one : Some q.0 ≡ Some p.0 = sym q.2 ∙ p.2 in
      let id : q.0 ≡ p.0 = cc in
      let node : at p.0 ≡ Some q.1 = subst (λ (i : ℕ). at i ≡ Some q.1) id q.3 in
      let both : q.1 ≡ p.1 = same_Some q.1 p.1 (sym node ∙ p.3) in
      ap suc (same_count at m n p.1.next p.5 (subst (λ (n' : Node T). IsFree at n n'.next) both q.5))

  -- the list stays where its nodes do
  pub free_frame : (at at' : NodeAt T) (n : ℕ) (l : Option ℕ) → ((i m : ℕ) (node : Node T) → m < n → at i ≡ Some node → node.item ≡ None → IsFree at (suc m) (Some i) → at' i ≡ at i) → IsFree at n l → IsFree at' n l
  free_frame at at' zero l same p = p
  free_frame at at' (suc n) l same p =
      let here : IsFree at (suc n) (Some p.0) = (p.0, p.1, refl, p.3, p.4, p.5) in (
        p.0,
        p.1,
        p.2,
        same p.0 n p.1 (omega arith) p.3 p.4 here ∙ p.3,
        p.4,
        free_frame at at' n p.1.next (λ i m node h. same i m node (omega arith)) p.5,
      )

  -- the list goes on through new nodes
  pub free_more : (ns : List (Node T)) (spare : ℕ) (free : Option ℕ) (n : ℕ) → IsFree (node_in ns) spare free → IsFree (node_in (ns ++ free_nodes (length ns) free n)) (n + spare) (free_head (length ns) free n)
  unfolding free_nodes
  free_more ns spare free zero p =
      let same : spare ≡ 0 + spare = omega arith in
      subst (λ (c : ℕ). IsFree (node_in (ns ++ [])) c free) same (free_frame (node_in ns) (node_in (ns ++ [])) spare free (λ i m node h at_i v s. slice_get-more ns [] i node at_i ∙ sym at_i) p)
  free_more ns spare free (suc n) p =
      let more : List (Node T) = free_nodes (length ns) free n in
      let new : Node T = vacant (free_head (length ns) free n) in
      let before = free_more ns spare free n p in
      let len = length-append ns more in
      let count = length-free_nodes T (length ns) free n in
      let joined : (ns ++ more) ++ new ∷ [] ≡ ns ++ (more ++ new ∷ []) = append_assoc ns more (new ∷ []) in
      let at_new : slice_get ((ns ++ more) ++ new ∷ []) (length ns + n) ≡ Some new = slice_get-push (ns ++ more) new (length ns + n) (omega arith) in
      let rest : IsFree (node_in ((ns ++ more) ++ new ∷ [])) (n + spare) new.next = free_frame (node_in (ns ++ more)) (node_in ((ns ++ more) ++ new ∷ [])) (n + spare) new.next (λ i m node h at_i v s. slice_get-more (ns ++ more) (new ∷ []) i node at_i ∙ sym at_i) before in
      let all : IsFree (node_in ((ns ++ more) ++ new ∷ [])) (suc (n + spare)) (Some (length ns + n)) = (length ns + n, new, refl, at_new, refl, rest) in
      let same : suc (n + spare) ≡ suc n + spare = omega arith in
      subst (λ (c : ℕ). IsFree (node_in (ns ++ (more ++ new ∷ []))) c (Some (length ns + n))) same (subst (λ (l : List (Node T)). IsFree (node_in l) (suc (n + spare)) (Some (length ns + n))) joined all)

  pub free_nodes-none : (start : ℕ) (rest : Option ℕ) → free_nodes {T = T} start rest 0 ≡ []
  unfolding free_nodes
  free_nodes-none start rest = refl

  -- one more free node in a row
  pub free_nodes-push : (start : ℕ) (rest : Option ℕ) (n : ℕ) (first : Option ℕ) (xs : List (Node T)) → xs ≡ free_nodes start rest n → first ≡ free_head start rest n → xs ++ vacant first ∷ [] ≡ free_nodes start rest (n + 1)
  unfolding free_nodes
  free_nodes-push start rest n first xs is_xs is_first = rw (add-one, is_xs, is_first) refl
