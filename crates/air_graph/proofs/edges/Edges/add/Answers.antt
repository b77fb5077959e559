use Rattle.std.proofs.Common.{◌≡◌, ℕ, ◌⊎◌, ◌↔◌, true, false, List, [], ◌∷◌, ◌++◌, drop, get_or, length, take, take_at, arith, ap, sym, ◌∙◌, subst, refl}
use Rattle.std.proofs.lemmas.Bool.{false≢true, lt-ltb, le-ltb}
use Rattle.std.specs.FinSet as set
use Rattle.bit_rows.specs.BitRows.{BitSet}
use Rattle.air_graph.specs.Edges.{AreNear, ArePair, EdgeSet, has_edge}
use Rattle.air_graph.specs.Pages.{PagedBits}
use Rattle.air_graph.proofs.Beside.{edge_back, near_added, near_kept}
use Rattle.air_graph.proofs.Triangle.{added, edge_in, pair_of, within}
use Rattle.air_graph.proofs.edges.Edges.add.Goals as goal
use Rattle.air_graph.proofs.edges.Edges.add.Goals.{then-i-j, else-i-j}

pub put_pair-requires-clause-pair : goal.put_pair-requires-clause-pair
put_pair-requires-clause-pair c =
    let same = ap (λ e. e.names) c.self.view_is in
    elim c.if-i-j.branch [
      | then-i-j w ↦ let lt = within c.args.i c.args.j c.self.inside.names w.if-i-j.true (omega arith) in omega (arith, lt)
      | else-i-j w ↦ let lt = within c.args.j c.args.i c.self.inside.names (omega arith) (omega arith) in omega (arith, lt)
    ]

pub returns-clause-edges : goal.returns-clause-edges
returns-clause-edges c x y =
    let pair : c.if-i-j.pair ≡ pair_of c.args.i c.args.j =
    elim c.if-i-j.branch [
      | then-i-j w ↦ w.pair-is ∙ w.pair_number-pair.ensures ∙ rw (lt-ltb c.args.i c.args.j w.if-i-j.true) refl
      | else-i-j w ↦ w.pair-is ∙ w.pair_number-pair-else-i-j.ensures ∙ rw (le-ltb c.args.i c.args.j (omega arith)) refl
    ] in
    let old : BitSet = c.self.inside.pairs.members in
    let now : c.put_pair.new.pairs.members ≡ set.insert old (pair_of c.args.i c.args.j) =
    ap (λ (p : PagedBits). p.members) c.in_ok-put_pair.ensures.pairs ∙ ap (λ (k : ℕ). set.insert old k) pair in
    subst (λ (s : EdgeSet). (edge_in c.put_pair.new.pairs.members x y ≡ true) ↔ ((has_edge s x y ≡ true) ⊎ ArePair c.args.i c.args.j x y)) c.self.view_is
    (subst (λ (s : BitSet). (edge_in s x y ≡ true) ↔ ((edge_in old x y ≡ true) ⊎ ArePair c.args.i c.args.j x y)) (sym now)
    (added old c.args.i c.args.j x y c.requires.differ))

pub invariant_of-self-2 : goal.invariant_of-self-2
invariant_of-self-2 c =
    let i : ℕ = c.args.i in
    let j : ℕ = c.args.j in
    let names : ℕ = c.self.inside.names in
    let same = ap (λ (s : EdgeSet). s.names) c.self.view_is in
    let pair : c.if-i-j.pair ≡ pair_of c.args.i c.args.j =
    elim c.if-i-j.branch [
      | then-i-j w ↦ w.pair-is ∙ w.pair_number-pair.ensures ∙ rw (lt-ltb c.args.i c.args.j w.if-i-j.true) refl
      | else-i-j w ↦ w.pair-is ∙ w.pair_number-pair-else-i-j.ensures ∙ rw (le-ltb c.args.i c.args.j (omega arith)) refl
    ] in
    let old : BitSet = c.self.inside.pairs.members in
    let now : c.put_pair.new.pairs.members ≡ set.insert old (pair_of c.args.i c.args.j) =
    ap (λ (p : PagedBits). p.members) c.in_ok-put_pair.ensures.pairs ∙ ap (λ (k : ℕ). set.insert old k) pair in
    let none : edge_in old i j ≡ false =
    ap (λ (s : EdgeSet). has_edge s c.args.i c.args.j) c.self.view_is ∙ sym c.has.ensures ∙ c.if-has.false in
    let edges : EdgeSet = record { names = names; pairs = old } in
    let near : List (List ℕ) = c.self.inside.near.items in
    let lists : List (List ℕ) = c.put_pair.new.lists in
    let lent : c.deref_mut.result.now ≡ near = c.deref_mut.ensures.value in
    let long : length lists ≡ length near = c.put_pair.ensures.long ∙ ap (λ (l : List (List ℕ)). length l) lent in
    let back : take c.self.inside.near.len (lists ++ drop (length lists) near) ≡ lists =
    take_at lists (drop (length lists) near) c.self.inside.near.len (omega arith) in
    record {
      bits = ap (λ (p : PagedBits). p.bits) c.in_ok-put_pair.ensures.pairs ∙ c.self.invariant.bits;
      few = c.self.invariant.few;
      beside = subst (λ (l : List (List ℕ)). AreNear (record { names = names; pairs = c.put_pair.new.pairs.members }) l) (sym back)
          (subst (λ (s : BitSet). AreNear (record { names = names; pairs = s }) lists) (sym now)
          (near_added names old near lists i j (omega (arith, same)) (omega (arith, same)) c.requires.differ c.self.invariant.beside
          (λ t. false≢true (sym none ∙ t)) (λ t. false≢true (sym none ∙ edge_back edges i j ∙ t)) long
          (λ a ni nj. c.put_pair.ensures.others a ni nj ∙ ap (λ (l : List (List ℕ)). get_or l a []) lent)
          (c.in_ok-put_pair.ensures.first ∙ ap (λ (l : List (List ℕ)). get_or l i [] ++ j ∷ []) lent)
          (c.in_ok-put_pair.ensures.second ∙ ap (λ (l : List (List ℕ)). get_or l j [] ++ i ∷ []) lent)));
    }

pub invariant_of-self : goal.invariant_of-self
invariant_of-self c =
    let near : List (List ℕ) = c.self.inside.near.items in
    let lists : List (List ℕ) = c.put_pair.new.lists in
    let lent : c.deref_mut.result.now ≡ near = c.deref_mut.ensures.value in
    let long : length lists ≡ length near = c.put_pair.ensures.long ∙ ap (λ (l : List (List ℕ)). length l) lent in
    let back : take c.self.inside.near.len (lists ++ drop (length lists) near) ≡ lists =
    take_at lists (drop (length lists) near) c.self.inside.near.len (omega arith) in
    let same : c.put_pair.new.pairs ≡ c.self.inside.pairs = c.in_err-put_pair.ensures.same in
    record {
      bits = ap (λ (p : PagedBits). p.bits) same ∙ c.self.invariant.bits;
      few = c.self.invariant.few;
      beside = subst (λ (l : List (List ℕ)). AreNear (record { names = c.self.inside.names; pairs = c.put_pair.new.pairs.members }) l) (sym back)
          (subst (λ (p : PagedBits). AreNear (record { names = c.self.inside.names; pairs = p.members }) lists) (sym same)
          (near_kept (record { names = c.self.inside.names; pairs = c.self.inside.pairs.members }) near lists c.self.invariant.beside long
          (λ a. c.in_err-put_pair.ensures.err a ∙ ap (λ (l : List (List ℕ)). get_or l a []) lent)));
    }
