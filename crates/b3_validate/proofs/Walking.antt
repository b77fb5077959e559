-- Going over the values of a block, one after the other.
use Rattle.std.proofs.Common.{◌≡◌, ℕ, zero, suc, ◌+◌, ◌<◌, ◌≤◌, List, [], ◌∷◌, length, drop, length-drop, Option, Some, None, ap, subst, arith}
use Rattle.std.specs.Prelude.{IfSome, slice_get}
use Rattle.std.proofs.lemmas.Bool.Decides.{nat_tests}
use Rattle.std.proofs.lemmas.Option.{slice_get_within}
use Rattle.b3_ir.specs.Procedure.{IsAt, IsIn, Kept, StandsAt, nodes_of, place_among, values_from, values_of}
use Rattle.b3_ir.specs.declared.value.Value.{Value}

-- what is known before a node of a block, or at the block's end: Q, at the number of the values before
pub record IsReached (p : Kept) (block : ℕ) (Q : ℕ → Type 0) (at : Option ℕ) : Type 0 where
  pub there : IfSome at (λ node. IsIn p node block)
  pub known : (n : ℕ) → n + length (values_from p block at) ≡ length (values_of p.procedure block) → Q n

-- a node that a list has is found in it
among : (ns : List ℕ) (j node : ℕ) → slice_get ns j ≡ Some node → slice_get ns (place_among ns node) ≡ Some node
among [] j node e = absurd cc
among (n ∷ ns) zero node e = let same : n ≡ node = cc in rw same (grind (arith, nat_tests))
among (n ∷ ns) (suc j) node e =
    let later : slice_get ns (place_among ns node) ≡ Some node = among ns j node e in
    grind (arith, nat_tests)

-- the value of a node of the block: its place, and what is left of the block
pub record IsHere (p : Kept) (block node : ℕ) (v : Value) : Type 0 where
  pub place : ℕ
  pub node_at : IsAt p node block place
  pub stands : StandsAt p.procedure block place v
  pub left : place + length (values_from p block (Some node)) ≡ length (values_of p.procedure block)
  pub some : 1 ≤ length (values_from p block (Some node))

pub here : (p : Kept) (block node : ℕ) (v : Value) → IsIn p node block → ((b j : ℕ) → IsAt p node b j → slice_get (values_of p.procedure b) j ≡ Some v) → IsHere p block node v
here p block node v there value =
    let place : ℕ = place_among (nodes_of p block) node in
    let vs : List Value = values_of p.procedure block in
    let at = among (nodes_of p block) there.0 node there.1 in
    let stands : StandsAt p.procedure block place v = value block place at in
    let within = slice_get_within vs place v stands in
    record {
      place = place;
      node_at = at;
      stands = stands;
      left = omega (arith, length-drop place vs);
      some = omega (arith, length-drop place vs);
    }

-- at the block's start
pub reached_first : (p : Kept) (block : ℕ) (Q : ℕ → Type 0) (at : Option ℕ) → Q 0 → values_from p block at ≡ values_of p.procedure block → IfSome at (λ node. IsIn p node block) → IsReached p block Q at
reached_first p block Q at before rest there = record {
  there = there;
  known = λ n left.
      let long : length (values_from p block at) ≡ length (values_of p.procedure block) = ap length rest in
      let same : 0 ≡ n = omega arith in
      subst Q same before;
}

-- after one more value
pub reached_next : (p : Kept) (block : ℕ) (Q : ℕ → Type 0) (node : ℕ) (next : Option ℕ) (v : Value) (h : IsHere p block node v) → Q (h.place + 1) → values_from p block next ≡ drop 1 (values_from p block (Some node)) → IfSome next (λ n. IsIn p n block) → IsReached p block Q next
reached_next p block Q node next v h known rest there = record {
  there = there;
  known = λ n left.
      let vs : List Value = values_from p block (Some node) in
      let shorter : length (values_from p block next) ≡ length (drop 1 vs) = ap length rest in
      let same : h.place + 1 ≡ n = omega (arith, length-drop 1 vs, h.left, h.some) in
      subst Q same known;
}

-- what is left is less
pub less_left : (p : Kept) (block node : ℕ) (next : Option ℕ) (v : Value) → IsHere p block node v → values_from p block next ≡ drop 1 (values_from p block (Some node)) → length (values_from p block next) < length (values_from p block (Some node))
less_left p block node next v h rest =
    let shorter : length (values_from p block next) ≡ length (drop 1 (values_from p block (Some node))) = ap length rest in
    omega (arith, length-drop 1 (values_from p block (Some node)), h.some)

-- at the block's end
pub reached_all : (p : Kept) (block : ℕ) (Q : ℕ → Type 0) (at : Option ℕ) → at ≡ None → IsReached p block Q at → Q (length (values_of p.procedure block))
reached_all p block Q at none h =
    let nothing : length (values_from p block at) ≡ 0 = ap (λ (o : Option ℕ). length (values_from p block o)) none in
    h.known (length (values_of p.procedure block)) (omega arith)
