-- Blocks walked value by value.
use Rattle.std.proofs.Common.{◌≡◌, ℕ, ◌<◌, List, [], ◌∷◌, ◌++◌, length, drop, slice_get, Option, Some, None, IfSome, sym, ap, subst, ◌∙◌, arith}
use Rattle.std.proofs.lemmas.List.{append-nil, append_assoc}
use Rattle.std.specs.Prelude.{Contains}
use Rattle.b3_ir.specs.Procedure.{IsIn, Kept, values_from, values_of}
use Rattle.b3_ir.specs.declared.value.Value.{Value}
use Rattle.b3_uses.specs.Walked.{Walked}
use Rattle.b3_uses.proofs.Contained.{contains_middle}

head_and_rest : {X : Type 0} (xs : List X) (x : X) → slice_get xs 0 ≡ Some x → xs ≡ x ∷ drop 1 xs
head_and_rest [] x e = absurd (cc)
head_and_rest (y ∷ xs) x e = let same : y ≡ x = cc in ap (λ z. z ∷ xs) same

pub shorter : {X : Type 0} (ys xs : List X) (x : X) → slice_get xs 0 ≡ Some x → ys ≡ drop 1 xs → length ys < length xs
shorter ys [] x e rest = absurd (cc)
shorter ys (y ∷ xs) x e rest = let same : length ys ≡ length xs = ap length rest in omega arith

pub walk_start : (p : Kept) (block : ℕ) (at : Option ℕ) → values_from p block at ≡ values_of p.procedure block → IfSome at (λ node. IsIn p node block)
    → Walked p block [] at
walk_start p block at rest there = record { split = sym rest; there = there }

pub walk_on : (p : Kept) (block : ℕ) (before : List Value) (at next : Option ℕ) (node : ℕ) (v : Value) → Walked p block before at → at ≡ Some node
    → slice_get (values_from p block (Some node)) 0 ≡ Some v → values_from p block next ≡ drop 1 (values_from p block (Some node))
    → IfSome next (λ n. IsIn p n block)
    → Walked p block (before ++ v ∷ []) next
walk_on p block before at next node v walked is head rest there = record {
  split = walked.split ∙ ap (λ (o : Option ℕ). before ++ values_from p block o) is
      ∙ ap (λ vs. before ++ vs) (head_and_rest (values_from p block (Some node)) v head)
      ∙ ap (λ vs. before ++ v ∷ vs) (sym rest) ∙ sym (append_assoc before (v ∷ []) (values_from p block next));
  there = there;
}

pub walk_end : (p : Kept) (block : ℕ) (before : List Value) (at : Option ℕ) → Walked p block before at → at ≡ None → before ≡ values_of p.procedure block
walk_end p block before at walked is = sym (walked.split ∙ ap (λ (o : Option ℕ). before ++ values_from p block o) is ∙ append-nil before)

-- the last value that was walked is one of the block's
pub last_walked : (p : Kept) (block : ℕ) (before : List Value) (v : Value) (at : Option ℕ) → Walked p block (before ++ v ∷ []) at
    → Contains (values_of p.procedure block) v
last_walked p block before v at walked =
    subst (λ vs. Contains vs v) (sym (walked.split ∙ append_assoc before (v ∷ []) (values_from p block at)))
    (contains_middle before (values_from p block at) v)
