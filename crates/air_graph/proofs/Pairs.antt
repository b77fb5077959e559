-- The pairs of operands, one after the other.
use Rattle.std.proofs.Math.Seq.{drop-cons}
use Rattle.std.proofs.Common.{append_assoc, append-nil, length-drop, suc, ◌≤◌, ◌/◌, ◌≡◌, ℕ, ◌+◌, ◌*◌, ◌<◌, ◌⊎◌, ◌↔◌, inl, inr, List, [], ◌∷◌, ◌++◌, get_or, drop, length, refl, sym, ap, ◌∙◌, subst, arith}
use Rattle.std.specs.Prelude.{Contains}
use Rattle.air_ir.specs.Kinds.{Kind, Copies, Computes, Loads, Stores, Checks, ChecksResult, Calls, Patches, SlotAddresses, FramePointers, Branches, Jumps, Switches, Returns, Fails, kind_of}
use Rattle.air_ir.specs.declared.operand.Arg.{Arg}
use Rattle.air_ir.specs.declared.operand.Arg.TheVariants.{At, Imm, Addr, Index, FrameSlot}
use Rattle.air_ir.specs.declared.operand.Home.{Home}
use Rattle.air_ir.specs.declared.operand.Operand.{Operand}
use Rattle.air_ir.specs.declared.procedure.AirInst.{AirInst}
use Rattle.air_flow.specs.Interfere.{IsCopied, IsPair}
use Rattle.air_graph.specs.Moves.{copied, copied_by, inst_moves, pairs_of}
use Rattle.air_graph.specs.declared.moves.Copied.{Copied}
use Rattle.air_graph.proofs.Numbers.{In, from_in, to_in}

module _ (os : List Operand) (k : ℕ) (d : Operand) (below : k < length os / 2) where
  two_more : drop (2 * k) os ≡ get_or os (2 * k) d ∷ get_or os (2 * k + 1) d ∷ drop (2 * (k + 1)) os
  two_more =
      let one : suc (2 * k) ≡ 2 * k + 1 = omega arith in
      let two : suc (2 * k + 1) ≡ 2 * (k + 1) = omega arith in
      drop-cons os (2 * k) d (omega arith)
      ∙ ap (λ xs. get_or os (2 * k) d ∷ xs)
      (ap (λ j. drop j os) one ∙ drop-cons os (2 * k + 1) d (omega arith) ∙ ap (λ j. get_or os (2 * k + 1) d ∷ drop j os) two)

  pub pair_added : (start moves new : List Copied) → moves ++ pairs_of (drop (2 * k) os) ≡ start ++ pairs_of os
      → new ≡ moves ++ copied (get_or os (2 * k) d).arg (get_or os (2 * k + 1) d).arg
      → new ++ pairs_of (drop (2 * (k + 1)) os) ≡ start ++ pairs_of os
  unfolding pairs_of
  pair_added start moves new so_far e =
      ap (λ (l : List Copied). l ++ pairs_of (drop (2 * (k + 1)) os)) e
      ∙ append_assoc moves (copied (get_or os (2 * k) d).arg (get_or os (2 * k + 1) d).arg) (pairs_of (drop (2 * (k + 1)) os))
      ∙ ap (λ (l : List Operand). moves ++ pairs_of l) (sym two_more) ∙ so_far

short_pairs : (os : List Operand) → length os < 2 → pairs_of os ≡ []
unfolding pairs_of
short_pairs [] h = refl
short_pairs (u ∷ []) h = refl
short_pairs (u ∷ v ∷ os) h = absurd (omega arith)

pub pairs_all : (os : List Operand) (start moves : List Copied) (k : ℕ) → length os / 2 ≤ k
    → moves ++ pairs_of (drop (2 * k) os) ≡ start ++ pairs_of os → moves ≡ start ++ pairs_of os
pairs_all os start moves k h so_far =
    let short : length (drop (2 * k) os) < 2 = omega (arith, length-drop (2 * k) os) in
    let none = short_pairs (drop (2 * k) os) short in
    sym (append-nil moves) ∙ ap (λ xs. moves ++ xs) (sym none) ∙ so_far

-- ---- copies

in_append : {X : Type 0} (xs ys : List X) (x : X) → In x (xs ++ ys) ↔ (In x xs ⊎ In x ys)
unfolding In
in_append [] ys x = (λ i. inr i, λ i. elim i [ inl j ↦ absurd j | inr j ↦ j ])
in_append (z ∷ xs) ys x =
    let more = in_append xs ys x in (
      λ i. elim i [
        | inl e ↦ inl (inl e)
        | inr j ↦ elim (more.0 j) [ inl u ↦ inl (inr u) | inr u ↦ inr u ]
      ],
      λ i. elim i [
        | inl j ↦ elim j [ inl e ↦ inl e | inr u ↦ inr (more.1 (inl u)) ]
        | inr u ↦ inr (more.1 (inr u))
      ],
    )

abbrev copy : Home → Home → Copied
copy a b = record { from = a; to = b }

in_copied : (from to : Arg) (a b : Home) → In (copy a b) (copied from to) → (from ≡ At a) × (to ≡ At b)
unfolding In
in_copied (At f) (At t) a b (inl e) = (ap (λ (c : Copied). At c.from) e, ap (λ (c : Copied). At c.to) e)
in_copied (At f) (At t) a b (inr i) = absurd i
in_copied (At f) (Imm w) a b i = absurd i
in_copied (At f) (Addr h o) a b i = absurd i
in_copied (At f) (Index h g s) a b i = absurd i
in_copied (At f) (FrameSlot n) a b i = absurd i
in_copied (Imm w) to a b i = absurd i
in_copied (Addr h o) to a b i = absurd i
in_copied (Index h g s) to a b i = absurd i
in_copied (FrameSlot n) to a b i = absurd i

copied_in : (from to : Arg) (a b : Home) → from ≡ At a → to ≡ At b → In (copy a b) (copied from to)
unfolding In
copied_in from to a b e f = rw (e, f) (inl refl)

pair_in : (os : List Operand) (a b : Home) → (IsPair os a b) ↔ (In (copy a b) (pairs_of os))
unfolding IsPair pairs_of In
pair_in [] a b = (λ i. absurd i, λ i. absurd i)
pair_in (o ∷ []) a b = (λ i. absurd i, λ i. absurd i)
pair_in (from ∷ to ∷ os) a b =
    let more = pair_in os a b in
    let both = in_append (copied from.arg to.arg) (pairs_of os) (copy a b) in (
      λ i. both.1 (elim i [ inl q ↦ inl (copied_in from.arg to.arg a b q.0 q.1) | inr j ↦ inr (more.0 j) ]),
      λ i. elim (both.0 i) [ inl j ↦ inl (in_copied from.arg to.arg a b j) | inr j ↦ inr (more.1 j) ],
    )

kind_copies : (k : Kind) (os : List Operand) (x : Copied) → In x (copied_by k os) → (k ≡ Copies) × In x (pairs_of os)
unfolding In
kind_copies Copies os x i = (refl, i)
kind_copies Computes os x i = absurd i
kind_copies (Loads e s) os x i = absurd i
kind_copies (Stores e) os x i = absurd i
kind_copies (Checks t) os x i = absurd i
kind_copies (ChecksResult c) os x i = absurd i
kind_copies (Calls t) os x i = absurd i
kind_copies (Patches t) os x i = absurd i
kind_copies SlotAddresses os x i = absurd i
kind_copies FramePointers os x i = absurd i
kind_copies (Branches t) os x i = absurd i
kind_copies Jumps os x i = absurd i
kind_copies (Switches c) os x i = absurd i
kind_copies Returns os x i = absurd i
kind_copies Fails os x i = absurd i

pub copied_is : (i : AirInst) (a b : Home) → Contains (inst_moves i) (record { from = a; to = b }) ↔ IsCopied i a b
copied_is i a b = (
  λ c.
      let k = kind_copies (kind_of i.op) i.operands (copy a b) (to_in (inst_moves i) (copy a b) c) in
      (k.0, (pair_in i.operands a b).1 k.1),
  λ c. from_in (inst_moves i) (copy a b)
      (subst (λ (k : Kind). In (copy a b) (copied_by k i.operands)) (sym c.0) ((pair_in i.operands a b).0 c.1)),
)
