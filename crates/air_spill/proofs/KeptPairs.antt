-- The pairs of a copy that are left, as operands and as copies.
use Rattle.std.proofs.Math.Seq.{drop-cons}
use Rattle.std.proofs.Common.{append_assoc, append-nil, length-drop, suc, ◌≤◌, ◌/◌, ◌≡◌, ℕ, ◌+◌, ◌*◌, ◌<◌, Bool, true, false, if◌then◌else◌, List, [], ◌∷◌, ◌++◌, get_or, drop, length, refl, sym, ap, ◌∙◌, arith}
use Rattle.air_ir.specs.Renaming.{Copy, copy_inst, copy_operands, is_joined, kept, rename, rename_arg, rename_copy}
use Rattle.air_ir.specs.declared.operand.Arg.{Arg}
use Rattle.air_ir.specs.declared.operand.Arg.TheVariants.{At, Imm, Addr, Index, FrameSlot}
use Rattle.air_ir.specs.declared.operand.Home.{Home}
use Rattle.air_ir.specs.declared.operand.Operand.{Operand}
use Rattle.air_ir.specs.declared.procedure.AirInst.{AirInst}
use Rattle.air_spill.specs.Rewritten.{is_one, kept_operands, with_operands}

one-joined : (loc : Home → Home) (from : Arg) (to : Home) → is_one (rename_arg loc from) (At (loc to)) ≡ is_joined loc from to
one-joined loc (At home) to = refl
one-joined loc (Imm word) to = refl
one-joined loc (Addr base offset) to = refl
one-joined loc (Index base index shift) to = refl
one-joined loc (FrameSlot number) to = refl

copy_if : (b : Bool) (c : Copy) (ks ls : List Copy) → (if b then copy_operands ks else copy_operands (c ∷ ls)) ≡ copy_operands (if b then ks else c ∷ ls)
copy_if true c ks ls = refl
copy_if false c ks ls = refl

pub kept-copies : (loc : Home → Home) (cs : List Copy) → kept_operands loc (copy_operands cs) ≡ copy_operands (kept loc cs)
unfolding kept_operands copy_operands kept
kept-copies loc [] = refl
kept-copies loc (c ∷ cs) =
    rw (one-joined loc c.from c.to, kept-copies loc cs) (copy_if (is_joined loc c.from c.to) (rename_copy loc c) (kept loc cs) (kept loc cs))

pub with-copies : (i : AirInst) (cs : List Copy) → with_operands i (copy_operands cs) ≡ copy_inst i cs
unfolding copy_operands
with-copies i [] = refl
with-copies i (c ∷ cs) = refl

-- ---- pair after pair

module _ (loc : Home → Home) (os : List Operand) (k : ℕ) (d : Operand) (below : k < length os / 2) where
  two_more : drop (2 * k) os ≡ get_or os (2 * k) d ∷ get_or os (2 * k + 1) d ∷ drop (2 * (k + 1)) os
  two_more =
      let one : suc (2 * k) ≡ 2 * k + 1 = omega arith in
      let two : suc (2 * k + 1) ≡ 2 * (k + 1) = omega arith in
      drop-cons os (2 * k) d (omega arith)
      ∙ ap (λ xs. get_or os (2 * k) d ∷ xs)
      (ap (λ j. drop j os) one ∙ drop-cons os (2 * k + 1) d (omega arith) ∙ ap (λ j. get_or os (2 * k + 1) d ∷ drop j os) two)

  module _ (list : List Operand) (u v : Operand) (is_u : u ≡ rename loc (get_or os (2 * k) d)) (is_v : v ≡ rename loc (get_or os (2 * k + 1) d))
      (so_far : list ++ kept_operands loc (drop (2 * k) os) ≡ kept_operands loc os) where
    next_kept : kept_operands loc (drop (2 * k) os)
        ≡ (if is_one u.arg v.arg then kept_operands loc (drop (2 * (k + 1)) os) else u ∷ v ∷ kept_operands loc (drop (2 * (k + 1)) os))
    unfolding kept_operands
    next_kept = rw (two_more, is_u, is_v) refl

    pub kept_joined : is_one u.arg v.arg ≡ true → list ++ kept_operands loc (drop (2 * (k + 1)) os) ≡ kept_operands loc os
    kept_joined t =
        let same : kept_operands loc (drop (2 * k) os) ≡ kept_operands loc (drop (2 * (k + 1)) os) =
        next_kept ∙ ap (λ b. if b then kept_operands loc (drop (2 * (k + 1)) os) else u ∷ v ∷ kept_operands loc (drop (2 * (k + 1)) os)) t in
        ap (λ xs. list ++ xs) (sym same) ∙ so_far

    pub kept_pushed : is_one u.arg v.arg ≡ false → ((list ++ u ∷ []) ++ v ∷ []) ++ kept_operands loc (drop (2 * (k + 1)) os) ≡ kept_operands loc os
    kept_pushed f =
        let same : kept_operands loc (drop (2 * k) os) ≡ u ∷ v ∷ kept_operands loc (drop (2 * (k + 1)) os) =
        next_kept ∙ ap (λ b. if b then kept_operands loc (drop (2 * (k + 1)) os) else u ∷ v ∷ kept_operands loc (drop (2 * (k + 1)) os)) f in
        simp append_assoc (ap (λ xs. list ++ xs) (sym same) ∙ so_far)

short_kept : (loc : Home → Home) (os : List Operand) → length os < 2 → kept_operands loc os ≡ []
unfolding kept_operands
short_kept loc [] h = refl
short_kept loc (u ∷ []) h = refl
short_kept loc (u ∷ v ∷ os) h = absurd (omega arith)

pub kept_all : (loc : Home → Home) (os list : List Operand) (k : ℕ) → length os / 2 ≤ k
    → list ++ kept_operands loc (drop (2 * k) os) ≡ kept_operands loc os → list ≡ kept_operands loc os
kept_all loc os list k h so_far =
    let short : length (drop (2 * k) os) < 2 = omega (arith, length-drop (2 * k) os) in
    let none = short_kept loc (drop (2 * k) os) short in
    sym (append-nil list) ∙ ap (λ xs. list ++ xs) (sym none) ∙ so_far
