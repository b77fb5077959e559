-- Lists in brackets.
use Rattle.std.proofs.Common.{◌≡◌, ℕ, ◌<◌, ◌≤◌, ◌^◌, arith, true, false, List, [], ◌∷◌, ◌++◌, Option, Some, None, refl, ap, append_assoc, append-nil}
use Rattle.std.specs.Prelude.{option_and_then}
use Rattle.std.proofs.lemmas.Nat.{or_lt}
use Rattle.std.proofs.Math.Pow.{pow-lt}
use Rattle.b3_ir.specs.declared.value.Reg.{Reg}
use Rattle.b3_items.specs.Numbers.{case_of}
use Rattle.b3_items.specs.Items.{is_mark_of, ends_list, more_cases, more_regs, onto_front, reg_of, some_cases, some_regs, with_reg}

pub cases_none : more_cases [] ≡ None
unfolding more_cases ends_list
cases_none = refl

pub cases_end : (front t : List ℕ) → is_mark_of 93 t ≡ true → onto_front front (more_cases (t ∷ [])) ≡ Some front
unfolding more_cases ends_list
cases_end front t h = rw h (ap Some (append-nil front))

pub cases_open : (t : List ℕ) → is_mark_of 93 t ≡ false → more_cases (t ∷ []) ≡ None
unfolding more_cases ends_list
cases_open t h = rw h refl

pub cases_bad : (t u : List ℕ) (ts : List (List ℕ)) → is_mark_of 44 t ≡ false → more_cases (t ∷ u ∷ ts) ≡ None
unfolding more_cases
cases_bad t u ts h = rw h refl

pub cases_good : (t u : List ℕ) (ts : List (List ℕ)) → is_mark_of 44 t ≡ true
    → more_cases (t ∷ u ∷ ts) ≡ option_and_then (λ n. onto_front (n ∷ []) (more_cases ts)) (case_of u)
unfolding more_cases
cases_good t u ts h = rw h refl

-- a number more in front of what follows
pub front_again : (front : List ℕ) (n : ℕ) (more : Option (List ℕ)) → onto_front (front ++ n ∷ []) more ≡ onto_front front (onto_front (n ∷ []) more)
front_again front n None = refl
front_again front n (Some ns) = ap Some (append_assoc front (n ∷ []) ns)

pub regs_none : (set : ℕ) → more_regs set [] ≡ None
unfolding more_regs ends_list
regs_none set = refl

pub regs_end : (set : ℕ) (t : List ℕ) → is_mark_of 93 t ≡ true → more_regs set (t ∷ []) ≡ Some set
unfolding more_regs ends_list
regs_end set t h = rw h refl

pub regs_open : (set : ℕ) (t : List ℕ) → is_mark_of 93 t ≡ false → more_regs set (t ∷ []) ≡ None
unfolding more_regs ends_list
regs_open set t h = rw h refl

pub regs_bad : (set : ℕ) (t u : List ℕ) (ts : List (List ℕ)) → is_mark_of 44 t ≡ false → more_regs set (t ∷ u ∷ ts) ≡ None
unfolding more_regs
regs_bad set t u ts h = rw h refl

pub regs_good : (set : ℕ) (t u : List ℕ) (ts : List (List ℕ)) → is_mark_of 44 t ≡ true
    → more_regs set (t ∷ u ∷ ts) ≡ option_and_then (λ r. more_regs (with_reg set r) ts) (reg_of u)
unfolding more_regs
regs_good set t u ts h = rw h refl

-- a list without items

pub cases_empty : (ts : List (List ℕ)) → ends_list ts ≡ true → some_cases ts ≡ Some []
unfolding some_cases ends_list
cases_empty [] h = absurd cc
cases_empty (t ∷ []) h = rw h refl
cases_empty (t ∷ u ∷ ts) h = absurd cc

pub regs_empty : (ts : List (List ℕ)) → ends_list ts ≡ true → some_regs ts ≡ Some 0
unfolding some_regs ends_list
regs_empty [] h = absurd cc
regs_empty (t ∷ []) h = rw h refl
regs_empty (t ∷ u ∷ ts) h = absurd cc

-- a set with one register more is one of x0 to x30
pub with_reg_bound : (set : ℕ) (r : Reg) → set < 2 ^ 31 → r.0 ≤ 30 → with_reg set r < 2 ^ 31
with_reg_bound set r h k = or_lt 31 set (2 ^ r.0) h (pow-lt {i = r.0} {j = 31} (omega arith))
