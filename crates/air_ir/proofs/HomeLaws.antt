-- Equality of homes, what a write leaves, and which homes hold more than others.
use Rattle.std.proofs.Common.{◌≡◌, ◌≢◌, ℕ, ◌^◌, ◌<◌, ◌⊎◌, inl, inr, true, false, Option, Some, None, refl, sym, ap, ◌∙◌, subst, arith}
use Rattle.std.proofs.lemmas.Bool.{cases_Bool, eqb-true, eq-eqb, false≢true, false_from_ne_true}
use Rattle.b3_base.specs.Arithmetic.{low}
use Rattle.b3_base.specs.Word.{bits}
use Rattle.b3_base.specs.declared.word.Width.{Width}
use Rattle.b3_base.specs.declared.word.Width.TheVariants.{W32, W64}
use Rattle.air_ir.specs.Operands.{Held, Empty, Holds, Homes, put, read, same_home}
use Rattle.air_ir.specs.Related.{Gives, Refines}
use Rattle.air_ir.specs.declared.operand.Home.{Home}
use Rattle.air_ir.specs.declared.operand.Home.TheVariants.{Tmp, Reg, Spill}

pub same_home-true : (p q : Home) → same_home p q ≡ true → p ≡ q
same_home-true (Tmp a) (Tmp b) e = ap Tmp (eqb-true a b e)
same_home-true (Reg a) (Reg b) e = ap (λ (r : ℕ). Reg (record { 0 = r })) (eqb-true a.0 b.0 e)
same_home-true (Spill a) (Spill b) e = ap Spill (eqb-true a b e)
same_home-true _ _ e = absurd (false≢true e)

pub same_home-refl : (p : Home) → same_home p p ≡ true
same_home-refl (Tmp a) = eq-eqb a a refl
same_home-refl (Reg a) = eq-eqb a.0 a.0 refl
same_home-refl (Spill a) = eq-eqb a a refl

pub same_home-false : (p q : Home) → p ≢ q → same_home p q ≡ false
same_home-false p q ne = false_from_ne_true (same_home p q) (λ e. ne (same_home-true p q e))

pub cases_home : (p q : Home) → (p ≡ q) ⊎ (p ≢ q)
cases_home p q = elim (cases_Bool (same_home p q)) [
  | inl t ↦ inl (same_home-true p q t)
  | inr f ↦ inr (λ e. false≢true (sym f ∙ ap (same_home p) (sym e) ∙ same_home-refl p))
]

pub put-same : (s : Homes) (q p : Home) (v : Held) → p ≡ q → put s q v p ≡ v
unfolding put
put-same s q p v e = rw (e, same_home-refl q) refl

pub put-other : (s : Homes) (q p : Home) (v : Held) → p ≢ q → put s q v p ≡ s p
unfolding put
put-other s q p v ne = rw (same_home-false p q ne) refl

-- ---- refining

gives-same : {A : Type 0} (a b : Option A) → a ≡ b → Gives a b
unfolding Gives
gives-same None b e = tt
gives-same (Some x) b e = sym e

pub Refines-same : (a b : Held) → a ≡ b → Refines a b
Refines-same a b e = λ width. gives-same (read width a) (read width b) (ap (read width) e)

pub Refines-at : (a b c d : Held) → a ≡ c → b ≡ d → Refines c d → Refines a b
Refines-at a b c d e f r = rw (e, f) r

-- a home that holds nothing is refined by each
pub Refines-nothing : (h : Held) → Refines Empty h
unfolding Gives read
Refines-nothing h W32 = tt
Refines-nothing h W64 = tt

pub Refines-through : (a b c : Held) → Refines a b → Refines b c → Refines a c
unfolding Gives
Refines-through a b c r q = λ width. join (read width a) (read width b) (read width c) (r width) (q width)
  where
    join : (x y z : Option ℕ) → Gives x y → Gives y z → Gives x z
    join None y z g h = tt
    join (Some v) None z g h = absurd (cc)
    join (Some v) (Some u) z g h = h ∙ g

-- ---- words that are read

low_small : (width : Width) (x : ℕ) → low width x < 2 ^ bits width
low_small W32 x = omega arith
low_small W64 x = omega arith

some_small : (width : Width) (x y : ℕ) → Some (low width y) ≡ Some x → x < 2 ^ bits width
some_small width x y e = let same : low width y ≡ x = cc in subst (λ (k : ℕ). k < 2 ^ bits width) same (low_small width y)

-- a word that is read from a home is a word of its width
pub read-small : (width : Width) (h : Held) (x : ℕ) → read width h ≡ Some x → x < 2 ^ bits width
unfolding read
read-small W32 Empty x e = absurd (cc)
read-small W64 Empty x e = absurd (cc)
read-small W32 (Holds held y) x e = some_small W32 x y e
read-small W64 (Holds W32 y) x e = absurd (cc)
read-small W64 (Holds W64 y) x e = some_small W64 x y e

-- ---- copies of what is read

low_again : (width : Width) (x : ℕ) → low width (low width x) ≡ low width x
low_again W32 x = omega arith
low_again W64 x = omega arith

low_of_whole : (x : ℕ) → low W32 (low W64 x) ≡ low W32 x
low_of_whole x = omega arith

read_again : (width : Width) (x y : ℕ) → Some (low width y) ≡ Some x → Some (low width y) ≡ Some (low width x)
read_again width x y e = let same : low width y ≡ x = cc in ap (λ (k : ℕ). Some k) (sym (low_again width y) ∙ ap (low width) same)

read_half : (x y : ℕ) → Some (low W64 y) ≡ Some x → Some (low W32 y) ≡ Some (low W32 x)
read_half x y e = let same : low W64 y ≡ x = cc in ap (λ (k : ℕ). Some k) (sym (low_of_whole y) ∙ ap (low W32) same)

-- what a copy gives is given by what was copied
pub copy-refines : (width : Width) (h : Held) (x : ℕ) → read width h ≡ Some x → Refines (Holds width x) h
unfolding read Gives
copy-refines W32 Empty x e w = absurd (cc)
copy-refines W32 (Holds held y) x e W32 = read_again W32 x y e
copy-refines W32 (Holds held y) x e W64 = tt
copy-refines W64 Empty x e w = absurd (cc)
copy-refines W64 (Holds W32 y) x e w = absurd (cc)
copy-refines W64 (Holds W64 y) x e W32 = read_half x y e
copy-refines W64 (Holds W64 y) x e W64 = read_again W64 x y e
