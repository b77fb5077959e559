-- The opcodes that are one op over their children: the op computes the word that the opcode gives.
use Rattle.std.proofs.Common.{◌≡◌, ℕ, ◌-◌, ◌/◌, ◌^◌, ◌<◌, Bool, true, false, List, [], ◌∷◌, Some, refl, sym, ap, ◌∙◌, subst, nat_eq}
use Rattle.std.specs.Prelude.{if◌then◌else◌, nat_lt, not}
use Rattle.std.specs.Int.RustNames.{int_div}
use Rattle.std.specs.Int.Bits.{bit_and, bit_or, bit_xor}
use Rattle.std.proofs.lemmas.Bool.{eqb-true, and_parts}
use Rattle.b3_base.specs.Arithmetic.{leading_zeros, low, rotate_right, sign_extended}
use Rattle.b3_base.specs.Signed.{shifted_right_signed, signed, unsigned}
use Rattle.b3_base.specs.Word.{bits}
use Rattle.b3_base.specs.declared.word.Width.{Width}
use Rattle.b3_base.specs.declared.word.Width.TheVariants.{W32, W64}
use Rattle.b3_ir.specs.Types.{AllowsTypes, AreTaken, IsTaken, width_of}
use Rattle.b3_ir.specs.declared.opcode.Opcode.{Opcode}
use Rattle.b3_ir.specs.declared.opcode.Opcode.TheVariants as opcode
use Rattle.b3_ir.specs.declared.opcode.Ty.{Ty}
use Rattle.b3_ir.specs.declared.opcode.Ty.TheVariants.{Int32}
use Rattle.b3_ir.specs.declared.table.Takes.{Takes}
use Rattle.b3_ir.specs.declared.table.Takes.TheVariants.{Alike, This}
use Rattle.b3_ir.specs.declared.table.More.TheVariants.{NoMore}
use Rattle.b3_meaning.specs.Opcodes.{AreWordsOf, DivisionByZero, Gives, LeastByMinusOne, Undefined, Undefines, amount, chilled, difference, divided, is_below, is_least_by_minus_one, least, product, result, shifted_left, sum, truth, unless_zero}
use Rattle.a64_inst.specs.StepData.{quotient}
use Rattle.a64_inst.specs.declared.inst.Cond.{Cond}
use Rattle.a64_inst.specs.declared.inst.Cond.TheVariants.{Eq, Ne, Hs, Lo, Hi, Ls, Ge, Lt, Gt, Le}
use Rattle.air_ir.specs.Words.{computed}
use Rattle.air_ir.proofs.Conditions as conditions
use Rattle.air_ir.proofs.Conditions.{compares}
use Rattle.air_select.specs.Selected.{op_of}

-- the width of the first of some types
abbrev pub first_width : List Ty → Width
first_width [] = W64
first_width (ty ∷ types) = width_of ty

-- the op of an opcode computes what the opcode gives
abbrev pub IsRight : Opcode → Type 0
IsRight o = (chill : Bool) (ty : Ty) (types : List Ty) (ws : List ℕ) (w : ℕ) → AllowsTypes o ty types → AreWordsOf types ws
    → result o chill ty ws types ≡ Gives w → computed (op_of o) (first_width types) ws ≡ Some w

-- ---- shapes

pub by_one : (P : List Ty → List ℕ → Type 0) (alike : Ty) (a : Takes) (types : List Ty) (ws : List ℕ) → AreTaken alike (a ∷ []) NoMore types
    → AreWordsOf types ws
    → ((t : Ty) (x : ℕ) → IsTaken alike a t → x < 2 ^ bits (width_of t) → P (t ∷ []) (x ∷ [])) → P types ws
by_one P alike a [] ws taken words h = absurd taken
by_one P alike a (t ∷ u ∷ more) ws taken words h = absurd (let none : u ∷ more ≡ [] = taken.1 in cc)
by_one P alike a (t ∷ []) [] taken words h = absurd words
by_one P alike a (t ∷ []) (x ∷ y ∷ ws) taken words h = absurd words.1
by_one P alike a (t ∷ []) (x ∷ []) taken words h = h t x taken.0 words.0

pub by_two : (P : List Ty → List ℕ → Type 0) (alike : Ty) (a b : Takes) (types : List Ty) (ws : List ℕ) → AreTaken alike (a ∷ b ∷ []) NoMore types
    → AreWordsOf types ws
    → ((t u : Ty) (x y : ℕ) → IsTaken alike a t → IsTaken alike b u → x < 2 ^ bits (width_of t) → y < 2 ^ bits (width_of u) → P (t ∷ u ∷ []) (x ∷ y ∷ []))
    → P types ws
by_two P alike a b [] ws taken words h = absurd taken
by_two P alike a b (t ∷ types) [] taken words h = absurd words
by_two P alike a b (t ∷ types) (x ∷ ws) taken words h =
    by_one (λ ts xs. P (t ∷ ts) (x ∷ xs)) alike b types ws taken.1 words.1 (λ u y is lt. h t u x y taken.0 is words.0 lt)

given : (a b : ℕ) → Gives a ≡ Gives b → Some a ≡ Some b
given a b e = cc

abbrev Wanted : Opcode → Bool → Ty → ℕ → List Ty → List ℕ → Type 0
Wanted o chill ty w types ws = result o chill ty ws types ≡ Gives w → computed (op_of o) (first_width types) ws ≡ Some w

-- two children, the first of the value's own type
own_two : (o : Opcode) (b : Takes) (g : Width → ℕ → ℕ → ℕ)
    → ((width : Width) (x y : ℕ) → computed (op_of o) width (x ∷ y ∷ []) ≡ Some (g width x y))
    → ((chill : Bool) (ty : Ty) (x y w : ℕ) (types : List Ty) → result o chill ty (x ∷ y ∷ []) types ≡ Gives w → Some (g (width_of ty) x y) ≡ Some w)
    → (chill : Bool) (ty : Ty) (types : List Ty) (ws : List ℕ) (w : ℕ) (alike : Ty) → ty ≡ alike → AreTaken alike (Alike ∷ b ∷ []) NoMore types
    → AreWordsOf types ws
    → Wanted o chill ty w types ws
own_two o b g computes same chill ty types ws w alike own taken words =
    by_two (Wanted o chill ty w) alike Alike b types ws taken words (λ t u x y it iu ltx lty gives.
    computes (width_of t) x y ∙ ap (λ (k : Ty). Some (g (width_of k) x y)) (it ∙ sym own) ∙ same chill ty x y w (t ∷ u ∷ []) gives)

-- one child
own_one : (o : Opcode) (a : Takes) (g : Width → ℕ → ℕ)
    → ((width : Width) (x : ℕ) → computed (op_of o) width (x ∷ []) ≡ Some (g width x))
    → (chill : Bool) (ty : Ty) (types : List Ty) (ws : List ℕ) (w : ℕ) (alike : Ty) → AreTaken alike (a ∷ []) NoMore types → AreWordsOf types ws
    → ((t : Ty) (x : ℕ) → IsTaken alike a t → result o chill ty (x ∷ []) (t ∷ []) ≡ Gives w → Some (g (width_of t) x) ≡ Some w)
    → Wanted o chill ty w types ws
own_one o a g computes chill ty types ws w alike taken words same =
    by_one (Wanted o chill ty w) alike a types ws taken words (λ t x it lt gives. computes (width_of t) x ∙ same t x it gives)

-- a comparison
comparing : (o : Opcode) (c : Cond) (f : Ty → ℕ → ℕ → Bool)
    → ((width : Width) (x y : ℕ) → computed (op_of o) width (x ∷ y ∷ []) ≡ Some (truth (compares c width x y)))
    → ((chill : Bool) (ty t : Ty) (x y : ℕ) (types : List Ty) → result o chill ty (x ∷ y ∷ []) (t ∷ types) ≡ Gives (truth (f t x y)))
    → ((t : Ty) (x y : ℕ) → x < 2 ^ bits (width_of t) → y < 2 ^ bits (width_of t) → compares c (width_of t) x y ≡ f t x y)
    → (chill : Bool) (ty : Ty) (types : List Ty) (ws : List ℕ) (w : ℕ) (alike : Ty) → AreTaken alike (Alike ∷ Alike ∷ []) NoMore types → AreWordsOf types ws
    → Wanted o chill ty w types ws
comparing o c f computes results same chill ty types ws w alike taken words =
    by_two (Wanted o chill ty w) alike Alike Alike types ws taken words (λ t u x y it iu ltx lty gives.
    computes (width_of t) x y
    ∙ ap (λ b. Some (truth b)) (same t x y ltx (subst (λ (k : Ty). y < 2 ^ bits (width_of k)) (iu ∙ sym it) lty))
    ∙ given (truth (f t x y)) w (sym (results chill ty t x y (u ∷ [])) ∙ gives))

-- ---- divisions

pub undefined_gives : (u : Undefined) (w : ℕ) → Undefines u ≡ Gives w → ⊥
undefined_gives u w e = cc

pub chilled_is : (chill : Bool) (word w : ℕ) (u : Undefined) → chilled chill word u ≡ Gives w → word ≡ w
chilled_is true word w u e = cc
chilled_is false word w u e = absurd (undefined_gives u w e)

least_quotient : (width : Width) → quotient width true (least width) (2 ^ bits width - 1) ≡ least width
least_quotient W32 = refl
least_quotient W64 = refl

least_is : (width : Width) (x y : ℕ) → is_least_by_minus_one width x y ≡ true → quotient width true x y ≡ x
least_is width x y e =
    let parts = and_parts (nat_eq x (least width)) (nat_eq y (2 ^ bits width - 1)) e in
    let ex : x ≡ least width = eqb-true x (least width) parts.0 in
    let ey : y ≡ 2 ^ bits width - 1 = eqb-true y (2 ^ bits width - 1) parts.1 in
    ap (λ n. quotient width true n y) ex ∙ ap (quotient width true (least width)) ey ∙ least_quotient width ∙ sym ex

pub divided_is : (width : Width) (chill : Bool) (x y w : ℕ) → divided width chill x y ≡ Gives w → quotient width true x y ≡ w
divided_is width chill x y w e = go (nat_eq y 0) refl (is_least_by_minus_one width x y) refl e
  where
    go : (zero : Bool) → nat_eq y 0 ≡ zero → (extreme : Bool) → is_least_by_minus_one width x y ≡ extreme
        → (if zero then chilled chill 0 DivisionByZero else if extreme then chilled chill x LeastByMinusOne else Gives
        (unsigned width (int_div (signed width x) (signed width y)))) ≡ Gives w
        → quotient width true x y ≡ w
    go true ez extreme ee e = rw ez (chilled_is chill 0 w DivisionByZero e)
    go false ez true ee e = least_is width x y ee ∙ chilled_is chill x w LeastByMinusOne e
    go false ez false ee e = rw ez (let same : Gives (unsigned width (int_div (signed width x) (signed width y))) ≡ Gives w = e in cc)

unsigned_quotient : (width : Width) (x y w : ℕ) → unless_zero y (x / y) ≡ Gives w → quotient width false x y ≡ w
unsigned_quotient width x y w e = go (nat_eq y 0) refl e
  where
    go : (zero : Bool) → nat_eq y 0 ≡ zero → (if zero then Undefines DivisionByZero else Gives (x / y)) ≡ Gives w → quotient width false x y ≡ w
    go true ez e = absurd (undefined_gives DivisionByZero w e)
    go false ez e = rw ez (let same : Gives (x / y) ≡ Gives w = e in cc)

-- ---- the rows

-- the opcodes that are one op
abbrev pub is_one_op : Opcode → Bool
is_one_op opcode.Add = true
is_one_op opcode.Sub = true
is_one_op opcode.Mul = true
is_one_op opcode.BitAnd = true
is_one_op opcode.BitOr = true
is_one_op opcode.BitXor = true
is_one_op opcode.Neg = true
is_one_op opcode.Div = true
is_one_op opcode.UDiv = true
is_one_op opcode.Shl = true
is_one_op opcode.SShr = true
is_one_op opcode.ZShr = true
is_one_op opcode.RotR = true
is_one_op opcode.Clz = true
is_one_op opcode.SExt8 = true
is_one_op opcode.SExt16 = true
is_one_op opcode.SExt32 = true
is_one_op opcode.ZExt32 = true
is_one_op opcode.Equal = true
is_one_op opcode.NotEqual = true
is_one_op opcode.LessThan = true
is_one_op opcode.GreaterThan = true
is_one_op opcode.LessEqual = true
is_one_op opcode.GreaterEqual = true
is_one_op opcode.Above = true
is_one_op opcode.Below = true
is_one_op opcode.AboveEqual = true
is_one_op opcode.BelowEqual = true
is_one_op _ = false

pub one_op_right : (o : Opcode) → is_one_op o ≡ true → IsRight o
one_op_right opcode.Add is c ty ts ws w h words =
    own_two opcode.Add Alike sum (λ k x y. refl) (λ c t x y w ts e. given _ _ e) c ty ts ws w h.alike h.gives h.children words
one_op_right opcode.Sub is c ty ts ws w h words =
    own_two opcode.Sub Alike difference (λ k x y. refl) (λ c t x y w ts e. given _ _ e) c ty ts ws w h.alike h.gives h.children words
one_op_right opcode.Mul is c ty ts ws w h words =
    own_two opcode.Mul Alike product (λ k x y. refl) (λ c t x y w ts e. given _ _ e) c ty ts ws w h.alike h.gives h.children words
one_op_right opcode.BitAnd is c ty ts ws w h words =
    own_two opcode.BitAnd Alike (λ k x y. bit_and x y) (λ k x y. refl) (λ c t x y w ts e. given _ _ e) c ty ts ws w h.alike h.gives h.children words
one_op_right opcode.BitOr is c ty ts ws w h words =
    own_two opcode.BitOr Alike (λ k x y. bit_or x y) (λ k x y. refl) (λ c t x y w ts e. given _ _ e) c ty ts ws w h.alike h.gives h.children words
one_op_right opcode.BitXor is c ty ts ws w h words =
    own_two opcode.BitXor Alike (λ k x y. bit_xor x y) (λ k x y. refl) (λ c t x y w ts e. given _ _ e) c ty ts ws w h.alike h.gives h.children words
one_op_right opcode.Neg is c ty ts ws w h words =
    own_one opcode.Neg Alike (λ k x. difference k 0 x) (λ k x. refl) c ty ts ws w h.alike h.children words
    (λ t x it e. ap (λ (k : Ty). Some (difference (width_of k) 0 x)) (it ∙ sym h.gives) ∙ given _ _ e)
one_op_right opcode.Div is c ty ts ws w h words =
    own_two opcode.Div Alike (λ k x y. quotient k true x y) (λ k x y. refl) (λ c t x y w ts e. ap Some (divided_is (width_of t) c x y w e))
    c ty ts ws w h.alike h.gives h.children words
one_op_right opcode.UDiv is c ty ts ws w h words =
    own_two opcode.UDiv Alike (λ k x y. quotient k false x y) (λ k x y. refl) (λ c t x y w ts e. ap Some (unsigned_quotient (width_of t) x y w e))
    c ty ts ws w h.alike h.gives h.children words
one_op_right opcode.Shl is c ty ts ws w h words =
    own_two opcode.Shl (This Int32) shifted_left (λ k x y. refl) (λ c t x y w ts e. given _ _ e) c ty ts ws w h.alike h.gives h.children words
one_op_right opcode.SShr is c ty ts ws w h words =
    own_two opcode.SShr (This Int32) (λ k x y. shifted_right_signed k x (amount k y)) (λ k x y. refl) (λ c t x y w ts e. given _ _ e)
    c ty ts ws w h.alike h.gives h.children words
one_op_right opcode.ZShr is c ty ts ws w h words =
    own_two opcode.ZShr (This Int32) (λ k x y. x / 2 ^ amount k y) (λ k x y. refl) (λ c t x y w ts e. given _ _ e) c ty ts ws w h.alike h.gives h.children words
one_op_right opcode.RotR is c ty ts ws w h words =
    own_two opcode.RotR (This Int32) rotate_right (λ k x y. refl) (λ c t x y w ts e. given _ _ e) c ty ts ws w h.alike h.gives h.children words
one_op_right opcode.Clz is c ty ts ws w h words =
    own_one opcode.Clz Alike leading_zeros (λ k x. refl) c ty ts ws w h.alike h.children words
    (λ t x it e. ap (λ (k : Ty). Some (leading_zeros (width_of k) x)) (it ∙ sym h.gives) ∙ given _ _ e)
one_op_right opcode.SExt8 is c ty ts ws w h words =
    own_one opcode.SExt8 (This Int32) (λ k x. low k (sign_extended 8 x)) (λ k x. refl) c ty ts ws w h.alike h.children words
    (λ t x it e. ap (λ (k : Ty). Some (low (width_of k) (sign_extended 8 x))) it ∙ given _ _ e)
one_op_right opcode.SExt16 is c ty ts ws w h words =
    own_one opcode.SExt16 (This Int32) (λ k x. low k (sign_extended 16 x)) (λ k x. refl) c ty ts ws w h.alike h.children words
    (λ t x it e. ap (λ (k : Ty). Some (low (width_of k) (sign_extended 16 x))) it ∙ given _ _ e)
one_op_right opcode.SExt32 is c ty ts ws w h words =
    own_one opcode.SExt32 (This Int32) (λ k x. sign_extended 32 x) (λ k x. refl) c ty ts ws w h.alike h.children words (λ t x it e. given _ _ e)
one_op_right opcode.ZExt32 is c ty ts ws w h words =
    own_one opcode.ZExt32 (This Int32) (λ k x. x) (λ k x. refl) c ty ts ws w h.alike h.children words (λ t x it e. given _ _ e)
one_op_right opcode.Equal is c ty ts ws w h words =
    comparing opcode.Equal Eq (λ t x y. nat_eq x y) (λ k x y. refl) (λ c ty t x y ts. refl) (λ t x y. conditions.is_equal (width_of t) x y)
    c ty ts ws w h.alike h.children words
one_op_right opcode.NotEqual is c ty ts ws w h words =
    comparing opcode.NotEqual Ne (λ t x y. not (nat_eq x y)) (λ k x y. refl) (λ c ty t x y ts. refl) (λ t x y. conditions.differs (width_of t) x y)
    c ty ts ws w h.alike h.children words
one_op_right opcode.LessThan is c ty ts ws w h words =
    comparing opcode.LessThan Lt (λ t x y. is_below t x y) (λ k x y. refl) (λ c ty t x y ts. refl) (λ t x y. conditions.is_less (width_of t) x y)
    c ty ts ws w h.alike h.children words
one_op_right opcode.GreaterThan is c ty ts ws w h words =
    comparing opcode.GreaterThan Gt (λ t x y. is_below t y x) (λ k x y. refl) (λ c ty t x y ts. refl) (λ t x y. conditions.is_greater (width_of t) x y)
    c ty ts ws w h.alike h.children words
one_op_right opcode.LessEqual is c ty ts ws w h words =
    comparing opcode.LessEqual Le (λ t x y. not (is_below t y x)) (λ k x y. refl) (λ c ty t x y ts. refl) (λ t x y. conditions.is_no_greater (width_of t) x y)
    c ty ts ws w h.alike h.children words
one_op_right opcode.GreaterEqual is c ty ts ws w h words =
    comparing opcode.GreaterEqual Ge (λ t x y. not (is_below t x y)) (λ k x y. refl) (λ c ty t x y ts. refl) (λ t x y. conditions.is_no_less (width_of t) x y)
    c ty ts ws w h.alike h.children words
one_op_right opcode.Above is c ty ts ws w h words =
    comparing opcode.Above Hi (λ t x y. nat_lt y x) (λ k x y. refl) (λ c ty t x y ts. refl) (λ t x y. conditions.is_above (width_of t) x y)
    c ty ts ws w h.alike h.children words
one_op_right opcode.Below is c ty ts ws w h words =
    comparing opcode.Below Lo (λ t x y. nat_lt x y) (λ k x y. refl) (λ c ty t x y ts. refl) (λ t x y. conditions.is_below (width_of t) x y)
    c ty ts ws w h.alike h.children words
one_op_right opcode.AboveEqual is c ty ts ws w h words =
    comparing opcode.AboveEqual Hs (λ t x y. not (nat_lt x y)) (λ k x y. refl) (λ c ty t x y ts. refl) (λ t x y. conditions.is_not_below (width_of t) x y)
    c ty ts ws w h.alike h.children words
one_op_right opcode.BelowEqual is c ty ts ws w h words =
    comparing opcode.BelowEqual Ls (λ t x y. not (nat_lt y x)) (λ k x y. refl) (λ c ty t x y ts. refl) (λ t x y. conditions.is_not_above (width_of t) x y)
    c ty ts ws w h.alike h.children words
one_op_right _ is c ty ts ws w h words = absurd (cc)
