-- Each instruction of a value has the operands that its op takes: the opcodes that are one op over their children, copies,
-- remainders and rotations.
use Rattle.std.proofs.Common.{◌≡◌, ◌≢◌, ℕ, false, List, [], ◌∷◌, ◌++◌, map, Some, refl, sym, ap, subst}
use Rattle.std.specs.Prelude.{Contains, slice_get}
use Rattle.b3_base.specs.declared.word.Width.{Width}
use Rattle.b3_base.specs.declared.word.Width.TheVariants.{W32}
use Rattle.b3_ir.specs.Naming.{type_of}
use Rattle.b3_ir.specs.Procedure.{Procedure, values_of}
use Rattle.b3_ir.specs.Types.{AreTaken, width_of}
use Rattle.b3_ir.specs.declared.opcode.Opcode.{Opcode}
use Rattle.b3_ir.specs.declared.opcode.Ty.{Ty}
use Rattle.b3_ir.specs.declared.opcode.Ty.TheVariants.{Void, Int32}
use Rattle.b3_ir.specs.declared.table.More.TheVariants.{NoMore}
use Rattle.b3_ir.specs.declared.table.Takes.TheVariants.{Alike, This}
use Rattle.b3_ir.specs.declared.value.Value.{Value}
use Rattle.b3_rules.specs.Rules.{types_of}
use Rattle.b3_sound.proofs.Kept.{IsKept}
use Rattle.air_ir.specs.Forms.{AllFit, Fits, Immediates, NoImmediate, AnyWord, IsWord, Takes, Word, Result}
use Rattle.air_ir.specs.declared.operand.Arg.{Arg}
use Rattle.air_ir.specs.declared.operand.Arg.TheVariants.{At, Imm}
use Rattle.air_ir.specs.declared.operand.Home.TheVariants.{Tmp}
use Rattle.air_ir.specs.declared.operand.Operand.{Operand}
use Rattle.air_fold.specs.Foldable.{first_immediates, pointers, second_immediates, sum_fits, value_fits}
use Rattle.air_select.specs.Selected.{Tables, def_at, result_of, use_at, use_of}
use Rattle.air_select.specs.Temporaries.{home}
use Rattle.air_fold.specs.Values.{child}
use Rattle.air_fold.specs.declared.known.Known.{Known}
use Rattle.air_select.proofs.Operands.{child_fits, immediates_at, one_of, two_of}
use Rattle.air_select.proofs.Setting.{IsSound}

-- the operands after the children, and with them
pub fit_three : (a b r : Takes) (x y z : Operand) → Fits a x → Fits b y → Fits r z → AllFit (a ∷ b ∷ r ∷ []) (x ∷ y ∷ z ∷ [])
unfolding AllFit
fit_three a b r x y z p q s = (p, (q, (s, tt)))

pub fit_two : (a r : Takes) (x z : Operand) → Fits a x → Fits r z → AllFit (a ∷ r ∷ []) (x ∷ z ∷ [])
unfolding AllFit
fit_two a r x z p s = (p, (s, tt))

pub fit_four : (a b c r : Takes) (w x y z : Operand) → Fits a w → Fits b x → Fits c y → Fits r z → AllFit (a ∷ b ∷ c ∷ r ∷ []) (w ∷ x ∷ y ∷ z ∷ [])
unfolding AllFit
fit_four a b c r w x y z p q s u = (p, (q, (s, (u, tt))))

pub fit_one : (a : Takes) (x : Operand) → Fits a x → AllFit (a ∷ []) (x ∷ [])
unfolding AllFit
fit_one a x p = (p, tt)

pub fit_none : AllFit [] []
unfolding AllFit
fit_none = tt

any_word : (width : Width) (arg : Arg) → IsWord NoImmediate width arg → IsWord AnyWord width arg
any_word width (At home) is = tt
any_word width (Imm word) is = (is.0, tt)
any_word width _ is = is

pub any_fits : (width : Width) (o : Operand) → Fits (Word width NoImmediate) o → Fits (Word width AnyWord) o
any_fits width o fits = (fits.0, fits.1, any_word width o.arg fits.2)

-- the two children of a remainder
pub record Divided (t : Tables) (v : Value) : Type 0 where
  pub dividend : Fits (Word (width_of v.ty) NoImmediate) (use_of t (child v.children 0))
  pub divisor : Fits (Word (width_of v.ty) NoImmediate) (use_of t (child v.children 1))

module _ (p : Procedure) (kept : IsKept p) (t : Tables) (sound : IsSound p t) where
  module _ (b : ℕ) (v : Value) (here : Contains (values_of p b) v) (o : Opcode) (is : v.kind.opcode ≡ o) where
    -- no value fits as child i, and no constant as a part of a sum
    abbrev pub NoneFits : ℕ → Type 0
    NoneFits i = ((k : Known) → value_fits t.index (pointers p) o i v.id k ≡ false) × (sum_fits t.index (pointers p) o i v.id ≡ false)

    -- child i has this type, and fits as no other value
    pub child_as : (i c : ℕ) (ty : Ty) → slice_get v.children i ≡ Some c → ((k : Known) → value_fits t.index (pointers p) o i v.id k ≡ false)
        → sum_fits t.index (pointers p) o i v.id ≡ false → type_of p c ≡ ty
        → ty ≢ Void → Fits (Word (width_of ty) (immediates_at o i)) (use_of t c)
    child_as i c ty at none no_sum typed some =
        subst (λ (q : Opcode). ((k : Known) → value_fits t.index (pointers p) q i v.id k ≡ false) → sum_fits t.index (pointers p) q i v.id ≡ false
        → Fits (Word (width_of ty) (immediates_at q i)) (use_of t c)) is
        (λ none no_sum. child_fits p kept t sound b v here i c ty at none no_sum typed some) none no_sum

    first_at : (c : ℕ) (cs : List ℕ) → v.children ≡ c ∷ cs → slice_get v.children 0 ≡ Some c
    first_at c cs e = ap (λ (l : List ℕ). slice_get l 0) e

    second_at : (c d : ℕ) (cs : List ℕ) → v.children ≡ c ∷ d ∷ cs → slice_get v.children 1 ≡ Some d
    second_at c d cs e = ap (λ (l : List ℕ). slice_get l 1) e

    own_result : (ty : Ty) → v.ty ≡ ty → Fits (Result (width_of ty)) (result_of t v)
    own_result ty e = (refl, ap width_of e, tt)

    -- what is made of two children, the second of which may be an immediate
    two_children : (ty u : Ty) → (c d : ℕ) → v.children ≡ c ∷ d ∷ [] → type_of p c ≡ ty → type_of p d ≡ u → ty ≢ Void → u ≢ Void
        → first_immediates o ≡ NoImmediate
        → NoneFits 0 → NoneFits 1
        → Fits (Word (width_of ty) NoImmediate) (use_of t c) × Fits (Word (width_of u) (second_immediates o)) (use_of t d)
    two_children ty u c d e tc td some also none_first none none' = (
      subst (λ (m : Immediates). Fits (Word (width_of ty) m) (use_of t c)) none_first (child_as 0 c ty (first_at c (d ∷ []) e) none.0 none.1 tc some),
      child_as 1 d u (second_at c d [] e) none'.0 none'.1 td also,
    )

    -- two children of types that are known, and the result
    pub binary : (ty u r : Ty) (c d : ℕ) → v.children ≡ c ∷ d ∷ [] → type_of p c ≡ ty → type_of p d ≡ u → ty ≢ Void → u ≢ Void → v.ty ≡ r
        → first_immediates o ≡ NoImmediate
        → NoneFits 0 → NoneFits 1
        → AllFit (Word (width_of ty) NoImmediate ∷ Word (width_of u) (second_immediates o) ∷ Result (width_of r) ∷ [])
        (map (use_of t) v.children ++ result_of t v ∷ [])
    binary ty u r c d e tc td some also own none_first none none' =
        let both = two_children ty u c d e tc td some also none_first none none' in
        subst (λ (l : List ℕ). AllFit (Word (width_of ty) NoImmediate ∷ Word (width_of u) (second_immediates o) ∷ Result (width_of r) ∷ [])
        (map (use_of t) l ++ result_of t v ∷ [])) (sym e)
        (fit_three (Word (width_of ty) NoImmediate) (Word (width_of u) (second_immediates o)) (Result (width_of r)) (use_of t c) (use_of t d) (result_of t v)
        both.0 both.1 (own_result r own))

    -- one child, and the result
    pub unary : (ty r : Ty) (c : ℕ) → v.children ≡ c ∷ [] → type_of p c ≡ ty → ty ≢ Void → v.ty ≡ r → first_immediates o ≡ NoImmediate
        → NoneFits 0
        → AllFit (Word (width_of ty) NoImmediate ∷ Result (width_of r) ∷ []) (map (use_of t) v.children ++ result_of t v ∷ [])
    unary ty r c e tc some own none_first none =
        subst (λ (l : List ℕ). AllFit (Word (width_of ty) NoImmediate ∷ Result (width_of r) ∷ []) (map (use_of t) l ++ result_of t v ∷ [])) (sym e)
        (fit_two (Word (width_of ty) NoImmediate) (Result (width_of r)) (use_of t c) (result_of t v)
        (subst (λ (m : Immediates). Fits (Word (width_of ty) m) (use_of t c)) none_first (child_as 0 c ty (first_at c [] e) none.0 none.1 tc some))
        (own_result r own))

    -- ---- by the row
    module _ (a : Ty) (some : a ≢ Void) (none_first : first_immediates o ≡ NoImmediate) (none : NoneFits 0)
        (none' : NoneFits 1) where
      -- two children of one type
      pub alike_two : (r : Ty) → AreTaken a (Alike ∷ Alike ∷ []) NoMore (types_of p v) → v.ty ≡ r
          → AllFit (Word (width_of a) NoImmediate ∷ Word (width_of a) (second_immediates o) ∷ Result (width_of r) ∷ [])
          (map (use_of t) v.children ++ result_of t v ∷ [])
      alike_two r taken own =
          let cs = two_of (type_of p) a Alike Alike v.children taken in
          binary a a r cs.0 cs.1 cs.2 cs.3 cs.4 some some own none_first none none'

      -- a child of the value's own type, and an amount
      pub shifted : AreTaken a (Alike ∷ This Int32 ∷ []) NoMore (types_of p v) → v.ty ≡ a
          → AllFit (Word (width_of a) NoImmediate ∷ Word W32 (second_immediates o) ∷ Result (width_of a) ∷ []) (map (use_of t) v.children ++ result_of t v ∷ [])
      shifted taken own =
          let cs = two_of (type_of p) a Alike (This Int32) v.children taken in
          binary a Int32 a cs.0 cs.1 cs.2 cs.3 cs.4 some (λ e. cc) own none_first none none'

      -- one child of the value's own type
      pub alike_one : AreTaken a (Alike ∷ []) NoMore (types_of p v) → v.ty ≡ a
          → AllFit (Word (width_of a) NoImmediate ∷ Result (width_of a) ∷ []) (map (use_of t) v.children ++ result_of t v ∷ [])
      alike_one taken own =
          let cs = one_of (type_of p) a Alike v.children taken in
          unary a a cs.0 cs.1 cs.2 some own none_first none

    -- one child of a type, and a result of another one
    pub from_one : (alike from r : Ty) → from ≢ Void → AreTaken alike (This from ∷ []) NoMore (types_of p v) → v.ty ≡ r
        → first_immediates o ≡ NoImmediate → NoneFits 0
        → AllFit (Word (width_of from) NoImmediate ∷ Result (width_of r) ∷ []) (map (use_of t) v.children ++ result_of t v ∷ [])
    from_one alike from r some taken own none_first none =
        let cs = one_of (type_of p) alike (This from) v.children taken in
        unary from r cs.0 cs.1 cs.2 some own none_first none

    -- ---- remainders
    module _ (a : Ty) (some : a ≢ Void) (none_first : first_immediates o ≡ NoImmediate) (none : NoneFits 0)
        (none' : NoneFits 1)
        (never : second_immediates o ≡ NoImmediate) (taken : AreTaken a (Alike ∷ Alike ∷ []) NoMore (types_of p v)) (own : v.ty ≡ a) where
      pub divided : Divided t v
      divided =
          let cs = two_of (type_of p) a Alike Alike v.children taken in
          let both = two_children a a cs.0 cs.1 cs.2 cs.3 cs.4 some some none_first none none' in
          let first : child v.children 0 ≡ cs.0 = ap (λ (l : List ℕ). child l 0) cs.2 in
          let second : child v.children 1 ≡ cs.1 = ap (λ (l : List ℕ). child l 1) cs.2 in
          record {
            dividend = subst (λ (w : Ty). Fits (Word (width_of w) NoImmediate) (use_of t (child v.children 0))) (sym own)
                (subst (λ (c : ℕ). Fits (Word (width_of a) NoImmediate) (use_of t c)) (sym first) both.0);
            divisor = subst (λ (w : Ty). Fits (Word (width_of w) NoImmediate) (use_of t (child v.children 1))) (sym own)
                (subst (λ (c : ℕ). Fits (Word (width_of a) NoImmediate) (use_of t c)) (sym second)
                (subst (λ (m : Immediates). Fits (Word (width_of a) m) (use_of t cs.1)) never both.1));
          }
