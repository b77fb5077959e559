-- The operands of what is selected are those that the ops take.
use Rattle.std.proofs.Common.{◌≡◌, ◌≢◌, ℕ, zero, suc, ◌^◌, ◌<◌, inl, inr, Bool, true, false, ◌||◌, List, [], ◌∷◌, map, Option, Some, None, refl, sym, ap, ◌∙◌, subst, arith}
use Rattle.std.specs.Prelude.{Contains, if◌then◌else◌, slice_get}
use Rattle.std.proofs.lemmas.Bool.{eqb-true}
use Rattle.b3_base.proofs.Lists.{Contains-at}
use Rattle.b3_base.specs.BitMask.{bit_mask}
use Rattle.b3_base.specs.Word.{bits}
use Rattle.b3_base.specs.declared.word.Width.{Width}
use Rattle.b3_ir.specs.Fits.{reported_count}
use Rattle.b3_ir.specs.Naming.{all_values, type_of, value_named}
use Rattle.b3_ir.specs.Procedure.{values_of, Procedure}
use Rattle.b3_ir.specs.Types.{AreTaken, IsTaken, width_of}
use Rattle.b3_ir.specs.declared.opcode.Opcode.{Opcode}
use Rattle.b3_ir.specs.declared.opcode.Opcode.TheVariants as opcode
use Rattle.b3_ir.specs.declared.opcode.Ty.{Ty}
use Rattle.b3_ir.specs.declared.opcode.Ty.TheVariants.{Void}
use Rattle.b3_ir.specs.declared.table.More.TheVariants.{NoMore}
use Rattle.b3_ir.specs.declared.table.Takes.{Takes as Taken}
use Rattle.b3_ir.specs.declared.value.Body.TheVariants.{Constant}
use Rattle.b3_ir.specs.declared.value.Value.{Value}
use Rattle.b3_ir.proofs.Typing.{allowed}
use Rattle.b3_rules.specs.Rules.{types_of}
use Rattle.b3_sound.proofs.Distinct.{stands}
use Rattle.b3_sound.proofs.Rows.{IsRow, row_by_role}
use Rattle.air_ir.specs.Forms.{Fits, Immediates, NoImmediate, AnyWord, OfSum, OfLogic, OnlyZero, IsImmediate, IsWord, Word}
use Rattle.air_ir.specs.declared.operand.Arg.TheVariants.{At, Imm}
use Rattle.air_fold.specs.Foldable.{constant_fits, pointers, sum_fits, value_fits, is_constant, is_immediate, is_mask, first_immediates, is_named, second_immediates, some_below}
use Rattle.air_select.specs.Selected.{arg_of, folds, use_of, Tables}
use Rattle.air_select.specs.Temporaries.{home}
use Rattle.air_fold.specs.Values.{Index, known, known_in, width_at}
use Rattle.air_fold.specs.declared.known.Known.{Known}
use Rattle.air_select.proofs.Children.{fit_cases}
use Rattle.air_select.specs.Sited.{is_site}
use Rattle.air_select.proofs.Facts.{body_below, constant_role}
use Rattle.air_select.proofs.Returned.{id_found, named_of, stands_somewhere}
use Rattle.b3_sound.proofs.Kept.{IsKept}
use Rattle.air_select.proofs.Setting.{IsSound}

-- ---- immediates
some_found : (n : ℕ) (test : ℕ → Bool) → some_below n test ≡ true → (k : ℕ) × (k < n) × (test k ≡ true)
some_found zero test e = absurd cc
some_found (suc n) test e = by (test n) refl (λ rest. some_found n test rest) e
  where
    by : (b : Bool) → test n ≡ b → (some_below n test ≡ true → (k : ℕ) × (k < n) × (test k ≡ true)) → (b || some_below n test) ≡ true
        → (k : ℕ) × (k < suc n) × (test k ≡ true)
    by true is rest e = (n, omega arith, is)
    by false is rest e = let found = rest e in let lt = found.1 in (found.0, omega (arith, lt), found.2)

named_is : (o : Option ℕ) (word : ℕ) → is_named o word ≡ true → o ≡ Some word
named_is (Some mask) word e = ap Some (eqb-true mask word e)
named_is None word e = absurd cc

immediate_is : (imm : Immediates) (width : Width) (word : ℕ) → is_immediate imm width word ≡ true → IsImmediate imm width word
unfolding is_mask
immediate_is NoImmediate width word e = absurd cc
immediate_is AnyWord width word e = tt
immediate_is OfSum width word e = e
immediate_is OfLogic width word e =
    let n = some_found 2 (λ n. some_below 64 (λ immr. some_below 64 (λ imms. is_named (bit_mask width n immr imms) word))) e in
    let immr = some_found 64 (λ immr. some_below 64 (λ imms. is_named (bit_mask width n.0 immr imms) word)) n.2 in
    let imms = some_found 64 (λ imms. is_named (bit_mask width n.0 immr.0 imms) word) immr.2 in
    (n.0, immr.0, imms.0, n.1, immr.1, imms.1, named_is (bit_mask width n.0 immr.0 imms.0) word imms.2)
immediate_is OnlyZero width word e = eqb-true word 0 e

-- which immediates a child may be
abbrev pub immediates_at : Opcode → ℕ → Immediates
immediates_at o zero = first_immediates o
immediates_at o (suc zero) = second_immediates o
immediates_at o at = NoImmediate

pub fits_at : (o : Opcode) (i : ℕ) (width : Width) (word : ℕ) → constant_fits o i width word ≡ true → is_immediate (immediates_at o i) width word ≡ true
fits_at o zero width word e = e
fits_at o (suc zero) width word e = e
fits_at o (suc (suc i)) width word e = e

-- a call, a patchpoint and a check have none
pub no_immediate : (o : Opcode) (i : ℕ) → is_site o ≡ true → immediates_at o i ≡ NoImmediate
no_immediate opcode.CCall zero e = refl
no_immediate opcode.CCall (suc zero) e = refl
no_immediate opcode.CCall (suc (suc i)) e = refl
no_immediate opcode.Patchpoint zero e = refl
no_immediate opcode.Patchpoint (suc zero) e = refl
no_immediate opcode.Patchpoint (suc (suc i)) e = refl
no_immediate opcode.Check zero e = refl
no_immediate opcode.Check (suc zero) e = refl
no_immediate opcode.Check (suc (suc i)) e = refl
no_immediate opcode.CheckAdd zero e = refl
no_immediate opcode.CheckAdd (suc zero) e = refl
no_immediate opcode.CheckAdd (suc (suc i)) e = refl
no_immediate opcode.CheckSub zero e = refl
no_immediate opcode.CheckSub (suc zero) e = refl
no_immediate opcode.CheckSub (suc (suc i)) e = refl
no_immediate opcode.CheckMul zero e = refl
no_immediate opcode.CheckMul (suc zero) e = refl
no_immediate opcode.CheckMul (suc (suc i)) e = refl
no_immediate _ i e = absurd cc

pub never_constant : (o : Opcode) (i : ℕ) (width : Width) (word : ℕ) → is_site o ≡ true → constant_fits o i width word ≡ false
never_constant o i width word site = by (constant_fits o i width word) refl
  where
    by : (b : Bool) → constant_fits o i width word ≡ b → b ≡ false
    by false e = refl
    by true e =
        let none : is_immediate NoImmediate width word ≡ true =
        subst (λ (m : Immediates). is_immediate m width word ≡ true) (no_immediate o i site) (fits_at o i width word e) in
        absurd cc

-- and none of their children is a part of a sum
pub no_sum : (x : Index) (f : List Bool) (o : Opcode) (i user : ℕ) → is_site o ≡ true → sum_fits x f o i user ≡ false
no_sum x f opcode.Add i user e = absurd cc
no_sum x f _ i user e = refl

-- ---- children
module _ (p : Procedure) (valid : IsKept p) (t : Tables) (sound : IsSound p t) where
  -- the word of a constant is one of its width
  pub constant_small : (c : ℕ) → type_of p c ≢ Void → is_constant (known t.index c).opcode ≡ true → (known t.index c).word < 2 ^ bits (width_at t.index c)
  constant_small c typed const =
      let named = named_of c (value_named p c) (type_of p c) refl typed in
      let w = named.0 in
      let found = id_found c (all_values p) w named.1 in
      let at = stands_somewhere p w found.0 in
      let in_b : Contains (values_of p at.0) w = Contains-at (values_of p at.0) at.1 w at.2 in
      let st = stands p at.0 w in_b in
      let rules = valid.rules at.0 st.0 w st.1 in
      let is : known t.index c ≡ known_in at.0 w = ap (known t.index) (sym found.1) ∙ sound.is_known at.0 w in_b in
      let role = constant_role w.kind.opcode (sym (ap (λ (k : Known). is_constant k.opcode) is) ∙ const) in
      let row = row_by_role w.kind.opcode w.ty (types_of p w) (reported_count w) w.body (allowed w.kind.opcode w.ty (types_of p w) rules.typed)
      rules.fits.body in
      let body = body_below (2 ^ bits (width_of w.ty)) w.body (subst (λ q. IsRow q w.ty (types_of p w) w.body) role row) in
      subst (λ (k : Known). k.word < 2 ^ bits (width_of k.ty)) (sym is) body.1

  -- an id that is known as a constant's names one with this word
  pub constant_value : (c : ℕ) → type_of p c ≢ Void → is_constant (known t.index c).opcode ≡ true
      → (w : Value) × (value_named p c ≡ Some w) × (is_constant w.kind.opcode ≡ true) × (w.body ≡ Constant (known t.index c).word)
  constant_value c typed const =
      let named = named_of c (value_named p c) (type_of p c) refl typed in
      let w = named.0 in
      let found = id_found c (all_values p) w named.1 in
      let at = stands_somewhere p w found.0 in
      let in_b : Contains (values_of p at.0) w = Contains-at (values_of p at.0) at.1 w at.2 in
      let st = stands p at.0 w in_b in
      let rules = valid.rules at.0 st.0 w st.1 in
      let is : known t.index c ≡ known_in at.0 w = ap (known t.index) (sym found.1) ∙ sound.is_known at.0 w in_b in
      let own : is_constant w.kind.opcode ≡ true = sym (ap (λ (k : Known). is_constant k.opcode) is) ∙ const in
      let role = constant_role w.kind.opcode own in
      let row = row_by_role w.kind.opcode w.ty (types_of p w) (reported_count w) w.body (allowed w.kind.opcode w.ty (types_of p w) rules.typed)
      rules.fits.body in
      let body = body_below (2 ^ bits (width_of w.ty)) w.body (subst (λ q. IsRow q w.ty (types_of p w) w.body) role row) in
      (w, named.1, own, body.0 ∙ ap (λ (k : Known). Constant k.word) (sym is))

  module _ (b : ℕ) (v : Value) (here : Contains (values_of p b) v) where
    -- a child that is no condition is a home or an immediate
    word_fits : (i c : ℕ) → slice_get v.children i ≡ Some c → ((k : Known) → value_fits t.index (pointers p) v.kind.opcode i v.id k ≡ false)
        → sum_fits t.index (pointers p) v.kind.opcode i v.id ≡ false → type_of p c ≢ Void
        → IsWord (immediates_at v.kind.opcode i) (width_at t.index c) (arg_of t c)
    word_fits i c at none no_sum typed = by (folds t c) refl
      where
        by : (f : Bool) → folds t c ≡ f → IsWord (immediates_at v.kind.opcode i) (width_at t.index c)
            (if f then Imm (known t.index c).word else At (home t.index c))
        by false e = tt
        by true e = elim (fit_cases t (pointers p) b v.kind.opcode i v.id c (sound.uses_fit b i c v here at e)) [
          | inl constant ↦ (
            constant_small c typed constant.constant,
            immediate_is (immediates_at v.kind.opcode i) (width_at t.index c) (known t.index c).word
                (fits_at v.kind.opcode i (width_at t.index c) (known t.index c).word constant.fits),
          )
          | inr (inl in_sum) ↦ absurd (let bad : true ≡ false = sym in_sum.fits ∙ no_sum in cc)
          | inr (inr value) ↦ absurd (let bad : true ≡ false = sym value.fits ∙ none (known t.index c) in cc)
        ]

    pub child_fits : (i c : ℕ) (ty : Ty) → slice_get v.children i ≡ Some c → ((k : Known) → value_fits t.index (pointers p) v.kind.opcode i v.id k ≡ false)
        → sum_fits t.index (pointers p) v.kind.opcode i v.id ≡ false → type_of p c ≡ ty
        → ty ≢ Void → Fits (Word (width_of ty) (immediates_at v.kind.opcode i)) (use_of t c)
    child_fits i c ty at none no_sum is typed =
        let typed' : type_of p c ≢ Void = λ e. typed (sym is ∙ e) in
        let width : width_at t.index c ≡ width_of ty = ap width_of (sound.types c ∙ is) in
        (refl, width, subst (λ w. IsWord (immediates_at v.kind.opcode i) w (arg_of t c)) width (word_fits i c at none no_sum typed'))

-- ---- the children of a row
pub two_of : (ty : ℕ → Ty) (alike : Ty) (a b : Taken) (cs : List ℕ) → AreTaken alike (a ∷ b ∷ []) NoMore (map ty cs)
    → (c : ℕ) × (d : ℕ) × (cs ≡ c ∷ d ∷ []) × IsTaken alike a (ty c) × IsTaken alike b (ty d)
two_of ty alike a b [] taken = absurd taken
two_of ty alike a b (c ∷ []) taken = absurd taken.1
two_of ty alike a b (c ∷ d ∷ []) taken = (c, d, refl, taken.0, taken.1.0)
two_of ty alike a b (c ∷ d ∷ e ∷ cs) taken = absurd (let none = taken.1.1 in cc)

pub one_of : (ty : ℕ → Ty) (alike : Ty) (a : Taken) (cs : List ℕ) → AreTaken alike (a ∷ []) NoMore (map ty cs)
    → (c : ℕ) × (cs ≡ c ∷ []) × IsTaken alike a (ty c)
one_of ty alike a [] taken = absurd taken
one_of ty alike a (c ∷ []) taken = (c, refl, taken.0)
one_of ty alike a (c ∷ d ∷ cs) taken = absurd (let none = taken.1 in cc)

pub three_of : (ty : ℕ → Ty) (alike : Ty) (a b d : Taken) (cs : List ℕ) → AreTaken alike (a ∷ b ∷ d ∷ []) NoMore (map ty cs)
    → (c : ℕ) × (e : ℕ) × (f : ℕ) × (cs ≡ c ∷ e ∷ f ∷ []) × IsTaken alike a (ty c) × IsTaken alike b (ty e) × IsTaken alike d (ty f)
three_of ty alike a b d [] taken = absurd taken
three_of ty alike a b d (c ∷ cs) taken =
    let rest = two_of ty alike b d cs taken.1 in
    (c, rest.0, rest.1, ap (λ (l : List ℕ). c ∷ l) rest.2, taken.0, rest.3, rest.4)
