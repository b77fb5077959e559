-- The address at a folded sum is that of the access whose pointer it is.
use Rattle.std.proofs.Common.{◌≡◌, ℕ, ℤ, pos, negsuc, zero, suc, ◌+◌, ◌*◌, ◌%◌, ◌^◌, inl, inr, Bool, true, false, ◌&&◌, List, ◌∷◌, ◌++◌, Some, nat_eq, refl, sym, ap, ◌∙◌, subst, arith}
use Rattle.std.specs.Prelude.{Contains, not, if◌then◌else◌, slice_get}
use Rattle.std.specs.Int.{cast_signed, cast_unsigned, w64}
use Rattle.std.proofs.lemmas.Bool.{eqb-true, and_parts}
use Rattle.std.proofs.lemmas.Int.{of_z-to_z}
use Rattle.std.proofs.lemmas.List.{append_assoc}
use Rattle.std.proofs.lemmas.List.Elements.{Contains-append_left}
use Rattle.std.proofs.lemmas.Option.{same_Some}
use Rattle.b3_base.specs.declared.word.Width.{Width}
use Rattle.b3_base.specs.declared.word.Width.TheVariants.{W64}
use Rattle.b3_ir.specs.Naming.{type_of}
use Rattle.b3_ir.specs.Procedure.{values_of, Procedure}
use Rattle.b3_ir.specs.Types.{AllowsTypes, width_of}
use Rattle.b3_ir.specs.declared.opcode.Opcode.{Opcode}
use Rattle.b3_ir.specs.declared.opcode.Opcode.TheVariants as opcode
use Rattle.b3_ir.specs.declared.opcode.Ty.{Ty}
use Rattle.b3_ir.specs.declared.opcode.Ty.TheVariants.{Int32, Int64}
use Rattle.b3_ir.specs.declared.table.Takes.TheVariants.{Alike, This}
use Rattle.b3_ir.specs.declared.value.Value.{Value}
use Rattle.b3_meaning.specs.Access.{offset_address}
use Rattle.b3_meaning.specs.Opcodes.{Gives, result, shifted_left, sum}
use Rattle.b3_meaning.specs.Roles.{role_of}
use Rattle.b3_meaning.specs.declared.role.Role.TheVariants as role
use Rattle.b3_rules.specs.Rules.{types_of}
use Rattle.b3_sound.specs.Laws.{HasResult, StandsAfter}
use Rattle.b3_sound.proofs.Lists.{contains_split}
use Rattle.air_ir.specs.Forms.{is_offset}
use Rattle.air_ir.specs.Operands as operands
use Rattle.air_ir.specs.Operands.{read, word_of}
use Rattle.air_ir.specs.Steps.{State}
use Rattle.air_ir.specs.declared.operand.Arg.TheVariants.{Addr, Index}
use Rattle.air_ir.specs.declared.operand.Home.{Home}
use Rattle.air_fold.specs.Foldable.{constant_fits, is_add, is_constant, is_index, is_pointer, is_shl, is_three, is_zero, pointer_fits, pointers, reaches, second_fits, sum_fits, value_fits, whole}
use Rattle.air_fold.specs.Values.{child, known, known_in, offset_in}
use Rattle.air_fold.specs.declared.known.Known.{Known}
use Rattle.air_select.specs.Selected.{folds, indexed_by, sum_address, Tables}
use Rattle.air_select.specs.Temporaries.{home}
use Rattle.air_select.proofs.Children.{fit_cases, known_word, unfolded}
use Rattle.air_select.proofs.Deciding.{d_allows, d_here, d_known, earlier}
use Rattle.air_select.proofs.Does.{at, here, Here}
use Rattle.air_select.proofs.Facts.{grandchild_ran}
use Rattle.air_select.proofs.Pointers.{PointerAt, is_sum}
use Rattle.air_select.proofs.Shapes.{two_children, two_here}
use Rattle.b3_base.specs.Observed.{Start}

-- ---- words

-- a constant and an offset are added one after the other, or together
whole_address : (x k : ℕ) (offset : ℤ) → offset_address x (whole k offset) ≡ offset_address ((x + k) % 2 ^ 64) offset
whole_address x k offset =
    let both = (k + cast_unsigned w64 offset) % 2 ^ 64 in
    let same : cast_unsigned w64 (cast_signed w64 both) ≡ both = of_z-to_z w64 both (omega arith) in
    ap (λ n. (x + n) % 2 ^ 64) same ∙ added x k (cast_unsigned w64 offset)
  where
    added : (x k n : ℕ) → (x + (k + n) % 2 ^ 64) % 2 ^ 64 ≡ ((x + k) % 2 ^ 64 + n) % 2 ^ 64
    added x k n = omega arith

no_offset : (x : ℕ) → offset_address (x % 2 ^ 64) (pos 0) ≡ x % 2 ^ 64
no_offset x = omega arith

plain_index : (x y : ℕ) → (x + y * 2 ^ 0) % 2 ^ 64 ≡ (x + y) % 2 ^ 64
plain_index x y = omega arith

shifted_index : (x y : ℕ) → (x + y * 2 ^ 3) % 2 ^ 64 ≡ (x + shifted_left W64 y 3) % 2 ^ 64
shifted_index x y = omega arith

zero_is : (offset : ℤ) → is_zero offset ≡ true → offset ≡ pos 0
zero_is (pos zero) e = refl
zero_is (pos (suc n)) e = absurd cc
zero_is (negsuc n) e = absurd cc

gives_is : (a b : ℕ) → Gives a ≡ Gives b → a ≡ b
gives_is a b e = cc

add_is : (o : Opcode) → is_add o ≡ true → o ≡ opcode.Add
add_is opcode.Add e = refl
add_is _ e = absurd cc

shl_is : (o : Opcode) → is_shl o ≡ true → o ≡ opcode.Shl
shl_is opcode.Shl e = refl
shl_is _ e = absurd cc

of_index : (s : State) (width : Width) (base index : Home) (shift x y : ℕ) → read W64 (s.homes base) ≡ Some x → read W64 (s.homes index) ≡ Some y
    → word_of s.homes width (Index base index shift) ≡ Some ((x + y * 2 ^ shift) % 2 ^ 64)
unfolding word_of
of_index s width base index shift x y e f = ap (λ o. operands.indexed shift o (read W64 (s.homes index))) e ∙ ap (operands.indexed shift (Some x)) f

pub of_address : (s : State) (width : Width) (base : Home) (offset : ℤ) (word : ℕ) → read W64 (s.homes base) ≡ Some word
    → word_of s.homes width (Addr base offset) ≡ Some (offset_address word offset)
unfolding word_of
of_address s width base offset word e = ap (operands.moved offset) e

module _ (p : Procedure) (t : Tables) (start : Start) (v : Value) (h : Here p t start v) where
  -- a word of 64 bits of a value that isn't folded
  whole_word : (c w : ℕ) → type_of p c ≡ Int64 → folds t c ≡ false → h.st.words c ≡ Some w → read W64 (h.s.homes (home t.index c)) ≡ Some w
  whole_word c w typed un now =
      ap (λ (k : Width). read k (h.s.homes (home t.index c))) (sym (ap width_of (h.sound.types c ∙ typed))) ∙ h.related.words c w now un

  module _ (d : Value) (early : Contains h.before d) (w : ℕ) (now : h.st.words d.id ≡ Some w) (typed : type_of p d.id ≡ Int64) where
    here_d : Contains (values_of p h.block) d
    here_d = d_here p t start v h d early w now

    known_d : known t.index d.id ≡ known_in h.block d
    known_d = d_known p t start v h d early w now

    own_type : d.ty ≡ Int64
    own_type = ap (λ (k : Known). k.ty) (sym known_d) ∙ h.sound.types d.id ∙ typed

    -- its first child stands in its home where nothing fits there
    first_unfolded : (o : Opcode) → d.kind.opcode ≡ o → (c : ℕ) → slice_get d.children 0 ≡ Some c
        → ((k : Known) → value_fits t.index (pointers p) o 0 d.id k ≡ false) → ((width : Width) (word : ℕ) → constant_fits o 0 width word ≡ false)
        → sum_fits t.index (pointers p) o 0 d.id ≡ false → folds t c ≡ false
    first_unfolded o e c there none never no_sum =
        unfolded p h.valid t h.sound start h.block d here_d 0 c there
        (λ k. ap (λ (q : Opcode). value_fits t.index (pointers p) q 0 d.id k) e ∙ none k)
        (λ width word. ap (λ (q : Opcode). constant_fits q 0 width word) e ∙ never width word)
        (ap (λ (q : Opcode). sum_fits t.index (pointers p) q 0 d.id) e ∙ no_sum)

    constant_is : (c x : ℕ) → Contains d.children c → is_constant (known t.index c).opcode ≡ true → h.st.words c ≡ Some x → (known t.index c).word ≡ x
    constant_is c x has const x_now =
        known_word p h.valid t h.sound start h.passed h.block h.before (v ∷ h.rest) h.stands h.st h.reached h.s h.related c x
        (grandchild_ran p h.valid h.passed h.block h.before h.st h.reached d early (v ∷ h.rest) h.stands c has) const x_now

    done : role_of d.kind.opcode ≡ role.Pure → HasResult p h.st d
    done pure = h.reached.pure d early pure

    -- a shift by 3 of an index
    shift_reads : (width : Width) (base : Home) (x : ℕ) → read W64 (h.s.homes base) ≡ Some x → d.kind.opcode ≡ opcode.Shl
        → is_constant (known t.index (child d.children 1)).opcode ≡ true → (known t.index (child d.children 1)).word ≡ 3
        → word_of h.s.homes width (Index base (home t.index (child d.children 0)) 3) ≡ Some ((x + w) % 2 ^ 64)
    unfolding done
    shift_reads width base x reads ed const three =
        let r = done (ap role_of ed) in
        let allows = subst (λ (q : Opcode). AllowsTypes q d.ty (types_of p d)) ed (d_allows p t start v h d early w now) in
        let two = two_here (type_of p) h.st.words allows.alike Alike (This Int32) d.children r.words
        (two_children (type_of p) h.st.words allows.alike Alike (This Int32) d.children r.words allows.children r.children) in
        let alike : allows.alike ≡ Int64 = sym allows.gives ∙ own_type in
        let z = child d.children 0 in
        let un = first_unfolded opcode.Shl ed z two.x_at (λ k. refl) (λ k n. refl) refl in
        let amount : two.wy ≡ 3 = sym (constant_is (child d.children 1) two.wy two.y_in const two.y_now) ∙ three in
        let is : shifted_left W64 two.wx 3 ≡ w =
        gives_is (shifted_left W64 two.wx 3) w
        (ap (λ n. Gives (shifted_left W64 two.wx n)) (sym amount) ∙ ap (λ (ty : Ty). Gives (shifted_left (width_of ty) two.wx two.wy)) (sym own_type)
        ∙ ap (λ (l : List ℕ). result opcode.Shl d.kind.chill d.ty l (types_of p d)) (sym two.words)
        ∙ ap (λ (q : Opcode). result q d.kind.chill d.ty r.words (types_of p d)) (sym ed) ∙ r.gives ∙ ap Gives (same_Some r.word w (sym r.has ∙ now))) in
        of_index h.s width base (home t.index z) 3 x two.wx reads (whole_word z two.wx (two.x_taken ∙ alike) un two.x_now)
        ∙ ap Some (shifted_index x two.wx ∙ ap (λ n. (x + n) % 2 ^ 64) is)

  module _ (d : Value) (early : Contains h.before d) (w : ℕ) (now : h.st.words d.id ≡ Some w) (typed : type_of p d.id ≡ Int64)
      (ed : d.kind.opcode ≡ opcode.Add) where
    -- the second child of a sum as an index
    index_reads : (width : Width) (base : Home) (x y c : ℕ) → read W64 (h.s.homes base) ≡ Some x → slice_get d.children 1 ≡ Some y → Contains d.children y
        → h.st.words y ≡ Some c → type_of p y ≡ Int64 → is_constant (known t.index y).opcode ≡ false
        → word_of h.s.homes width (indexed_by t base y (known t.index y)) ≡ Some ((x + c) % 2 ^ 64)
    index_reads width base x y c reads there has y_now y_typed other = by (folds t y) refl
      where
        by : (f : Bool) → folds t y ≡ f
            → word_of h.s.homes width (if f then Index base (home t.index (known t.index y).first) 3 else Index base (home t.index y) 0)
            ≡ Some ((x + c) % 2 ^ 64)
        by false un = of_index h.s width base (home t.index y) 0 x c reads (whole_word y c y_typed un y_now) ∙ ap Some (plain_index x c)
        by true gone =
            elim (fit_cases t (pointers p) h.block d.kind.opcode 1 d.id y (h.sound.uses_fit h.block 1 y d (here_d d early w now typed) there gone)) [
              | inl constant ↦ absurd (let bad : true ≡ false = sym constant.constant ∙ other in cc)
              | inr (inl in_sum) ↦ absurd (let bad : true ≡ false = sym in_sum.constant ∙ other in cc)
              | inr (inr value) ↦
                  let second : second_fits t.index (pointers p) opcode.Add d.id (known t.index y) ≡ true =
                  sym (ap (λ (q : Opcode). value_fits t.index (pointers p) q 1 d.id (known t.index y)) ed) ∙ value.fits in
                  let index = (and_parts (is_pointer t.index (pointers p) d.id) (is_index t.index (known t.index y)) second).1 in
                  let cut = contains_split h.before d early in
                  let at : StandsAfter p h.block cut.0 d =
                  (cut.1 ++ v ∷ h.rest, h.stands ∙ ap (λ (l : List Value). l ++ v ∷ h.rest) cut.2 ∙ append_assoc cut.0 (d ∷ cut.1) (v ∷ h.rest)) in
                  let e = earlier p t start v h cut.0 d at y has value.block in
                  let before : Contains h.before e.0 =
                  subst (λ (l : List Value). Contains l e.0) (sym cut.2) (Contains-append_left cut.0 (d ∷ cut.1) e.0 e.2) in
                  let e_now : h.st.words (e.0).id ≡ Some c = ap h.st.words e.1 ∙ y_now in
                  let is : known t.index y ≡ known_in h.block e.0 = ap (known t.index) (sym e.1) ∙ d_known p t start v h e.0 before c e_now in
                  let shift : is_index t.index (known_in h.block e.0) ≡ true = subst (λ (k : Known). is_index t.index k ≡ true) is index in
                  let second_child = known t.index (child (e.0).children 1) in
                  let first_child = known t.index (child (e.0).children 0) in
                  let parts = and_parts (is_shl (e.0).kind.opcode) (is_three second_child && not (is_constant first_child.opcode)) shift in
                  let three = and_parts (is_three second_child) (not (is_constant first_child.opcode)) parts.1 in
                  let amount = and_parts (is_constant second_child.opcode) (nat_eq second_child.word 3) three.0 in
                  subst (λ (k : Known). word_of h.s.homes width (Index base (home t.index k.first) 3) ≡ Some ((x + c) % 2 ^ 64)) (sym is)
                  (shift_reads e.0 before c e_now (ap (type_of p) e.1 ∙ y_typed) width base x reads (shl_is (e.0).kind.opcode parts.0) amount.0
                  (eqb-true second_child.word 3 amount.1))
            ]

    sum_reads : (width : Width) (bytes : ℕ) (is_word : Bool) → reaches bytes is_word (offset_in v.body) (known t.index (child d.children 1)) ≡ true
        → word_of h.s.homes width (sum_address t v (known_in h.block d)) ≡ Some (offset_address w (offset_in v.body))
    unfolding done
    sum_reads width bytes is_word fits =
        let r = done d early w now typed (ap role_of ed) in
        let allows = subst (λ (q : Opcode). AllowsTypes q d.ty (types_of p d)) ed (d_allows p t start v h d early w now) in
        let two = two_here (type_of p) h.st.words allows.alike Alike Alike d.children r.words
        (two_children (type_of p) h.st.words allows.alike Alike Alike d.children r.words allows.children r.children) in
        let alike : allows.alike ≡ Int64 = sym allows.gives ∙ own_type d early w now typed in
        let x = child d.children 0 in
        let y = child d.children 1 in
        let offset = offset_in v.body in
        let is : (two.wx + two.wy) % 2 ^ 64 ≡ w =
        gives_is ((two.wx + two.wy) % 2 ^ 64) w
        (ap (λ (ty : Ty). Gives (sum (width_of ty) two.wx two.wy)) (sym (own_type d early w now typed))
        ∙ ap (λ (l : List ℕ). result opcode.Add d.kind.chill d.ty l (types_of p d)) (sym two.words)
        ∙ ap (λ (q : Opcode). result q d.kind.chill d.ty r.words (types_of p d)) (sym ed) ∙ r.gives ∙ ap Gives (same_Some r.word w (sym r.has ∙ now))) in
        let un = first_unfolded d early w now typed opcode.Add ed x two.x_at (λ k. refl) (λ k n. refl) refl in
        let base : read W64 (h.s.homes (home t.index x)) ≡ Some two.wx = whole_word x two.wx (two.x_taken ∙ alike) un two.x_now in
        sum_by width bytes is_word x y two.wx two.wy offset base is two.y_at two.y_in two.y_now (two.y_taken ∙ alike)
        (is_constant (known t.index y).opcode) refl fits
      where
        sum_by : (width : Width) (bytes : ℕ) (is_word : Bool) (x y wx wy : ℕ) (offset : ℤ) → read W64 (h.s.homes (home t.index x)) ≡ Some wx
            → (wx + wy) % 2 ^ 64 ≡ w → slice_get d.children 1 ≡ Some y → Contains d.children y → h.st.words y ≡ Some wy → type_of p y ≡ Int64
            → (c : Bool) → is_constant (known t.index y).opcode ≡ c
            → (if c then is_offset bytes (whole (known t.index y).word offset) else (is_word && (nat_eq bytes 8 && is_zero offset))) ≡ true
            → word_of h.s.homes width
            (if c then Addr (home t.index x) (whole (known t.index y).word offset) else indexed_by t (home t.index x) y (known t.index y))
            ≡ Some (offset_address w offset)
        sum_by width bytes is_word x y wx wy offset base is there has y_now y_typed true const fits =
            let word = constant_is d early w now typed y wy has const y_now in
            of_address h.s width (home t.index x) (whole (known t.index y).word offset) wx base
            ∙ ap (λ n. Some (offset_address wx (whole n offset))) word
            ∙ ap Some (whole_address wx wy offset ∙ ap (λ n. offset_address n offset) is)
        sum_by width bytes is_word x y wx wy offset base is there has y_now y_typed false other fits =
            let inner = and_parts is_word (nat_eq bytes 8 && is_zero offset) fits in
            let zero_offset = zero_is offset (and_parts (nat_eq bytes 8) (is_zero offset) inner.1).1 in
            index_reads width (home t.index x) wx y wy base there has y_now y_typed other
            ∙ ap Some (sym (no_offset (wx + wy)) ∙ ap (λ n. offset_address n (pos 0)) is ∙ ap (offset_address w) (sym zero_offset))

  -- the address at a folded pointer of an access
  pub sum_word : (o : Opcode) (eo : v.kind.opcode ≡ o) (i bytes : ℕ) → PointerAt p t v o i bytes → (pointer word : ℕ) → slice_get v.children i ≡ Some pointer
      → Contains v.children pointer → h.st.words pointer ≡ Some word → type_of p pointer ≡ Int64 → folds t pointer ≡ true
      → (width : Width) → word_of h.s.homes width (sum_address t v (known t.index pointer)) ≡ Some (offset_address word (offset_in v.body))
  sum_word o eo i bytes pointed pointer word there has now typed gone width =
      let sum = is_sum p t h.sound h.block v (here p t start v h) o eo i bytes pointed pointer there gone in
      let k = known t.index pointer in
      let e = earlier p t start v h h.before v (at p t start v h) pointer has sum.block in
      let e_now : h.st.words (e.0).id ≡ Some word = ap h.st.words e.1 ∙ now in
      let is : k ≡ known_in h.block e.0 = ap (known t.index) (sym e.1) ∙ d_known p t start v h e.0 e.2 word e_now in
      let parts = and_parts (is_add (e.0).kind.opcode) (reaches bytes pointed.is_word (offset_in v.body) (known t.index (child (e.0).children 1)))
      (subst (λ (q : Known). pointer_fits t.index bytes pointed.is_word (offset_in v.body) q ≡ true) is sum.fits) in
      subst (λ (q : Known). word_of h.s.homes width (sum_address t v q) ≡ Some (offset_address word (offset_in v.body))) (sym is)
      (sum_reads e.0 e.2 word e_now (ap (type_of p) e.1 ∙ typed) (add_is (e.0).kind.opcode parts.0) width bytes pointed.is_word parts.1)
