-- A condition: the test of a Branch, a Check or a Select passes exactly where the word of its child isn't 0.
use Rattle.std.proofs.Common.{◌≡◌, ◌≢◌, ℕ, zero, suc, ◌*◌, ◌^◌, ◌<◌, ◌⊎◌, inl, inr, Bool, true, false, ◌&&◌, List, [], ◌∷◌, ◌++◌, map, Some, nat_eq, refl, sym, ap, ◌∙◌, subst, arith, ⊎_elim}
use Rattle.std.specs.Prelude.{Contains, if◌then◌else◌, not, slice_get}
use Rattle.std.specs.Int.{bit_at}
use Rattle.std.specs.Int.Bits.{bit_and}
use Rattle.std.proofs.lemmas.Bool.{eqb-true, ne_eqb, and_parts}
use Rattle.std.proofs.lemmas.List.Elements.{All-contains, Contains-append_left}
use Rattle.std.proofs.lemmas.Nat.{pow_pos}
use Rattle.std.proofs.lemmas.Nat.Bits.{and_pow, bit_at-lt}
use Rattle.std.proofs.lemmas.Option.{same_Some}
use Rattle.b3_base.specs.declared.word.Width.{Width}
use Rattle.b3_ir.specs.Naming.{type_of}
use Rattle.b3_ir.specs.Procedure.{values_of, Procedure}
use Rattle.b3_ir.specs.Types.{AllowsTypes, AreTaken, width_of}
use Rattle.b3_ir.specs.declared.opcode.Opcode.{Opcode}
use Rattle.b3_ir.specs.declared.opcode.Opcode.TheVariants as opcode
use Rattle.b3_ir.specs.declared.opcode.Ty.{Ty}
use Rattle.b3_ir.specs.declared.table.More.TheVariants.{NoMore}
use Rattle.b3_ir.specs.declared.table.Takes.TheVariants.{Alike}
use Rattle.b3_ir.specs.declared.value.Value.{Value}
use Rattle.b3_ir.proofs.Typing.{allowed}
use Rattle.b3_meaning.specs.Opcodes.{AreWordsOf, Gives, result, truth}
use Rattle.b3_meaning.specs.Roles.{role_of}
use Rattle.b3_meaning.specs.Run as b3
use Rattle.b3_meaning.specs.declared.role.Role.TheVariants as role
use Rattle.b3_rules.specs.Paths.{IsCovered}
use Rattle.b3_rules.specs.Rules.{types_of}
use Rattle.b3_sound.specs.Laws.{HasResult, StandsAfter}
use Rattle.b3_sound.proofs.Arriving.{first_arrival}
use Rattle.b3_sound.proofs.Distinct.{stands}
use Rattle.air_ir.specs.Meaning as air
use Rattle.air_ir.specs.Operands.{Homes, Read, targets, words}
use Rattle.air_ir.specs.Words.{computed, test}
use Rattle.air_ir.specs.declared.op.AirOp.{AirOp}
use Rattle.air_ir.specs.declared.op.AirOp.TheVariants as op
use Rattle.air_ir.specs.declared.op.Test.TheVariants.{Bit, Compare, NonZero}
use Rattle.air_ir.specs.declared.operand.Operand.{Operand}
use Rattle.air_ir.proofs.Conditions.{compares}
use Rattle.air_fold.specs.Foldable.{bit_of, constant_fits, is_and, is_bit, is_bit_test, is_comparison, is_constant, pointers, sum_fits, value_fits}
use Rattle.air_select.specs.Selected.{Condition, arg_of, condition, condition_of, folded_condition, folds, op_of, use_of, Tables}
use Rattle.air_fold.specs.Values.{child, known, known_in, width_at}
use Rattle.air_fold.specs.declared.known.Known.{Known}
use Rattle.air_select.proofs.Children.{child_word, fit_cases, known_word, readable, width_is, words_cons, words_nil}
use Rattle.air_select.proofs.Does.{at, here, Here}
use Rattle.air_select.proofs.Facts.{child_ran, grandchild_ran}
use Rattle.air_select.proofs.Instructions.{reads_use, writes_use}
use Rattle.air_select.proofs.OneOp.{first_width, is_one_op, one_op_right}
use Rattle.air_select.proofs.Plain.{takes_values, no_value}
use Rattle.air_select.proofs.Shapes.{two_children, two_here}
use Rattle.b3_base.specs.Observed.{Start}

-- the operands of a condition read some words, of which its test says whether a word isn't 0
pub record Decides (homes : Homes) (c : Condition) (word : ℕ) : Type 0 where
  pub reads : List Read
  pub words_are : (os : List Operand) (more : List Read) → words homes os ≡ Some more → words homes (c.over ++ os) ≡ Some (reads ++ more)
  pub writes : (os : List Operand) → targets (c.over ++ os) ≡ targets os
  pub tells : (more : List Read) → test c.test (air.width_of (reads ++ more)) (map (λ (r : Read). r.1) (reads ++ more)) ≡ Some
      (not (nat_eq word 0), map (λ (r : Read). r.1) more)

-- ---- comparisons

pub comparison_op : (o : Opcode) → is_comparison o ≡ true → (is_one_op o ≡ true) × (op_of o ≡ op.SetIf (Compare (condition o)))
comparison_op opcode.Equal e = (refl, refl)
comparison_op opcode.NotEqual e = (refl, refl)
comparison_op opcode.LessThan e = (refl, refl)
comparison_op opcode.GreaterThan e = (refl, refl)
comparison_op opcode.LessEqual e = (refl, refl)
comparison_op opcode.GreaterEqual e = (refl, refl)
comparison_op opcode.Above e = (refl, refl)
comparison_op opcode.Below e = (refl, refl)
comparison_op opcode.AboveEqual e = (refl, refl)
comparison_op opcode.BelowEqual e = (refl, refl)
comparison_op _ e = absurd (cc)

-- a comparison takes two words of a type, is pure and has no condition of its own
pub comparison_row : (o : Opcode) → is_comparison o ≡ true → (role_of o ≡ role.Pure) × (takes_values o ≡ false)
comparison_row opcode.Equal e = (refl, refl)
comparison_row opcode.NotEqual e = (refl, refl)
comparison_row opcode.LessThan e = (refl, refl)
comparison_row opcode.GreaterThan e = (refl, refl)
comparison_row opcode.LessEqual e = (refl, refl)
comparison_row opcode.GreaterEqual e = (refl, refl)
comparison_row opcode.Above e = (refl, refl)
comparison_row opcode.Below e = (refl, refl)
comparison_row opcode.AboveEqual e = (refl, refl)
comparison_row opcode.BelowEqual e = (refl, refl)
comparison_row _ e = absurd (cc)

comparison_takes : (o : Opcode) (ty : Ty) (types : List Ty) → is_comparison o ≡ true → (h : AllowsTypes o ty types)
    → AreTaken h.alike (Alike ∷ Alike ∷ []) NoMore types
comparison_takes opcode.Equal ty types e h = h.children
comparison_takes opcode.NotEqual ty types e h = h.children
comparison_takes opcode.LessThan ty types e h = h.children
comparison_takes opcode.GreaterThan ty types e h = h.children
comparison_takes opcode.LessEqual ty types e h = h.children
comparison_takes opcode.GreaterEqual ty types e h = h.children
comparison_takes opcode.Above ty types e h = h.children
comparison_takes opcode.Below ty types e h = h.children
comparison_takes opcode.AboveEqual ty types e h = h.children
comparison_takes opcode.BelowEqual ty types e h = h.children
comparison_takes _ ty types e h = absurd (cc)

truth_tells : (b : Bool) (w : ℕ) → Some (truth b) ≡ Some w → b ≡ not (nat_eq w 0)
truth_tells true w e = let same : 1 ≡ w = cc in ap (λ n. not (nat_eq n 0)) same
truth_tells false w e = let same : 0 ≡ w = cc in ap (λ n. not (nat_eq n 0)) same

-- ---- bits

bit_cases : (bit k : ℕ) → bit < 2 → nat_eq bit 1 ≡ not (nat_eq (bit * 2 ^ k) 0)
bit_cases zero k lt = let none : 0 * 2 ^ k ≡ 0 = omega arith in rw none refl
bit_cases (suc zero) k lt = let some : 1 * 2 ^ k ≢ 0 = omega (arith, pow_pos k) in rw (ne_eqb (1 * 2 ^ k) 0 some) refl
bit_cases (suc (suc n)) k lt = absurd (omega arith)

bit_tells : (x k : ℕ) → nat_eq (bit_at x k) 1 ≡ not (nat_eq (bit_and x (2 ^ k)) 0)
bit_tells x k = bit_cases (bit_at x k) k (bit_at-lt x k) ∙ ap (λ n. not (nat_eq n 0)) (sym (and_pow x k))

and_is : (o : Opcode) → is_and o ≡ true → o ≡ opcode.BitAnd
and_is opcode.BitAnd e = refl
and_is _ e = absurd (cc)

gives_some : (a b : ℕ) → Gives a ≡ Gives b → a ≡ b
gives_some a b e = cc

module _ (p : Procedure) (t : Tables) (start : Start) (v : Value) (h : Here p t start v) where
  -- ---- a condition that is not folded

  plain_decides : (c w : ℕ) → Contains v.children c → h.st.words c ≡ Some w → folds t c ≡ false
      → Decides h.s.homes (record { test = NonZero; over = use_of t c ∷ [] }) w
  plain_decides c w has now un = record {
    reads = (width_at t.index c, w) ∷ [];
    words_are = λ os more e.
        reads_use h.s.homes (width_at t.index c) (arg_of t c) os w more
        (child_word p h.valid t h.sound start h.passed h.block h.before (v ∷ h.rest) h.stands h.st h.reached h.s h.related c w
        (child_ran p h.valid h.passed h.block h.before h.st h.reached v (at p t start v h) c has) (λ f. absurd (let bad : true ≡ false = sym f ∙ un in cc)) now)
        e;
    writes = λ os. writes_use (width_at t.index c) (arg_of t c) os;
    tells = λ more. refl;
  }

  typed_words : (cs ws : List ℕ) → b3.words_of (type_of p) h.st.words cs ≡ Some ws → AreWordsOf (map (type_of p) cs) ws
  typed_words [] ws e = subst (λ (l : List ℕ). AreWordsOf [] l) (sym (words_nil (type_of p) h.st.words ws e)) tt
  typed_words (c ∷ cs) ws e =
      let one = words_cons (type_of p) h.st.words c cs ws e in
      subst (λ (l : List ℕ). AreWordsOf (map (type_of p) (c ∷ cs)) l) (sym one.2) (h.reached.ranged.words c one.0 one.3, typed_words cs one.1 one.4)

  -- ---- the value of a folded condition

  -- a child of a value of this pass of the block stands before it, where its block is this one
  pub earlier : (before : List Value) (u : Value) → StandsAfter p h.block before u → (c : ℕ) → Contains u.children c → h.block ≡ (known t.index c).block
      → (d : Value) × (d.id ≡ c) × Contains before d
  earlier before u stands_here c has block =
      let first = first_arrival p h.block h.passed h.reached.path in
      let covered : IsCovered p h.block before c =
      All-contains (IsCovered p h.block before) u.children c (h.valid.rules h.block before u stands_here).covered has in
      let d = covered first.0 first.1 in
      ⊎_elim
      (λ (early : Contains before d.0). (d.0, d.1, early))
      (λ (there : (b : ℕ) × Contains first.0 b × Contains (values_of p b) d.0).
      let blocks : h.block ≡ there.0 = block ∙ ap (λ (q : ℕ). (known t.index q).block) (sym d.1)
      ∙ ap (λ (k : Known). k.block) (h.sound.is_known there.0 d.0 there.2) in
      absurd (first.2 (subst (λ (b : ℕ). Contains first.0 b) (sym blocks) there.1)))
      d.2

  module _ (d : Value) (early : Contains h.before d) (w : ℕ) (now : h.st.words d.id ≡ Some w) where
    pub d_here : Contains (values_of p h.block) d
    d_here = subst (λ (l : List Value). Contains l d) (sym h.stands) (Contains-append_left h.before (v ∷ h.rest) d early)

    d_stands : (before : List Value) × StandsAfter p h.block before d
    d_stands = stands p h.block d d_here

    pub d_known : known t.index d.id ≡ known_in h.block d
    d_known = h.sound.is_known h.block d d_here

    pub d_allows : AllowsTypes d.kind.opcode d.ty (types_of p d)
    d_allows = allowed d.kind.opcode d.ty (types_of p d) (h.valid.rules h.block (d_stands.0) d (d_stands.1)).typed

    -- the word of a child of it
    d_child : (i c x : ℕ) → takes_values d.kind.opcode ≡ false → slice_get d.children i ≡ Some c → Contains d.children c → h.st.words c ≡ Some x
        → (os : List Operand) (more : List Read) → words h.s.homes os ≡ Some more → words h.s.homes (use_of t c ∷ os) ≡ Some ((width_at t.index c, x) ∷ more)
    d_child i c x none there has x_now os more e =
        reads_use h.s.homes (width_at t.index c) (arg_of t c) os x more
        (child_word p h.valid t h.sound start h.passed h.block h.before (v ∷ h.rest) h.stands h.st h.reached h.s h.related c x
        (grandchild_ran p h.valid h.passed h.block h.before h.st h.reached d early (v ∷ h.rest) h.stands c has)
        (readable p h.valid t h.sound start h.block d d_here i c there (λ k. no_value t.index (pointers p) d.kind.opcode i d.id k none)) x_now) e

    pub d_width : (c : ℕ) → width_at t.index c ≡ width_of (type_of p c)
    d_width c = width_is p h.valid t h.sound start h.passed h.block h.before (v ∷ h.rest) h.stands h.st h.reached h.s h.related c

    compared : is_comparison d.kind.opcode ≡ true
        → Decides h.s.homes (record { test = Compare (condition d.kind.opcode); over = use_of t (child d.children 0) ∷ use_of t (child d.children 1) ∷ [] }) w
    compared is =
        let row = comparison_row d.kind.opcode is in
        let done : HasResult p h.st d = h.reached.pure d early row.0 in
        let x = child d.children 0 in
        let y = child d.children 1 in
        let two = two_here (type_of p) h.st.words d_allows.alike Alike Alike d.children done.words
        (two_children (type_of p) h.st.words d_allows.alike Alike Alike d.children done.words (comparison_takes d.kind.opcode d.ty (types_of p d) is d_allows)
        done.children) in
        let same : done.word ≡ w = same_Some done.word w (sym done.has ∙ now) in
        let typed : AreWordsOf (types_of p d) done.words = typed_words d.children done.words done.children in
        let right : computed (op_of d.kind.opcode) (first_width (types_of p d)) done.words ≡ Some w =
        one_op_right d.kind.opcode (comparison_op d.kind.opcode is).0 d.kind.chill d.ty (types_of p d) done.words w d_allows typed
        (done.gives ∙ ap Gives same) in
        let first : first_width (types_of p d) ≡ width_at t.index x = first_of d.children two.x_at ∙ sym (d_width x) in
        let truth_is : Some (truth (compares (condition d.kind.opcode) (width_at t.index x) two.wx two.wy)) ≡ Some w =
        ap (λ (k : Width). computed (op.SetIf (Compare (condition d.kind.opcode))) k (two.wx ∷ two.wy ∷ [])) (sym first)
        ∙ ap (λ (o : AirOp). computed o (first_width (types_of p d)) (two.wx ∷ two.wy ∷ [])) (sym (comparison_op d.kind.opcode is).1)
        ∙ ap (computed (op_of d.kind.opcode) (first_width (types_of p d))) (sym two.words) ∙ right in
        record {
          reads = (width_at t.index x, two.wx) ∷ (width_at t.index y, two.wy) ∷ [];
          words_are = λ os more e.
              d_child 0 x two.wx row.1 two.x_at two.x_in two.x_now (use_of t y ∷ os) ((width_at t.index y, two.wy) ∷ more)
              (d_child 1 y two.wy row.1 two.y_at two.y_in two.y_now os more e);
          writes = λ os. writes_use (width_at t.index x) (arg_of t x) (use_of t y ∷ os) ∙ writes_use (width_at t.index y) (arg_of t y) os;
          tells = λ more. ap (λ b. Some (b, map (λ (r : Read). r.1) more))
              (truth_tells (compares (condition d.kind.opcode) (width_at t.index x) two.wx two.wy) w truth_is);
        }
      where
        first_of : (cs : List ℕ) → slice_get cs 0 ≡ Some (child cs 0) → first_width (map (type_of p) cs) ≡ width_of (type_of p (child cs 0))
        first_of [] e = absurd (cc)
        first_of (c ∷ cs) e = refl

    bit_tested : d.kind.opcode ≡ opcode.BitAnd → is_constant (known t.index (child d.children 1)).opcode ≡ true
        → is_bit (known t.index (child d.children 1)).word ≡ true
        → Decides h.s.homes (record { test = Bit (bit_of (known t.index (child d.children 1)).word); over = use_of t (child d.children 0) ∷ [] }) w
    bit_tested ed const bit =
        let done : HasResult p h.st d = h.reached.pure d early (ap role_of ed) in
        let x = child d.children 0 in
        let y = child d.children 1 in
        let allows = subst (λ (q : Opcode). AllowsTypes q d.ty (types_of p d)) ed d_allows in
        let two = two_here (type_of p) h.st.words allows.alike Alike Alike d.children done.words
        (two_children (type_of p) h.st.words allows.alike Alike Alike d.children done.words allows.children done.children) in
        let same : done.word ≡ w = same_Some done.word w (sym done.has ∙ now) in
        let k = (known t.index y).word in
        let y_is : k ≡ two.wy =
        known_word p h.valid t h.sound start h.passed h.block h.before (v ∷ h.rest) h.stands h.st h.reached h.s h.related y two.wy
        (grandchild_ran p h.valid h.passed h.block h.before h.st h.reached d early (v ∷ h.rest) h.stands y two.y_in) const two.y_now in
        let and_word : bit_and two.wx two.wy ≡ w =
        gives_some (bit_and two.wx two.wy) w
        (ap (λ (l : List ℕ). result opcode.BitAnd d.kind.chill d.ty l (types_of p d)) (sym two.words)
        ∙ ap (λ (q : Opcode). result q d.kind.chill d.ty done.words (types_of p d)) (sym ed) ∙ done.gives ∙ ap Gives same) in
        let power : 2 ^ bit_of k ≡ two.wy = eqb-true (2 ^ bit_of k) k bit ∙ y_is in
        let none : takes_values d.kind.opcode ≡ false = ap takes_values ed in
        record {
          reads = (width_at t.index x, two.wx) ∷ [];
          words_are = λ os more e. d_child 0 x two.wx none two.x_at two.x_in two.x_now os more e;
          writes = λ os. writes_use (width_at t.index x) (arg_of t x) os;
          tells = λ more. ap (λ b. Some (b, map (λ (r : Read). r.1) more))
              (bit_tells two.wx (bit_of k) ∙ ap (λ n. not (nat_eq (bit_and two.wx n) 0)) power ∙ ap (λ n. not (nat_eq n 0)) and_word);
        }

    -- by what is known of it
    abbrev pub condition_by : Known → Condition
    condition_by k =
        if is_comparison k.opcode
        then record { test = Compare (condition k.opcode); over = use_of t k.first ∷ use_of t k.second ∷ [] }
        else record { test = Bit (bit_of (known t.index k.second).word); over = use_of t k.first ∷ [] }

    folded_decides : (is_comparison d.kind.opcode ≡ true) ⊎ (is_bit_test t.index (known_in h.block d) ≡ true) → Decides h.s.homes (folded_condition t d.id) w
    folded_decides fits = subst (λ (k : Known). Decides h.s.homes (condition_by k) w) (sym d_known) (go (is_comparison d.kind.opcode) refl fits)
      where
        go : (is : Bool) → is_comparison d.kind.opcode ≡ is → (is ≡ true) ⊎ (is_bit_test t.index (known_in h.block d) ≡ true)
            → Decides h.s.homes (if is then record {
              test = Compare (condition d.kind.opcode);
              over =
                  use_of t (child d.children 0) ∷ use_of t (child d.children 1) ∷ [];
            }
            else record { test = Bit (bit_of (known t.index (child d.children 1)).word); over = use_of t (child d.children 0) ∷ [] }) w
        go true e fits = compared e
        go false e (inl bad) = absurd (cc)
        go false e (inr bit) =
            let outer = and_parts (is_and d.kind.opcode) (is_constant (known t.index (child d.children 1)).opcode && is_bit
            (known t.index (child d.children 1)).word) bit in
            let inner = and_parts (is_constant (known t.index (child d.children 1)).opcode) (is_bit (known t.index (child d.children 1)).word) outer.1 in
            bit_tested (and_is d.kind.opcode outer.0) inner.0 inner.1

  pub decides : (c w : ℕ) → slice_get v.children 0 ≡ Some c → Contains v.children c → h.st.words c ≡ Some w
      → ((width : Width) (word : ℕ) → constant_fits v.kind.opcode 0 width word ≡ false) → sum_fits t.index (pointers p) v.kind.opcode 0 v.id ≡ false
      → ((k : Known) → value_fits t.index (pointers p) v.kind.opcode 0 v.id k ≡ true → (is_comparison k.opcode ≡ true) ⊎ (is_bit_test t.index k ≡ true))
      → Decides h.s.homes (condition_of t c) w
  decides c w first has now never no_sum kinds = go (folds t c) refl
    where
      folded : folds t c ≡ true → Decides h.s.homes (folded_condition t c) w
      folded f =
          elim (fit_cases t (pointers p) h.block v.kind.opcode 0 v.id c (h.sound.uses_fit h.block 0 c v (here p t start v h) first f)) [
            | inl constant ↦ absurd (let bad : true ≡ false = sym constant.fits ∙ never (width_at t.index c) (known t.index c).word in cc)
            | inr (inl in_sum) ↦ absurd (let bad : true ≡ false = sym in_sum.fits ∙ no_sum in cc)
            | inr (inr fitting) ↦
                let d = earlier h.before v (at p t start v h) c has fitting.block in
                subst (λ (q : ℕ). Decides h.s.homes (folded_condition t q) w) d.1
                (folded_decides d.0 d.2 w (ap h.st.words d.1 ∙ now)
                (subst (λ (k : Known). (is_comparison k.opcode ≡ true) ⊎ (is_bit_test t.index k ≡ true))
                (ap (known t.index) (sym d.1) ∙ d_known d.0 d.2 w (ap h.st.words d.1 ∙ now)) (kinds (known t.index c) fitting.fits)))
          ]

      go : (f : Bool) → folds t c ≡ f → Decides h.s.homes (if f then folded_condition t c else record { test = NonZero; over = use_of t c ∷ [] }) w
      go true e = folded e
      go false e = plain_decides c w has now e
