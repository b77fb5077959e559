-- RotL: a rotation right by the negative of the amount.
use Rattle.std.proofs.Common.{◌≡◌, ℕ, ◌+◌, ◌-◌, ◌*◌, ◌%◌, ◌^◌, ◌<◌, Bool, true, false, List, [], ◌∷◌, Some, None, refl, sym, ap, ◌∙◌, subst, arith}
use Rattle.std.proofs.lemmas.Option.{same_Some}
use Rattle.std.specs.Prelude.{if◌then◌else◌}
use Rattle.b3_base.specs.Arithmetic.{low, rotate_right, rotated_right}
use Rattle.b3_base.specs.Word.{bits}
use Rattle.b3_base.specs.declared.word.Width.{Width}
use Rattle.b3_base.specs.declared.word.Width.TheVariants.{W32, W64}
use Rattle.b3_ir.specs.Naming.{type_of}
use Rattle.b3_ir.specs.Types.{AllowsTypes, width_of}
use Rattle.b3_ir.specs.declared.opcode.Opcode.{Opcode}
use Rattle.b3_ir.specs.declared.opcode.Opcode.TheVariants as opcode
use Rattle.b3_ir.specs.declared.opcode.Ty.{Ty}
use Rattle.b3_ir.specs.declared.opcode.Ty.TheVariants.{Int32}
use Rattle.b3_ir.specs.declared.table.Takes.TheVariants.{Alike, This}
use Rattle.b3_meaning.specs.Opcodes.{Gives, difference, result, rotate_left}
use Rattle.b3_meaning.specs.Roles.{role_of}
use Rattle.b3_meaning.specs.Run as b3
use Rattle.b3_rules.specs.Rules.{types_of}
use Rattle.b3_sound.proofs.Results.{low_in}
use Rattle.air_ir.specs.Meaning.{meaning}
use Rattle.air_ir.specs.Operands.{Holds, read, targets, word_of, words}
use Rattle.air_ir.specs.Steps.{Goes, State, step, steps}
use Rattle.air_ir.specs.declared.op.AirOp.TheVariants as op
use Rattle.air_ir.specs.declared.operand.Arg.{Arg}
use Rattle.air_ir.specs.declared.operand.Arg.TheVariants.{At, Imm}
use Rattle.air_ir.specs.declared.operand.Home.{Home}
use Rattle.air_select.specs.Selected as code
use Rattle.air_select.specs.Selected.{arg_of, def_at, folds, negative_amount, rotate_by, turned, use_at, Tables}
use Rattle.air_select.specs.Temporaries.{first_extra, home}
use Rattle.air_fold.specs.Values.{child, known, place, width_at}
use Rattle.air_select.proofs.Children.{width_is}
use Rattle.air_select.proofs.Does.{Does, allows, are_words, gives_does, named, puts, result_small, words_here, Here}
use Rattle.air_select.proofs.Instructions.{at_home, of_immediate, one_word, reads_def, reads_use, steps_first, steps_last, with_home, writes_def, writes_use}
use Rattle.air_select.proofs.Plain.{computing}
use Rattle.air_select.proofs.Related.{Related, extra_related, holds_word, put_here}
use Rattle.air_select.proofs.Remainders.{child_in}
use Rattle.air_select.proofs.Shapes.{TwoHere, two_children, two_here}
use Rattle.b3_base.specs.Observed.{Start}
use Rattle.b3_ir.specs.Procedure.{Procedure}
use Rattle.b3_ir.specs.declared.value.Value.{Value}

-- ---- amounts

-- the amount that is rotated right by, modulo the width
turned_is : (width : Width) (k s : ℕ) → low W32 k ≡ s → turned width k % bits width ≡ (bits width - s % bits width) % bits width
turned_is W32 k s e = omega arith
turned_is W64 k s e = omega arith

turned_low : (width : Width) (k : ℕ) → low W32 (turned width k) ≡ turned width k
turned_low W32 k = omega arith
turned_low W64 k = omega arith

negative_is : (width : Width) (s : ℕ) → s < 2 ^ 32 → difference W32 0 s % bits width ≡ (bits width - s % bits width) % bits width
negative_is W32 s lt = omega arith
negative_is W64 s lt = omega arith

gives_is : (a b : ℕ) → Gives a ≡ Gives b → a ≡ b
gives_is a b e = cc

module _ (p : Procedure) (t : Tables) (start : Start) (v : Value) (h : Here p t start v) (junk : List ℕ) where
  pub reads_two : (s : State) (wa wb : Width) (a b : Arg) (x y : ℕ) (width : Width) (to : Home)
      → word_of s.homes wa a ≡ Some x → word_of s.homes wb b ≡ Some y
      → words s.homes (use_at wa a ∷ use_at wb b ∷ def_at width to ∷ []) ≡ Some ((wa, x) ∷ (wb, y) ∷ [])
  reads_two s wa wb a b x y width to ea eb =
      reads_use s.homes wa a (use_at wb b ∷ def_at width to ∷ []) x ((wb, y) ∷ []) ea
      (reads_use s.homes wb b (def_at width to ∷ []) y [] eb (reads_def s.homes width to))

  pub writes_two : (wa wb : Width) (a b : Arg) (width : Width) (to : Home)
      → targets (use_at wa a ∷ use_at wb b ∷ def_at width to ∷ []) ≡ record { home = to; width = width } ∷ []
  writes_two wa wb a b width to = writes_use wa a (use_at wb b ∷ def_at width to ∷ []) ∙ writes_use wb b (def_at width to ∷ []) ∙ writes_def width to

  module _ (eo : v.kind.opcode ≡ opcode.RotL) (alike : Ty) (own : v.ty ≡ alike)
      (two : TwoHere (type_of p) h.st.words alike Alike (This Int32) v.children (words_here p t start v h)) (w : ℕ)
      (is : rotate_right (width_of v.ty) two.wx (bits (width_of v.ty) - two.wy % bits (width_of v.ty)) ≡ w) where
    x_width : width_at t.index (child v.children 0) ≡ width_of v.ty
    x_width =
        width_is p h.valid t h.sound start h.passed h.block h.before (v ∷ h.rest) h.stands h.st h.reached h.s h.related (child v.children 0)
        ∙ ap width_of (two.x_taken ∙ sym own)

    y_width : width_at t.index (child v.children 1) ≡ W32
    y_width = width_is p h.valid t h.sound start h.passed h.block h.before (v ∷ h.rest) h.stands h.st h.reached h.s h.related (child v.children 1)
        ∙ ap width_of two.y_taken

    rotation_step : (s : State) → Related p t start h.st s → (amount : Arg) (n : ℕ) → word_of s.homes W32 amount ≡ Some n
        → n % bits (width_of v.ty) ≡ (bits (width_of v.ty) - two.wy % bits (width_of v.ty)) % bits (width_of v.ty)
        → step (meaning start) (rotate_by t v amount) s junk ≡ (Goes None (with_home s (home t.index v.id) (width_of v.ty) w), junk)
    rotation_step s r amount n e same =
        let x = child v.children 0 in
        one_word start (rotate_by t v amount) s junk ((width_at t.index x, two.wx) ∷ (W32, n) ∷ []) (home t.index v.id) (width_of v.ty) w
        (reads_two s (width_at t.index x) W32 (arg_of t x) amount two.wx n (width_of v.ty) (home t.index v.id)
        (child_in p t start v h junk s r opcode.RotL eo refl 0 x two.wx two.x_at two.x_in two.x_now) e)
        (computing p t start v h op.Ror v.id ((width_at t.index x, two.wx) ∷ (W32, n) ∷ []) s.world w refl
        (ap (λ (k : Width). Some (rotate_right k two.wx n)) x_width ∙ ap (λ (i : ℕ). Some (rotated_right (bits (width_of v.ty)) two.wx i)) same ∙ ap Some is))
        (writes_two (width_at t.index x) W32 (arg_of t x) amount (width_of v.ty) (home t.index v.id))

    -- a folded amount
    folded_rotation : folds t (child v.children 1) ≡ true → w < 2 ^ bits (width_of v.ty)
        → Does p t start v junk (b3.Next (b3.with_word h.st v.id w))
        (steps (meaning start) (rotate_by t v (Imm (turned (width_of v.ty) (known t.index (child v.children 1)).word)) ∷ []) h.s junk)
    folded_rotation f small =
        let k = (known t.index (child v.children 1)).word in
        let amount = Imm (turned (width_of v.ty) k) in
        let here_is : arg_of t (child v.children 1) ≡ Imm k = rw f refl in
        let word : low W32 k ≡ two.wy =
        same_Some (low W32 k) two.wy
        (ap (λ (i : Width). Some (low i k)) (sym y_width) ∙ sym (of_immediate h.s.homes (width_at t.index (child v.children 1)) k)
        ∙ ap (word_of h.s.homes (width_at t.index (child v.children 1))) (sym here_is)
        ∙ child_in p t start v h junk h.s h.related opcode.RotL eo refl 1 (child v.children 1) two.wy two.y_at two.y_in two.y_now) in
        puts p t start v h junk w h.s (steps (meaning start) (rotate_by t v amount ∷ []) h.s junk) small h.related
        (steps_last start (rotate_by t v amount) h.s junk (Goes None (with_home h.s (home t.index v.id) (width_of v.ty) w), junk)
        (rotation_step h.s h.related amount (turned (width_of v.ty) k)
        (of_immediate h.s.homes W32 (turned (width_of v.ty) k) ∙ ap Some (turned_low (width_of v.ty) k))
        (turned_is (width_of v.ty) k two.wy word)))

    -- an amount in a home
    plain_rotation : w < 2 ^ bits (width_of v.ty)
        → Does p t start v junk (b3.Next (b3.with_word h.st v.id w))
        (steps (meaning start) (negative_amount t v ∷ rotate_by t v (At (first_extra t.index v.id)) ∷ []) h.s junk)
    plain_rotation small =
        let y = child v.children 1 in
        let n = difference W32 0 two.wy in
        let extra = first_extra t.index v.id in
        let after = with_home h.s extra W32 n in
        let y_lt : two.wy < 2 ^ 32 = subst (λ (k : Ty). two.wy < 2 ^ bits (width_of k)) two.y_taken (h.reached.ranged.words y two.wy two.y_now) in
        let negative : step (meaning start) (negative_amount t v) h.s junk ≡ (Goes None after, junk) =
        one_word start (negative_amount t v) h.s junk ((width_at t.index y, two.wy) ∷ []) extra W32 n
        (reads_use h.s.homes (width_at t.index y) (arg_of t y) (def_at W32 extra ∷ []) two.wy []
        (child_in p t start v h junk h.s h.related opcode.RotL eo refl 1 y two.wy two.y_at two.y_in two.y_now) (reads_def h.s.homes W32 extra))
        (computing p t start v h op.Neg v.id ((width_at t.index y, two.wy) ∷ []) h.s.world n refl (ap (λ (k : Width). Some (difference k 0 two.wy)) y_width))
        (writes_use (width_at t.index y) (arg_of t y) (def_at W32 extra ∷ []) ∙ writes_def W32 extra) in
        let r1 : Related p t start h.st after =
        extra_related p t h.sound start h.st h.s h.related v.id v (named p t start v h) 1 (Holds W32 n) (omega arith) (omega arith)
        (λ e. let bad : opcode.RotL ≡ opcode.Phi = sym eo ∙ e in cc) in
        let reads : word_of after.homes W32 (At extra) ≡ Some n =
        at_home after.homes W32 extra n (ap (read W32) (put_here h.s.homes (3 * place t.index v.id + 1) (Holds W32 n))
        ∙ holds_word W32 n (low_in W32 (0 + (2 ^ 32 - two.wy)))) in
        puts p t start v h junk w after (steps (meaning start) (negative_amount t v ∷ rotate_by t v (At extra) ∷ []) h.s junk) small r1
        (steps_first start (negative_amount t v) (rotate_by t v (At extra) ∷ []) h.s after junk negative
        ∙ steps_last start (rotate_by t v (At extra)) after junk (Goes None (with_home after (home t.index v.id) (width_of v.ty) w), junk)
        (rotation_step after r1 (At extra) n reads (negative_is (width_of v.ty) two.wy y_lt)))

    either_rotation : w < 2 ^ bits (width_of v.ty)
        → Does p t start v junk (b3.Next (b3.with_word h.st v.id w)) (steps (meaning start) (code.rotate_left t v) h.s junk)
    either_rotation small = go (folds t (child v.children 1)) refl
      where
        go : (f : Bool) → folds t (child v.children 1) ≡ f
            → Does p t start v junk (b3.Next (b3.with_word h.st v.id w)) (steps (meaning start)
            (if f then rotate_by t v (Imm (turned (width_of v.ty) (known t.index (child v.children 1)).word)) ∷ [] else negative_amount t v ∷ rotate_by t v
            (At (first_extra t.index v.id)) ∷ []) h.s junk)
        go true e = folded_rotation e small
        go false e = plain_rotation small

  pub rotate_does : v.kind.opcode ≡ opcode.RotL
      → Does p t start v junk (b3.gives h.st v.id (result v.kind.opcode v.kind.chill v.ty (words_here p t start v h) (types_of p v)))
      (steps (meaning start) (code.rotate_left t v) h.s junk)
  rotate_does eo =
      let ws = words_here p t start v h in
      gives_does p t start v h junk (result v.kind.opcode v.kind.chill v.ty ws (types_of p v)) (steps (meaning start) (code.rotate_left t v) h.s junk)
      (λ w g.
      let allowed = subst (λ (q : Opcode). AllowsTypes q v.ty (types_of p v)) eo (allows p t start v h) in
      let two = two_here (type_of p) h.st.words allowed.alike Alike (This Int32) v.children ws
      (two_children (type_of p) h.st.words allowed.alike Alike (This Int32) v.children ws allowed.children (are_words p t start v h)) in
      let is : rotate_left (width_of v.ty) two.wx two.wy ≡ w =
      gives_is (rotate_left (width_of v.ty) two.wx two.wy) w
      (ap (λ (l : List ℕ). result opcode.RotL v.kind.chill v.ty l (types_of p v)) (sym two.words)
      ∙ ap (λ (q : Opcode). result q v.kind.chill v.ty ws (types_of p v)) (sym eo) ∙ g) in
      either_rotation eo allowed.alike allowed.gives two w is (result_small p t start v h w (ap role_of eo) g))
