-- Mod and UMod: a division, a multiplication, and a test of the divisor where it may be 0.
use Rattle.std.proofs.Common.{◌≡◌, ℕ, ◌+◌, ◌-◌, ◌*◌, ◌%◌, ◌^◌, ◌<◌, Bool, true, false, List, [], ◌∷◌, Some, None, nat_eq, refl, sym, ap, ◌∙◌, subst, arith}
use Rattle.std.specs.Prelude.{Contains, if◌then◌else◌, not, slice_get}
use Rattle.b3_base.specs.Observed.{Start}
use Rattle.b3_base.specs.Word.{bits}
use Rattle.b3_base.specs.declared.word.Width.{Width}
use Rattle.b3_ir.specs.Naming.{type_of}
use Rattle.b3_ir.specs.Procedure.{Procedure}
use Rattle.b3_ir.specs.Types.{AllowsTypes, width_of}
use Rattle.b3_ir.specs.declared.opcode.Opcode.{Opcode}
use Rattle.b3_ir.specs.declared.opcode.Opcode.TheVariants as opcode
use Rattle.b3_ir.specs.declared.opcode.Ty.{Ty}
use Rattle.b3_ir.specs.declared.table.Takes.TheVariants.{Alike}
use Rattle.b3_ir.specs.declared.value.Value.{Value}
use Rattle.b3_meaning.specs.Opcodes.{DivisionByZero, Gives, LeastByMinusOne, Undefines, chilled, difference, is_least_by_minus_one, left_over, product, remainder as left, result, unless_zero}
use Rattle.b3_meaning.specs.Roles.{role_of}
use Rattle.b3_meaning.specs.Run as b3
use Rattle.b3_rules.specs.Rules.{types_of}
use Rattle.b3_sound.proofs.Results.{low_in}
use Rattle.a64_inst.specs.StepData.{quotient}
use Rattle.air_ir.specs.Kinds.{Computes, kind_of}
use Rattle.air_ir.specs.Meaning.{meaning}
use Rattle.air_ir.specs.Operands.{Holds, read, targets, word_of, words}
use Rattle.air_ir.specs.Steps.{Goes, State, step, steps}
use Rattle.air_ir.specs.Words.{computed}
use Rattle.air_ir.specs.declared.op.AirOp.{AirOp}
use Rattle.air_ir.specs.declared.op.AirOp.TheVariants as op
use Rattle.air_ir.specs.declared.op.Test.TheVariants.{NonZero}
use Rattle.air_ir.specs.declared.operand.Arg.{Arg}
use Rattle.air_ir.specs.declared.operand.Arg.TheVariants.{At}
use Rattle.air_ir.specs.declared.operand.Home.{Home}
use Rattle.air_fold.specs.Foldable.{pointers, value_fits}
use Rattle.air_select.specs.Selected.{Tables, arg_of, chosen_rest, def_at, quotient_of, remainder, rest_into, use_at, use_of}
use Rattle.air_select.specs.Temporaries.{first_extra, home, second_extra}
use Rattle.air_fold.specs.Values.{child, place, width_at}
use Rattle.air_select.proofs.Children.{child_word, readable, width_is}
use Rattle.air_select.proofs.Does.{Does, Here, allows, are_words, at, gives_does, here, named, puts, result_small, words_here}
use Rattle.air_select.proofs.Facts.{child_ran}
use Rattle.air_select.proofs.Instructions.{at_home, one_word, reads_def, reads_use, steps_first, steps_last, with_home, writes_def, writes_use}
use Rattle.air_select.proofs.Plain.{computing, takes_values, no_value}
use Rattle.air_select.proofs.Related.{Related, extra_related, holds_word, put_here, put_there}
use Rattle.air_select.proofs.Rests.{IsRest, rest_is, unsigned_rest_is}
use Rattle.air_select.proofs.Shapes.{TwoHere, two_children, two_here}

module _ (p : Procedure) (t : Tables) (start : Start) (v : Value) (h : Here p t start v) (junk : List ℕ) where
  -- a child read in another state
  pub child_in : (s : State) → Related p t start h.st s → (o : Opcode) → v.kind.opcode ≡ o → takes_values o ≡ false → (i c w : ℕ)
      → slice_get v.children i ≡ Some c → Contains v.children c
      → h.st.words c ≡ Some w → word_of s.homes (width_at t.index c) (arg_of t c) ≡ Some w
  child_in s r o eo none i c w there has now =
      child_word p h.valid t h.sound start h.passed h.block h.before (v ∷ h.rest) h.stands h.st h.reached s r c w
      (child_ran p h.valid h.passed h.block h.before h.st h.reached v (at p t start v h) c has)
      (readable p h.valid t h.sound start h.block v (here p t start v h) i c there
      (λ k. ap (λ (q : Opcode). value_fits t.index (pointers p) q i v.id k) eo ∙ no_value t.index (pointers p) o i v.id k none)) now

  -- three operands that are read, and one that is written
  pub reads_three : (s : State) (wa wb wc : Width) (a b c : Arg) (x y z : ℕ) (width : Width) (to : Home)
      → word_of s.homes wa a ≡ Some x → word_of s.homes wb b ≡ Some y → word_of s.homes wc c ≡ Some z
      → words s.homes (use_at wa a ∷ use_at wb b ∷ use_at wc c ∷ def_at width to ∷ []) ≡ Some ((wa, x) ∷ (wb, y) ∷ (wc, z) ∷ [])
  reads_three s wa wb wc a b c x y z width to ea eb ec =
      reads_use s.homes wa a (use_at wb b ∷ use_at wc c ∷ def_at width to ∷ []) x ((wb, y) ∷ (wc, z) ∷ []) ea
      (reads_use s.homes wb b (use_at wc c ∷ def_at width to ∷ []) y ((wc, z) ∷ []) eb
      (reads_use s.homes wc c (def_at width to ∷ []) z [] ec (reads_def s.homes width to)))

  pub writes_three : (wa wb wc : Width) (a b c : Arg) (width : Width) (to : Home)
      → targets (use_at wa a ∷ use_at wb b ∷ use_at wc c ∷ def_at width to ∷ []) ≡ record { home = to; width = width } ∷ []
  writes_three wa wb wc a b c width to =
      writes_use wa a (use_at wb b ∷ use_at wc c ∷ def_at width to ∷ []) ∙ writes_use wb b (use_at wc c ∷ def_at width to ∷ [])
      ∙ writes_use wc c (def_at width to ∷ []) ∙ writes_def width to

  not_phi : (o : Opcode) → v.kind.opcode ≡ o → (o ≡ opcode.Phi → ⊥) → v.kind.opcode ≡ opcode.Phi → ⊥
  not_phi o eo differs e = differs (sym eo ∙ e)

  module _ (o : Opcode) (eo : v.kind.opcode ≡ o) (none : takes_values o ≡ false) (no_phi : o ≡ opcode.Phi → ⊥) (alike : Ty) (own : v.ty ≡ alike)
      (two : TwoHere (type_of p) h.st.words alike Alike Alike v.children (words_here p t start v h)) (divide : AirOp) (kind : kind_of divide ≡ Computes)
      (q w : ℕ)
      (divides : computed divide (width_of v.ty) (two.wx ∷ two.wy ∷ []) ≡ Some q) (rest : IsRest (width_of v.ty) q two.wx two.wy w) where
    x : ℕ
    x = child v.children 0

    y : ℕ
    y = child v.children 1

    width : Width
    width = width_of v.ty

    s1 : State
    s1 = with_home h.s (first_extra t.index v.id) (width_of v.ty) q

    x_width : width_at t.index (child v.children 0) ≡ width_of v.ty
    x_width =
        width_is p h.valid t h.sound start h.passed h.block h.before (v ∷ h.rest) h.stands h.st h.reached h.s h.related (child v.children 0)
        ∙ ap width_of (two.x_taken ∙ sym own)

    quotient_step : step (meaning start) (quotient_of t v divide) h.s junk ≡ (Goes None (with_home h.s (first_extra t.index v.id) (width_of v.ty) q), junk)
    quotient_step =
        one_word start (quotient_of t v divide) h.s junk
        ((width_at t.index (child v.children 0), two.wx) ∷ (width_at t.index (child v.children 1), two.wy) ∷ []) (first_extra t.index v.id) (width_of v.ty) q
        (reads_use h.s.homes (width_at t.index (child v.children 0)) (arg_of t (child v.children 0))
        (use_of t (child v.children 1) ∷ def_at (width_of v.ty) (first_extra t.index v.id) ∷ []) two.wx
        ((width_at t.index (child v.children 1), two.wy) ∷ []) (child_in h.s h.related o eo none 0 (child v.children 0) two.wx two.x_at two.x_in two.x_now)
        (reads_use h.s.homes (width_at t.index (child v.children 1)) (arg_of t (child v.children 1)) (def_at (width_of v.ty) (first_extra t.index v.id) ∷ [])
        two.wy []
        (child_in h.s h.related o eo none 1 (child v.children 1) two.wy two.y_at two.y_in two.y_now)
        (reads_def h.s.homes (width_of v.ty) (first_extra t.index v.id))))
        (computing p t start v h divide v.id ((width_at t.index (child v.children 0), two.wx) ∷ (width_at t.index (child v.children 1), two.wy) ∷ [])
        h.s.world q kind
        (ap (λ (k : Width). computed divide k (two.wx ∷ two.wy ∷ [])) x_width ∙ divides))
        (writes_use (width_at t.index (child v.children 0)) (arg_of t (child v.children 0))
        (use_of t (child v.children 1) ∷ def_at (width_of v.ty) (first_extra t.index v.id) ∷ [])
        ∙ writes_use (width_at t.index (child v.children 1)) (arg_of t (child v.children 1)) (def_at (width_of v.ty) (first_extra t.index v.id) ∷ [])
        ∙ writes_def (width_of v.ty) (first_extra t.index v.id))

    r1 : Related p t start h.st (with_home h.s (first_extra t.index v.id) (width_of v.ty) q)
    r1 = extra_related p t h.sound start h.st h.s h.related v.id v (named p t start v h) 1 (Holds (width_of v.ty) q) (omega arith) (omega arith)
        (not_phi o eo no_phi)

    -- the quotient in a state
    q_read : word_of (with_home h.s (first_extra t.index v.id) (width_of v.ty) q).homes (width_of v.ty) (At (first_extra t.index v.id)) ≡ Some q
    q_read =
        at_home (with_home h.s (first_extra t.index v.id) (width_of v.ty) q).homes (width_of v.ty) (first_extra t.index v.id) q
        (ap (read (width_of v.ty)) (put_here h.s.homes (3 * place t.index v.id + 1) (Holds (width_of v.ty) q)) ∙ holds_word (width_of v.ty) q rest.small)

    r : ℕ
    r = difference (width_of v.ty) two.wx (product (width_of v.ty) q two.wy)

    rest_step : (to : Home) → step (meaning start) (rest_into t v to) (with_home h.s (first_extra t.index v.id) (width_of v.ty) q) junk
        ≡ (
          Goes None (with_home (with_home h.s (first_extra t.index v.id) (width_of v.ty) q) to (width_of v.ty)
              (difference (width_of v.ty) two.wx (product (width_of v.ty) q two.wy))),
          junk,
        )
    rest_step to =
        let after = with_home h.s (first_extra t.index v.id) (width_of v.ty) q in
        let x = child v.children 0 in
        let y = child v.children 1 in
        one_word start (rest_into t v to) after junk ((width_of v.ty, q) ∷ (width_at t.index y, two.wy) ∷ (width_at t.index x, two.wx) ∷ []) to (width_of v.ty)
        (difference (width_of v.ty) two.wx (product (width_of v.ty) q two.wy))
        (reads_three after (width_of v.ty) (width_at t.index y) (width_at t.index x) (At (first_extra t.index v.id)) (arg_of t y) (arg_of t x) q two.wy two.wx
        (width_of v.ty) to q_read
        (child_in after r1 o eo none 1 y two.wy two.y_at two.y_in two.y_now) (child_in after r1 o eo none 0 x two.wx two.x_at two.x_in two.x_now))
        (computing p t start v h op.MulSub v.id ((width_of v.ty, q) ∷ (width_at t.index y, two.wy) ∷ (width_at t.index x, two.wx) ∷ []) h.s.world
        (difference (width_of v.ty) two.wx (product (width_of v.ty) q two.wy)) refl refl)
        (writes_three (width_of v.ty) (width_at t.index y) (width_at t.index x) (At (first_extra t.index v.id)) (arg_of t y) (arg_of t x) (width_of v.ty) to)

    -- without a test
    pub plain_rest : w < 2 ^ bits (width_of v.ty) → nat_eq two.wy 0 ≡ false
        → Does p t start v junk (b3.Next (b3.with_word h.st v.id w))
        (steps (meaning start) (quotient_of t v divide ∷ rest_into t v (home t.index v.id) ∷ []) h.s junk)
    plain_rest small some =
        let after = with_home h.s (first_extra t.index v.id) (width_of v.ty) q in
        puts p t start v h junk w after (steps (meaning start) (quotient_of t v divide ∷ rest_into t v (home t.index v.id) ∷ []) h.s junk) small r1
        (steps_first start (quotient_of t v divide) (rest_into t v (home t.index v.id) ∷ []) h.s after junk quotient_step
        ∙ steps_last start (rest_into t v (home t.index v.id)) after junk (Goes None (with_home after (home t.index v.id) (width_of v.ty) w), junk)
        (rest_step (home t.index v.id) ∙ ap (λ (n : ℕ). (Goes None (with_home after (home t.index v.id) (width_of v.ty) n), junk)) (rest.rest some)))

    r_small : difference (width_of v.ty) two.wx (product (width_of v.ty) q two.wy) < 2 ^ bits (width_of v.ty)
    r_small = low_in (width_of v.ty) (two.wx + (2 ^ bits (width_of v.ty) - product (width_of v.ty) q two.wy))

    chosen : (zero : Bool) → nat_eq two.wy 0 ≡ zero → (if not zero then difference (width_of v.ty) two.wx (product (width_of v.ty) q two.wy) else q) ≡ w
    chosen true ez = rest.zero_quotient ez ∙ sym (rest.zero_rest ez)
    chosen false ez = rest.rest ez

    -- with a test of the divisor
    pub tested_rest : w < 2 ^ bits (width_of v.ty)
        → Does p t start v junk (b3.Next (b3.with_word h.st v.id w))
        (steps (meaning start) (quotient_of t v divide ∷ rest_into t v (second_extra t.index v.id) ∷ chosen_rest t v ∷ []) h.s junk)
    tested_rest small =
        let after = with_home h.s (first_extra t.index v.id) (width_of v.ty) q in
        let n = difference (width_of v.ty) two.wx (product (width_of v.ty) q two.wy) in
        let last = with_home after (second_extra t.index v.id) (width_of v.ty) n in
        let y = child v.children 1 in
        let r2 : Related p t start h.st last =
        extra_related p t h.sound start h.st after r1 v.id v (named p t start v h) 2 (Holds (width_of v.ty) n) (omega arith) (omega arith)
        (not_phi o eo no_phi) in
        let q_last : word_of last.homes (width_of v.ty) (At (first_extra t.index v.id)) ≡ Some q =
        at_home last.homes (width_of v.ty) (first_extra t.index v.id) q
        (ap (read (width_of v.ty)) (put_there after.homes (3 * place t.index v.id + 2) (3 * place t.index v.id + 1) (Holds (width_of v.ty) n) (omega arith)
        ∙ put_here h.s.homes (3 * place t.index v.id + 1) (Holds (width_of v.ty) q))
        ∙ holds_word (width_of v.ty) q rest.small) in
        let n_last : word_of last.homes (width_of v.ty) (At (second_extra t.index v.id)) ≡ Some n =
        at_home last.homes (width_of v.ty) (second_extra t.index v.id) n
        (ap (read (width_of v.ty)) (put_here after.homes (3 * place t.index v.id + 2) (Holds (width_of v.ty) n)) ∙ holds_word (width_of v.ty) n r_small) in
        let choice : step (meaning start) (chosen_rest t v) last junk ≡ (Goes None (with_home last (home t.index v.id) (width_of v.ty) w), junk) =
        one_word start (chosen_rest t v) last junk ((width_at t.index y, two.wy) ∷ (width_of v.ty, n) ∷ (width_of v.ty, q) ∷ []) (home t.index v.id)
        (width_of v.ty) w
        (reads_three last (width_at t.index y) (width_of v.ty) (width_of v.ty) (arg_of t y) (At (second_extra t.index v.id)) (At (first_extra t.index v.id))
        two.wy n q (width_of v.ty) (home t.index v.id)
        (child_in last r2 o eo none 1 y two.wy two.y_at two.y_in two.y_now) n_last q_last)
        (computing p t start v h (op.SelectIf NonZero) v.id ((width_at t.index y, two.wy) ∷ (width_of v.ty, n) ∷ (width_of v.ty, q) ∷ []) h.s.world w refl
        (ap Some (chosen (nat_eq two.wy 0) refl)))
        (writes_three (width_at t.index y) (width_of v.ty) (width_of v.ty) (arg_of t y) (At (second_extra t.index v.id)) (At (first_extra t.index v.id))
        (width_of v.ty) (home t.index v.id)) in
        puts p t start v h junk w last (steps (meaning start) (quotient_of t v divide ∷ rest_into t v (second_extra t.index v.id) ∷ chosen_rest t v ∷ [])
        h.s junk) small r2
        (steps_first start (quotient_of t v divide) (rest_into t v (second_extra t.index v.id) ∷ chosen_rest t v ∷ []) h.s after junk quotient_step
        ∙ steps_first start (rest_into t v (second_extra t.index v.id)) (chosen_rest t v ∷ []) after last junk (rest_step (second_extra t.index v.id))
        ∙ steps_last start (chosen_rest t v) last junk (Goes None (with_home last (home t.index v.id) (width_of v.ty) w), junk) choice)

    pub either_rest : w < 2 ^ bits (width_of v.ty) → (v.kind.chill ≡ false → nat_eq two.wy 0 ≡ false)
        → Does p t start v junk (b3.Next (b3.with_word h.st v.id w)) (steps (meaning start) (remainder t v divide) h.s junk)
    either_rest small some = go v.kind.chill refl
      where
        go : (chill : Bool) → v.kind.chill ≡ chill
            → Does p t start v junk (b3.Next (b3.with_word h.st v.id w)) (steps (meaning start)
            (if chill then quotient_of t v divide ∷ rest_into t v (second_extra t.index v.id)
            ∷ chosen_rest t v ∷ [] else quotient_of t v divide ∷ rest_into t v (home t.index v.id) ∷ []) h.s junk)
        go true e = tested_rest small
        go false e = plain_rest small (some e)

  -- where it gives a word without Chill, the divisor isn't 0
  some_divisor : (width : Width) (chill : Bool) (x y w : ℕ) → left_over width chill x y ≡ Gives w → chill ≡ false → nat_eq y 0 ≡ false
  some_divisor width chill x y w e plain = go (nat_eq y 0) refl chill plain (is_least_by_minus_one width x y) e
    where
      go : (zero : Bool) → nat_eq y 0 ≡ zero → (c : Bool) → c ≡ false → (extreme : Bool)
          → (if zero then chilled c 0 DivisionByZero else if extreme then chilled c 0 LeastByMinusOne else Gives (left width x y)) ≡ Gives w
          → nat_eq y 0 ≡ false
      go false ez c ec extreme e = ez
      go true ez true ec extreme e = absurd (let bad : true ≡ false = ec in cc)
      go true ez false ec extreme e = absurd (let bad : Undefines DivisionByZero ≡ Gives w = e in cc)

  some_unsigned : (y word w : ℕ) → unless_zero y word ≡ Gives w → nat_eq y 0 ≡ false
  some_unsigned y word w e = go (nat_eq y 0) refl e
    where
      go : (zero : Bool) → nat_eq y 0 ≡ zero → (if zero then Undefines DivisionByZero else Gives word) ≡ Gives w → nat_eq y 0 ≡ false
      go false ez e = ez
      go true ez e = absurd (let bad : Undefines DivisionByZero ≡ Gives w = e in cc)

  small_child : (alike : Ty) (c w : ℕ) → v.ty ≡ alike → type_of p c ≡ alike → h.st.words c ≡ Some w → w < 2 ^ bits (width_of v.ty)
  small_child alike c w own taken now =
      subst (λ (k : Width). w < 2 ^ bits k) (ap width_of (taken ∙ sym own)) (h.reached.ranged.words c w now)

  pub mod_does : v.kind.opcode ≡ opcode.Mod
      → Does p t start v junk (b3.gives h.st v.id (result v.kind.opcode v.kind.chill v.ty (words_here p t start v h) (types_of p v)))
      (steps (meaning start) (remainder t v op.Div) h.s junk)
  mod_does eo =
      let ws = words_here p t start v h in
      gives_does p t start v h junk (result v.kind.opcode v.kind.chill v.ty ws (types_of p v)) (steps (meaning start) (remainder t v op.Div) h.s junk)
      (λ w g.
      let allowed = subst (λ (q : Opcode). AllowsTypes q v.ty (types_of p v)) eo (allows p t start v h) in
      let two = two_here (type_of p) h.st.words allowed.alike Alike Alike v.children ws
      (two_children (type_of p) h.st.words allowed.alike Alike Alike v.children ws allowed.children (are_words p t start v h)) in
      let left_is : left_over (width_of v.ty) v.kind.chill two.wx two.wy ≡ Gives w =
      ap (λ (l : List ℕ). result opcode.Mod v.kind.chill v.ty l (types_of p v)) (sym two.words)
      ∙ ap (λ (q : Opcode). result q v.kind.chill v.ty ws (types_of p v)) (sym eo) ∙ g in
      either_rest opcode.Mod eo refl (λ e. cc) allowed.alike allowed.gives two op.Div refl (quotient (width_of v.ty) true two.wx two.wy) w refl
      (rest_is (width_of v.ty) v.kind.chill two.wx two.wy w (small_child allowed.alike (child v.children 0) two.wx allowed.gives two.x_taken two.x_now)
      (small_child allowed.alike (child v.children 1) two.wy allowed.gives two.y_taken two.y_now) left_is)
      (result_small p t start v h w (ap role_of eo) g) (some_divisor (width_of v.ty) v.kind.chill two.wx two.wy w left_is))

  pub umod_does : v.kind.opcode ≡ opcode.UMod
      → Does p t start v junk (b3.gives h.st v.id (result v.kind.opcode v.kind.chill v.ty (words_here p t start v h) (types_of p v)))
      (steps (meaning start) (remainder t v op.UDiv) h.s junk)
  umod_does eo =
      let ws = words_here p t start v h in
      gives_does p t start v h junk (result v.kind.opcode v.kind.chill v.ty ws (types_of p v)) (steps (meaning start) (remainder t v op.UDiv) h.s junk)
      (λ w g.
      let allowed = subst (λ (q : Opcode). AllowsTypes q v.ty (types_of p v)) eo (allows p t start v h) in
      let two = two_here (type_of p) h.st.words allowed.alike Alike Alike v.children ws
      (two_children (type_of p) h.st.words allowed.alike Alike Alike v.children ws allowed.children (are_words p t start v h)) in
      let left_is : unless_zero two.wy (two.wx % two.wy) ≡ Gives w =
      ap (λ (l : List ℕ). result opcode.UMod v.kind.chill v.ty l (types_of p v)) (sym two.words)
      ∙ ap (λ (q : Opcode). result q v.kind.chill v.ty ws (types_of p v)) (sym eo) ∙ g in
      either_rest opcode.UMod eo refl (λ e. cc) allowed.alike allowed.gives two op.UDiv refl (quotient (width_of v.ty) false two.wx two.wy) w refl
      (unsigned_rest_is (width_of v.ty) two.wx two.wy w (small_child allowed.alike (child v.children 0) two.wx allowed.gives two.x_taken two.x_now) left_is)
      (result_small p t start v h w (ap role_of eo) g) (λ plain. some_unsigned two.wy (two.wx % two.wy) w left_is))
