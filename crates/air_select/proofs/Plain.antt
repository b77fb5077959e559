-- The values that are one instruction over their children, or one copy.
use Rattle.std.proofs.Common.{◌≡◌, ℕ, zero, suc, ◌^◌, ◌<◌, ◌⊎◌, inl, inr, Bool, true, false, ◌&&◌, List, [], ◌∷◌, ◌++◌, map, Some, None, refl, sym, ap, ◌∙◌, subst, append-nil}
use Rattle.std.specs.Prelude.{Contains, slice_get}
use Rattle.std.proofs.lemmas.Option.{slice_get-get_or}
use Rattle.b3_base.specs.Observed.{Start}
use Rattle.b3_base.specs.Word.{bits}
use Rattle.b3_base.specs.declared.word.Width.{Width}
use Rattle.b3_ir.specs.Naming.{type_of}
use Rattle.b3_ir.specs.Procedure.{Procedure}
use Rattle.b3_ir.specs.Types.{AllowsTypes, width_of}
use Rattle.b3_ir.specs.declared.opcode.Opcode.{Opcode}
use Rattle.b3_ir.specs.declared.opcode.Opcode.TheVariants as opcode
use Rattle.b3_ir.specs.declared.value.Value.{Value}
use Rattle.b3_meaning.specs.Opcodes.{result}
use Rattle.b3_meaning.specs.Roles.{role_of}
use Rattle.b3_meaning.specs.Run as b3
use Rattle.b3_meaning.specs.declared.role.Role.TheVariants as role
use Rattle.b3_rules.specs.Rules.{types_of}
use Rattle.air_ir.specs.Kinds.{Computes, Copies, Kind, kind_of}
use Rattle.air_ir.specs.Meaning as air
use Rattle.air_ir.specs.Meaning.{World, effect_of, gives, gives_word, meaning, operation}
use Rattle.air_ir.specs.Operands.{Read, targets, words}
use Rattle.air_ir.specs.Steps.{Goes, steps}
use Rattle.air_ir.specs.Words.{computed}
use Rattle.air_ir.specs.declared.op.AirOp.{AirOp}
use Rattle.air_ir.specs.declared.operand.Operand.{Operand}
use Rattle.air_ir.specs.declared.procedure.AirInst.{AirInst}
use Rattle.air_fold.specs.Foldable.{first_fits, is_add, is_index, is_pointer, pointers, second_fits, value_fits}
use Rattle.air_select.specs.Selected.{Tables, arg_of, computes, inst, op_of, result_of, use_of}
use Rattle.air_select.specs.Temporaries.{home}
use Rattle.air_fold.specs.Values.{Index, width_at}
use Rattle.air_fold.specs.declared.known.Known.{Known}
use Rattle.air_select.proofs.Children.{children_words, readable, typed, width_is, words_cons, words_nil}
use Rattle.air_select.proofs.Does.{Does, Here, allows, are_typed, are_words, at, gives_does, here, puts, result_small, words_here}
use Rattle.air_select.specs.Sited.{is_site}
use Rattle.air_select.proofs.Facts.{child_ran}
use Rattle.air_select.proofs.Instructions.{one_word, reads_def, steps_last, with_home, writes_def, writes_use}
use Rattle.air_select.proofs.OneOp.{first_width, is_one_op, one_op_right}

-- ---- rows

pub one_op_kind : (o : Opcode) → is_one_op o ≡ true → kind_of (op_of o) ≡ Computes
one_op_kind opcode.Add e = refl
one_op_kind opcode.Sub e = refl
one_op_kind opcode.Mul e = refl
one_op_kind opcode.BitAnd e = refl
one_op_kind opcode.BitOr e = refl
one_op_kind opcode.BitXor e = refl
one_op_kind opcode.Neg e = refl
one_op_kind opcode.Div e = refl
one_op_kind opcode.UDiv e = refl
one_op_kind opcode.Shl e = refl
one_op_kind opcode.SShr e = refl
one_op_kind opcode.ZShr e = refl
one_op_kind opcode.RotR e = refl
one_op_kind opcode.Clz e = refl
one_op_kind opcode.SExt8 e = refl
one_op_kind opcode.SExt16 e = refl
one_op_kind opcode.SExt32 e = refl
one_op_kind opcode.ZExt32 e = refl
one_op_kind opcode.Identity e = absurd (cc)
one_op_kind _ e = refl

pub one_op_pure : (o : Opcode) → is_one_op o ≡ true → role_of o ≡ role.Pure
one_op_pure opcode.Nop e = absurd (cc)
one_op_pure opcode.Const32 e = absurd (cc)
one_op_pure opcode.Const64 e = absurd (cc)
one_op_pure opcode.ArgumentReg e = absurd (cc)
one_op_pure opcode.FramePointer e = absurd (cc)
one_op_pure opcode.SlotBase e = absurd (cc)
one_op_pure opcode.Load8Z e = absurd (cc)
one_op_pure opcode.Load8S e = absurd (cc)
one_op_pure opcode.Load16Z e = absurd (cc)
one_op_pure opcode.Load16S e = absurd (cc)
one_op_pure opcode.Load e = absurd (cc)
one_op_pure opcode.Store8 e = absurd (cc)
one_op_pure opcode.Store16 e = absurd (cc)
one_op_pure opcode.Store e = absurd (cc)
one_op_pure opcode.CCall e = absurd (cc)
one_op_pure opcode.Patchpoint e = absurd (cc)
one_op_pure opcode.Check e = absurd (cc)
one_op_pure opcode.CheckAdd e = absurd (cc)
one_op_pure opcode.CheckSub e = absurd (cc)
one_op_pure opcode.CheckMul e = absurd (cc)
one_op_pure opcode.Upsilon e = absurd (cc)
one_op_pure opcode.Phi e = absurd (cc)
one_op_pure opcode.Jump e = absurd (cc)
one_op_pure opcode.Oops e = absurd (cc)
one_op_pure opcode.Branch e = absurd (cc)
one_op_pure opcode.Switch e = absurd (cc)
one_op_pure opcode.Return e = absurd (cc)
one_op_pure _ e = refl

-- which opcodes have a child at which a value fits that is no constant
abbrev pub takes_values : Opcode → Bool
takes_values opcode.Branch = true
takes_values opcode.Check = true
takes_values opcode.Select = true
takes_values opcode.Add = true
takes_values opcode.Load8Z = true
takes_values opcode.Load8S = true
takes_values opcode.Load16Z = true
takes_values opcode.Load16S = true
takes_values opcode.Load = true
takes_values opcode.Store8 = true
takes_values opcode.Store16 = true
takes_values opcode.Store = true
takes_values _ = false

no_first : (x : Index) (o : Opcode) (user : ℕ) (k : Known) → takes_values o ≡ false → first_fits x o user k ≡ false
no_first x opcode.Branch user k e = absurd cc
no_first x opcode.Check user k e = absurd cc
no_first x opcode.Select user k e = absurd cc
no_first x opcode.Load8Z user k e = absurd cc
no_first x opcode.Load8S user k e = absurd cc
no_first x opcode.Load16Z user k e = absurd cc
no_first x opcode.Load16S user k e = absurd cc
no_first x opcode.Load user k e = absurd cc
no_first x _ user k e = refl

no_second : (x : Index) (f : List Bool) (o : Opcode) (user : ℕ) (k : Known) → takes_values o ≡ false → second_fits x f o user k ≡ false
no_second x f opcode.Store8 user k e = absurd cc
no_second x f opcode.Store16 user k e = absurd cc
no_second x f opcode.Store user k e = absurd cc
no_second x f opcode.Add user k e = absurd cc
no_second x f _ user k e = refl

pub no_value : (x : Index) (f : List Bool) (o : Opcode) (i user : ℕ) (k : Known) → takes_values o ≡ false → value_fits x f o i user k ≡ false
no_value x f o zero user k e = no_first x o user k e
no_value x f o (suc zero) user k e = no_second x f o user k e
no_value x f o (suc (suc i)) user k e = refl

-- the child that is the condition of a Check
abbrev pub is_condition : Opcode → ℕ → Bool
is_condition opcode.Check zero = true
is_condition _ i = false

-- a call, a patchpoint and a check have no other child at which one fits
pub site_values : (x : Index) (f : List Bool) (o : Opcode) (i user : ℕ) (k : Known) → is_site o ≡ true → is_condition o i ≡ false
    → value_fits x f o i user k ≡ false
site_values x f opcode.Check zero user k e other = absurd cc
site_values x f opcode.Check (suc zero) user k e other = refl
site_values x f opcode.Check (suc (suc i)) user k e other = refl
site_values x f opcode.CCall i user k e other = no_value x f opcode.CCall i user k refl
site_values x f opcode.Patchpoint i user k e other = no_value x f opcode.Patchpoint i user k refl
site_values x f opcode.CheckAdd i user k e other = no_value x f opcode.CheckAdd i user k refl
site_values x f opcode.CheckSub i user k e other = no_value x f opcode.CheckSub i user k refl
site_values x f opcode.CheckMul i user k e other = no_value x f opcode.CheckMul i user k refl
site_values x f _ i user k e other = absurd cc

one_op_values : (o : Opcode) → is_one_op o ≡ true → (is_add o ≡ true) ⊎ (takes_values o ≡ false)
one_op_values opcode.Add e = inl refl
one_op_values opcode.Branch e = absurd cc
one_op_values opcode.Check e = absurd cc
one_op_values opcode.Select e = absurd cc
one_op_values opcode.Load8Z e = absurd cc
one_op_values opcode.Load8S e = absurd cc
one_op_values opcode.Load16Z e = absurd cc
one_op_values opcode.Load16S e = absurd cc
one_op_values opcode.Load e = absurd cc
one_op_values opcode.Store8 e = absurd cc
one_op_values opcode.Store16 e = absurd cc
one_op_values opcode.Store e = absurd cc
one_op_values _ e = inr refl

-- a sum that isn't folded has no shift as a folded child
pub sum_values : (x : Index) (f : List Bool) (o : Opcode) (i user : ℕ) (k : Known) → is_add o ≡ true → is_pointer x f user ≡ false
    → value_fits x f o i user k ≡ false
sum_values x f opcode.Add zero user k e free = refl
sum_values x f opcode.Add (suc zero) user k e free = ap (λ b. b && is_index x k) free
sum_values x f opcode.Add (suc (suc i)) user k e free = refl
sum_values x f _ i user k e free = absurd cc

one_op_none : (x : Index) (f : List Bool) (o : Opcode) (i user : ℕ) (k : Known) → is_one_op o ≡ true → (is_add o ≡ true → is_pointer x f user ≡ false)
    → value_fits x f o i user k ≡ false
one_op_none x f o i user k is free = elim (one_op_values o is) [
  | inl add ↦ sum_values x f o i user k add (free add)
  | inr plain ↦ no_value x f o i user k plain
]

-- ---- what a list of children reads

pub child_place : (cs : List ℕ) (id : ℕ) → Contains cs id → (i : ℕ) × (slice_get cs i ≡ Some id)
child_place cs id has = (has.0, slice_get-get_or cs has.0 id has.1 ∙ ap Some has.2)

module _ (p : Procedure) (t : Tables) (start : Start) (v : Value) (h : Here p t start v) where
  abbrev pub reads : List ℕ → List ℕ → List Read
  reads cs ws = typed p h.valid t h.sound start h.passed h.block h.before (v ∷ h.rest) h.stands h.st h.reached h.s h.related cs ws

  pub reads_words : (cs ws : List ℕ) → b3.words_of (type_of p) h.st.words cs ≡ Some ws → map (λ (r : Read). r.1) (reads cs ws) ≡ ws
  reads_words [] ws e = ap (λ (l : List ℕ). map (λ (r : Read). r.1) (reads [] l)) (words_nil (type_of p) h.st.words ws e)
      ∙ sym (words_nil (type_of p) h.st.words ws e)
  reads_words (c ∷ cs) ws e =
      let one = words_cons (type_of p) h.st.words c cs ws e in
      subst (λ (l : List ℕ). map (λ (r : Read). r.1) (reads (c ∷ cs) l) ≡ l) (sym one.2) (ap (λ (l : List ℕ). one.0 ∷ l) (reads_words cs one.1 one.4))

  pub reads_width : (cs ws : List ℕ) → b3.words_of (type_of p) h.st.words cs ≡ Some ws → air.width_of (reads cs ws) ≡ first_width (map (type_of p) cs)
  reads_width [] ws e = refl
  reads_width (c ∷ cs) ws e =
      let one = words_cons (type_of p) h.st.words c cs ws e in
      subst (λ (l : List ℕ). air.width_of (reads (c ∷ cs) l) ≡ width_of (type_of p c)) (sym one.2)
      (width_is p h.valid t h.sound start h.passed h.block h.before (v ∷ h.rest) h.stands h.st h.reached h.s h.related c)

  targets_uses : (cs : List ℕ) (os : List Operand) → targets (map (use_of t) cs ++ os) ≡ targets os
  targets_uses [] os = refl
  targets_uses (c ∷ cs) os = writes_use (width_at t.index c) (arg_of t c) (map (use_of t) cs ++ os) ∙ targets_uses cs os

  pub over_words : ((i : ℕ) (k : Known) → value_fits t.index (pointers p) v.kind.opcode i v.id k ≡ false)
      → words h.s.homes (map (use_of t) v.children ++ result_of t v ∷ []) ≡ Some (reads v.children (words_here p t start v h))
  over_words none =
      children_words p h.valid t h.sound start h.passed h.block h.before (v ∷ h.rest) h.stands h.st h.reached h.s h.related v.children
      (words_here p t start v h) (result_of t v ∷ []) []
      (λ id has. child_ran p h.valid h.passed h.block h.before h.st h.reached v (at p t start v h) id has)
      (λ id has. let place = child_place v.children id has in
      readable p h.valid t h.sound start h.block v (here p t start v h) place.0 id place.1 (none place.0))
      (are_words p t start v h) (reads_def h.s.homes (width_of v.ty) (home t.index v.id))
      ∙ ap Some (append-nil (reads v.children (words_here p t start v h)))

  over_targets : targets (map (use_of t) v.children ++ result_of t v ∷ []) ≡ record { home = home t.index v.id; width = width_of v.ty } ∷ []
  over_targets = targets_uses v.children (result_of t v ∷ []) ∙ writes_def (width_of v.ty) (home t.index v.id)

  -- what a computing op means
  pub computing : (o : AirOp) (value : ℕ) (rs : List Read) (w : World) (word : ℕ) → kind_of o ≡ Computes
      → computed o (air.width_of rs) (map (λ (r : Read). r.1) rs) ≡ Some word
      → meaning start (record { op = o; value = value; traps = false }) rs w ≡ gives w (word ∷ [])
  unfolding meaning
  computing o value rs w word kind e =
      ap (λ (k : Kind). effect_of k start (record { op = o; value = value; traps = false }) (air.width_of rs) rs (map (λ (r : Read). r.1) rs) w) kind
      ∙ ap (gives_word w) e

  pub copying : (o : AirOp) (value : ℕ) (rs : List Read) (w : World) → kind_of o ≡ Copies
      → meaning start (record { op = o; value = value; traps = false }) rs w ≡ gives w (map (λ (r : Read). r.1) rs)
  unfolding meaning
  copying o value rs w kind =
      ap (λ (k : Kind). effect_of k start (record { op = o; value = value; traps = false }) (air.width_of rs) rs (map (λ (r : Read). r.1) rs) w) kind

  module _ (junk : List ℕ) where
    -- one instruction over the children that gives a word
    pub over_does : (o : Opcode) (air : AirOp) (w : ℕ) → v.kind.opcode ≡ o → ((i : ℕ) (k : Known) → value_fits t.index (pointers p) o i v.id k ≡ false)
        → w < 2 ^ bits (width_of v.ty)
        → meaning start (record { op = air; value = v.id; traps = false }) (reads v.children (words_here p t start v h)) h.s.world ≡ gives h.s.world (w ∷ [])
        → Does p t start v junk (b3.Next (b3.with_word h.st v.id w)) (steps (meaning start) (computes t v air) h.s junk)
    over_does o air w e none small means =
        let i : AirInst = inst v air (map (use_of t) v.children ++ result_of t v ∷ []) in
        puts p t start v h junk w h.s (steps (meaning start) (i ∷ []) h.s junk) small h.related
        (steps_last start i h.s junk (Goes None (with_home h.s (home t.index v.id) (width_of v.ty) w), junk)
        (one_word start i h.s junk (reads v.children (words_here p t start v h)) (home t.index v.id) (width_of v.ty) w
        (over_words (λ n k. ap (λ (q : Opcode). value_fits t.index (pointers p) q n v.id k) e ∙ none n k))
        means over_targets))

    pub one_op_does : (o : Opcode) → v.kind.opcode ≡ o → is_one_op o ≡ true → (is_add o ≡ true → is_pointer t.index (pointers p) v.id ≡ false)
        → Does p t start v junk (b3.gives h.st v.id (result v.kind.opcode v.kind.chill v.ty (words_here p t start v h) (types_of p v)))
        (steps (meaning start) (computes t v (op_of o)) h.s junk)
    one_op_does o e is free =
        gives_does p t start v h junk (result v.kind.opcode v.kind.chill v.ty (words_here p t start v h) (types_of p v))
        (steps (meaning start) (computes t v (op_of o)) h.s junk)
        (λ w g.
        over_does o (op_of o) w e (λ n k. one_op_none t.index (pointers p) o n v.id k is free)
        (result_small p t start v h w (ap role_of e ∙ one_op_pure o is) g)
        (computing (op_of o) v.id (reads v.children (words_here p t start v h)) h.s.world w (one_op_kind o is)
        (ap (λ (k : Width). computed (op_of o) k (map (λ (r : Read). r.1) (reads v.children (words_here p t start v h))))
        (reads_width v.children (words_here p t start v h) (are_words p t start v h))
        ∙ ap (computed (op_of o) (first_width (types_of p v))) (reads_words v.children (words_here p t start v h) (are_words p t start v h))
        ∙ one_op_right o is v.kind.chill v.ty (types_of p v) (words_here p t start v h) w
        (subst (λ (q : Opcode). AllowsTypes q v.ty (types_of p v)) e (allows p t start v h)) (are_typed p t start v h)
        (sym (ap (λ (q : Opcode). result q v.kind.chill v.ty (words_here p t start v h) (types_of p v)) e) ∙ g))))
