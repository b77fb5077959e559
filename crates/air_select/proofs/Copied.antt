-- The values that copy a word.
use Rattle.std.proofs.Common.{◌≡◌, ℕ, ◌^◌, ◌<◌, false, List, [], ◌∷◌, Option, Some, None, refl, sym, ap, ◌∙◌, subst}
use Rattle.std.specs.Prelude.{Contains, slice_get}
use Rattle.b3_base.proofs.Lists.{Contains-first}
use Rattle.b3_base.proofs.Widths.{low-same}
use Rattle.b3_base.specs.Arithmetic.{low}
use Rattle.b3_base.specs.Word.{bits}
use Rattle.b3_base.specs.declared.word.Width.{Width}
use Rattle.b3_base.specs.declared.word.Width.TheVariants.{W64}
use Rattle.b3_ir.specs.Fits.{IsArgument, IsConstantBelow, reported_count}
use Rattle.b3_ir.specs.Naming.{type_of}
use Rattle.b3_ir.specs.Types.{AllowsTypes, width_of}
use Rattle.b3_ir.specs.declared.opcode.Opcode.{Opcode}
use Rattle.b3_ir.specs.declared.opcode.Opcode.TheVariants as opcode
use Rattle.b3_ir.specs.declared.table.Takes.TheVariants.{Alike}
use Rattle.b3_ir.specs.declared.value.Body.{Body}
use Rattle.b3_ir.specs.declared.value.Body.TheVariants.{Argument, Constant}
use Rattle.b3_ir.specs.declared.value.Reg.{Reg}
use Rattle.b3_meaning.specs.Opcodes.{Gives, result}
use Rattle.b3_meaning.specs.Roles.{role_of}
use Rattle.b3_meaning.specs.Run as b3
use Rattle.b3_rules.specs.Rules.{types_of}
use Rattle.b3_sound.proofs.Rows.{IsRow, row_by_role}
use Rattle.air_ir.specs.Meaning.{gives, meaning}
use Rattle.air_ir.specs.Operands.{read, word_of}
use Rattle.air_ir.specs.Steps.{Goes, State, steps}
use Rattle.air_ir.specs.declared.op.AirOp.TheVariants as op
use Rattle.air_ir.specs.declared.operand.Arg.{Arg}
use Rattle.air_ir.specs.declared.operand.Arg.TheVariants.{At, Imm}
use Rattle.air_ir.specs.declared.operand.Home.{Home}
use Rattle.air_fold.specs.Foldable.{pointers, value_fits}
use Rattle.air_select.specs.Selected.{arg_of, computes, def_at, move, register_in, Tables}
use Rattle.air_select.specs.Temporaries.{argument, home, location}
use Rattle.air_fold.specs.Values.{width_at, word_in}
use Rattle.air_fold.specs.declared.known.Known.{Known}
use Rattle.air_select.proofs.Children.{child_word, readable, width_is}
use Rattle.air_select.proofs.Does.{Does, allows, are_words, at, gives_does, here, is_known, puts, result_small, rules, words_here, Here}
use Rattle.air_select.proofs.Facts.{child_ran}
use Rattle.air_select.proofs.Instructions.{at_home, of_immediate, one_word, reads_def, reads_use, steps_last, with_home, writes_def, writes_use}
use Rattle.air_select.proofs.Plain.{copying, no_value, over_does, reads, reads_words}
use Rattle.air_select.proofs.Shapes.{one_child}
use Rattle.b3_base.specs.Observed.{Start}
use Rattle.b3_ir.specs.Procedure.{Procedure}
use Rattle.b3_ir.specs.declared.value.Value.{Value}

-- ---- a move

module _ (p : Procedure) (t : Tables) (start : Start) (v : Value) (h : Here p t start v) where
  -- it copies a word from a related state
  pub moved : (s : State) (junk : List ℕ) (width : Width) (from : Arg) (to : Home) (w : ℕ) → word_of s.homes width from ≡ Some w
      → steps (meaning start) (move v width from to ∷ []) s junk ≡ (Goes None (with_home s to width w), junk)
  moved s junk width from to w e =
      steps_last start (move v width from to) s junk (Goes None (with_home s to width w), junk)
      (one_word start (move v width from to) s junk ((width, w) ∷ []) to width w
      (reads_use s.homes width from (def_at width to ∷ []) w [] e (reads_def s.homes width to))
      (copying p t start v h op.Move v.id ((width, w) ∷ []) s.world refl)
      (writes_use width from (def_at width to ∷ []) ∙ writes_def width to))

  pub row : IsRow (role_of v.kind.opcode) v.ty (types_of p v) v.body
  row = row_by_role v.kind.opcode v.ty (types_of p v) (reported_count v) v.body (allows p t start v h) (rules p t start v h).fits.body

  pub row_of_role : (o : Opcode) → v.kind.opcode ≡ o → IsRow (role_of o) v.ty (types_of p v) v.body
  row_of_role o e = subst (λ (q : Opcode). IsRow (role_of q) v.ty (types_of p v) v.body) e row

  -- ---- constants

  constant_gives : (limit : ℕ) (body : Body) (w : ℕ) → IsConstantBelow limit body → b3.constant_of body ≡ Gives w → (word_in body ≡ w) × (w < limit)
  constant_gives limit (Constant word) w below e = let same : word ≡ w = cc in (same, subst (λ n. n < limit) same below)
  constant_gives limit _ w below e = absurd below

  pub constant_does : (junk : List ℕ) → IsConstantBelow (2 ^ bits (width_of v.ty)) v.body
      → Does p t start v junk (b3.gives h.st v.id (b3.constant_of v.body))
      (steps (meaning start) (move v (width_of v.ty) (Imm (word_in v.body)) (home t.index v.id) ∷ []) h.s junk)
  constant_does junk below =
      gives_does p t start v h junk (b3.constant_of v.body)
      (steps (meaning start) (move v (width_of v.ty) (Imm (word_in v.body)) (home t.index v.id) ∷ []) h.s junk)
      (λ w e.
      let is = constant_gives (2 ^ bits (width_of v.ty)) v.body w below e in
      puts p t start v h junk w h.s (steps (meaning start) (move v (width_of v.ty) (Imm (word_in v.body)) (home t.index v.id) ∷ []) h.s junk) is.1 h.related
      (moved h.s junk (width_of v.ty) (Imm (word_in v.body)) (home t.index v.id) w
      (of_immediate h.s.homes (width_of v.ty) (word_in v.body) ∙ ap (λ n. Some (low (width_of v.ty) n)) is.0 ∙ ap Some (low-same (width_of v.ty) w is.1))))

  -- ---- arguments

  argument_gives : (body : Body) (w : ℕ) → IsArgument body → b3.argument_of start body ≡ Gives w
      → (reg : Reg) × (body ≡ Argument reg) × (start.arguments reg.0 ≡ w)
  argument_gives (Argument reg) w is e = (reg, refl, let same : start.arguments reg.0 ≡ w = cc in same)
  argument_gives _ w is e = absurd is

  pub argument_does : (junk : List ℕ) → v.kind.opcode ≡ opcode.ArgumentReg
      → Does p t start v junk (b3.gives h.st v.id (b3.argument_of start v.body))
      (steps (meaning start) (move v W64 (At (argument t.index (register_in v.body))) (home t.index v.id) ∷ []) h.s junk)
  argument_does junk eo =
      let is_row = row_of_role opcode.ArgumentReg eo in
      let code = move v W64 (At (argument t.index (register_in v.body))) (home t.index v.id) ∷ [] in
      gives_does p t start v h junk (b3.argument_of start v.body) (steps (meaning start) code h.s junk)
      (λ w e.
      let given = argument_gives v.body w is_row.1 e in
      let names = h.arguments h.block v given.0 (here p t start v h) eo given.1 in
      let wide : W64 ≡ width_of v.ty = ap width_of (sym is_row.0) in
      let reads : word_of h.s.homes W64 (At (argument t.index (register_in v.body))) ≡ Some w =
      at_home h.s.homes W64 (argument t.index (register_in v.body)) w
      (ap (λ (b : Body). read W64 (h.s.homes (argument t.index (register_in b)))) given.1 ∙ h.related.arguments (given.0).0 names.0 names.1
      ∙ ap Some given.2) in
      let small : w < 2 ^ bits (width_of v.ty) =
      subst (λ (k : Width). w < 2 ^ bits k) wide (subst (λ n. n < 2 ^ 64) given.2 (h.ranged.arguments (given.0).0)) in
      puts p t start v h junk w h.s (steps (meaning start) code h.s junk) small h.related
      (moved h.s junk W64 (At (argument t.index (register_in v.body))) (home t.index v.id) w reads
      ∙ ap (λ (k : Width). (Goes None (with_home h.s (home t.index v.id) k w), junk)) wide))

  -- ---- Phis

  loaded_gives : (x : Option ℕ) (w : ℕ) → b3.loaded_phi x ≡ Gives w → x ≡ Some w
  loaded_gives (Some y) w e = let same : y ≡ w = cc in ap Some same
  loaded_gives None w e = absurd (cc)

  pub phi_does : (junk : List ℕ)
      → Does p t start v junk (b3.gives h.st v.id (b3.loaded_phi (h.st.locations v.id)))
      (steps (meaning start) (move v (width_of v.ty) (At (location t.index v.id)) (home t.index v.id) ∷ []) h.s junk)
  phi_does junk =
      let code = move v (width_of v.ty) (At (location t.index v.id)) (home t.index v.id) ∷ [] in
      gives_does p t start v h junk (b3.loaded_phi (h.st.locations v.id)) (steps (meaning start) code h.s junk)
      (λ w e.
      let now = loaded_gives (h.st.locations v.id) w e in
      let small : w < 2 ^ bits (width_of v.ty) =
      subst (λ (k : Width). w < 2 ^ bits k) (sym (width_is p h.valid t h.sound start h.passed h.block h.before (v ∷ h.rest)
      h.stands h.st h.reached h.s h.related v.id) ∙ is_known p t start v h)
      (h.reached.ranged.locations v.id w now) in
      puts p t start v h junk w h.s (steps (meaning start) code h.s junk) small h.related
      (moved h.s junk (width_of v.ty) (At (location t.index v.id)) (home t.index v.id) w
      (at_home h.s.homes (width_of v.ty) (location t.index v.id) w
      (ap (λ (k : Width). read k (h.s.homes (location t.index v.id))) (sym (is_known p t start v h)) ∙ h.related.locations v.id w now))))

  -- ---- one child

  pub place_of_child : (cs : List ℕ) (c : ℕ) (more : List ℕ) → cs ≡ c ∷ more → slice_get cs 0 ≡ Some c
  place_of_child cs c more e = ap (λ (l : List ℕ). slice_get l 0) e

  pub first_child : (c : ℕ) (more : List ℕ) → v.children ≡ c ∷ more → Contains v.children c
  first_child c more e = subst (λ (l : List ℕ). Contains l c) (sym e) (Contains-first c more)

  -- the word of a child, in a use that isn't a condition
  pub child_here : (i c w : ℕ) → slice_get v.children i ≡ Some c → Contains v.children c → h.st.words c ≡ Some w
      → ((k : Known) → value_fits t.index (pointers p) v.kind.opcode i v.id k ≡ false)
      → word_of h.s.homes (width_at t.index c) (arg_of t c) ≡ Some w
  child_here i c w there has now none =
      child_word p h.valid t h.sound start h.passed h.block h.before (v ∷ h.rest) h.stands h.st h.reached h.s h.related c w
      (child_ran p h.valid h.passed h.block h.before h.st h.reached v (at p t start v h) c has)
      (readable p h.valid t h.sound start h.block v (here p t start v h) i c there none) now

  pub identity_does : (junk : List ℕ) → v.kind.opcode ≡ opcode.Identity
      → Does p t start v junk (b3.gives h.st v.id (result v.kind.opcode v.kind.chill v.ty (words_here p t start v h) (types_of p v)))
      (steps (meaning start) (computes t v op.Move) h.s junk)
  identity_does junk eo =
      let ws = words_here p t start v h in
      gives_does p t start v h junk (result v.kind.opcode v.kind.chill v.ty ws (types_of p v)) (steps (meaning start) (computes t v op.Move) h.s junk)
      (λ w g.
      let allowed = subst (λ (q : Opcode). AllowsTypes q v.ty (types_of p v)) eo (allows p t start v h) in
      let shape = one_child (type_of p) h.st.words allowed.alike Alike v.children ws allowed.children (are_words p t start v h) in
      let same : shape.wx ≡ w = same_word shape.wx w
      (ap (λ (l : List ℕ). result opcode.Identity v.kind.chill v.ty l (types_of p v)) (sym shape.words)
      ∙ ap (λ (q : Opcode). result q v.kind.chill v.ty ws (types_of p v)) (sym eo) ∙ g) in
      over_does p t start v h junk opcode.Identity op.Move w eo (λ n k. no_value t.index (pointers p) opcode.Identity n v.id k refl)
      (result_small p t start v h w (ap role_of eo) g)
      (copying p t start v h op.Move v.id (reads p t start v h v.children ws) h.s.world refl
      ∙ ap (gives h.s.world) (reads_words p t start v h v.children ws (are_words p t start v h) ∙ shape.words ∙ ap (λ n. n ∷ []) same)))
    where
      same_word : (a b : ℕ) → Gives a ≡ Gives b → a ≡ b
      same_word a b e = cc
