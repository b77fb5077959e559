-- Select, and the values that end a block.
use Rattle.std.proofs.Common.{◌≡◌, ℕ, zero, suc, ◌+◌, ◌^◌, ◌<◌, inl, inr, Bool, true, false, List, [], ◌∷◌, ◌++◌, map, length, Option, Some, None, nat_eq, refl, sym, ap, ◌∙◌, subst, arith, append-nil}
use Rattle.std.specs.Prelude.{Contains, if◌then◌else◌, not, slice_get}
use Rattle.std.specs.Option.{option_map}
use Rattle.std.proofs.lemmas.Option.{slice_get-map}
use Rattle.std.proofs.lemmas.Bool.{or_cases}
use Rattle.b3_base.proofs.Lists.{Contains-first}
use Rattle.b3_base.specs.Arithmetic.{low}
use Rattle.b3_base.specs.Observed.{Event, Memory, Start}
use Rattle.b3_base.specs.Word.{bits}
use Rattle.b3_base.specs.declared.observation.Status.{Status}
use Rattle.b3_base.specs.declared.observation.Status.TheVariants.{Returned}
use Rattle.b3_base.specs.declared.word.Width.{Width}
use Rattle.b3_ir.specs.Fits.{HasCases, HasTargets}
use Rattle.b3_ir.specs.Naming.{type_of}
use Rattle.b3_ir.specs.Types.{AllowsTypes, AreTaken, width_of}
use Rattle.b3_ir.specs.declared.opcode.Opcode.{Opcode}
use Rattle.b3_ir.specs.declared.opcode.Opcode.TheVariants as opcode
use Rattle.b3_ir.specs.declared.opcode.Ty.{Ty}
use Rattle.b3_ir.specs.declared.opcode.Ty.TheVariants.{Int32}
use Rattle.b3_ir.specs.declared.table.Takes.TheVariants.{Alike, Any}
use Rattle.b3_ir.specs.declared.table.More.TheVariants.{One}
use Rattle.b3_ir.specs.declared.value.Body.{Body}
use Rattle.b3_ir.specs.declared.value.Body.TheVariants.{Cases, Targets}
use Rattle.b3_meaning.specs.Opcodes.{Gives, result}
use Rattle.b3_meaning.specs.Roles.{role_of}
use Rattle.b3_meaning.specs.Run as b3
use Rattle.b3_rules.specs.Rules.{types_of}
use Rattle.b3_rules.specs.Paths.{successors_in}
use Rattle.air_ir.specs.Blocks.{seen_as}
use Rattle.air_ir.specs.Meaning as air
use Rattle.air_ir.specs.Meaning.{Over, To, World, case_number, leaves, meaning}
use Rattle.air_ir.specs.Operands.{Holds, Read, read, targets, word_of, words}
use Rattle.air_ir.specs.Steps.{Goes, Outcome as Ran, steps}
use Rattle.air_ir.specs.Words.{Tested, select_if, test}
use Rattle.air_ir.specs.declared.op.AirOp.TheVariants as op
use Rattle.air_ir.specs.declared.op.Test.{Test}
use Rattle.air_ir.specs.declared.operand.Arg.TheVariants.{At}
use Rattle.air_ir.specs.declared.procedure.AirInst.{AirInst}
use Rattle.air_ir.proofs.Stepping.{steps-one}
use Rattle.air_fold.specs.Foldable.{constant_fits, is_bit_test, is_comparison, pointers, sum_fits, value_fits}
use Rattle.air_select.specs.Selected.{arg_of, branch_on, cases_in, condition_of, inst, move, register, result_of, return_of, select_on, targets_of, use_at, use_of, Tables}
use Rattle.air_select.specs.Temporaries.{home}
use Rattle.air_fold.specs.Values.{Index, child, width_at}
use Rattle.air_fold.specs.declared.known.Known.{Known}
use Rattle.air_select.proofs.Children.{child_word, readable, width_is, word_small, words_cons, words_nil}
use Rattle.air_select.proofs.Copied.{moved, row_of_role}
use Rattle.air_select.proofs.Deciding.{Decides, decides}
use Rattle.air_select.proofs.Does.{Does, allows, are_words, at, gives_does, here, puts, result_small, words_here, Here}
use Rattle.air_select.proofs.Facts.{child_ran}
use Rattle.air_select.proofs.Instructions.{at_home, one_leave, one_word, reads_def, reads_none, reads_use, steps_first, steps_last, with_home, writes_def, writes_none, writes_use}
use Rattle.air_select.proofs.Plain.{computing}
use Rattle.air_select.proofs.Related.{holds_word, register_here}
use Rattle.air_select.proofs.Remainders.{child_in}
use Rattle.air_select.proofs.Shapes.{one_child, one_here, three_children, three_here}
use Rattle.b3_ir.specs.Procedure.{Procedure}
use Rattle.b3_ir.specs.declared.value.Value.{Value}

gives_is : (a b : ℕ) → Gives a ≡ Gives b → a ≡ b
gives_is a b e = cc

chosen_word : (zero : Bool) (x y w : ℕ) → (if zero then y else x) ≡ w → (if not zero then x else y) ≡ w
chosen_word true x y w e = e
chosen_word false x y w e = e

-- the words that a Select chooses from are no conditions
select_later : (x : Index) (f : List Bool) (i user : ℕ) (k : Known) → value_fits x f opcode.Select (suc i) user k ≡ false
select_later x f zero user k = refl
select_later x f (suc i) user k = refl

module _ (p : Procedure) (t : Tables) (start : Start) (v : Value) (h : Here p t start v) (junk : List ℕ) where
  -- ---- Select

  later_child : v.kind.opcode ≡ opcode.Select → (i c w : ℕ) → slice_get v.children (suc i) ≡ Some c → Contains v.children c → h.st.words c ≡ Some w
      → word_of h.s.homes (width_at t.index c) (arg_of t c) ≡ Some w
  later_child eo i c w there has now =
      child_word p h.valid t h.sound start h.passed h.block h.before (v ∷ h.rest) h.stands h.st h.reached h.s h.related c w
      (child_ran p h.valid h.passed h.block h.before h.st h.reached v (at p t start v h) c has)
      (readable p h.valid t h.sound start h.block v (here p t start v h) (suc i) c there
      (λ k. ap (λ (q : Opcode). value_fits t.index (pointers p) q (suc i) v.id k) eo ∙ select_later t.index (pointers p) i v.id k)) now

  pub select_does : v.kind.opcode ≡ opcode.Select
      → Does p t start v junk (b3.gives h.st v.id (result v.kind.opcode v.kind.chill v.ty (words_here p t start v h) (types_of p v)))
      (steps (meaning start) (select_on t v (condition_of t (child v.children 0))) h.s junk)
  select_does eo =
      let ws = words_here p t start v h in
      let c = condition_of t (child v.children 0) in
      gives_does p t start v h junk (result v.kind.opcode v.kind.chill v.ty ws (types_of p v)) (steps (meaning start) (select_on t v c) h.s junk)
      (λ w g.
      let allowed = subst (λ (q : Opcode). AllowsTypes q v.ty (types_of p v)) eo (allows p t start v h) in
      let three = three_here (type_of p) h.st.words allowed.alike Any Alike Alike v.children ws
      (three_children (type_of p) h.st.words allowed.alike Any Alike Alike v.children ws allowed.children (are_words p t start v h)) in
      let x = child v.children 1 in
      let y = child v.children 2 in
      let is : (if nat_eq three.wx 0 then three.wz else three.wy) ≡ w =
      gives_is (if nat_eq three.wx 0 then three.wz else three.wy) w
      (ap (λ (l : List ℕ). result opcode.Select v.kind.chill v.ty l (types_of p v)) (sym three.words)
      ∙ ap (λ (q : Opcode). result q v.kind.chill v.ty ws (types_of p v)) (sym eo) ∙ g) in
      let d : Decides h.s.homes c three.wx =
      decides p t start v h (child v.children 0) three.wx three.x_at three.x_in three.x_now
      (λ width word. ap (λ (q : Opcode). constant_fits q 0 width word) eo) (ap (λ (q : Opcode). sum_fits t.index (pointers p) q 0 v.id) eo)
      (λ k fits. inl (sym (ap (λ (q : Opcode). value_fits t.index (pointers p) q 0 v.id k) eo) ∙ fits)) in
      let os = use_of t x ∷ use_of t y ∷ result_of t v ∷ [] in
      let more = (width_at t.index x, three.wy) ∷ (width_at t.index y, three.wz) ∷ [] in
      let rs = d.reads ++ more in
      let tail : words h.s.homes os ≡ Some more =
      reads_use h.s.homes (width_at t.index x) (arg_of t x) (use_of t y ∷ result_of t v ∷ []) three.wy ((width_at t.index y, three.wz) ∷ [])
      (later_child eo 0 x three.wy three.y_at three.y_in three.y_now)
      (reads_use h.s.homes (width_at t.index y) (arg_of t y) (result_of t v ∷ []) three.wz [] (later_child eo 1 y three.wz three.z_at three.z_in three.z_now)
      (reads_def h.s.homes (width_of v.ty) (home t.index v.id))) in
      let i : AirInst = inst v (op.SelectIf c.test) (c.over ++ os) in
      puts p t start v h junk w h.s (steps (meaning start) (i ∷ []) h.s junk) (result_small p t start v h w (ap role_of eo) g) h.related
      (steps_last start i h.s junk (Goes None (with_home h.s (home t.index v.id) (width_of v.ty) w), junk)
      (one_word start i h.s junk rs (home t.index v.id) (width_of v.ty) w (d.words_are os more tail)
      (computing p t start v h (op.SelectIf c.test) v.id rs h.s.world w refl
      (ap select_if (d.tells more) ∙ ap Some (chosen_word (nat_eq three.wx 0) three.wy three.wz w is)))
      (d.writes os ∙ writes_use (width_at t.index x) (arg_of t x) (use_of t y ∷ result_of t v ∷ [])
      ∙ writes_use (width_at t.index y) (arg_of t y) (result_of t v ∷ [])
      ∙ writes_def (width_of v.ty) (home t.index v.id)))))

  -- ---- Jump

  one_target : (body : Body) → HasTargets 1 body → (a : ℕ) × (body ≡ Targets (a ∷ []))
  one_target (Targets (a ∷ [])) has = (a, refl)
  one_target (Targets []) has = absurd (let bad : 0 ≡ 1 = has in omega arith)
  one_target (Targets (a ∷ b ∷ more)) has = absurd (let bad : length (a ∷ b ∷ more) ≡ 1 = has in omega arith)
  one_target _ has = absurd has

  two_targets : (body : Body) → HasTargets 2 body → (a : ℕ) × (b : ℕ) × (body ≡ Targets (a ∷ b ∷ []))
  two_targets (Targets (a ∷ b ∷ [])) has = (a, b, refl)
  two_targets (Targets []) has = absurd (let bad : 0 ≡ 2 = has in omega arith)
  two_targets (Targets (a ∷ [])) has = absurd (let bad : length (a ∷ []) ≡ 2 = has in omega arith)
  two_targets (Targets (a ∷ b ∷ c ∷ more)) has = absurd (let bad : length (a ∷ b ∷ c ∷ more) ≡ 2 = has in omega arith)
  two_targets _ has = absurd has

  target_at : (body : Body) → v.body ≡ body → (k b : ℕ) → slice_get (successors_in body) k ≡ Some b → slice_get (targets_of v) k ≡ Some (b + 1)
  target_at body e k b there =
      ap (λ (x : Body). slice_get (map (λ n. n + 1) (successors_in x)) k) e ∙ slice_get-map (λ n. n + 1) (successors_in body) k
      ∙ ap (option_map (λ n. n + 1)) there

  jump_means : (value : ℕ) (w : World) → meaning start (record { op = op.Jump; value = value; traps = false }) [] w ≡ leaves w (To 0)
  unfolding meaning
  jump_means value w = refl

  pub jump_does : v.kind.opcode ≡ opcode.Jump → Does p t start v junk (b3.jumps h.st v.body) (steps (meaning start) (inst v op.Jump [] ∷ []) h.s junk)
  jump_does eo =
      let target = one_target v.body (row_of_role p t start v h opcode.Jump eo).1 in
      subst (λ (b : Body). Does p t start v junk (b3.jumps h.st b) (steps (meaning start) (inst v op.Jump [] ∷ []) h.s junk)) (sym target.1) (
        0,
        h.s,
        steps_last start (inst v op.Jump []) h.s junk (Goes (Some (To 0)) h.s, junk)
            (one_leave start (inst v op.Jump []) h.s junk [] (To 0) (reads_none h.s.homes) (jump_means v.id h.s.world) writes_none),
        target_at (Targets (target.0 ∷ [])) target.1 0 target.0 refl,
        h.related,
      )

  -- ---- Branch

  branch_means : (tested : Test) (value : ℕ) (rs : List Read) (w : World) (passes : Bool)
      → test tested (air.width_of rs) (map (λ (r : Read). r.1) rs) ≡ Some (passes, [])
      → meaning start (record { op = op.BranchIf tested; value = value; traps = false }) rs w ≡ leaves w (To (if passes then 0 else 1))
  unfolding meaning
  branch_means tested value rs w passes e = ap (λ (x : Option Tested). air.branches x w) e

  pub branch_does : v.kind.opcode ≡ opcode.Branch
      → Does p t start v junk (b3.branches h.st v.body (words_here p t start v h))
      (steps (meaning start) (branch_on t v (condition_of t (child v.children 0))) h.s junk)
  branch_does eo =
      let ws = words_here p t start v h in
      let c = condition_of t (child v.children 0) in
      let allowed = subst (λ (q : Opcode). AllowsTypes q v.ty (types_of p v)) eo (allows p t start v h) in
      let one = one_here (type_of p) h.st.words allowed.alike Any v.children ws
      (one_child (type_of p) h.st.words allowed.alike Any v.children ws allowed.children (are_words p t start v h)) in
      let target = two_targets v.body (row_of_role p t start v h opcode.Branch eo).2 in
      let d : Decides h.s.homes c one.wx =
      decides p t start v h (child v.children 0) one.wx one.x_at one.x_in one.x_now
      (λ width word. ap (λ (q : Opcode). constant_fits q 0 width word) eo) (ap (λ (q : Opcode). sum_fits t.index (pointers p) q 0 v.id) eo)
      (λ k fits. or_cases (is_comparison k.opcode) (is_bit_test t.index k)
      (sym (ap (λ (q : Opcode). value_fits t.index (pointers p) q 0 v.id k) eo) ∙ fits)) in
      let i : AirInst = inst v (op.BranchIf c.test) c.over in
      let read_all : words h.s.homes c.over ≡ Some (d.reads ++ []) =
      ap (words h.s.homes) (sym (append-nil c.over)) ∙ d.words_are [] [] (reads_none h.s.homes) in
      let leaves_it : steps (meaning start) (i ∷ []) h.s junk ≡ (Goes (Some (To (if not (nat_eq one.wx 0) then 0 else 1))) h.s, junk) =
      steps_last start i h.s junk (Goes (Some (To (if not (nat_eq one.wx 0) then 0 else 1))) h.s, junk)
      (one_leave start i h.s junk (d.reads ++ []) (To (if not (nat_eq one.wx 0) then 0 else 1)) read_all
      (branch_means c.test v.id (d.reads ++ []) h.s.world (not (nat_eq one.wx 0)) (d.tells []))
      (ap targets (sym (append-nil c.over)) ∙ d.writes [] ∙ writes_none)) in
      subst (λ (b : Body). Does p t start v junk (b3.branches h.st b ws) (steps (meaning start) (i ∷ []) h.s junk)) (sym target.2)
      (subst (λ (l : List ℕ). Does p t start v junk (b3.branches h.st (Targets (target.0 ∷ target.1 ∷ [])) l) (steps (meaning start) (i ∷ []) h.s junk))
      (sym one.words)
      ((if not (nat_eq one.wx 0) then 0 else 1), h.s, leaves_it, chosen_target (nat_eq one.wx 0) target.0 target.1 target.2, h.related))
    where
      chosen_target : (zero : Bool) (a b : ℕ) → v.body ≡ Targets (a ∷ b ∷ [])
          → slice_get (targets_of v) (if not zero then 0 else 1) ≡ Some ((if zero then b else a) + 1)
      chosen_target true a b e = target_at (Targets (a ∷ b ∷ [])) e 1 b refl
      chosen_target false a b e = target_at (Targets (a ∷ b ∷ [])) e 0 a refl

  -- ---- Switch

  cases_are : (body : Body) → HasCases body → (cases : List ℕ) × (blocks : List ℕ) × (body ≡ Cases cases blocks)
  cases_are (Cases cases blocks) has = (cases, blocks, refl)
  cases_are _ has = absurd has

  chosen_case : (width : Width) (word : ℕ) (cases blocks : List ℕ) (b : ℕ) → b3.chosen width word cases blocks ≡ Some b
      → slice_get blocks (case_number width word cases) ≡ Some b
  chosen_case width word cases [] b e = absurd (cc)
  chosen_case width word [] (c ∷ blocks) b e = e
  chosen_case width word (k ∷ cases) (c ∷ blocks) b e = go (nat_eq (low width k) word) e (chosen_case width word cases blocks b)
    where
      go : (same : Bool) → (if same then Some c else b3.chosen width word cases blocks) ≡ Some b
          → (b3.chosen width word cases blocks ≡ Some b → slice_get blocks (case_number width word cases) ≡ Some b)
          → slice_get (c ∷ blocks) (if same then 0 else suc (case_number width word cases)) ≡ Some b
      go true e later = e
      go false e later = later e

  switch_means : (cases : List ℕ) (value word : ℕ) (width : Width) (w : World)
      → meaning start (record { op = op.Switch cases; value = value; traps = false }) ((width, word) ∷ []) w
      ≡ leaves w (To (case_number width word cases))
  unfolding meaning
  switch_means cases value word width w = refl

  leads : (x : Option ℕ) (o : Ran × List ℕ) → ((b : ℕ) → x ≡ Some b → Does p t start v junk (b3.To b h.st) o) → Does p t start v junk (b3.leads_to h.st x) o
  leads (Some b) o does = does b refl
  leads None o does = tt

  pub switch_does : v.kind.opcode ≡ opcode.Switch
      → Does p t start v junk (b3.switches h.st v.body (types_of p v) (words_here p t start v h))
      (steps (meaning start) (inst v (op.Switch (cases_in v.body)) (use_of t (child v.children 0) ∷ []) ∷ []) h.s junk)
  switch_does eo =
      let ws = words_here p t start v h in
      let c = child v.children 0 in
      let allowed = subst (λ (q : Opcode). AllowsTypes q v.ty (types_of p v)) eo (allows p t start v h) in
      let shape = one_child (type_of p) h.st.words allowed.alike Any v.children ws allowed.children (are_words p t start v h) in
      let one = one_here (type_of p) h.st.words allowed.alike Any v.children ws shape in
      let has = cases_are v.body (row_of_role p t start v h opcode.Switch eo).2 in
      let types : types_of p v ≡ type_of p shape.x ∷ [] = ap (map (type_of p)) shape.are in
      let c_is : c ≡ shape.x = ap (λ (l : List ℕ). child l 0) shape.are in
      let width : width_at t.index c ≡ width_of (type_of p shape.x) =
      width_is p h.valid t h.sound start h.passed h.block h.before (v ∷ h.rest) h.stands h.st h.reached h.s h.related c
      ∙ ap (λ (q : ℕ). width_of (type_of p q)) c_is in
      let number = case_number (width_at t.index c) one.wx has.0 in
      let i : AirInst = inst v (op.Switch has.0) (use_of t c ∷ []) in
      let leaves_it : steps (meaning start) (i ∷ []) h.s junk ≡ (Goes (Some (To number)) h.s, junk) =
      steps_last start i h.s junk (Goes (Some (To number)) h.s, junk)
      (one_leave start i h.s junk ((width_at t.index c, one.wx) ∷ []) (To number)
      (reads_use h.s.homes (width_at t.index c) (arg_of t c) [] one.wx []
      (child_in p t start v h junk h.s h.related opcode.Switch eo refl 0 c one.wx one.x_at one.x_in one.x_now) (reads_none h.s.homes))
      (switch_means has.0 v.id one.wx (width_at t.index c) h.s.world) (writes_use (width_at t.index c) (arg_of t c) [] ∙ writes_none)) in
      subst (λ (b : Body). Does p t start v junk (b3.switches h.st b (types_of p v) ws)
      (steps (meaning start) (inst v (op.Switch (cases_in b)) (use_of t c ∷ []) ∷ []) h.s junk)) (sym has.2)
      (subst (λ (l : List Ty). Does p t start v junk (b3.switches h.st (Cases has.0 has.1) l ws) (steps (meaning start) (i ∷ []) h.s junk)) (sym types)
      (subst (λ (l : List ℕ). Does p t start v junk (b3.switches h.st (Cases has.0 has.1) (type_of p shape.x ∷ []) l)
      (steps (meaning start) (i ∷ []) h.s junk)) (sym one.words)
      (leads (b3.chosen (width_of (type_of p shape.x)) one.wx has.0 has.1) (steps (meaning start) (i ∷ []) h.s junk) (λ b e. (
        number,
        h.s,
        leaves_it,
        target_at (Cases has.0 has.1) has.2 number b (ap (λ (k : Width). slice_get has.1 (case_number k one.wx has.0)) width
            ∙ chosen_case (width_of (type_of p shape.x)) one.wx has.0 has.1 b e),
        h.related,
      )))))

  -- ---- Return

  return_none : (value : ℕ) (w : World) → meaning start (record { op = op.Return; value = value; traps = false }) [] w ≡ leaves w (Over (Returned None))
  unfolding meaning
  return_none value w = refl

  return_word : (value word : ℕ) (width : Width) (w : World)
      → meaning start (record { op = op.Return; value = value; traps = false }) ((width, word) ∷ []) w ≡ leaves w (Over (Returned (Some word)))
  unfolding meaning
  return_word value word width w = refl

  pub same_seen : (status : Status) → seen_as h.s.world status ≡ b3.seen_as h.st status
  same_seen status =
      ap (λ (m : Memory). record { status = status; events = h.s.world.events; memory = m }) h.related.memory
      ∙ ap (λ (l : List Event). record { status = status; events = l; memory = h.st.memory }) h.related.events

  returns_nothing : (ws : List ℕ) → ws ≡ [] → Does p t start v junk (b3.returns h.st ws) (steps (meaning start) (return_of t v []) h.s junk)
  returns_nothing ws e =
      subst (λ (l : List ℕ). Does p t start v junk (b3.returns h.st l) (steps (meaning start) (return_of t v []) h.s junk)) (sym e) (
        Returned None,
        h.s,
        junk,
        steps_last start (inst v op.Return []) h.s junk (Goes (Some (Over (Returned None))) h.s, junk)
            (one_leave start (inst v op.Return []) h.s junk [] (Over (Returned None)) (reads_none h.s.homes) (return_none v.id h.s.world) writes_none),
        same_seen (Returned None),
      )

  returns_one : (c w : ℕ) (ws : List ℕ) → ws ≡ w ∷ [] → word_of h.s.homes (width_at t.index c) (arg_of t c) ≡ Some w → w < 2 ^ bits (width_at t.index c)
      → Does p t start v junk (b3.returns h.st ws) (steps (meaning start) (return_of t v (c ∷ [])) h.s junk)
  returns_one c w ws e reads small =
      let width = width_at t.index c in
      let copy = move v width (arg_of t c) (register 0) in
      let after = with_home h.s (register 0) width w in
      let last = inst v op.Return (use_at width (At (register 0)) ∷ []) in
      subst (λ (l : List ℕ). Does p t start v junk (b3.returns h.st l) (steps (meaning start) (return_of t v (c ∷ [])) h.s junk)) (sym e) (
        Returned (Some w),
        after,
        junk,
        steps_first start copy (last ∷ []) h.s after junk
            (sym (steps-one (meaning start) copy h.s junk) ∙ moved p t start v h h.s junk width (arg_of t c) (register 0) w reads)
            ∙ steps_last start last after junk (Goes (Some (Over (Returned (Some w)))) after, junk)
            (one_leave start last after junk ((width, w) ∷ []) (Over (Returned (Some w)))
            (reads_use after.homes width (At (register 0)) [] w []
            (at_home after.homes width (register 0) w (ap (read width) (register_here h.s.homes 0 (Holds width w)) ∙ holds_word width w small))
            (reads_none after.homes))
            (return_word v.id w width after.world) (writes_use width (At (register 0)) [] ∙ writes_none)),
        same_seen (Returned (Some w)),
      )

  returned : (cs ws : List ℕ) → AreTaken Int32 [] One (map (type_of p) cs) → b3.words_of (type_of p) h.st.words cs ≡ Some ws
      → ((c w : ℕ) → slice_get cs 0 ≡ Some c → Contains cs c → h.st.words c ≡ Some w → word_of h.s.homes (width_at t.index c) (arg_of t c) ≡ Some w)
      → Does p t start v junk (b3.returns h.st ws) (steps (meaning start) (return_of t v cs) h.s junk)
  returned [] ws taken e reads = returns_nothing ws (words_nil (type_of p) h.st.words ws e)
  returned (c ∷ d ∷ cs) ws (inl none) e reads = absurd (cc)
  returned (c ∷ d ∷ cs) ws (inr one) e reads = absurd (let bad : type_of p c ∷ type_of p d ∷ map (type_of p) cs ≡ one.0 ∷ [] = one.2 in cc)
  returned (c ∷ []) ws taken e reads =
      let one = words_cons (type_of p) h.st.words c [] ws e in
      returns_one c one.0 ws (one.2 ∙ ap (λ (l : List ℕ). one.0 ∷ l) (words_nil (type_of p) h.st.words one.1 one.4))
      (reads c one.0 refl (Contains-first c []) one.3)
      (word_small p h.valid t h.sound start h.passed h.block h.before (v ∷ h.rest) h.stands h.st h.reached h.s h.related c one.0 one.3)

  pub return_does : v.kind.opcode ≡ opcode.Return
      → Does p t start v junk (b3.returns h.st (words_here p t start v h)) (steps (meaning start) (return_of t v v.children) h.s junk)
  return_does eo =
      let allowed = subst (λ (q : Opcode). AllowsTypes q v.ty (types_of p v)) eo (allows p t start v h) in
      returned v.children (words_here p t start v h) allowed.children (are_words p t start v h)
      (λ c w there has now. child_in p t start v h junk h.s h.related opcode.Return eo refl 0 c w there has now)
