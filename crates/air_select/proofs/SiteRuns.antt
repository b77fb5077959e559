-- The runs of patchpoints and checks: their children are put into registers, and the site reads their words.
use Rattle.std.proofs.Common.{◌≡◌, ℕ, suc, ℤ, pos, negsuc, ◌*◌, ◌^◌, ◌<◌, inl, inr, Bool, true, false, ◌&&◌, List, [], ◌∷◌, ◌++◌, Option, Some, None, map, drop, length, append-nil, append_assoc, refl, sym, ap, ◌∙◌, subst, arith}
use Rattle.std.specs.Prelude.{All, Contains, if◌then◌else◌, not, nat_eq, slice_get}
use Rattle.std.proofs.lemmas.Bool.{ltb-true, or_cases}
use Rattle.std.proofs.lemmas.List.{length-map}
use Rattle.std.proofs.lemmas.List.Elements.{All-map, All-nil}
use Rattle.b3_base.proofs.Lists.{Contains-first, Contains-later, Contains-at, All-one, All-two}
use Rattle.b3_base.proofs.Widths.{low-same}
use Rattle.b3_base.specs.Arithmetic.{low}
use Rattle.b3_base.specs.Signed.{is_signed, signed, unsigned}
use Rattle.b3_base.specs.Word.{bits}
use Rattle.b3_base.specs.declared.event.EventKind.TheVariants as event
use Rattle.b3_base.specs.declared.observation.Status.TheVariants.{Exited}
use Rattle.b3_base.specs.declared.word.Width.{Width}
use Rattle.b3_ir.specs.Naming.{type_of}
use Rattle.b3_ir.specs.Types.{AllowsTypes, AreTaken, has_word, width_of}
use Rattle.b3_ir.specs.declared.opcode.Opcode.{Opcode}
use Rattle.b3_ir.specs.declared.opcode.Opcode.TheVariants as opcode
use Rattle.b3_ir.specs.declared.opcode.Ty.{Ty}
use Rattle.b3_ir.specs.declared.opcode.Ty.TheVariants.{Void, Int32, Int64}
use Rattle.b3_ir.specs.declared.table.More.TheVariants.{Reported}
use Rattle.b3_ir.specs.declared.table.Takes.TheVariants.{Alike, Any}
use Rattle.b3_ir.specs.declared.value.Constraint.{Constraint}
use Rattle.b3_ir.specs.declared.value.Constraint.TheVariants.{SomeEarlyRegister}
use Rattle.b3_ir.specs.declared.value.Reg.{Reg as Register}
use Rattle.b3_meaning.specs.Run as b3
use Rattle.b3_meaning.specs.declared.role.Checked.{Checked}
use Rattle.b3_meaning.specs.declared.role.Checked.TheVariants.{Sum, Difference, Product}
use Rattle.b3_rules.specs.Rules.{types_of}
use Rattle.b3_sound.proofs.Results.{half_of, unsigned_in}
use Rattle.stackmap.specs.Placing.{result_register}
use Rattle.stackmap.specs.Registers as registers
use Rattle.stackmap.specs.Registers.{constraints_of, has_result, is_patchpoint}
use Rattle.air_ir.specs.Expressed.{result_in, result_role}
use Rattle.air_ir.specs.Forms.{IsPlacedResult, OneIs}
use Rattle.air_ir.specs.Kinds.{Kind, ChecksResult, Patches, kind_of}
use Rattle.air_ir.specs.Meaning as air
use Rattle.air_ir.specs.Meaning.{World, asks, checks, checks_result, effect_of, meaning}
use Rattle.air_ir.specs.Operands.{Read, Target, targets, word_of, words}
use Rattle.air_ir.specs.Steps.{Outcome as Ran, State, go_on, steps}
use Rattle.air_ir.specs.Words.{Tested}
use Rattle.air_ir.specs.declared.op.AirOp.{AirOp}
use Rattle.air_ir.specs.declared.op.AirOp.TheVariants as op
use Rattle.air_ir.specs.declared.op.Test.TheVariants.{Bit, Compare, NonZero}
use Rattle.air_ir.specs.declared.operand.Arg.TheVariants.{At, Imm}
use Rattle.air_ir.specs.declared.operand.Home.TheVariants.{Reg, Tmp}
use Rattle.air_ir.specs.declared.operand.Operand.{Operand}
use Rattle.air_ir.specs.declared.procedure.AirInst.{AirInst}
use Rattle.air_ir.proofs.Stepping.{steps-append}
use Rattle.air_stackmap.specs.Described.{ComputesWith, IsSmall, Sums}
use Rattle.air_stackmap.specs.Running.{HaveWords, IsFree, StandsFree, moved_homes, reads_of}
use Rattle.air_stackmap.specs.SiteCode as sites
use Rattle.air_stackmap.specs.SiteCode.{changed, child_moves, patch_by, patch_op, patch_results, results_by, site_code, site_inst}
use Rattle.air_stackmap.specs.declared.child.Child.{Child}
use Rattle.air_stackmap.proofs.Expressed.{parts_fit}
use Rattle.air_stackmap.proofs.Reading.{changed_are_registers, inputs_read, site_reads, site_writes}
use Rattle.air_stackmap.proofs.Running.{moves_keep, moves_run}
use Rattle.air_fold.specs.Foldable.{bit_of, constant_fits, is_bit_test, is_comparison, is_constant, pointers, sum_fits, value_fits}
use Rattle.air_fold.specs.Values.{child, known, place, width_at}
use Rattle.air_select.specs.Selected.{Condition, Tables, arg_of, check_on, checked_of, child_of, condition, condition_of, folded_condition, folds, move, patched_from, patchpoint_of, register, result_from, result_of, use_of}
use Rattle.air_select.specs.Sited.{computed_count, is_site}
use Rattle.air_select.specs.Temporaries.{home}
use Rattle.air_select.proofs.Asking.{WritesNoTmp, asks_does, bare, over, own, target_in}
use Rattle.air_select.proofs.Calls.{child_at}
use Rattle.air_select.proofs.Children.{known_word, unfolded, width_is, word_small, words_cons, words_nil}
use Rattle.air_select.proofs.Deciding.{decides, Decides}
use Rattle.air_select.proofs.Does.{DoesSome, allows, are_words, at, here, words_here, Here}
use Rattle.air_select.proofs.Facts.{child_ran}
use Rattle.air_select.proofs.Instructions.{at_home, of_immediate, reads_none, reads_use, writes_def, writes_none}
use Rattle.air_select.proofs.Operands.{never_constant, no_sum}
use Rattle.air_select.proofs.Plain.{child_place, copying, is_condition, site_values, takes_values}
use Rattle.air_select.proofs.Related.{Related, kept_related}
use Rattle.air_select.proofs.SiteForms.{constraints_counted, map_site, sums_of, tests_here}
use Rattle.air_select.proofs.Leaving.{same_seen}
use Rattle.air_select.proofs.MapCode.{pick}
use Rattle.air_select.proofs.Sites.{all_of}
use Rattle.air_select.proofs.Tested.{IsTested}
use Rattle.b3_base.specs.Observed.{Start}
use Rattle.b3_ir.specs.Procedure.{Procedure}
use Rattle.b3_ir.specs.declared.value.Value.{Value}
use Rattle.stackmap.specs.Rules.{IsPlaceable}
use Rattle.air_stackmap.specs.Laws.{has_stackmap as has_map}

-- a use of a value reads a temporary or nothing
free_by : (f : Bool) (word n : ℕ) → IsFree (if f then Imm word else At (Tmp n))
free_by true word n = tt
free_by false word n = tt

free_use : (t : Tables) (id : ℕ) → IsFree (use_of t id).arg
free_use t id = free_by (folds t id) (known t.index id).word (3 * place t.index id)

unsigned_small : (k : Width) (number : ℤ) → is_signed k number ≡ true → unsigned k number < 2 ^ bits k
unsigned_small k (pos n) is = unsigned_in k (pos n) (let lt = ltb-true n (half_of k) is in omega arith)
unsigned_small k (negsuc n) is = unsigned_in k (negsuc n) tt

same_word : (ty : Ty) → (true && registers.has_word ty) ≡ has_word ty
same_word Void = refl
same_word Int32 = refl
same_word Int64 = refl

result_writes : (c : Constraint) (width : Width) (reg : Register)
    → targets (record { role = result_role c; width = width; arg = At (Reg reg) } ∷ []) ≡ record { home = Reg reg; width = width } ∷ []
unfolding targets
result_writes SomeEarlyRegister width reg = refl
result_writes _ width reg = refl

abbrev AreFree : List Operand → Type 0
AreFree os = All (λ (o : Operand). IsFree o.arg) os

free_one : (t : Tables) (id : ℕ) → AreFree (use_of t id ∷ [])
free_one t id = All-one (λ (o : Operand). IsFree o.arg) (use_of t id) (free_use t id)

free_two : (t : Tables) (a b : ℕ) → AreFree (use_of t a ∷ use_of t b ∷ [])
free_two t a b = All-two (λ (o : Operand). IsFree o.arg) (use_of t a) (use_of t b) (free_use t a) (free_use t b)

abbrev IsFreeCondition : Condition → Type 0
IsFreeCondition c = AreFree c.over

free_condition : (t : Tables) (id : ℕ) → IsFreeCondition (condition_of t id)
free_condition t id =
    let k = known t.index id in
    pick IsFreeCondition (folds t id) (folded_condition t id) (record { test = NonZero; over = use_of t id ∷ [] })
    (pick IsFreeCondition (is_comparison k.opcode)
    (record { test = Compare (condition k.opcode); over = use_of t k.first ∷ use_of t k.second ∷ [] })
    (record { test = Bit (bit_of (known t.index k.second).word); over = use_of t k.first ∷ [] })
    (free_two t k.first k.second) (free_one t k.first)) (free_one t id)

module _ (p : Procedure) (t : Tables) (start : Start) (v : Value) (h : Here p t start v) (has : has_map v.kind.opcode ≡ true) (placeable : IsPlaceable v)
    (junk : List ℕ) where
  site : is_site v.kind.opcode ≡ true
  site = map_site v.kind.opcode has

  -- ---- children

  -- a child that is no condition
  record IsReported (id : ℕ) : Type 0 where
    at : ℕ
    there : slice_get v.children at ≡ Some id
    other : is_condition v.kind.opcode at ≡ false

  -- it is not folded, and so it is found in its home, or as its word
  home_here : (id : ℕ) → IsReported id → folds t id ≡ false
  home_here id among =
      unfolded p h.valid t h.sound start h.block v (here p t start v h) among.at id among.there
      (λ k. site_values t.index (pointers p) v.kind.opcode among.at v.id k site among.other)
      (λ width word. never_constant v.kind.opcode among.at width word site) (no_sum t.index (pointers p) v.kind.opcode among.at v.id site)

  found : (id w : ℕ) → IsReported id → h.st.words id ≡ Some w
      → word_of h.s.homes (width_at t.index id) (sites.arg_of (child_of t id)) ≡ Some w
  found id w among now = by (is_constant (known t.index id).opcode) refl
    where
      by : (c : Bool) → is_constant (known t.index id).opcode ≡ c
          → word_of h.s.homes (width_at t.index id) (sites.arg_by (if c then Some (known t.index id).word else None) (home t.index id)) ≡ Some w
      by false other = at_home h.s.homes (width_at t.index id) (home t.index id) w (h.related.words id w now (home_here id among))
      by true const =
          let ran = child_ran p h.valid h.passed h.block h.before h.st h.reached v (at p t start v h) id
          (Contains-at v.children among.at id among.there) in
          let is = known_word p h.valid t h.sound start h.passed h.block h.before (v ∷ h.rest) h.stands h.st h.reached h.s h.related id w ran const now in
          let small = word_small p h.valid t h.sound start h.passed h.block h.before (v ∷ h.rest) h.stands h.st h.reached h.s h.related id w now in
          of_immediate h.s.homes (width_at t.index id) (known t.index id).word ∙ ap (λ n. Some (low (width_at t.index id) n)) is
          ∙ ap Some (low-same (width_at t.index id) w small)

  have_words : (ids ws : List ℕ) → ((id : ℕ) → Contains ids id → IsReported id) → b3.words_of (type_of p) h.st.words ids ≡ Some ws
      → HaveWords h.s.homes (map (child_of t) ids) ws
  unfolding HaveWords
  have_words [] ws among e = subst (HaveWords h.s.homes []) (sym (words_nil (type_of p) h.st.words ws e)) tt
  have_words (id ∷ ids) ws among e =
      let one = words_cons (type_of p) h.st.words id ids ws e in
      subst (HaveWords h.s.homes (map (child_of t) (id ∷ ids))) (sym one.2)
      (found id one.0 (among id (Contains-first id ids)) one.3, have_words ids one.1 (λ q has'. among q (Contains-later id ids q has')) one.4)

  read_words : (ids ws : List ℕ) → b3.words_of (type_of p) h.st.words ids ≡ Some ws → map (λ (x : Read). x.1) (reads_of (map (child_of t) ids) ws) ≡ ws
  unfolding reads_of
  read_words [] ws e = sym (words_nil (type_of p) h.st.words ws e)
  read_words (id ∷ ids) ws e =
      let one = words_cons (type_of p) h.st.words id ids ws e in
      subst (λ (l : List ℕ). map (λ (x : Read). x.1) (reads_of (map (child_of t) (id ∷ ids)) l) ≡ l) (sym one.2)
      (ap (λ (l : List ℕ). one.0 ∷ l) (read_words ids one.1 one.4))

  read_widths : (ids ws : List ℕ) → b3.words_of (type_of p) h.st.words ids ≡ Some ws
      → map (λ (x : Read). x.0) (reads_of (map (child_of t) ids) ws) ≡ map width_of (map (type_of p) ids)
  unfolding reads_of
  read_widths [] ws e = refl
  read_widths (id ∷ ids) ws e =
      let one = words_cons (type_of p) h.st.words id ids ws e in
      let width : width_at t.index id ≡ width_of (type_of p id) =
      width_is p h.valid t h.sound start h.passed h.block h.before (v ∷ h.rest) h.stands h.st h.reached h.s h.related id in
      subst (λ (l : List ℕ). map (λ (x : Read). x.0) (reads_of (map (child_of t) (id ∷ ids)) l) ≡ map width_of (map (type_of p) (id ∷ ids))) (sym one.2)
      (ap (λ (l : List Width). width_at t.index id ∷ l) (read_widths ids one.1 one.4) ∙ ap (λ (k : Width). k ∷ map width_of (map (type_of p) ids)) width)

  -- ---- the moves

  all_free : (ids : List ℕ) → All StandsFree (map (child_of t) ids)
  all_free ids = All-map StandsFree (child_of t) ids (all_of (λ id. StandsFree (child_of t id)) (λ id none. tt) ids)

  module _ (ids ws : List ℕ) (among : (id : ℕ) → Contains ids id → IsReported id) (counts : length ids ≡ length (constraints_of v))
      (now : b3.words_of (type_of p) h.st.words ids ≡ Some ws) where
    abbrev cs : List Child
    cs = map (child_of t) ids

    abbrev shown : List Read
    shown = reads_of cs ws

    moved : State
    moved = record { homes = moved_homes v 0 cs ws h.s.homes; world = h.s.world }

    moved_related : Related p t start h.st moved
    unfolding moved
    moved_related =
        kept_related p t start h.st h.st h.s moved h.related (λ n. moves_keep v 0 cs ws h.s.homes (Tmp n) tt) refl refl h.related.memory h.related.events
        h.related.answers

    -- after the moves the instruction of the site runs
    runs : (i : AirInst) (more : List AirInst) → steps (meaning start) (child_moves v cs ++ i ∷ more) h.s junk ≡ steps (meaning start) (i ∷ more) moved junk
    unfolding moved
    runs i more =
        steps-append (meaning start) (child_moves v cs) (i ∷ more) h.s junk
        ∙ ap (go_on (meaning start) (steps (meaning start) (i ∷ more)))
        (moves_run (meaning start) v (λ rs w. copying p t start v h op.Move v.id rs w refl) 0 cs ws h.s junk (all_free ids) (have_words ids ws among now))

    cs_counted : length cs ≡ length (constraints_of v)
    cs_counted = length-map ids (child_of t) ∙ counts

    -- it reads the words of its inputs, and those of the children in order
    site_words : (o : AirOp) (inputs results : List Operand) (ins : List Read) → ComputesWith v o inputs results → AreFree inputs
        → words h.s.homes inputs ≡ Some ins → words moved.homes (site_inst v o inputs cs results).operands ≡ Some (ins ++ shown)
    unfolding moved
    site_words o inputs results ins computes free reads =
        site_reads v placeable.stackmap placeable.carries placeable o inputs cs results ins ws h.s.homes computes cs_counted (all_free ids)
        (have_words ids ws among now) (inputs_read v cs ws h.s.homes inputs free ∙ reads)

    quiet : WritesNoTmp (targets (changed v))
    quiet n at = changed_are_registers v (Tmp n) tt at

    -- ---- patchpoints

    patch_means : (typed : Bool) (w : World) → kind_of (patch_op v) ≡ Patches typed
        → meaning start (record { op = patch_op v; value = v.id; traps = false }) shown w ≡ asks (event.Patch v.id) typed shown w
    unfolding meaning
    patch_means typed w kind =
        ap (λ (k : Kind). effect_of k start (record { op = patch_op v; value = v.id; traps = false }) (air.width_of shown) shown
        (map (λ (x : Read). x.1) shown) w) kind

    patched_with : (reg : ℕ) → has_result v ≡ has_word v.ty → targets (patch_results v) ≡ target_in v.ty reg → ComputesWith v (patch_op v) [] (patch_results v)
        → kind_of (patch_op v) ≡ Patches (has_result v)
        → DoesSome p t start v (b3.patches h.st v (map (type_of p) ids) ws)
        (steps (meaning start) (child_moves v cs ++ site_inst v (patch_op v) [] cs (patch_results v) ∷ result_from t v reg) h.s junk)
    unfolding moved
    patched_with reg typed result computes kind =
        let i = site_inst v (patch_op v) [] cs (patch_results v) in
        let ts = targets (changed v) in
        subst (λ (o : Ran × List ℕ). DoesSome p t start v (b3.patches h.st v (map (type_of p) ids) ws) o) (sym (runs i (result_from t v reg)))
        (asks_does p t start v h moved moved_related junk i shown
        (site_words (patch_op v) [] (patch_results v) [] computes (All-nil (λ (o : Operand). IsFree o.arg)) (reads_none h.s.homes)) shown
        (event.Patch v.id) (map (type_of p) ids) ws reg ts
        (patch_means (has_word v.ty) h.s.world (kind ∙ ap Patches typed)) (read_words ids ws now) (read_widths ids ws now)
        (site_writes v (patch_op v) [] cs (patch_results v) computes ∙ ap (λ (l : List Target). ts ++ l) result) quiet)

    -- ---- checks of a result

    module _ (o : AirOp) (kind : Checked) (inputs : List Operand) (x y : ℕ) (k : Width) (is_kind : kind_of o ≡ ChecksResult kind)
        (computes : ComputesWith v o inputs (result_of t v ∷ [])) (free : AreFree inputs) (own_width : width_of v.ty ≡ k)
        (reads : words h.s.homes inputs ≡ Some ((k, x) ∷ (k, y) ∷ [])) where
      number : ℤ
      number = b3.checked_result kind (signed k x) (signed k y)

      sum_means : (w : World)
          → meaning start (record { op = o; value = v.id; traps = false }) ((k, x) ∷ (k, y) ∷ shown) w ≡ air.checked v.id k number ws w
      unfolding meaning number
      sum_means w =
          ap (λ (q : Kind). effect_of q start (record { op = o; value = v.id; traps = false }) k ((k, x) ∷ (k, y) ∷ shown)
          (x ∷ y ∷ map (λ (z : Read). z.1) shown) w) is_kind
          ∙ ap (λ (l : List ℕ). checks_result v.id kind k (x ∷ y ∷ l) w) (read_words ids ws now)

      sum_does : DoesSome p t start v (b3.checked h.st v (b3.checked_result kind (signed (width_of v.ty) x) (signed (width_of v.ty) y)) ws)
          (steps (meaning start) (site_code v o inputs cs (result_of t v ∷ [])) h.s junk)
      unfolding moved number
      sum_does =
          let i = site_inst v o inputs cs (result_of t v ∷ []) in
          subst (λ (q : Width). DoesSome p t start v (if is_signed q (b3.checked_result kind (signed q x) (signed q y))
          then b3.Next (b3.with_word h.st v.id (unsigned q (b3.checked_result kind (signed q x) (signed q y)))) else b3.ends h.st (Exited v.id ws))
          (steps (meaning start) (site_code v o inputs cs (result_of t v ∷ [])) h.s junk)) (sym own_width)
          (subst (λ (out : Ran × List ℕ). DoesSome p t start v (if is_signed k number then b3.Next (b3.with_word h.st v.id (unsigned k number))
          else b3.ends h.st (Exited v.id ws)) out) (sym (runs i []))
          (by (is_signed k number) refl))
        where
          read_all : words moved.homes (site_inst v o inputs cs (result_of t v ∷ [])).operands ≡ Some ((k, x) ∷ (k, y) ∷ shown)
          read_all = site_words o inputs (result_of t v ∷ []) ((k, x) ∷ (k, y) ∷ []) computes free reads

          by : (fits : Bool) → is_signed k number ≡ fits
              → DoesSome p t start v (if fits then b3.Next (b3.with_word h.st v.id (unsigned k number)) else b3.ends h.st (Exited v.id ws))
              (steps (meaning start) (site_inst v o inputs cs (result_of t v ∷ []) ∷ []) moved junk)
          by true fits =
              own p t start v h moved moved_related junk (site_inst v o inputs cs (result_of t v ∷ [])) ((k, x) ∷ (k, y) ∷ shown) read_all
              (targets (changed v)) quiet h.st h.s.world refl refl h.related.memory h.related.events h.related.answers k own_width (unsigned k number)
              (unsigned_small k number fits)
              (site_writes v o inputs cs (result_of t v ∷ []) computes
              ∙ ap (λ (l : List Target). targets (changed v) ++ l) (writes_def (width_of v.ty) (home t.index v.id))
              ∙ ap (λ (q : Width). targets (changed v) ++ record { home = home t.index v.id; width = q } ∷ []) own_width)
              (sum_means h.s.world ∙ ap (λ b. if b then air.gives h.s.world (unsigned k number ∷ []) else air.ends h.s.world (Exited v.id ws)) fits)
          by false fits =
              over p t start v h moved moved_related junk (site_inst v o inputs cs (result_of t v ∷ [])) ((k, x) ∷ (k, y) ∷ shown) read_all
              [] h.s.world (Exited v.id ws) (b3.seen_as h.st (Exited v.id ws))
              (sum_means h.s.world ∙ ap (λ b. if b then air.gives h.s.world (unsigned k number ∷ []) else air.ends h.s.world (Exited v.id ws)) fits)
              (same_seen p t start v h junk (Exited v.id ws))

    -- ---- checks of a condition

    module _ (c : Condition) (word : ℕ) (d : Decides h.s.homes c word) (computes : ComputesWith v (op.CheckIf c.test) c.over []) (free : AreFree c.over) where
      test_means : (w : World)
          → meaning start (record { op = op.CheckIf c.test; value = v.id; traps = false }) (d.reads ++ shown) w
          ≡ checks v.id (Some (not (nat_eq word 0), ws)) w
      unfolding meaning
      test_means w =
          ap (λ (o : Option Tested). checks v.id o w) (d.tells shown ∙ ap (λ (l : List ℕ). Some (not (nat_eq word 0), l)) (read_words ids ws now))

      over_reads : words h.s.homes c.over ≡ Some d.reads
      over_reads =
          ap (words h.s.homes) (sym (append-nil c.over)) ∙ d.words_are [] [] (reads_none h.s.homes) ∙ ap Some (append-nil d.reads)

      test_does : DoesSome p t start v (b3.checks h.st v (word ∷ ws)) (steps (meaning start) (site_code v (op.CheckIf c.test) c.over cs []) h.s junk)
      unfolding moved
      test_does =
          subst (λ (out : Ran × List ℕ). DoesSome p t start v (if nat_eq word 0 then b3.Next h.st else b3.ends h.st (Exited v.id ws)) out)
          (sym (runs (site_inst v (op.CheckIf c.test) c.over cs []) []))
          (by (nat_eq word 0) refl)
        where
          read_all : words moved.homes (site_inst v (op.CheckIf c.test) c.over cs []).operands ≡ Some (d.reads ++ shown)
          read_all = site_words (op.CheckIf c.test) c.over [] d.reads computes free over_reads

          by : (zero_ : Bool) → nat_eq word 0 ≡ zero_
              → DoesSome p t start v (if zero_ then b3.Next h.st else b3.ends h.st (Exited v.id ws))
              (steps (meaning start) (site_inst v (op.CheckIf c.test) c.over cs [] ∷ []) moved junk)
          by true is =
              bare p t start v h moved moved_related junk (site_inst v (op.CheckIf c.test) c.over cs []) (d.reads ++ shown) read_all
              (targets (changed v)) quiet h.st h.s.world refl refl h.related.memory h.related.events h.related.answers
              (site_writes v (op.CheckIf c.test) c.over cs [] computes ∙ ap (λ (l : List Target). targets (changed v) ++ l) writes_none)
              (test_means h.s.world ∙ ap (λ b. checks v.id (Some (not b, ws)) h.s.world) is)
          by false is =
              over p t start v h moved moved_related junk (site_inst v (op.CheckIf c.test) c.over cs []) (d.reads ++ shown) read_all
              [] h.s.world (Exited v.id ws) (b3.seen_as h.st (Exited v.id ws))
              (test_means h.s.world ∙ ap (λ b. checks v.id (Some (not b, ws)) h.s.world) is)
              (same_seen p t start v h junk (Exited v.id ws))

  -- ---- what is left of each opcode

  -- each child is reported where none is a condition
  all_reported : ((i : ℕ) → is_condition v.kind.opcode i ≡ false) → (id : ℕ) → Contains v.children id → IsReported id
  all_reported other id has' =
      let place = child_place v.children id has' in record { at = place.0; there = place.1; other = other place.0 }

  counts_here : (n : ℕ) → computed_count v.kind.opcode ≡ n → length (drop n v.children) ≡ length (constraints_of v)
  counts_here n is =
      subst (λ m. length (drop m v.children) ≡ length (constraints_of v)) is
      (constraints_counted p h.valid h.block v (here p t start v h) has)

  patch_is : patch_op v ≡ op.Patch (placeable.stackmap).size (has_result v)
  patch_is = ap (patch_by v) placeable.carries

  patch_computes : ComputesWith v (patch_op v) [] (patch_results v)
  patch_computes = subst (λ (o : AirOp). ComputesWith v o [] (patch_results v)) (sym patch_is) (refl, refl)

  results_are : (r : Option Register) → result_register v ≡ r → patch_results v ≡ result_in placeable.stackmap v r
  results_are r e = ap (results_by v) placeable.carries ∙ ap (result_in placeable.stackmap v) e

  -- the register of the result, where there is one
  record PatchedAs : Type 0 where
    reg : ℕ
    from : patched_from t v (result_register v) ≡ result_from t v reg
    into : targets (patch_results v) ≡ target_in v.ty reg

  patched_as : v.kind.opcode ≡ opcode.Patchpoint → has_result v ≡ has_word v.ty → PatchedAs
  patched_as eo typed = by (result_register v) refl (has_word v.ty) refl
    where
      none_there : has_word v.ty ≡ true → result_register v ≡ None → ⊥
      none_there some e =
          let parts = parts_fit v placeable.stackmap placeable.carries placeable (op.Patch (placeable.stackmap).size (has_result v)) [] [] (patch_results v)
          (eo, refl, refl) (refl, refl) (All-nil IsSmall) in
          subst (λ (os : List Operand). OneIs true (IsPlacedResult parts.width) os) (results_are None e)
          (subst (λ b. OneIs b (IsPlacedResult parts.width) (patch_results v)) (typed ∙ some) parts.result)

      some_there : (reg : Register) → has_word v.ty ≡ false → result_register v ≡ Some reg → ⊥
      some_there reg none e =
          let never : result_register v ≡ None = rw (typed ∙ none) refl in
          let bad : Some reg ≡ None = sym e ∙ never in cc

      by : (r : Option Register) → result_register v ≡ r → (some : Bool) → has_word v.ty ≡ some → PatchedAs
      by (Some reg) e true some = record {
        reg = reg.0;
        from = ap (patched_from t v) e
            ∙ ap (λ b. if b then move v (width_of v.ty) (At (Reg reg)) (home t.index v.id) ∷ [] else []) (sym some);
        into = ap targets (results_are (Some reg) e) ∙ result_writes (placeable.stackmap).result (width_of v.ty) reg
            ∙ ap (λ b. if b then record { home = Reg reg; width = width_of v.ty } ∷ [] else []) (sym some);
      }
      by (Some reg) e false none = absurd (some_there reg none e)
      by None e true some = absurd (none_there some e)
      by None e false none = record {
        reg = 0;
        from = ap (patched_from t v) e ∙ ap (λ b. if b then move v (width_of v.ty) (At (register 0)) (home t.index v.id) ∷ [] else []) (sym none);
        into = ap targets (results_are None e) ∙ writes_none
            ∙ ap (λ b. if b then record { home = register 0; width = width_of v.ty } ∷ [] else []) (sym none);
      }

  pub patch_does : v.kind.opcode ≡ opcode.Patchpoint
      → DoesSome p t start v (b3.patches h.st v (types_of p v) (words_here p t start v h)) (steps (meaning start) (patchpoint_of t v) h.s junk)
  patch_does eo =
      let typed : has_result v ≡ has_word v.ty = ap (λ (o : Opcode). is_patchpoint o && registers.has_word v.ty) eo ∙ same_word v.ty in
      let as_it_is = patched_as eo typed in
      let ids = v.children in
      let cs : List Child = map (child_of t) ids in
      let i = site_inst v (patch_op v) [] cs (patch_results v) in
      let code : patchpoint_of t v ≡ child_moves v cs ++ i ∷ result_from t v as_it_is.reg =
      append_assoc (child_moves v cs) (i ∷ []) (patched_from t v (result_register v))
      ∙ ap (λ (l : List AirInst). child_moves v cs ++ i ∷ l) as_it_is.from in
      subst (λ (l : List AirInst). DoesSome p t start v (b3.patches h.st v (types_of p v) (words_here p t start v h)) (steps (meaning start) l h.s junk))
      (sym code)
      (patched_with ids (words_here p t start v h) (all_reported (λ i. ap (λ (o : Opcode). is_condition o i) eo)) (counts_here 0 (ap computed_count eo)) (are_words p t start v h) as_it_is.reg typed
      as_it_is.into patch_computes (ap kind_of patch_is))

  tested_with : v.kind.opcode ≡ opcode.Check → (cs ws : List ℕ) → v.children ≡ cs → (alike : Ty) → AreTaken alike (Any ∷ []) Reported (map (type_of p) cs)
      → b3.words_of (type_of p) h.st.words cs ≡ Some ws
      → DoesSome p t start v (b3.checks h.st v ws)
      (steps (meaning start) (site_code v (op.CheckIf (condition_of t (child cs 0)).test) (condition_of t (child cs 0)).over (map (child_of t) (drop 1 cs)) [])
      h.s junk)
  tested_with eo [] ws is alike taken e = absurd taken
  tested_with eo (c ∷ cs) ws is alike taken e =
      let one = words_cons (type_of p) h.st.words c cs ws e in
      let first : slice_get v.children 0 ≡ Some c = ap (λ (l : List ℕ). slice_get l 0) is in
      let tests = tests_here p h.valid t h.sound h.block v (here p t start v h) eo in
      let tested = subst (λ (l : List ℕ). IsTested (condition_of t (child l 0))) is tests in
      let d = decides p t start v h c one.0 first (Contains-at v.children 0 c first) one.3 (λ width word. ap (λ (q : Opcode). constant_fits q 0 width word) eo)
      (ap (λ (q : Opcode). sum_fits t.index (pointers p) q 0 v.id) eo)
      (λ k fits. or_cases (is_comparison k.opcode) (is_bit_test t.index k)
      (sym (ap (λ (q : Opcode). value_fits t.index (pointers p) q 0 v.id k) eo) ∙ fits)) in
      subst (λ (l : List ℕ). DoesSome p t start v (b3.checks h.st v l)
      (steps (meaning start) (site_code v (op.CheckIf (condition_of t c).test) (condition_of t c).over (map (child_of t) cs) []) h.s junk)) (sym one.2)
      (test_does cs one.1 behind
      (subst (λ (l : List ℕ). length (drop 1 l) ≡ length (constraints_of v)) is (counts_here 1 (ap computed_count eo))) one.4
      (condition_of t c) one.0 d (tested.0, tested.1, refl) (free_condition t c))
    where
      behind : (id : ℕ) → Contains cs id → IsReported id
      behind id has' =
          let place = child_place cs id has' in
          record {
            at = suc place.0;
            there = ap (λ (l : List ℕ). slice_get l (suc place.0)) is ∙ place.1;
            other = ap (λ (o : Opcode). is_condition o (suc place.0)) eo;
          }

  pub check_does : v.kind.opcode ≡ opcode.Check
      → DoesSome p t start v (b3.checks h.st v (words_here p t start v h))
      (steps (meaning start) (check_on t v (condition_of t (child v.children 0))) h.s junk)
  check_does eo =
      let row = subst (λ (q : Opcode). AllowsTypes q v.ty (types_of p v)) eo (allows p t start v h) in
      tested_with eo v.children (words_here p t start v h) refl row.alike row.children (are_words p t start v h)

  summed_with : (o : AirOp) (kind : Checked) → kind_of o ≡ ChecksResult kind
      → (inputs_fit : (inputs results : List Operand) → Sums inputs results → ComputesWith v o inputs results)
      → computed_count v.kind.opcode ≡ 2 → takes_values v.kind.opcode ≡ false → ((i : ℕ) → is_condition v.kind.opcode i ≡ false)
      → Sums (use_of t (child v.children 0) ∷ use_of t (child v.children 1) ∷ []) (result_of t v ∷ [])
      → (cs ws : List ℕ) → v.children ≡ cs → (alike : Ty) → AreTaken alike (Alike ∷ Alike ∷ []) Reported (map (type_of p) cs) → v.ty ≡ alike
      → b3.words_of (type_of p) h.st.words cs ≡ Some ws
      → DoesSome p t start v (b3.checks_result h.st v kind ws)
      (steps (meaning start) (site_code v o (use_of t (child cs 0) ∷ use_of t (child cs 1) ∷ []) (map (child_of t) (drop 2 cs)) (result_of t v ∷ [])) h.s junk)
  summed_with o kind is_kind inputs_fit two plain none sums [] ws is alike taken gives e = absurd taken
  summed_with o kind is_kind inputs_fit two plain none sums (c ∷ []) ws is alike taken gives e = absurd taken.1
  summed_with o kind is_kind inputs_fit two plain none sums (c ∷ c' ∷ cs) ws is alike taken gives e =
      let one = words_cons (type_of p) h.st.words c (c' ∷ cs) ws e in
      let other = words_cons (type_of p) h.st.words c' cs one.1 one.4 in
      let k = width_of alike in
      let among : (id : ℕ) → Contains (c ∷ c' ∷ cs) id → Contains v.children id = λ id has'. subst (λ (l : List ℕ). Contains l id) (sym is) has' in
      let width : (id : ℕ) → type_of p id ≡ alike → width_at t.index id ≡ k =
      λ id typed. width_is p h.valid t h.sound start h.passed h.block h.before (v ∷ h.rest) h.stands h.st h.reached h.s h.related id ∙ ap width_of typed in
      let first = child_at p t start v h plain junk h.s h.related c one.0 (among c (Contains-first c (c' ∷ cs))) one.3 in
      let second = child_at p t start v h plain junk h.s h.related c' other.0 (among c' (Contains-later c (c' ∷ cs) c' (Contains-first c' cs))) other.3 in
      let inputs : List Operand = use_of t c ∷ use_of t c' ∷ [] in
      let reads : words h.s.homes inputs ≡ Some ((k, one.0) ∷ (k, other.0) ∷ []) =
      reads_use h.s.homes (width_at t.index c) (arg_of t c) (use_of t c' ∷ []) one.0 ((width_at t.index c', other.0) ∷ []) first
      (reads_use h.s.homes (width_at t.index c') (arg_of t c') [] other.0 [] second (reads_none h.s.homes))
      ∙ ap (λ (q : Width). Some ((q, one.0) ∷ (width_at t.index c', other.0) ∷ [])) (width c taken.0)
      ∙ ap (λ (q : Width). Some ((k, one.0) ∷ (q, other.0) ∷ [])) (width c' taken.1.0) in
      let computes = inputs_fit inputs (result_of t v ∷ [])
      (subst (λ (l : List ℕ). Sums (use_of t (child l 0) ∷ use_of t (child l 1) ∷ []) (result_of t v ∷ [])) is sums) in
      subst (λ (l : List ℕ). DoesSome p t start v (b3.checks_result h.st v kind l)
      (steps (meaning start) (site_code v o inputs (map (child_of t) cs) (result_of t v ∷ [])) h.s junk)) (sym (one.2 ∙ ap (λ (l : List ℕ). one.0 ∷ l) other.2))
      (sum_does cs other.1 (λ id has'. all_reported none id (among id (Contains-later c (c' ∷ cs) id (Contains-later c' cs id has'))))
      (subst (λ (l : List ℕ). length (drop 2 l) ≡ length (constraints_of v)) is (counts_here 2 two)) other.4
      o kind inputs one.0 other.0 k is_kind computes (free_two t c c') (ap width_of gives) reads)

  abbrev Checks : AirOp → Checked → Type 0
  Checks o kind =
      DoesSome p t start v (b3.checks_result h.st v kind (words_here p t start v h)) (steps (meaning start) (checked_of t v o) h.s junk)

  pub add_does : v.kind.opcode ≡ opcode.CheckAdd → Checks op.CheckAdd Sum
  add_does eo =
      let row = subst (λ (q : Opcode). AllowsTypes q v.ty (types_of p v)) eo (allows p t start v h) in
      summed_with op.CheckAdd Sum refl (λ inputs results sums. sums) (ap computed_count eo) (ap takes_values eo) (λ i. ap (λ (o : Opcode). is_condition o i) eo)
      (sums_of p h.valid t h.sound h.block v (here p t start v h) opcode.CheckAdd eo (inl refl))
      v.children (words_here p t start v h) refl row.alike row.children row.gives (are_words p t start v h)

  pub sub_does : v.kind.opcode ≡ opcode.CheckSub → Checks op.CheckSub Difference
  sub_does eo =
      let row = subst (λ (q : Opcode). AllowsTypes q v.ty (types_of p v)) eo (allows p t start v h) in
      summed_with op.CheckSub Difference refl (λ inputs results sums. sums) (ap computed_count eo) (ap takes_values eo) (λ i. ap (λ (o : Opcode). is_condition o i) eo)
      (sums_of p h.valid t h.sound h.block v (here p t start v h) opcode.CheckSub eo (inr (inl refl)))
      v.children (words_here p t start v h) refl row.alike row.children row.gives (are_words p t start v h)

  pub mul_does : v.kind.opcode ≡ opcode.CheckMul → Checks op.CheckMul Product
  mul_does eo =
      let row = subst (λ (q : Opcode). AllowsTypes q v.ty (types_of p v)) eo (allows p t start v h) in
      summed_with op.CheckMul Product refl (λ inputs results sums. sums) (ap computed_count eo) (ap takes_values eo) (λ i. ap (λ (o : Opcode). is_condition o i) eo)
      (sums_of p h.valid t h.sound h.block v (here p t start v h) opcode.CheckMul eo (inr (inr refl)))
      v.children (words_here p t start v h) refl row.alike row.children row.gives (are_words p t start v h)
