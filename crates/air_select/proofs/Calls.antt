-- Calls: the arguments are put into registers, and the callee is asked.
use Rattle.std.proofs.Common.{◌≡◌, ℕ, suc, ◌<◌, Bool, true, false, List, [], ◌∷◌, ◌++◌, Some, None, map, drop, append-nil, refl, sym, ap, ◌∙◌, subst, arith}
use Rattle.std.specs.Prelude.{Contains, if◌then◌else◌}
use Rattle.b3_base.proofs.Lists.{Contains-first, Contains-later}
use Rattle.b3_base.specs.declared.event.EventKind.TheVariants as event
use Rattle.b3_base.specs.declared.word.Width.{Width}
use Rattle.b3_base.specs.declared.word.Width.TheVariants.{W32, W64}
use Rattle.b3_ir.specs.Naming.{type_of}
use Rattle.b3_ir.specs.Types.{AllowsTypes, AreTaken, has_word, width_of}
use Rattle.b3_ir.specs.declared.opcode.Opcode.{Opcode}
use Rattle.b3_ir.specs.declared.opcode.Opcode.TheVariants as opcode
use Rattle.b3_ir.specs.declared.opcode.Ty.{Ty}
use Rattle.b3_ir.specs.declared.opcode.Ty.TheVariants.{Void, Int32, Int64}
use Rattle.b3_ir.specs.declared.table.More.TheVariants.{Arguments}
use Rattle.b3_ir.specs.declared.table.Takes.TheVariants.{This}
use Rattle.b3_meaning.specs.Opcodes.{CallIntoCode}
use Rattle.b3_meaning.specs.Run as b3
use Rattle.b3_rules.specs.Rules.{types_of}
use Rattle.air_ir.specs.Forms.{call_clobbers, operand_in}
use Rattle.air_ir.specs.Meaning.{World, asks, meaning}
use Rattle.air_ir.specs.Operands.{Held, Holds, Homes, Read, Target, read, targets, word_of, words}
use Rattle.air_ir.specs.Steps.{Goes, Outcome as Ran, State, step, steps}
use Rattle.air_ir.specs.declared.op.AirOp.TheVariants as op
use Rattle.air_ir.specs.declared.operand.Arg.TheVariants.{At}
use Rattle.air_ir.specs.declared.operand.Home.{Home}
use Rattle.air_ir.specs.declared.operand.Operand.{Operand}
use Rattle.air_ir.specs.declared.operand.Role.TheVariants.{Clobber}
use Rattle.air_ir.specs.declared.procedure.AirInst.{AirInst}
use Rattle.air_ir.proofs.Stepping.{steps-one}
use Rattle.air_select.specs.Selected.{Tables, arg_of, arguments_at, arguments_into, call_of, call_to, def_at, move, register, result_from, result_into}
use Rattle.air_fold.specs.Foldable.{pointers}
use Rattle.air_fold.specs.Values.{child, width_at}
use Rattle.air_select.proofs.Asking.{WritesNoTmp, asks_does, no_tmp_none, no_tmp_register, target_in}
use Rattle.air_select.proofs.Children.{child_word, readable, width_is, word_small, words_cons, words_nil}
use Rattle.air_select.proofs.Copied.{moved}
use Rattle.air_select.proofs.Does.{DoesSome, allows, are_words, at, here, words_here, Here}
use Rattle.air_select.proofs.Facts.{child_ran}
use Rattle.air_select.proofs.Instructions.{at_home, reads_def, reads_none, reads_use, steps_first, with_home, writes_def, writes_none, writes_use}
use Rattle.air_select.proofs.Plain.{child_place, no_value, reads, reads_words, takes_values}
use Rattle.air_select.proofs.Related.{Related, holds_word, kept_related, put_register, register_here, register_there}
use Rattle.b3_base.specs.Observed.{Start}
use Rattle.b3_ir.specs.Procedure.{Procedure}
use Rattle.b3_ir.specs.declared.value.Value.{Value}

-- ---- operands

-- a register that is changed isn't read
reads_changed : (homes : Homes) (rs : List ℕ) (os : List Operand) → words homes (map (operand_in Clobber W64) rs ++ os) ≡ words homes os
unfolding words
reads_changed homes [] os = refl
reads_changed homes (r ∷ rs) os = reads_changed homes rs os

reads_into : (homes : Homes) (width : Width) (to : Home) (some : Bool) → words homes (if some then def_at width to ∷ [] else []) ≡ Some []
reads_into homes width to true = reads_def homes width to
reads_into homes width to false = reads_none homes

abbrev pub changed : List ℕ → List Target
changed rs = map (λ r. record { home = register r; width = W64 }) rs

writes_changed : (rs : List ℕ) (os : List Operand) → targets (map (operand_in Clobber W64) rs ++ os) ≡ changed rs ++ targets os
unfolding targets
writes_changed [] os = refl
writes_changed (r ∷ rs) os = ap (λ (l : List Target). record { home = register r; width = W64 } ∷ l) (writes_changed rs os)

no_tmp_changed : (rs : List ℕ) → WritesNoTmp (changed rs)
no_tmp_changed [] = no_tmp_none
no_tmp_changed (r ∷ rs) = no_tmp_register r W64 (changed rs) (no_tmp_changed rs)

writes_into : (ty : Ty) (r : ℕ) → targets (if has_word ty then def_at (width_of ty) (register r) ∷ [] else []) ≡ target_in ty r
writes_into Void r = writes_none
writes_into Int32 r = writes_def W32 (register r)
writes_into Int64 r = writes_def W64 (register r)

writes_arguments : (t : Tables) (r : ℕ) (cs : List ℕ) (os : List Operand) → targets (arguments_at t r cs ++ os) ≡ targets os
writes_arguments t r [] os = refl
writes_arguments t r (c ∷ cs) os =
    writes_use (width_at t.index c) (At (register r)) (arguments_at t (suc r) cs ++ os) ∙ writes_arguments t (suc r) cs os

module _ (p : Procedure) (t : Tables) (start : Start) (v : Value) (h : Here p t start v) where
  -- the widths of what is read are those of the types
  pub reads_widths : (cs ws : List ℕ) → b3.words_of (type_of p) h.st.words cs ≡ Some ws
      → map (λ (x : Read). x.0) (reads p t start v h cs ws) ≡ map width_of (map (type_of p) cs)
  reads_widths [] ws e = ap (λ (l : List ℕ). map (λ (x : Read). x.0) (reads p t start v h [] l)) (words_nil (type_of p) h.st.words ws e)
  reads_widths (c ∷ cs) ws e =
      let one = words_cons (type_of p) h.st.words c cs ws e in
      let width : width_at t.index c ≡ width_of (type_of p c) =
      width_is p h.valid t h.sound start h.passed h.block h.before (v ∷ h.rest) h.stands h.st h.reached h.s h.related c in
      subst (λ (l : List ℕ). map (λ (x : Read). x.0) (reads p t start v h (c ∷ cs) l) ≡ map width_of (map (type_of p) (c ∷ cs))) (sym one.2)
      (ap (λ (l : List Width). width_at t.index c ∷ l) (reads_widths cs one.1 one.4)
      ∙ ap (λ (k : Width). k ∷ map width_of (map (type_of p) cs)) width)

  module _ (plain : takes_values v.kind.opcode ≡ false) (junk : List ℕ) where
    -- a child is read in any related state
    pub child_at : (s : State) → Related p t start h.st s → (c w : ℕ) → Contains v.children c → h.st.words c ≡ Some w
        → word_of s.homes (width_at t.index c) (arg_of t c) ≡ Some w
    child_at s r c w has now =
        let place = child_place v.children c has in
        child_word p h.valid t h.sound start h.passed h.block h.before (v ∷ h.rest) h.stands h.st h.reached s r c w
        (child_ran p h.valid h.passed h.block h.before h.st h.reached v (at p t start v h) c has)
        (readable p h.valid t h.sound start h.block v (here p t start v h) place.0 c place.1
        (λ k. no_value t.index (pointers p) v.kind.opcode place.0 v.id k plain)) now

    -- the moves of arguments go on to a related state, in which they are read in their registers
    pub record Loaded (r : ℕ) (cs ws : List ℕ) (s : State) : Type 0 where
      pub next : State
      pub runs : (is : List AirInst) → steps (meaning start) (arguments_into t v r cs ++ is) s junk ≡ steps (meaning start) is next junk
      pub related : Related p t start h.st next
      pub below : (k : ℕ) → k < r → next.homes (register k) ≡ s.homes (register k)
      pub read_there : (os : List Operand) (more : List Read) → words next.homes os ≡ Some more
          → words next.homes (arguments_at t r cs ++ os) ≡ Some (reads p t start v h cs ws ++ more)

    pub loaded : (cs ws : List ℕ) (r : ℕ) (s : State) → Related p t start h.st s → ((id : ℕ) → Contains cs id → Contains v.children id)
        → b3.words_of (type_of p) h.st.words cs ≡ Some ws → Loaded r cs ws s
    loaded [] ws r s rel among e = record {
      next = s;
      runs = λ is. refl;
      related = rel;
      below = λ k lt. refl;
      read_there = λ os more f. f ∙ ap (λ (l : List ℕ). Some (reads p t start v h [] l ++ more)) (sym (words_nil (type_of p) h.st.words ws e));
    }
    loaded (c ∷ cs) ws r s rel among e =
        let one = words_cons (type_of p) h.st.words c cs ws e in
        let width = width_at t.index c in
        let held : Held = Holds width one.0 in
        let copy = move v width (arg_of t c) (register r) in
        let after = with_home s (register r) width one.0 in
        let small = word_small p h.valid t h.sound start h.passed h.block h.before (v ∷ h.rest) h.stands h.st h.reached h.s h.related c one.0 one.3 in
        let rel' : Related p t start h.st after =
        kept_related p t start h.st h.st s after rel (λ n. put_register s.homes r n held) refl refl rel.memory rel.events rel.answers in
        let copied : step (meaning start) copy s junk ≡ (Goes None after, junk) =
        sym (steps-one (meaning start) copy s junk)
        ∙ moved p t start v h s junk width (arg_of t c) (register r) one.0 (child_at s rel c one.0 (among c (Contains-first c cs)) one.3) in
        let rest = loaded cs one.1 (suc r) after rel' (λ id has. among id (Contains-later c cs id has)) one.4 in
        let there : rest.next.homes (register r) ≡ held = rest.below r (omega arith) ∙ register_here s.homes r held in
        record {
          next = rest.next;
          runs = λ is. steps_first start copy (arguments_into t v (suc r) cs ++ is) s after junk copied ∙ rest.runs is;
          related = rest.related;
          below = λ k lt. rest.below k (omega (arith, lt)) ∙ register_there s.homes r k held (omega (arith, lt));
          read_there = λ os more f.
              subst (λ (l : List ℕ). words rest.next.homes (arguments_at t r (c ∷ cs) ++ os) ≡ Some (reads p t start v h (c ∷ cs) l ++ more)) (sym one.2)
              (reads_use rest.next.homes width (At (register r)) (arguments_at t (suc r) cs ++ os) one.0 (reads p t start v h cs one.1 ++ more)
              (at_home rest.next.homes width (register r) one.0 (ap (read width) there ∙ holds_word width one.0 small))
              (rest.read_there os more f));
        }

    call_means : (x : Width) (callee : ℕ) (rs : List Read) (w : World) → start.is_code callee ≡ false
        → meaning start (record { op = op.Call (has_word v.ty); value = v.id; traps = false }) ((x, callee) ∷ rs) w
        ≡ asks (event.Call callee) (has_word v.ty) rs w
    unfolding meaning
    call_means x callee rs w e = rw e refl

    -- a call of the function at the first child
    asked : (c : ℕ) (cs ws : List ℕ) (callee : ℕ) → ((id : ℕ) → Contains (c ∷ cs) id → Contains v.children id) → h.st.words c ≡ Some callee
        → b3.words_of (type_of p) h.st.words cs ≡ Some ws → start.is_code callee ≡ false
        → DoesSome p t start v (b3.calls_out h.st v (b3.event_of h.st (event.Call callee) (map (type_of p) cs) ws))
        (steps (meaning start) (arguments_into t v 0 cs ++ call_to t v c cs ∷ result_from t v 0) h.s junk)
    asked c cs ws callee among now e free =
        let put = loaded cs ws 0 h.s h.related (λ id has. among id (Contains-later c cs id has)) e in
        let i = call_to t v c cs in
        let late : List Operand = map (operand_in Clobber W64) call_clobbers ++ result_into v 0 in
        let x = width_at t.index c in
        let shown = reads p t start v h cs ws in
        let ts = changed call_clobbers in
        let quiet : words put.next.homes late ≡ Some [] =
        reads_changed put.next.homes call_clobbers (result_into v 0) ∙ reads_into put.next.homes (width_of v.ty) (register 0) (has_word v.ty) in
        let read_all : words put.next.homes i.operands ≡ Some ((x, callee) ∷ shown) =
        reads_use put.next.homes x (arg_of t c) (arguments_at t 0 cs ++ late) callee shown
        (child_at put.next put.related c callee (among c (Contains-first c cs)) now)
        (put.read_there late [] quiet ∙ ap Some (append-nil shown)) in
        let writes : targets i.operands ≡ ts ++ target_in v.ty 0 =
        writes_use x (arg_of t c) (arguments_at t 0 cs ++ late) ∙ writes_arguments t 0 cs late ∙ writes_changed call_clobbers (result_into v 0)
        ∙ ap (λ (l : List Target). ts ++ l) (writes_into v.ty 0) in
        subst (λ (o : Ran × List ℕ). DoesSome p t start v (b3.calls_out h.st v (b3.event_of h.st (event.Call callee) (map (type_of p) cs) ws)) o)
        (sym (put.runs (i ∷ result_from t v 0)))
        (asks_does p t start v h put.next put.related junk i ((x, callee) ∷ shown) read_all shown (event.Call callee) (map (type_of p) cs) ws 0 ts
        (call_means x callee shown put.next.world free) (reads_words p t start v h cs ws e) (reads_widths cs ws e) writes (no_tmp_changed call_clobbers))

    called : (cs ws : List ℕ) → v.children ≡ cs → (alike : Ty) → AreTaken alike (This Int64 ∷ []) Arguments (map (type_of p) cs)
        → b3.words_of (type_of p) h.st.words cs ≡ Some ws
        → DoesSome p t start v (b3.calls start h.st v (map (type_of p) cs) ws)
        (steps (meaning start) (arguments_into t v 0 (drop 1 cs) ++ call_to t v (child cs 0) (drop 1 cs) ∷ result_from t v 0) h.s junk)
    called [] ws is alike taken e = absurd taken
    called (c ∷ cs) ws is alike taken e =
        let one = words_cons (type_of p) h.st.words c cs ws e in
        subst (λ (l : List ℕ). DoesSome p t start v (b3.calls start h.st v (map (type_of p) (c ∷ cs)) l)
        (steps (meaning start) (arguments_into t v 0 cs ++ call_to t v c cs ∷ result_from t v 0) h.s junk)) (sym one.2)
        (by one.0 one.1 one.3 one.4 (start.is_code one.0) refl)
      where
        by : (callee : ℕ) (more : List ℕ) → h.st.words c ≡ Some callee → b3.words_of (type_of p) h.st.words cs ≡ Some more
            → (code : Bool) → start.is_code callee ≡ code
            → DoesSome p t start v (if code then b3.End (b3.Lost (b3.Undefined_ CallIntoCode))
            else b3.calls_out h.st v (b3.event_of h.st (event.Call callee) (map (type_of p) cs) more))
            (steps (meaning start) (arguments_into t v 0 cs ++ call_to t v c cs ∷ result_from t v 0) h.s junk)
        by callee more now e true is_code = (junk, tt)
        by callee more now e false free = asked c cs more callee (λ id has. subst (λ (l : List ℕ). Contains l id) (sym is) has) now e free

  pub call_does : (junk : List ℕ) → v.kind.opcode ≡ opcode.CCall
      → DoesSome p t start v (b3.calls start h.st v (types_of p v) (words_here p t start v h)) (steps (meaning start) (call_of t v) h.s junk)
  call_does junk eo =
      let allowed = subst (λ (q : Opcode). AllowsTypes q v.ty (types_of p v)) eo (allows p t start v h) in
      called (ap takes_values eo) junk v.children (words_here p t start v h) refl allowed.alike allowed.children (are_words p t start v h)
