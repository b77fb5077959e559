-- A Switch leads to the target of the case that its word is equal to.
use Rattle.std.proofs.Common.{◌≡◌, ◌≢◌, ℕ, suc, ◌+◌, ◌^◌, ◌<◌, ◌≤◌, true, false, not, ◌&&◌, ⊎_elim, List, [], ◌∷◌, ◌++◌, Some, length, get_or, refl, sym, ap, ◌∙◌, subst, arith, append_assoc, length-append}
use Rattle.std.specs.Prelude.{nat_eq, nat_le, nat_lt, slice_get, if◌then◌else◌}
use Rattle.std.proofs.lemmas.Bool.{cases_lt}
use Rattle.std.proofs.lemmas.Bool.Decides.{nat_tests}
use Rattle.std.proofs.lemmas.Option.{slice_get-get_or, slice_get_within}
use Rattle.b3_base.proofs.Widths.{low-same}
use Rattle.b3_base.specs.Arithmetic.{low}
use Rattle.b3_base.specs.Word.{bits}
use Rattle.b3_base.specs.declared.word.Width.{Width}
use Rattle.b3_base.specs.declared.word.Width.TheVariants.{W32, W64}
use Rattle.a64_inst.specs.Step.{Registers}
use Rattle.a64_inst.specs.Values.{complement, flags_of_sum, holds, sum_of}
use Rattle.a64_inst.specs.declared.inst.Cond.TheVariants.{Eq, Hi}
use Rattle.a64_inst.specs.declared.inst.Inst.{Inst}
use Rattle.a64_inst.specs.declared.inst.Inst.TheVariants.{AddSubReg}
use Rattle.a64_inst.specs.declared.item.Item.{Item}
use Rattle.a64_inst.specs.declared.item.Item.TheVariants.{If, Label}
use Rattle.air_ir.specs.Blocks as air
use Rattle.air_ir.specs.Forms.{AllFit, NoImmediate, Word, home}
use Rattle.air_ir.specs.Meaning.{To, case_number, meaning, operation}
use Rattle.air_ir.specs.Operands.{word_of, words}
use Rattle.air_ir.specs.Steps.{State}
use Rattle.air_ir.specs.declared.op.AirOp.TheVariants as op
use Rattle.air_ir.specs.declared.op.Test.TheVariants.{Compare}
use Rattle.air_ir.specs.declared.operand.Operand.{Operand}
use Rattle.air_ir.specs.declared.procedure.AirInst.{AirInst}
use Rattle.a64_layout.specs.Layout.{place, position_of}
use Rattle.a64_layout.specs.Machine.{Machine, moved_to, test_holds}
use Rattle.a64_layout.specs.Run as run
use Rattle.a64_emit.specs.Code.{arg_at, fetch, source_at, source_of, width_at}
use Rattle.a64_code.specs.Computing.{reg_of, sum_with, is_sum_word}
use Rattle.a64_code.specs.Constants.{constant}
use Rattle.a64_emit.specs.Emitted.{Log, log_of}
use Rattle.a64_code.specs.Places.{plains}
use Rattle.a64_emit.specs.Related.{IsRelated}
use Rattle.a64_emit.specs.Setting.{Setting, meaning_of, IsSet}
use Rattle.a64_emit.specs.Switched.{case_items, cases_in_order, compare_word, jump_to, search_items, switch_items}
use Rattle.a64_emit.specs.Trees.{Leaf, Node, Tree, node_count, tree}
use Rattle.a64_emit.specs.declared.case.Case.{Case}
use Rattle.a64_code.specs.declared.source.Source.{Source}
use Rattle.a64_code.specs.declared.source.Source.TheVariants.{Constant, InReg}
use Rattle.a64_layout.proofs.Least.{place_mono}
use Rattle.a64_emit.proofs.Ahead.{if_size, switch_words, words_ahead}
use Rattle.a64_emit.proofs.AirSteps.{step_lost}
use Rattle.a64_emit.proofs.Shapes.{sum_plain}
use Rattle.a64_emit.proofs.BranchEnds.{AllUsable, home_register, one_read, one_there, one_writes, word_home}
use Rattle.a64_emit.proofs.Branching.{NextAt, Since, alike_related, branch_goes, branch_test, item_proper, jump_reaches, label_runs, one_runs, reaches_step, words_there}
use Rattle.a64_emit.proofs.Computes.{scratch_15, scratch_16}
use Rattle.a64_emit.proofs.Endings.{Ends, among_plains, leaves_to}
use Rattle.a64_emit.proofs.Fetching.{IsUsable, fetch_word, fetched_keeps, gives_same, kept_differs, source_differs}
use Rattle.a64_emit.proofs.Keeping.{keeps_related, whole_of}
use Rattle.a64_emit.proofs.Moves.{constant_puts}
use Rattle.a64_code.proofs.Ops.{Gives, IsRegister, gives-small}
use Rattle.a64_emit.proofs.Positions.{Among, among_first, among_rest, length_plains}
use Rattle.a64_emit.proofs.Labelled.{IsCaseOf, cases_lead}
use Rattle.a64_emit.proofs.Sorting.{led, led_among, search_leads}
use Rattle.a64_emit.proofs.Straight.{AreAlike, Does, DoesOne, Reaches, Runs, does_both, does_one, leads_on, leads_over, straight_runs}
use Rattle.a64_emit.proofs.Trees.{Each, each_left, each_right, in_order, tree_order}
use Rattle.a64_code.proofs.Tests.{compare_is, with_flags}
use Rattle.a64_emit.proofs.Words.{does_safely, touches_nothing}
use Rattle.air_frame.specs.Frames.{IsFrameOf}

-- the difference of two words is 0 where they are equal
same_words : (width : Width) (x y : ℕ) → x < 2 ^ bits width → y < 2 ^ bits width → nat_eq (sum_of width x (complement width y) 1) 0 ≡ nat_eq y x
same_words W32 x y small_x small_y = grind (arith, nat_tests)
same_words W64 x y small_x small_y = grind (arith, nat_tests)

-- the word that is taken off is below the other where their difference needs no borrow and isn't 0
higher_word : (width : Width) (x y : ℕ) → x < 2 ^ bits width → y < 2 ^ bits width
    → (nat_le (2 ^ bits width) (x + complement width y + 1) && not (nat_eq (sum_of width x (complement width y) 1) 0)) ≡ nat_lt y x
higher_word W32 x y small_x small_y = grind (arith, nat_tests)
higher_word W64 x y small_x small_y = grind (arith, nat_tests)

case_number-le : (width : Width) (x : ℕ) (cases : List ℕ) → case_number width x cases ≤ length cases
case_number-le width x [] = omega arith
case_number-le width x (case ∷ cases) =
    let more = case_number-le width x cases in
    elim (nat_eq (low width case) x) as (λ b. (if b then 0 else suc (case_number width x cases)) ≤ suc (length cases)) [
      | true ↦ omega arith
      | false ↦
          omega arith
    ]

-- a machine with the flags of a word and another
pub record ComparedBy (z : Setting) (s : State) (c : Machine) (insts : List Inst) (a : Source) (width : Width) (x y : ℕ) : Type 0 where
  pub after : Machine
  pub does : Does z c insts after
  pub related : IsRelated z s after
  pub gives : Gives after.registers a width x
  pub equal : holds Eq after.registers.flags ≡ nat_eq y x
  pub higher : holds Hi after.registers.flags ≡ nat_lt y x

register_most : (r : Registers) (a : Source) (width : Width) (x : ℕ) → IsRegister a → Gives r a width x → reg_of a ≤ 31
register_most r (InReg reg) width x is gives = omega (arith, gives.0)
register_most r (Constant word) width x is gives = absurd is

-- each target is a block
abbrev pub AllWithin : Setting → List ℕ → Type 0
AllWithin z targets_of = (j : ℕ) → j < length targets_of → get_or targets_of j 0 < length z.procedure.blocks

module _ (z : Setting) (set : IsSet z) (serves : IsFrameOf z.procedure z.frame)
    (placed : (k label : ℕ) → slice_get z.code k ≡ Some (Label label) → position_of z.code label ≡ k) where
  -- by a register
  compares_put : (s : State) (c : Machine) (a : Source) (width : Width) (x y : ℕ) → IsRelated z s c → IsRegister a → ((r : ℕ) → a ≡ InReg r → r ≢ 16)
      → y < 2 ^ bits width → Gives c.registers a width x
      → ComparedBy z s c (constant width 16 y ++ AddSubReg width true true 31 (reg_of a) 16 0 0 ∷ []) a width x y
  unfolding flags_of_sum
  compares_put s c a width x y rel is differ small gives =
      let p = constant_puts z c width 16 y (whole_of z set serves c rel.frame) rel.frame.words (omega arith) (λ e. omega arith) small in
      let m : Machine = p.after in
      let rel_m = keeps_related z s c m (record {
        sp = p.sp;
        memory = p.memory;
        x = λ r kept. p.others r (kept_differs 16 r scratch_16 kept);
        words =
            p.words;
      }) rel in
      let inst : Inst = AddSubReg width true true 31 (reg_of a) 16 0 0 in
      let d : Machine = record { registers = with_flags m.registers (flags_of_sum width x (complement width y) 1); memory = m.memory } in
      let gives_a : Gives m.registers a width x = gives_same c.registers m.registers a width x (λ r is. p.others r (differ r is)) gives in
      let gives_b : Gives m.registers (InReg 16) width y = (omega arith, ap (low width) p.put ∙ low-same width y small) in
      let one : DoesOne z m inst d = does_safely z m d inst (whole_of z set serves m rel_m.frame) (touches_nothing m inst (λ pc. refl)) refl
      (λ pc. compare_is (moved_to pc m).registers m.memory width a (InReg 16) x y is
      (gives_same m.registers (moved_to pc m).registers a width x (λ r is. refl) gives_a) gives_b tt) in
      let small_x = gives-small c.registers a width x gives in
      record {
        after = d;
        does = does_both z c m d (constant width 16 y) (inst ∷ []) p.does (does_one z m d inst one);
        related = keeps_related z s m d (record {
          sp = refl;
          memory = refl;
          x = λ r kept. refl;
          words = record { x = rel_m.frame.words.x; sp = rel_m.frame.words.sp; pc = rel_m.frame.words.pc };
        }) rel_m;
        gives = gives_same m.registers d.registers a width x (λ r is. refl) gives_a;
        equal = same_words width x y small_x small;
        higher = higher_word width x y small_x small;
      }

  -- by an immediate
  compares_with : (s : State) (c : Machine) (a : Source) (width : Width) (x y : ℕ) → IsRelated z s c → IsRegister a → y < 2 ^ bits width
      → is_sum_word width y ≡ true → Gives c.registers a width x → ComparedBy z s c (sum_with width true true 31 (reg_of a) y ∷ []) a width x y
  unfolding flags_of_sum
  compares_with s c a width x y rel is small short gives =
      let inst : Inst = sum_with width true true 31 (reg_of a) y in
      let plain = sum_plain width true true 31 (reg_of a) (Constant y) (omega arith) (register_most c.registers a width x is gives) (omega arith)
      (small, short) in
      let d : Machine = record { registers = with_flags c.registers (flags_of_sum width x (complement width y) 1); memory = c.memory } in
      let one : DoesOne z c inst d = does_safely z c d inst (whole_of z set serves c rel.frame)
      (touches_nothing c inst (λ pc. plain.touches (moved_to pc c).registers)) refl
      (λ pc. compare_is (moved_to pc c).registers c.memory width a (Constant y) x y is
      (gives_same c.registers (moved_to pc c).registers a width x (λ r is. refl) gives) (low-same width y small)
      (small, short)) in
      let small_x = gives-small c.registers a width x gives in
      record {
        after = d;
        does = does_one z c d inst one;
        related = keeps_related z s c d (record {
          sp = refl;
          memory = refl;
          x = λ r kept. refl;
          words = record { x = rel.frame.words.x; sp = rel.frame.words.sp; pc = rel.frame.words.pc };
        }) rel;
        gives = gives_same c.registers d.registers a width x (λ r is. refl) gives;
        equal = same_words width x y small_x small;
        higher = higher_word width x y small_x small;
      }

  compares : (s : State) (c : Machine) (a : Source) (width : Width) (x y : ℕ) → IsRelated z s c → IsRegister a → ((r : ℕ) → a ≡ InReg r → r ≢ 16)
      → y < 2 ^ bits width → Gives c.registers a width x → ComparedBy z s c (compare_word width (reg_of a) y) a width x y
  compares s c a width x y rel is differ small gives =
      elim (is_sum_word width y) as (λ b. is_sum_word width y ≡ b
      → ComparedBy z s c (if b then sum_with width true true 31 (reg_of a) y ∷ [] else constant width 16
      y ++ AddSubReg width true true 31 (reg_of a) 16 0 0 ∷ []) a width x y) [
        | true ↦ λ e. compares_with s c a width x y rel is small e gives
        | false ↦ λ e. compares_put s c a width x y rel is differ small gives
      ] refl

  -- ---- the search

  -- a word in a register, in a state to which the block leads
  pub record Seeks (log : Log) (s : State) (a : Source) (width : Width) (x : ℕ) (c : Machine) : Type 0 where
    pub since : Since log s
    pub related : IsRelated z s c
    pub register : IsRegister a
    pub differs : (r : ℕ) → a ≡ InReg r → r ≢ 16
    pub gives : Gives c.registers a width x

  alike_seeks : (log : Log) (s : State) (a : Source) (width : Width) (x : ℕ) (c d : Machine) → AreAlike d c → d.registers.pc < 2 ^ 64
      → Seeks log s a width x c → Seeks log s a width x d
  alike_seeks log s a width x c d same small seeks = record {
    since = seeks.since;
    related = alike_related z s c d same small seeks.related;
    register = seeks.register;
    differs = seeks.differs;
    gives = gives_same c.registers d.registers a width x (λ r is. ap (λ (m : Machine). m.registers.x r) same) seeks.gives;
  }

  -- a word is compared with that of a case: the case leads where it is equal, and else the items behind its branch do
  compare_reaches : (log : Log) (s : State) (a : Source) (width : Width) (x : ℕ) (case : Case) (rest : List Item) (k other : ℕ) (c : Machine)
      → IsCaseOf (length z.procedure.blocks) width case
      → Among z.code k (plains (compare_word width (reg_of a) case.word) ++ If Eq case.target ∷ rest)
      → Seeks log s a width x c
      → ((d : Machine) → Seeks log s a width x d → holds Hi d.registers.flags ≡ nat_lt case.word x
      → Reaches z log (air.At other s) (k + length (plains (compare_word width (reg_of a) case.word) ++ If Eq case.target ∷ [])) d)
      → Reaches z log (air.At (if nat_eq case.word x then case.target else other) s) k c
  compare_reaches log s a width x case rest k other c of among seeks goes_on =
      let insts : List Inst = compare_word width (reg_of a) case.word in
      let q = compares s c a width x case.word seeks.related seeks.register seeks.differs of.0 seeks.gives in
      let n : ℕ = length insts in
      let long = length_plains insts in
      let behind : Among z.code (k + n) (If Eq case.target ∷ rest) =
      subst (λ n. Among z.code (k + n) (If Eq case.target ∷ rest)) long (among_rest z.code k (plains insts) (If Eq case.target ∷ rest) among) in
      let there : slice_get z.code (k + n) ≡ Some (If Eq case.target) = ap (slice_get z.code) (omega arith) ∙ behind 0 (If Eq case.target) refl in
      let room = words_there z (k + n) (If Eq case.target) there (slice_get_within z.code (k + n) (If Eq case.target) there)
      (if_size Eq case.target (z.long (k + n))) in
      let runs : Runs z k c n q.after = straight_runs z set k c q.after insts q.does
      (among_plains z.code k insts (among_first z.code k (plains insts) (If Eq case.target ∷ rest) among)) room in
      let last : Machine = runs.last in
      let compared : Seeks log s a width x q.after =
      record { since = seeks.since; related = q.related; register = seeks.register; differs = seeks.differs; gives = q.gives } in
      let seeks_last = alike_seeks log s a width x q.after last runs.alike (runs.small seeks.related.frame.words.pc) compared in
      let equal : test_holds (branch_test (Compare Eq) true width 0) last ≡ nat_eq case.word x =
      ap (λ (m : Machine). holds Eq m.registers.flags) runs.alike ∙ q.equal in
      let higher : holds Hi last.registers.flags ≡ nat_lt case.word x = ap (λ (m : Machine). holds Hi m.registers.flags) runs.alike ∙ q.higher in
      let step = branch_goes z set serves (Compare Eq) true width 0 (k + n) case.target last (nat_eq case.word x) equal there in
      let total = length-append (plains insts) (If Eq case.target ∷ []) in
      let e : k + length (plains insts ++ If Eq case.target ∷ []) ≡ k + n + 1 = omega arith in
      leads_on z log (air.At (if nat_eq case.word x then case.target else other) s) k n c q.after runs
      (elim (nat_eq case.word x) as (λ b. run.item_step (meaning_of z) z.code (run.At (k + n) last) ≡ run.At
      (if b then position_of z.code case.target else k + n + 1) last
      → Reaches z log (air.At (if b then case.target else other) s) (k + n) last) [
        | true ↦ λ step. reaches_step z set serves log s (k + n) case.target last
            (item_proper z set serves s (k + n) last (If Eq case.target) there tt seeks_last.related)
            step seeks.since seeks_last.related
        | false ↦ λ step.
            let on = one_runs z set serves s (k + n) last (If Eq case.target) there tt step seeks_last.related in
            leads_on z log (air.At other s) (k + n) 1 last last on
            (subst (λ j. Reaches z log (air.At other s) j on.last) e
            (goes_on on.last (alike_seeks log s a width x last on.last on.alike (on.small seeks_last.related.frame.words.pc) seeks_last)
            (ap (λ (m : Machine). holds Hi m.registers.flags) on.alike ∙ higher)))
      ] step)

  cases_reach : (log : Log) (s : State) (a : Source) (width : Width) (x other next : ℕ) (cases : List Case) (k : ℕ) (c : Machine)
      → other < length z.procedure.blocks → Each (IsCaseOf (length z.procedure.blocks) width) cases
      → Among z.code k (case_items width (reg_of a) cases ++ jump_to next other)
      → NextAt z next (k + length (case_items width (reg_of a) cases ++ jump_to next other)) → Seeks log s a width x c
      → Reaches z log (air.At (led_among other x cases) s) k c
  unfolding case_items
  cases_reach log s a width x other next [] k c within are among at seeks =
      jump_reaches z set serves log s k next other c within among at seeks.since seeks.related
  cases_reach log s a width x other next (case ∷ cases) k c within are among at seeks =
      let front : List Item = plains (compare_word width (reg_of a) case.word) in
      let branch : List Item = If Eq case.target ∷ [] in
      let rest : List Item = case_items width (reg_of a) cases ++ jump_to next other in
      let whole : (front ++ If Eq case.target ∷ case_items width (reg_of a) cases) ++ jump_to next other ≡ front ++ If Eq case.target ∷ rest =
      append_assoc front (If Eq case.target ∷ case_items width (reg_of a) cases) (jump_to next other) in
      let parts : front ++ If Eq case.target ∷ rest ≡ (front ++ branch) ++ rest = sym (append_assoc front branch rest) in
      let count : length ((front ++ If Eq case.target ∷ case_items width (reg_of a) cases) ++ jump_to next other) ≡ length (front ++ branch) + length rest =
      ap (λ (xs : List Item). length xs) (whole ∙ parts) ∙ length-append (front ++ branch) rest in
      let here : Among z.code k (front ++ If Eq case.target ∷ rest) = subst (Among z.code k) whole among in
      let behind : Among z.code (k + length (front ++ branch)) rest = among_rest z.code k (front ++ branch) rest (subst (Among z.code k) parts here) in
      let e : k + length ((front ++ If Eq case.target ∷ case_items width (reg_of a) cases) ++ jump_to next other)
      ≡ k + length (front ++ branch) + length rest = omega arith in
      compare_reaches log s a width x case rest k (led_among other x cases) c are.0 here seeks
      (λ d seeks_d higher. cases_reach log s a width x other next cases (k + length (front ++ branch)) d within are.1 behind
      (subst (λ j. NextAt z next j) e at) seeks_d)

  -- where the search stands before a label of its own, no block is next
  no_next : (label k : ℕ) → length z.procedure.blocks ≤ label → NextAt z label k
  no_next label k le = λ lt. absurd (omega arith)

  -- behind the comparison with a node: the lower half stands next, and the other one behind a label
  half_reaches : (log : Log) (s : State) (a : Source) (width : Width) (x label to_first to_rest : ℕ) (case : Case) (first rest : List Item) (k : ℕ)
      (d : Machine) → Among z.code k (If Hi label ∷ first ++ Label label ∷ rest) → Seeks log s a width x d
      → holds Hi d.registers.flags ≡ nat_lt case.word x
      → ((m : Machine) → Seeks log s a width x m → Reaches z log (air.At to_first s) (k + 1) m)
      → ((m : Machine) → Seeks log s a width x m → Reaches z log (air.At to_rest s) (k + 1 + length first + 1) m)
      → Reaches z log (air.At (if nat_lt case.word x then to_rest else to_first) s) k d
  half_reaches log s a width x label to_first to_rest case first rest k d among seeks higher first_goes rest_goes =
      let there : slice_get z.code k ≡ Some (If Hi label) =
      ap (slice_get z.code) (omega arith) ∙ among_first z.code k (If Hi label ∷ first) (Label label ∷ rest) among 0 (If Hi label) refl in
      let l : ℕ = k + 1 + length first in
      let at : slice_get z.code l ≡ Some (Label label) =
      ap (slice_get z.code) (omega arith) ∙ among_rest z.code k (If Hi label ∷ first) (Label label ∷ rest) among 0 (Label label) refl in
      let step = branch_goes z set serves (Compare Hi) true width 0 k label d (nat_lt case.word x) higher there in
      let proper = item_proper z set serves s k d (If Hi label) there tt seeks.related in
      elim (nat_lt case.word x) as (λ b. run.item_step (meaning_of z) z.code (run.At k d) ≡ run.At (if b then position_of z.code label else k + 1) d
      → Reaches z log (air.At (if b then to_rest else to_first) s) k d) [
        | true ↦ λ step.
            let over = label_runs z set serves s l label d at seeks.related in
            leads_over z log (air.At to_rest s) k l d (omega arith) proper (step ∙ ap (λ j. run.At j d) (placed l label at))
            (leads_on z log (air.At to_rest s) l 1 d d over
            (rest_goes over.last (alike_seeks log s a width x d over.last over.alike (over.small seeks.related.frame.words.pc) seeks)))
        | false ↦ λ step.
            let on = one_runs z set serves s k d (If Hi label) there tt step seeks.related in
            leads_on z log (air.At to_first s) k 1 d d on
            (first_goes on.last (alike_seeks log s a width x d on.last on.alike (on.small seeks.related.frame.words.pc) seeks))
      ] step

  search_reaches : (log : Log) (s : State) (a : Source) (width : Width) (x other next label : ℕ) (t : Tree Case) (k : ℕ) (c : Machine)
      → other < length z.procedure.blocks → length z.procedure.blocks ≤ label → Each (IsCaseOf (length z.procedure.blocks) width) (in_order t)
      → Among z.code k (search_items width (reg_of a) other next label t)
      → NextAt z next (k + length (search_items width (reg_of a) other next label t)) → Seeks log s a width x c
      → Reaches z log (air.At (led other x t) s) k c
  unfolding search_items in_order led
  search_reaches log s a width x other next label (Leaf cases) k c within above are among at seeks =
      cases_reach log s a width x other next cases k c within are among at seeks
  search_reaches log s a width x other next label (Node before case behind) k c within above are among at seeks =
      let front : List Item = plains (compare_word width (reg_of a) case.word) in
      let branch : List Item = If Eq case.target ∷ [] in
      let first : List Item = search_items width (reg_of a) other label (label + 1) before in
      let own : ℕ = label + 1 + node_count before in
      let rest : List Item = search_items width (reg_of a) other next own behind in
      let are_first = each_left (IsCaseOf (length z.procedure.blocks) width) (in_order before) (case ∷ in_order behind) are in
      let are_rest = each_right (IsCaseOf (length z.procedure.blocks) width) (in_order before) (case ∷ in_order behind) are in
      let halves : List Item = If Hi label ∷ first ++ Label label ∷ rest in
      let whole : (front ++ If Eq case.target ∷ If Hi label ∷ first) ++ Label label ∷ rest ≡ front ++ If Eq case.target ∷ halves =
      append_assoc front (If Eq case.target ∷ If Hi label ∷ first) (Label label ∷ rest) in
      let parts : front ++ If Eq case.target ∷ halves ≡ (front ++ branch) ++ halves = sym (append_assoc front branch halves) in
      let here : Among z.code k (front ++ If Eq case.target ∷ halves) = subst (Among z.code k) whole among in
      let j : ℕ = k + length (front ++ branch) in
      let both : Among z.code j halves = among_rest z.code k (front ++ branch) halves (subst (Among z.code k) parts here) in
      let count_all : length ((front ++ If Eq case.target ∷ If Hi label ∷ first) ++ Label label ∷ rest) ≡ length (front ++ branch) + length halves =
      ap (λ (xs : List Item). length xs) (whole ∙ parts) ∙ length-append (front ++ branch) halves in
      let count_halves = length-append (If Hi label ∷ first) (Label label ∷ rest) in
      let first_there : Among z.code (j + 1) first =
      among_rest z.code j (If Hi label ∷ []) first (among_first z.code j (If Hi label ∷ first) (Label label ∷ rest) both) in
      let l : ℕ = j + 1 + length first in
      let l_is : j + length (If Hi label ∷ first) + length (Label label ∷ []) ≡ l + 1 = omega arith in
      let rest_there : Among z.code (l + 1) rest =
      subst (λ n. Among z.code n rest) l_is
      (among_rest z.code (j + length (If Hi label ∷ first)) (Label label ∷ []) rest (among_rest z.code j (If Hi label ∷ first) (Label label ∷ rest) both)) in
      let e : k + length ((front ++ If Eq case.target ∷ If Hi label ∷ first) ++ Label label ∷ rest) ≡ l + 1 + length rest = omega arith in
      compare_reaches log s a width x case halves k (if nat_lt case.word x then led other x behind else led other x before) c are_rest.0 here seeks
      (λ d seeks_d higher. half_reaches log s a width x label (led other x before) (led other x behind) case first rest j d both seeks_d higher
      (λ m seeks_m. search_reaches log s a width x other label (label + 1) before (j + 1) m within (omega arith) are_first first_there
      (no_next label (j + 1 + length first) above) seeks_m)
      (λ m seeks_m. search_reaches log s a width x other next own behind (l + 1) m within (omega arith) are_rest.1 rest_there
      (subst (λ n. NextAt z next n) e at) seeks_m))

  -- a Switch on a word leads to the target of its case
  pub switch_reaches : (log : Log) (s : State) (a : Source) (width : Width) (x next label : ℕ) (cases targets_of : List ℕ) (k : ℕ) (c : Machine)
      → length targets_of ≡ suc (length cases) → AllWithin z targets_of → length z.procedure.blocks ≤ label
      → Among z.code k (switch_items width (reg_of a) next label cases targets_of)
      → NextAt z next (k + length (switch_items width (reg_of a) next label cases targets_of)) → Seeks log s a width x c
      → Reaches z log (air.At (get_or targets_of (case_number width x cases) 0) s) k c
  switch_reaches log s a width x next label cases targets_of k c count within above among at seeks =
      let ordered : List Case = cases_in_order width cases targets_of in
      let other : ℕ = get_or targets_of (length cases) 0 in
      let last = within (length cases) (omega arith) in
      let are = cases_lead (length z.procedure.blocks) width cases targets_of (omega arith) within in
      subst (λ to. Reaches z log (air.At to s) k c) (search_leads width x cases targets_of)
      (search_reaches log s a width x other next label (tree ordered) k c last above
      (subst (Each (IsCaseOf (length z.procedure.blocks) width)) (sym (tree_order ordered)) are) among at seeks)

  switches_to : (i : AirInst) (s : State) (cases : List ℕ) (width : Width) (x : ℕ) → i.op ≡ op.Switch cases
      → meaning z.start (operation i) ((width, x) ∷ []) s.world ≡ Some (record { results = []; world = s.world; exit = Some (To (case_number width x cases)) })
  unfolding meaning
  switches_to i s cases width x is = rw is refl

  -- the code of operands that are these
  abbrev SwitchCode : ℕ → ℕ → List ℕ → List ℕ → List Operand → List Item
  SwitchCode next label cases targets_of os =
      plains (fetch z.frame 15 (arg_at os 0)) ++ switch_items (width_at os 0) (reg_of (source_at os 0 15)) next label cases targets_of

  -- words stand behind the word's fetch: those of the next block, or else of the last jump
  switch_room : (next label k n : ℕ) (cases targets_of : List ℕ) (width : Width) (reg : ℕ) → length targets_of ≡ suc (length cases) → AllWithin z targets_of
      → Among z.code (k + n) (switch_items width reg next label cases targets_of)
      → (next < length z.procedure.blocks → place z.code z.long (k + n + length (switch_items width reg next label cases targets_of)) < place z.code
      z.long (length z.code))
      → place z.code z.long (k + n) < place z.code z.long (length z.code)
  switch_room next label k n cases targets_of width reg count within among ahead =
      ⊎_elim
      (λ lt.
      let room = ahead lt in
      let up = place_mono z.code z.long (k + n) (k + n + length (switch_items width reg next label cases targets_of)) (omega arith) in
      omega arith)
      (λ ge. words_ahead z.code z.long (k + n) (switch_items width reg next label cases targets_of) among
      (switch_words width reg next label cases targets_of count (λ j lt. let here = within j lt in omega arith)))
      (cases_lt next (length z.procedure.blocks))

  pub switch_ends : (i : AirInst) (s : State) (cases targets_of : List ℕ) (next label k : ℕ) (c : Machine) (width : Width) → i.op ≡ op.Switch cases
      → AllFit (home width ∷ []) i.operands → AllUsable z i.operands → length targets_of ≡ suc (length cases) → AllWithin z targets_of
      → Among z.code k (SwitchCode next label cases targets_of i.operands)
      → NextAt z next (k + length (SwitchCode next label cases targets_of i.operands))
      → (next < length z.procedure.blocks → place z.code z.long (k + length (SwitchCode next label cases targets_of i.operands)) < place z.code z.long
      (length z.code))
      → length z.procedure.blocks ≤ label → IsRelated z s c → Ends z targets_of i s k c
  switch_ends i s cases targets_of next label k c width is fits usable count within among at ahead above rel =
      let os = one_there (Word width NoImmediate) i.operands fits in
      let a : Operand = os.0 in
      let usable_a : IsUsable z a.arg = usable 0 a (ap (λ (xs : List Operand). slice_get xs 0) os.1) in
      let is_a = home_register z a.arg 15 usable_a (word_home width a.arg os.2.2) in
      let source : Source = source_of 15 a.arg in
      let insts : List Inst = fetch z.frame 15 a.arg in
      let items : List Item = switch_items a.width (reg_of source) next label cases targets_of in
      let here : Among z.code k (plains insts ++ items) = subst (λ xs. Among z.code k (SwitchCode next label cases targets_of xs)) os.1 among in
      let at_here : NextAt z next (k + length (plains insts ++ items)) =
      subst (λ xs. NextAt z next (k + length (SwitchCode next label cases targets_of xs))) os.1 at in
      let ahead_here : next < length z.procedure.blocks → place z.code z.long (k + length (plains insts ++ items)) < place z.code z.long (length z.code) =
      subst (λ xs. next < length z.procedure.blocks
      → place z.code z.long (k + length (SwitchCode next label cases targets_of xs)) < place z.code z.long (length z.code)) os.1 ahead in
      let long = length_plains insts in
      let total = length-append (plains insts) items in
      let e : k + length (plains insts ++ items) ≡ k + length insts + length items = omega arith in
      let behind : Among z.code (k + length insts) items = subst (λ n. Among z.code (k + n) items) long (among_rest z.code k (plains insts) items here) in
      ⊎_elim
      (λ lost. record { next = air.Lost; is = λ junk. ap (air.left targets_of) (step_lost z.start i s lost junk); reaches = tt })
      (λ (found : (x : ℕ) × (word_of s.homes a.width a.arg ≡ Some x) × (words s.homes i.operands ≡ Some ((a.width, x) ∷ []))).
      let x : ℕ = found.0 in
      let first = fetch_word z set serves s c 15 a.arg a.width x rel usable_a scratch_15 found.1 in
      let m : Machine = first.0.after in
      let rel_m = keeps_related z s c m (fetched_keeps z c insts 15 scratch_15 first.0) rel in
      let room = switch_room next label k (length insts) cases targets_of a.width (reg_of source) count within behind
      (subst (λ j. next < length z.procedure.blocks → place z.code z.long j < place z.code z.long (length z.code)) e ahead_here) in
      let runs : Runs z k c (length insts) m = straight_runs z set k c m insts first.0.does
      (among_plains z.code k insts (among_first z.code k (plains insts) items here)) room in
      let last : Machine = runs.last in
      let rel_last = alike_related z s m last runs.alike (runs.small rel.frame.words.pc) rel_m in
      let gives : Gives last.registers source a.width x =
      gives_same m.registers last.registers source a.width x (λ r is. ap (λ (n : Machine). n.registers.x r) runs.alike) first.1 in
      let number : ℕ = case_number a.width x cases in
      let most = case_number-le a.width x cases in
      let to : ℕ = get_or targets_of number 0 in
      record {
        next = air.At to s;
        is = leaves_to z set serves i s targets_of ((a.width, x) ∷ []) number to found.2 (one_writes i a os.1 os.2.0)
            (switches_to i s cases a.width x is)
            (slice_get-get_or targets_of number 0 (omega arith));
        reaches = leads_on z (log_of s.world) (air.At to s) k (length insts) c m runs
            (switch_reaches (log_of s.world) s source a.width x next label cases targets_of (k + length insts) last count within above behind
            (subst (λ j. NextAt z next j) e at_here)
            (record {
              since = refl;
              related = rel_last;
              register = is_a;
              differs = source_differs z 15 16 a.arg scratch_16 (λ e. omega arith) usable_a;
              gives = gives;
            }));
      })
      (one_read s.homes i a os.1 os.2.0)
