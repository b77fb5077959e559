-- Jumps and branches to the labels of blocks.
use Rattle.std.proofs.Common.{◌≡◌, ℕ, suc, ◌+◌, ◌^◌, ◌<◌, ◌≤◌, Bool, true, false, not, [], ◌∷◌, Some, length, refl, sym, ap, ◌∙◌, subst, arith}
use Rattle.std.specs.Prelude.{nat_eq, slice_get, if◌then◌else◌}
use Rattle.std.proofs.lemmas.Bool.Decides.{nat_tests}
use Rattle.b3_base.specs.declared.word.Width.{Width}
use Rattle.b3_base.proofs.Run.{iterate-one, iterate-zero}
use Rattle.a64_inst.specs.Values.{holds}
use Rattle.a64_inst.specs.declared.item.Item.{Item}
use Rattle.a64_inst.specs.declared.item.Item.TheVariants.{Jump, Label}
use Rattle.air_ir.specs.Blocks as air
use Rattle.air_ir.specs.Steps.{State}
use Rattle.air_ir.specs.declared.op.Test.{Test}
use Rattle.air_ir.specs.declared.op.Test.TheVariants.{Compare, NonZero, Bit}
use Rattle.air_frame.specs.Frames.{IsFrameOf}
use Rattle.a64_layout.specs.Branch.{opposite_cond, size_in}
use Rattle.a64_layout.specs.Layout.{place, position_of}
use Rattle.a64_layout.specs.Machine.{Machine, moved_to, test_holds}
use Rattle.a64_layout.specs.Run.{At, item_step}
use Rattle.a64_layout.specs.declared.branch.Test.{Test as Branched}
use Rattle.a64_layout.specs.declared.branch.Test.TheVariants as on
use Rattle.a64_layout.proofs.Least.{place-next, place_mono}
use Rattle.a64_emit.specs.Code.{branch_item, branches}
use Rattle.a64_emit.specs.Switched.{jump_to}
use Rattle.a64_emit.specs.Emitted.{IsProperAt, IsSafeItem, Log, log_of}
use Rattle.a64_emit.specs.Related.{IsRelated}
use Rattle.a64_emit.specs.Setting.{IsSet, Setting, address_of, meaning_of}
use Rattle.a64_emit.proofs.Keeping.{keeps_related, whole_of}
use Rattle.a64_emit.proofs.Positions.{Among, among_rest}
use Rattle.a64_emit.proofs.Straight.{AreAlike, Reaches, Runs, leads_on, reaches_here, runs_more, runs_none}

-- machines that differ in pc alone are related to the same states
pub alike_related : (z : Setting) (s : State) (c d : Machine) → AreAlike d c → d.registers.pc < 2 ^ 64 → IsRelated z s c → IsRelated z s d
alike_related z s c d same small rel = keeps_related z s c d (record {
  sp = ap (λ (m : Machine). m.registers.sp) same;
  memory = ap (λ (m : Machine). m.memory) same;
  x = λ r kept. ap (λ (m : Machine). m.registers.x r) same;
  words = record {
    x = λ r. subst (λ n. n < 2 ^ 64) (sym (ap (λ (m : Machine). m.registers.x r) same)) (rel.frame.words.x r);
    sp = subst (λ n. n < 2 ^ 64) (sym (ap (λ (m : Machine). m.registers.sp) same)) rel.frame.words.sp;
    pc = small;
  };
}) rel

-- words stand at an item and behind it
pub words_there : (z : Setting) (k : ℕ) (item : Item) → slice_get z.code k ≡ Some item → k < length z.code → 1 ≤ size_in (z.long k) (Some item)
    → place z.code z.long k < place z.code z.long (length z.code)
words_there z k item there within size =
    let next = place-next z.code z.long k in
    let same = ap (size_in (z.long k)) there in
    let up = place_mono z.code z.long (k + 1) (length z.code) (omega arith) in
    omega arith

-- ---- tests

-- what a branch goes by where it is taken if the test passes, or if it doesn't
abbrev pub branch_test : Test → Bool → Width → ℕ → Branched
branch_test (Compare cond) passes width reg = on.Holds (if passes then cond else opposite_cond cond)
branch_test NonZero passes width reg = on.Zero width passes reg
branch_test (Bit bit) passes width reg = on.Bit passes reg bit

-- the branches of a test go by whether it passes
abbrev pub Goes : Machine → Test → Width → ℕ → Bool → Type 0
Goes c test width reg passes = (taken : Bool) → test_holds (branch_test test taken width reg) c ≡ (if taken then passes else not passes)

pub alike_goes : (c d : Machine) (test : Test) (width : Width) (reg : ℕ) (passes : Bool) → AreAlike d c → Goes c test width reg passes
    → Goes d test width reg passes
alike_goes c d test width reg passes same goes taken = holds_alike test ∙ goes taken
  where
    holds_alike : (t : Test) → test_holds (branch_test t taken width reg) d ≡ test_holds (branch_test t taken width reg) c
    holds_alike (Compare cond) = ap (λ (m : Machine). test_holds (branch_test (Compare cond) taken width reg) m) same
    holds_alike NonZero = ap (λ (m : Machine). test_holds (branch_test NonZero taken width reg) m) same
    holds_alike (Bit bit) = ap (λ (m : Machine). test_holds (branch_test (Bit bit) taken width reg) m) same

pub branch_safe : (z : Setting) (c : Machine) (test : Test) (passes : Bool) (width : Width) (reg label : ℕ)
    → IsSafeItem z c (Some (branch_item test passes width reg label))
branch_safe z c (Compare cond) passes width reg label = tt
branch_safe z c NonZero passes width reg label = tt
branch_safe z c (Bit bit) passes width reg label = tt

-- ---- items

-- the label of the next block, where there is one, stands at an item
abbrev pub NextAt : Setting → ℕ → ℕ → Type 0
NextAt z next k = next < length z.procedure.blocks → (position_of z.code next ≡ k) × (slice_get z.code k ≡ Some (Label next))

-- a state to which a terminal leads: nothing was seen and answered in it
abbrev pub Since : Log → State → Type 0
Since log s = log_of s.world ≡ log

module _ (z : Setting) (set : IsSet z) (serves : IsFrameOf z.procedure z.frame) where
  pub item_proper : (s : State) (k : ℕ) (c : Machine) (item : Item) → slice_get z.code k ≡ Some item → IsSafeItem z (moved_to (address_of z k) c) (Some item)
      → IsRelated z s c → IsProperAt z k c
  item_proper s k c item there safe rel =
      let whole = whole_of z set serves c rel.frame in
      record {
        aligned = whole.aligned;
        whole = whole.whole;
        safe = subst (IsSafeItem z (moved_to (address_of z k) c)) (sym there) safe;
      }

  -- one item leads to the label of a block
  pub reaches_step : (log : Log) (s : State) (k label : ℕ) (c : Machine) → IsProperAt z k c
      → item_step (meaning_of z) z.code (At k c) ≡ At (position_of z.code label) c → Since log s → IsRelated z s c → Reaches z log (air.At label s) k c
  reaches_step log s k label c proper step since rel =
      reaches_here z log (air.At label s) k c proper
      (1, omega arith, c, iterate-one (item_step (meaning_of z) z.code) (At k c) ∙ step, since, rel)

  -- the label stands there
  pub reaches_label : (log : Log) (s : State) (k label : ℕ) (c : Machine) → NextAt z label k → label < length z.procedure.blocks → Since log s
      → IsRelated z s c
      → Reaches z log (air.At label s) k c
  reaches_label log s k label c next within since rel =
      let there = next within in
      reaches_here z log (air.At label s) k c (item_proper s k c (Label label) there.1 tt rel)
      (0, omega arith, c, iterate-zero (item_step (meaning_of z) z.code) (At k c) ∙ ap (λ j. At j c) (sym there.0), since, rel)

  jump_step : (k label : ℕ) (c : Machine) → slice_get z.code k ≡ Some (Jump label) → item_step (meaning_of z) z.code (At k c) ≡ At (position_of z.code label) c
  unfolding item_step
  jump_step k label c there = rw there refl

  pub jump_reaches : (log : Log) (s : State) (k next label : ℕ) (c : Machine) → label < length z.procedure.blocks → Among z.code k (jump_to next label)
      → NextAt z next (k + length (jump_to next label)) → Since log s → IsRelated z s c → Reaches z log (air.At label s) k c
  jump_reaches log s k next label c within among there since rel =
      elim (nat_eq label next) as (λ b. nat_eq label next ≡ b → Among z.code k (if b then [] else Jump label ∷ [])
      → NextAt z next (k + length (if b then [] else Jump label ∷ [])) → Reaches z log (air.At label s) k c) [
        | true ↦ λ e there at.
            let same : label ≡ next = grind (arith, nat_tests) in
            let here : k + 0 ≡ k = omega arith in
            reaches_label log s k label c (subst (λ j. NextAt z label j) here (subst (λ n. NextAt z n (k + 0)) (sym same) at)) within since rel
        | false ↦ λ e there at.
            let here : slice_get z.code k ≡ Some (Jump label) = ap (slice_get z.code) (omega arith) ∙ there 0 (Jump label) refl in
            reaches_step log s k label c (item_proper s k c (Jump label) here tt rel) (jump_step k label c here) since rel
      ] refl among there

  branch_step : (test : Test) (passes : Bool) (width : Width) (reg k label : ℕ) (c : Machine)
      → slice_get z.code k ≡ Some (branch_item test passes width reg label)
      → item_step (meaning_of z) z.code (At k c) ≡ At (if test_holds (branch_test test passes width reg) c then position_of z.code label else k + 1) c
  unfolding item_step
  branch_step (Compare cond) passes width reg k label c there = rw there refl
  branch_step NonZero passes width reg k label c there = rw there refl
  branch_step (Bit bit) passes width reg k label c there = rw there refl

  pub branch_goes : (test : Test) (taken : Bool) (width : Width) (reg k label : ℕ) (c : Machine) (b : Bool)
      → test_holds (branch_test test taken width reg) c ≡ b
      → slice_get z.code k ≡ Some (branch_item test taken width reg label)
      → item_step (meaning_of z) z.code (At k c) ≡ At (if b then position_of z.code label else k + 1) c
  branch_goes test taken width reg k label c b holds there =
      branch_step test taken width reg k label c there ∙ ap (λ t. At (if t then position_of z.code label else k + 1) c) holds

  -- an item that goes on to the next one
  pub one_runs : (s : State) (k : ℕ) (c : Machine) (item : Item) → slice_get z.code k ≡ Some item → IsSafeItem z (moved_to (address_of z k) c) (Some item)
      → item_step (meaning_of z) z.code (At k c) ≡ At (k + 1) c → IsRelated z s c → Runs z k c 1 c
  one_runs s k c item there safe step rel =
      runs_more z k c c 0 c step (item_proper s k c item there safe rel) rel.frame.words.pc (runs_none z (k + 1) c c refl)

  label_step : (k b : ℕ) (c : Machine) → slice_get z.code k ≡ Some (Label b) → item_step (meaning_of z) z.code (At k c) ≡ At (k + 1) c
  unfolding item_step
  label_step k b c there = rw there refl

  -- a label is passed
  pub label_runs : (s : State) (k b : ℕ) (c : Machine) → slice_get z.code k ≡ Some (Label b) → IsRelated z s c → Runs z k c 1 c
  label_runs s k b c there rel = one_runs s k c (Label b) there tt (label_step k b c there) rel

  -- the branches of a test lead to the one target or to the other
  pub branches_reach : (log : Log) (s : State) (test : Test) (width : Width) (reg k next then_label else_label : ℕ) (c : Machine) (passes : Bool)
      → then_label < length z.procedure.blocks → else_label < length z.procedure.blocks → Among z.code k (branches test width reg next then_label else_label)
      → NextAt z next (k + length (branches test width reg next then_label else_label)) → Goes c test width reg passes → Since log s → IsRelated z s c
      → Reaches z log (air.At (if passes then then_label else else_label) s) k c
  branches_reach log s test width reg k next then_label else_label c passes within_then within_else among there goes since rel =
      elim (nat_eq then_label next) as (λ b. nat_eq then_label next ≡ b
      → Among z.code k (if b then branch_item test false width reg else_label ∷ [] else branch_item test true width reg then_label ∷ jump_to next else_label)
      → NextAt z next (k + length (if b then branch_item test false width reg else_label ∷ [] else branch_item test true width reg then_label ∷ jump_to
      next else_label))
      → Reaches z log (air.At (if passes then then_label else else_label) s) k c) [
        | true ↦ λ e items at.
            let same : then_label ≡ next = grind (arith, nat_tests) in
            let here : slice_get z.code k ≡ Some (branch_item test false width reg else_label) =
            ap (slice_get z.code) (omega arith) ∙ items 0 (branch_item test false width reg else_label) refl in
            let proper = item_proper s k c (branch_item test false width reg else_label) here
            (branch_safe z (moved_to (address_of z k) c) test false width reg else_label) rel in
            fall passes then_label else_label (subst (λ n. NextAt z n (k + 1)) (sym same) at) (goes false) here proper within_then
        | false ↦ λ e items at.
            let here : slice_get z.code k ≡ Some (branch_item test true width reg then_label) =
            ap (slice_get z.code) (omega arith) ∙ items 0 (branch_item test true width reg then_label) refl in
            let proper = item_proper s k c (branch_item test true width reg then_label) here
            (branch_safe z (moved_to (address_of z k) c) test true width reg then_label) rel in
            let more : Among z.code (k + 1) (jump_to next else_label) =
            among_rest z.code k (branch_item test true width reg then_label ∷ []) (jump_to next else_label) items in
            let e : k + suc (length (jump_to next else_label)) ≡ k + 1 + length (jump_to next else_label) = omega arith in
            jumps passes (goes true) here proper more (subst (λ n. NextAt z next n) e at)
      ] refl among there
    where
      fall : (p : Bool) (to other : ℕ) → NextAt z to (k + 1) → test_holds (branch_test test false width reg) c ≡ not p
          → slice_get z.code k ≡ Some (branch_item test false width reg other) → IsProperAt z k c → to < length z.procedure.blocks
          → Reaches z log (air.At (if p then to else other) s) k c
      fall true to other at holds here proper within =
          reaches_step log s k to c proper (branch_goes test false width reg k other c false holds here ∙ ap (λ j. At j c) (sym (at within).0)) since rel
      fall false to other at holds here proper within =
          reaches_step log s k other c proper (branch_goes test false width reg k other c true holds here) since rel

      jumps : (p : Bool) → test_holds (branch_test test true width reg) c ≡ p → slice_get z.code k ≡ Some (branch_item test true width reg then_label)
          → IsProperAt z k c → Among z.code (k + 1) (jump_to next else_label) → NextAt z next (k + 1 + length (jump_to next else_label))
          → Reaches z log (air.At (if p then then_label else else_label) s) k c
      jumps true holds here proper items at = reaches_step log s k then_label c proper (branch_goes test true width reg k then_label c true holds here)
          since rel
      jumps false holds here proper items at =
          let runs = one_runs s k c (branch_item test true width reg then_label) here
          (branch_safe z (moved_to (address_of z k) c) test true width reg then_label)
          (branch_goes test true width reg k then_label c false holds here) rel in
          leads_on z log (air.At else_label s) k 1 c c runs
          (jump_reaches log s (k + 1) next else_label runs.last within_else items at since
          (alike_related z s c runs.last runs.alike (runs.small rel.frame.words.pc) rel))
