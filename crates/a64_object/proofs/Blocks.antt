-- The run of the machine of an object follows the run of the procedure of Air whose code it has, block by block.
use Rattle.std.proofs.Common.{◌≡◌, ℕ, zero, suc, ◌-◌, ◌*◌, ◌<◌, ◌≤◌, Option, Some, None, List, [], ◌++◌, length, refl, sym, ap, ◌∙◌, subst, arith, ⊎_elim}
use Rattle.std.specs.Prelude.{All, slice_get}
use Rattle.std.proofs.lemmas.List.Elements.{All-get_or}
use Rattle.std.proofs.lemmas.Bool.{cases_lt}
use Rattle.std.proofs.lemmas.Option.{get_or_from_slice_get, slice_get_within}
use Rattle.b3_base.specs.Observed.{Observation}
use Rattle.b3_base.specs.Ranged.{IsRangedAnswer}
use Rattle.b3_base.specs.Run.{iterate}
use Rattle.b3_base.proofs.Run.{iterate-one, iterate-zero}
use Rattle.air_ir.specs.Blocks as air
use Rattle.air_ir.specs.Blocks.{block_of, block_step, entered, left, run_step}
use Rattle.air_ir.specs.Meaning.{To, Over, meaning}
use Rattle.air_ir.specs.Steps.{Outcome, Undefined, Goes, State, steps}
use Rattle.air_ir.specs.WellFormed.{IsGoodBlock, IsWellFormed}
use Rattle.air_ir.specs.declared.procedure.AirProc.{AirProc}
use Rattle.a64_layout.specs.Layout.{place, position_of}
use Rattle.a64_layout.specs.Machine.{Machine}
use Rattle.a64_run.specs.Machine.{Config, Entry, Stops, machine_step}
use Rattle.a64_emit.specs.Setting.{IsSet, Setting}
use Rattle.a64_emit.specs.Related.{IsRelated}
use Rattle.a64_emit.specs.Emitted.{CarriesOut, IsCodeOfAir, LeadsUnlessLost, log_of}
use Rattle.a64_object.proofs.Following.{FollowsBy, OneStep}
use Rattle.a64_object.proofs.Subject.{Stands, Subject, as_many_words, at_item, entry, setting}
use Rattle.a64_object.proofs.Landing.{Comes, IsAlike, IsMomentOf, Rises, comes}

-- ---- where a block goes
abbrev pub and_rest : air.Config → List ℕ → air.Config × List ℕ
and_rest a rest = (a, rest)

abbrev block_in : air.Config → ℕ
block_in (air.At b s) = b
block_in _ = 0

abbrev StandsAtBlock : air.Config → Type 0
StandsAtBlock (air.At b s) = Unit {0}
StandsAtBlock _ = ⊥

pub same_config : (a b : air.Config) (junk rest : List ℕ) → and_rest a junk ≡ and_rest b rest → a ≡ b
same_config a b junk rest is = ap (λ (x : air.Config × List ℕ). x.0) is

elsewhere : (a : air.Config) (b : ℕ) (t : State) (junk rest : List ℕ) → and_rest a junk ≡ and_rest (air.At b t) rest → StandsAtBlock a
elsewhere a b t junk rest is = subst StandsAtBlock (sym (same_config a (air.At b t) junk rest is)) tt

entered_at : (next : Option ℕ) (s t : State) (b : ℕ) (junk rest : List ℕ) → and_rest (entered next s) junk ≡ and_rest (air.At b t) rest → next ≡ Some b
entered_at (Some block) s t b junk rest is = ap (λ n. Some (block_in n)) (same_config (air.At block s) (air.At b t) junk rest is)
entered_at None s t b junk rest is = absurd (elsewhere air.Lost b t junk rest is)

left_at : (targets : List ℕ) (o : Outcome × List ℕ) (b : ℕ) (t : State) (rest : List ℕ) → left targets o ≡ and_rest (air.At b t) rest
    → (k : ℕ) × (slice_get targets k ≡ Some b)
left_at targets (Undefined, junk) b t rest is = absurd (elsewhere air.Lost b t junk rest is)
left_at targets (Goes None s, junk) b t rest is = absurd (elsewhere air.Lost b t junk rest is)
left_at targets (Goes (Some (To k)) s, junk) b t rest is = (k, entered_at (slice_get targets k) s t b junk rest is)
left_at targets (Goes (Some (Over status)) s, junk) b t rest is = absurd (elsewhere (air.Stopped (air.seen_as s.world status)) b t junk rest is)

-- a block of a well-formed procedure goes to a block other than the entry
goes_to : (mean : _) (q : AirProc) → IsWellFormed q → (b c : ℕ) (s t : State) (junk rest : List ℕ) → b < length q.blocks
    → block_step mean q (air.At b s, junk) ≡ and_rest (air.At c t) rest → (0 < c) × (c < length q.blocks)
unfolding block_step
goes_to mean q well b c s t junk rest within is =
    let target = left_at (block_of q b).targets (steps mean (block_of q b).insts s junk) c t rest is in
    let good : IsGoodBlock q (block_of q b) = All-get_or (IsGoodBlock q) q.blocks b (record { insts = []; targets = [] }) within well.blocks in
    subst (λ n. (0 < n) × (n < length q.blocks)) (get_or_from_slice_get (block_of q b).targets target.0 c c target.1)
    (All-get_or (λ n. (0 < n) × (n < length q.blocks)) (block_of q b).targets target.0 c (slice_get_within (block_of q b).targets target.0 c target.1)
    good.targets)

run_later : (mean : _) (q : AirProc) (b : ℕ) (s : State) (junk : List ℕ) → 0 < b → run_step mean q (air.At b s, junk) ≡ block_step mean q (air.At b s, junk)
unfolding run_step
run_later mean q zero s junk some = absurd (omega arith)
run_later mean q (suc b) s junk some = refl

run_over : (mean : _) (q : AirProc) (seen : Observation) (junk : List ℕ) → run_step mean q (air.Stopped seen, junk) ≡ (air.Stopped seen, junk)
unfolding run_step
run_over mean q seen junk = refl

run_lost : (mean : _) (q : AirProc) (junk : List ℕ) → run_step mean q (air.Lost, junk) ≡ (air.Lost, junk)
unfolding run_step
run_lost mean q junk = refl

-- the entry belongs to the step of the block behind it
pub run_first : (mean : _) (q : AirProc) (s : State) (junk rest : List ℕ) (next : air.Config) → block_step mean q (air.At 0 s, junk) ≡ (next, rest)
    → run_step mean q (air.At 0 s, junk) ≡ block_step mean q (next, rest)
unfolding run_step
run_first mean q s junk rest next is = ap (block_step mean q) is

pub block_over : (mean : _) (q : AirProc) (seen : Observation) (junk : List ℕ) → block_step mean q (air.Stopped seen, junk) ≡ (air.Stopped seen, junk)
unfolding block_step
block_over mean q seen junk = refl

pub block_lost : (mean : _) (q : AirProc) (junk : List ℕ) → block_step mean q (air.Lost, junk) ≡ (air.Lost, junk)
unfolding block_step
block_lost mean q junk = refl

-- a run that isn't lost
abbrev IsFound : air.Config → Type 0
IsFound air.Lost = ⊥
IsFound _ = Unit {0}

-- what is asked of a text that stands in an object: it is that of the code of a well-formed procedure of Air, with a frame, from a
-- start that may begin it
pub record Serves (x : Subject) : Type 0 where
  pub stands : Stands x
  pub is : IsCodeOfAir x.air x.frame x.code x.sites
  pub well : IsWellFormed x.air
  pub set : IsSet (setting x)
  pub least : 16 ≤ x.frame.bytes
  pub some_block : 0 < length x.air.blocks - 1

module _ (x : Subject) where
  abbrev z : Setting
  z = setting x

  abbrev e : Entry
  e = entry x

  abbrev pub up : air.Config × List ℕ → air.Config × List ℕ
  up a = run_step (meaning z.start) x.air a

  abbrev pub Lost : air.Config → Type 0
  Lost a = a ≡ air.Lost

  -- the number of a block among those behind the entry
  abbrev pub number : air.Config → ℕ
  number (air.At b s) = b - 1
  number _ = 0

  abbrev pub blocks : ℕ
  blocks = length x.air.blocks - 1

  abbrev pub bound : ℕ
  bound = 2 * length x.text.words

  module _ (serves : Serves x) where
    -- ---- one block
    pub of_at : (b : ℕ) (s : State) (k : ℕ) (c : Machine) (junk : List ℕ) (next : air.Config) → All IsRangedAnswer s.world.answers → b < length x.air.blocks
        → place x.code x.long k < length x.text.words
        → ((rest : List ℕ) → block_step (meaning z.start) x.air (air.At b s, junk ++ rest) ≡ (next, rest)) → LeadsUnlessLost z (log_of s.world) next k c
        → Comes x (log_of s.world) next k c
    of_at b s k c junk (air.At to t) ranged within below steps leads =
        let target = goes_to (meaning z.start) x.air serves.well b to s t (junk ++ []) [] within (steps []) in
        comes x serves.stands serves.is leads.0 (log_of s.world) (air.At to t) k c target ranged leads.1
    of_at b s k c junk (air.Stopped seen) ranged within below steps leads =
        comes x serves.stands serves.is leads.0 (log_of s.world) (air.Stopped seen) k c tt ranged leads.1
    of_at b s k c junk air.Lost ranged within below steps leads = record {
      steps = 1;
      most = omega arith;
      proper = λ i less. tt;
      alike = tt;
      rises = omega arith;
    }

    label_below : (b : ℕ) → b < length x.air.blocks → place x.code x.long (position_of x.code b) < length x.text.words
    label_below b within = let behind = serves.is.behind x.long b within in let all = as_many_words x serves.stands in omega arith

    -- what a block step at a label is
    pub carried : (b : ℕ) (s : State) (d : Machine) → 0 < b → b < length x.air.blocks → All IsRangedAnswer s.world.answers → IsRelated z s d
        → (junk : List ℕ) × (next : air.Config) × ((rest : List ℕ) → block_step (meaning z.start) x.air (air.At b s, junk ++ rest) ≡ (next, rest))
        × Comes x (log_of s.world) next (position_of x.code b) d
    carried b s d some within ranged related =
        let by : CarriesOut z b s (position_of x.code b) d = serves.is.block z b s d (refl, refl, refl, refl, serves.set) some within ranged related in
        (by.junk, by.next, by.is, of_at b s (position_of x.code b) d by.junk by.next ranged within (label_below b within) by.is by.leads)

    pub some_words : 1 ≤ length x.text.words
    some_words = let below = label_below 0 serves.well.entry in omega arith

    moment_of : (a : air.Config) (c : Config) (seen : Observation) → c ≡ Stops seen → (i : ℕ) → i < 1
        → IsMomentOf x (air.Stopped seen) (iterate (machine_step e) i c)
    moment_of a c seen over i less =
        let zero_is : i ≡ 0 = omega arith in
        subst (IsMomentOf x (air.Stopped seen)) (sym (ap (λ n. iterate (machine_step e) n c) zero_is ∙ iterate-zero (machine_step e) c ∙ over)) tt

    abbrev Step : air.Config → Config → Type 0
    Step a c = OneStep up (machine_step e) (IsAlike x) (IsMomentOf x) Lost number blocks bound a c

    step : (a : air.Config) (c : Config) → IsAlike x a c → Step a c
    step (air.At b s) c alike =
        let d = alike.3 in
        let by = carried b s d alike.0 alike.1 alike.2 alike.5 in
        let comes = by.3 in
        record {
          words = by.0;
          next = by.1;
          steps = comes.steps;
          is = λ rest. run_later (meaning z.start) x.air b s (by.0 ++ rest) alike.0 ∙ by.2 rest;
          most = let most = comes.most in omega arith;
          proper = subst (λ (a : Config). (i : ℕ) → i < comes.steps → IsMomentOf x by.1 (iterate (machine_step e) i a)) (sym alike.4) comes.proper;
          related = subst (λ (a : Config). IsAlike x by.1 (iterate (machine_step e) comes.steps a)) (sym alike.4) comes.alike;
        }
    step (air.Stopped seen) c alike = record {
      words = [];
      next = air.Stopped seen;
      steps = 1;
      is = λ rest. run_over (meaning z.start) x.air seen rest;
      most = let some = some_words in omega arith;
      proper = moment_of (air.Stopped seen) c seen alike;
      related = ap (iterate (machine_step e) 1) alike ∙ iterate-one (machine_step e) (Stops seen);
    }
    step air.Lost c alike = record {
      words = [];
      next = air.Lost;
      steps = 1;
      is = λ rest. run_lost (meaning z.start) x.air rest;
      most = let some = some_words in omega arith;
      proper = λ i less. tt;
      related = tt;
    }

    rises_by : (next : air.Config) (b : ℕ) (c : Machine) (j : ℕ) (a : Config) → 0 < b → b < length x.air.blocks → IsAlike x next a → j ≡ 0
        → Rises x next 1 (position_of x.code b) c j → b - 1 < number next
    rises_by (air.At to t) b c j a some within alike none rises =
        ⊎_elim (λ less. omega arith) (λ back. absurd
        (⊎_elim (λ less. let up = serves.is.rising to b less within in let far = (rises none).0 in omega arith) (λ le.
        let same : to ≡ b = omega arith in
        let here = ap (position_of x.code) same in
        let far = (rises none).0 in
        omega arith) (cases_lt to b))) (cases_lt b to)
    rises_by (air.Stopped seen) b c j a some within alike none rises = absurd (omega arith)
    rises_by air.Lost b c j a some within alike none rises = absurd (omega arith)

    step_rises : (a : air.Config) (c : Config) (r : IsAlike x a c) → (step a c r).steps ≡ 0 → number a < number (step a c r).next
    unfolding step
    step_rises (air.At b s) c alike none =
        let by = carried b s alike.3 alike.0 alike.1 alike.2 alike.5 in
        rises_by by.1 b alike.3 by.3.steps (iterate (machine_step e) by.3.steps (at_item x (log_of s.world) (position_of x.code b) alike.3)) alike.0 alike.1
        by.3.alike none by.3.rises
    step_rises (air.Stopped seen) c alike none = absurd (omega arith)
    step_rises air.Lost c alike none = absurd (omega arith)

    stays_lost : (a : air.Config) (c : Config) (r : IsAlike x a c) → Lost a → Lost (step a c r).next
    unfolding step
    stays_lost (air.At b s) c alike lost = absurd (subst IsFound lost tt)
    stays_lost (air.Stopped seen) c alike lost = absurd (subst IsFound lost tt)
    stays_lost air.Lost c alike lost = refl

    number_below : (a : air.Config) (c : Config) → IsAlike x a c → number a < blocks
    number_below (air.At b s) c alike = let some = alike.0 in let within = alike.1 in omega arith
    number_below (air.Stopped seen) c alike = serves.some_block
    number_below air.Lost c alike = serves.some_block

    pub follows : FollowsBy up (machine_step e) (IsAlike x) (IsMomentOf x) Lost number blocks bound
    follows = record { below = number_below; step = step; rises = step_rises; lost = stays_lost }
