-- Where items of emitted code lead, the machine of an object with their text is led, through proper moments.
use Rattle.std.proofs.Common.{◌≡◌, ℕ, zero, suc, ◌+◌, ◌*◌, ◌^◌, ◌<◌, ◌≤◌, ◌⊎◌, inl, inr, ⊎_elim, Bool, true, false, if◌then◌else◌, Option, Some, None, List, length, refl, sym, ap, ◌∙◌, subst, arith, get_or}
use Rattle.std.specs.Prelude.{slice_get}
use Rattle.std.proofs.lemmas.Bool.{and_parts, cases_lt}
use Rattle.std.proofs.lemmas.Option.{slice_get_within, slice_get-get_or, none-some}
use Rattle.b3_base.specs.Run.{iterate}
use Rattle.b3_base.proofs.Run.{iterate-add, iterate-one, iterate-suc, iterate-suc_last, iterate-zero, moments_joined}
use Rattle.stackmap.specs.declared.site.Site.{Site}
use Rattle.stackmap.specs.declared.site.SiteKind.{SiteKind}
use Rattle.stackmap.specs.declared.site.SiteKind.TheVariants.{Call, Patchpoint, Exit, Trap}
use Rattle.a64_inst.specs.Registers.{Registers}
use Rattle.a64_inst.specs.Step.{step_of}
use Rattle.a64_inst.specs.StepBranch.{branch_reg}
use Rattle.a64_inst.specs.declared.inst.BranchKind.TheVariants.{Blr}
use Rattle.a64_inst.specs.declared.inst.Inst.{Inst}
use Rattle.a64_inst.specs.declared.inst.Inst.TheVariants.{BranchReg, Break}
use Rattle.a64_inst.specs.declared.item.Item.{Item}
use Rattle.a64_inst.specs.declared.item.Item.TheVariants.{Plain, Jump, If, IfZero, IfBit, Label, Mark}
use Rattle.a64_inst.specs.declared.state.Outcome.{Outcome}
use Rattle.a64_inst.specs.declared.state.Outcome.TheVariants.{Next}
use Rattle.a64_layout.specs.Branch.{size_in}
use Rattle.a64_layout.specs.Layout.{place}
use Rattle.a64_layout.specs.Machine.{Machine, PassesInstructions, goes_first, goes_on_at, instruction_does, is_next, machine_of, machine_step as layout_step, moved_to, outside_at, words_run}
use Rattle.a64_layout.specs.Run as run
use Rattle.a64_layout.specs.Run.{GoForward, GoesOn, mark_before, place_at, run_cost}
use Rattle.a64_layout.proofs.Least.{place-next, place_mono}
use Rattle.a64_layout.proofs.Simulation.{cost_most, item_is, run_cost-one, run_forward}
use Rattle.a64_run.specs.Machine.{Config, Entry, Runs, machine_step, site_among}
use Rattle.a64_run.specs.Moments.{IsProper as IsMoment, TouchesAbove}
use Rattle.a64_emit.specs.Setting.{Setting, address_of, meaning_of, nothing, site_before, site_of}
use Rattle.a64_emit.specs.Emitted.{IsProper, IsProperAt, IsSafe, IsSafeItem, Log}
use Rattle.a64_emit.specs.Sites.{SuitsItems}
use Rattle.a64_object.proofs.Lists.{no_some}
use Rattle.a64_object.proofs.TextWords.{HasWord, has_word, is_jump}
use Rattle.a64_object.proofs.Sited.{before_is, branch_row, plain_row, some_size, HasSites}
use Rattle.a64_object.proofs.Stepping.{IsQuiet, begin_of, jump_above, jump_next, jump_x, none_quiet, nothing_there, quiet_proper, same_step, state_of, trap_quiet}
use Rattle.a64_object.proofs.Subject.{as_many_words, at_item, entry, item_step, rows_in, setting, Stands, Subject}

-- ---- n steps, each from a proper moment
abbrev pub Ran : Entry → ℕ → Config → Config → Type 0
Ran e n from to = (iterate (machine_step e) n from ≡ to) × ((i : ℕ) → i < n → IsMoment e (iterate (machine_step e) i from))

pub ran_none : (e : Entry) (c : Config) → Ran e 0 c c
ran_none e c = (iterate-zero (machine_step e) c, λ i below. absurd (omega arith))

pub ran_both : (e : Entry) (m n : ℕ) (x y z : Config) → Ran e m x y → Ran e n y z → Ran e (m + n) x z
ran_both e m n x y z first others = (
  iterate-add (machine_step e) m n x ∙ ap (iterate (machine_step e) n) first.0 ∙ others.0,
  moments_joined (machine_step e) (IsMoment e) m n x first.1
      (λ i below. subst (λ (c : Config). IsMoment e (iterate (machine_step e) i c)) (sym first.0) (others.1 i below)),
)

first_moment : (e : Entry) (x : Config) → IsMoment e x → (i : ℕ) → i < 1 → IsMoment e (iterate (machine_step e) i x)
first_moment e x proper i below =
    let zero_is : i ≡ 0 = omega arith in
    subst (IsMoment e) (sym (ap (λ (n : ℕ). iterate (machine_step e) n x) zero_is ∙ iterate-zero (machine_step e) x)) proper

pub ran_one : (e : Entry) (x y : Config) → machine_step e x ≡ y → IsMoment e x → Ran e 1 x y
ran_one e x y step proper = (iterate-one (machine_step e) x ∙ step, first_moment e x proper)

pub ran_more : (e : Entry) (n : ℕ) (x y z : Config) → Ran e n x y → machine_step e y ≡ z → IsMoment e y → Ran e (suc n) x z
ran_more e n x y z ran step proper =
    let count : n + 1 ≡ suc n = omega arith in
    subst (λ (k : ℕ). Ran e k x z) count (ran_both e n 1 x y z ran (ran_one e y z step proper))

pub ran_count : (e : Entry) (m n : ℕ) (x y : Config) → m ≡ n → Ran e n x y → Ran e m x y
ran_count e m n x y same ran = subst (λ (k : ℕ). Ran e k x y) (sym same) ran

pub passes_nothing : (code : List Item) → PassesInstructions code nothing
passes_nothing code k mark c done there by i lt = absurd (none-some done by)

-- ---- an instruction that goes on
went_on : (b : Bool) (j k : ℕ) (inst : Inst) (s after : Machine) → run.after j (if b then run.Goes 1 s else run.Ends inst s) ≡ run.At k after → b ≡ true
went_on true j k inst s after e = refl
went_on false j k inst s after e = cc

next_is : (o : Outcome) → is_next o ≡ true → o ≡ Next
next_is Next e = refl
next_is _ e = cc

-- ---- what stands at an instruction that goes on
link_stops : (rn : ℕ) (r : Registers) (c : Machine) (Y : Type 0) → (step_of (BranchReg Blr rn) r c.memory).outcome ≡ Next → Y
unfolding step_of branch_reg
link_stops rn r c Y next = absurd cc

break_stops : (imm : ℕ) (r : Registers) (c : Machine) (Y : Type 0) → (step_of (Break imm) r c.memory).outcome ≡ Next → Y
unfolding step_of
break_stops imm r c Y next = absurd cc

pub same_inst : (o : Option Item) (a b : Inst) → o ≡ Some (Plain a) → o ≡ Some (Plain b) → a ≡ b
same_inst o a b is also = cc

module _ (z : Setting) (has : HasSites z.code z.sites) where
  -- the instructions of a site whose mark stands right before an item
  pub suits_here : (k : ℕ) (site : Site) → site_before z k ≡ Some site
      → SuitsItems z.code site.kind site.size k × ((m : ℕ) × (slice_get z.sites m ≡ Some site) × (mark_before z.code k ≡ Some m))
  suits_here k site is = by (mark_before z.code k) refl
    where
      by : (o : Option ℕ) → mark_before z.code k ≡ o
          → SuitsItems z.code site.kind site.size k × ((m : ℕ) × (slice_get z.sites m ≡ Some site) × (mark_before z.code k ≡ Some m))
      by None before = absurd (no_some site (sym (ap (site_of z.sites) before) ∙ is))
      by (Some m) before =
          let there : slice_get z.sites m ≡ Some site = sym (ap (site_of z.sites) before) ∙ is in
          let at = before_is z.code z.sites has k m before in (
            subst (SuitsItems z.code site.kind site.size) at.1 (has.suits m site there),
            (m, there, before),
          )

  goes_quiet : (k : ℕ) (inst : Inst) (r : Registers) (c : Machine) (site : Site) (kind : SiteKind) → slice_get z.code k ≡ Some (Plain inst)
      → (step_of inst r c.memory).outcome ≡ Next
      → site_before z k ≡ Some site → site.kind ≡ kind → SuitsItems z.code kind site.size k → 1 ≤ site.size → IsQuiet (site_before z k)
  goes_quiet k inst r c site Call there next is kind suits some =
      let same = same_inst (slice_get z.code k) inst (BranchReg Blr suits.0) there suits.2 in
      link_stops suits.0 r c (IsQuiet (site_before z k)) (subst (λ i. (step_of i r c.memory).outcome ≡ Next) same next)
  goes_quiet k inst r c site Patchpoint there next is kind suits some =
      let e : k + 0 ≡ k = omega arith in
      let same = same_inst (slice_get z.code k) inst (Break 2) there (sym (ap (slice_get z.code) e) ∙ suits 0 some) in
      break_stops 2 r c (IsQuiet (site_before z k)) (subst (λ i. (step_of i r c.memory).outcome ≡ Next) same next)
  goes_quiet k inst r c site Exit there next is kind suits some =
      let same = same_inst (slice_get z.code k) inst (Break 1) there suits in
      break_stops 1 r c (IsQuiet (site_before z k)) (subst (λ i. (step_of i r c.memory).outcome ≡ Next) same next)
  goes_quiet k inst r c site Trap there next is kind suits some = trap_quiet (site_before z k) site is kind

  -- an instruction that goes on is at no site but a trap
  pub quiet_before : (k : ℕ) (inst : Inst) (r : Registers) (c : Machine) → slice_get z.code k ≡ Some (Plain inst) → (step_of inst r c.memory).outcome ≡ Next
      → IsQuiet (site_before z k)
  quiet_before k inst r c there next = by (site_before z k) refl
    where
      by : (o : Option Site) → site_before z k ≡ o → IsQuiet (site_before z k)
      by None is = none_quiet (site_before z k) is
      by (Some site) is =
          let suits = suits_here k site is in
          let m = suits.1 in
          goes_quiet k inst r c site site.kind there next is refl suits.0 (some_size site.kind site.size (has.sized m.0 site m.1))

no_plain : (o : Option Item) (item : Item) (inst : Inst) → o ≡ Some item → o ≡ Some (Plain inst) → (item ≡ Plain inst → ⊥) → ⊥
no_plain o item inst is plain other = other cc

module _ (x : Subject) (stands : Stands x) where
  abbrev z : Setting
  z = setting x

  abbrev e : Entry
  e = entry x

  abbrev pub words_for : ℕ → run.Config Machine Inst → ℕ
  words_for n a = words_run (begin_of e) nothing x.code x.long n a

  pub fitting : begin_of e + 4 * length x.text.words ≤ 2 ^ 64
  fitting = let has = stands.has_text in omega (arith, has.within, has.ends, has.begins)

  quiet_branch : (j i : ℕ) → ((inst : Inst) → slice_get x.code j ≡ Some (Plain inst) → ⊥) → i < size_in (x.long j) (slice_get x.code j)
      → IsQuiet (site_among (4 * (place x.code x.long j + i)) (rows_in x))
  quiet_branch j i other lt =
      let t = stands.is_text in
      let row = branch_row x.code x.sites t.has_sites x.long x.text.marks t.tells t.as_many j i other lt in
      none_quiet (site_among (4 * (place x.code x.long j + i)) (rows_in x)) row

  -- no site but a trap stands at the words of an item that goes on
  quiet_at : (j i : ℕ) (item : Item) → slice_get x.code j ≡ Some item → i < size_in (x.long j) (slice_get x.code j)
      → ((inst : Inst) → slice_get x.code j ≡ Some (Plain inst) → IsQuiet (site_before z j))
      → IsQuiet (site_among (4 * (place x.code x.long j + i)) (rows_in x))
  quiet_at j i (Plain inst) there lt plain =
      let one : size_in (x.long j) (slice_get x.code j) ≡ 1 = ap (size_in (x.long j)) there in
      let e : place x.code x.long j + i ≡ place x.code x.long j = omega arith in
      let t = stands.is_text in
      let row : site_among (4 * (place x.code x.long j + i)) (rows_in x) ≡ site_before z j =
      ap (λ n. site_among (4 * n) (rows_in x)) e ∙ plain_row x.code x.sites t.has_sites x.long x.text.marks t.tells t.as_many j inst there in
      subst IsQuiet (sym row) (plain inst there)
  quiet_at j i (Jump label) there lt plain = quiet_branch j i (λ inst is. no_plain (slice_get x.code j) (Jump label) inst there is (λ same. cc)) lt
  quiet_at j i (If cond label) there lt plain = quiet_branch j i (λ inst is. no_plain (slice_get x.code j) (If cond label) inst there is (λ same. cc)) lt
  quiet_at j i (IfZero width nonzero reg label) there lt plain =
      quiet_branch j i (λ inst is. no_plain (slice_get x.code j) (IfZero width nonzero reg label) inst there is (λ same. cc)) lt
  quiet_at j i (IfBit nonzero reg at label) there lt plain =
      quiet_branch j i (λ inst is. no_plain (slice_get x.code j) (IfBit nonzero reg at label) inst there is (λ same. cc)) lt
  quiet_at j i (Label label) there lt plain = quiet_branch j i (λ inst is. no_plain (slice_get x.code j) (Label label) inst there is (λ same. cc)) lt
  quiet_at j i (Mark mark) there lt plain = quiet_branch j i (λ inst is. no_plain (slice_get x.code j) (Mark mark) inst there is (λ same. cc)) lt

  plain_next : (j k : ℕ) (c after : Machine) (inst : Inst) → slice_get x.code j ≡ Some (Plain inst) → item_step x (run.At j c) ≡ run.At k after
      → (step_of inst (moved_to (address_of z j) c).registers c.memory).outcome ≡ Next
  plain_next j k c after inst there goes =
      let does : item_step x (run.At j c) ≡ run.after j
      (goes_first (outside_at nothing (mark_before x.code j) (moved_to (address_of z j) c)) (instruction_does (address_of z j) inst c)) =
      item_is (meaning_of z) x.code x.long j c (Some (Plain inst)) there in
      let done : run.after j (instruction_does (address_of z j) inst c) ≡ run.At k after =
      ap (λ done. run.after j (goes_first done (instruction_does (address_of z j) inst c)))
      (sym (nothing_there (mark_before x.code j) (moved_to (address_of z j) c))) ∙ sym does ∙ goes in
      let stepped = step_of inst (moved_to (address_of z j) c).registers c.memory in
      let on : goes_on_at (address_of z j + 4) stepped ≡ true = went_on (goes_on_at (address_of z j + 4) stepped) j k inst (machine_of stepped) after done in
      next_is stepped.outcome (and_parts (is_next stepped.outcome) _ on).0

  module _ (log : Log) (j k : ℕ) (c after : Machine) (item : Item) (there : slice_get x.code j ≡ Some item) (goes : item_step x (run.At j c) ≡ run.At k after)
      (proper : IsProperAt z j c)
      (below : place x.code x.long k < length x.text.words) where
    abbrev cost_here : ℕ
    cost_here = words_for 1 (run.At j c)

    abbrev begin : Machine
    begin = moved_to (address_of z j) c

    abbrev at_word : ℕ → Machine
    at_word n = moved_to (begin_of e + 4 * (place x.code x.long j + n)) c

    few : cost_here ≤ size_in (x.long j) (slice_get x.code j)
    few =
        let one = run_cost-one (meaning_of z) x.code x.long (run.At j c) in
        let most = cost_most (meaning_of z) x.code x.long j c item there in
        let next = place-next x.code x.long j in
        omega arith

    inside : (n : ℕ) → n < cost_here → iterate (layout_step (begin_of e) x.text.words x.text.marks nothing) n begin ≡ at_word n
    inside n lt = stands.is_text.runs.inside (begin_of e) j n nothing c (passes_nothing x.code) fitting lt

    last : iterate (layout_step (begin_of e) x.text.words x.text.marks nothing) cost_here begin ≡ moved_to (address_of z k) after
    last = stands.is_text.runs.same (begin_of e) j 1 k nothing c after (passes_nothing x.code) fitting below
        (iterate-one (run.item_step (meaning_of z) x.code) (run.At j c) ∙ goes)

    -- where word n leads
    pub record LeadsOn (n : ℕ) : Type 0 where
      pub next : ℕ
      pub pc : (iterate (layout_step (begin_of e) x.text.words x.text.marks nothing) (suc n) begin).registers.pc ≡ begin_of e + 4 * next
      pub within : next < length x.text.words

    leads_on : (n : ℕ) → n < cost_here → LeadsOn n
    leads_on n lt =
        ⊎_elim
        (λ less.
        let next = place-next x.code x.long j in
        let most = few in
        let there_within = slice_get_within x.code j item there in
        let up = place_mono x.code x.long (j + 1) (length x.code) (omega arith) in
        let all = as_many_words x stands in
        record {
          next = place x.code x.long j + suc n;
          pc = ap (λ (d : Machine). d.registers.pc) (inside (suc n) less);
          within = omega arith;
        })
        (λ past.
        let count : suc n ≡ cost_here = omega arith in
        record {
          next = place x.code x.long k;
          pc = ap (λ (i : ℕ). (iterate (layout_step (begin_of e) x.text.words x.text.marks nothing) i begin).registers.pc) count
              ∙ ap (λ (d : Machine). d.registers.pc) last;
          within = below;
        })
        (cases_lt (suc n) cost_here)

    its_word : (n : ℕ) → n < cost_here → HasWord x.code x.long x.text.words j n
    its_word n lt = let most = few in
        has_word x.code stands.is_text.has_sites.good x.long stands.is_text.enough x.text.words stands.is_text.words_are j n (omega arith)

    -- a word of an instruction is the first
    first_word : (n : ℕ) (inst : Inst) → n < cost_here → slice_get x.code j ≡ Some (Plain inst) → address_of z j ≡ begin_of e + 4 * (place x.code x.long j + n)
    first_word n inst lt plain =
        let most = few in
        let one : size_in (x.long j) (slice_get x.code j) ≡ 1 = ap (size_in (x.long j)) plain in
        omega arith

    its_outcome : (n : ℕ) (inst : Inst) → n < cost_here → (slice_get x.code j ≡ Some (Plain inst)) ⊎ (is_jump inst ≡ true)
        → (step_of inst (at_word n).registers c.memory).outcome ≡ Next
    its_outcome n inst lt (inl plain) =
        subst (λ a. (step_of inst (moved_to a c).registers c.memory).outcome ≡ Next) (first_word n inst lt plain) (plain_next j k c after inst plain goes)
    its_outcome n inst lt (inr jump) = jump_next inst (at_word n).registers c.memory jump

    is_safe : (inst : Inst) → slice_get x.code j ≡ Some (Plain inst) → IsSafe z (moved_to (address_of z j) c) inst
    is_safe inst plain = subst (IsSafeItem z (moved_to (address_of z j) c)) plain proper.safe

    its_above : (n : ℕ) (inst : Inst) → n < cost_here → (slice_get x.code j ≡ Some (Plain inst)) ⊎ (is_jump inst ≡ true)
        → TouchesAbove e (state_of log (at_word n)) inst
    its_above n inst lt (inl plain) = subst (λ a. TouchesAbove e (state_of log (moved_to a c)) inst) (first_word n inst lt plain) (is_safe inst plain).there
    its_above n inst lt (inr jump) = jump_above e (state_of log (at_word n)) inst jump

    its_platform : (n : ℕ) (inst : Inst) → n < cost_here → (slice_get x.code j ≡ Some (Plain inst)) ⊎ (is_jump inst ≡ true)
        → (step_of inst (at_word n).registers c.memory).registers.x 18 ≡ c.registers.x 18
    its_platform n inst lt (inl plain) =
        subst (λ a. (step_of inst (moved_to a c).registers c.memory).registers.x 18 ≡ c.registers.x 18) (first_word n inst lt plain)
        (is_safe inst plain).platform
    its_platform n inst lt (inr jump) = ap (λ (r : ℕ → ℕ). r 18) (jump_x inst (at_word n).registers c.memory jump)

    its_quiet : (n : ℕ) → n < cost_here → IsQuiet (site_among (4 * (place x.code x.long j + n)) (rows_in x))
    its_quiet n lt =
        let most = few in
        quiet_at j n item there (omega arith)
        (λ inst plain. quiet_before z stands.is_text.has_sites j inst begin.registers c plain (plain_next j k c after inst plain goes))

    part_runs : (n : ℕ) → n ≤ cost_here
        → Ran e n (at_item x log j c) (Runs (state_of log (iterate (layout_step (begin_of e) x.text.words x.text.marks nothing) n begin)))
    part_runs zero le = subst (λ (d : Machine). Ran e 0 (at_item x log j c) (Runs (state_of log d)))
        (sym (iterate-zero (layout_step (begin_of e) x.text.words x.text.marks nothing) begin)) (ran_none e (at_item x log j c))
    part_runs (suc n) le =
        let lt : n < cost_here = omega arith in
        let w = its_word n lt in
        let to = leads_on n lt in
        let there_next = slice_get-get_or x.text.words to.next 0 to.within in
        let here : ℕ = place x.code x.long j + n in
        ran_more e n (at_item x log j c) (Runs (state_of log (at_word n)))
        (Runs (state_of log (iterate (layout_step (begin_of e) x.text.words x.text.marks nothing) (suc n) begin)))
        (subst (λ (d : Machine). Ran e n (at_item x log j c) (Runs (state_of log d))) (inside n lt) (part_runs n (omega arith)))
        (same_step e x.text.words (rows_in x) stands.has_text log x.text.marks (at_word n)
        (iterate (layout_step (begin_of e) x.text.words x.text.marks nothing) (suc n) begin) here to.next
        (get_or x.text.words to.next 0) w.inst refl w.there w.decodes (its_quiet n lt).patchpoint proper.whole
        (its_outcome n w.inst lt w.of)
        (sym (iterate-suc_last (layout_step (begin_of e) x.text.words x.text.marks nothing) n begin
        ∙ ap (layout_step (begin_of e) x.text.words x.text.marks nothing) (inside n lt)))
        to.pc there_next)
        (quiet_proper e x.text.words (rows_in x) stands.has_text log (at_word n) here w.inst refl w.there w.decodes (its_quiet n lt) proper.aligned
        (its_above n w.inst lt w.of) (its_platform n w.inst lt w.of))

    pub item_runs : Ran e cost_here (at_item x log j c) (at_item x log k after)
    item_runs = subst (λ (d : Machine). Ran e cost_here (at_item x log j c) (Runs (state_of log d))) last (part_runs cost_here (omega arith))

  -- ---- items that go forward
  pub run_cost-none : (a : run.Config Machine Inst) → words_for 0 a ≡ 0
  unfolding run_cost
  run_cost-none a = refl

  run_cost-more : (n : ℕ) (a : run.Config Machine Inst) → words_for (suc n) a ≡ run.cost (meaning_of z) x.code x.long a + words_for n (item_step x a)
  unfolding run_cost
  run_cost-more n a = refl

  forward_parts : (n : ℕ) (a : run.Config Machine Inst) → GoForward (meaning_of z) x.code (suc n) a
      → GoesOn a (item_step x a) × GoForward (meaning_of z) x.code n (item_step x a)
  unfolding GoForward
  forward_parts n a forward = forward

  abbrev item_at : ℕ → Machine → run.Config Machine Inst
  item_at k c = run.At k c

  pub same_place : (j k : ℕ) (c d : Machine) → item_at j c ≡ item_at k d → (j ≡ k) × (c ≡ d)
  same_place j k c d is = (cc, cc)

  -- an item at hand is one of the code
  pub an_item : (j k : ℕ) (c after : Machine) → item_step x (run.At j c) ≡ run.At k after → (item : Item) × (slice_get x.code j ≡ Some item)
  an_item j k c after goes = by (slice_get x.code j) refl
    where
      broken : run.Broken ≡ item_at k after → ⊥
      broken is = cc

      by : (o : Option Item) → slice_get x.code j ≡ o → (item : Item) × (slice_get x.code j ≡ Some item)
      by (Some item) there = (item, there)
      by None there = absurd (broken (sym (item_is (meaning_of z) x.code x.long j c None there) ∙ goes))

  pub items_run : (log : Log) (n j at : ℕ) (c last : Machine) → GoForward (meaning_of z) x.code n (run.At j c)
      → iterate (run.item_step (meaning_of z) x.code) n (run.At j c) ≡ run.At at last
      → ((i : ℕ) → i ≤ n → IsProper z (iterate (run.item_step (meaning_of z) x.code) i (run.At j c)))
      → place x.code x.long at < length x.text.words
      → Ran e (words_for n (run.At j c)) (at_item x log j c) (at_item x log at last)
  items_run log zero j at c last forward comes proper below =
      let same = same_place j at c last (sym (iterate-zero (run.item_step (meaning_of z) x.code) (run.At j c)) ∙ comes) in
      ran_count e (words_for 0 (run.At j c)) 0 (at_item x log j c) (at_item x log at last) (run_cost-none (run.At j c))
      (subst (λ (k : ℕ). Ran e 0 (at_item x log j c) (at_item x log k last)) same.0
      (subst (λ (d : Machine). Ran e 0 (at_item x log j c) (at_item x log j d)) same.1 (ran_none e (at_item x log j c))))
  items_run log (suc n) j at c last forward comes proper below =
      by (λ k after rest there others. items_run log n k at after last rest there others below) (item_step x (run.At j c)) refl
    where
      parts : GoesOn (run.At j c) (item_step x (run.At j c)) × GoForward (meaning_of z) x.code n (item_step x (run.At j c))
      parts = forward_parts n (run.At j c) forward

      by : ((k : ℕ) (after : Machine) → GoForward (meaning_of z) x.code n (run.At k after)
          → iterate (run.item_step (meaning_of z) x.code) n (run.At k after) ≡ run.At at last
          → ((i : ℕ) → i ≤ n → IsProper z (iterate (run.item_step (meaning_of z) x.code) i (run.At k after)))
          → Ran e (words_for n (run.At k after)) (at_item x log k after) (at_item x log at last))
          → (a : run.Config Machine Inst) → item_step x (run.At j c) ≡ a → Ran e (words_for (suc n) (run.At j c)) (at_item x log j c) (at_item x log at last)
      by again (run.Ended end d) goes = absurd (subst (GoesOn (run.At j c)) goes parts.0)
      by again run.Broken goes = absurd (subst (GoesOn (run.At j c)) goes parts.0)
      by again (run.At k after) goes =
          let item = an_item j k c after goes in
          let rest : GoForward (meaning_of z) x.code n (run.At k after) = subst (GoForward (meaning_of z) x.code n) goes parts.1 in
          let comes_rest : iterate (run.item_step (meaning_of z) x.code) n (run.At k after) ≡ run.At at last =
          ap (iterate (run.item_step (meaning_of z) x.code) n) (sym goes) ∙ sym (iterate-suc (run.item_step (meaning_of z) x.code) n (run.At j c)) ∙ comes in
          let farther = run_forward (meaning_of z) x.code x.long n (run.At k after) rest in
          let there : place_at x.code x.long (iterate (run.item_step (meaning_of z) x.code) n (run.At k after)) ≡ place x.code x.long at =
          ap (place_at x.code x.long) comes_rest in
          let first_proper : IsProperAt z j c = subst (IsProper z) (iterate-zero (run.item_step (meaning_of z) x.code) (run.At j c)) (proper 0 (omega arith)) in
          let others : (i : ℕ) → i ≤ n → IsProper z (iterate (run.item_step (meaning_of z) x.code) i (run.At k after)) =
          λ i le. subst (IsProper z)
          (iterate-suc (run.item_step (meaning_of z) x.code) i (run.At j c) ∙ ap (iterate (run.item_step (meaning_of z) x.code) i) goes)
          (proper (suc i) (omega arith)) in
          let one = run_cost-one (meaning_of z) x.code x.long (run.At j c) in
          let more = run_cost-more n (run.At j c) in
          let same : words_for n (item_step x (run.At j c)) ≡ words_for n (run.At k after) = ap (words_for n) goes in
          ran_count e (words_for (suc n) (run.At j c)) (words_for 1 (run.At j c) + words_for n (run.At k after)) (at_item x log j c) (at_item x log at last)
          (omega arith)
          (ran_both e (words_for 1 (run.At j c)) (words_for n (run.At k after)) (at_item x log j c) (at_item x log k after) (at_item x log at last)
          (item_runs log j k c after item.0 item.1 goes first_proper (omega arith))
          (again k after rest comes_rest others))
