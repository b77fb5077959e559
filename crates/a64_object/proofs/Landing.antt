-- Where a block of emitted code lands, by way of sites at which the outside acts, the machine of an object with its text lands: at
-- the label of a block, or it stops.
use Rattle.std.proofs.Common.{◌≡◌, ℕ, zero, suc, ◌+◌, ◌<◌, ◌≤◌, inl, inr, ⊎_elim, List, [], ◌∷◌, length, refl, sym, ap, ◌∙◌, subst, arith}
use Rattle.std.specs.Prelude.{All}
use Rattle.std.proofs.lemmas.Bool.{cases_lt}
use Rattle.std.proofs.lemmas.List.Elements.{All-tail}
use Rattle.std.proofs.lemmas.Option.{slice_get_within}
use Rattle.b3_base.specs.Observed.{Answer, Give, Leave, Observation}
use Rattle.b3_base.specs.Ranged.{IsRangedAnswer}
use Rattle.b3_base.specs.Run.{iterate}
use Rattle.b3_base.specs.declared.observation.Status.TheVariants.{Left, Waiting}
use Rattle.b3_base.proofs.Run.{iterate-one, iterate-zero}
use Rattle.a64_inst.specs.declared.inst.Inst.{Inst}
use Rattle.air_ir.specs.Blocks as air
use Rattle.air_ir.specs.Steps.{State}
use Rattle.a64_layout.specs.Layout.{place, position_of}
use Rattle.a64_layout.specs.Machine.{Machine}
use Rattle.a64_layout.specs.Run as run
use Rattle.a64_layout.specs.Run.{place_at}
use Rattle.a64_layout.proofs.Least.{place_mono}
use Rattle.a64_layout.proofs.Simulation.{cost_most, run_cost-one, run_forward, run_free}
use Rattle.a64_run.specs.Machine.{Config, Entry, Stops, machine_step}
use Rattle.a64_run.specs.Moments.{IsProper as IsMoment}
use Rattle.a64_emit.specs.Setting.{Setting, meaning_of}
use Rattle.a64_emit.specs.Related.{IsRelated}
use Rattle.a64_emit.specs.Emitted.{IsCodeOfAir, IsProper, IsProperAt, Leads, LeadsBy, LeadsOut, Log, RunsTo, Takes, after_event, log_of, seen_at}
use Rattle.a64_object.proofs.Subject.{Stands, Subject, as_many_words, at_item, entry, item_step, setting}
use Rattle.a64_object.proofs.Items.{Ran, an_item, item_runs, items_run, ran_both, ran_count, ran_more, ran_none, run_cost-none, same_place, words_for}
use Rattle.a64_object.proofs.Stopping.{stops_here}
use Rattle.a64_object.proofs.Acting.{acts_moment, asks_goes, asks_leaves, asks_places, asks_waits, logged}

module _ (x : Subject) where
  abbrev z : Setting
  z = setting x

  abbrev e : Entry
  e = entry x

  -- ---- what a block leads to
  abbrev pub IsAlike : air.Config → Config → Type 0
  IsAlike (air.At b s) c = (0 < b) × (b < length x.air.blocks) × All IsRangedAnswer s.world.answers × (d : Machine)
      × (c ≡ at_item x (log_of s.world) (position_of x.code b) d) × IsRelated z s d
  IsAlike (air.Stopped seen) c = c ≡ Stops seen
  IsAlike air.Lost c = Unit {0}

  -- nothing is asked of a moment of a run that is lost
  abbrev pub IsMomentOf : air.Config → Config → Type 0
  IsMomentOf air.Lost c = Unit {0}
  IsMomentOf _ c = IsMoment e c

  -- what is proper is so for any run
  pub proper_for : (a : air.Config) (c : Config) → IsMoment e c → IsMomentOf a c
  proper_for (air.At b s) c proper = proper
  proper_for (air.Stopped seen) c proper = proper
  proper_for air.Lost c proper = tt

  -- no step at all only where the block's label stands so many items farther on, and then the machine is as it was
  abbrev pub Rises : air.Config → ℕ → ℕ → Machine → ℕ → Type 0
  Rises (air.At b s) least k c steps = steps ≡ 0 → (k + least ≤ position_of x.code b) × IsRelated z s c
  Rises _ least k c steps = 1 ≤ steps

  pub record Comes (log : Log) (next : air.Config) (k : ℕ) (c : Machine) : Type 0 where
    pub steps : ℕ
    pub most : steps + place x.code x.long k ≤ length x.text.words
    pub proper : (i : ℕ) → i < steps → IsMomentOf next (iterate (machine_step e) i (at_item x log k c))
    pub alike : IsAlike next (iterate (machine_step e) steps (at_item x log k c))
    pub rises : Rises next 1 k c steps

  -- a block that a run goes to is none but those behind the entry
  abbrev pub IsTarget : air.Config → Type 0
  IsTarget (air.At b s) = (0 < b) × (b < length x.air.blocks)
  IsTarget (air.Stopped seen) = Unit {0}
  IsTarget air.Lost = ⊥

  module _ (stands : Stands x) where
    abbrev words_by : ℕ → run.Config Machine Inst → ℕ
    words_by n a = words_for x stands n a

    -- at most one item more
    landing : (log : Log) (j at l : ℕ) (last after : Machine) → j ≤ 1 → iterate (run.item_step (meaning_of z) x.code) j (run.At at last) ≡ run.At l after
        → place x.code x.long l < length x.text.words → IsProperAt z at last
        → (place x.code x.long at < length x.text.words) × (words_by j (run.At at last) + place x.code x.long at ≤ length x.text.words)
        × Ran e (words_by j (run.At at last)) (at_item x log at last) (at_item x log l after)
    landing log zero at l last after le comes below proper =
        let same = same_place x stands at l last after (sym (iterate-zero (run.item_step (meaning_of z) x.code) (run.At at last)) ∙ comes) in
        let free = run_cost-none x stands (run.At at last) in
        let there = ap (place x.code x.long) same.0 in (
          omega arith,
          omega arith,
          ran_count e (words_by 0 (run.At at last)) 0 (at_item x log at last) (at_item x log l after) free
              (subst (λ (k : ℕ). Ran e 0 (at_item x log at last) (at_item x log k after)) same.0
              (subst (λ (d : Machine). Ran e 0 (at_item x log at last) (at_item x log at d)) same.1 (ran_none e (at_item x log at last)))),
        )
    landing log (suc zero) at l last after le comes below proper =
        let goes : item_step x (run.At at last) ≡ run.At l after = sym (iterate-one (run.item_step (meaning_of z) x.code) (run.At at last)) ∙ comes in
        let item = an_item x stands at l last after goes in
        let one = run_cost-one (meaning_of z) x.code x.long (run.At at last) in
        let most = cost_most (meaning_of z) x.code x.long at last item.0 item.1 in
        let within = slice_get_within x.code at item.0 item.1 in
        let up = place_mono x.code x.long (at + 1) (length x.code) (omega arith) in
        let all = as_many_words x stands in
        let here : place x.code x.long at < length x.text.words =
        ⊎_elim (λ paid. omega arith) (λ free.
        let passes = run_free (meaning_of z) x.code x.long 1 at last (omega arith) in
        let same = same_place x stands (at + 1) l last after (sym passes ∙ comes) in
        let more = place_mono x.code x.long at l (omega arith) in
        omega arith) (cases_lt 0 (words_by 1 (run.At at last)))
        in (
          here,
          omega arith,
          item_runs x stands log at l last after item.0 item.1 goes proper below,
        )
    landing log (suc (suc j)) at l last after le comes below proper = absurd (omega arith)

    -- ---- items that lead to an item
    last_proper : (least k : ℕ) (c : Machine) (at : ℕ) (last : Machine) → RunsTo z least k c at last → IsProperAt z at last
    last_proper least k c at last runs = subst (IsProper z) runs.comes (runs.proper runs.items (omega arith))

    farther : (least k : ℕ) (c : Machine) (at : ℕ) (last : Machine) (runs : RunsTo z least k c at last)
        → words_by runs.items (run.At k c) + place x.code x.long k ≤ place x.code x.long at
    farther least k c at last runs =
        let go = run_forward (meaning_of z) x.code x.long runs.items (run.At k c) runs.forward in
        let there : place_at x.code x.long (iterate (run.item_step (meaning_of z) x.code) runs.items (run.At k c)) ≡ place x.code x.long at =
        ap (place_at x.code x.long) runs.comes in
        omega arith

    leads_run : (log : Log) (least k : ℕ) (c : Machine) (at : ℕ) (last : Machine) (runs : RunsTo z least k c at last)
        → place x.code x.long at < length x.text.words
        → Ran e (words_by runs.items (run.At k c)) (at_item x log k c) (at_item x log at last)
    leads_run log least k c at last runs below = items_run x stands log runs.items k at c last runs.forward runs.comes runs.proper below

    -- ---- where the run lands
    pub record Reaches (least : ℕ) (log : Log) (next : air.Config) (k : ℕ) (c : Machine) : Type 0 where
      pub steps : ℕ
      pub last : Config
      pub most : steps + place x.code x.long k ≤ length x.text.words
      pub ran : Ran e steps (at_item x log k c) last
      pub alike : IsAlike next last
      pub rises : Rises next least k c steps

    module _ (is : IsCodeOfAir x.air x.frame x.code x.sites) where
      reaches_label : (least : ℕ) (log : Log) (b : ℕ) (s : State) (k : ℕ) (c : Machine) → 0 < b → b < length x.air.blocks → All IsRangedAnswer log.answers
          → Leads z least log (air.At b s) k c → Reaches least log (air.At b s) k c
      reaches_label least log b s k c some within ranged leads =
          let lands = leads.lands in
          let behind = is.behind x.long b within in
          let all = as_many_words x stands in
          let to = landing log lands.0 leads.at (position_of x.code b) leads.last lands.2 lands.1 lands.3 (omega arith)
          (last_proper least k c leads.at leads.last leads.runs) in
          let far = farther least k c leads.at leads.last leads.runs in
          let first = leads_run log least k c leads.at leads.last leads.runs to.0 in
          let items = leads.runs.items in
          let n = words_by items (run.At k c) in
          let j = words_by lands.0 (run.At leads.at leads.last) in
          let most = to.1 in
          record {
            steps = n + j;
            last = at_item x log (position_of x.code b) lands.2;
            most = omega arith;
            ran = ran_both e n j (at_item x log k c) (at_item x log leads.at leads.last) (at_item x log (position_of x.code b) lands.2) first to.2;
            alike = (
              some,
              within,
              subst (All IsRangedAnswer) (ap (λ (l : Log). l.answers) (sym lands.4)) ranged,
              lands.2,
              ap (λ l. at_item x l (position_of x.code b) lands.2) (sym lands.4),
              lands.5,
            );
            rises = λ free.
                let passes = run_free (meaning_of z) x.code x.long items k c (omega arith) in
                let same = same_place x stands (k + items) leads.at c leads.last (sym passes ∙ leads.runs.comes) in
                let lands_free = run_free (meaning_of z) x.code x.long lands.0 leads.at leads.last (omega arith) in
                let same_after = same_place x stands (leads.at + lands.0) (position_of x.code b) leads.last lands.2 (sym lands_free ∙ lands.3) in
                let here = same.0 in
                let there = same_after.0 in
                let some_items = leads.runs.some in
                (omega arith, subst (IsRelated z s) (sym (same.1 ∙ same_after.1)) lands.5);
          }

      reaches_end : (least : ℕ) (log : Log) (seen : Observation) (k : ℕ) (c : Machine) → Leads z least log (air.Stopped seen) k c
          → Reaches least log (air.Stopped seen) k c
      reaches_end least log seen k c leads =
          let stops = stops_here x stands log seen leads.at leads.last (last_proper least k c leads.at leads.last leads.runs) leads.lands in
          let behind = stops.behind in
          let far = farther least k c leads.at leads.last leads.runs in
          let n = words_by leads.runs.items (run.At k c) in
          record {
            steps = suc n;
            last = Stops seen;
            most = omega arith;
            ran = ran_more e n (at_item x log k c) (at_item x log leads.at leads.last) (Stops seen)
                (leads_run log least k c leads.at leads.last leads.runs (omega arith)) stops.step stops.proper;
            alike = refl;
            rises = omega arith;
          }

      reaches_by : (least : ℕ) (log : Log) (next : air.Config) (k : ℕ) (c : Machine) → IsTarget next → All IsRangedAnswer log.answers
          → Leads z least log next k c → Reaches least log next k c
      reaches_by least log (air.At b s) k c target ranged leads = reaches_label least log b s k c target.0 target.1 ranged leads
      reaches_by least log (air.Stopped seen) k c target ranged leads = reaches_end least log seen k c leads
      reaches_by least log air.Lost k c target ranged leads = absurd target

      -- ---- by way of the outside
      rises_so : (next : air.Config) (least k : ℕ) (c : Machine) (steps : ℕ) → 1 ≤ steps → Rises next least k c steps
      rises_so (air.At b s) least k c steps some = λ none. absurd (omega arith)
      rises_so (air.Stopped seen) least k c steps some = some
      rises_so air.Lost least k c steps some = some

      module _ (Rest : Log → ℕ → Machine → Type 0) (next : air.Config)
          (again : (log : Log) (k : ℕ) (c : Machine) → All IsRangedAnswer log.answers → Rest log k c → Reaches 0 log next k c)
          (least : ℕ) (log : Log) (k : ℕ) (c : Machine) (ranged : All IsRangedAnswer log.answers) (out : LeadsOut Rest z least log next k c) where
        abbrev passed : ℕ
        passed = words_by out.runs.items (run.At k c)

        its_proper : IsProperAt z out.at out.last
        its_proper = last_proper least k c out.at out.last out.runs

        comes_there : Ran e passed (at_item x log k c) (at_item x log out.at out.last)
        comes_there =
            let places = asks_places x stands log out.at out.last its_proper out.asks in
            leads_run log least k c out.at out.last out.runs (omega arith)

        -- one step of the world more
        one_more : (to : Config) → machine_step e (at_item x log out.at out.last) ≡ to → Ran e (suc passed) (at_item x log k c) to
        one_more to step =
            ran_more e passed (at_item x log k c) (at_item x log out.at out.last) to comes_there step
            (acts_moment x stands log out.at out.last its_proper out.asks)

        ends_there : (seen : Observation) → machine_step e (at_item x log out.at out.last) ≡ Stops seen → next ≡ air.Stopped seen → Reaches least log next k c
        ends_there seen step is =
            let far = farther least k c out.at out.last out.runs in
            let places = asks_places x stands log out.at out.last its_proper out.asks in
            subst (λ a. Reaches least log a k c) (sym is) (record {
              steps = suc passed;
              last = Stops seen;
              most = omega arith;
              ran = one_more (Stops seen) step;
              alike = refl;
              rises = omega arith;
            })

        reaches_out : (answers : List Answer) → log.answers ≡ answers → Takes Rest z log.events answers next out.at out.last out.asks
            → Reaches least log next k c
        reaches_out [] are takes =
            ends_there (seen_at z (logged x stands log out.at out.last its_proper out.asks []) out.asks.found Waiting)
            (asks_waits x stands log out.at out.last its_proper out.asks are) takes
        reaches_out (Leave ∷ rest) are takes =
            ends_there (seen_at z (logged x stands log out.at out.last its_proper out.asks rest) out.asks.found Left)
            (asks_leaves x stands log out.at out.last its_proper out.asks rest are) takes
        reaches_out (Give value writes ∷ rest) are takes =
            let log_then = logged x stands log out.at out.last its_proper out.asks rest in
            let at_then = out.at + out.asks.site.size in
            let c_then = after_event z out.at out.last out.asks (length log.events) value writes in
            let ranged_then = All-tail IsRangedAnswer (Give value writes) rest (subst (All IsRangedAnswer) are ranged) in
            let more = again log_then at_then c_then ranged_then takes in
            let far = farther least k c out.at out.last out.runs in
            let places = asks_places x stands log out.at out.last its_proper out.asks in
            let behind = more.most in
            record {
              steps = suc passed + more.steps;
              last = more.last;
              most = omega arith;
              ran = ran_both e (suc passed) more.steps (at_item x log k c) (at_item x log_then at_then c_then) more.last
                  (one_more (at_item x log_then at_then c_then) (asks_goes x stands log out.at out.last its_proper out.asks value writes rest are)) more.ran;
              alike = more.alike;
              rises = rises_so next least k c (suc passed + more.steps) (omega arith);
            }

      reaches : (n least : ℕ) (log : Log) (next : air.Config) (k : ℕ) (c : Machine) → IsTarget next → All IsRangedAnswer log.answers
          → LeadsBy n z least log next k c → Reaches least log next k c
      unfolding LeadsBy
      reaches zero least log next k c target ranged leads = reaches_by least log next k c target ranged leads
      reaches (suc n) least log next k c target ranged (inl leads) = reaches_by least log next k c target ranged leads
      reaches (suc n) least log next k c target ranged (inr out) =
          reaches_out (λ log k c. LeadsBy n z 0 log next k c) next (λ log k c ranged rest. reaches n 0 log next k c target ranged rest) least log k c ranged out
          log.answers refl out.takes

      pub comes : (sites : ℕ) (log : Log) (next : air.Config) (k : ℕ) (c : Machine) → IsTarget next → All IsRangedAnswer log.answers
          → LeadsBy sites z 1 log next k c → Comes log next k c
      comes sites log next k c target ranged leads =
          let r = reaches sites 1 log next k c target ranged leads in
          record {
            steps = r.steps;
            most = r.most;
            proper = λ i less. proper_for next (iterate (machine_step e) i (at_item x log k c)) (r.ran.1 i less);
            alike = subst (IsAlike next) (sym r.ran.0) r.alike;
            rises = r.rises;
          }
