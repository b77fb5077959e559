-- Straight code: instructions that each go on to the next one.
use Rattle.std.proofs.Common.{◌≡◌, ℕ, zero, suc, ◌+◌, ◌%◌, ◌^◌, ◌<◌, ◌≤◌, true, inl, inr, ⊎_elim, List, [], ◌∷◌, ◌++◌, Option, Some, None, length, refl, sym, ap, ◌∙◌, subst, arith, add-one, eq-eqb}
use Rattle.std.specs.Prelude.{slice_get, if◌then◌else◌}
use Rattle.b3_base.specs.Run.{iterate}
use Rattle.b3_base.proofs.Run.{iterate-zero, iterate-one, iterate-suc, iterate-add, moments_joined}
use Rattle.a64_inst.specs.Step.{Stepped, step_of, goes_on}
use Rattle.a64_inst.specs.declared.inst.Inst.{Inst}
use Rattle.a64_inst.specs.declared.item.Item.TheVariants.{Plain}
use Rattle.air_ir.specs.Blocks.{Config as AirConfig, Lost}
use Rattle.a64_layout.specs.Branch.{size_in}
use Rattle.a64_layout.specs.Layout.{place}
use Rattle.a64_layout.specs.Machine.{Machine, goes_on_at, instruction_does, machine_of, moved_to, outside_at}
use Rattle.a64_layout.specs.Run.{At, Config, Ends, GoForward, GoesOn, Goes, Outcome, after, item_step, mark_before}
use Rattle.a64_layout.proofs.Least.{place-next, place_mono}
use Rattle.a64_run.specs.Placement.{in_frame}
use Rattle.a64_emit.specs.Emitted.{IsProper, IsProperAt, IsSafe, IsSafeItem, Lands, Leads, LeadsBy, LeadsOut, Log, RunsTo}
use Rattle.a64_emit.specs.Setting.{IsSet, Setting, address_of, meaning_of, nothing, row}

-- two machines that differ in pc alone
abbrev pub AreAlike : Machine → Machine → Type 0
AreAlike c d = moved_to 0 c ≡ moved_to 0 d

pub alike_at : (c d : Machine) (a : ℕ) → AreAlike c d → moved_to a c ≡ moved_to a d
alike_at c d a same = ap (moved_to a) same

-- SP is aligned and the frame's bytes are there
pub record IsWhole (z : Setting) (c : Machine) : Type 0 where
  pub aligned : c.registers.sp % 16 ≡ 0
  pub whole : (address : ℕ) → in_frame (row z) z.entry address ≡ true → (byte : ℕ) × (c.memory address ≡ Some byte)

pub whole_alike : (z : Setting) (c d : Machine) → AreAlike c d → IsWhole z d → IsWhole z c
whole_alike z c d same w = record {
  aligned = ap (λ (e : Machine). e.registers.sp % 16) same ∙ w.aligned;
  whole = λ address inside. let byte = w.whole address inside in (byte.0, ap (λ (e : Machine). e.memory address) same ∙ byte.1);
}

-- an instruction goes on from one machine to another, pc aside, and is safe
pub record DoesOne (z : Setting) (c : Machine) (inst : Inst) (d : Machine) : Type 0 where
  pub does : (a : ℕ) → step_of inst (moved_to a c).registers c.memory ≡ goes_on (moved_to a d).registers d.memory
  pub safe : (a : ℕ) → IsSafe z (moved_to a c) inst
  pub whole : IsWhole z c

-- and instructions do, one after the other
unfoldable pub Does : Setting → Machine → List Inst → Machine → Type 0
Does z c [] d = AreAlike c d
Does z c (inst ∷ insts) d = (e : Machine) × DoesOne z c inst e × Does z e insts d

pub does_none : (z : Setting) (c : Machine) → Does z c [] c
unfolding Does
does_none z c = refl

pub does_first : (z : Setting) (c e d : Machine) (inst : Inst) (insts : List Inst) → DoesOne z c inst e → Does z e insts d → Does z c (inst ∷ insts) d
unfolding Does
does_first z c e d inst insts one rest = (e, one, rest)

pub does_one : (z : Setting) (c e : Machine) (inst : Inst) → DoesOne z c inst e → Does z c (inst ∷ []) e
does_one z c e inst one = does_first z c e e inst [] one (does_none z e)

-- from a machine that differs in pc alone
does_one_alike : (z : Setting) (c d e : Machine) (inst : Inst) → AreAlike c d → DoesOne z d inst e → DoesOne z c inst e
does_one_alike z c d e inst same one = record {
  does = λ a. ap (λ (x : Machine). step_of inst x.registers x.memory) (alike_at c d a same) ∙ one.does a;
  safe = λ a. subst (λ (x : Machine). IsSafe z x inst) (sym (alike_at c d a same)) (one.safe a);
  whole = whole_alike z c d same one.whole;
}

pub does_alike : (z : Setting) (c d e : Machine) (insts : List Inst) → AreAlike c d → Does z d insts e → Does z c insts e
unfolding Does
does_alike z c d e [] same does = same ∙ does
does_alike z c d e (inst ∷ insts) same does = (does.0, does_one_alike z c d does.0 inst same does.1, does.2)

pub does_both : (z : Setting) (c d e : Machine) (insts more : List Inst) → Does z c insts d → Does z d more e → Does z c (insts ++ more) e
unfolding Does
does_both z c d e [] more first rest = does_alike z c d e more first rest
does_both z c d e (inst ∷ insts) more first rest = (first.0, first.1, does_both z first.0 d e insts more first.2 rest)

-- ---- runs of items

-- n items lead from item k to item k + n and to a machine like this one, pc aside: each goes farther on, and each moment
-- before the end is proper
pub record Runs (z : Setting) (k : ℕ) (c : Machine) (n : ℕ) (d : Machine) : Type 0 where
  pub last : Machine
  pub alike : AreAlike last d
  pub comes : iterate (item_step (meaning_of z) z.code) n (At k c) ≡ At (k + n) last
  pub forward : GoForward (meaning_of z) z.code n (At k c)
  pub proper : (i : ℕ) → i < n → IsProper z (iterate (item_step (meaning_of z) z.code) i (At k c))
  pub small : c.registers.pc < 2 ^ 64 → last.registers.pc < 2 ^ 64

forward_zero : (z : Setting) (a : Config Machine Inst) → GoForward (meaning_of z) z.code 0 a
unfolding GoForward
forward_zero z a = tt

forward_more : (z : Setting) (n : ℕ) (a : Config Machine Inst) → GoesOn a (item_step (meaning_of z) z.code a)
    → GoForward (meaning_of z) z.code n (item_step (meaning_of z) z.code a) → GoForward (meaning_of z) z.code (suc n) a
unfolding GoForward
forward_more z n a first rest = (first, rest)

pub forward_both : (z : Setting) (m n : ℕ) (a : Config Machine Inst) → GoForward (meaning_of z) z.code m a
    → GoForward (meaning_of z) z.code n (iterate (item_step (meaning_of z) z.code) m a) → GoForward (meaning_of z) z.code (m + n) a
unfolding GoForward
forward_both z zero n a first rest =
    subst (λ k. GoForward (meaning_of z) z.code k a) (omega arith)
    (subst (GoForward (meaning_of z) z.code n) (iterate-zero (item_step (meaning_of z) z.code) a) rest)
forward_both z (suc m) n a first rest =
    let e : suc (m + n) ≡ suc m + n = omega arith in
    subst (λ k. GoForward (meaning_of z) z.code k a) e (
      first.0,
      forward_both z m n (item_step (meaning_of z) z.code a) first.1
          (subst (GoForward (meaning_of z) z.code n) (iterate-suc (item_step (meaning_of z) z.code) m a) rest),
    )

pub runs_none : (z : Setting) (k : ℕ) (c d : Machine) → AreAlike c d → Runs z k c 0 d
runs_none z k c d same = record {
  last = c;
  alike = same;
  comes = iterate-zero (item_step (meaning_of z) z.code) (At k c) ∙ ap (λ j. At j c) (omega arith);
  forward = forward_zero z (At k c);
  proper = λ i below. absurd (omega arith);
  small = λ lt. lt;
}

-- one step to the next item, and a run from there
pub runs_more : (z : Setting) (k : ℕ) (c e : Machine) (n : ℕ) (d : Machine) → item_step (meaning_of z) z.code (At k c) ≡ At (k + 1) e
    → IsProperAt z k c → e.registers.pc < 2 ^ 64 → Runs z (k + 1) e n d → Runs z k c (suc n) d
runs_more z k c e n d step here small rest = record {
  last = rest.last;
  alike = rest.alike;
  comes = iterate-suc (item_step (meaning_of z) z.code) n (At k c) ∙ ap (iterate (item_step (meaning_of z) z.code) n) step ∙ rest.comes
      ∙ ap (λ j. At j rest.last) (omega arith);
  forward = forward_more z n (At k c) (subst (GoesOn (At k c)) (sym step) (omega arith)) (subst (GoForward (meaning_of z) z.code n) (sym step) rest.forward);
  proper = λ j within. moments_joined (item_step (meaning_of z) z.code) (IsProper z) 1 n (At k c)
      (λ i below. let none : i ≡ 0 = omega arith in
      subst (IsProper z) (sym (ap (λ (j : ℕ). iterate (item_step (meaning_of z) z.code) j (At k c)) none
      ∙ iterate-zero (item_step (meaning_of z) z.code) (At k c))) here)
      (λ i below. subst (λ a. IsProper z (iterate (item_step (meaning_of z) z.code) i a)) (sym (iterate-one (item_step (meaning_of z) z.code) (At k c)
      ∙ step)) (rest.proper i below))
      j (omega arith);
  small = λ lt. rest.small small;
}

-- items lead to where the run lands, where none may be needed; a run that is lost leads anywhere
abbrev pub Reaches : Setting → Log → AirConfig → ℕ → Machine → Type 0
Reaches z log next k c = (sites : ℕ) × LeadsBy sites z 0 log next k c

abbrev pub ReachesUnlessLost : Setting → Log → AirConfig → ℕ → Machine → Type 0
ReachesUnlessLost z log Lost k c = Unit {0}
ReachesUnlessLost z log next k c = Reaches z log next k c

-- no item is needed
pub runs_here : (z : Setting) (k : ℕ) (c : Machine) → IsProperAt z k c → RunsTo z 0 k c k c
runs_here z k c here = record {
  items = 0;
  some = omega arith;
  forward = forward_zero z (At k c);
  comes = iterate-zero (item_step (meaning_of z) z.code) (At k c);
  proper = λ i le. let none : i ≡ 0 = omega arith in
      subst (IsProper z) (sym (ap (λ (j : ℕ). iterate (item_step (meaning_of z) z.code) j (At k c)) none
      ∙ iterate-zero (item_step (meaning_of z) z.code) (At k c))) here;
}

pub leads_of : (z : Setting) (log : Log) (next : AirConfig) (k : ℕ) (c : Machine) → Leads z 0 log next k c → Reaches z log next k c
unfolding LeadsBy
leads_of z log next k c leads = (0, leads)

pub reaches_here : (z : Setting) (log : Log) (next : AirConfig) (k : ℕ) (c : Machine) → IsProperAt z k c → Lands z log next k c → Reaches z log next k c
reaches_here z log next k c here lands = leads_of z log next k c (record { at = k; last = c; runs = runs_here z k c here; lands = lands })

-- n items that each go farther on, from one item to another one
pub record Passes (z : Setting) (n k : ℕ) (c : Machine) (l : ℕ) (d : Machine) : Type 0 where
  pub comes : iterate (item_step (meaning_of z) z.code) n (At k c) ≡ At l d
  pub forward : GoForward (meaning_of z) z.code n (At k c)
  pub proper : (i : ℕ) → i < n → IsProper z (iterate (item_step (meaning_of z) z.code) i (At k c))

pub runs_pass : (z : Setting) (k n : ℕ) (c d : Machine) → (runs : Runs z k c n d) → Passes z n k c (k + n) runs.last
runs_pass z k n c d runs = record { comes = runs.comes; forward = runs.forward; proper = runs.proper }

-- one item, which leads to a later one
pub one_passes : (z : Setting) (k l : ℕ) (c d : Machine) → k < l → IsProperAt z k c → item_step (meaning_of z) z.code (At k c) ≡ At l d
    → Passes z 1 k c l d
one_passes z k l c d lt here step = record {
  comes = iterate-one (item_step (meaning_of z) z.code) (At k c) ∙ step;
  forward = forward_more z 0 (At k c) (subst (GoesOn (At k c)) (sym step) lt) (forward_zero z (item_step (meaning_of z) z.code (At k c)));
  proper = λ i below. let none : i ≡ 0 = omega arith in
      subst (IsProper z) (sym (ap (λ (j : ℕ). iterate (item_step (meaning_of z) z.code) j (At k c)) none
      ∙ iterate-zero (item_step (meaning_of z) z.code) (At k c))) here;
}

pub runs_on : (z : Setting) (least some n k l at : ℕ) (c d last : Machine) → some ≤ n + least → Passes z n k c l d → RunsTo z least l d at last
    → RunsTo z some k c at last
runs_on z least some n k l at c d last le first rest = record {
  items = n + rest.items;
  some = omega (arith, rest.some);
  forward = forward_both z n rest.items (At k c) first.forward (subst (GoForward (meaning_of z) z.code rest.items) (sym first.comes) rest.forward);
  comes = iterate-add (item_step (meaning_of z) z.code) n rest.items (At k c) ∙ ap (iterate (item_step (meaning_of z) z.code) rest.items) first.comes
      ∙ rest.comes;
  proper = λ i le. moments_joined (item_step (meaning_of z) z.code) (IsProper z) n (suc rest.items) (At k c) first.proper
      (λ j below. subst (λ a. IsProper z (iterate (item_step (meaning_of z) z.code) j a)) (sym first.comes) (rest.proper j (omega arith))) i (omega arith);
}

-- and what leads on from there
leads_past : (z : Setting) (sites least some : ℕ) (log : Log) (next : AirConfig) (n k l : ℕ) (c d : Machine) → some ≤ n + least
    → Passes z n k c l d → LeadsBy sites z least log next l d → LeadsBy sites z some log next k c
unfolding LeadsBy
leads_past z zero least some log next n k l c d le first rest =
    record { at = rest.at; last = rest.last; runs = runs_on z least some n k l rest.at c d rest.last le first rest.runs; lands = rest.lands }
leads_past z (suc sites) least some log next n k l c d le first rest =
    ⊎_elim
    (λ (on : Leads z least log next l d). inl (record {
      at = on.at;
      last = on.last;
      runs = runs_on z least some n k l on.at c d on.last le first on.runs;
      lands = on.lands;
    }))
    (λ (out : LeadsOut (λ log k c. LeadsBy sites z 0 log next k c) z least log next l d). inr (record {
      at = out.at;
      last = out.last;
      runs = runs_on z least some n k l out.at c d out.last le first out.runs;
      asks = out.asks;
      takes = out.takes;
    }))
    rest

pub passes_on : (z : Setting) (log : Log) (next : AirConfig) (n k l : ℕ) (c d : Machine) → Passes z n k c l d → Reaches z log next l d
    → Reaches z log next k c
passes_on z log next n k l c d first rest = (rest.0, leads_past z rest.0 0 0 log next n k l c d (omega arith) first rest.1)

-- a run, and what leads on from its end
pub leads_on : (z : Setting) (log : Log) (next : AirConfig) (k n : ℕ) (c d : Machine) → (runs : Runs z k c n d)
    → Reaches z log next (k + n) runs.last → Reaches z log next k c
leads_on z log next k n c d runs rest = passes_on z log next n k (k + n) c runs.last (runs_pass z k n c d runs) rest

-- one item, which leads to a later one, and what leads on from there
pub leads_over : (z : Setting) (log : Log) (next : AirConfig) (k l : ℕ) (c : Machine) → k < l → IsProperAt z k c
    → item_step (meaning_of z) z.code (At k c) ≡ At l c → Reaches z log next l c → Reaches z log next k c
leads_over z log next k l c lt here step rest = passes_on z log next 1 k l c c (one_passes z k l c c lt here step) rest

-- behind at least one item
pub leads_by : (z : Setting) (log : Log) (next : AirConfig) (k n : ℕ) (c d : Machine) → 1 ≤ n → (runs : Runs z k c n d)
    → Reaches z log next (k + n) runs.last → (sites : ℕ) × LeadsBy sites z 1 log next k c
leads_by z log next k n c d some runs rest =
    (rest.0, leads_past z rest.0 0 1 log next n k (k + n) c runs.last (omega arith) (runs_pass z k n c d runs) rest.1)

-- ---- the step of an instruction

does_nothing : (mark : Option ℕ) (c : Machine) → outside_at nothing mark c ≡ None
does_nothing None c = refl
does_nothing (Some mark) c = refl

module _ (z : Setting) (set : IsSet z) where
  after_goes : (address : ℕ) (inst : Inst) (c d : Machine) → address + 4 < 2 ^ 64
      → step_of inst (moved_to address c).registers c.memory ≡ goes_on (moved_to address d).registers d.memory
      → instruction_does address inst c ≡ Goes 1 (moved_to (address + 4) d)
  after_goes address inst c d small does =
      let f : Stepped → Outcome Machine Inst = λ t. if goes_on_at (address + 4) t then Goes 1 (machine_of t) else Ends inst (machine_of t) in
      let e : (address + 4) % 2 ^ 64 ≡ address + 4 = omega arith in
      ap f does ∙ rw (e, eq-eqb (address + 4) (address + 4) refl) refl

  pub plain_step : (k : ℕ) (inst : Inst) (c d : Machine) → slice_get z.code k ≡ Some (Plain inst) → address_of z k + 4 < 2 ^ 64
      → DoesOne z c inst d → item_step (meaning_of z) z.code (At k c) ≡ At (k + 1) (moved_to (address_of z k + 4) d)
  unfolding item_step
  plain_step k inst c d there small one = rw (there, does_nothing (mark_before z.code k) (moved_to (address_of z k) c)) (ap (after k) (after_goes (address_of z k) inst c d small (one.does (address_of z k))))

  pub proper_here : (k : ℕ) (inst : Inst) (c d : Machine) → slice_get z.code k ≡ Some (Plain inst) → DoesOne z c inst d → IsProperAt z k c
  proper_here k inst c d there one = record {
    aligned = one.whole.aligned;
    whole = one.whole.whole;
    safe = subst (IsSafeItem z (moved_to (address_of z k) c)) (sym there) (one.safe (address_of z k));
  }

  -- instructions stand among the items from item k on
  abbrev pub Stand : ℕ → List Inst → Type 0
  Stand k insts = (j : ℕ) (inst : Inst) → slice_get insts j ≡ Some inst → slice_get z.code (k + j) ≡ Some (Plain inst)

  pub straight_runs : (k : ℕ) (c d : Machine) (insts : List Inst) → Does z c insts d → Stand k insts
      → place z.code z.long (k + length insts) < place z.code z.long (length z.code) → Runs z k c (length insts) d
  unfolding Does
  straight_runs k c d [] does stand room = runs_none z k c d does
  straight_runs k c d (inst ∷ insts) does stand room =
      let here : slice_get z.code k ≡ Some (Plain inst) = subst (λ n. slice_get z.code n ≡ Some (Plain inst)) (omega arith) (stand 0 inst refl) in
      let more : k + 1 + length insts ≡ k + length (inst ∷ insts) = omega arith in
      let next = place-next z.code z.long k in
      let size : size_in (z.long k) (slice_get z.code k) ≡ 1 = ap (size_in (z.long k)) here in
      let up = place_mono z.code z.long (k + 1) (k + length (inst ∷ insts)) (omega arith) in
      let ends = set.ends in
      let small : address_of z k + 4 < 2 ^ 64 = omega arith in
      runs_more z k c (moved_to (address_of z k + 4) does.0) (length insts) d
      (plain_step k inst c does.0 here small does.1) (proper_here k inst c does.0 here does.1) (omega arith)
      (straight_runs (k + 1) (moved_to (address_of z k + 4) does.0) d insts (does_alike z (moved_to (address_of z k + 4) does.0) does.0 d insts refl does.2)
      (λ j other there. subst (λ n. slice_get z.code n ≡ Some (Plain other)) (omega arith) (stand (j + 1) other (rw add-one there)))
      (subst (λ n. place z.code z.long n < place z.code z.long (length z.code)) (sym more) room))
