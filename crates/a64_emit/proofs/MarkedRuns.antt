-- Runs of items that are instructions and marks.
use Rattle.std.proofs.Common.{◌≡◌, ℕ, suc, ◌+◌, ◌^◌, ◌<◌, Bool, true, false, List, [], ◌∷◌, ◌++◌, Some, length, refl, sym, ap, ◌∙◌, subst, arith}
use Rattle.std.specs.Prelude.{slice_get}
use Rattle.stackmap.specs.declared.site.Site.{Site}
use Rattle.a64_inst.specs.declared.inst.Inst.{Inst}
use Rattle.a64_inst.specs.declared.item.Item.{Item}
use Rattle.a64_inst.specs.declared.item.Item.TheVariants.{Mark, Plain}
use Rattle.a64_layout.specs.Branch.{size_in}
use Rattle.a64_layout.specs.Layout.{place}
use Rattle.a64_layout.specs.Machine.{Machine, moved_to}
use Rattle.a64_layout.specs.Run as run
use Rattle.a64_layout.proofs.Least.{place-next, place_mono}
use Rattle.a64_emit.specs.Code.{marked_if, with_mark}
use Rattle.a64_emit.specs.Emitted.{IsProperAt, IsSafeItem}
use Rattle.a64_code.specs.Places.{plains}
use Rattle.a64_emit.specs.Setting.{IsSet, Setting, address_of, meaning_of, site_before}
use Rattle.a64_emit.proofs.Positions.{Among, among_rest}
use Rattle.a64_emit.proofs.Straight.{Does, IsWhole, Runs, does_alike, plain_step, proper_here, runs_more, runs_none, whole_alike}
use Rattle.a64_emit.proofs.Trees.{Each, each_append}

-- the instructions among some items
abbrev pub insts_of : List Item → List Inst
insts_of [] = []
insts_of (Plain inst ∷ items) = inst ∷ insts_of items
insts_of (item ∷ items) = insts_of items

-- an instruction or a mark
abbrev pub IsPassed : Item → Type 0
IsPassed (Plain inst) = Unit {0}
IsPassed (Mark mark) = Unit {0}
IsPassed item = ⊥

pub plains_passed : (insts : List Inst) → Each IsPassed (plains insts)
plains_passed [] = tt
plains_passed (inst ∷ insts) = (tt, plains_passed insts)

pub insts_plains : (insts : List Inst) → insts_of (plains insts) ≡ insts
insts_plains [] = refl
insts_plains (inst ∷ insts) = ap (λ (xs : List Inst). inst ∷ xs) (insts_plains insts)

insts_append : (xs ys : List Item) → Each IsPassed xs → insts_of (xs ++ ys) ≡ insts_of xs ++ insts_of ys
insts_append [] ys passed = refl
insts_append (Plain inst ∷ xs) ys passed = ap (λ (zs : List Inst). inst ∷ zs) (insts_append xs ys passed.1)
insts_append (Mark mark ∷ xs) ys passed = insts_append xs ys passed.1
insts_append (item ∷ xs) ys passed = absurd passed.0

if_passed : (marks : Bool) (mark : ℕ) → Each IsPassed (marked_if marks mark)
if_passed true mark = (tt, tt)
if_passed false mark = tt

insts_if : (marks : Bool) (mark : ℕ) → insts_of (marked_if marks mark) ≡ []
insts_if true mark = refl
insts_if false mark = refl

-- what stands before the mark's instruction
pub front_passed : (marks : Bool) (mark : ℕ) (before : List Inst) → Each IsPassed (plains before ++ marked_if marks mark)
front_passed marks mark before = each_append IsPassed (plains before) (marked_if marks mark) (plains_passed before) (if_passed marks mark)

pub front_insts : (marks : Bool) (mark : ℕ) (before : List Inst) → insts_of (plains before ++ marked_if marks mark) ≡ before ++ []
front_insts marks mark before =
    insts_append (plains before) (marked_if marks mark) (plains_passed before)
    ∙ ap (λ (xs : List Inst). xs ++ insts_of (marked_if marks mark)) (insts_plains before)
    ∙ ap (λ (xs : List Inst). before ++ xs) (insts_if marks mark)

pub with_mark_passed : (marks : Bool) (mark : ℕ) (before behind : List Inst) → Each IsPassed (with_mark marks mark before behind)
with_mark_passed marks mark before behind =
    each_append IsPassed (plains before ++ marked_if marks mark) (plains behind) (front_passed marks mark before) (plains_passed behind)

pub with_mark_insts : (marks : Bool) (mark : ℕ) (before behind : List Inst) → insts_of (with_mark marks mark before behind) ≡ (before ++ []) ++ behind
with_mark_insts marks mark before behind =
    insts_append (plains before ++ marked_if marks mark) (plains behind) (front_passed marks mark before)
    ∙ ap (λ (xs : List Inst). xs ++ insts_of (plains behind)) (front_insts marks mark before)
    ∙ ap (λ (xs : List Inst). (before ++ []) ++ xs) (insts_plains behind)

-- where a run ends in a whole machine it begins in one
does_whole : (z : Setting) (c d : Machine) (insts : List Inst) → Does z c insts d → IsWhole z d → IsWhole z c
unfolding Does
does_whole z c d [] does whole = whole_alike z c d does whole
does_whole z c d (inst ∷ insts) does whole = does.1.whole

mark_proper : (z : Setting) (k mark : ℕ) (c : Machine) → slice_get z.code k ≡ Some (Mark mark) → IsWhole z c → IsProperAt z k c
mark_proper z k mark c there whole = record {
  aligned = whole.aligned;
  whole = whole.whole;
  safe = subst (IsSafeItem z (moved_to (address_of z k) c)) (sym there) tt;
}

pub mark_step : (z : Setting) (k mark : ℕ) (c : Machine) → slice_get z.code k ≡ Some (Mark mark)
    → run.item_step (meaning_of z) z.code (run.At k c) ≡ run.At (k + 1) c
unfolding run.item_step
mark_step z k mark c there = rw there refl

module _ (z : Setting) (set : IsSet z) where
  pub marked_runs : (k : ℕ) (c d : Machine) (items : List Item) → Each IsPassed items → Does z c (insts_of items) d → IsWhole z d
      → c.registers.pc < 2 ^ 64 → Among z.code k items → place z.code z.long (k + length items) < place z.code z.long (length z.code)
      → Runs z k c (length items) d
  unfolding Does
  marked_runs k c d [] passed does whole small among room = runs_none z k c d does
  marked_runs k c d (Plain inst ∷ items) passed does whole small among room =
      let here : slice_get z.code k ≡ Some (Plain inst) = ap (slice_get z.code) (omega arith) ∙ among 0 (Plain inst) refl in
      let more : k + 1 + length items ≡ k + length (Plain inst ∷ items) = omega arith in
      let next = place-next z.code z.long k in
      let size : size_in (z.long k) (slice_get z.code k) ≡ 1 = ap (size_in (z.long k)) here in
      let up = place_mono z.code z.long (k + 1) (k + length (Plain inst ∷ items)) (omega arith) in
      let ends = set.ends in
      let fits : address_of z k + 4 < 2 ^ 64 = omega arith in
      let e : Machine = moved_to (address_of z k + 4) does.0 in
      runs_more z k c e (length items) d
      (plain_step z set k inst c does.0 here fits does.1) (proper_here z set k inst c does.0 here does.1) (omega arith)
      (marked_runs (k + 1) e d items passed.1 (does_alike z e does.0 d (insts_of items) refl does.2) whole (omega arith)
      (among_rest z.code k (Plain inst ∷ []) items among)
      (subst (λ n. place z.code z.long n < place z.code z.long (length z.code)) (sym more) room))
  marked_runs k c d (Mark mark ∷ items) passed does whole small among room =
      let here : slice_get z.code k ≡ Some (Mark mark) = ap (slice_get z.code) (omega arith) ∙ among 0 (Mark mark) refl in
      let more : k + 1 + length items ≡ k + length (Mark mark ∷ items) = omega arith in
      runs_more z k c c (length items) d (mark_step z k mark c here) (mark_proper z k mark c here (does_whole z c d (insts_of items) does whole)) small
      (marked_runs (k + 1) c d items passed.1 does whole small (among_rest z.code k (Mark mark ∷ []) items among)
      (subst (λ n. place z.code z.long n < place z.code z.long (length z.code)) (sym more) room))
  marked_runs k c d (item ∷ items) passed does whole small among room = absurd passed.0

-- the site of a mark that stands right before an item
pub site_there : (z : Setting) (k mark : ℕ) (site : Site) → slice_get z.code k ≡ Some (Mark mark) → slice_get z.sites mark ≡ Some site
    → site_before z (k + 1) ≡ Some site
site_there z k mark site there at =
    let e : k + 1 ≡ suc k = omega arith in
    ap (site_before z) e ∙ rw there at
