-- Which mark stands at the place of an item, where each mark stands right before an instruction.
use Rattle.std.proofs.Common.{◌≡◌, ◌≢◌, ℕ, zero, suc, ◌+◌, ◌<◌, ⊎_elim, Option, Some, None, List, refl, sym, ap, ◌∙◌, arith}
use Rattle.std.specs.Prelude.{slice_get}
use Rattle.std.proofs.lemmas.Bool.{cases_lt}
use Rattle.a64_inst.specs.declared.inst.Inst.{Inst}
use Rattle.a64_inst.specs.declared.item.Item.{Item}
use Rattle.a64_inst.specs.declared.item.Item.TheVariants.{Plain, Jump, If, IfZero, IfBit, Label, Mark}
use Rattle.a64_layout.specs.Branch.{size_in}
use Rattle.a64_layout.specs.Layout.{Set, place}
use Rattle.a64_layout.specs.Run.{IsMarked, IsWellMarked, mark_before, mark_in}
use Rattle.a64_layout.specs.Text.{mark_count, mark_position_of, IsWellLabelled}
use Rattle.a64_layout.proofs.Labels.{mark_stands}
use Rattle.a64_layout.proofs.Least.{place_mono, place-next}

pub mark_in_is : (o : Option Item) (mark : ℕ) → mark_in o ≡ Some mark → o ≡ Some (Mark mark)
mark_in_is None mark e = cc
mark_in_is (Some (Mark other)) mark e = let same : other ≡ mark = cc in ap (λ n. Some (Mark n)) same
mark_in_is (Some (Plain inst)) mark e = cc
mark_in_is (Some (Jump label)) mark e = cc
mark_in_is (Some (If cond label)) mark e = cc
mark_in_is (Some (IfZero width nonzero reg label)) mark e = cc
mark_in_is (Some (IfBit nonzero reg at label)) mark e = cc
mark_in_is (Some (Label label)) mark e = cc

pub none_some : (mark : ℕ) → None ≡ Some mark → ⊥
none_some mark e = cc

some_none : (mark : ℕ) → Some mark ≡ None → ⊥
some_none mark e = cc

module _ (items : List Item) (good : IsWellLabelled items) (marked : IsWellMarked items) (long : Set) where
  -- a mark takes no word, and the instruction after it takes one
  pub at_mark : (p mark : ℕ) → slice_get items p ≡ Some (Mark mark)
      → (place items long (p + 1) ≡ place items long p) × (place items long (p + 1 + 1) ≡ place items long p + 1)
  at_mark p mark there =
      let inst = marked p mark there in
      let first = place-next items long p in
      let second = place-next items long (p + 1) in
      let none : size_in (long p) (slice_get items p) ≡ 0 = ap (size_in (long p)) there in
      let one : size_in (long (p + 1)) (slice_get items (p + 1)) ≡ 1 = ap (size_in (long (p + 1))) inst.1 in
      (omega arith, omega arith)

  -- the one position of a mark
  position_is : (p mark : ℕ) → slice_get items p ≡ Some (Mark mark) → mark_position_of items mark ≡ p
  position_is p mark there =
      let below = good.marks p mark there in
      good.mark_once (mark_position_of items mark) p mark (mark_stands items mark (good.mark_there mark below)) there

  -- a mark at the place of an item that takes words stands right before it, and it is an instruction
  pub mark_at_place : (k mark : ℕ) → mark < mark_count items → place items long k < place items long (k + 1)
      → place items long (mark_position_of items mark) ≡ place items long k → mark_position_of items mark + 1 ≡ k
  mark_at_place k mark below takes same =
      let p = mark_position_of items mark in
      let there = mark_stands items mark (good.mark_there mark below) in
      let words = at_mark p mark there in
      let none = words.0 in
      let one = words.1 in
      ⊎_elim
      (λ before.
      ⊎_elim
      (λ later. let up = place_mono items long (p + 1 + 1) k (omega arith) in absurd (omega arith))
      (λ next. omega arith)
      (cases_lt (p + 1) k))
      (λ past.
      ⊎_elim
      (λ more. let up = place_mono items long (k + 1) p (omega arith) in absurd (omega arith))
      (λ less. let e : p ≡ k = omega arith in let at_k : place items long (p + 1) ≡ place items long (k + 1) = ap (λ n. place items long (n + 1)) e in
      absurd (omega arith))
      (cases_lt k p))
      (cases_lt p k)

  -- no mark stands inside an item
  pub inside_unmarked : (k here : ℕ) → place items long k < here → here < place items long (k + 1) → IsMarked items long here None
  inside_unmarked k here after before mark below same =
      ⊎_elim
      (λ lt. let up = place_mono items long (k + 1) (mark_position_of items mark) (omega arith) in omega arith)
      (λ ge. let up = place_mono items long (mark_position_of items mark) k ge in omega arith)
      (cases_lt k (mark_position_of items mark))

  not_plain_unmarked : (k mark : ℕ) → mark < mark_count items → place items long k < place items long (k + 1)
      → ((inst : Inst) → slice_get items k ≡ Some (Plain inst) → ⊥) → place items long (mark_position_of items mark) ≢ place items long k
  not_plain_unmarked k mark below takes other same =
      let next = mark_at_place k mark below takes same in
      let inst = marked (mark_position_of items mark) mark (mark_stands items mark (good.mark_there mark below)) in
      other inst.0 (ap (slice_get items) (sym next) ∙ inst.1)

  -- nor at a branch
  pub branch_unmarked : (k : ℕ) → place items long k < place items long (k + 1) → ((inst : Inst) → slice_get items k ≡ Some (Plain inst) → ⊥)
      → IsMarked items long (place items long k) None
  branch_unmarked k takes other mark below = not_plain_unmarked k mark below takes other

  marked_by : (k : ℕ) (o : Option ℕ) → mark_before items k ≡ o → place items long k < place items long (k + 1) → IsMarked items long (place items long k) o
  marked_by zero (Some mark) is takes = absurd (none_some mark is)
  marked_by (suc k) (Some mark) is takes =
      let there = mark_in_is (slice_get items k) mark is in
      let words = at_mark k mark there in
      let none = words.0 in
      let position = ap (place items long) (position_is k mark there) in
      let step : place items long (k + 1) ≡ place items long (suc k) = ap (place items long) (omega arith) in
      (good.marks k mark there, omega arith)
  marked_by k None is takes = λ mark below same.
      let next : mark_position_of items mark + 1 ≡ k = mark_at_place k mark below takes same in
      let e : suc (mark_position_of items mark) ≡ k = omega arith in
      let there = mark_stands items mark (good.mark_there mark below) in
      some_none mark (sym (ap (mark_before items) (sym e) ∙ ap mark_in there) ∙ is)

  -- the mark right before an instruction is the one at its place
  pub instruction_marked : (k : ℕ) (inst : Inst) → slice_get items k ≡ Some (Plain inst) → IsMarked items long (place items long k) (mark_before items k)
  instruction_marked k inst there =
      let next = place-next items long k in
      let one : size_in (long k) (slice_get items k) ≡ 1 = ap (size_in (long k)) there in
      marked_by k (mark_before items k) refl (omega arith)
