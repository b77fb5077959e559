-- The slots of a good frame, and the bytes that are in none of them.
use Rattle.std.proofs.Common.{◌≡◌, ℕ, ◌+◌, ◌<◌, ◌≤◌, Bool, true, false, List, Option, Some, None, refl, sym, ap, subst, ◌∙◌, arith, take, get_or, length}
use Rattle.std.specs.Prelude.{◌&&◌, ◌||◌, not, nat_le, nat_lt, min, max, is_some, if◌then◌else◌, All}
use Rattle.std.specs.Option.{option_or}
use Rattle.std.proofs.lemmas.List.Folds.{list_any_more}
use Rattle.std.proofs.lemmas.Bool.Decides.{nat_tests}
use Rattle.b3_base.specs.Observed.{Memory, in_range}
use Rattle.b3_base.specs.declared.range.Range.{Range}
use Rattle.stackmap.specs.declared.site.SlotRow.{SlotRow}
use Rattle.exit_table.specs.Good.{IsGoodSlot}
use Rattle.a64_run.specs.Hidden.{covers, is_between}
use Rattle.a64_run.specs.Taking.{with_places}

-- a slot of a good frame stands above the end of the frame, and below x29
pub slot_ends : (bytes : ℕ) (slots items : List SlotRow) (i : ℕ) (d : SlotRow) → items ≡ slots → All (IsGoodSlot bytes) slots → i < length items → (get_or items i d).size ≤ (get_or items i d).offset
slot_ends bytes slots items i d e good within =
    let there : All (IsGoodSlot bytes) items = subst (λ (xs : List SlotRow). All (IsGoodSlot bytes) xs) (sym e) good in
    (there i d within).ends

pub slot_fits : (bytes sp : ℕ) (slots items : List SlotRow) (i : ℕ) (d : SlotRow) → items ≡ slots → All (IsGoodSlot bytes) slots → bytes ≤ sp → i < length items → (get_or items i d).offset + 16 ≤ sp
slot_fits bytes sp slots items i d e good room within =
    let there : All (IsGoodSlot bytes) items = subst (λ (xs : List SlotRow). All (IsGoodSlot bytes) xs) (sym e) good in
    let one = there i d within in
    omega (arith, one.begins)

-- a range without some bytes is what stands below them and what stands above them
parts_of : (a len first end q : ℕ) → (is_between a (min (a + len) first) q || is_between (max a end) (a + len) q) ≡ (nat_le a q && nat_lt q (a + len) && not (is_between first end q))
parts_of a len first end q = grind (arith, nat_tests)

joined : (all old mid new part low high cut : Bool) → old ≡ (all && cut) → mid ≡ (old || low) → new ≡ (mid || high) → (low || high) ≡ (part && cut) → new ≡ ((all || part) && cut)
joined true old mid new part low high true p q r s = cc
joined true old mid new part low high false p q r s = grind arith
joined false old mid new part low high cut p q r s = grind arith

pub carved : (ranges : List Range) (i : ℕ) (d : Range) (first end q low high : ℕ) (old mid new : Bool) → i < length ranges
    → low ≡ min ((get_or ranges i d).first + (get_or ranges i d).len) first
    → high ≡ max (get_or ranges i d).first end
    → old ≡ (covers (take i ranges) q && not (is_between first end q))
    → mid ≡ (old || is_between (get_or ranges i d).first low q)
    → new ≡ (mid || is_between high ((get_or ranges i d).first + (get_or ranges i d).len) q)
    → new ≡ (covers (take (i + 1) ranges) q && not (is_between first end q))
carved ranges i d first end q low high old mid new within l h o m n =
    let r = get_or ranges i d in
    let parts : (is_between r.first low q || is_between high (r.first + r.len) q) ≡ (in_range q r && not (is_between first end q)) = rw (l, h) (parts_of r.first r.len first end q) in
    rw (list_any_more (in_range q) ranges i d within)
    (joined (covers (take i ranges) q) old mid new (in_range q r) _ _ (not (is_between first end q)) o m n parts)

shown : (place byte old : Option ℕ) → old ≡ None → (if is_some place then option_or byte old else old) ≡ (if is_some place || false then byte else None)
shown None byte old none = none
shown (Some _) None old none = none
shown (Some _) (Some byte) old none = refl

-- what is seen when the mapped bytes are taken over
pub seen_first : (seen into from places : Memory) (q : ℕ) → seen ≡ with_places into from places → into q ≡ None → seen q ≡ (if is_some (places q) || false then from q else None)
seen_first seen into from places q e none = ap (λ (m : Memory). m q) e ∙ shown (places q) (from q) (into q) none
