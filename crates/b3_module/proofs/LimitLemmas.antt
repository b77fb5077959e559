-- The first limit that parts pass is the one where their count ends.
use Rattle.std.proofs.Common.{◌≡◌, ℕ, zero, suc, ◌+◌, ◌<◌, ◌≤◌, inl, inr, Bool, true, false, List, [], ◌∷◌, ◌++◌, length, Some, Result, Ok, Err, refl, sym, ap, subst, ◌∙◌, arith, append_assoc}
use Rattle.std.specs.Prelude.{nat_le, nat_lt, ◌⊎◌, sum_by, slice_get, if◌then◌else◌}
use Rattle.std.specs.List.{flat_map}
use Rattle.std.proofs.lemmas.Bool.Decides.{nat_tests}
use Rattle.std.proofs.lemmas.List.{append-nil}
use Rattle.std.proofs.lemmas.List.Sums.{sum_by-cons, sum_by-append}
use Rattle.b3_ir.specs.Procedure.{Procedure}
use Rattle.b3_module.specs.declared.fault.LimitName.{LimitName}
use Rattle.b3_module.specs.declared.fault.LimitName.TheVariants as limits
use Rattle.b3_module.specs.declared.counting.Counts.{Counts}
use Rattle.b3_module.specs.declared.counting.Passed.{Passed}
use Rattle.b3_module.specs.Limits.{Part, Header, Slot, Heading, Computed, Placed, Scope, WholeText, EachProcedure, scope, most, rank, counted, parts_of, passes_in, Passes, up_to, IsFirstLimit, KeepsLimits}
use Rattle.b3_module.specs.Counting.{anew, counted_all, counted_on, no_counts, with_header, with_heading, with_part, with_placed, with_slot, with_value}
use Rattle.b3_module.proofs.CountLemmas.{all_err, counted_err}

-- ---- the counts by the names of limits

get : LimitName → Counts → ℕ
get limits.Procedures c = c.procedures
get limits.Values c = c.values
get limits.Children c = c.children
get limits.ProcedureValues c = c.procedure_values
get limits.ProcedureBlocks c = c.procedure_blocks
get limits.ProcedureChildren c = c.procedure_children
get limits.Slots c = c.slots
get limits.SlotBytes c = c.slot_bytes

abbrev AreWithin : Counts → Type 0
AreWithin c = (w : LimitName) → get w c ≤ most w

-- a part is added to each count, and no limit is passed
record Adds (c d : Counts) (part : Part) : Type 0 where
  adds : (w : LimitName) → get w d ≡ get w c + counted w part
  within : AreWithin d

-- what a test says
ok_test : (b : Bool) (f : Passed) (r : Result Counts Passed) (d : Counts) → (if b then Err f else r) ≡ Ok d → (b ≡ false) × (r ≡ Ok d)
ok_test true f r d e = absurd cc
ok_test false f r d e = (refl, e)

ok_within : (m n : ℕ) (f : Passed) (r : Result Counts Passed) (d : Counts) → (if nat_lt m n then Err f else r) ≡ Ok d → (n ≤ m) × (r ≡ Ok d)
ok_within m n f r d e =
    let t = ok_test (nat_lt m n) f r d e in
    let test = t.0 in
    (grind (arith, nat_tests), t.1)

err_test : (b : Bool) (f g : Passed) (r : Result Counts Passed) → (if b then Err f else r) ≡ Err g → ((b ≡ true) × (f ≡ g)) ⊎ ((b ≡ false) × (r ≡ Err g))
err_test true f g r e = let same : f ≡ g = cc in inl (refl, same)
err_test false f g r e = inr (refl, e)

test_over : (m n : ℕ) → nat_lt m n ≡ true → m < n
test_over m n h = grind (arith, nat_tests)

test_within : (m n : ℕ) → nat_lt m n ≡ false → n ≤ m
test_within m n h = grind (arith, nat_tests)

err_over : (m n : ℕ) (f g : Passed) (r : Result Counts Passed) → (if nat_lt m n then Err f else r) ≡ Err g → ((m < n) × (f ≡ g)) ⊎ ((n ≤ m) × (r ≡ Err g))
err_over m n f g r e =
    elim (err_test (nat_lt m n) f g r e) [
      | inl t ↦ inl (test_over m n t.0, t.1)
      | inr t ↦ inr (test_within m n t.0, t.1)
    ]

header_sums : (c : Counts) (w : LimitName) → get w (record c { procedures = c.procedures + 1 }) ≡ get w c + counted w Header
unfolding get
header_sums c limits.Procedures = refl
header_sums c limits.Values = omega arith
header_sums c limits.Children = omega arith
header_sums c limits.ProcedureValues = omega arith
header_sums c limits.ProcedureBlocks = omega arith
header_sums c limits.ProcedureChildren = omega arith
header_sums c limits.Slots = omega arith
header_sums c limits.SlotBytes = omega arith

header_fine : (c : Counts) → AreWithin c → c.procedures + 1 ≤ most limits.Procedures → AreWithin (record c { procedures = c.procedures + 1 })
unfolding get
header_fine c h h0 limits.Procedures = h0
header_fine c h h0 limits.Values = h limits.Values
header_fine c h h0 limits.Children = h limits.Children
header_fine c h h0 limits.ProcedureValues = h limits.ProcedureValues
header_fine c h h0 limits.ProcedureBlocks = h limits.ProcedureBlocks
header_fine c h h0 limits.ProcedureChildren = h limits.ProcedureChildren
header_fine c h h0 limits.Slots = h limits.Slots
header_fine c h h0 limits.SlotBytes = h limits.SlotBytes

header_adds : (c d : Counts) (line : ℕ) → AreWithin c → with_header c line ≡ Ok d → Adds c d Header
header_adds c d line h e =
    let t0 = ok_within (most limits.Procedures) (c.procedures + 1) _ _ d e in
    let same : record c { procedures = c.procedures + 1 } ≡ d = let f = t0.1 in cc in
    let sums : (w : LimitName) → get w (record c { procedures = c.procedures + 1 }) ≡ get w c + counted w Header = header_sums c in
    let fine : AreWithin (record c { procedures = c.procedures + 1 }) = header_fine c h t0.0 in
    subst (λ (x : Counts). Adds c x Header) same (record { adds = sums; within = fine })

slot_sums : (c : Counts) (bytes : ℕ) (w : LimitName) → get w (record c { slots = c.slots + 1; slot_bytes = c.slot_bytes + bytes }) ≡ get w c + counted w (Slot bytes)
unfolding get
slot_sums c bytes limits.Procedures = omega arith
slot_sums c bytes limits.Values = omega arith
slot_sums c bytes limits.Children = omega arith
slot_sums c bytes limits.ProcedureValues = omega arith
slot_sums c bytes limits.ProcedureBlocks = omega arith
slot_sums c bytes limits.ProcedureChildren = omega arith
slot_sums c bytes limits.Slots = refl
slot_sums c bytes limits.SlotBytes = refl

slot_fine : (c : Counts) (bytes : ℕ) → AreWithin c → c.slots + 1 ≤ most limits.Slots → c.slot_bytes + bytes ≤ most limits.SlotBytes → AreWithin (record c { slots = c.slots + 1; slot_bytes = c.slot_bytes + bytes })
unfolding get
slot_fine c bytes h h0 h1 limits.Procedures = h limits.Procedures
slot_fine c bytes h h0 h1 limits.Values = h limits.Values
slot_fine c bytes h h0 h1 limits.Children = h limits.Children
slot_fine c bytes h h0 h1 limits.ProcedureValues = h limits.ProcedureValues
slot_fine c bytes h h0 h1 limits.ProcedureBlocks = h limits.ProcedureBlocks
slot_fine c bytes h h0 h1 limits.ProcedureChildren = h limits.ProcedureChildren
slot_fine c bytes h h0 h1 limits.Slots = h0
slot_fine c bytes h h0 h1 limits.SlotBytes = h1

slot_adds : (c d : Counts) (line bytes : ℕ) → AreWithin c → with_slot c line bytes ≡ Ok d → Adds c d (Slot bytes)
slot_adds c d line bytes h e =
    let t0 = ok_within (most limits.Slots) (c.slots + 1) _ _ d e in
    let t1 = ok_within (most limits.SlotBytes) (c.slot_bytes + bytes) _ _ d t0.1 in
    let same : record c { slots = c.slots + 1; slot_bytes = c.slot_bytes + bytes } ≡ d = let f = t1.1 in cc in
    let sums : (w : LimitName) → get w (record c { slots = c.slots + 1; slot_bytes = c.slot_bytes + bytes }) ≡ get w c + counted w (Slot bytes) = slot_sums c bytes in
    let fine : AreWithin (record c { slots = c.slots + 1; slot_bytes = c.slot_bytes + bytes }) = slot_fine c bytes h t0.0 t1.0 in
    subst (λ (x : Counts). Adds c x (Slot bytes)) same (record { adds = sums; within = fine })

heading_sums : (c : Counts) (w : LimitName) → get w (record c { procedure_blocks = c.procedure_blocks + 1 }) ≡ get w c + counted w Heading
unfolding get
heading_sums c limits.Procedures = omega arith
heading_sums c limits.Values = omega arith
heading_sums c limits.Children = omega arith
heading_sums c limits.ProcedureValues = omega arith
heading_sums c limits.ProcedureBlocks = refl
heading_sums c limits.ProcedureChildren = omega arith
heading_sums c limits.Slots = omega arith
heading_sums c limits.SlotBytes = omega arith

heading_fine : (c : Counts) → AreWithin c → c.procedure_blocks + 1 ≤ most limits.ProcedureBlocks → AreWithin (record c { procedure_blocks = c.procedure_blocks + 1 })
unfolding get
heading_fine c h h0 limits.Procedures = h limits.Procedures
heading_fine c h h0 limits.Values = h limits.Values
heading_fine c h h0 limits.Children = h limits.Children
heading_fine c h h0 limits.ProcedureValues = h limits.ProcedureValues
heading_fine c h h0 limits.ProcedureBlocks = h0
heading_fine c h h0 limits.ProcedureChildren = h limits.ProcedureChildren
heading_fine c h h0 limits.Slots = h limits.Slots
heading_fine c h h0 limits.SlotBytes = h limits.SlotBytes

heading_adds : (c d : Counts) (line : ℕ) → AreWithin c → with_heading c line ≡ Ok d → Adds c d Heading
heading_adds c d line h e =
    let t0 = ok_within (most limits.ProcedureBlocks) (c.procedure_blocks + 1) _ _ d e in
    let same : record c { procedure_blocks = c.procedure_blocks + 1 } ≡ d = let f = t0.1 in cc in
    let sums : (w : LimitName) → get w (record c { procedure_blocks = c.procedure_blocks + 1 }) ≡ get w c + counted w Heading = heading_sums c in
    let fine : AreWithin (record c { procedure_blocks = c.procedure_blocks + 1 }) = heading_fine c h t0.0 in
    subst (λ (x : Counts). Adds c x Heading) same (record { adds = sums; within = fine })

value_sums : (c : Counts) (n : ℕ) (w : LimitName) → get w (record c { values = c.values + 1; children = c.children + n; procedure_values = c.procedure_values + 1; procedure_children = c.procedure_children + n }) ≡ get w c + counted w (Computed n)
unfolding get
value_sums c n limits.Procedures = omega arith
value_sums c n limits.Values = refl
value_sums c n limits.Children = refl
value_sums c n limits.ProcedureValues = refl
value_sums c n limits.ProcedureBlocks = omega arith
value_sums c n limits.ProcedureChildren = refl
value_sums c n limits.Slots = omega arith
value_sums c n limits.SlotBytes = omega arith

value_fine : (c : Counts) (n : ℕ) → AreWithin c → c.values + 1 ≤ most limits.Values → c.children + n ≤ most limits.Children → c.procedure_values + 1 ≤ most limits.ProcedureValues → c.procedure_children + n ≤ most limits.ProcedureChildren → AreWithin (record c { values = c.values + 1; children = c.children + n; procedure_values = c.procedure_values + 1; procedure_children = c.procedure_children + n })
unfolding get
value_fine c n h h0 h1 h2 h3 limits.Procedures = h limits.Procedures
value_fine c n h h0 h1 h2 h3 limits.Values = h0
value_fine c n h h0 h1 h2 h3 limits.Children = h1
value_fine c n h h0 h1 h2 h3 limits.ProcedureValues = h2
value_fine c n h h0 h1 h2 h3 limits.ProcedureBlocks = h limits.ProcedureBlocks
value_fine c n h h0 h1 h2 h3 limits.ProcedureChildren = h3
value_fine c n h h0 h1 h2 h3 limits.Slots = h limits.Slots
value_fine c n h h0 h1 h2 h3 limits.SlotBytes = h limits.SlotBytes

value_adds : (c d : Counts) (line n : ℕ) → AreWithin c → with_value c line n ≡ Ok d → Adds c d (Computed n)
value_adds c d line n h e =
    let t0 = ok_within (most limits.Values) (c.values + 1) _ _ d e in
    let t1 = ok_within (most limits.Children) (c.children + n) _ _ d t0.1 in
    let t2 = ok_within (most limits.ProcedureValues) (c.procedure_values + 1) _ _ d t1.1 in
    let t3 = ok_within (most limits.ProcedureChildren) (c.procedure_children + n) _ _ d t2.1 in
    let same : record c { values = c.values + 1; children = c.children + n; procedure_values = c.procedure_values + 1; procedure_children = c.procedure_children + n } ≡ d = let f = t3.1 in cc in
    let sums : (w : LimitName) → get w (record c { values = c.values + 1; children = c.children + n; procedure_values = c.procedure_values + 1; procedure_children = c.procedure_children + n }) ≡ get w c + counted w (Computed n) = value_sums c n in
    let fine : AreWithin (record c { values = c.values + 1; children = c.children + n; procedure_values = c.procedure_values + 1; procedure_children = c.procedure_children + n }) = value_fine c n h t0.0 t1.0 t2.0 t3.0 in
    subst (λ (x : Counts). Adds c x (Computed n)) same (record { adds = sums; within = fine })

part_adds : (c d : Counts) (line : ℕ) (part : Part) → AreWithin c → with_part c line part ≡ Ok d → Adds c d part
part_adds c d line Header h e = header_adds c d line h e
part_adds c d line (Slot bytes) h e = slot_adds c d line bytes h e
part_adds c d line Heading h e = heading_adds c d line h e
part_adds c d line (Computed n) h e = value_adds c d line n h e

-- a part passes a limit, and none before it in the table
record IsOver (c : Counts) (fault : Passed) (line : ℕ) (part : Part) : Type 0 where
  stands : fault.line ≡ line
  over : most fault.which < get fault.which c + counted fault.which part
  least : (other : LimitName) → rank other < rank fault.which → get other c + counted other part ≤ most other

-- no limit before one in the table is passed, where those that the part counts in are not
abbrev Keeps : Counts → Part → LimitName → Type 0
Keeps c part w = get w c + counted w part ≤ most w

over_at : (c : Counts) (fault : Passed) (line : ℕ) (part : Part) (w : LimitName) → record { which = w; line = line } ≡ fault → most w < get w c + counted w part → ((other : LimitName) → rank other < rank w → Keeps c part other) → IsOver c fault line part
over_at c fault line part w e over least = subst (λ (f : Passed). IsOver c f line part) e (record { stands = refl; over = over; least = least })

header_before0 : (c : Counts) → AreWithin c → (w : LimitName) → rank w < rank limits.Procedures → Keeps c Header w
unfolding get
header_before0 c h limits.Procedures less = absurd (omega (arith, less))
header_before0 c h limits.Values less = absurd (omega (arith, less))
header_before0 c h limits.Children less = absurd (omega (arith, less))
header_before0 c h limits.ProcedureValues less = absurd (omega (arith, less))
header_before0 c h limits.ProcedureBlocks less = absurd (omega (arith, less))
header_before0 c h limits.ProcedureChildren less = absurd (omega (arith, less))
header_before0 c h limits.Slots less = absurd (omega (arith, less))
header_before0 c h limits.SlotBytes less = absurd (omega (arith, less))

header_over : (c : Counts) (fault : Passed) (line : ℕ) → AreWithin c → with_header c line ≡ Err fault → IsOver c fault line Header
unfolding get
header_over c fault line h e =
    elim (err_over (most limits.Procedures) (c.procedures + 1) _ fault _ e) [
      | inl t0 ↦ over_at c fault line Header limits.Procedures t0.1 t0.0 (λ w less. header_before0 c h w less)
      | inr t0 ↦
          let f = t0.1 in absurd cc
    ]

slot_before0 : (c : Counts) (bytes : ℕ) → AreWithin c → (w : LimitName) → rank w < rank limits.Slots → Keeps c (Slot bytes) w
unfolding get
slot_before0 c bytes h limits.Procedures less = omega (arith, h limits.Procedures)
slot_before0 c bytes h limits.Values less = omega (arith, h limits.Values)
slot_before0 c bytes h limits.Children less = omega (arith, h limits.Children)
slot_before0 c bytes h limits.ProcedureValues less = omega (arith, h limits.ProcedureValues)
slot_before0 c bytes h limits.ProcedureBlocks less = omega (arith, h limits.ProcedureBlocks)
slot_before0 c bytes h limits.ProcedureChildren less = omega (arith, h limits.ProcedureChildren)
slot_before0 c bytes h limits.Slots less = absurd (omega (arith, less))
slot_before0 c bytes h limits.SlotBytes less = absurd (omega (arith, less))

slot_before1 : (c : Counts) (bytes : ℕ) → AreWithin c → c.slots + 1 ≤ most limits.Slots → (w : LimitName) → rank w < rank limits.SlotBytes → Keeps c (Slot bytes) w
unfolding get
slot_before1 c bytes h h0 limits.Procedures less = omega (arith, h limits.Procedures)
slot_before1 c bytes h h0 limits.Values less = omega (arith, h limits.Values)
slot_before1 c bytes h h0 limits.Children less = omega (arith, h limits.Children)
slot_before1 c bytes h h0 limits.ProcedureValues less = omega (arith, h limits.ProcedureValues)
slot_before1 c bytes h h0 limits.ProcedureBlocks less = omega (arith, h limits.ProcedureBlocks)
slot_before1 c bytes h h0 limits.ProcedureChildren less = omega (arith, h limits.ProcedureChildren)
slot_before1 c bytes h h0 limits.Slots less = h0
slot_before1 c bytes h h0 limits.SlotBytes less = absurd (omega (arith, less))

slot_over : (c : Counts) (fault : Passed) (line bytes : ℕ) → AreWithin c → with_slot c line bytes ≡ Err fault → IsOver c fault line (Slot bytes)
unfolding get
slot_over c fault line bytes h e =
    elim (err_over (most limits.Slots) (c.slots + 1) _ fault _ e) [
      | inl t0 ↦ over_at c fault line (Slot bytes) limits.Slots t0.1 t0.0 (λ w less. slot_before0 c bytes h w less)
      | inr t0 ↦
          elim (err_over (most limits.SlotBytes) (c.slot_bytes + bytes) _ fault _ t0.1) [
            | inl t1 ↦ over_at c fault line (Slot bytes) limits.SlotBytes t1.1 t1.0 (λ w less. slot_before1 c bytes h t0.0 w less)
            | inr t1 ↦
                let f = t1.1 in absurd cc
          ]
    ]

heading_before0 : (c : Counts) → AreWithin c → (w : LimitName) → rank w < rank limits.ProcedureBlocks → Keeps c Heading w
unfolding get
heading_before0 c h limits.Procedures less = omega (arith, h limits.Procedures)
heading_before0 c h limits.Values less = omega (arith, h limits.Values)
heading_before0 c h limits.Children less = omega (arith, h limits.Children)
heading_before0 c h limits.ProcedureValues less = omega (arith, h limits.ProcedureValues)
heading_before0 c h limits.ProcedureBlocks less = absurd (omega (arith, less))
heading_before0 c h limits.ProcedureChildren less = absurd (omega (arith, less))
heading_before0 c h limits.Slots less = absurd (omega (arith, less))
heading_before0 c h limits.SlotBytes less = absurd (omega (arith, less))

heading_over : (c : Counts) (fault : Passed) (line : ℕ) → AreWithin c → with_heading c line ≡ Err fault → IsOver c fault line Heading
unfolding get
heading_over c fault line h e =
    elim (err_over (most limits.ProcedureBlocks) (c.procedure_blocks + 1) _ fault _ e) [
      | inl t0 ↦ over_at c fault line Heading limits.ProcedureBlocks t0.1 t0.0 (λ w less. heading_before0 c h w less)
      | inr t0 ↦
          let f = t0.1 in absurd cc
    ]

value_before0 : (c : Counts) (n : ℕ) → AreWithin c → (w : LimitName) → rank w < rank limits.Values → Keeps c (Computed n) w
unfolding get
value_before0 c n h limits.Procedures less = omega (arith, h limits.Procedures)
value_before0 c n h limits.Values less = absurd (omega (arith, less))
value_before0 c n h limits.Children less = absurd (omega (arith, less))
value_before0 c n h limits.ProcedureValues less = absurd (omega (arith, less))
value_before0 c n h limits.ProcedureBlocks less = absurd (omega (arith, less))
value_before0 c n h limits.ProcedureChildren less = absurd (omega (arith, less))
value_before0 c n h limits.Slots less = absurd (omega (arith, less))
value_before0 c n h limits.SlotBytes less = absurd (omega (arith, less))

value_before1 : (c : Counts) (n : ℕ) → AreWithin c → c.values + 1 ≤ most limits.Values → (w : LimitName) → rank w < rank limits.Children → Keeps c (Computed n) w
unfolding get
value_before1 c n h h0 limits.Procedures less = omega (arith, h limits.Procedures)
value_before1 c n h h0 limits.Values less = h0
value_before1 c n h h0 limits.Children less = absurd (omega (arith, less))
value_before1 c n h h0 limits.ProcedureValues less = absurd (omega (arith, less))
value_before1 c n h h0 limits.ProcedureBlocks less = absurd (omega (arith, less))
value_before1 c n h h0 limits.ProcedureChildren less = absurd (omega (arith, less))
value_before1 c n h h0 limits.Slots less = absurd (omega (arith, less))
value_before1 c n h h0 limits.SlotBytes less = absurd (omega (arith, less))

value_before2 : (c : Counts) (n : ℕ) → AreWithin c → c.values + 1 ≤ most limits.Values → c.children + n ≤ most limits.Children → (w : LimitName) → rank w < rank limits.ProcedureValues → Keeps c (Computed n) w
unfolding get
value_before2 c n h h0 h1 limits.Procedures less = omega (arith, h limits.Procedures)
value_before2 c n h h0 h1 limits.Values less = h0
value_before2 c n h h0 h1 limits.Children less = h1
value_before2 c n h h0 h1 limits.ProcedureValues less = absurd (omega (arith, less))
value_before2 c n h h0 h1 limits.ProcedureBlocks less = absurd (omega (arith, less))
value_before2 c n h h0 h1 limits.ProcedureChildren less = absurd (omega (arith, less))
value_before2 c n h h0 h1 limits.Slots less = absurd (omega (arith, less))
value_before2 c n h h0 h1 limits.SlotBytes less = absurd (omega (arith, less))

value_before3 : (c : Counts) (n : ℕ) → AreWithin c → c.values + 1 ≤ most limits.Values → c.children + n ≤ most limits.Children → c.procedure_values + 1 ≤ most limits.ProcedureValues → (w : LimitName) → rank w < rank limits.ProcedureChildren → Keeps c (Computed n) w
unfolding get
value_before3 c n h h0 h1 h2 limits.Procedures less = omega (arith, h limits.Procedures)
value_before3 c n h h0 h1 h2 limits.Values less = h0
value_before3 c n h h0 h1 h2 limits.Children less = h1
value_before3 c n h h0 h1 h2 limits.ProcedureValues less = h2
value_before3 c n h h0 h1 h2 limits.ProcedureBlocks less = omega (arith, h limits.ProcedureBlocks)
value_before3 c n h h0 h1 h2 limits.ProcedureChildren less = absurd (omega (arith, less))
value_before3 c n h h0 h1 h2 limits.Slots less = absurd (omega (arith, less))
value_before3 c n h h0 h1 h2 limits.SlotBytes less = absurd (omega (arith, less))

value_over : (c : Counts) (fault : Passed) (line n : ℕ) → AreWithin c → with_value c line n ≡ Err fault → IsOver c fault line (Computed n)
unfolding get
value_over c fault line n h e =
    elim (err_over (most limits.Values) (c.values + 1) _ fault _ e) [
      | inl t0 ↦ over_at c fault line (Computed n) limits.Values t0.1 t0.0 (λ w less. value_before0 c n h w less)
      | inr t0 ↦
          elim (err_over (most limits.Children) (c.children + n) _ fault _ t0.1) [
            | inl t1 ↦ over_at c fault line (Computed n) limits.Children t1.1 t1.0 (λ w less. value_before1 c n h t0.0 w less)
            | inr t1 ↦
                elim (err_over (most limits.ProcedureValues) (c.procedure_values + 1) _ fault _ t1.1) [
                  | inl t2 ↦ over_at c fault line (Computed n) limits.ProcedureValues t2.1 t2.0 (λ w less. value_before2 c n h t0.0 t1.0 w less)
                  | inr t2 ↦
                      elim (err_over (most limits.ProcedureChildren) (c.procedure_children + n) _ fault _ t2.1) [
                        | inl t3 ↦ over_at c fault line (Computed n) limits.ProcedureChildren t3.1 t3.0 (λ w less. value_before3 c n h t0.0 t1.0 t2.0 w less)
                        | inr t3 ↦
                            let f = t3.1 in absurd cc
                      ]
                ]
          ]
    ]

part_over : (c : Counts) (fault : Passed) (line : ℕ) (part : Part) → AreWithin c → with_part c line part ≡ Err fault → IsOver c fault line part
part_over c fault line Header h e = header_over c fault line h e
part_over c fault line (Slot bytes) h e = slot_over c fault line bytes h e
part_over c fault line Heading h e = heading_over c fault line h e
part_over c fault line (Computed n) h e = value_over c fault line n h e

-- ---- amounts

amount : LimitName → List Placed → ℕ
amount w parts = sum_by (λ (x : Placed). counted w x.part) parts

amount_cons : (w : LimitName) (x : Placed) (parts : List Placed) → amount w (x ∷ parts) ≡ counted w x.part + amount w parts
unfolding amount
amount_cons w x parts = sum_by-cons (λ (x : Placed). counted w x.part) x parts

amount_nil : (w : LimitName) → amount w [] ≡ 0
unfolding amount
amount_nil w = refl

amount_append : (w : LimitName) (a b : List Placed) → amount w (a ++ b) ≡ amount w a + amount w b
unfolding amount
amount_append w a b = sum_by-append (λ (x : Placed). counted w x.part) a b

-- the amount that a limit looks at: of the text so far, or of the procedure so far
abbrev amount_in : Scope → LimitName → List Placed → List Placed → ℕ
amount_in WholeText w text own = amount w text
amount_in EachProcedure w text own = amount w own

amount_more : (s : Scope) (w : LimitName) (text own : List Placed) (x : Placed) → amount_in s w (text ++ x ∷ []) (own ++ x ∷ []) ≡ amount_in s w text own + counted w x.part
amount_more WholeText w text own x = omega (arith, amount_append w text (x ∷ []), amount_cons w x [], amount_nil w)
amount_more EachProcedure w text own x = omega (arith, amount_append w own (x ∷ []), amount_cons w x [], amount_nil w)

-- the counts are those of the parts that were seen
record IsSeen (text own : List Placed) (c : Counts) : Type 0 where
  is : (w : LimitName) → get w c ≡ amount_in (scope w) w text own
  within : AreWithin c

seen_more : (text own : List Placed) (c d : Counts) (x : Placed) → IsSeen text own c → with_part c x.line x.part ≡ Ok d → IsSeen (text ++ x ∷ []) (own ++ x ∷ []) d
seen_more text own c d x h e =
    let adds = part_adds c d x.line x.part h.within e in
    record {
      is = λ w. omega (arith, adds.adds w, h.is w, amount_more (scope w) w text own x);
      within = adds.within;
    }

seen_same : (a b own also : List Placed) (c : Counts) → a ≡ b → own ≡ also → IsSeen a own c → IsSeen b also c
seen_same a b own also c e f h = subst (λ (y : List Placed). IsSeen b y c) f (subst (λ (y : List Placed). IsSeen y own c) e h)

abbrev SeenSo : List Placed → List Placed → Result Counts Passed → Type 0
SeenSo text own (Ok c) = IsSeen text own c
SeenSo text own (Err fault) = Unit {0}

seen_step : (r : Result Counts Passed) (s : Result Counts Passed) (text own : List Placed) (x : Placed) → with_placed r x ≡ s → SeenSo text own r → SeenSo (text ++ x ∷ []) (own ++ x ∷ []) s
seen_step (Ok c) (Ok d) text own x e h = seen_more text own c d x h e
seen_step (Err fault) (Ok d) text own x e h = absurd cc
seen_step r (Err fault) text own x e h = tt

seen_all : (parts text own : List Placed) (r : Result Counts Passed) (d : Counts) → SeenSo text own r → counted_on r parts ≡ Ok d → IsSeen (text ++ parts) (own ++ parts) d
seen_all [] text own r d h e = seen_same text (text ++ []) own (own ++ []) d (sym (append-nil text)) (sym (append-nil own)) (subst (λ (y : Result Counts Passed). SeenSo text own y) e h)
seen_all (x ∷ parts) text own r d h e =
    seen_same ((text ++ x ∷ []) ++ parts) (text ++ x ∷ parts) ((own ++ x ∷ []) ++ parts) (own ++ x ∷ parts) d (append_assoc text (x ∷ []) parts) (append_assoc own (x ∷ []) parts) (seen_all parts (text ++ x ∷ []) (own ++ x ∷ []) (with_placed r x) d (seen_step r (with_placed r x) text own x refl h) e)

-- where the count of parts ends
record Ends (text own parts : List Placed) (fault : Passed) : Type 0 where
  front : List Placed
  stop : Placed
  rest : List Placed
  counts : Counts
  split : parts ≡ front ++ stop ∷ rest
  seen : IsSeen (text ++ front) (own ++ front) counts
  over : IsOver counts fault stop.line stop.part

ends_go : (r : Result Counts Passed) (x : Placed) (parts text own : List Placed) (c : Counts) (fault : Passed) → IsSeen text own c → with_part c x.line x.part ≡ r → counted_on r parts ≡ Err fault → ((d : Counts) → IsSeen (text ++ x ∷ []) (own ++ x ∷ []) d → counted_on (Ok d) parts ≡ Err fault → Ends (text ++ x ∷ []) (own ++ x ∷ []) parts fault) → Ends text own (x ∷ parts) fault
ends_go (Ok d) x parts text own c fault h one e more =
    let m = more d (seen_more text own c d x h one) e in
    record {
      front = x ∷ m.front;
      stop = m.stop;
      rest = m.rest;
      counts = m.counts;
      split = ap (λ (ps : List Placed). x ∷ ps) m.split;
      seen = seen_same ((text ++ x ∷ []) ++ m.front) (text ++ x ∷ m.front) ((own ++ x ∷ []) ++ m.front) (own ++ x ∷ m.front) m.counts (append_assoc text (x ∷ []) m.front) (append_assoc own (x ∷ []) m.front) m.seen;
      over = m.over;
    }
ends_go (Err other) x parts text own c fault h one e more =
    let f = sym (counted_err other parts) ∙ e in
    let same : other ≡ fault = cc in
    record {
      front = [];
      stop = x;
      rest = parts;
      counts = c;
      split = refl;
      seen = seen_same text (text ++ []) own (own ++ []) c (sym (append-nil text)) (sym (append-nil own)) h;
      over = part_over c fault x.line x.part h.within (one ∙ ap Err same);
    }

ends : (parts text own : List Placed) (c : Counts) (fault : Passed) → IsSeen text own c → counted_on (Ok c) parts ≡ Err fault → Ends text own parts fault
ends [] text own c fault h e = absurd cc
ends (x ∷ parts) text own c fault h e =
    ends_go (with_part c x.line x.part) x parts text own c fault h refl e (λ d s f. ends parts (text ++ x ∷ []) (own ++ x ∷ []) d fault s f)

-- ---- whole procedures

-- in each of these procedures no limit of its own is passed
abbrev EachKeeps : List Procedure → Type 0
EachKeeps [] = Unit {0}
EachKeeps (p ∷ ps) = ((w : LimitName) → scope w ≡ EachProcedure → amount w (parts_of p) ≤ most w) × EachKeeps ps

each_keeps_append : (a : List Procedure) (p : Procedure) → EachKeeps a → ((w : LimitName) → scope w ≡ EachProcedure → amount w (parts_of p) ≤ most w) → EachKeeps (a ++ p ∷ [])
each_keeps_append [] p h k = (k, tt)
each_keeps_append (q ∷ a) p h k = (h.0, each_keeps_append a p h.1 k)

fresh : Counts → Counts
fresh c = record c { procedure_values = 0; procedure_blocks = 0; procedure_children = 0; slots = 0; slot_bytes = 0 }

fresh_within : (c : Counts) → AreWithin c → AreWithin (fresh c)
unfolding fresh get
fresh_within c h limits.Procedures = h limits.Procedures
fresh_within c h limits.Values = h limits.Values
fresh_within c h limits.Children = h limits.Children
fresh_within c h limits.ProcedureValues = omega arith
fresh_within c h limits.ProcedureBlocks = omega arith
fresh_within c h limits.ProcedureChildren = omega arith
fresh_within c h limits.Slots = omega arith
fresh_within c h limits.SlotBytes = omega arith

fresh_is : (c : Counts) (text own : List Placed) → ((w : LimitName) → get w c ≡ amount_in (scope w) w text own) → (w : LimitName) → get w (fresh c) ≡ amount_in (scope w) w text []
unfolding fresh get
fresh_is c text own h limits.Procedures = h limits.Procedures
fresh_is c text own h limits.Values = h limits.Values
fresh_is c text own h limits.Children = h limits.Children
fresh_is c text own h limits.ProcedureValues = sym (amount_nil limits.ProcedureValues)
fresh_is c text own h limits.ProcedureBlocks = sym (amount_nil limits.ProcedureBlocks)
fresh_is c text own h limits.ProcedureChildren = sym (amount_nil limits.ProcedureChildren)
fresh_is c text own h limits.Slots = sym (amount_nil limits.Slots)
fresh_is c text own h limits.SlotBytes = sym (amount_nil limits.SlotBytes)

seen_fresh : (text own : List Placed) (c : Counts) → IsSeen text own c → IsSeen text [] (fresh c)
seen_fresh text own c h = record { is = fresh_is c text own h.is; within = fresh_within c h.within }

anew_is : (c : Counts) → anew (Ok c) ≡ Ok (fresh c)
unfolding fresh
anew_is c = refl

-- what a procedure that is counted to its end keeps
procedure_keeps : (text own : List Placed) (c : Counts) → IsSeen text own c → (w : LimitName) → scope w ≡ EachProcedure → amount w own ≤ most w
procedure_keeps text own c h w each =
    let is = h.is w in
    let shown : get w c ≡ amount w own = is ∙ ap (λ (s : Scope). amount_in s w text own) each in
    omega (arith, h.within w)

-- where the count of procedures ends
record AllEnd (done : List Procedure) (ps : List Procedure) (fault : Passed) : Type 0 where
  before : List Procedure
  here : Procedure
  after : List Procedure
  split : ps ≡ before ++ here ∷ after
  keep : EachKeeps (done ++ before)
  inside : Ends (flat_map parts_of (done ++ before)) [] (parts_of here) fault

flat : List Procedure → List Placed
flat ps = flat_map parts_of ps

flat_nil : flat [] ≡ []
unfolding flat
flat_nil = refl

flat_cons : (p : Procedure) (ps : List Procedure) → flat (p ∷ ps) ≡ parts_of p ++ flat ps
unfolding flat
flat_cons p ps = refl

flat_append : (a b : List Procedure) → flat (a ++ b) ≡ flat a ++ flat b
flat_append [] b = sym (ap (λ (x : List Placed). x ++ flat b) flat_nil)
flat_append (p ∷ a) b =
    flat_cons p (a ++ b) ∙ ap (λ (x : List Placed). parts_of p ++ x) (flat_append a b) ∙ sym (append_assoc (parts_of p) (flat a) (flat b)) ∙ ap (λ (x : List Placed). x ++ flat b) (sym (flat_cons p a))

flat_snoc : (a : List Procedure) (p : Procedure) → flat (a ++ p ∷ []) ≡ flat a ++ parts_of p
flat_snoc a p = flat_append a (p ∷ []) ∙ ap (λ (x : List Placed). flat a ++ x) (flat_cons p [] ∙ ap (λ (x : List Placed). parts_of p ++ x) flat_nil ∙ append-nil (parts_of p))

-- what was counted of a procedure
record Counted (done : List Procedure) (p : Procedure) (d : Counts) : Type 0 where
  keep : EachKeeps (done ++ p ∷ [])
  seen : IsSeen (flat (done ++ p ∷ [])) (parts_of p) d

counted_one : (done : List Procedure) (p : Procedure) (own : List Placed) (c d : Counts) → EachKeeps done → IsSeen (flat done) own c → counted_on (Ok (fresh c)) (parts_of p) ≡ Ok d → Counted done p d
counted_one done p own c d keep h e =
    let seen = seen_all (parts_of p) (flat done) [] (Ok (fresh c)) d (seen_fresh (flat done) own c h) e in
    record {
      keep = each_keeps_append done p keep (procedure_keeps (flat done ++ parts_of p) (parts_of p) d seen);
      seen = seen_same (flat done ++ parts_of p) (flat (done ++ p ∷ [])) (parts_of p) (parts_of p) d (sym (flat_snoc done p)) refl seen;
    }

all_go : (r : Result Counts Passed) (p : Procedure) (ps done : List Procedure) (own : List Placed) (c : Counts) (fault : Passed) → EachKeeps done → IsSeen (flat done) own c → counted_on (Ok (fresh c)) (parts_of p) ≡ r → counted_all r ps ≡ Err fault → ((d : Counts) → EachKeeps (done ++ p ∷ []) → IsSeen (flat (done ++ p ∷ [])) (parts_of p) d → counted_all (Ok d) ps ≡ Err fault → AllEnd (done ++ p ∷ []) ps fault) → AllEnd done (p ∷ ps) fault
unfolding flat
all_go (Ok d) p ps done own c fault keep h one e more =
    let m = counted_one done p own c d keep h one in
    let n = more d m.keep m.seen e in
    let same = append_assoc done (p ∷ []) n.before in
    record {
      before = p ∷ n.before;
      here = n.here;
      after = n.after;
      split = ap (λ (qs : List Procedure). p ∷ qs) n.split;
      keep = subst (λ (x : List Procedure). EachKeeps x) same n.keep;
      inside = subst (λ (x : List Procedure). Ends (flat_map parts_of x) [] (parts_of n.here) fault) same n.inside;
    }
all_go (Err other) p ps done own c fault keep h one e more =
    let f = sym (all_err other ps) ∙ e in
    let same : other ≡ fault = cc in
    let nothing = sym (append-nil done) in
    record {
      before = [];
      here = p;
      after = ps;
      split = refl;
      keep = subst (λ (x : List Procedure). EachKeeps x) nothing keep;
      inside = subst (λ (x : List Procedure). Ends (flat_map parts_of x) [] (parts_of p) fault) nothing (ends (parts_of p) (flat done) [] (fresh c) fault (seen_fresh (flat done) own c h) (one ∙ ap Err same));
    }

all_ends : (ps done : List Procedure) (own : List Placed) (c : Counts) (fault : Passed) → EachKeeps done → IsSeen (flat done) own c → counted_all (Ok c) ps ≡ Err fault → AllEnd done ps fault
all_ends [] done own c fault keep h e = absurd cc
all_ends (p ∷ ps) done own c fault keep h e =
    let start : counted_all (counted_on (Ok (fresh c)) (parts_of p)) ps ≡ Err fault = ap (λ (r : Result Counts Passed). counted_all (counted_on r (parts_of p)) ps) (sym (anew_is c)) ∙ e in
    all_go (counted_on (Ok (fresh c)) (parts_of p)) p ps done own c fault keep h refl start (λ d k s f. all_ends ps (done ++ p ∷ []) (parts_of p) d fault k s f)

-- where no limit is passed
record AllKept (ps : List Procedure) : Type 0 where
  keep : EachKeeps ps
  text : (w : LimitName) → scope w ≡ WholeText → amount w (flat ps) ≤ most w

kept_of : (ps : List Procedure) (own : List Placed) (c : Counts) → EachKeeps ps → IsSeen (flat ps) own c → AllKept ps
kept_of ps own c keep h = record {
  keep = keep;
  text = λ w all.
      let is = h.is w in
      let shown : get w c ≡ amount w (flat ps) = is ∙ ap (λ (s : Scope). amount_in s w (flat ps) own) all in
      omega (arith, h.within w);
}

kept_go : (r : Result Counts Passed) (p : Procedure) (ps done : List Procedure) (own : List Placed) (c e : Counts) → EachKeeps done → IsSeen (flat done) own c → counted_on (Ok (fresh c)) (parts_of p) ≡ r → counted_all r ps ≡ Ok e → ((d : Counts) → EachKeeps (done ++ p ∷ []) → IsSeen (flat (done ++ p ∷ [])) (parts_of p) d → counted_all (Ok d) ps ≡ Ok e → AllKept ((done ++ p ∷ []) ++ ps)) → AllKept (done ++ p ∷ ps)
kept_go (Ok d) p ps done own c e keep h one told more =
    let m = counted_one done p own c d keep h one in
    subst (λ (x : List Procedure). AllKept x) (append_assoc done (p ∷ []) ps) (more d m.keep m.seen told)
kept_go (Err other) p ps done own c e keep h one told more = let f = sym (all_err other ps) ∙ told in absurd cc

all_kept : (ps done : List Procedure) (own : List Placed) (c e : Counts) → EachKeeps done → IsSeen (flat done) own c → counted_all (Ok c) ps ≡ Ok e → AllKept (done ++ ps)
all_kept [] done own c e keep h told = subst (λ (x : List Procedure). AllKept x) (sym (append-nil done)) (kept_of done own c keep h)
all_kept (p ∷ ps) done own c e keep h told =
    let start : counted_all (counted_on (Ok (fresh c)) (parts_of p)) ps ≡ Ok e = ap (λ (r : Result Counts Passed). counted_all (counted_on r (parts_of p)) ps) (sym (anew_is c)) ∙ told in
    kept_go (counted_on (Ok (fresh c)) (parts_of p)) p ps done own c e keep h refl start (λ d k s f. all_kept ps (done ++ p ∷ []) (parts_of p) d e k s f)

nothing_is : (w : LimitName) → get w no_counts ≡ amount_in (scope w) w (flat []) []
unfolding get flat
nothing_is limits.Procedures = sym (amount_nil limits.Procedures)
nothing_is limits.Values = sym (amount_nil limits.Values)
nothing_is limits.Children = sym (amount_nil limits.Children)
nothing_is limits.ProcedureValues = sym (amount_nil limits.ProcedureValues)
nothing_is limits.ProcedureBlocks = sym (amount_nil limits.ProcedureBlocks)
nothing_is limits.ProcedureChildren = sym (amount_nil limits.ProcedureChildren)
nothing_is limits.Slots = sym (amount_nil limits.Slots)
nothing_is limits.SlotBytes = sym (amount_nil limits.SlotBytes)

nothing_within : AreWithin no_counts
unfolding get
nothing_within limits.Procedures = omega arith
nothing_within limits.Values = omega arith
nothing_within limits.Children = omega arith
nothing_within limits.ProcedureValues = omega arith
nothing_within limits.ProcedureBlocks = omega arith
nothing_within limits.ProcedureChildren = omega arith
nothing_within limits.Slots = omega arith
nothing_within limits.SlotBytes = omega arith

nothing_seen : IsSeen (flat []) [] no_counts
unfolding get
nothing_seen = record {
  is = λ w. nothing_is w;
  within = λ w. nothing_within w;
}

-- ---- up to a line

-- these lines are all below a number, or all above one
abbrev pub Below : ℕ → List Placed → Type 0
Below n [] = Unit {0}
Below n (x ∷ parts) = (x.line < n) × Below n parts

abbrev pub Above : ℕ → List Placed → Type 0
Above n [] = Unit {0}
Above n (x ∷ parts) = (n < x.line) × Above n parts

-- parts stand on rising lines, from one on
abbrev pub AreRising : ℕ → List Placed → Type 0
AreRising low [] = Unit {0}
AreRising low (x ∷ parts) = (low ≤ x.line) × AreRising (x.line + 1) parts

up_to_cons : (w : LimitName) (line : ℕ) (x : Placed) (parts : List Placed) → up_to w line (x ∷ parts) ≡ (if nat_le x.line line then counted w x.part else 0) + up_to w line parts
up_to_cons w line x parts = sum_by-cons (λ (y : Placed). if nat_le y.line line then counted w y.part else 0) x parts

up_to_append : (w : LimitName) (line : ℕ) (a b : List Placed) → up_to w line (a ++ b) ≡ up_to w line a + up_to w line b
up_to_append w line a b = sum_by-append (λ (y : Placed). if nat_le y.line line then counted w y.part else 0) a b

on_or_before : (n line : ℕ) (k : ℕ) → n ≤ line → (if nat_le n line then k else 0) ≡ k
on_or_before n line k h = grind (arith, nat_tests)

behind_line : (n line : ℕ) (k : ℕ) → line < n → (if nat_le n line then k else 0) ≡ 0
behind_line n line k h = grind (arith, nat_tests)

at_most : (n line : ℕ) (k : ℕ) → (if nat_le n line then k else 0) ≤ k
at_most n line k = grind (arith, nat_tests)

up_to_amount : (w : LimitName) (line : ℕ) (parts : List Placed) → up_to w line parts ≤ amount w parts
up_to_amount w line [] = omega (arith, amount_nil w)
up_to_amount w line (x ∷ parts) = omega (arith, up_to_amount w line parts, up_to_cons w line x parts, amount_cons w x parts, at_most x.line line (counted w x.part))

up_to_above : (w : LimitName) (line n : ℕ) (parts : List Placed) → line ≤ n → Above n parts → up_to w line parts ≡ 0
up_to_above w line n [] h above = refl
up_to_above w line n (x ∷ parts) h above = omega (arith, up_to_above w line n parts h above.1, up_to_cons w line x parts, behind_line x.line line (counted w x.part) (omega (arith, above.0)))

up_to_below : (w : LimitName) (line : ℕ) (parts : List Placed) → Below line parts → up_to w line parts ≡ amount w parts
up_to_below w line [] below = sym (amount_nil w)
up_to_below w line (x ∷ parts) below = omega (arith, up_to_below w line parts below.1, up_to_cons w line x parts, amount_cons w x parts, on_or_before x.line line (counted w x.part) (omega (arith, below.0)))

-- ---- rising lines, in parts

rising_above : (n low : ℕ) (parts : List Placed) → n < low → AreRising low parts → Above n parts
rising_above n low [] h rising = tt
rising_above n low (x ∷ parts) h rising =
    let here = rising.0 in
    (omega arith, rising_above n (x.line + 1) parts (omega arith) rising.1)

rising_low : (low : ℕ) (a : List Placed) (x : Placed) (b : List Placed) → AreRising low (a ++ x ∷ b) → low ≤ x.line
rising_low low [] x b rising = rising.0
rising_low low (y ∷ a) x b rising =
    let here = rising.0 in
    let more = rising_low (y.line + 1) a x b rising.1 in
    omega arith

rising_below : (low : ℕ) (a : List Placed) (x : Placed) (b : List Placed) → AreRising low (a ++ x ∷ b) → Below x.line a
rising_below low [] x b rising = tt
rising_below low (y ∷ a) x b rising =
    let more = rising_low (y.line + 1) a x b rising.1 in
    (omega arith, rising_below (y.line + 1) a x b rising.1)

rising_behind : (low : ℕ) (a : List Placed) (x : Placed) (b : List Placed) → AreRising low (a ++ x ∷ b) → Above x.line b
rising_behind low [] x b rising = rising_above x.line (x.line + 1) b (omega arith) rising.1
rising_behind low (y ∷ a) x b rising = rising_behind (y.line + 1) a x b rising.1

above_first : (n : ℕ) (a b : List Placed) → Above n (a ++ b) → Above n a
above_first n [] b h = tt
above_first n (x ∷ a) b h = (h.0, above_first n a b h.1)

above_second : (n : ℕ) (a b : List Placed) → Above n (a ++ b) → Above n b
above_second n [] b h = h
above_second n (x ∷ a) b h = above_second n a b h.1

below_second : (n : ℕ) (a b : List Placed) → Below n (a ++ b) → Below n b
below_second n [] b h = h
below_second n (x ∷ a) b h = below_second n a b h.1

-- ---- at the part where the count ends, and before it

stop_at : (w : LimitName) (a : List Placed) (x : Placed) (b : List Placed) → Below x.line a → Above x.line b → up_to w x.line (a ++ x ∷ b) ≡ amount w a + counted w x.part
stop_at w a x b below above =
    omega (arith, up_to_append w x.line a (x ∷ b), up_to_cons w x.line x b, up_to_below w x.line a below, up_to_above w x.line x.line b (omega arith) above, on_or_before x.line x.line (counted w x.part) (omega arith))

stop_before : (w : LimitName) (line : ℕ) (a : List Placed) (x : Placed) (b : List Placed) → line < x.line → Above x.line b → up_to w line (a ++ x ∷ b) ≤ amount w a
stop_before w line a x b less above =
    omega (arith, up_to_append w line a (x ∷ b), up_to_cons w line x b, up_to_amount w line a, up_to_above w line x.line b (omega arith) above, behind_line x.line line (counted w x.part) less)

-- no procedure passes its limit up to a line
abbrev AllUp : LimitName → ℕ → List Procedure → Type 0
AllUp w line [] = Unit {0}
AllUp w line (p ∷ ps) = (up_to w line (parts_of p) ≤ most w) × AllUp w line ps

all_up_append : (w : LimitName) (line : ℕ) (a b : List Procedure) → AllUp w line a → AllUp w line b → AllUp w line (a ++ b)
all_up_append w line [] b h k = k
all_up_append w line (p ∷ a) b h k = (h.0, all_up_append w line a b h.1 k)

up_at : (w : LimitName) (line : ℕ) (ps : List Procedure) (k : ℕ) (p : Procedure) → AllUp w line ps → slice_get ps k ≡ Some p → up_to w line (parts_of p) ≤ most w
up_at w line [] k p h there = absurd cc
up_at w line (q ∷ ps) zero p h there = let same : q ≡ p = cc in subst (λ (x : Procedure). up_to w line (parts_of x) ≤ most w) same h.0
up_at w line (q ∷ ps) (suc k) p h there = up_at w line ps k p h.1 there

kept_up : (w : LimitName) (line : ℕ) (ps : List Procedure) → scope w ≡ EachProcedure → EachKeeps ps → AllUp w line ps
kept_up w line [] each h = tt
kept_up w line (p ∷ ps) each h = (omega (arith, up_to_amount w line (parts_of p), h.0 w each), kept_up w line ps each h.1)

above_up : (w : LimitName) (line n : ℕ) (ps : List Procedure) → line ≤ n → Above n (flat ps) → AllUp w line ps
above_up w line n [] less above = tt
above_up w line n (p ∷ ps) less above =
    let both = subst (λ (x : List Placed). Above n x) (flat_cons p ps) above in
    (omega (arith, up_to_above w line n (parts_of p) less (above_first n (parts_of p) (flat ps) both)), above_up w line n ps less (above_second n (parts_of p) (flat ps) both))

not_in : (s : Scope) (w : LimitName) (line : ℕ) (m : List Procedure) → (s ≡ WholeText → up_to w line (flat m) ≤ most w) → (s ≡ EachProcedure → AllUp w line m) → passes_in s w line m → ⊥
unfolding flat
not_in WholeText w line m f g h = omega (arith, f refl, h)
not_in EachProcedure w line m f g h = omega (arith, up_at w line m h.0 h.1 (g refl) h.2, h.3)

not_passed : (w : LimitName) (line : ℕ) (m : List Procedure) → (scope w ≡ WholeText → up_to w line (flat m) ≤ most w) → (scope w ≡ EachProcedure → AllUp w line m) → Passes w line m → ⊥
not_passed w line m f g h = not_in (scope w) w line m f g h

-- ---- no limit is passed

no_procedures : EachKeeps []
no_procedures = tt

pub none_passed : (m : List Procedure) (c : Counts) → counted_all (Ok no_counts) m ≡ Ok c → KeepsLimits m
none_passed m c e which line =
    let kept = all_kept m [] [] no_counts c no_procedures nothing_seen e in
    not_passed which line m (λ all. omega (arith, up_to_amount which line (flat m), kept.text which all)) (λ each. kept_up which line m each kept.keep)

-- ---- the first limit

get_middle : (a : List Procedure) (p : Procedure) (b : List Procedure) → slice_get (a ++ p ∷ b) (length a) ≡ Some p
get_middle [] p b = refl
get_middle (q ∷ a) p b = get_middle a p b

-- where the count ends, with the lines around it
record Stopped (before : List Procedure) (here : Procedure) (after : List Procedure) (front : List Placed) (stop : Placed) (rest : List Placed) (c : Counts) (fault : Passed) : Type 0 where
  own : parts_of here ≡ front ++ stop ∷ rest
  text : flat (before ++ here ∷ after) ≡ (flat before ++ front) ++ stop ∷ (rest ++ flat after)
  keep : EachKeeps before
  seen : IsSeen (flat before ++ front) front c
  over : IsOver c fault stop.line stop.part
  below : Below stop.line (flat before ++ front)
  above : Above stop.line (rest ++ flat after)

text_split : (before : List Procedure) (here : Procedure) (after : List Procedure) (front : List Placed) (stop : Placed) (rest : List Placed) → parts_of here ≡ front ++ stop ∷ rest → flat (before ++ here ∷ after) ≡ (flat before ++ front) ++ stop ∷ (rest ++ flat after)
text_split before here after front stop rest e =
    flat_append before (here ∷ after)
    ∙ ap (λ (x : List Placed). flat before ++ x) (flat_cons here after ∙ ap (λ (x : List Placed). x ++ flat after) e ∙ append_assoc front (stop ∷ rest) (flat after))
    ∙ sym (append_assoc (flat before) front (stop ∷ (rest ++ flat after)))

passed_here : (s : Scope) (before : List Procedure) (here : Procedure) (after : List Procedure) (front : List Placed) (stop : Placed) (rest : List Placed) (c : Counts) (fault : Passed) → Stopped before here after front stop rest c fault → most fault.which < amount_in s fault.which (flat before ++ front) front + counted fault.which stop.part → passes_in s fault.which stop.line (before ++ here ∷ after)
unfolding flat
passed_here WholeText before here after front stop rest c fault h over =
    let at = ap (up_to fault.which stop.line) h.text ∙ stop_at fault.which (flat before ++ front) stop (rest ++ flat after) h.below h.above in
    omega (arith, at, over)
passed_here EachProcedure before here after front stop rest c fault h over =
    let at = ap (up_to fault.which stop.line) h.own ∙ stop_at fault.which front stop rest (below_second stop.line (flat before) front h.below) (above_first stop.line rest (flat after) h.above) in
    (length before, here, get_middle before here after, omega (arith, at, over))

earlier : (before : List Procedure) (here : Procedure) (after : List Procedure) (front : List Placed) (stop : Placed) (rest : List Placed) (c : Counts) (fault : Passed) → Stopped before here after front stop rest c fault → (w : LimitName) (line : ℕ) → line < stop.line → Passes w line (before ++ here ∷ after) → ⊥
earlier before here after front stop rest c fault h w line less =
    not_passed w line (before ++ here ∷ after)
    (λ all.
    let is = h.seen.is w ∙ ap (λ (s : Scope). amount_in s w (flat before ++ front) front) all in
    let up = ap (up_to w line) h.text in
    omega (arith, is, up, h.seen.within w, stop_before w line (flat before ++ front) stop (rest ++ flat after) less h.above))
    (λ each.
    let is = h.seen.is w ∙ ap (λ (s : Scope). amount_in s w (flat before ++ front) front) each in
    let up = ap (up_to w line) h.own in
    let own : up_to w line (parts_of here) ≤ most w = omega (arith, is, up, h.seen.within w, stop_before w line front stop rest less (above_first stop.line rest (flat after) h.above)) in
    all_up_append w line before (here ∷ after) (kept_up w line before each h.keep) (own, above_up w line stop.line after (omega arith) (above_second stop.line rest (flat after) h.above)))

lower : (before : List Procedure) (here : Procedure) (after : List Procedure) (front : List Placed) (stop : Placed) (rest : List Placed) (c : Counts) (fault : Passed) → Stopped before here after front stop rest c fault → (w : LimitName) → rank w < rank fault.which → Passes w stop.line (before ++ here ∷ after) → ⊥
lower before here after front stop rest c fault h w less =
    not_passed w stop.line (before ++ here ∷ after)
    (λ all.
    let is = h.seen.is w ∙ ap (λ (s : Scope). amount_in s w (flat before ++ front) front) all in
    let up = ap (up_to w stop.line) h.text ∙ stop_at w (flat before ++ front) stop (rest ++ flat after) h.below h.above in
    omega (arith, is, up, h.over.least w less))
    (λ each.
    let is = h.seen.is w ∙ ap (λ (s : Scope). amount_in s w (flat before ++ front) front) each in
    let up = ap (up_to w stop.line) h.own ∙ stop_at w front stop rest (below_second stop.line (flat before) front h.below) (above_first stop.line rest (flat after) h.above) in
    let own : up_to w stop.line (parts_of here) ≤ most w = omega (arith, is, up, h.over.least w less) in
    all_up_append w stop.line before (here ∷ after) (kept_up w stop.line before each h.keep) (own, above_up w stop.line stop.line after (omega arith) (above_second stop.line rest (flat after) h.above)))

first_of_stopped : (before : List Procedure) (here : Procedure) (after : List Procedure) (front : List Placed) (stop : Placed) (rest : List Placed) (c : Counts) (fault : Passed) → Stopped before here after front stop rest c fault → IsFirstLimit (before ++ here ∷ after) fault.which stop.line
first_of_stopped before here after front stop rest c fault h =
    let is = h.seen.is fault.which in
    record {
      passes = passed_here (scope fault.which) before here after front stop rest c fault h (omega (arith, is, h.over.over));
      first = λ other line less. earlier before here after front stop rest c fault h other line less;
      least = λ other less. lower before here after front stop rest c fault h other less;
    }

pub first_passed : (m : List Procedure) (fault : Passed) → AreRising 1 (flat_map parts_of m) → counted_all (Ok no_counts) m ≡ Err fault → IsFirstLimit m fault.which fault.line
unfolding flat
first_passed m fault rising e =
    let all = all_ends m [] [] no_counts fault no_procedures nothing_seen e in
    let end = all.inside in
    let text = text_split all.before all.here all.after end.front end.stop end.rest end.split in
    let shown : AreRising 1 ((flat all.before ++ end.front) ++ end.stop ∷ (end.rest ++ flat all.after)) = subst (λ (x : List Placed). AreRising 1 x) (ap flat all.split ∙ text) rising in
    let stopped : Stopped all.before all.here all.after end.front end.stop end.rest end.counts fault = record {
      own = end.split;
      text = text;
      keep = all.keep;
      seen = end.seen;
      over = end.over;
      below = rising_below 1 (flat all.before ++ end.front) end.stop (end.rest ++ flat all.after) shown;
      above = rising_behind 1 (flat all.before ++ end.front) end.stop (end.rest ++ flat all.after) shown;
    } in
    let first = first_of_stopped all.before all.here all.after end.front end.stop end.rest end.counts fault stopped in
    subst (λ (x : List Procedure). IsFirstLimit x fault.which fault.line) (sym all.split) (subst (λ (n : ℕ). IsFirstLimit (all.before ++ all.here ∷ all.after) fault.which n) (sym end.over.stands) first)
