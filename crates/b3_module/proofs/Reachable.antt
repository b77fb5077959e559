-- What is reached while a text is read.
use Rattle.std.proofs.Common.{◌≡◌, ℕ, ◌+◌, ◌-◌, ◌≤◌, List, [], ◌∷◌, ◌++◌, length, Option, Some, None, refl, ap, subst, ◌∙◌, arith, true, false}
use Rattle.std.specs.Prelude.{slice_index_or, sum_by, ◌==◌, if◌then◌else◌}
use Rattle.std.proofs.lemmas.List.{length-append}
use Rattle.std.proofs.lemmas.List.Sums.{sum_by-cons, sum_by_push}
use Rattle.b3_ir.specs.declared.value.Value.{Value}
use Rattle.b3_ir.specs.Fits.{Fits}
use Rattle.b3_ir.specs.Procedure.{Block, Procedure, empty_block, empty_procedure}
use Rattle.b3_rows.specs.declared.row.Row.{Row}
use Rattle.b3_rows.specs.declared.row.Row.TheVariants as rows
use Rattle.b3_module.specs.declared.place.Following.{Following}
use Rattle.b3_module.specs.declared.place.Following.TheVariants.{Nothing, Bare, One, Two, Many}
use Rattle.b3_module.specs.declared.place.Place.{Place}
use Rattle.b3_module.specs.declared.place.Place.TheVariants as places
use Rattle.b3_module.specs.Texts.{State, added, added_value, after_value, at, branched, cases_in, first, following, jumped, opened, placed, returned, slotted, switched, valued, with_heading, with_last, with_slot, with_targets, with_value}
use Rattle.b3_module.specs.Reading.{FitsWith, HasBlock, IsCounted, IsPlaceIn, IsReachable, last_of, MayStand, size_of}
use Rattle.b3_module.proofs.LastLemmas.{length_with_last, with_last_at}

-- ---- values that fit

fits_on : (v : Value) (line : ℕ) → Fits v → Fits (record v { line = line })
fits_on v line h = record { body = h.body; chill = h.chill; traps = h.traps }

pub moved : (f : Following) (v : Value) (line : ℕ) → FitsWith f v → FitsWith f (record v { line = line })
moved Nothing v line h = fits_on v line h
moved Bare v line h = fits_on v line h
moved One v line h = λ a. fits_on (with_targets v (a ∷ [])) line (h a)
moved Two v line h = λ a b. fits_on (with_targets v (a ∷ b ∷ [])) line (h a b)
moved Many v line h = λ targets e. fits_on (with_targets v targets) line (h targets e)

pub value_stands : (row : Row) (v : Value) → row ≡ rows.ValueRow v → MayStand row → FitsWith (following v.kind.opcode) v
value_stands row v e h = subst MayStand e h

-- ---- counts

pub last_with : (f : Procedure → Procedure) (ps : List Procedure) → 1 ≤ length ps → last_of (with_last f ps) ≡ f (last_of ps)
last_with f ps some =
    ap (λ (n : ℕ). slice_index_or (with_last f ps) (n - 1) (empty_procedure [] 0)) (length_with_last f ps) ∙ with_last_at f (empty_procedure [] 0) ps (length ps - 1) (omega arith)

index_last : (ps : List Procedure) (p d : Procedure) → slice_index_or (ps ++ p ∷ []) (length ps) d ≡ p
index_last [] p d = refl
index_last (q ∷ ps) p d = index_last ps p d

pub last_added : (ps : List Procedure) (p : Procedure) → last_of (ps ++ p ∷ []) ≡ p
last_added ps p =
    let n : length (ps ++ p ∷ []) - 1 ≡ length ps = omega (arith, length-append ps (p ∷ [])) in
    ap (λ (k : ℕ). slice_index_or (ps ++ p ∷ []) k (empty_procedure [] 0)) n ∙ index_last ps p (empty_procedure [] 0)

more_counted : (f : Procedure → Procedure) (ps : List Procedure) (line : ℕ) → 1 ≤ length ps → ((p : Procedure) → size_of (f p) ≤ size_of p + 1) → IsCounted ps line → IsCounted (with_last f ps) (line + 1)
more_counted f ps line some grows h =
    let last = ap size_of (last_with f ps some) in
    let grown = grows (last_of ps) in
    let long = length_with_last f ps in
    let few = h.procedures in
    let small = h.last in
    record { procedures = omega arith; last = omega arith }

new_counted : (name : List ℕ) (ps : List Procedure) (line : ℕ) → IsCounted ps line → IsCounted (ps ++ empty_procedure name line ∷ []) (line + 1)
new_counted name ps line h =
    let last = ap size_of (last_added ps (empty_procedure name line)) in
    let few = h.procedures in
    record { procedures = omega (arith, length-append ps (empty_procedure name line ∷ [])); last = omega arith }

later_counted : (ps : List Procedure) (line : ℕ) → IsCounted ps line → IsCounted ps (line + 1)
later_counted ps line h = let few = h.procedures in let small = h.last in record { procedures = omega arith; last = omega arith }

total_valued : (blocks : List Block) (v : Value) → sum_by (λ (x : Block). length x.values) (with_last (λ (b : Block). record b { values = b.values ++ v ∷ [] }) blocks) ≤ sum_by (λ (x : Block). length x.values) blocks + 1
total_valued [] v = omega arith
total_valued (b ∷ []) v = omega (arith, length-append b.values (v ∷ []), sum_by-cons (λ (x : Block). length x.values) b [], sum_by-cons (λ (x : Block). length x.values) (record b { values = b.values ++ v ∷ [] }) [])
total_valued (b ∷ c ∷ blocks) v =
    let grow = λ (x : Block). record x { values = x.values ++ v ∷ [] } in
    omega (arith, total_valued (c ∷ blocks) v, sum_by-cons (λ (x : Block). length x.values) b (c ∷ blocks), sum_by-cons (λ (x : Block). length x.values) b (with_last grow (c ∷ blocks)))

slot_grows : (number bytes line : ℕ) (p : Procedure) → size_of (with_slot number bytes line p) ≤ size_of p + 1
slot_grows number bytes line p = omega (arith, length-append p.slots (record { number = number; bytes = bytes; line = line } ∷ []))

heading_grows : (number line : ℕ) (p : Procedure) → size_of (with_heading number line p) ≤ size_of p + 1
heading_grows number line p = omega (arith, length-append p.blocks (empty_block number line ∷ []), sum_by_push (λ (x : Block). length x.values) p.blocks (empty_block number line))

value_grows : (v : Value) (p : Procedure) → size_of (with_value v p) ≤ size_of p + 1
value_grows v p = omega (arith, total_valued p.blocks v, length_with_last (λ (b : Block). record b { values = b.values ++ v ∷ [] }) p.blocks)

-- ---- places

pub block_stays : (v : Value) (ps : List Procedure) → HasBlock ps → HasBlock (with_last (with_value v) ps)
block_stays v ps h =
    let some = h.0 in
    let blocks = ap (λ (p : Procedure). length p.blocks) (last_with (with_value v) ps h.0) in
    let same = length_with_last (λ (b : Block). record b { values = b.values ++ v ∷ [] }) (last_of ps).blocks in
    (omega (arith, length_with_last (with_value v) ps), omega (arith, h.1))

pub new_block : (number line : ℕ) (ps : List Procedure) → 1 ≤ length ps → HasBlock (with_last (with_heading number line) ps)
new_block number line ps some =
    let blocks = ap (λ (p : Procedure). length p.blocks) (last_with (with_heading number line) ps some) in
    (omega (arith, length_with_last (with_heading number line) ps), omega (arith, length-append (last_of ps).blocks (empty_block number line ∷ [])))

pub some_slots : (number bytes line : ℕ) (ps : List Procedure) → 1 ≤ length ps → 1 ≤ length (with_last (with_slot number bytes line) ps)
some_slots number bytes line ps some = omega (arith, length_with_last (with_slot number bytes line) ps)

pub some_new : (name : List ℕ) (line : ℕ) (ps : List Procedure) → 1 ≤ length (ps ++ empty_procedure name line ∷ [])
some_new name line ps = omega (arith, length-append ps (empty_procedure name line ∷ []))

-- ---- each row

-- what is reached with the state that a row makes
abbrev Goes : Option State → ℕ → Type 0
Goes t line = (next : State) → t ≡ Some next → IsReachable next line

goes : (s next : State) (line : ℕ) → IsReachable s line → Some s ≡ Some next → IsReachable next line
goes s next line h e = let same : s ≡ next = cc in subst (λ (x : State). IsReachable x line) same h

nowhere : (line : ℕ) → Goes None line
nowhere line next e = absurd cc

header_goes : (name : List ℕ) (ps : List Procedure) (line : ℕ) → IsCounted ps line → Goes (Some (at places.Slots (ps ++ empty_procedure name line ∷ []))) (line + 1)
header_goes name ps line h next e = goes (at places.Slots (ps ++ empty_procedure name line ∷ [])) next (line + 1) (record { counted = new_counted name ps line h; place = some_new name line ps }) e

heading_goes : (number : ℕ) (ps : List Procedure) (line : ℕ) → 1 ≤ length ps → IsCounted ps line → Goes (Some (at places.Values (with_last (with_heading number line) ps))) (line + 1)
heading_goes number ps line some h next e =
    goes (at places.Values (with_last (with_heading number line) ps)) next (line + 1) (record { counted = more_counted (with_heading number line) ps line some (heading_grows number line) h; place = new_block number line ps some }) e

value_goes : (v : Value) (ps : List Procedure) (line : ℕ) → HasBlock ps → IsCounted ps line → Goes (Some (added_value ps v)) (line + 1)
value_goes v ps line some h next e =
    goes (added_value ps v) next (line + 1) (record { counted = more_counted (with_value v) ps line some.0 (value_grows v) h; place = block_stays v ps some }) e

after_goes : (f : Following) (v : Value) (ps : List Procedure) (line : ℕ) → HasBlock ps → IsCounted ps line → FitsWith f v → Goes (Some (after_value f ps v)) (line + 1)
after_goes Nothing v ps line some h fits next e = value_goes v ps line some h next e
after_goes Bare v ps line some h fits next e =
    goes (at places.Returned (with_last (with_value v) ps)) next (line + 1) (record { counted = more_counted (with_value v) ps line some.0 (value_grows v) h; place = block_stays v ps some }) e
after_goes One v ps line some h fits next e = goes (at (places.Jump v) ps) next (line + 1) (record { counted = later_counted ps line h; place = (some, fits) }) e
after_goes Two v ps line some h fits next e = goes (at (places.Branch v) ps) next (line + 1) (record { counted = later_counted ps line h; place = (some, fits) }) e
after_goes Many v ps line some h fits next e = goes (at (places.Switch v) ps) next (line + 1) (record { counted = later_counted ps line h; place = (some, fits) }) e

opened_goes : (ps : List Procedure) (line : ℕ) (row : Row) → IsCounted ps line → Goes (opened ps line row) (line + 1)
opened_goes ps line (rows.Header name) h = header_goes name ps line h
opened_goes ps line rows.Blank h = nowhere (line + 1)
opened_goes ps line _ h = nowhere (line + 1)

slotted_goes : (ps : List Procedure) (line : ℕ) (row : Row) → 1 ≤ length ps → IsCounted ps line → Goes (slotted ps line row) (line + 1)
slotted_goes ps line (rows.Slot number bytes) some h = λ next e.
    goes (at places.Slots (with_last (with_slot number bytes line) ps)) next (line + 1) (record { counted = more_counted (with_slot number bytes line) ps line some (slot_grows number bytes line) h; place = some_slots number bytes line ps some }) e
slotted_goes ps line (rows.Heading number) some h = heading_goes number ps line some h
slotted_goes ps line rows.Blank some h = nowhere (line + 1)
slotted_goes ps line _ some h = nowhere (line + 1)

valued_goes : (ps : List Procedure) (line : ℕ) (row : Row) → HasBlock ps → IsCounted ps line → MayStand row → Goes (valued ps line row) (line + 1)
valued_goes ps line (rows.ValueRow v) some h may = after_goes (following v.kind.opcode) (record v { line = line }) ps line some h (moved (following v.kind.opcode) v line may)
valued_goes ps line (rows.Heading number) some h may = heading_goes number ps line some.0 h
valued_goes ps line (rows.Header name) some h may = header_goes name ps line h
valued_goes ps line rows.Blank some h may = nowhere (line + 1)
valued_goes ps line _ some h may = nowhere (line + 1)

returned_goes : (ps : List Procedure) (line : ℕ) (row : Row) → HasBlock ps → IsCounted ps line → MayStand row → Goes (returned ps line row) (line + 1)
returned_goes ps line rows.NoSuccessors some h may = λ next e. goes (at places.Values ps) next (line + 1) (record { counted = later_counted ps line h; place = some }) e
returned_goes ps line rows.Blank some h may = valued_goes ps line rows.Blank some h may
returned_goes ps line row some h may = valued_goes ps line row some h may

jumped_goes : (v : Value) (ps : List Procedure) (line : ℕ) (row : Row) → HasBlock ps → IsCounted ps line → Goes (jumped v ps row) (line + 1)
jumped_goes v ps line (rows.One target) some h = value_goes (with_targets v (target ∷ [])) ps line some h
jumped_goes v ps line rows.Blank some h = nowhere (line + 1)
jumped_goes v ps line _ some h = nowhere (line + 1)

branched_goes : (v : Value) (ps : List Procedure) (line : ℕ) (row : Row) → HasBlock ps → IsCounted ps line → Goes (branched v ps row) (line + 1)
branched_goes v ps line (rows.Two a b) some h = value_goes (with_targets v (a ∷ b ∷ [])) ps line some h
branched_goes v ps line rows.Blank some h = nowhere (line + 1)
branched_goes v ps line _ some h = nowhere (line + 1)

switched_goes : (v : Value) (ps : List Procedure) (line : ℕ) (row : Row) → HasBlock ps → IsCounted ps line → Goes (switched v ps row) (line + 1)
switched_goes v ps line (rows.Many targets) some h =
    elim (length targets == cases_in v.body + 1) as (λ b. Goes (if b then Some (added_value ps (with_targets v targets)) else None) (line + 1)) [
      | true ↦ value_goes (with_targets v targets) ps line some h
      | false ↦ nowhere (line + 1)
    ]
switched_goes v ps line rows.Blank some h = nowhere (line + 1)
switched_goes v ps line _ some h = nowhere (line + 1)

placed_goes : (place : Place) (ps : List Procedure) (line : ℕ) (row : Row) → IsCounted ps line → IsPlaceIn ps place → MayStand row → Goes (placed place ps line row) (line + 1)
placed_goes places.Outside ps line row h in_ may = opened_goes ps line row h
placed_goes places.Slots ps line row h in_ may = slotted_goes ps line row in_ h
placed_goes places.Values ps line row h in_ may = valued_goes ps line row in_ h may
placed_goes places.Returned ps line row h in_ may = returned_goes ps line row in_ h may
placed_goes (places.Jump v) ps line row h in_ may = jumped_goes v ps line row in_.0 h
placed_goes (places.Branch v) ps line row h in_ may = branched_goes v ps line row in_.0 h
placed_goes (places.Switch v) ps line row h in_ may = switched_goes v ps line row in_.0 h

pub added_goes : (s : State) (line : ℕ) (row : Row) → IsReachable s line → MayStand row → Goes (added s line row) (line + 1)
added_goes s line rows.Blank h may = λ next e. goes s next (line + 1) (record { counted = later_counted s.procedures line h.counted; place = h.place }) e
added_goes s line (rows.Header name) h may = placed_goes s.place s.procedures line (rows.Header name) h.counted h.place may
added_goes s line row h may = placed_goes s.place s.procedures line row h.counted h.place may

pub first_reachable : IsReachable first 1
first_reachable = record { counted = record { procedures = omega arith; last = omega arith }; place = tt }
