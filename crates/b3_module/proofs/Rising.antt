-- What is read of a text stands on rising lines.
use Rattle.std.proofs.Common.{◌≡◌, ℕ, suc, ◌+◌, ◌-◌, ◌<◌, ◌≤◌, List, [], ◌∷◌, ◌++◌, length, Option, Some, None, true, false, refl, sym, ap, subst, ◌∙◌, arith, append_assoc}
use Rattle.std.specs.Prelude.{map, slice_index_or, ◌==◌, if◌then◌else◌}
use Rattle.std.specs.List.{flat_map}
use Rattle.std.proofs.lemmas.List.{append-nil}
use Rattle.b3_ir.specs.declared.procedure.SlotLine.{SlotLine}
use Rattle.b3_ir.specs.declared.value.Value.{Value}
use Rattle.b3_ir.specs.Procedure.{Block, Procedure, empty_procedure}
use Rattle.b3_rows.specs.declared.row.Row.{Row}
use Rattle.b3_rows.specs.declared.row.Row.TheVariants as rows
use Rattle.b3_module.specs.declared.place.Following.{Following}
use Rattle.b3_module.specs.declared.place.Following.TheVariants.{Nothing, Bare, One, Two, Many}
use Rattle.b3_module.specs.declared.place.Place.{Place}
use Rattle.b3_module.specs.declared.place.Place.TheVariants as places
use Rattle.b3_module.specs.Texts.{State, added, added_to, added_value, after_value, at, branched, cases_in, ended, ended_at, first, following, jumped, led, opened, placed, returned, slotted, spelled, switched, valued, with_heading, with_last, with_slot, with_targets, with_value}
use Rattle.b3_module.specs.Limits.{Part, Header, Slot, Heading, Placed, parts_of, parts_of_block, parts_of_slots, part_of_slot, part_of_value}
use Rattle.b3_module.specs.Reading.{HasBlock, last_of}
use Rattle.b3_module.proofs.LimitLemmas.{AreRising, Below}
use Rattle.b3_module.proofs.BadLines.{map_append}
use Rattle.b3_module.proofs.Reachable.{block_stays, last_added, last_with, new_block, some_new, some_slots}

abbrev part : ℕ → Part → Placed
part line kind = record { line = line; part = kind }

-- ---- parts are added at the end

pub parts_all : List Procedure → List Placed
parts_all ps = flat_map parts_of ps

rising_more : (low n : ℕ) (a : List Placed) (x : Placed) → AreRising low a → Below n a → low ≤ x.line → n ≤ x.line → AreRising low (a ++ x ∷ [])
rising_more low n [] x rising below h k = (h, tt)
rising_more low n (y ∷ a) x rising below h k = let under = below.0 in (rising.0, rising_more (y.line + 1) n a x rising.1 below.1 (omega arith) k)

below_more : (n m : ℕ) (a : List Placed) (x : Placed) → Below n a → n ≤ m → x.line < m → Below m (a ++ x ∷ [])
below_more n m [] x below h k = (k, tt)
below_more n m (y ∷ a) x below h k = let under = below.0 in (omega arith, below_more n m a x below.1 h k)

below_later : (n m : ℕ) (a : List Placed) → Below n a → n ≤ m → Below m a
below_later n m [] below h = tt
below_later n m (y ∷ a) below h = let under = below.0 in (omega arith, below_later n m a below.1 h)

last_cons : (p q : Procedure) (ps : List Procedure) → last_of (p ∷ q ∷ ps) ≡ last_of (q ∷ ps)
last_cons p q ps =
    let n : suc (suc (length ps)) - 1 ≡ suc (length ps) = omega arith in
    let m : suc (length ps) - 1 ≡ length ps = omega arith in
    ap (λ (k : ℕ). slice_index_or (p ∷ q ∷ ps) k (empty_procedure [] 0)) n ∙ ap (λ (k : ℕ). slice_index_or (q ∷ ps) k (empty_procedure [] 0)) (sym m)

all_last : (f : Procedure → Procedure) (ps : List Procedure) (x : Placed) → 1 ≤ length ps → parts_of (f (last_of ps)) ≡ parts_of (last_of ps) ++ x ∷ [] → parts_all (with_last f ps) ≡ parts_all ps ++ x ∷ []
unfolding parts_all
all_last f [] x some e = absurd (omega arith)
all_last f (p ∷ []) x some e = append-nil (parts_of (f p)) ∙ e ∙ ap (λ (y : List Placed). y ++ x ∷ []) (sym (append-nil (parts_of p)))
all_last f (p ∷ q ∷ ps) x some e =
    let more = all_last f (q ∷ ps) x (omega arith) (subst (λ (y : Procedure). parts_of (f y) ≡ parts_of y ++ x ∷ []) (last_cons p q ps) e) in
    ap (λ (y : List Placed). parts_of p ++ y) more ∙ sym (append_assoc (parts_of p) (flat_map parts_of (q ∷ ps)) (x ∷ []))

all_new : (name : List ℕ) (line : ℕ) (ps : List Procedure) → parts_all (ps ++ empty_procedure name line ∷ []) ≡ parts_all ps ++ part line Header ∷ []
unfolding parts_all
all_new name line [] = refl
all_new name line (p ∷ ps) = ap (λ (y : List Placed). parts_of p ++ y) (all_new name line ps) ∙ sym (append_assoc (parts_of p) (flat_map parts_of ps) (part line Header ∷ []))

slot_parts : (number bytes line : ℕ) (p : Procedure) → p.blocks ≡ [] → parts_of (with_slot number bytes line p) ≡ parts_of p ++ part line (Slot bytes) ∷ []
slot_parts number bytes line p none =
    let s : SlotLine = record { number = number; bytes = bytes; line = line } in
    let no : flat_map parts_of_block p.blocks ≡ [] = ap (flat_map parts_of_block) none in
    let left : parts_of_slots (p.slots ++ s ∷ []) ++ flat_map parts_of_block p.blocks ≡ parts_of_slots p.slots ++ part line (Slot bytes) ∷ [] = ap (λ (y : List Placed). parts_of_slots (p.slots ++ s ∷ []) ++ y) no ∙ append-nil (parts_of_slots (p.slots ++ s ∷ [])) ∙ map_append part_of_slot p.slots (s ∷ []) in
    let right : parts_of_slots p.slots ++ flat_map parts_of_block p.blocks ≡ parts_of_slots p.slots = ap (λ (y : List Placed). parts_of_slots p.slots ++ y) no ∙ append-nil (parts_of_slots p.slots) in
    ap (λ (y : List Placed). part p.line Header ∷ y) left ∙ ap (λ (y : List Placed). part p.line Header ∷ (y ++ part line (Slot bytes) ∷ [])) (sym right)

heading_blocks : (number line : ℕ) (blocks : List Block) → flat_map parts_of_block (blocks ++ record { number = number; line = line; values = [] } ∷ []) ≡ flat_map parts_of_block blocks ++ part line Heading ∷ []
heading_blocks number line [] = refl
heading_blocks number line (b ∷ blocks) = ap (λ (y : List Placed). parts_of_block b ++ y) (heading_blocks number line blocks) ∙ sym (append_assoc (parts_of_block b) (flat_map parts_of_block blocks) (part line Heading ∷ []))

heading_parts : (number line : ℕ) (p : Procedure) → parts_of (with_heading number line p) ≡ parts_of p ++ part line Heading ∷ []
heading_parts number line p =
    ap (λ (y : List Placed). part p.line Header ∷ (parts_of_slots p.slots ++ y)) (heading_blocks number line p.blocks)
    ∙ ap (λ (y : List Placed). part p.line Header ∷ y) (sym (append_assoc (parts_of_slots p.slots) (flat_map parts_of_block p.blocks) (part line Heading ∷ [])))

value_blocks : (v : Value) (blocks : List Block) → 1 ≤ length blocks → flat_map parts_of_block (with_last (λ (b : Block). record b { values = b.values ++ v ∷ [] }) blocks) ≡ flat_map parts_of_block blocks ++ part_of_value v ∷ []
value_blocks v [] some = absurd (omega arith)
value_blocks v (b ∷ []) some =
    let values = map_append part_of_value b.values (v ∷ []) in
    append-nil (part b.line Heading ∷ map part_of_value (b.values ++ v ∷ [])) ∙ ap (λ (y : List Placed). part b.line Heading ∷ y) values ∙ ap (λ (y : List Placed). y ++ part_of_value v ∷ []) (sym (append-nil (parts_of_block b)))
value_blocks v (b ∷ c ∷ blocks) some =
    ap (λ (y : List Placed). parts_of_block b ++ y) (value_blocks v (c ∷ blocks) (omega arith)) ∙ sym (append_assoc (parts_of_block b) (flat_map parts_of_block (c ∷ blocks)) (part_of_value v ∷ []))

value_parts : (v : Value) (p : Procedure) → 1 ≤ length p.blocks → parts_of (with_value v p) ≡ parts_of p ++ part_of_value v ∷ []
value_parts v p some =
    ap (λ (y : List Placed). part p.line Header ∷ (parts_of_slots p.slots ++ y)) (value_blocks v p.blocks some)
    ∙ ap (λ (y : List Placed). part p.line Header ∷ y) (sym (append_assoc (parts_of_slots p.slots) (flat_map parts_of_block p.blocks) (part_of_value v ∷ [])))

-- ---- while rows are read

-- parts that rise below a line
record RisesTo (ps : List Procedure) (line : ℕ) : Type 0 where
  rising : AreRising 1 (parts_all ps)
  below : Below line (parts_all ps)

abbrev Stands : List Procedure → Place → ℕ → Type 0
Stands ps places.Outside line = RisesTo ps line
Stands ps places.Slots line = RisesTo ps line × (1 ≤ length ps) × ((last_of ps).blocks ≡ [])
Stands ps places.Values line = RisesTo ps line × HasBlock ps
Stands ps places.Returned line = RisesTo ps line × HasBlock ps
Stands ps (places.Jump v) line = RisesTo ps v.line × HasBlock ps × (1 ≤ v.line) × (v.line < line)
Stands ps (places.Branch v) line = RisesTo ps v.line × HasBlock ps × (1 ≤ v.line) × (v.line < line)
Stands ps (places.Switch v) line = RisesTo ps v.line × HasBlock ps × (1 ≤ v.line) × (v.line < line)

rises_on : (ps qs : List Procedure) (n m : ℕ) (x : Placed) → RisesTo ps n → parts_all qs ≡ parts_all ps ++ x ∷ [] → 1 ≤ x.line → n ≤ x.line → x.line < m → RisesTo qs m
rises_on ps qs n m x h e some above below = record {
  rising = subst (λ (y : List Placed). AreRising 1 y) (sym e) (rising_more 1 n (parts_all ps) x h.rising h.below some above);
  below = subst (λ (y : List Placed). Below m y) (sym e) (below_more n m (parts_all ps) x h.below (omega arith) below);
}

rises_later : (ps : List Procedure) (n m : ℕ) → RisesTo ps n → n ≤ m → RisesTo ps m
rises_later ps n m h less = record { rising = h.rising; below = below_later n m (parts_all ps) h.below less }

-- what stands with the state that a row makes
abbrev Goes : Option State → ℕ → Type 0
Goes t line = (next : State) → t ≡ Some next → Stands next.procedures next.place line

goes : (s next : State) (line : ℕ) → Stands s.procedures s.place line → Some s ≡ Some next → Stands next.procedures next.place line
goes s next line h e = let same : s ≡ next = cc in subst (λ (x : State). Stands x.procedures x.place line) same h

nowhere : (line : ℕ) → Goes None line
nowhere line next e = absurd cc

header_goes : (name : List ℕ) (ps : List Procedure) (line : ℕ) → 1 ≤ line → RisesTo ps line → Goes (Some (at places.Slots (ps ++ empty_procedure name line ∷ []))) (line + 1)
header_goes name ps line some h next e =
    let qs = ps ++ empty_procedure name line ∷ [] in
    goes (at places.Slots qs) next (line + 1) (rises_on ps qs line (line + 1) (part line Header) h (all_new name line ps) some (omega arith) (omega arith), some_new name line ps, ap (λ (p : Procedure). p.blocks) (last_added ps (empty_procedure name line))) e

slot_goes : (number bytes : ℕ) (ps : List Procedure) (line : ℕ) → 1 ≤ line → RisesTo ps line → 1 ≤ length ps → (last_of ps).blocks ≡ [] → Goes (Some (at places.Slots (with_last (with_slot number bytes line) ps))) (line + 1)
slot_goes number bytes ps line some h has none next e =
    let f = with_slot number bytes line in
    let parts = all_last f ps (part line (Slot bytes)) has (slot_parts number bytes line (last_of ps) none) in
    goes (at places.Slots (with_last f ps)) next (line + 1) (rises_on ps (with_last f ps) line (line + 1) (part line (Slot bytes)) h parts some (omega arith) (omega arith), some_slots number bytes line ps has, ap (λ (p : Procedure). p.blocks) (last_with f ps has) ∙ none) e

heading_goes : (number : ℕ) (ps : List Procedure) (line : ℕ) → 1 ≤ line → RisesTo ps line → 1 ≤ length ps → Goes (Some (at places.Values (with_last (with_heading number line) ps))) (line + 1)
heading_goes number ps line some h has next e =
    let f = with_heading number line in
    let parts = all_last f ps (part line Heading) has (heading_parts number line (last_of ps)) in
    goes (at places.Values (with_last f ps)) next (line + 1) (rises_on ps (with_last f ps) line (line + 1) (part line Heading) h parts some (omega arith) (omega arith), new_block number line ps has) e

value_rises : (v : Value) (ps : List Procedure) (line : ℕ) → 1 ≤ v.line → v.line < line → RisesTo ps v.line → HasBlock ps → RisesTo (with_last (with_value v) ps) line
value_rises v ps line some less h has =
    rises_on ps (with_last (with_value v) ps) v.line line (part_of_value v) h (all_last (with_value v) ps (part_of_value v) has.0 (value_parts v (last_of ps) has.1)) some (omega arith) less

value_goes : (v : Value) (ps : List Procedure) (line : ℕ) → 1 ≤ v.line → v.line < line → RisesTo ps v.line → HasBlock ps → Goes (Some (added_value ps v)) line
value_goes v ps line some less h has next e = goes (added_value ps v) next line (value_rises v ps line some less h has, block_stays v ps has) e

after_goes : (f : Following) (v : Value) (ps : List Procedure) (line : ℕ) → 1 ≤ v.line → v.line < line → RisesTo ps v.line → HasBlock ps → Goes (Some (after_value f ps v)) line
after_goes Nothing v ps line some less h has next e = value_goes v ps line some less h has next e
after_goes Bare v ps line some less h has next e = goes (at places.Returned (with_last (with_value v) ps)) next line (value_rises v ps line some less h has, block_stays v ps has) e
after_goes One v ps line some less h has next e = goes (at (places.Jump v) ps) next line (h, has, some, less) e
after_goes Two v ps line some less h has next e = goes (at (places.Branch v) ps) next line (h, has, some, less) e
after_goes Many v ps line some less h has next e = goes (at (places.Switch v) ps) next line (h, has, some, less) e

opened_goes : (ps : List Procedure) (line : ℕ) (row : Row) → 1 ≤ line → RisesTo ps line → Goes (opened ps line row) (line + 1)
opened_goes ps line (rows.Header name) some h = header_goes name ps line some h
opened_goes ps line rows.Blank some h = nowhere (line + 1)
opened_goes ps line _ some h = nowhere (line + 1)

slotted_goes : (ps : List Procedure) (line : ℕ) (row : Row) → 1 ≤ line → RisesTo ps line → 1 ≤ length ps → (last_of ps).blocks ≡ [] → Goes (slotted ps line row) (line + 1)
slotted_goes ps line (rows.Slot number bytes) some h has none = slot_goes number bytes ps line some h has none
slotted_goes ps line (rows.Heading number) some h has none = heading_goes number ps line some h has
slotted_goes ps line rows.Blank some h has none = nowhere (line + 1)
slotted_goes ps line _ some h has none = nowhere (line + 1)

valued_goes : (ps : List Procedure) (line : ℕ) (row : Row) → 1 ≤ line → RisesTo ps line → HasBlock ps → Goes (valued ps line row) (line + 1)
valued_goes ps line (rows.ValueRow v) some h has = after_goes (following v.kind.opcode) (record v { line = line }) ps (line + 1) some (omega arith) h has
valued_goes ps line (rows.Heading number) some h has = heading_goes number ps line some h has.0
valued_goes ps line (rows.Header name) some h has = header_goes name ps line some h
valued_goes ps line rows.Blank some h has = nowhere (line + 1)
valued_goes ps line _ some h has = nowhere (line + 1)

returned_goes : (ps : List Procedure) (line : ℕ) (row : Row) → 1 ≤ line → RisesTo ps line → HasBlock ps → Goes (returned ps line row) (line + 1)
returned_goes ps line rows.NoSuccessors some h has = λ next e. goes (at places.Values ps) next (line + 1) (rises_later ps line (line + 1) h (omega arith), has) e
returned_goes ps line rows.Blank some h has = valued_goes ps line rows.Blank some h has
returned_goes ps line row some h has = valued_goes ps line row some h has

jumped_goes : (v : Value) (ps : List Procedure) (line : ℕ) (row : Row) → Stands ps (places.Jump v) line → Goes (jumped v ps row) (line + 1)
jumped_goes v ps line (rows.One target) h = let less = h.3 in value_goes (with_targets v (target ∷ [])) ps (line + 1) h.2 (omega arith) h.0 h.1
jumped_goes v ps line rows.Blank h = nowhere (line + 1)
jumped_goes v ps line _ h = nowhere (line + 1)

branched_goes : (v : Value) (ps : List Procedure) (line : ℕ) (row : Row) → Stands ps (places.Branch v) line → Goes (branched v ps row) (line + 1)
branched_goes v ps line (rows.Two a b) h = let less = h.3 in value_goes (with_targets v (a ∷ b ∷ [])) ps (line + 1) h.2 (omega arith) h.0 h.1
branched_goes v ps line rows.Blank h = nowhere (line + 1)
branched_goes v ps line _ h = nowhere (line + 1)

switched_goes : (v : Value) (ps : List Procedure) (line : ℕ) (row : Row) → Stands ps (places.Switch v) line → Goes (switched v ps row) (line + 1)
switched_goes v ps line (rows.Many targets) h =
    let less = h.3 in
    elim (length targets == cases_in v.body + 1) as (λ b. Goes (if b then Some (added_value ps (with_targets v targets)) else None) (line + 1)) [
      | true ↦ value_goes (with_targets v targets) ps (line + 1) h.2 (omega arith) h.0 h.1
      | false ↦ nowhere (line + 1)
    ]
switched_goes v ps line rows.Blank h = nowhere (line + 1)
switched_goes v ps line _ h = nowhere (line + 1)

placed_goes : (place : Place) (ps : List Procedure) (line : ℕ) (row : Row) → 1 ≤ line → Stands ps place line → Goes (placed place ps line row) (line + 1)
placed_goes places.Outside ps line row some h = opened_goes ps line row some h
placed_goes places.Slots ps line row some h = slotted_goes ps line row some h.0 h.1 h.2
placed_goes places.Values ps line row some h = valued_goes ps line row some h.0 h.1
placed_goes places.Returned ps line row some h = returned_goes ps line row some h.0 h.1
placed_goes (places.Jump v) ps line row some h = jumped_goes v ps line row h
placed_goes (places.Branch v) ps line row some h = branched_goes v ps line row h
placed_goes (places.Switch v) ps line row some h = switched_goes v ps line row h

stays : (place : Place) (ps : List Procedure) (line : ℕ) → Stands ps place line → Stands ps place (line + 1)
stays places.Outside ps line h = rises_later ps line (line + 1) h (omega arith)
stays places.Slots ps line h = (rises_later ps line (line + 1) h.0 (omega arith), h.1, h.2)
stays places.Values ps line h = (rises_later ps line (line + 1) h.0 (omega arith), h.1)
stays places.Returned ps line h = (rises_later ps line (line + 1) h.0 (omega arith), h.1)
stays (places.Jump v) ps line h = let less = h.3 in (h.0, h.1, h.2, omega arith)
stays (places.Branch v) ps line h = let less = h.3 in (h.0, h.1, h.2, omega arith)
stays (places.Switch v) ps line h = let less = h.3 in (h.0, h.1, h.2, omega arith)

added_stands : (s : State) (line : ℕ) (row : Row) → 1 ≤ line → Stands s.procedures s.place line → Goes (added s line row) (line + 1)
added_stands s line rows.Blank some h = λ next e. goes s next (line + 1) (stays s.place s.procedures line h) e
added_stands s line (rows.Header name) some h = placed_goes s.place s.procedures line (rows.Header name) some h
added_stands s line row some h = placed_goes s.place s.procedures line row some h

-- ---- whole texts

abbrev StandsSo : Option State → ℕ → Type 0
StandsSo None line = Unit {0}
StandsSo (Some s) line = Stands s.procedures s.place line

step : (t u : Option State) (line : ℕ) (row : Row) → 1 ≤ line → StandsSo t line → added_to t line row ≡ u → StandsSo u (line + 1)
step t None line row some h e = tt
step None (Some next) line row some h e = absurd cc
step (Some s) (Some next) line row some h e = added_stands s line row some h next e

led_stands : (text : List Row) (t : Option State) (line : ℕ) → 1 ≤ line → StandsSo t line → StandsSo (led t line text) (line + length text)
led_stands [] t line some h = let n : line ≡ line + 0 = omega arith in subst (λ (k : ℕ). StandsSo t k) n h
led_stands (row ∷ text) t line some h =
    let n : line + 1 + length text ≡ line + length (row ∷ text) = omega arith in
    subst (λ (k : ℕ). StandsSo (led (added_to t line row) (line + 1) text) k) n (led_stands text (added_to t line row) (line + 1) (omega arith) (step t (added_to t line row) line row some h refl))

end_rises : (place : Place) (ps m : List Procedure) (line : ℕ) → Stands ps place line → ended_at place ps ≡ Some m → AreRising 1 (parts_all m)
end_rises places.Values ps m line h e = let same : ps ≡ m = cc in subst (λ (x : List Procedure). AreRising 1 (parts_all x)) same h.0.rising
end_rises places.Returned ps m line h e = let same : ps ≡ m = cc in subst (λ (x : List Procedure). AreRising 1 (parts_all x)) same h.0.rising
end_rises places.Outside ps m line h e = absurd cc
end_rises places.Slots ps m line h e = absurd cc
end_rises (places.Jump v) ps m line h e = absurd cc
end_rises (places.Branch v) ps m line h e = absurd cc
end_rises (places.Switch v) ps m line h e = absurd cc

ended_rises : (t : Option State) (m : List Procedure) (line : ℕ) → StandsSo t line → ended t ≡ Some m → AreRising 1 (parts_all m)
ended_rises None m line h e = absurd cc
ended_rises (Some s) m line h e = end_rises s.place s.procedures m line h e

pub spelled_rises : (text : List Row) (m : List Procedure) → spelled text ≡ Some m → AreRising 1 (flat_map parts_of m)
unfolding parts_all
spelled_rises text m e = ended_rises (led (Some first) 1 text) m (1 + length text) (led_stands text (Some first) 1 (omega arith) (record { rising = tt; below = tt })) e
