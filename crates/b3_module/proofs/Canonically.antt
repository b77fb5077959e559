-- The rows of a module spell it.
use Rattle.std.proofs.Common.{◌≡◌, ℕ, ◌+◌, ◌≤◌, List, [], ◌∷◌, ◌++◌, length, Option, Some, refl, sym, ap, ◌∙◌, arith, append_assoc}
use Rattle.std.specs.Prelude.{map}
use Rattle.std.specs.List.{flat_map}
use Rattle.std.proofs.lemmas.List.{append-nil, length-append, length-map}
use Rattle.b3_ir.specs.declared.procedure.SlotLine.{SlotLine}
use Rattle.b3_ir.specs.declared.value.Body.{Body}
use Rattle.b3_ir.specs.declared.value.Body.TheVariants.{Plain, Constant, Argument, Slot, Offset, Target, Map, Targets, Cases}
use Rattle.b3_ir.specs.declared.value.Value.{Value}
use Rattle.b3_ir.specs.Procedure.{Block, Procedure}
use Rattle.b3_rows.specs.declared.row.Row.{Row}
use Rattle.b3_rows.specs.declared.row.Row.TheVariants as rows
use Rattle.b3_module.specs.declared.place.Following.{Following}
use Rattle.b3_module.specs.declared.place.Following.TheVariants.{Nothing, Bare, One, Two, Many}
use Rattle.b3_module.specs.declared.place.Place.{Place}
use Rattle.b3_module.specs.declared.place.Place.TheVariants as places
use Rattle.b3_module.specs.Texts.{State, added, added_value, after_value, at, ended, following, led, with_heading, with_last, with_slot, with_value}
use Rattle.b3_module.specs.Canonical.{AreBlocksMatched, AreMatched, AreRowed, RowsSpell, bare, bare_body, canonical_rows, lined, lined_blocks, lined_procedure, lined_slots, lined_values, Matches, row_of_slot, rows_of_block, rows_of_procedure, rows_of_value, successors_of}
use Rattle.b3_module.proofs.Leading.{passed}

-- ---- places

abbrev InBlock : Place → Type 0
InBlock places.Values = Unit {0}
InBlock places.Returned = Unit {0}
InBlock place = ⊥

abbrev TakesHeading : Place → Type 0
TakesHeading places.Slots = Unit {0}
TakesHeading places.Values = Unit {0}
TakesHeading places.Returned = Unit {0}
TakesHeading place = ⊥

abbrev TakesHeader : Place → Type 0
TakesHeader places.Outside = Unit {0}
TakesHeader places.Values = Unit {0}
TakesHeader places.Returned = Unit {0}
TakesHeader place = ⊥

abbrev next_place : Following → Place
next_place Bare = places.Returned
next_place f = places.Values

next_in : (f : Following) → InBlock (next_place f)
next_in Nothing = tt
next_in Bare = tt
next_in One = tt
next_in Two = tt
next_in Many = tt

heading_in : (place : Place) → InBlock place → TakesHeading place
heading_in places.Values h = tt
heading_in places.Returned h = tt
heading_in places.Outside h = absurd h
heading_in places.Slots h = absurd h
heading_in (places.Jump v) h = absurd h
heading_in (places.Branch v) h = absurd h
heading_in (places.Switch v) h = absurd h

header_in : (place : Place) → InBlock place → TakesHeader place
header_in places.Values h = tt
header_in places.Returned h = tt
header_in places.Outside h = absurd h
header_in places.Slots h = absurd h
header_in (places.Jump v) h = absurd h
header_in (places.Branch v) h = absurd h
header_in (places.Switch v) h = absurd h

-- ---- one row

value_row : (place : Place) (ps : List Procedure) (line : ℕ) (v : Value) → InBlock place → added (at place ps) line (rows.ValueRow v) ≡ Some (after_value (following v.kind.opcode) ps (record v { line = line }))
value_row places.Values ps line v h = refl
value_row places.Returned ps line v h = refl
value_row places.Outside ps line v h = absurd h
value_row places.Slots ps line v h = absurd h
value_row (places.Jump w) ps line v h = absurd h
value_row (places.Branch w) ps line v h = absurd h
value_row (places.Switch w) ps line v h = absurd h

heading_row : (place : Place) (ps : List Procedure) (line number : ℕ) → TakesHeading place → added (at place ps) line (rows.Heading number) ≡ Some (at places.Values (with_last (with_heading number line) ps))
heading_row places.Values ps line number h = refl
heading_row places.Returned ps line number h = refl
heading_row places.Slots ps line number h = refl
heading_row places.Outside ps line number h = absurd h
heading_row (places.Jump w) ps line number h = absurd h
heading_row (places.Branch w) ps line number h = absurd h
heading_row (places.Switch w) ps line number h = absurd h

abbrev begun : List ℕ → ℕ → Procedure
begun name line = record { name = name; line = line; slots = []; blocks = [] }

header_row : (place : Place) (ps : List Procedure) (line : ℕ) (name : List ℕ) → TakesHeader place → added (at place ps) line (rows.Header name) ≡ Some (at places.Slots (ps ++ begun name line ∷ []))
header_row places.Values ps line name h = refl
header_row places.Returned ps line name h = refl
header_row places.Outside ps line name h = refl
header_row places.Slots ps line name h = absurd h
header_row (places.Jump w) ps line name h = absurd h
header_row (places.Branch w) ps line name h = absurd h
header_row (places.Switch w) ps line name h = absurd h

on_line : (s : Option State) (a b : ℕ) (rest : List Row) → a ≡ b → led s a rest ≡ led s b rest
on_line s a b rest e = ap (λ (n : ℕ). led s n rest) e

-- ---- a value and its successors

abbrev valued_on : Value → Body → ℕ → Value
valued_on v body line = record v { line = line; body = body }

-- what a value leads to
abbrev Finishes : Following → Body → Type 0
Finishes f body = (v : Value) (ps : List Procedure) (line : ℕ) (rest : List Row) → led (Some (after_value f ps (valued_on v (bare_body body) line))) (line + 1) (successors_of body ++ rest) ≡ led (Some (at (next_place f) (with_last (with_value (valued_on v body line)) ps))) (line + length (rows.Blank ∷ successors_of body)) rest

plain_finishes : (f : Following) (body : Body) → ((v : Value) (ps : List Procedure) → after_value f ps v ≡ at (next_place f) (with_last (with_value v) ps)) → bare_body body ≡ body → successors_of body ≡ [] → Finishes f body
plain_finishes f body after same none v ps line rest =
    let n : line + 1 ≡ line + length (rows.Blank ∷ successors_of body) = omega (arith, ap length none) in
    ap (λ (s : State). led (Some s) (line + 1) (successors_of body ++ rest)) (after (valued_on v (bare_body body) line) ps)
    ∙ ap (λ (b : Body). led (Some (at (next_place f) (with_last (with_value (valued_on v b line)) ps))) (line + 1) (successors_of body ++ rest)) same
    ∙ ap (λ (x : List Row). led (Some (at (next_place f) (with_last (with_value (valued_on v body line)) ps))) (line + 1) (x ++ rest)) none
    ∙ on_line (Some (at (next_place f) (with_last (with_value (valued_on v body line)) ps))) (line + 1) (line + length (rows.Blank ∷ successors_of body)) rest n

many_finishes : (words targets : List ℕ) → length targets ≡ length words + 1 → Finishes Many (Cases words targets)
many_finishes words targets e v ps line rest =
    let s = added_value ps (valued_on v (Cases words targets) line) in
    let n : line + 1 + 1 ≡ line + length (rows.Blank ∷ rows.Many targets ∷ []) = omega arith in
    ap (λ (t : Option State). led t (line + 1 + 1) rest) (passed (length words + 1) (length targets) s e) ∙ on_line (Some s) (line + 1 + 1) (line + length (rows.Blank ∷ rows.Many targets ∷ [])) rest n

one_finishes : (a : ℕ) → Finishes One (Targets (a ∷ []))
one_finishes a v ps line rest =
    let n : line + 1 + 1 ≡ line + length (rows.Blank ∷ rows.One a ∷ []) = omega arith in
    on_line (Some (added_value ps (valued_on v (Targets (a ∷ [])) line))) (line + 1 + 1) (line + length (rows.Blank ∷ rows.One a ∷ [])) rest n

two_finishes : (a b : ℕ) → Finishes Two (Targets (a ∷ b ∷ []))
two_finishes a b v ps line rest =
    let n : line + 1 + 1 ≡ line + length (rows.Blank ∷ rows.Two a b ∷ []) = omega arith in
    on_line (Some (added_value ps (valued_on v (Targets (a ∷ b ∷ [])) line))) (line + 1 + 1) (line + length (rows.Blank ∷ rows.Two a b ∷ [])) rest n

finishes : (f : Following) (body : Body) → Matches f body → Finishes f body
finishes Nothing body h = plain_finishes Nothing body (λ v ps. refl) h.0 h.1
finishes Bare body h = plain_finishes Bare body (λ v ps. refl) h.0 h.1
finishes One (Targets (a ∷ [])) h = one_finishes a
finishes One (Targets []) h = absurd h
finishes One (Targets (a ∷ b ∷ targets)) h = absurd h
finishes One (Cases words targets) h = absurd h
finishes One Plain h = absurd h
finishes One (Constant w) h = absurd h
finishes One (Argument r) h = absurd h
finishes One (Slot n) h = absurd h
finishes One (Offset z) h = absurd h
finishes One (Target p) h = absurd h
finishes One (Map m) h = absurd h
finishes Two (Targets (a ∷ b ∷ [])) h = two_finishes a b
finishes Two (Targets []) h = absurd h
finishes Two (Targets (a ∷ [])) h = absurd h
finishes Two (Targets (a ∷ b ∷ c ∷ targets)) h = absurd h
finishes Two (Cases words targets) h = absurd h
finishes Two Plain h = absurd h
finishes Two (Constant w) h = absurd h
finishes Two (Argument r) h = absurd h
finishes Two (Slot n) h = absurd h
finishes Two (Offset z) h = absurd h
finishes Two (Target p) h = absurd h
finishes Two (Map m) h = absurd h
finishes Many (Cases words targets) h = many_finishes words targets h
finishes Many (Targets targets) h = absurd h
finishes Many Plain h = absurd h
finishes Many (Constant w) h = absurd h
finishes Many (Argument r) h = absurd h
finishes Many (Slot n) h = absurd h
finishes Many (Offset z) h = absurd h
finishes Many (Target p) h = absurd h
finishes Many (Map m) h = absurd h

value_leads : (place : Place) (v : Value) (ps : List Procedure) (line : ℕ) (rest : List Row) → InBlock place → Matches (following v.kind.opcode) v.body → led (Some (at place ps)) line (rows_of_value v ++ rest) ≡ led (Some (at (next_place (following v.kind.opcode)) (with_last (with_value (record v { line = line })) ps))) (line + length (rows_of_value v)) rest
value_leads place v ps line rest in_ h =
    ap (λ (s : Option State). led s (line + 1) (successors_of v.body ++ rest)) (value_row place ps line (bare v) in_) ∙ finishes (following v.kind.opcode) v.body h v ps line rest

-- ---- the last procedure, and its last block

last_snoc : {A : Type 0} (f : A → A) (xs : List A) (x : A) → with_last f (xs ++ x ∷ []) ≡ xs ++ f x ∷ []
last_snoc f [] x = refl
last_snoc f (y ∷ []) x = refl
last_snoc f (y ∷ z ∷ xs) x = ap (λ ys. y ∷ ys) (last_snoc f (z ∷ xs) x)

abbrev proc : List ℕ → ℕ → List SlotLine → List Block → Procedure
proc name line slots blocks = record { name = name; line = line; slots = slots; blocks = blocks }

abbrev block : ℕ → ℕ → List Value → Block
block number line values = record { number = number; line = line; values = values }

value_last : (done : List Procedure) (name : List ℕ) (l : ℕ) (slots : List SlotLine) (bs : List Block) (n bl : ℕ) (ws : List Value) (v : Value) → with_last (with_value v) (done ++ proc name l slots (bs ++ block n bl ws ∷ []) ∷ []) ≡ done ++ proc name l slots (bs ++ block n bl (ws ++ v ∷ []) ∷ []) ∷ []
value_last done name l slots bs n bl ws v =
    last_snoc (with_value v) done (proc name l slots (bs ++ block n bl ws ∷ []))
    ∙ ap (λ (x : List Block). done ++ proc name l slots x ∷ []) (last_snoc (λ (b : Block). record b { values = b.values ++ v ∷ [] }) bs (block n bl ws))

-- the place behind values
abbrev place_behind : List Value → Place → Place
place_behind [] place = place
place_behind (v ∷ vs) place = place_behind vs (next_place (following v.kind.opcode))

behind_in : (vs : List Value) (place : Place) → InBlock place → InBlock (place_behind vs place)
behind_in [] place h = h
behind_in (v ∷ vs) place h = behind_in vs (next_place (following v.kind.opcode)) (next_in (following v.kind.opcode))

values_lead : (vs : List Value) (place : Place) (done : List Procedure) (name : List ℕ) (l : ℕ) (slots : List SlotLine) (bs : List Block) (n bl : ℕ) (ws : List Value) (line : ℕ) (rest : List Row) → InBlock place → AreMatched vs →
    led (Some (at place (done ++ proc name l slots (bs ++ block n bl ws ∷ []) ∷ []))) line (flat_map rows_of_value vs ++ rest)
    ≡ led (Some (at (place_behind vs place) (done ++ proc name l slots (bs ++ block n bl (ws ++ lined_values line vs) ∷ []) ∷ []))) (line + length (flat_map rows_of_value vs)) rest
values_lead [] place done name l slots bs n bl ws line rest in_ h =
    let k : line ≡ line + 0 = omega arith in
    ap (λ (x : List Value). led (Some (at place (done ++ proc name l slots (bs ++ block n bl x ∷ []) ∷ []))) line rest) (sym (append-nil ws)) ∙ on_line (Some (at place (done ++ proc name l slots (bs ++ block n bl (ws ++ []) ∷ []) ∷ []))) line (line + 0) rest k
values_lead (v ∷ vs) place done name l slots bs n bl ws line rest in_ h =
    let f = following v.kind.opcode in
    let u : Value = record v { line = line } in
    let ps = done ++ proc name l slots (bs ++ block n bl ws ∷ []) ∷ [] in
    let behind = line + length (rows_of_value v) in
    let k : behind + length (flat_map rows_of_value vs) ≡ line + length (rows_of_value v ++ flat_map rows_of_value vs) = omega (arith, length-append (rows_of_value v) (flat_map rows_of_value vs)) in
    ap (λ (x : List Row). led (Some (at place ps)) line x) (append_assoc (rows_of_value v) (flat_map rows_of_value vs) rest)
    ∙ value_leads place v ps line (flat_map rows_of_value vs ++ rest) in_ h.0
    ∙ ap (λ (x : List Procedure). led (Some (at (next_place f) x)) behind (flat_map rows_of_value vs ++ rest)) (value_last done name l slots bs n bl ws u)
    ∙ values_lead vs (next_place f) done name l slots bs n bl (ws ++ u ∷ []) behind rest (next_in f) h.1
    ∙ ap (λ (x : List Value). led (Some (at (place_behind vs (next_place f)) (done ++ proc name l slots (bs ++ block n bl x ∷ []) ∷ []))) (behind + length (flat_map rows_of_value vs)) rest) (append_assoc ws (u ∷ []) (lined_values behind vs))
    ∙ on_line _ (behind + length (flat_map rows_of_value vs)) (line + length (rows_of_value v ++ flat_map rows_of_value vs)) rest k

-- ---- blocks

abbrev place_after : List Block → Place → Place
place_after [] place = place
place_after (b ∷ blocks) place = place_after blocks (place_behind b.values places.Values)

after_in : (blocks : List Block) (place : Place) → InBlock place → InBlock (place_after blocks place)
after_in [] place h = h
after_in (b ∷ blocks) place h = after_in blocks (place_behind b.values places.Values) (behind_in b.values places.Values tt)

blocks_lead : (blocks : List Block) (place : Place) (done : List Procedure) (name : List ℕ) (l : ℕ) (slots : List SlotLine) (bs : List Block) (line : ℕ) (rest : List Row) → TakesHeading place → AreBlocksMatched blocks →
    led (Some (at place (done ++ proc name l slots bs ∷ []))) line (flat_map rows_of_block blocks ++ rest)
    ≡ led (Some (at (place_after blocks place) (done ++ proc name l slots (bs ++ lined_blocks line blocks) ∷ []))) (line + length (flat_map rows_of_block blocks)) rest
blocks_lead [] place done name l slots bs line rest takes h =
    let k : line ≡ line + 0 = omega arith in
    ap (λ (x : List Block). led (Some (at place (done ++ proc name l slots x ∷ []))) line rest) (sym (append-nil bs)) ∙ on_line (Some (at place (done ++ proc name l slots (bs ++ []) ∷ []))) line (line + 0) rest k
blocks_lead (b ∷ blocks) place done name l slots bs line rest takes h =
    let ps = done ++ proc name l slots bs ∷ [] in
    let more = flat_map rows_of_block blocks in
    let values = flat_map rows_of_value b.values in
    let lines = lined_values (line + 1) b.values in
    let new : Block = block b.number line lines in
    let behind = line + length (rows_of_block b) in
    let place_b = place_behind b.values places.Values in
    let j : line + 1 + length values ≡ behind = omega arith in
    let k : behind + length more ≡ line + length (rows_of_block b ++ more) = omega (arith, length-append (rows_of_block b) more) in
    ap (λ (x : List Row). led (Some (at place ps)) line x) (append_assoc (rows_of_block b) more rest)
    ∙ ap (λ (s : Option State). led s (line + 1) (values ++ (more ++ rest))) (heading_row place ps line b.number takes)
    ∙ ap (λ (x : List Procedure). led (Some (at places.Values x)) (line + 1) (values ++ (more ++ rest))) (last_snoc (with_heading b.number line) done (proc name l slots bs))
    ∙ values_lead b.values places.Values done name l slots bs b.number line [] (line + 1) (more ++ rest) tt h.0
    ∙ on_line (Some (at place_b (done ++ proc name l slots (bs ++ new ∷ []) ∷ []))) (line + 1 + length values) behind (more ++ rest) j
    ∙ blocks_lead blocks place_b done name l slots (bs ++ new ∷ []) behind rest (heading_in place_b (behind_in b.values places.Values tt)) h.1
    ∙ ap (λ (x : List Block). led (Some (at (place_after blocks place_b) (done ++ proc name l slots x ∷ []))) (behind + length more) rest) (append_assoc bs (new ∷ []) (lined_blocks behind blocks))
    ∙ on_line _ (behind + length more) (line + length (rows_of_block b ++ more)) rest k

-- ---- slots

slots_lead : (slots : List SlotLine) (done : List Procedure) (name : List ℕ) (l : ℕ) (old : List SlotLine) (line : ℕ) (rest : List Row) →
    led (Some (at places.Slots (done ++ proc name l old [] ∷ []))) line (map row_of_slot slots ++ rest)
    ≡ led (Some (at places.Slots (done ++ proc name l (old ++ lined_slots line slots) [] ∷ []))) (line + length slots) rest
slots_lead [] done name l old line rest =
    let k : line ≡ line + 0 = omega arith in
    ap (λ (x : List SlotLine). led (Some (at places.Slots (done ++ proc name l x [] ∷ []))) line rest) (sym (append-nil old)) ∙ on_line (Some (at places.Slots (done ++ proc name l (old ++ []) [] ∷ []))) line (line + 0) rest k
slots_lead (s ∷ slots) done name l old line rest =
    let new : SlotLine = record s { line = line } in
    let k : line + 1 + length slots ≡ line + length (s ∷ slots) = omega arith in
    ap (λ (x : List Procedure). led (Some (at places.Slots x)) (line + 1) (map row_of_slot slots ++ rest)) (last_snoc (with_slot s.number s.bytes line) done (proc name l old []))
    ∙ slots_lead slots done name l (old ++ new ∷ []) (line + 1) rest
    ∙ ap (λ (x : List SlotLine). led (Some (at places.Slots (done ++ proc name l x [] ∷ []))) (line + 1 + length slots) rest) (append_assoc old (new ∷ []) (lined_slots (line + 1) slots))
    ∙ on_line _ (line + 1 + length slots) (line + length (s ∷ slots)) rest k

-- ---- procedures

some_in : (blocks : List Block) → 1 ≤ length blocks → InBlock (place_after blocks places.Slots)
some_in [] h = absurd (omega arith)
some_in (b ∷ blocks) h = after_in blocks (place_behind b.values places.Values) (behind_in b.values places.Values tt)

procedure_leads : (p : Procedure) (place : Place) (done : List Procedure) (line : ℕ) (rest : List Row) → TakesHeader place → AreBlocksMatched p.blocks →
    led (Some (at place done)) line (rows_of_procedure p ++ rest)
    ≡ led (Some (at (place_after p.blocks places.Slots) (done ++ lined_procedure line p ∷ []))) (line + length (rows_of_procedure p)) rest
procedure_leads p place done line rest takes h =
    let slots = map row_of_slot p.slots in
    let blocks = flat_map rows_of_block p.blocks in
    let n = line + 1 + length p.slots in
    let k : n + length blocks ≡ line + length (rows_of_procedure p) = omega (arith, length-append slots blocks, length-map p.slots row_of_slot) in
    ap (λ (s : Option State). led s (line + 1) ((slots ++ blocks) ++ rest)) (header_row place done line p.name takes)
    ∙ ap (λ (x : List Row). led (Some (at places.Slots (done ++ begun p.name line ∷ []))) (line + 1) x) (append_assoc slots blocks rest)
    ∙ slots_lead p.slots done p.name line [] (line + 1) (blocks ++ rest)
    ∙ blocks_lead p.blocks places.Slots done p.name line (lined_slots (line + 1) p.slots) [] n rest tt h
    ∙ on_line _ (n + length blocks) (line + length (rows_of_procedure p)) rest k

abbrev place_of : List Procedure → Place → Place
place_of [] place = place
place_of (p ∷ m) place = place_of m (place_after p.blocks places.Slots)

procedures_lead : (m : List Procedure) (place : Place) (done : List Procedure) (line : ℕ) → TakesHeader place → AreRowed m →
    led (Some (at place done)) line (canonical_rows m) ≡ Some (at (place_of m place) (done ++ lined line m))
procedures_lead [] place done line takes h = ap (λ (x : List Procedure). Some (at place x)) (sym (append-nil done))
procedures_lead (p ∷ m) place done line takes h =
    let behind = line + length (rows_of_procedure p) in
    let here = place_after p.blocks places.Slots in
    procedure_leads p place done line (canonical_rows m) takes h.1
    ∙ procedures_lead m here (done ++ lined_procedure line p ∷ []) behind (header_in here (some_in p.blocks h.0)) h.2
    ∙ ap (λ (x : List Procedure). Some (at (place_of m here) x)) (append_assoc done (lined_procedure line p ∷ []) (lined behind m))

place_in : (m : List Procedure) (place : Place) → InBlock place → AreRowed m → InBlock (place_of m place)
place_in [] place h k = h
place_in (p ∷ m) place h k = place_in m (place_after p.blocks places.Slots) (some_in p.blocks k.0) k.2

ends_in : (place : Place) (ps : List Procedure) → InBlock place → ended (Some (at place ps)) ≡ Some ps
ends_in places.Values ps h = refl
ends_in places.Returned ps h = refl
ends_in places.Outside ps h = absurd h
ends_in places.Slots ps h = absurd h
ends_in (places.Jump v) ps h = absurd h
ends_in (places.Branch v) ps h = absurd h
ends_in (places.Switch v) ps h = absurd h

pub rows_spell : RowsSpell
rows_spell [] some h = absurd (omega arith)
rows_spell (p ∷ m) some h =
    ap ended (procedures_lead (p ∷ m) places.Outside [] 1 tt h) ∙ ends_in (place_of (p ∷ m) places.Outside) (lined 1 (p ∷ m)) (place_in m (place_after p.blocks places.Slots) (some_in p.blocks h.0) h.2)
