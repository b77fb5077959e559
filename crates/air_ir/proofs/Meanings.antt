-- Facts of what ops mean: which copy, and which targets they lead to.
use Rattle.std.proofs.Common.{◌≡◌, ℕ, ℤ, suc, ◌<◌, Bool, true, false, if◌then◌else◌, List, [], ◌∷◌, ◌++◌, map, length, Option, Some, None, arith, refl, lit<}
use Rattle.std.specs.Prelude.{nat_eq}
use Rattle.b3_base.specs.Arithmetic.{low}
use Rattle.b3_base.specs.Memory.{read_word, write_word}
use Rattle.b3_base.specs.Observed.{Answer, Event, Give, Leave, Start}
use Rattle.b3_base.specs.Signed.{is_signed, signed, unsigned}
use Rattle.b3_base.specs.declared.event.EventKind.{EventKind}
use Rattle.b3_base.specs.declared.event.EventKind.TheVariants as event
use Rattle.b3_base.specs.declared.observation.Status.TheVariants.{Exited}
use Rattle.b3_base.specs.declared.word.Width.{Width}
use Rattle.b3_meaning.specs.Access.{Accessed, Done, Trap, Refused, access}
use Rattle.b3_meaning.specs.Run.{checked_result}
use Rattle.b3_meaning.specs.declared.role.Checked.{Checked}
use Rattle.air_ir.specs.Kinds.{Kind, Copies, Computes, Loads, Stores, Checks, ChecksResult, Calls, Patches, SlotAddresses, FramePointers, Branches, Jumps, Switches, Returns, Fails, extent_bytes, kind_of, targets_by}
use Rattle.air_ir.specs.Meaning.{Effect, Exit, To, Over, Operation, World, accesses, answered, asks, branches, calls, case_number, checked, checks, checks_result, effect_of, gives, gives_word, ends, loaded, loads, meaning, returns, slot_address, stores, switches, width_of}
use Rattle.air_ir.specs.Operands.{Read}
use Rattle.air_ir.specs.Related.{Copies as IsCopying}
use Rattle.air_ir.specs.Words.{Tested, computed, test}

-- ---- copies

copies_by : (start : Start) (o : Operation) (kind : Kind) (ws : List Read) (w : World) → kind ≡ Copies
    → effect_of kind start o (width_of ws) ws (map (λ (r : Read). r.1) ws) w ≡ gives w (map (λ (r : Read). r.1) ws)
copies_by start o kind ws w e = rw e refl

-- a Move and a Shuffle copy the words that they read
pub copying : (start : Start) (o : Operation) → kind_of o.op ≡ Copies → IsCopying (meaning start) o
unfolding meaning
copying start o e ws w = copies_by start o (kind_of o.op) ws w e

-- ---- exits

abbrev pub exit_in : Option Effect → Option Exit
exit_in (Some e) = e.exit
exit_in None = None

abbrev pub count_in : Option ℕ → ℕ
count_in (Some n) = n
count_in None = 0

-- a target to which control leaves is below a number
abbrev pub IsBelow : ℕ → Option Exit → Type 0
IsBelow n None = Unit {0}
IsBelow n (Some (Over status)) = Unit {0}
IsBelow n (Some (To k)) = k < n

abbrev pub LeadsBelow : ℕ → Option Effect → Type 0
LeadsBelow n x = IsBelow n (exit_in x)

given : (w : World) (x : Option ℕ) → LeadsBelow 0 (gives_word w x)
given w (Some word) = tt
given w None = tt

accessed : (value : ℕ) (w : World) (a : Accessed) (x : Option Effect) → LeadsBelow 0 x → LeadsBelow 0 (accesses value w a x)
accessed value w Done x h = h
accessed value w (Trap address) x h = tt
accessed value w (Refused undefined) x h = tt

loading : (start : Start) (o : Operation) (bytes : ℕ) (extends : Bool) (words : List ℕ) (w : World) → LeadsBelow 0 (loads start o bytes extends words w)
loading start o bytes extends [] w = tt
loading start o bytes extends (address ∷ []) w =
    let word : Option ℕ = loaded extends bytes (read_word w.memory address bytes) in
    accessed o.value w (access start w.memory address bytes o.traps) (gives_word w word) (given w word)
loading start o bytes extends (address ∷ x ∷ words) w = tt

storing : (start : Start) (o : Operation) (bytes : ℕ) (words : List ℕ) (w : World) → LeadsBelow 0 (stores start o bytes words w)
storing start o bytes [] w = tt
storing start o bytes (word ∷ []) w = tt
storing start o bytes (word ∷ address ∷ []) w =
    accessed o.value w (access start w.memory address bytes o.traps) (gives (record w { memory = write_word w.memory address bytes word }) []) tt
storing start o bytes (word ∷ address ∷ x ∷ words) w = tt

-- the event that is added
abbrev asked : EventKind → List Read → World → Event
asked kind words w = record { kind = kind; arguments = map (λ (r : Read). r.1) words; widths = map (λ (r : Read). r.0) words; memory = w.memory }

asking : (kind : EventKind) (typed : Bool) (words : List Read) (w : World) → LeadsBelow 0 (asks kind typed words w)
asking kind typed words w = by w.answers
  where
    by : (answers : List Answer) → LeadsBelow 0 (answered typed (record w { events = w.events ++ asked kind words w ∷ [] }) answers)
    by [] = tt
    by (Leave ∷ rest) = tt
    by (Give value writes ∷ rest) = tt

either : (b : Bool) (x y : Option Effect) → LeadsBelow 0 x → LeadsBelow 0 y → LeadsBelow 0 (if b then x else y)
either true x y h g = h
either false x y h g = g

calling : (start : Start) (typed : Bool) (words : List Read) (w : World) → LeadsBelow 0 (calls start typed words w)
calling start typed [] w = tt
calling start typed (callee ∷ words) w = either (start.is_code callee.1) None (asks (event.Call callee.1) typed words w) tt (asking (event.Call callee.1) typed words w)

checking : (value : ℕ) (t : Option Tested) (w : World) → LeadsBelow 0 (checks value t w)
checking value None w = tt
checking value (Some (true, reported)) w = tt
checking value (Some (false, reported)) w = tt

checking-number : (value : ℕ) (width : Width) (number : ℤ) (reported : List ℕ) (w : World) → LeadsBelow 0 (checked value width number reported w)
checking-number value width number reported w =
    either (is_signed width number) (gives w (unsigned width number ∷ [])) (ends w (Exited value reported)) tt tt

checking-result : (value : ℕ) (kind : Checked) (width : Width) (words : List ℕ) (w : World) → LeadsBelow 0 (checks_result value kind width words w)
checking-result value kind width [] w = tt
checking-result value kind width (x ∷ []) w = tt
checking-result value kind width (x ∷ y ∷ reported) w = checking-number value width (checked_result kind (signed width x) (signed width y)) reported w

branching : (t : Option Tested) (w : World) → LeadsBelow 2 (branches t w)
branching None w = tt
branching (Some (true, rest)) w = lit< tt
branching (Some (false, rest)) w = lit< tt

case_below : (width : Width) (word : ℕ) (cases : List ℕ) → case_number width word cases < suc (length cases)
case_below width word [] = omega arith
case_below width word (case ∷ cases) = first_or (nat_eq (low width case) word) (case_below width word cases)
  where
    first_or : (b : Bool) → case_number width word cases < suc (length cases) → (if b then 0 else suc (case_number width word cases)) < suc (suc (length cases))
    first_or true h = omega arith
    first_or false h = omega (arith, h)

switching : (width : Width) (cases words : List ℕ) (w : World) → LeadsBelow (suc (length cases)) (switches width cases words w)
switching width cases [] w = tt
switching width cases (word ∷ []) w = case_below width word cases
switching width cases (word ∷ x ∷ words) w = tt

returning : (words : List ℕ) (w : World) → LeadsBelow 0 (returns words w)
returning [] w = tt
returning (word ∷ []) w = tt
returning (word ∷ x ∷ words) w = tt

leading : (kind : Kind) (start : Start) (o : Operation) (width : Width) (typed : List Read) (words : List ℕ) (w : World)
    → LeadsBelow (count_in (targets_by kind)) (effect_of kind start o width typed words w)
leading Copies start o width typed words w = tt
leading Computes start o width typed words w = given w (computed o.op width words)
leading (Loads extent extends) start o width typed words w = loading start o (extent_bytes extent width) extends words w
leading (Stores extent) start o width typed words w = storing start o (extent_bytes extent width) words w
leading (Checks t) start o width typed words w = checking o.value (test t width words) w
leading (ChecksResult kind) start o width typed words w = checking-result o.value kind width words w
leading (Calls has_result) start o width typed words w = calling start has_result typed w
leading (Patches has_result) start o width typed words w = asking (event.Patch o.value) has_result typed w
leading SlotAddresses start o width typed words w = given w (slot_address start words)
leading FramePointers start o width typed words w = tt
leading (Branches t) start o width typed words w = branching (test t width words) w
leading Jumps start o width typed words w = lit< tt
leading (Switches cases) start o width typed words w = switching width cases words w
leading Returns start o width typed words w = returning words w
leading Fails start o width typed words w = tt

-- an op leads to targets that its block has, and to none where it ends no block
pub leads_below : (start : Start) (o : Operation) (ws : List Read) (w : World) → LeadsBelow (count_in (targets_by (kind_of o.op))) (meaning start o ws w)
unfolding meaning
leads_below start o ws w = leading (kind_of o.op) start o (width_of ws) ws (map (λ (r : Read). r.1) ws) w
