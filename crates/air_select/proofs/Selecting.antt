-- What `select` promises of a procedure of a valid module.
use Rattle.std.proofs.Common.{◌≡◌, ℕ, List, [], ◌∷◌, map, Some, refl, sym, ap, ◌∙◌}
use Rattle.std.specs.Prelude.{IfOk, Result, Ok, Err, slice_get, slice_index_or}
use Rattle.std.specs.Option.{option_map}
use Rattle.std.proofs.lemmas.Option.{slice_get-get_or, slice_get-map, slice_get_within}
use Rattle.b3_base.proofs.Lists.{place_of}
use Rattle.b3_ir.specs.Procedure.{AllFit, Kept, Procedure, empty_kept, procedures, values_of}
use Rattle.b3_ir.specs.declared.procedure.SlotLine.{SlotLine}
use Rattle.b3_rules.specs.Valid.{IsValid, IsValidProcedure}
use Rattle.b3_sound.proofs.FromValid.{is_kept}
use Rattle.air_ir.specs.Run.{HasBlocksOf}
use Rattle.air_ir.specs.declared.procedure.AirProc.{AirProc}
use Rattle.air_select.specs.Contract.{procedure_at}
use Rattle.air_select.specs.Selected.{block_code, entry_of, selected, selected_by, tables}
use Rattle.air_select.proofs.Beginning.{same_blocks}
use Rattle.air_select.proofs.Entering.{has_arguments}
use Rattle.air_select.proofs.Sound.{sound}
use Rattle.air_select.proofs.MapFacts.{placeable_of}
use Rattle.air_select.proofs.SameBlocks.{AllPlaced}
use Rattle.air_select.proofs.Successors.{names_none}

some_is : (k l : Kept) → Some k ≡ Some l → k ≡ l
some_is k l e = cc

-- the procedure at a place
pub at_is : (m n : List Kept) (place : ℕ) (k : Kept) → slice_get m place ≡ Some k → m ≡ n → procedure_at n place ≡ k.procedure
at_is m n place k there same =
    let here : slice_get n place ≡ Some k = ap (λ (l : List Kept). slice_get l place) (sym same) ∙ there in
    ap (λ (x : Kept). x.procedure)
    (some_is (slice_index_or n place (empty_kept [] 0)) k (sym (slice_get-get_or n place (empty_kept [] 0) (slice_get_within n place k here)) ∙ here))

pub valid_at : (m : List Kept) (place : ℕ) (k : Kept) → slice_get m place ≡ Some k → IsValid (procedures m) → IsValidProcedure k.procedure
valid_at m place k there valid =
    valid.each place k.procedure (slice_get-map (λ (x : Kept). x.procedure) m place ∙ ap (option_map (λ (x : Kept). x.procedure)) there)

blocks_are : (p : Procedure) → (selected p).blocks ≡ entry_of (tables p).index (values_of p 0) ∷ map (block_code (tables p)) p.blocks
unfolding selected_by
blocks_are p = refl

all_placed : (p : Procedure) → IsValidProcedure p → AllFit p.blocks → AllPlaced p
all_placed p valid fit b v has = let at = place_of (values_of p b) v has in placeable_of p valid fit b at.0 v at.1

pub same : (p : Procedure) → IsValidProcedure p → AllFit p.blocks → HasBlocksOf p (selected p)
same p valid fit =
    same_blocks p (is_kept p valid fit) (tables p) (sound p valid) (all_placed p valid fit) (names_none p fit) (has_arguments p valid) (selected p)
    (blocks_are p)

-- what holds of the answer by what it is
pub if_ok : {E : Type 0} (r : Result AirProc E) (P Q : AirProc → Type 0) → ((q : AirProc) → P q → Q q) → IfOk r P → IfOk r Q
if_ok (Ok q) P Q f h = f q h
if_ok (Err e) P Q f h = tt

pub kept_slots : (p : Procedure) → (selected p).slots ≡ map (λ (slot : SlotLine). slot.bytes) p.slots
unfolding selected_by
kept_slots p = refl
