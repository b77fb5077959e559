-- The loop over the values of a block: the code so far.
use Rattle.std.proofs.Common.{◌≡◌, ℕ, ◌+◌, ◌^◌, ◌<◌, ◌≤◌, List, [], ◌∷◌, ◌++◌, Some, length, map, take, sym, ap, ◌∙◌, arith}
use Rattle.std.specs.Prelude.{All, slice_get, slice_index_or}
use Rattle.std.specs.List.{flat_map}
use Rattle.std.proofs.lemmas.List.{append-nil, map-append}
use Rattle.std.proofs.lemmas.List.Elements.{All-weaker}
use Rattle.std.proofs.lemmas.Option.{get_or_from_slice_get}
use Rattle.b3_ir.specs.Procedure.{AllFit, Block, Procedure, StandsAt, no_block, values_of}
use Rattle.b3_ir.specs.declared.value.Value.{Value}
use Rattle.b3_rules.specs.Paths.{successors_in}
use Rattle.b3_rules.specs.Valid.{IsValidProcedure}
use Rattle.b3_sound.proofs.FromValid.{is_kept}
use Rattle.air_ir.specs.declared.procedure.AirBlock.{AirBlock}
use Rattle.air_ir.specs.declared.procedure.AirInst.{AirInst}
use Rattle.air_select.specs.Selected.{Tables, block_code, targets_of, value_code}
use Rattle.air_fold.proofs.Listed.{joined}
use Rattle.air_fold.proofs.Places.{split_at, take_item}

-- ---- the code of a block

-- the instructions and the targets, with those of the values that are left
abbrev pub with_code : Tables → List AirInst → List ℕ → List Value → List AirInst × List ℕ
with_code t insts targets vs = (insts ++ flat_map (value_code t) vs, targets ++ flat_map targets_of vs)

pub code_next : (t : Tables) (insts insts' : List AirInst) (targets targets' : List ℕ) (v : Value) → insts' ≡ insts ++ value_code t v
    → targets' ≡ targets ++ targets_of v
    → (vs : List Value) → with_code t insts' targets' vs ≡ with_code t insts targets (v ∷ vs)
code_next t insts insts' targets targets' v more_insts more_targets vs =
    let first = joined insts insts' (value_code t v) (flat_map (value_code t) vs) more_insts in
    let second = joined targets targets' (targets_of v) (flat_map targets_of vs) more_targets in
    λ i. (first i, second i)

pub code_end : (t : Tables) (p : Procedure) (block : ℕ) (of : Block) (insts : List AirInst) (targets : List ℕ) → slice_get p.blocks block ≡ Some of
    → with_code t insts targets [] ≡ with_code t [] [] (values_of p block) → (b : AirBlock) → b ≡ record { insts = insts; targets = targets }
    → b ≡ block_code t of
unfolding block_code
code_end t p block of insts targets there all b is =
    let same : slice_index_or p.blocks block no_block ≡ of = get_or_from_slice_get p.blocks block of no_block there in
    let vs : values_of p block ≡ of.values = ap (λ (x : Block). x.values) same in
    let first : insts ≡ flat_map (value_code t) of.values =
    sym (append-nil insts) ∙ ap (λ (q : List AirInst × List ℕ). q.0) all ∙ ap (flat_map (value_code t)) vs in
    let second : targets ≡ flat_map targets_of of.values =
    sym (append-nil targets) ∙ ap (λ (q : List AirInst × List ℕ). q.1) all ∙ ap (flat_map targets_of) vs in
    is ∙ ap (λ l. record { insts = l; targets = targets }) first ∙ ap (λ l. record { insts = flat_map (value_code t) of.values; targets = l }) second

-- the successors that a value names are blocks
pub low_targets : (p : Procedure) → IsValidProcedure p → AllFit p.blocks → length p.blocks ≤ 4096 → (block j : ℕ) (v : Value) → StandsAt p block j v
    → All (λ b. b < 2 ^ 31) (successors_in v.body)
low_targets p valid fit few block j v at =
    let cut = split_at (values_of p block) j v at in
    let rules = (is_kept p valid fit).rules block (take j (values_of p block)) v (cut.0, cut.1) in
    All-weaker (λ b. b < length p.blocks) (λ b. b < 2 ^ 31) (λ b lt. omega arith) (successors_in v.body) rules.successors

-- ---- the blocks, behind the entry

pub block_added : (t : Tables) (p : Procedure) (e : AirBlock) (block : ℕ) (of : Block) (b : AirBlock) (list list' : List AirBlock)
    → slice_get p.blocks block ≡ Some of
    → b ≡ block_code t of → list ≡ e ∷ map (block_code t) (take block p.blocks) → list' ≡ list ++ b ∷ []
    → list' ≡ e ∷ map (block_code t) (take (block + 1) p.blocks)
block_added t p e block of b list list' there is so_far more =
    more ∙ ap (λ l. l ++ b ∷ []) so_far ∙ ap (λ c. e ∷ (map (block_code t) (take block p.blocks) ++ c ∷ [])) is
    ∙ ap (λ l. e ∷ l) (sym (map-append (block_code t) (take block p.blocks) (of ∷ [])) ∙ ap (map (block_code t)) (sym (take_item p.blocks block of there)))
