-- Only the terminal of a block names successors, and each value of a procedure that is built is one that is selected.
use Rattle.std.proofs.Common.{◌≡◌, ℕ, Bool, ◌+◌, inl, inr, true, false, List, [], ◌∷◌, ◌++◌, length, map, refl, ap, ◌∙◌, subst}
use Rattle.std.specs.Prelude.{All, Contains, slice_index_or}
use Rattle.std.specs.List.{flat_map}
use Rattle.std.proofs.Math.ListN.{get_or-eq_default}
use Rattle.std.proofs.lemmas.Bool.{cases_lt}
use Rattle.std.proofs.lemmas.List.{append-nil}
use Rattle.std.proofs.lemmas.List.Elements.{All-contains, All-get_or}
use Rattle.b3_base.proofs.Lists.{Contains-none, Contains-first, Contains-later}
use Rattle.b3_ir.specs.Fits.{Fits, IsBody}
use Rattle.b3_ir.specs.Procedure.{AllFit, Block, Procedure, no_block, values_of}
use Rattle.b3_ir.specs.Table.{is_terminal, row_of}
use Rattle.b3_ir.specs.declared.opcode.Opcode.{Opcode}
use Rattle.b3_ir.specs.declared.opcode.Opcode.TheVariants as opcode
use Rattle.b3_ir.specs.declared.opcode.Ty.{Ty}
use Rattle.b3_ir.specs.declared.table.Carries.{Carries}
use Rattle.b3_ir.specs.declared.table.Carries.TheVariants as carries
use Rattle.b3_ir.specs.declared.value.Body.{Body}
use Rattle.b3_ir.specs.declared.value.Body.TheVariants.{Cases, Targets}
use Rattle.b3_ir.specs.declared.value.Value.{Value}
use Rattle.b3_rules.specs.Paths.{successors_in}
use Rattle.b3_sound.proofs.Kept.{EndsBlock}
use Rattle.air_select.specs.Selected.{targets_of}

-- whether a body of these names blocks
abbrev carries_blocks : Carries → Bool
carries_blocks carries.OneSuccessor = true
carries_blocks carries.TwoSuccessors = true
carries_blocks carries.CaseSuccessors = true
carries_blocks _ = false

inner_carries : (o : Opcode) → is_terminal o ≡ false → carries_blocks (row_of o).carries ≡ false
inner_carries opcode.Jump e = absurd cc
inner_carries opcode.Branch e = absurd cc
inner_carries opcode.Switch e = absurd cc
inner_carries _ e = refl

names_no_block : (c : Carries) (ty : Ty) (reported : ℕ) (body : Body) → carries_blocks c ≡ false → IsBody c ty reported body → successors_in body ≡ []
names_no_block carries.OneSuccessor ty reported body e fits = absurd cc
names_no_block carries.TwoSuccessors ty reported body e fits = absurd cc
names_no_block carries.CaseSuccessors ty reported body e fits = absurd cc
names_no_block carries.Nothing ty reported (Targets blocks) e fits = absurd fits
names_no_block (carries.Number width) ty reported (Targets blocks) e fits = absurd fits
names_no_block carries.Register ty reported (Targets blocks) e fits = absurd fits
names_no_block carries.SlotNumber ty reported (Targets blocks) e fits = absurd fits
names_no_block carries.Offset ty reported (Targets blocks) e fits = absurd fits
names_no_block carries.PhiId ty reported (Targets blocks) e fits = absurd fits
names_no_block carries.Site ty reported (Targets blocks) e fits = absurd fits
names_no_block carries.Exit ty reported (Targets blocks) e fits = absurd fits
names_no_block carries.Nothing ty reported (Cases cases blocks) e fits = absurd fits
names_no_block (carries.Number width) ty reported (Cases cases blocks) e fits = absurd fits
names_no_block carries.Register ty reported (Cases cases blocks) e fits = absurd fits
names_no_block carries.SlotNumber ty reported (Cases cases blocks) e fits = absurd fits
names_no_block carries.Offset ty reported (Cases cases blocks) e fits = absurd fits
names_no_block carries.PhiId ty reported (Cases cases blocks) e fits = absurd fits
names_no_block carries.Site ty reported (Cases cases blocks) e fits = absurd fits
names_no_block carries.Exit ty reported (Cases cases blocks) e fits = absurd fits
names_no_block c ty reported _ e fits = refl

-- what holds of each value of each block holds of those of a block
in_block : (P : Value → Type 0) (blocks : List Block) → All (λ (b : Block). All P b.values) blocks → (b : ℕ) (v : Value)
    → Contains (slice_index_or blocks b no_block).values v → P v
in_block P blocks all b v has =
    elim (cases_lt b (length blocks)) [
      | inl lt ↦ All-contains P (slice_index_or blocks b no_block).values v (All-get_or (λ (x : Block). All P x.values) blocks b no_block lt all) has
      | inr past ↦
          let none : (slice_index_or blocks b no_block).values ≡ [] = ap (λ (x : Block). x.values) (get_or-eq_default blocks no_block past) in
          absurd (Contains-none v (subst (λ (l : List Value). Contains l v) none has))
    ]

pub names_none : (p : Procedure) → AllFit p.blocks → (b : ℕ) (v : Value) → Contains (values_of p b) v → is_terminal v.kind.opcode ≡ false
    → successors_in v.body ≡ []
names_none p fit b v has e =
    let fits : Fits v = in_block Fits p.blocks fit b v has in
    names_no_block (row_of v.kind.opcode).carries v.ty _ v.body (inner_carries v.kind.opcode e) fits.body
