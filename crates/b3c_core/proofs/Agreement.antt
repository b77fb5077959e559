-- `run` prints of a file what `eval` printed of its text.
use Rattle.std.proofs.Common.{◌≡◌, ◌<◌, ℕ, List, Option, Some, None, refl, sym, ap, subst, ◌∙◌, get_or, length}
use Rattle.std.specs.Prelude.{slice_get, option_map}
use Rattle.std.proofs.lemmas.Option.{slice_get-get_or, slice_get-map, slice_get_within}
use Rattle.b3_ir.specs.Procedure.{Procedure}
use Rattle.b3_trial.specs.Shown.{shown}
use Rattle.exit_table.specs.declared.tables.FrameRow.{FrameRow}
use Rattle.elf_obj.specs.declared.object.Object.{Object}
use Rattle.elf_obj.specs.declared.object.Symbol.{Symbol}
use Rattle.a64_run.specs.Agrees.{Agrees}
use Rattle.a64_run.specs.CodeOf.{IsCodeOf}
use Rattle.a64_run.specs.Finding.{IsProcedure}
use Rattle.a64_run.proofs.Ended.{ended_runs_agree}
use Rattle.a64_run.proofs.Named.{one_place}
use Rattle.b3c_core.specs.Tried.{EvaluatedRunsAgree}
use Rattle.b3c_core.proofs.Beginning.{same_some}

-- what a view of an item says, some item says
found_by : {X : Type 0} (view : X → List ℕ) (found : Option X) (name : List ℕ) → option_map view found ≡ Some name
    → (x : X) × (found ≡ Some x) × (view x ≡ name)
found_by view None name e = absurd (no e)
  where
    no : None ≡ Some name → ⊥
    no e = cc
found_by view (Some x) name e = (x, refl, same_some (view x) name e)

-- the symbol of a name is the code of the procedure of that name
agreeing : (ps reduced : List Procedure) (o : Object) (name : List ℕ) → IsCodeOf ps reduced o → (symbol : Symbol) (frame : FrameRow)
    → IsProcedure o name symbol frame → (k : ℕ) (p : Procedure) → slice_get ps k ≡ Some p → p.name ≡ name → Agrees p o symbol frame
agreeing ps reduced o name code symbol frame its k p there named =
    let listed : option_map (λ (s : Symbol). s.name) (slice_get o.symbols k) ≡ Some name =
    sym (slice_get-map (λ (s : Symbol). s.name) o.symbols k) ∙ ap (λ names. slice_get names k) code.names
    ∙ slice_get-map (λ (p : Procedure). p.name) ps k ∙ ap (option_map (λ (p : Procedure). p.name)) there ∙ ap Some named in
    let other = found_by (λ (s : Symbol). s.name) (slice_get o.symbols k) name listed in
    let at : its.place ≡ k =
    one_place o.symbols its.place k symbol other.0 code.good.distinct its.symbol_there other.1 (its.named ∙ sym other.2) in
    let short : k < length reduced = subst (λ n. k < n) (sym code.count) (slice_get_within ps k p there) in
    (code.each k p (get_or reduced k p) symbol frame there (slice_get-get_or reduced k p short)
    (subst (λ n. slice_get o.symbols n ≡ Some symbol) at its.symbol_there) (subst (λ n. slice_get o.tables.frames n ≡ Some frame) at its.frame_there)).agrees

pub evaluated_runs_agree : EvaluatedRunsAgree
evaluated_runs_agree text trial file output e not_going defined enough =
    let made = e.compiled.file_of in
    let agrees = agreeing e.compiled.procedures made.is.reduced made.object e.tried.name made.is.code e.begins.symbol e.begins.frame
    e.begins.may.procedure e.place e.procedure e.there e.named in
    record {
      object = made.object;
      holds = record { good = made.is.code.good; holds = made.is.holds };
      tried = e.tried;
      spells = e.spells;
      run = record {
        begins = e.begins;
        is = e.is ∙ ap shown (sym (ended_runs_agree e.procedure made.object e.begins.symbol e.begins.frame agrees e.tried.start
            e.begins.may.places e.tried.answers e.ranged e.tried.blocks not_going defined e.tried.steps enough));
      };
    }
