-- What `eval_text` and `run_file` know of a text, a trial and an object, put together.
use Rattle.std.proofs.Common.{◌≡◌, ℕ, List, Ok, Err, Some, subst, sym}
use Rattle.std.specs.Prelude.{All, slice_get}
use Rattle.b3_base.specs.Ranged.{IsRangedAnswer}
use Rattle.b3_ir.specs.Procedure.{Kept, Procedure, procedures}
use Rattle.b3_meaning.specs.Run.{b3_run}
use Rattle.b3_rules.specs.Valid.{IsValid}
use Rattle.b3_trial.specs.Shown.{shown}
use Rattle.b3_trial.specs.Told.{Gives}
use Rattle.b3_trial.specs.Trials.{BadLine, Spells, Trial}
use Rattle.b3_trial.specs.declared.fault.TrialFault.TheVariants.{Bad}
use Rattle.elf_obj.specs.declared.object.Object.{Object}
use Rattle.elf_obj.specs.declared.object.Symbol.{Symbol}
use Rattle.exit_table.specs.declared.tables.FrameRow.{FrameRow}
use Rattle.a64_run.specs.Finding.{MayBegin}
use Rattle.a64_run.specs.Placement.{start_of}
use Rattle.b3c_core.specs.Compiled.{IsCompiled, IsFileWith, IsTextOf}
use Rattle.b3c_core.specs.Tried.{Begins, IsEvaluatedOver, IsMisplacedOver, IsNoTrial}

-- what is known of a module of a text, and of its file
pub record IsKnown (text file : List ℕ) (m : List Kept) (o : Object) : Type 0 where
  pub text_of : IsTextOf text (procedures m)
  pub valid : IsValid (procedures m)
  pub is_file : IsFileWith (procedures m) o file

pub known_as : (text file : List ℕ) (m n : List Kept) (o : Object) → m ≡ n → IsTextOf text (procedures n) → IsValid (procedures n) → IsFileWith (procedures n) o file
    → IsKnown text file m o
known_as text file m n o same is valid made =
    subst (λ x. IsKnown text file x o) (sym same) (record { text_of = is; valid = valid; is_file = made })

pub compiled_by : (text file : List ℕ) (ps : List Procedure) (o : Object) → IsTextOf text ps → IsValid ps → IsFileWith ps o file → IsCompiled text file
compiled_by text file ps o is valid made =
    record { procedures = ps; text_of = is; valid = valid; file_of = record { object = o; is = made } }

gives_none : (t : Trial) (line : ℕ) → Gives (Err (Bad line)) (Ok t) → ⊥
gives_none t line same = cc

-- what a refused reading of a trial says
pub no_trial : (trial : List ℕ) (line : ℕ) → BadLine trial line → ((t : Trial) → Spells trial t → Gives (Err (Bad line)) (Ok t)) → IsNoTrial trial line
no_trial trial line bad spelled = record { bad = bad; none = λ t spells. gives_none t line (spelled t spells) }

pub misplaced_over : (text file trial : List ℕ) (ps : List Procedure) (o : Object) (t : Trial) → IsTextOf text ps → IsValid ps → IsFileWith ps o file
    → Spells trial t → ¬ (Begins o t) → IsMisplacedOver text trial file
unfolding compiled_by
misplaced_over text file trial ps o t is valid made spells none =
    record { compiled = compiled_by text file ps o is valid made; tried = t; spells = spells; misplaced = none }

pub evaluated_over : (text file trial output : List ℕ) (ps : List Procedure) (o : Object) (t : Trial) → IsTextOf text ps → IsValid ps → IsFileWith ps o file
    → Spells trial t → (symbol : Symbol) (frame : FrameRow) → MayBegin o t.name t.start symbol frame
    → (place : ℕ) (p : Procedure) → slice_get ps place ≡ Some p → p.name ≡ t.name
    → All IsRangedAnswer t.answers → output ≡ shown (b3_run p (start_of o frame t.start) t.answers t.blocks) → IsEvaluatedOver text trial file output
unfolding compiled_by
evaluated_over text file trial output ps o t is valid made spells symbol frame may place p there named ranged e =
    record {
      compiled = compiled_by text file ps o is valid made;
      tried = t;
      spells = spells;
      begins = record { symbol = symbol; frame = frame; may = may };
      place = place;
      procedure = p;
      there = there;
      named = named;
      ranged = ranged;
      is = e;
    }
