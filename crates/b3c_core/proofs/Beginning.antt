-- What the refusals of `place` and `run` say of a trial, and the procedure of a name.
use Rattle.std.proofs.Common.{◌≡◌, ◌≢◌, ℕ, ◌+◌, ◌<◌, ◌≤◌, List, Option, Some, None, refl, sym, ap, subst, ◌∙◌, arith, length, inl, inr}
use Rattle.std.specs.Prelude.{slice_get, option_map}
use Rattle.std.specs.List.{Contains}
use Rattle.std.proofs.Math.ListN.{length-map}
use Rattle.std.proofs.lemmas.Bool.{cases_lt}
use Rattle.std.proofs.lemmas.Option.{slice_get-map, slice_get_within}
use Rattle.b3_ir.specs.Procedure.{Kept, Procedure, procedures}
use Rattle.b3_trial.specs.Trials.{Trial}
use Rattle.exit_table.specs.declared.tables.FrameRow.{FrameRow}
use Rattle.elf_obj.specs.Good.{IsGood, names_of}
use Rattle.elf_obj.specs.declared.object.Object.{Object}
use Rattle.elf_obj.specs.declared.object.Symbol.{Symbol}
use Rattle.a64_run.specs.CodeOf.{IsCodeOf}
use Rattle.a64_run.specs.Finding.{IsMisplaced}
use Rattle.a64_run.specs.Placement.{Places}
use Rattle.a64_run.proofs.Named.{named_there, one_place}
use Rattle.b3c_core.specs.Tried.{Begins}

pub same_some : {X : Type 0} (x y : X) → Some x ≡ Some y → x ≡ y
same_some x y e = cc

-- ---- no procedure of the name, and a start that may not begin it

pub no_symbol_begins : (o : Object) (t : Trial) → ¬ (Contains (names_of o.symbols) t.name) → ¬ (Begins o t)
no_symbol_begins o t none b =
    none (named_there o.symbols b.may.procedure.place b.symbol t.name b.may.procedure.symbol_there b.may.procedure.named)

pub misplaced_begins : (o : Object) (t : Trial) → IsGood o → IsMisplaced o t.name t.start → ¬ (Begins o t)
misplaced_begins o t good m b =
    let at : b.may.procedure.place ≡ m.procedure.place =
    one_place o.symbols b.may.procedure.place m.procedure.place b.symbol m.symbol good.distinct b.may.procedure.symbol_there m.procedure.symbol_there
    (b.may.procedure.named ∙ sym m.procedure.named) in
    let symbol : b.symbol ≡ m.symbol = same_some b.symbol m.symbol (sym b.may.procedure.symbol_there ∙ ap (slice_get o.symbols) at ∙ m.procedure.symbol_there) in
    let frame : b.frame ≡ m.frame = same_some b.frame m.frame (sym b.may.procedure.frame_there ∙ ap (slice_get o.tables.frames) at ∙ m.procedure.frame_there) in
    m.misplaced (subst (λ (s : Symbol). Places o s m.frame t.start) symbol (subst (λ (f : FrameRow). Places o b.symbol f t.start) frame b.may.places))

-- ---- the procedure of a name

named_at : (found : Option Procedure) (name : List ℕ) → option_map (λ (p : Procedure). p.name) found ≡ Some name → (p : Procedure) × (found ≡ Some p) × (p.name ≡ name)
named_at None name e = absurd (no e)
  where
    no : None ≡ Some name → ⊥
    no e = cc
named_at (Some p) name e = (p, refl, same_some p.name name e)

pub no_procedure_begins : (ps reduced : List Procedure) (o : Object) (t : Trial) → IsCodeOf ps reduced o
    → ((k : ℕ) (p : Procedure) → slice_get ps k ≡ Some p → p.name ≢ t.name) → ¬ (Begins o t)
no_procedure_begins ps reduced o t code none b =
    let k = b.may.procedure.place in
    let listed : option_map (λ (s : Symbol). s.name) (slice_get o.symbols k) ≡ Some t.name =
    ap (option_map (λ (s : Symbol). s.name)) b.may.procedure.symbol_there ∙ ap Some b.may.procedure.named in
    let found = named_at (slice_get ps k) t.name
    (sym (slice_get-map (λ (p : Procedure). p.name) ps k) ∙ ap (λ names. slice_get names k) (sym code.names) ∙ slice_get-map (λ (s : Symbol). s.name) o.symbols k ∙ listed) in
    none k found.0 found.1 found.2

pub procedure_at : (ms : List Kept) (at : ℕ) (k : Kept) → slice_get ms at ≡ Some k → slice_get (procedures ms) at ≡ Some k.procedure
procedure_at ms at k there = slice_get-map (λ (m : Kept). m.procedure) ms at ∙ ap (option_map (λ (m : Kept). m.procedure)) there

-- one procedure more hasn't the name, and none past the last has
pub no_name_more : (ms : List Kept) (at : ℕ) (m : Kept) (name : List ℕ) → slice_get ms at ≡ Some m → m.procedure.name ≢ name
    → ((k : ℕ) (p : Procedure) → slice_get (procedures ms) k ≡ Some p → k < at → p.name ≢ name)
    → (k : ℕ) (p : Procedure) → slice_get (procedures ms) k ≡ Some p → k < at + 1 → p.name ≢ name
no_name_more ms at m name there other before k p here below is =
    elim (cases_lt k at) [
      | inl less ↦ before k p here less is
      | inr above ↦
          let same : k ≡ at = omega arith in
          let one : p ≡ m.procedure = same_some p m.procedure (sym here ∙ ap (slice_get (procedures ms)) same ∙ procedure_at ms at m there) in
          other (ap (λ (q : Procedure). q.name) (sym one) ∙ is)
    ]

pub no_procedure_past : (ms : List Kept) (at : ℕ) (name : List ℕ) → length ms ≤ at
    → ((k : ℕ) (p : Procedure) → slice_get (procedures ms) k ≡ Some p → k < at → p.name ≢ name)
    → (k : ℕ) (p : Procedure) → slice_get (procedures ms) k ≡ Some p → p.name ≢ name
no_procedure_past ms at name end before k p here =
    let within : k < length (procedures ms) = slice_get_within (procedures ms) k p here in
    let as_many : length (procedures ms) ≡ length ms = length-map ms (λ (m : Kept). m.procedure) in
    before k p here (omega (arith, within, as_many, end))

pub found_name : (ms : List Kept) (at : ℕ) (m : Kept) (p : Procedure) (name : List ℕ) → slice_get ms at ≡ Some m → slice_get (procedures ms) at ≡ Some p → p.name ≡ name
    → m.procedure.name ≡ name
found_name ms at m p name there found is =
    ap (λ (q : Procedure). q.name) (same_some m.procedure p (sym (procedure_at ms at m there) ∙ found)) ∙ is
