-- The operands of checks: their inputs, what they report, and the site that is made of them.
use Rattle.std.proofs.Common.{◌≡◌, ℕ, suc, ◌+◌, ◌<◌, ◌≤◌, Bool, true, false, inl, inr, List, [], ◌∷◌, ◌++◌, Option, Some, None, length, map, drop, refl, sym, ap, ◌∙◌, subst, arith}
use Rattle.std.specs.Prelude.{All, if◌then◌else◌, slice_get}
use Rattle.std.proofs.lemmas.List.Elements.{All-cons, All-head, All-nil, All-tail}
use Rattle.b3_base.specs.declared.word.Width.{Width}
use Rattle.stackmap.specs.declared.site.Site.{Site}
use Rattle.air_ir.specs.Forms.{AllFit, AtSite, BitOf, Fits, HasSite, IsChanged, NoImmediate, OfSum, OneIs, Result, SiteFits, SiteOperands, Takes, Word, listed, test_takes, two_homes}
use Rattle.air_ir.specs.Operands.{Homes, Read, and_word, is_given, is_read, targets, word_of, words}
use Rattle.air_ir.specs.SitesInPlaces.{HasClobbers, kind_by, patch_in, result_by, size_by}
use Rattle.air_ir.specs.declared.frame.Frame.{Frame}
use Rattle.air_ir.specs.declared.op.AirOp.TheVariants as op
use Rattle.air_ir.specs.declared.op.Test.{Test}
use Rattle.air_ir.specs.declared.op.Test.TheVariants.{Compare, NonZero, Bit}
use Rattle.air_ir.specs.declared.operand.Operand.{Operand}
use Rattle.air_ir.specs.declared.operand.Role.TheVariants.{Use}
use Rattle.air_ir.specs.declared.procedure.AirInst.{AirInst}
use Rattle.air_ir.specs.declared.procedure.AirProc.{AirProc}
use Rattle.air_frame.specs.Needs.{names}
use Rattle.a64_emit.specs.Made.{exit_site, places_read}
use Rattle.a64_code.specs.Places.{spill_offset}
use Rattle.a64_emit.specs.Sites.{ArePlacesOf, IsStackmapOf}
use Rattle.a64_emit.proofs.AirSteps.{targets_result, words_result, written_home}
use Rattle.a64_emit.proofs.Fits.{grouped, one_result, two_there}
use Rattle.a64_emit.proofs.Outside.{reg_targets}
use Rattle.a64_emit.proofs.Outward.{Owns, changed_regs, places_changed, places_front, places_told, targets_changed, targets_front, words_changed, words_front}
use Rattle.a64_emit.proofs.OutwardLeads.{all_told, drop_all}
use Rattle.a64_emit.proofs.SitesOutward.{count_placed, each_placed}
use Rattle.a64_emit.proofs.Told.{IsTold, and_some}

-- the operands are those that are computed with, those that are reported, those that are changed, and results that nothing reads
pub record CheckParts (p : AirProc) (os inputs reported changed results : List Operand) : Type 0 where
  pub parts : os ≡ inputs ++ (reported ++ (changed ++ results))
  pub reads : All (λ (o : Operand). is_read o.role ≡ true) inputs
  pub told : All (IsTold p) reported
  pub changes : All IsChanged changed
  pub unread : (homes : Homes) → words homes results ≡ Some []
  pub no_places : (f : Frame) → places_read f results ≡ []

targets_read : (o : Operand) (os : List Operand) → is_read o.role ≡ true → targets (o ∷ os) ≡ targets os
unfolding targets
targets_read o os reads = rw reads refl

targets_behind : (os more : List Operand) → All (λ (o : Operand). is_read o.role ≡ true) os → targets (os ++ more) ≡ targets more
targets_behind [] more reads = refl
targets_behind (o ∷ os) more reads =
    targets_read o (os ++ more) (All-head (λ (o : Operand). is_read o.role ≡ true) o os reads)
    ∙ targets_behind os more (All-tail (λ (o : Operand). is_read o.role ≡ true) o os reads)

and_both : (width : Width) (o : Option ℕ) (ws : Option (List Read)) (w : ℕ) (vs : List Read) → o ≡ Some w → ws ≡ Some vs
    → and_word width o ws ≡ Some ((width, w) ∷ vs)
and_both width o ws w vs first rest = rw (first, rest) refl

-- the words of some operands and those of the ones behind
words_split : (homes : Homes) (os more : List Operand) (ws : List Read) → words homes (os ++ more) ≡ Some ws
    → (xs : List Read) × (rs : List Read) × (words homes os ≡ Some xs) × (words homes more ≡ Some rs) × (xs ++ rs ≡ ws)
unfolding words
words_split homes [] more ws reads = ([], ws, refl, reads, refl)
words_split homes (o ∷ os) more ws reads =
    elim (is_given (is_read o.role) o.arg)
    as (λ b. (if b then and_word o.width (word_of homes o.width o.arg) (words homes (os ++ more)) else words homes (os ++ more)) ≡ Some ws
    → (xs : List Read) × (rs : List Read)
    × ((if b then and_word o.width (word_of homes o.width o.arg) (words homes os) else words homes os) ≡ Some xs)
    × (words homes more ≡ Some rs) × (xs ++ rs ≡ ws)) [
      | true ↦ λ all.
          let parts = and_some o.width (word_of homes o.width o.arg) (words homes (os ++ more)) ws all in
          let rest = words_split homes os more parts.1 parts.3 in (
            (o.width, parts.0) ∷ rest.0,
            rest.1,
            and_both o.width (word_of homes o.width o.arg) (words homes os) parts.0 rest.0 parts.2 rest.2,
            rest.3,
            ap (λ (vs : List Read). (o.width, parts.0) ∷ vs) rest.4 ∙ parts.4,
          )
      | false ↦ λ all. words_split homes os more ws all
    ] reads

module _ (p : AirProc) (os inputs reported changed results : List Operand) (q : CheckParts p os inputs reported changed results) where
  pub check_reports : (f : Frame) → places_read f (drop (length inputs) os) ≡ places_read f reported
  check_reports f =
      ap (λ (xs : List Operand). places_read f (drop (length inputs) xs)) q.parts
      ∙ ap (places_read f) (drop_all inputs (reported ++ (changed ++ results)))
      ∙ places_front f reported (changed ++ results) (places_changed f changed results q.changes ∙ q.no_places f)

  pub check_writes : targets os ≡ reg_targets (changed_regs changed) ++ targets results
  check_writes =
      ap targets q.parts ∙ targets_behind inputs (reported ++ (changed ++ results)) q.reads
      ∙ targets_front p reported (changed ++ results) q.told ∙ targets_changed changed results q.changes

  -- the words of the inputs, and those that are reported
  pub check_reads : (homes : Homes) (ws : List Read) → words homes os ≡ Some ws
      → (xs : List Read) × (rs : List Read) × (words homes inputs ≡ Some xs) × (words homes reported ≡ Some rs) × (xs ++ rs ≡ ws)
  check_reads homes ws reads =
      let split = words_split homes inputs (reported ++ (changed ++ results)) ws (ap (words homes) (sym q.parts) ∙ reads) in (
        split.0,
        split.1,
        split.2,
        sym (words_front homes reported (changed ++ results) (words_changed homes changed results q.changes ∙ q.unread homes)) ∙ split.3,
        split.4,
      )

-- ---- the parts of checks

one_use : (a : Operand) → a.role ≡ Use → All (λ (o : Operand). is_read o.role ≡ true) (a ∷ [])
one_use a role = All-cons (λ (o : Operand). is_read o.role ≡ true) a [] (ap is_read role) (All-nil (λ (o : Operand). is_read o.role ≡ true))

two_use : (a b : Operand) → a.role ≡ Use → b.role ≡ Use → All (λ (o : Operand). is_read o.role ≡ true) (a ∷ b ∷ [])
two_use a b role other = All-cons (λ (o : Operand). is_read o.role ≡ true) a (b ∷ []) (ap is_read role) (one_use b other)

tests_read : (t : Test) (width : Width) (os : List Operand) → AllFit (test_takes t width) os → All (λ (o : Operand). is_read o.role ≡ true) os
unfolding AllFit
tests_read (Compare cond) width [] fits = absurd fits
tests_read (Compare cond) width (a ∷ []) fits = absurd fits.1
tests_read (Compare cond) width (a ∷ b ∷ []) fits = two_use a b fits.0.0 fits.1.0.0
tests_read (Compare cond) width (a ∷ b ∷ o ∷ os) fits = absurd fits.1.1
tests_read NonZero width [] fits = absurd fits
tests_read NonZero width (a ∷ []) fits = one_use a fits.0.0
tests_read NonZero width (a ∷ b ∷ os) fits = absurd fits.1
tests_read (Bit k) width [] fits = absurd fits
tests_read (Bit k) width (a ∷ []) fits = one_use a fits.0.0
tests_read (Bit k) width (a ∷ b ∷ os) fits = absurd fits.1

no_results : (width : Width) (os : List Operand) → OneIs false (λ (o : Operand). ⊥) os → os ≡ []
no_results width [] none = refl
no_results width (o ∷ os) none = absurd none

none_unread : (homes : Homes) (os : List Operand) → os ≡ [] → words homes os ≡ Some []
unfolding words
none_unread homes os none = ap (words homes) none

none_places : (f : Frame) (os : List Operand) → os ≡ [] → places_read f os ≡ []
unfolding places_read
none_places f os none = ap (places_read f) none

result_places : (f : Frame) (width : Width) (o : Operand) → Fits (Result width) o → places_read f (o ∷ []) ≡ []
unfolding places_read
result_places f width o fits = rw fits.0 refl

module _ (p : AirProc) (i : AirInst) (owns : Owns p i) where
  pub test_parts : (t : Test) → (h : HasSite (op.CheckIf t) i.operands) → CheckParts p i.operands h.0.inputs h.0.reported h.0.changed h.0.results
  test_parts t h =
      let parts : i.operands ≡ h.0.inputs ++ (h.0.reported ++ (h.0.changed ++ h.0.results)) = h.1 ∙ grouped h.0 in
      let none = no_results h.2.width h.0.results h.2.result in
      record {
        parts = parts;
        reads = tests_read t h.2.width h.0.inputs h.2.fits;
        told = all_told p i h.0.inputs h.0.reported (h.0.changed ++ h.0.results) owns parts h.2.reports;
        changes = h.2.changes;
        unread = λ homes. none_unread homes h.0.results none;
        no_places = λ f. none_places f h.0.results none;
      }

  pub result_parts : (s : SiteOperands) → i.operands ≡ listed s → AtSite two_homes true (λ width. Fits (Result width)) s
      → CheckParts p i.operands s.inputs s.reported s.changed s.results
  result_parts s is at =
      let parts : i.operands ≡ s.inputs ++ (s.reported ++ (s.changed ++ s.results)) = is ∙ grouped s in
      let inputs = two_there s.inputs at.width at.fits in
      let result = one_result s.results at.width at.result in
      let home = written_home at.width result.0 result.2 in
      record {
        parts = parts;
        reads = subst (All (λ (o : Operand). is_read o.role ≡ true)) (sym inputs.2) (two_use inputs.0 inputs.1 inputs.3.0 inputs.4.0);
        told = all_told p i s.inputs s.reported (s.changed ++ s.results) owns parts at.reports;
        changes = at.changes;
        unread = λ homes. ap (words homes) result.1 ∙ words_result homes result.0 home.0 home.1;
        no_places = λ f. ap (places_read f) result.1 ∙ result_places f at.width result.0 result.2;
      }

  -- the site of a check
  pub exit_own : (f : Frame) → ((n : ℕ) → names p n ≡ true → slice_get f.spills n ≡ Some (spill_offset f n)) → (s : SiteOperands)
      → CheckParts p i.operands s.inputs s.reported s.changed s.results → i.operands ≡ listed s → SiteFits i.op s → patch_in i.op ≡ None
      → (from : ℕ) → length s.inputs ≡ from → IsStackmapOf f i (exit_site f from i)
  exit_own f spilled s q is fits none from count =
      let patch : None ≡ patch_in i.op = sym none in
      let reports : places_read f (drop from i.operands) ≡ places_read f s.reported =
      ap (λ n. places_read f (drop n i.operands)) (sym count) ∙ check_reports p i.operands s.inputs s.reported s.changed s.results q f in
      let are : ArePlacesOf f s.reported (places_read f (drop from i.operands)) =
      subst (ArePlacesOf f s.reported) (sym reports) (places_told p f spilled s.reported q.told) in
      record {
        parts = s;
        operands = is;
        fits = fits;
        from = record {
          value = refl;
          kind = ap kind_by patch;
          size = ap size_by patch;
          count = count_placed f s.reported (places_read f (drop from i.operands)) are;
          places = each_placed f s.reported (places_read f (drop from i.operands)) are;
          result = ap (λ x. result_by x s.results) patch;
          clobbers = subst (λ x. HasClobbers x s.changed 0) patch refl;
        };
        places = are;
      }
