-- What lines can say.
use Rattle.std.proofs.Common.{◌≡◌, ℕ, ◌+◌, ◌≤◌, Bool, true, false, List, [], ◌∷◌, length, refl, sym, ap, subst, ◌∙◌, arith}
use Rattle.std.specs.Prelude.{map, ◌==◌, ◌&&◌, if◌then◌else◌}
use Rattle.b3_ir.specs.declared.opcode.Opcode.{Opcode}
use Rattle.b3_ir.specs.declared.opcode.Opcode.TheVariants as op
use Rattle.b3_ir.specs.declared.opcode.Ty.{Ty}
use Rattle.b3_ir.specs.declared.table.Carries.{Carries}
use Rattle.b3_ir.specs.declared.table.Carries.TheVariants as carries
use Rattle.b3_ir.specs.declared.value.Body.{Body}
use Rattle.b3_ir.specs.declared.value.Body.TheVariants as bodies
use Rattle.b3_ir.specs.declared.value.Value.{Value}
use Rattle.b3_ir.specs.Fits.{Fits, IsBody, reported_count}
use Rattle.b3_ir.specs.Table.{row_of}
use Rattle.b3_lines.specs.Lines.{begins_lf, lines_of, onto_line}
use Rattle.b3_rows.specs.declared.row.Row.{Row}
use Rattle.b3_rows.specs.declared.row.Row.TheVariants as rows
use Rattle.b3_rows.specs.Rows.{row_of_line}
use Rattle.b3_rows.specs.Successors.{case_count, count_of, with_successors, with_targets as targeted}
use Rattle.b3_rows.specs.Ranges.{IsInRange}
use Rattle.b3_rows.proofs.FitLemmas.{later_fits}
use Rattle.b3_rows.proofs.RangeLemmas.{row_range}
use Rattle.b3_module.specs.declared.place.Following.{Following}
use Rattle.b3_module.specs.declared.place.Following.TheVariants.{Nothing, Bare, One, Two, Many}
use Rattle.b3_module.specs.Texts.{cases_in, following, targets_in}
use Rattle.b3_module.specs.Reading.{FitsWith, MayStand}

-- ---- each line takes a byte

onto_short : (b : ℕ) (lines : List (List ℕ)) → length (onto_line b lines) ≤ length lines + 1
onto_short b [] = omega arith
onto_short b (line ∷ lines) = omega arith

pick : (x y : Bool) (more : List (List ℕ)) (b n : ℕ) → length more ≤ n → length (if x then [] ∷ more else (if y then more else onto_line b more)) ≤ n + 1
pick true y more b n h = omega arith
pick false true more b n h = omega arith
pick false false more b n h = omega (arith, onto_short b more)

pub lines_short : (bytes : List ℕ) → length (lines_of bytes) ≤ length bytes
unfolding lines_of
lines_short [] = omega arith
lines_short (b ∷ bytes) =
    let more = pick (b == 10) ((b == 13) && begins_lf bytes) (lines_of bytes) b (length bytes) (lines_short bytes) in
    omega (arith, more)

-- ---- values

-- what follows the line of a value is what its row carries
unfoldable pub Agrees : Following → Carries → Type 0
Agrees One carries.OneSuccessor = Unit {0}
Agrees One c = ⊥
Agrees Two carries.TwoSuccessors = Unit {0}
Agrees Two c = ⊥
Agrees Many carries.CaseSuccessors = Unit {0}
Agrees Many c = ⊥
Agrees f carries.OneSuccessor = ⊥
Agrees f carries.TwoSuccessors = ⊥
Agrees f carries.CaseSuccessors = ⊥
Agrees f c = Unit {0}

pub agree : (opcode : Opcode) → Agrees (following opcode) (row_of opcode).carries
unfolding Agrees
agree op.Jump = tt
agree _ = tt

abbrev pub IsPlainRow : Carries → Type 0
IsPlainRow carries.OneSuccessor = ⊥
IsPlainRow carries.TwoSuccessors = ⊥
IsPlainRow carries.CaseSuccessors = ⊥
IsPlainRow c = Unit {0}

plain_targets : (c : Carries) (ty : Ty) (n : ℕ) (targets : List ℕ) → IsPlainRow c → IsBody c ty n (bodies.Targets targets) → ⊥
plain_targets carries.Nothing ty n targets p h = h
plain_targets (carries.Number width) ty n targets p h = h
plain_targets carries.Register ty n targets p h = h
plain_targets carries.SlotNumber ty n targets p h = h
plain_targets carries.Offset ty n targets p h = h
plain_targets carries.PhiId ty n targets p h = h
plain_targets carries.Site ty n targets p h = h
plain_targets carries.Exit ty n targets p h = h
plain_targets carries.OneSuccessor ty n targets p h = p
plain_targets carries.TwoSuccessors ty n targets p h = p
plain_targets carries.CaseSuccessors ty n targets p h = p

plain_cases : (c : Carries) (ty : Ty) (n : ℕ) (words targets : List ℕ) → IsPlainRow c → IsBody c ty n (bodies.Cases words targets) → ⊥
plain_cases carries.Nothing ty n words targets p h = h
plain_cases (carries.Number width) ty n words targets p h = h
plain_cases carries.Register ty n words targets p h = h
plain_cases carries.SlotNumber ty n words targets p h = h
plain_cases carries.Offset ty n words targets p h = h
plain_cases carries.PhiId ty n words targets p h = h
plain_cases carries.Site ty n words targets p h = h
plain_cases carries.Exit ty n words targets p h = h
plain_cases carries.OneSuccessor ty n words targets p h = p
plain_cases carries.TwoSuccessors ty n words targets p h = p
plain_cases carries.CaseSuccessors ty n words targets p h = p

-- the body of a row without successors is that of its value
plain_same : (c : Carries) (ty : Ty) (n : ℕ) (body : Body) → IsPlainRow c → IsBody c ty n (targeted body []) → targeted body [] ≡ body
plain_same c ty n bodies.Plain p h = refl
plain_same c ty n (bodies.Constant word) p h = refl
plain_same c ty n (bodies.Argument reg) p h = refl
plain_same c ty n (bodies.Slot number) p h = refl
plain_same c ty n (bodies.Offset bytes) p h = refl
plain_same c ty n (bodies.Target phi) p h = refl
plain_same c ty n (bodies.Map map) p h = refl
plain_same c ty n (bodies.Targets none) p h = absurd (plain_targets c ty n [] p h)
plain_same c ty n (bodies.Cases words none) p h = absurd (plain_cases c ty n words [] p h)

-- the body of a row with successors takes them
one_same : (ty : Ty) (n : ℕ) (body : Body) (targets : List ℕ) → IsBody carries.OneSuccessor ty n (targeted body targets) → targeted body targets ≡ targets_in body targets
one_same ty n bodies.Plain targets h = absurd h
one_same ty n (bodies.Constant word) targets h = absurd h
one_same ty n (bodies.Argument reg) targets h = absurd h
one_same ty n (bodies.Slot number) targets h = absurd h
one_same ty n (bodies.Offset bytes) targets h = absurd h
one_same ty n (bodies.Target phi) targets h = absurd h
one_same ty n (bodies.Map map) targets h = absurd h
one_same ty n (bodies.Targets none) targets h = refl
one_same ty n (bodies.Cases words none) targets h = refl

two_same : (ty : Ty) (n : ℕ) (body : Body) (targets : List ℕ) → IsBody carries.TwoSuccessors ty n (targeted body targets) → targeted body targets ≡ targets_in body targets
two_same ty n bodies.Plain targets h = absurd h
two_same ty n (bodies.Constant word) targets h = absurd h
two_same ty n (bodies.Argument reg) targets h = absurd h
two_same ty n (bodies.Slot number) targets h = absurd h
two_same ty n (bodies.Offset bytes) targets h = absurd h
two_same ty n (bodies.Target phi) targets h = absurd h
two_same ty n (bodies.Map map) targets h = absurd h
two_same ty n (bodies.Targets none) targets h = refl
two_same ty n (bodies.Cases words none) targets h = refl

case_same : (ty : Ty) (n : ℕ) (body : Body) (targets : List ℕ) → IsBody carries.CaseSuccessors ty n (targeted body targets) → targeted body targets ≡ targets_in body targets
case_same ty n bodies.Plain targets h = absurd h
case_same ty n (bodies.Constant word) targets h = absurd h
case_same ty n (bodies.Argument reg) targets h = absurd h
case_same ty n (bodies.Slot number) targets h = absurd h
case_same ty n (bodies.Offset bytes) targets h = absurd h
case_same ty n (bodies.Target phi) targets h = absurd h
case_same ty n (bodies.Map map) targets h = absurd h
case_same ty n (bodies.Targets none) targets h = refl
case_same ty n (bodies.Cases words none) targets h = refl

count_same : (body : Body) → cases_in body ≡ case_count body
count_same bodies.Plain = refl
count_same (bodies.Constant word) = refl
count_same (bodies.Argument reg) = refl
count_same (bodies.Slot number) = refl
count_same (bodies.Offset bytes) = refl
count_same (bodies.Target phi) = refl
count_same (bodies.Map map) = refl
count_same (bodies.Targets none) = refl
count_same (bodies.Cases words none) = refl

fits_so : (v : Value) (a b : Body) → a ≡ b → Fits (record v { body = a }) → Fits (record v { body = b })
fits_so v a b e h = subst (λ (x : Body). Fits (record v { body = x })) e h

abbrev Lawful : Value → Carries → Type 0
Lawful v c = (targets : List ℕ) → length targets ≡ count_of c v.body → Fits (with_successors v targets)

body_of : (v : Value) (targets : List ℕ) (c : Carries) → (row_of v.kind.opcode).carries ≡ c → Fits (with_successors v targets) → IsBody c v.ty (reported_count v) (targeted v.body targets)
body_of v targets c e h = subst (λ (x : Carries). IsBody x v.ty (reported_count v) (targeted v.body targets)) e h.body

plain_stands : (c : Carries) (v : Value) → IsPlainRow c → (row_of v.kind.opcode).carries ≡ c → count_of c v.body ≡ 0 → Lawful v c → Fits v
plain_stands c v p e none law =
    let h = law [] (sym none) in
    fits_so v (targeted v.body []) v.body (plain_same c v.ty (reported_count v) v.body p (body_of v [] c e h)) h

one_stands : (v : Value) → (row_of v.kind.opcode).carries ≡ carries.OneSuccessor → Lawful v carries.OneSuccessor → FitsWith One v
one_stands v e law a =
    let h = law (a ∷ []) refl in
    fits_so v (targeted v.body (a ∷ [])) (targets_in v.body (a ∷ [])) (one_same v.ty (reported_count v) v.body (a ∷ []) (body_of v (a ∷ []) carries.OneSuccessor e h)) h

two_stands : (v : Value) → (row_of v.kind.opcode).carries ≡ carries.TwoSuccessors → Lawful v carries.TwoSuccessors → FitsWith Two v
two_stands v e law a b =
    let h = law (a ∷ b ∷ []) refl in
    fits_so v (targeted v.body (a ∷ b ∷ [])) (targets_in v.body (a ∷ b ∷ [])) (two_same v.ty (reported_count v) v.body (a ∷ b ∷ []) (body_of v (a ∷ b ∷ []) carries.TwoSuccessors e h)) h

many_stands : (v : Value) → (row_of v.kind.opcode).carries ≡ carries.CaseSuccessors → Lawful v carries.CaseSuccessors → FitsWith Many v
many_stands v e law targets n =
    let h = law targets (n ∙ ap (λ (k : ℕ). k + 1) (count_same v.body)) in
    fits_so v (targeted v.body targets) (targets_in v.body targets) (case_same v.ty (reported_count v) v.body targets (body_of v targets carries.CaseSuccessors e h)) h

stands : (f : Following) (c : Carries) (v : Value) → Agrees f c → (row_of v.kind.opcode).carries ≡ c → Lawful v c → FitsWith f v
unfolding Agrees
stands One carries.OneSuccessor v a e law = one_stands v e law
stands Two carries.TwoSuccessors v a e law = two_stands v e law
stands Many carries.CaseSuccessors v a e law = many_stands v e law
stands One carries.Nothing v a e law = absurd a
stands One (carries.Number width) v a e law = absurd a
stands One carries.Register v a e law = absurd a
stands One carries.SlotNumber v a e law = absurd a
stands One carries.Offset v a e law = absurd a
stands One carries.PhiId v a e law = absurd a
stands One carries.Site v a e law = absurd a
stands One carries.Exit v a e law = absurd a
stands One carries.TwoSuccessors v a e law = absurd a
stands One carries.CaseSuccessors v a e law = absurd a
stands Two carries.Nothing v a e law = absurd a
stands Two (carries.Number width) v a e law = absurd a
stands Two carries.Register v a e law = absurd a
stands Two carries.SlotNumber v a e law = absurd a
stands Two carries.Offset v a e law = absurd a
stands Two carries.PhiId v a e law = absurd a
stands Two carries.Site v a e law = absurd a
stands Two carries.Exit v a e law = absurd a
stands Two carries.OneSuccessor v a e law = absurd a
stands Two carries.CaseSuccessors v a e law = absurd a
stands Many carries.Nothing v a e law = absurd a
stands Many (carries.Number width) v a e law = absurd a
stands Many carries.Register v a e law = absurd a
stands Many carries.SlotNumber v a e law = absurd a
stands Many carries.Offset v a e law = absurd a
stands Many carries.PhiId v a e law = absurd a
stands Many carries.Site v a e law = absurd a
stands Many carries.Exit v a e law = absurd a
stands Many carries.OneSuccessor v a e law = absurd a
stands Many carries.TwoSuccessors v a e law = absurd a
stands Nothing carries.Nothing v a e law = plain_stands carries.Nothing v tt e refl law
stands Nothing (carries.Number width) v a e law = plain_stands (carries.Number width) v tt e refl law
stands Nothing carries.Register v a e law = plain_stands carries.Register v tt e refl law
stands Nothing carries.SlotNumber v a e law = plain_stands carries.SlotNumber v tt e refl law
stands Nothing carries.Offset v a e law = plain_stands carries.Offset v tt e refl law
stands Nothing carries.PhiId v a e law = plain_stands carries.PhiId v tt e refl law
stands Nothing carries.Site v a e law = plain_stands carries.Site v tt e refl law
stands Nothing carries.Exit v a e law = plain_stands carries.Exit v tt e refl law
stands Nothing carries.OneSuccessor v a e law = absurd a
stands Nothing carries.TwoSuccessors v a e law = absurd a
stands Nothing carries.CaseSuccessors v a e law = absurd a
stands Bare carries.Nothing v a e law = plain_stands carries.Nothing v tt e refl law
stands Bare (carries.Number width) v a e law = plain_stands (carries.Number width) v tt e refl law
stands Bare carries.Register v a e law = plain_stands carries.Register v tt e refl law
stands Bare carries.SlotNumber v a e law = plain_stands carries.SlotNumber v tt e refl law
stands Bare carries.Offset v a e law = plain_stands carries.Offset v tt e refl law
stands Bare carries.PhiId v a e law = plain_stands carries.PhiId v tt e refl law
stands Bare carries.Site v a e law = plain_stands carries.Site v tt e refl law
stands Bare carries.Exit v a e law = plain_stands carries.Exit v tt e refl law
stands Bare carries.OneSuccessor v a e law = absurd a
stands Bare carries.TwoSuccessors v a e law = absurd a
stands Bare carries.CaseSuccessors v a e law = absurd a

row_stands : (row : Row) → IsInRange row → MayStand row
row_stands (rows.Header name) h = h
row_stands (rows.ValueRow v) h = stands (following v.kind.opcode) (row_of v.kind.opcode).carries v (agree v.kind.opcode) refl (λ targets n. later_fits v targets h n)
row_stands row h = tt

-- what a line says may stand in a module
pub all_stand : (line : List ℕ) → MayStand (row_of_line line)
all_stand line = row_stands (row_of_line line) (row_range line)
