-- What is read of a trial, and its one bad line.
use Rattle.std.proofs.Common.{◌≡◌, ℕ, zero, suc, ◌+◌, ◌-◌, ◌<◌, ◌≤◌, Bool, true, false, List, [], ◌∷◌, ◌++◌, length, take, drop, inl, inr, Option, Some, None, Result, Ok, Err, refl, sym, ap, subst, ◌∙◌, append_assoc, arith}
use Rattle.std.specs.Prelude.{◌==◌, ◌&&◌, if◌then◌else◌, codes, option_map, IfOk, IfErr}
use Rattle.std.proofs.lemmas.List.{append-nil, length-append, take-append-drop}
use Rattle.std.proofs.Math.Seq.{take-append_seam}
use Rattle.std.proofs.lemmas.Bool.{cases_lt}
use Rattle.b3_lines.specs.Lines.{are_ascii, before_comment, begins_lf, ends_in_cr, lines_of, onto_line}
use Rattle.b3_lines.specs.Tokens.{is_blank, is_mark, tokens, without_blanks_after}
use Rattle.b3_items.specs.Items.{is_mark_of}
use Rattle.b3_items.specs.Numbers.{plain_of}
use Rattle.b3_rows.specs.Rows.{before_colon, carries_nothing, header_of, heading_of, is_clean, is_name_text, is_slots_line, other_row, plain_between, row_in, row_of_line, row_of_text, slot_of_line, words_row}
use Rattle.b3_trial.specs.declared.line.Line.TheVariants.{Procedure}
use Rattle.b3_trial.specs.declared.fault.TrialFault.{TrialFault}
use Rattle.b3_trial.specs.declared.fault.TrialFault.TheVariants.{Bad, NoMemory}
use Rattle.b3_trial.specs.declared.reading.Trial.{Trial as GivenTrial}
use Rattle.b3_trial.specs.Lines.{line_of}
use Rattle.b3_trial.specs.Told.{Gives, IfBad}
use Rattle.b3_trial.specs.Trials.{BadLine, BeginsTrial, IsBadLine, SoFar, Spells, Trial, added_to, ended, first, led, spelled, trial_in, trial_of}

-- ---- in parts

led_none : (text : List (List ℕ)) → led None text ≡ None
led_none [] = refl
led_none (line ∷ text) = led_none text

led_append : (s : Option SoFar) (a b : List (List ℕ)) → led s (a ++ b) ≡ led (led s a) b
led_append s [] b = refl
led_append s (line ∷ a) b = led_append (added_to s (line_of line)) a b

-- the lines are some that are read, and `rest`
pub record HasRead (text : List (List ℕ)) (s : SoFar) (line : ℕ) (rest : List (List ℕ)) : Type 0 where
  pub front : List (List ℕ)
  pub parts : text ≡ front ++ rest
  pub count : line ≡ length front + 1
  pub leads : led (Some first) front ≡ Some s

-- what lines lead to, behind some that are read
behind : (s : SoFar) (front rest : List (List ℕ)) → led (Some first) front ≡ Some s → led (Some first) (front ++ rest) ≡ led (Some s) rest
behind s front rest leads = led_append (Some first) front rest ∙ ap (λ (t : Option SoFar). led t rest) leads

pub reads_more : (text : List (List ℕ)) (s next : SoFar) (line : ℕ) (row : List ℕ) (rest : List (List ℕ)) → HasRead text s line (row ∷ rest)
    → added_to (Some s) (line_of row) ≡ Some next → HasRead text next (line + 1) rest
reads_more text s next line row rest h e = record {
  front = h.front ++ row ∷ [];
  parts = h.parts ∙ sym (append_assoc h.front (row ∷ []) rest);
  count = omega (arith, length-append h.front (row ∷ []), h.count);
  leads = behind s h.front (row ∷ []) h.leads ∙ e;
}

-- ---- an end behind what is read

header_line : line_of (codes "procedure f") ≡ Some (Procedure (codes "f"))
unfolding before_comment are_ascii ends_in_cr tokens is_blank is_mark without_blanks_after plain_of is_mark_of is_name_text header_of before_colon
    plain_between slot_of_line heading_of is_slots_line words_row carries_nothing other_row row_in is_clean row_of_text row_of_line line_of
header_line = refl

with_header : SoFar → SoFar
with_header s = record s { name = Some (codes "f") }

named_now : (s : SoFar) → s.name ≡ None → led (Some s) (codes "procedure f" ∷ []) ≡ Some (with_header s)
unfolding with_header
named_now s e = ap (added_to (Some s)) header_line ∙ rw e refl

named_ends : (s : SoFar) → ended (Some (with_header s)) ≡ Some (trial_in (with_header s) (codes "f"))
unfolding with_header
named_ends s = refl

ends_with : (s : SoFar) (o : Option (List ℕ)) → s.name ≡ o → (more : List (List ℕ)) × (t : Trial) × (ended (led (Some s) more) ≡ Some t)
ends_with s None e = (codes "procedure f" ∷ [], trial_in (with_header s) (codes "f"), ap ended (named_now s e) ∙ named_ends s)
ends_with s (Some name) e = ([], trial_in s name, ap (option_map (trial_in s)) e)

-- lines that are read begin a trial
begins : (s : SoFar) (front : List (List ℕ)) → led (Some first) front ≡ Some s → BeginsTrial front
begins s front leads =
    let more = ends_with s s.name refl in
    (more.0, (more.1, ap ended (behind s front more.0 leads) ∙ more.2))

-- lines that lead to nothing begin none
begins_none : (front : List (List ℕ)) → led (Some first) front ≡ None → BeginsTrial front → ⊥
begins_none front e (more, (t, h)) =
    let nothing : spelled (front ++ more) ≡ None = ap ended (led_append (Some first) front more ∙ ap (λ (s : Option SoFar). led s more) e ∙ led_none more) in
    absurd cc

taken : (text front rest : List (List ℕ)) (n : ℕ) → text ≡ front ++ rest → n ≡ length front → take n text ≡ front
taken text front rest n parts count = ap (λ (k : ℕ). take k text) count ∙ ap (take (length front)) parts ∙ take-append_seam front rest

pub bad_next : (text : List (List ℕ)) (s : SoFar) (line : ℕ) (row : List ℕ) (rest : List (List ℕ)) → HasRead text s line (row ∷ rest)
    → added_to (Some s) (line_of row) ≡ None → IsBadLine text line
bad_next text s line row rest h none =
    let front = h.front ++ row ∷ [] in
    let parts : text ≡ front ++ rest = h.parts ∙ sym (append_assoc h.front (row ∷ []) rest) in
    let size : length front ≡ length h.front + 1 = length-append h.front (row ∷ []) in
    let long : length text ≡ length front + length rest = ap length parts ∙ length-append front rest in
    let count = h.count in
    let nothing : led (Some first) front ≡ None = behind s h.front (row ∷ []) h.leads ∙ none in
    record {
      counted = omega arith;
      before = subst (λ (x : List (List ℕ)). BeginsTrial x) (sym (taken text h.front (row ∷ rest) (line - 1) h.parts (omega arith)))
          (begins s h.front h.leads);
      here = inl (
        omega arith,
        λ b. begins_none front nothing (subst (λ (x : List (List ℕ)). BeginsTrial x) (taken text front rest line parts
            (omega arith)) b),
      );
    }

-- what all lines lead to
whole : (text : List (List ℕ)) (s : SoFar) (line : ℕ) → HasRead text s line [] → spelled text ≡ ended (Some s)
whole text s line h =
    let same : text ≡ h.front = h.parts ∙ append-nil h.front in
    ap spelled same ∙ ap ended h.leads

pub bad_end : (text : List (List ℕ)) (s : SoFar) (line : ℕ) → HasRead text s line [] → ended (Some s) ≡ None → IsBadLine text line
bad_end text s line h none =
    let same : text ≡ h.front = h.parts ∙ append-nil h.front in
    let long : length text ≡ length h.front = ap length same in
    let count = h.count in
    let nothing : spelled text ≡ None = whole text s line h ∙ none in
    record {
      counted = omega arith;
      before = subst (λ (x : List (List ℕ)). BeginsTrial x) (sym (taken text h.front [] (line - 1) h.parts (omega arith))) (begins s h.front h.leads);
      here = inr (omega arith, λ t. let e = t.1 in absurd cc);
    }

-- ---- there are no more lines than bytes

onto_short : (b : ℕ) (lines : List (List ℕ)) → length (onto_line b lines) ≤ length lines + 1
onto_short b [] = omega arith
onto_short b (line ∷ lines) = omega arith

pick : (x y : Bool) (more : List (List ℕ)) (b n : ℕ) → length more ≤ n → length (if x then [] ∷ more else (if y then more else onto_line b more)) ≤ n + 1
pick true y more b n h = omega arith
pick false true more b n h = omega arith
pick false false more b n h = omega (arith, onto_short b more)

pub lines_short : (bytes : List ℕ) → length (lines_of bytes) ≤ length bytes
unfolding lines_of
lines_short [] = omega arith
lines_short (b ∷ bytes) =
    let more = pick (b == 10) ((b == 13) && begins_lf bytes) (lines_of bytes) b (length bytes) (lines_short bytes) in
    omega (arith, more)

-- a line that is left has a small number
pub few_lines : (text : List (List ℕ)) (s : SoFar) (line : ℕ) (row : List ℕ) (rest : List (List ℕ)) → HasRead text s line (row ∷ rest) → line ≤ length text
few_lines text s line row rest h =
    let count = h.count in
    omega (arith, ap length h.parts ∙ length-append h.front (row ∷ rest))

-- ---- one bad line

take_longer : (xs : List (List ℕ)) (a b : ℕ) → a ≤ b → (ys : List (List ℕ)) × (take b xs ≡ take a xs ++ ys)
take_longer [] zero zero h = ([], refl)
take_longer [] zero (suc b) h = ([], refl)
take_longer [] (suc a) zero h = ([], refl)
take_longer [] (suc a) (suc b) h = ([], refl)
take_longer (x ∷ xs) zero b h = (take b (x ∷ xs), refl)
take_longer (x ∷ xs) (suc a) zero h = absurd (omega arith)
take_longer (x ∷ xs) (suc a) (suc b) h =
    let more = take_longer xs a b (omega arith) in
    (more.0, ap (λ (ys : List (List ℕ)). x ∷ ys) more.1)

begins_shorter : (text : List (List ℕ)) (a b : ℕ) → a ≤ b → BeginsTrial (take b text) → BeginsTrial (take a text)
begins_shorter text a b below (rest, (t, e)) =
    let more = take_longer text a b below in
    (more.0 ++ rest, (t, ap spelled (sym (ap (λ (x : List (List ℕ)). x ++ rest) more.1 ∙ append_assoc (take a text) more.0 rest)) ∙ e))

not_later : (text : List (List ℕ)) (k n : ℕ) → IsBadLine text k → IsBadLine text n → k < n → ⊥
not_later text k n p q below =
    elim p.here [
      | inl there ↦ there.1 (begins_shorter text k (n - 1) (omega arith) q.before)
      | inr past ↦ elim q.here [
        | inl there ↦ omega (arith, there.0, past.0)
        | inr end ↦ omega (arith, end.0, past.0)
      ]
    ]

one_bad_line : (text : List (List ℕ)) (k n : ℕ) → IsBadLine text k → IsBadLine text n → k ≡ n
one_bad_line text k n p q =
    elim (cases_lt k n) [
      | inl below ↦ absurd (not_later text k n p q below)
      | inr above ↦ elim (cases_lt n k) [
        | inl below ↦ absurd (not_later text n k q p below)
        | inr same ↦ omega arith
      ]
    ]

trial_is_good : (text : List (List ℕ)) (t : Trial) (line : ℕ) → spelled text ≡ Some t → IsBadLine text line → ⊥
trial_is_good text t line e bad =
    elim bad.here [
      | inl there ↦ there.1 (drop line text, (t, ap spelled (take-append-drop line text) ∙ e))
      | inr past ↦ past.1 (t, e)
    ]

-- ---- what is told

one_trial : (bytes : List ℕ) (t u : Trial) → Spells bytes t → Spells bytes u → t ≡ u
one_trial bytes t u h k = let e = sym h ∙ k in cc

abbrev Found : List ℕ → Result GivenTrial TrialFault → Type 0
Found bytes result = IfOk result (λ made. Spells bytes (trial_of made))

abbrev IsBad : List ℕ → Result GivenTrial TrialFault → Type 0
IsBad bytes result = IfErr result (λ fault. IfBad fault (λ line. BadLine bytes line))

pub spelled_is_read : (bytes : List ℕ) (result : Result GivenTrial TrialFault) → Found bytes result → IsBad bytes result → (t : Trial)
    → Spells bytes t → Gives result (Ok t)
spelled_is_read bytes (Ok made) found bad t h = ap Ok (one_trial bytes t (trial_of made) h found)
spelled_is_read bytes (Err (Bad line)) found bad t h = absurd (trial_is_good (lines_of bytes) t line h bad)
spelled_is_read bytes (Err NoMemory) found bad t h = tt

pub bad_is_told : (bytes : List ℕ) (result : Result GivenTrial TrialFault) → Found bytes result → IsBad bytes result → (line : ℕ)
    → BadLine bytes line → Gives result (Err (Bad line))
bad_is_told bytes (Ok made) found bad line h = absurd (trial_is_good (lines_of bytes) (trial_of made) line found h)
bad_is_told bytes (Err (Bad other)) found bad line h = ap (λ (n : ℕ). Err (Bad n)) (one_bad_line (lines_of bytes) line other h bad)
bad_is_told bytes (Err NoMemory) found bad line h = tt
