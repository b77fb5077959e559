-- What is read of a text, and its one bad line.
use Rattle.std.proofs.Common.{◌≡◌, ℕ, zero, suc, ◌+◌, ◌-◌, ◌<◌, ◌≤◌, List, [], ◌∷◌, ◌++◌, length, take, drop, inl, inr, true, false, Option, Some, None, refl, sym, ap, subst, ◌∙◌, append_assoc, arith}
use Rattle.std.specs.Prelude.{map}
use Rattle.std.proofs.lemmas.List.{append-nil, length-append, length-map, take-append-drop}
use Rattle.std.proofs.Math.Seq.{take-append_seam}
use Rattle.std.proofs.lemmas.Bool.{cases_lt}
use Rattle.b3_ir.specs.Procedure.{Procedure}
use Rattle.b3_rows.specs.Rows.{row_of_line}
use Rattle.b3_module.specs.declared.place.Place.{Place}
use Rattle.b3_module.specs.declared.place.Place.TheVariants as places
use Rattle.b3_module.specs.Reading.{may_end}
use Rattle.b3_module.specs.Texts.{State, added, at, BeginsText, ended, first, IsBadLine, led, spelled}
use Rattle.b3_module.proofs.Leading.{ends, led_append, led_none}
use Rattle.b3_module.proofs.EndingLines.{ending_lines}

-- the lines are some that are read, and `rest`
pub record HasRead (lines : List (List ℕ)) (s : State) (line : ℕ) (rest : List (List ℕ)) : Type 0 where
  pub front : List (List ℕ)
  pub parts : lines ≡ front ++ rest
  pub count : line ≡ length front + 1
  pub leads : led (Some first) 1 (map row_of_line front) ≡ Some s

pub map_append : {A B : Type 0} (f : A → B) (a b : List A) → map f (a ++ b) ≡ map f a ++ map f b
map_append f [] b = refl
map_append f (x ∷ a) b = ap (λ xs. f x ∷ xs) (map_append f a b)

pub has_begun : (lines : List (List ℕ)) → HasRead lines first 1 lines
has_begun lines = record { front = []; parts = refl; count = omega arith; leads = refl }

-- what lines lead to, behind some that are read
behind : (s : State) (line : ℕ) (front rest : List (List ℕ)) → line ≡ length front + 1 → led (Some first) 1 (map row_of_line front) ≡ Some s → led (Some first) 1 (map row_of_line (front ++ rest)) ≡ led (Some s) line (map row_of_line rest)
behind s line front rest count leads =
    let n : line ≡ 1 + length (map row_of_line front) = omega (arith, length-map front row_of_line) in
    ap (led (Some first) 1) (map_append row_of_line front rest)
    ∙ led_append (Some first) 1 line (map row_of_line front) (map row_of_line rest) n
    ∙ ap (λ (t : Option State). led t line (map row_of_line rest)) leads

pub reads_more : (lines : List (List ℕ)) (s next : State) (line : ℕ) (row : List ℕ) (rest : List (List ℕ)) → HasRead lines s line (row ∷ rest) → added s line (row_of_line row) ≡ Some next → HasRead lines next (line + 1) rest
reads_more lines s next line row rest h e = record {
  front = h.front ++ row ∷ [];
  parts = h.parts ∙ sym (append_assoc h.front (row ∷ []) rest);
  count = omega (arith, length-append h.front (row ∷ []), h.count);
  leads = behind s line h.front (row ∷ []) h.count h.leads ∙ e;
}

-- lines that are read begin a text
begins : (s : State) (line : ℕ) (front : List (List ℕ)) → line ≡ length front + 1 → led (Some first) 1 (map row_of_line front) ≡ Some s → BeginsText front
begins s line front count leads =
    let more = ending_lines s.place in
    let end = ends s.place s.procedures line in
    (more.0, (end.0, ap ended (behind s line front more.0 count leads ∙ ap (led (Some s) line) more.1) ∙ end.1))

-- lines that lead to nothing begin none
begins_none : (front : List (List ℕ)) → led (Some first) 1 (map row_of_line front) ≡ None → BeginsText front → ⊥
begins_none front e (more, (m, h)) =
    let joined = ap (led (Some first) 1) (map_append row_of_line front more) ∙ led_append (Some first) 1 (1 + length (map row_of_line front)) (map row_of_line front) (map row_of_line more) refl in
    let nothing : spelled (map row_of_line (front ++ more)) ≡ None = ap ended (joined ∙ ap (λ (t : Option State). led t (1 + length (map row_of_line front)) (map row_of_line more)) e ∙ led_none (1 + length (map row_of_line front)) (map row_of_line more)) in
    absurd cc

taken : (lines front rest : List (List ℕ)) (n : ℕ) → lines ≡ front ++ rest → n ≡ length front → take n lines ≡ front
taken lines front rest n parts count = ap (λ (k : ℕ). take k lines) count ∙ ap (take (length front)) parts ∙ take-append_seam front rest

pub bad_next : (lines : List (List ℕ)) (s : State) (line : ℕ) (row : List ℕ) (rest : List (List ℕ)) → HasRead lines s line (row ∷ rest) → added s line (row_of_line row) ≡ None → IsBadLine lines line
bad_next lines s line row rest h none =
    let front = h.front ++ row ∷ [] in
    let parts : lines ≡ front ++ rest = h.parts ∙ sym (append_assoc h.front (row ∷ []) rest) in
    let size : length front ≡ length h.front + 1 = length-append h.front (row ∷ []) in
    let long : length lines ≡ length front + length rest = ap length parts ∙ length-append front rest in
    let count = h.count in
    let nothing : led (Some first) 1 (map row_of_line front) ≡ None = behind s line h.front (row ∷ []) h.count h.leads ∙ none in
    record {
      counted = omega arith;
      before = subst (λ (x : List (List ℕ)). BeginsText x) (sym (taken lines h.front (row ∷ rest) (line - 1) h.parts (omega arith))) (begins s line h.front h.count h.leads);
      here = inl (omega arith, λ b. begins_none front nothing (subst (λ (x : List (List ℕ)). BeginsText x) (taken lines front rest line parts (omega arith)) b));
    }

-- what all lines lead to
whole : (lines : List (List ℕ)) (s : State) (line : ℕ) → HasRead lines s line [] → spelled (map row_of_line lines) ≡ ended (Some s)
whole lines s line h =
    let same : lines ≡ h.front = h.parts ∙ append-nil h.front in
    ap (λ (x : List (List ℕ)). spelled (map row_of_line x)) same ∙ ap ended h.leads

pub bad_end : (lines : List (List ℕ)) (s : State) (line : ℕ) → HasRead lines s line [] → ended (Some s) ≡ None → IsBadLine lines line
bad_end lines s line h none =
    let same : lines ≡ h.front = h.parts ∙ append-nil h.front in
    let long : length lines ≡ length h.front = ap length same in
    let count = h.count in
    let nothing : spelled (map row_of_line lines) ≡ None = whole lines s line h ∙ none in
    record {
      counted = omega arith;
      before = subst (λ (x : List (List ℕ)). BeginsText x) (sym (taken lines h.front [] (line - 1) h.parts (omega arith))) (begins s line h.front h.count h.leads);
      here = inr (omega arith, λ t. let e = t.1 in absurd cc);
    }

pub read_whole : (lines : List (List ℕ)) (s : State) (line : ℕ) (m : List Procedure) → HasRead lines s line [] → ended (Some s) ≡ Some m → spelled (map row_of_line lines) ≡ Some m
read_whole lines s line m h e = whole lines s line h ∙ e

-- ---- one bad line

take_longer : (xs : List (List ℕ)) (a b : ℕ) → a ≤ b → (ys : List (List ℕ)) × (take b xs ≡ take a xs ++ ys)
take_longer [] zero zero h = ([], refl)
take_longer [] zero (suc b) h = ([], refl)
take_longer [] (suc a) zero h = ([], refl)
take_longer [] (suc a) (suc b) h = ([], refl)
take_longer (x ∷ xs) zero b h = (take b (x ∷ xs), refl)
take_longer (x ∷ xs) (suc a) zero h = absurd (omega arith)
take_longer (x ∷ xs) (suc a) (suc b) h =
    let more = take_longer xs a b (omega arith) in
    (more.0, ap (λ (ys : List (List ℕ)). x ∷ ys) more.1)

begins_shorter : (lines : List (List ℕ)) (a b : ℕ) → a ≤ b → BeginsText (take b lines) → BeginsText (take a lines)
begins_shorter lines a b below (rest, (m, e)) =
    let more = take_longer lines a b below in
    (more.0 ++ rest, (m, ap (λ (x : List (List ℕ)). spelled (map row_of_line x)) (sym (ap (λ (x : List (List ℕ)). x ++ rest) more.1 ∙ append_assoc (take a lines) more.0 rest)) ∙ e))

not_later : (lines : List (List ℕ)) (k n : ℕ) → IsBadLine lines k → IsBadLine lines n → k < n → ⊥
not_later lines k n p q below =
    elim p.here [
      | inl there ↦ there.1 (begins_shorter lines k (n - 1) (omega arith) q.before)
      | inr past ↦ elim q.here [
        | inl there ↦ omega (arith, there.0, past.0)
        | inr end ↦ omega (arith, end.0, past.0)
      ]
    ]

pub one_bad_line : (lines : List (List ℕ)) (k n : ℕ) → IsBadLine lines k → IsBadLine lines n → k ≡ n
one_bad_line lines k n p q =
    elim (cases_lt k n) [
      | inl below ↦ absurd (not_later lines k n p q below)
      | inr above ↦ elim (cases_lt n k) [
        | inl below ↦ absurd (not_later lines n k q p below)
        | inr same ↦ omega arith
      ]
    ]

pub text_is_good : (lines : List (List ℕ)) (m : List Procedure) (line : ℕ) → spelled (map row_of_line lines) ≡ Some m → IsBadLine lines line → ⊥
text_is_good lines m line e bad =
    elim bad.here [
      | inl there ↦ there.1 (drop line lines, (m, ap (λ (x : List (List ℕ)). spelled (map row_of_line x)) (take-append-drop line lines) ∙ e))
      | inr past ↦ past.1 (m, e)
    ]

-- ---- at the loop of the reader

-- a line that is left has a small number
pub few_lines : (lines : List (List ℕ)) (s : State) (line : ℕ) (row : List ℕ) (rest : List (List ℕ)) → HasRead lines s line (row ∷ rest) → line ≤ length lines
few_lines lines s line row rest h =
    let count = h.count in
    omega (arith, ap length h.parts ∙ length-append h.front (row ∷ rest))

pub not_ended : (place : Place) (ps : List Procedure) → may_end place ≡ false → ended (Some (at place ps)) ≡ None
not_ended places.Values ps h = absurd cc
not_ended places.Returned ps h = absurd cc
not_ended places.Outside ps h = refl
not_ended places.Slots ps h = refl
not_ended (places.Jump v) ps h = refl
not_ended (places.Branch v) ps h = refl
not_ended (places.Switch v) ps h = refl

pub does_end : (place : Place) (ps : List Procedure) → may_end place ≡ true → ended (Some (at place ps)) ≡ Some ps
does_end places.Values ps h = refl
does_end places.Returned ps h = refl
does_end places.Outside ps h = absurd cc
does_end places.Slots ps h = absurd cc
does_end (places.Jump v) ps h = absurd cc
does_end (places.Branch v) ps h = absurd cc
does_end (places.Switch v) ps h = absurd cc
