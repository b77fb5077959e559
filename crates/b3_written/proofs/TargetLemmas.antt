-- The successors of cases are read again.
use Rattle.std.proofs.Common.{◌≡◌, ℕ, ◌<◌, ◌^◌, true, List, [], ◌∷◌, ◌++◌, Some, refl, sym, ◌∙◌, ap, append_assoc}
use Rattle.std.specs.Prelude.{codes}
use Rattle.std.specs.Fmt.{decimal}
use Rattle.std.specs.List.{AllByRecursion, list_all}
use Rattle.b3_lines.specs.Tokens.{is_blank, is_mark, onto_text, tokens, without_blanks_after}
use Rattle.b3_items.specs.Items.{is_mark_of, onto_front}
use Rattle.b3_rows.specs.declared.row.Row.TheVariants.{Many}
use Rattle.b3_rows.specs.Rows.{carries_nothing, is_slots_line, many_of, one_of, row_in, row_of_line, successors_of, two_of}
use Rattle.b3_rows.specs.Written.{joined, line_of_row, target_texts}
use Rattle.b3_written.proofs.RoundLemmas.{alone_piece, alone_quiet, decimal_quiet, ink_end, one_token, plain_again, quiet, quiet_row, token_alone}

abbrev pub AreTargets : List ℕ → Type 0
AreTargets ts = AllByRecursion (λ n. n < 2 ^ 31) ts

-- the tokens of targets
abbrev target_tokens : List ℕ → List (List ℕ)
target_tokens [] = []
target_tokens (n ∷ []) = (codes "fallThrough:#" ++ decimal n) ∷ []
target_tokens (n ∷ m ∷ more) = (codes "#" ++ decimal n) ∷ codes "," ∷ target_tokens (m ∷ more)

tokens_of_targets : (n : ℕ) (ts : List ℕ) → AreTargets (n ∷ ts) → tokens (joined (target_texts (n ∷ ts))) ≡ target_tokens (n ∷ ts)
unfolding tokens is_blank is_mark
tokens_of_targets n [] h = token_alone 102 (codes "allThrough:#" ++ decimal n) refl (alone_piece n h.0)
tokens_of_targets n (m ∷ []) h =
    one_token 35 (decimal n) (codes ", " ++ joined (target_texts (m ∷ []))) refl (alone_piece n h.0) refl
    ∙ ap (λ (ts : List (List ℕ)). (codes "#" ++ decimal n) ∷ codes "," ∷ ts) (tokens_of_targets m [] h.1)
tokens_of_targets n (m ∷ k ∷ more) h =
    one_token 35 (decimal n) (codes ", " ++ joined (target_texts (m ∷ k ∷ more))) refl (alone_piece n h.0) refl
    ∙ ap (λ (ts : List (List ℕ)). (codes "#" ++ decimal n) ∷ codes "," ∷ ts) (tokens_of_targets m (k ∷ more) h.1)

many_again_on : (n : ℕ) (ts : List ℕ) → AreTargets (n ∷ ts) → many_of (target_tokens (n ∷ ts)) ≡ Some (n ∷ ts)
unfolding many_of is_mark_of
many_again_on n [] h = rw (plain_again n h.0) refl
many_again_on n (m ∷ []) h = rw (plain_again n h.0, plain_again m h.1.0) refl
many_again_on n (m ∷ k ∷ more) h =
    let rest = many_again_on m (k ∷ more) h.1 in
    rw (plain_again n h.0) (ap (onto_front (n ∷ [])) rest)

many_in : (n : ℕ) (ts : List ℕ) → AreTargets (n ∷ ts) → successors_of (target_tokens (n ∷ ts)) ≡ Many (n ∷ ts)
unfolding successors_of one_of two_of is_mark_of
many_in n [] h = rw (many_again_on n [] h) refl
many_in n (m ∷ []) h = rw (many_again_on n (m ∷ []) h) refl
many_in n (m ∷ k ∷ []) h = rw (many_again_on n (m ∷ k ∷ []) h) refl
many_in n (m ∷ k ∷ j ∷ more) h = rw (many_again_on n (m ∷ k ∷ j ∷ more) h) refl

pub quiet_targets : (n : ℕ) (ts : List ℕ) → AreTargets (n ∷ ts) → list_all quiet (joined (target_texts (n ∷ ts))) ≡ true
unfolding quiet
quiet_targets n [] h = alone_quiet n h.0
quiet_targets n (m ∷ []) h = decimal_quiet n (codes ", " ++ joined (target_texts (m ∷ []))) h.0 (quiet_targets m [] h.1)
quiet_targets n (m ∷ k ∷ more) h = decimal_quiet n (codes ", " ++ joined (target_texts (m ∷ k ∷ more))) h.0 (quiet_targets m (k ∷ more) h.1)

-- a text before one that has a byte and no blank at its end
ink_before : (xs : List ℕ) (y : ℕ) (ys : List ℕ) → without_blanks_after (y ∷ ys) ≡ y ∷ ys → without_blanks_after (xs ++ (y ∷ ys)) ≡ xs ++ (y ∷ ys)
unfolding without_blanks_after
ink_before [] y ys h = h
ink_before (x ∷ []) y ys h = ap (onto_text x) h
ink_before (x ∷ x2 ∷ xs) y ys h = ap (onto_text x) (ink_before (x2 ∷ xs) y ys h)

-- targets begin with a byte
first_byte : (n : ℕ) (ts : List ℕ) → (y : ℕ) × (ys : List ℕ) × (joined (target_texts (n ∷ ts)) ≡ y ∷ ys)
first_byte n [] = (102, codes "allThrough:#" ++ decimal n, refl)
first_byte n (m ∷ []) = (35, decimal n ++ (codes ", " ++ joined (target_texts (m ∷ []))), refl)
first_byte n (m ∷ k ∷ more) = (35, decimal n ++ (codes ", " ++ joined (target_texts (m ∷ k ∷ more))), refl)

ink_behind : (xs text : List ℕ) → (y : ℕ) × (ys : List ℕ) × (text ≡ y ∷ ys) → without_blanks_after text ≡ text → without_blanks_after (xs ++ text) ≡
    xs ++ text
ink_behind xs text some h =
    let inked : without_blanks_after (some.0 ∷ some.1) ≡ some.0 ∷ some.1 = ap without_blanks_after (sym some.2) ∙ h ∙ some.2 in
    ap (λ (t : List ℕ). without_blanks_after (xs ++ t)) some.2 ∙ ink_before xs some.0 some.1 inked ∙ ap (λ (t : List ℕ). xs ++ t) (sym some.2)

two_fronts : (n : ℕ) (rest : List ℕ) → (codes "#" ++ (decimal n ++ codes ", ")) ++ rest ≡ codes "#" ++ (decimal n ++ (codes ", " ++ rest))
two_fronts n rest = ap (λ (t : List ℕ). codes "#" ++ t) (append_assoc (decimal n) (codes ", ") rest)

ink_targets : (n : ℕ) (ts : List ℕ) → AreTargets (n ∷ ts) → without_blanks_after (joined (target_texts (n ∷ ts))) ≡ joined (target_texts (n ∷ ts))
unfolding is_blank is_mark
ink_targets n [] h = ink_end (codes "fallThrough:") 35 (decimal n) (alone_piece n h.0)
ink_targets n (m ∷ []) h =
    ap without_blanks_after (sym (two_fronts n (joined (target_texts (m ∷ [])))))
    ∙ ink_behind (codes "#" ++ (decimal n ++ codes ", ")) (joined (target_texts (m ∷ []))) (first_byte m []) (ink_targets m [] h.1)
    ∙ two_fronts n (joined (target_texts (m ∷ [])))
ink_targets n (m ∷ k ∷ more) h =
    ap without_blanks_after (sym (two_fronts n (joined (target_texts (m ∷ k ∷ more)))))
    ∙ ink_behind (codes "#" ++ (decimal n ++ codes ", ")) (joined (target_texts (m ∷ k ∷ more))) (first_byte m (k ∷ more)) (ink_targets m (k ∷ more) h.1)
    ∙ two_fronts n (joined (target_texts (m ∷ k ∷ more)))

row_targets : (text : List ℕ) (n : ℕ) (ts : List ℕ) → AreTargets (n ∷ ts) → row_in text (codes "Successors:" ∷ target_tokens (n ∷ ts)) ≡ Many (n ∷ ts)
unfolding row_in carries_nothing is_slots_line
row_targets text n [] h = many_in n [] h
row_targets text n (m ∷ []) h = many_in n (m ∷ []) h
row_targets text n (m ∷ k ∷ more) h = many_in n (m ∷ k ∷ more) h

line_tokens : (n : ℕ) (ts : List ℕ) → AreTargets (n ∷ ts) → tokens (line_of_row (Many (n ∷ ts))) ≡ codes "Successors:" ∷ target_tokens (n ∷ ts)
unfolding tokens is_blank is_mark
line_tokens n ts h = ap (λ (us : List (List ℕ)). codes "Successors:" ∷ us) (tokens_of_targets n ts h)

pub many_again : (n : ℕ) (ts : List ℕ) → AreTargets (n ∷ ts) → row_of_line (line_of_row (Many (n ∷ ts))) ≡ Many (n ∷ ts)
unfolding quiet
many_again n ts h =
    quiet_row (line_of_row (Many (n ∷ ts))) (quiet_targets n ts h) (ink_behind (codes "  Successors: ") (joined (target_texts (n ∷ ts))) (first_byte
    n ts) (ink_targets n ts h))
    ∙ ap (row_in (line_of_row (Many (n ∷ ts)))) (line_tokens n ts h) ∙ row_targets (line_of_row (Many (n ∷ ts))) n ts h
