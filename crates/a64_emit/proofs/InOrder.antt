-- The cases of a Switch, sorted by their words.
use Rattle.std.proofs.Common.{◌≡◌, ℕ, zero, suc, ◌+◌, ◌^◌, ◌<◌, true, false, List, [], ◌∷◌, ◌++◌, length, get_or, take, refl, sym, ap, ◌∙◌, arith}
use Rattle.std.specs.Prelude.{All, cond, map, nat_eq, slice_get, Some, if◌then◌else◌}
use Rattle.std.specs.List.Sorted.{IsNonDecreasingBy, IsPermutation}
use Rattle.std.proofs.lemmas.Bool.{ne_eqb}
use Rattle.std.proofs.lemmas.Bool.Decides.{nat_tests}
use Rattle.std.proofs.lemmas.Option.{get_or_from_slice_get, slice_get_within}
use Rattle.std.proofs.lemmas.List.{map-append, take_more}
use Rattle.std.proofs.lemmas.List.Sorted.{All-permutation, IsPermutation-map, sum_by-IsPermutation}
use Rattle.b3_base.specs.Arithmetic.{low}
use Rattle.b3_base.specs.Word.{bits}
use Rattle.b3_base.specs.declared.word.Width.{Width}
use Rattle.air_ir.specs.Meaning.{case_number}
use Rattle.a64_emit.specs.Switched.{AreDifferent, AreSmall, case_of, cases_in_order, sorted_words, target_of}
use Rattle.a64_emit.specs.declared.case.Case.{Case}
use Rattle.a64_emit.proofs.Sorting.{Rises, each_map, rises_all, rises_map, same_in_order, sorted_rises, sorted_small, sorted_times, times}
use Rattle.a64_emit.proofs.Trees.{Each, all_each, each_all}

module _ (width : Width) where
  same_low : (case : ℕ) → nat_eq (low width case) (low width case) ≡ true
  same_low case = grind (arith, nat_tests)

  -- a case is the first that is equal to its word
  number_is : (cases : List ℕ) (k d : ℕ) → AreDifferent width cases → k < length cases → case_number width (low width (get_or cases k d)) cases ≡ k
  number_is [] k d differ lt = absurd (omega arith)
  number_is (case ∷ cases) zero d differ lt = ap (λ b. if b then 0 else suc (case_number width (low width case) cases)) (same_low case)
  number_is (case ∷ cases) (suc k) d differ lt =
      let other : nat_eq (low width case) (low width (get_or cases k d)) ≡ false =
      ne_eqb (low width case) (low width (get_or cases k d)) (differ 0 (suc k) d (omega arith) lt) in
      ap (λ b. if b then 0 else suc (case_number width (low width (get_or cases k d)) cases)) other
      ∙ ap suc (number_is cases k d (λ i j e less within. differ (suc i) (suc j) e (omega arith) (omega arith)) (omega arith))

module _ (width : Width) (cases targets : List ℕ) where
  abbrev pub listed : ℕ → Case
  listed case = case_of width cases targets (low width case)

  -- one case more is listed
  pub listed_next : (k case : ℕ) (done more : List Case) → AreDifferent width cases → slice_get cases k ≡ Some case → done ≡ map listed (take k cases)
      → more ≡ done ++ record { word = low width case; target = get_or targets k 0 } ∷ [] → more ≡ map listed (take (k + 1) cases)
  listed_next k case done more differ there so_far pushed =
      let lt = slice_get_within cases k case there in
      let at : get_or cases k case ≡ case = get_or_from_slice_get cases k case case there in
      let number : case_number width (low width case) cases ≡ k =
      ap (λ c. case_number width (low width c) cases) (sym at) ∙ number_is width cases k case differ lt in
      let here : get_or targets k 0 ≡ target_of width cases targets (low width case) = ap (λ n. get_or targets n 0) (sym number) in
      pushed ∙ ap (λ t. done ++ record { word = low width case; target = t } ∷ []) here ∙ ap (λ (xs : List Case). xs ++ listed case ∷ []) so_far
      ∙ sym (map-append listed (take k cases) (case ∷ [])) ∙ ap (λ c. map listed (take k cases ++ c ∷ [])) (sym at)
      ∙ ap (map listed) (sym (take_more cases k case lt))

  own_cases : (words : List ℕ) → All (λ (case : Case). case ≡ case_of width cases targets case.word) (map (λ w. listed w) words)
  own_cases words = λ k d lt. own_at words k d lt
    where
      own_at : (words : List ℕ) (k : ℕ) (d : Case) → k < length (map (λ w. listed w) words)
          → get_or (map (λ w. listed w) words) k d ≡ case_of width cases targets (get_or (map (λ w. listed w) words) k d).word
      own_at [] k d lt = absurd (omega arith)
      own_at (w ∷ words) zero d lt = refl
      own_at (w ∷ words) (suc k) d lt = own_at words k d (omega arith)

  listed_words : (cs : List ℕ) → map (λ (case : Case). case.word) (map listed cs) ≡ map (low width) cs
  listed_words [] = refl
  listed_words (c ∷ cs) = ap (λ (ws : List ℕ). low width c ∷ ws) (listed_words cs)

  by_words : (cs : List Case) → Each (λ (case : Case). case ≡ case_of width cases targets case.word) cs
      → cs ≡ map (case_of width cases targets) (map (λ (case : Case). case.word) cs)
  by_words [] own = refl
  by_words (c ∷ cs) own =
      ap (λ (x : Case). x ∷ cs) own.0 ∙ ap (λ (xs : List Case). case_of width cases targets c.word ∷ xs) (by_words cs own.1)

  -- the cases, sorted by their words
  pub sorted_is : (ordered : List Case) → IsPermutation (map listed cases) ordered → IsNonDecreasingBy (λ (case : Case). case.word) ordered
      → ordered ≡ cases_in_order width cases targets
  sorted_is ordered moved up =
      let words : List ℕ = map (λ (case : Case). case.word) ordered in
      let same : (w : ℕ) → times w words ≡ times w (sorted_words width cases) =
      λ w. sum_by-IsPermutation (λ other. cond (nat_eq other w) 1 0) (map (λ (case : Case). case.word) (map listed cases)) words
      (IsPermutation-map (λ (case : Case). case.word) (map listed cases) ordered moved)
      ∙ ap (times w) (listed_words cases) ∙ sym (sorted_times width w cases) in
      let rises : Rises (λ n. n) words = rises_map (λ (case : Case). case.word) ordered (rises_all (λ (case : Case). case.word) ordered up) in
      let own : Each (λ (case : Case). case ≡ case_of width cases targets case.word) ordered =
      each_all (λ (case : Case). case ≡ case_of width cases targets case.word) ordered
      (All-permutation (λ (case : Case). case ≡ case_of width cases targets case.word) (map listed cases) ordered moved (own_cases cases)) in
      by_words ordered own
      ∙ ap (map (case_of width cases targets)) (same_in_order words (sorted_words width cases) rises (sorted_rises width cases) same)

  -- their words are of the width
  pub cases_small : AreSmall width (cases_in_order width cases targets)
  cases_small =
      all_each (λ (case : Case). case.word < 2 ^ bits width) (cases_in_order width cases targets)
      (each_map (λ (case : Case). case.word < 2 ^ bits width) (case_of width cases targets) (sorted_words width cases) (sorted_small width cases))
