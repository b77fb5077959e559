-- The words of cases in order, and where a search among them leads.
use Rattle.std.proofs.Common.{◌≡◌, ℕ, suc, ◌+◌, ◌^◌, ◌<◌, ◌≤◌, ◌⊎◌, inl, inr, true, false, ⊎_elim, List, [], ◌∷◌, ◌++◌, length, get_or, refl, sym, ap, ◌∙◌, subst, arith}
use Rattle.std.specs.Prelude.{cond, map, nat_eq, nat_le, nat_lt, if◌then◌else◌}
use Rattle.std.specs.List.{count_by}
use Rattle.std.specs.List.Sorted.{IsNonDecreasingBy}
use Rattle.std.proofs.lemmas.Bool.{cases_lt, ne_eqb}
use Rattle.std.proofs.lemmas.Bool.Decides.{nat_tests}
use Rattle.std.proofs.lemmas.List.{length-map}
use Rattle.std.proofs.lemmas.List.Sums.{sum_by-cons}
use Rattle.b3_base.proofs.Widths.{low-lt}
use Rattle.b3_base.specs.Arithmetic.{low}
use Rattle.b3_base.specs.Word.{bits}
use Rattle.b3_base.specs.declared.word.Width.{Width}
use Rattle.air_ir.specs.Meaning.{case_number}
use Rattle.a64_emit.specs.Switched.{case_of, cases_in_order, insert_word, sorted_words, switch_labels, target_of}
use Rattle.a64_emit.specs.Trees.{Leaf, Node, Tree, node_count, tree}
use Rattle.a64_emit.specs.declared.case.Case.{Case}
use Rattle.a64_emit.proofs.Trees.{Each, each_all, each_left, each_right, each_weaker, in_order, nodes_alike, tree_order}

-- ---- lists in order

-- items whose numbers don't fall
abbrev pub Rises : {X : Type 0} → (X → ℕ) → List X → Type 0
Rises number [] = Unit {0}
Rises number (x ∷ xs) = Each (λ y. number x ≤ number y) xs × Rises number xs

module _ {X : Type 0} (number : X → ℕ) where
  pub rises_left : (xs ys : List X) → Rises number (xs ++ ys) → Rises number xs
  rises_left [] ys rises = tt
  rises_left (x ∷ xs) ys rises = (each_left (λ y. number x ≤ number y) xs ys rises.0, rises_left xs ys rises.1)

  pub rises_right : (xs ys : List X) → Rises number (xs ++ ys) → Rises number ys
  rises_right [] ys rises = rises
  rises_right (x ∷ xs) ys rises = rises_right xs ys rises.1

  -- what stands before an item isn't above it
  pub rises_before : (xs : List X) (y : X) (ys : List X) → Rises number (xs ++ y ∷ ys) → Each (λ x. number x ≤ number y) xs
  rises_before [] y ys rises = tt
  rises_before (x ∷ xs) y ys rises =
      ((each_right (λ z. number x ≤ number z) xs (y ∷ ys) rises.0).0, rises_before xs y ys rises.1)

  pub rises_all : (xs : List X) → IsNonDecreasingBy number xs → Rises number xs
  rises_all [] up = tt
  rises_all (x ∷ xs) up = (
    each_all (λ y. number x ≤ number y) xs (λ k d lt. up 0 (suc k) d (omega arith) (omega arith)),
    rises_all xs (λ i j d le lt. up (suc i) (suc j) d (omega arith) (omega arith)),
  )

pub each_map : {X Y : Type 0} (P : Y → Type 0) (f : X → Y) (xs : List X) → Each (λ x. P (f x)) xs → Each P (map f xs)
each_map P f [] each = tt
each_map P f (x ∷ xs) each = (each.0, each_map P f xs each.1)

pub map_each : {X Y : Type 0} (P : Y → Type 0) (f : X → Y) (xs : List X) → Each P (map f xs) → Each (λ x. P (f x)) xs
map_each P f [] each = tt
map_each P f (x ∷ xs) each = (each.0, map_each P f xs each.1)

-- the numbers of items that don't fall, and items of numbers that don't
pub rises_map : {X : Type 0} (number : X → ℕ) (xs : List X) → Rises number xs → Rises (λ n. n) (map number xs)
rises_map number [] rises = tt
rises_map number (x ∷ xs) rises = (each_map (λ n. number x ≤ n) number xs rises.0, rises_map number xs rises.1)

pub map_rises : {X : Type 0} (number : X → ℕ) (f : ℕ → X) (ns : List ℕ) → ((n : ℕ) → number (f n) ≡ n) → Rises (λ n. n) ns → Rises number (map f ns)
map_rises number f [] same rises = tt
map_rises number f (n ∷ ns) same rises = (
  each_map (λ x. number (f n) ≤ number x) f ns
      (each_weaker (λ m. n ≤ m) (λ m. number (f n) ≤ number (f m)) (λ m le. let a = same n in let b = same m in omega arith) ns rises.0),
  map_rises number f ns same rises.1,
)

-- ---- lists with the same words

abbrev pub times : ℕ → List ℕ → ℕ
times word words = count_by (λ other. nat_eq other word) words

same_word : (word : ℕ) → nat_eq word word ≡ true
same_word word = grind (arith, nat_tests)

once_more : (word : ℕ) (words : List ℕ) → times word (word ∷ words) ≡ 1 + times word words
once_more word words =
    sum_by-cons (λ other. cond (nat_eq other word) 1 0) word words
    ∙ ap (λ b. cond b 1 0 + times word words) (same_word word)

none_above : (word : ℕ) (words : List ℕ) → Each (λ other. word < other) words → times word words ≡ 0
none_above word [] above = refl
none_above word (first ∷ rest) above =
    let more = none_above word rest above.1 in
    let differ : nat_eq first word ≡ false = ne_eqb first word (λ e. omega (arith, above.0)) in
    sum_by-cons (λ other. cond (nat_eq other word) 1 0) first rest ∙ ap (λ b. cond b 1 0 + times word rest) differ ∙ omega arith

above_first : (word first : ℕ) (rest : List ℕ) → word < first → Each (λ other. first ≤ other) rest → Each (λ other. word < other) (first ∷ rest)
above_first word first rest lt each =
    (lt, each_weaker (λ other. first ≤ other) (λ other. word < other) (λ other le. omega arith) rest each)

rest_times : (word x : ℕ) (xs ys : List ℕ) → times word (x ∷ xs) ≡ times word (x ∷ ys) → times word xs ≡ times word ys
rest_times word x xs ys same =
    let first = sum_by-cons (λ other. cond (nat_eq other word) 1 0) x xs in
    let second = sum_by-cons (λ other. cond (nat_eq other word) 1 0) x ys in
    omega arith

-- two lists in order are equal where they have the same words as often
pub same_in_order : (xs ys : List ℕ) → Rises (λ word. word) xs → Rises (λ word. word) ys → ((word : ℕ) → times word xs ≡ times word ys) → xs ≡ ys
same_in_order [] [] rises_x rises_y same = refl
same_in_order [] (y ∷ ys) rises_x rises_y same = let here = same y in let more = once_more y ys in absurd (omega arith)
same_in_order (x ∷ xs) [] rises_x rises_y same = let here = same x in let more = once_more x xs in absurd (omega arith)
same_in_order (x ∷ xs) (y ∷ ys) rises_x rises_y same =
    ⊎_elim
    (λ lt.
    let here = same x in
    let more = once_more x xs in
    let none = none_above x (y ∷ ys) (above_first x y ys lt rises_y.0) in
    absurd (omega arith))
    (λ ge. ⊎_elim
    (λ lt.
    let here = same y in
    let more = once_more y ys in
    let none = none_above y (x ∷ xs) (above_first y x xs lt rises_x.0) in
    absurd (omega arith))
    (λ le.
    let one : y ≡ x = omega arith in
    let rest : (word : ℕ) → times word xs ≡ times word ys =
    λ word. rest_times word x xs ys (same word ∙ ap (λ z. times word (z ∷ ys)) one) in
    ap (λ (zs : List ℕ). x ∷ zs) (same_in_order xs ys rises_x.1 rises_y.1 rest) ∙ ap (λ z. z ∷ ys) (sym one))
    (cases_lt y x))
    (cases_lt x y)

-- ---- the words of cases

module _ (P : ℕ → Type 0) where
  pub each_inserted : (word : ℕ) (words : List ℕ) → P word → Each P words → Each P (insert_word word words)
  unfolding insert_word
  each_inserted word [] here each = (here, tt)
  each_inserted word (first ∷ rest) here each =
      elim (nat_le word first) as (λ b. Each P (if b then word ∷ first ∷ rest else first ∷ insert_word word rest)) [
        | true ↦ (here, each)
        | false ↦ (each.0, each_inserted word rest here each.1)
      ]

  pub inserted_each : (word : ℕ) (words : List ℕ) → Each P (insert_word word words) → P word × Each P words
  unfolding insert_word
  inserted_each word [] each = each
  inserted_each word (first ∷ rest) each =
      (elim (nat_le word first) as (λ b. Each P (if b then word ∷ first ∷ rest else first ∷ insert_word word rest) → P word × Each P (first ∷ rest)) [
        | true ↦ λ each. each
        | false ↦ λ each. let more = inserted_each word rest each.1 in (more.0, (each.0, more.1))
      ]) each

inserted_length : (word : ℕ) (words : List ℕ) → length (insert_word word words) ≡ 1 + length words
unfolding insert_word
inserted_length word [] = refl
inserted_length word (first ∷ rest) =
    let more = inserted_length word rest in
    elim (nat_le word first) as (λ b. length (if b then word ∷ first ∷ rest else first ∷ insert_word word rest) ≡ 1 + length (first ∷ rest)) [
      | true ↦ omega arith
      | false ↦ omega arith
    ]

inserted_rises : (word : ℕ) (words : List ℕ) → Rises (λ w. w) words → Rises (λ w. w) (insert_word word words)
unfolding insert_word
inserted_rises word [] rises = (tt, tt)
inserted_rises word (first ∷ rest) rises =
    elim (nat_le word first) as (λ b. nat_le word first ≡ b → Rises (λ w. w) (if b then word ∷ first ∷ rest else first ∷ insert_word word rest)) [
      | true ↦ λ e.
          let le : word ≤ first = grind (arith, nat_tests) in
          ((le, each_weaker (λ other. first ≤ other) (λ other. word ≤ other) (λ other up. omega arith) rest rises.0), rises)
      | false ↦ λ e.
          let le : first ≤ word = grind (arith, nat_tests) in
          (each_inserted (λ other. first ≤ other) word rest le rises.0, inserted_rises word rest rises.1)
    ] refl

inserted_times : (other word : ℕ) (words : List ℕ) → times other (insert_word word words) ≡ times other (word ∷ words)
unfolding insert_word
inserted_times other word [] = refl
inserted_times other word (first ∷ rest) =
    let f : ℕ → ℕ = λ w. cond (nat_eq w other) 1 0 in
    let more = inserted_times other word rest in
    let a = sum_by-cons f first (insert_word word rest) in
    let b = sum_by-cons f word (first ∷ rest) in
    let c = sum_by-cons f first rest in
    let d = sum_by-cons f word rest in
    elim (nat_le word first) as (λ b. times other (if b then word ∷ first ∷ rest else first ∷ insert_word word rest) ≡ times other (word ∷ first ∷ rest)) [
      | true ↦ refl
      | false ↦ omega arith
    ]

module _ (width : Width) where
  pub sorted_length : (cases : List ℕ) → length (sorted_words width cases) ≡ length cases
  unfolding sorted_words
  sorted_length [] = refl
  sorted_length (case ∷ cases) =
      let more = sorted_length cases in
      inserted_length (low width case) (sorted_words width cases) ∙ omega arith

  pub sorted_rises : (cases : List ℕ) → Rises (λ w. w) (sorted_words width cases)
  unfolding sorted_words
  sorted_rises [] = tt
  sorted_rises (case ∷ cases) = inserted_rises (low width case) (sorted_words width cases) (sorted_rises cases)

  pub sorted_times : (word : ℕ) (cases : List ℕ) → times word (sorted_words width cases) ≡ times word (map (low width) cases)
  unfolding sorted_words
  sorted_times word [] = refl
  sorted_times word (case ∷ cases) =
      let f : ℕ → ℕ = λ w. cond (nat_eq w word) 1 0 in
      let more = sorted_times word cases in
      let here = inserted_times word (low width case) (sorted_words width cases) in
      let a = sum_by-cons f (low width case) (sorted_words width cases) in
      let b = sum_by-cons f (low width case) (map (low width) cases) in
      omega arith

  pub sorted_small : (cases : List ℕ) → Each (λ word. word < 2 ^ bits width) (sorted_words width cases)
  unfolding sorted_words
  sorted_small [] = tt
  sorted_small (case ∷ cases) =
      each_inserted (λ word. word < 2 ^ bits width) (low width case) (sorted_words width cases) (low-lt width case) (sorted_small cases)

  -- a word that isn't among them is equal to no case
  pub none_equal : (x : ℕ) (cases : List ℕ) → Each (λ word. nat_eq word x ≡ false) (sorted_words width cases) → case_number width x cases ≡ length cases
  unfolding sorted_words
  none_equal x [] each = refl
  none_equal x (case ∷ cases) each =
      let parts = inserted_each (λ word. nat_eq word x ≡ false) (low width case) (sorted_words width cases) each in
      ap (λ b. if b then 0 else suc (case_number width x cases)) parts.0 ∙ ap suc (none_equal x cases parts.1)

-- the search has as many labels as the number of cases has it
pub cases_length : (width : Width) (cases targets : List ℕ) → length (cases_in_order width cases targets) ≡ length cases
cases_length width cases targets = length-map (sorted_words width cases) (case_of width cases targets) ∙ sorted_length width cases

pub search_labels : (width : Width) (cases targets : List ℕ) → node_count (tree (cases_in_order width cases targets)) ≡ switch_labels cases
search_labels width cases targets = nodes_alike (cases_in_order width cases targets) cases (cases_length width cases targets)

-- ---- where a search leads

-- the target of the first of some cases whose word is x; or else another
abbrev pub led_among : ℕ → ℕ → List Case → ℕ
led_among other x [] = other
led_among other x (case ∷ cases) = if nat_eq case.word x then case.target else led_among other x cases

unfoldable pub led : ℕ → ℕ → Tree Case → ℕ
led other x (Leaf cases) = led_among other x cases
led other x (Node before case behind) =
    if nat_eq case.word x then case.target else if nat_lt case.word x then led other x behind else led other x before

module _ (other x : ℕ) (to : ℕ → ℕ) where
  abbrev Differs : Case → Type 0
  Differs case = nat_eq case.word x ≡ false

  -- it leads where x leads; or no case has the word x
  abbrev IsLed : List Case → ℕ → Type 0
  IsLed cases target = (target ≡ to x) ⊎ (Each Differs cases × (target ≡ other))

  abbrev LeadsThere : Case → Type 0
  LeadsThere case = case.target ≡ to case.word

  hit : (case : Case) → LeadsThere case → nat_eq case.word x ≡ true → case.target ≡ to x
  hit case there e = let same : case.word ≡ x = grind (arith, nat_tests) in there ∙ ap to same

  led_among_is : (cases : List Case) → Each LeadsThere cases → IsLed cases (led_among other x cases)
  led_among_is [] there = inr (tt, refl)
  led_among_is (case ∷ cases) there =
      elim (nat_eq case.word x) as (λ b. nat_eq case.word x ≡ b → IsLed (case ∷ cases) (if b then case.target else led_among other x cases)) [
        | true ↦ λ e. inl (hit case there.0 e)
        | false ↦ λ e. ⊎_elim (λ found. inl found)
            (λ (none : Each Differs cases × (led_among other x cases ≡ other)). inr ((e, none.0), none.1)) (led_among_is cases there.1)
      ] refl

  below_differ : (word : ℕ) → word < x → (cases : List Case) → Each (λ (case : Case). case.word ≤ word) cases → Each Differs cases
  below_differ word lt cases each = each_weaker (λ (case : Case). case.word ≤ word) Differs (λ case le. ne_eqb case.word x (λ e. omega arith)) cases each

  above_differ : (word : ℕ) → x < word → (cases : List Case) → Each (λ (case : Case). word ≤ case.word) cases → Each Differs cases
  above_differ word lt cases each = each_weaker (λ (case : Case). word ≤ case.word) Differs (λ case le. ne_eqb case.word x (λ e. omega arith)) cases each

  all_differ : (before : List Case) (case : Case) (behind : List Case) → Each Differs before → Differs case → Each Differs behind
      → Each Differs (before ++ case ∷ behind)
  all_differ [] case behind first here rest = (here, rest)
  all_differ (b ∷ before) case behind first here rest = (first.0, all_differ before case behind first.1 here rest)

  pub led_is : (t : Tree Case) → Each LeadsThere (in_order t) → Rises (λ (case : Case). case.word) (in_order t) → IsLed (in_order t) (led other x t)
  unfolding led in_order
  led_is (Leaf cases) there rises = led_among_is cases there
  led_is (Node before case behind) there rises =
      let first : List Case = in_order before in
      let rest : List Case = in_order behind in
      let word : Case → ℕ = λ (case : Case). case.word in
      let there_first = each_left LeadsThere first (case ∷ rest) there in
      let there_rest = each_right LeadsThere first (case ∷ rest) there in
      let rises_first = rises_left word first (case ∷ rest) rises in
      let rises_rest = rises_right word first (case ∷ rest) rises in
      let low : Each (λ (c : Case). c.word ≤ case.word) first = rises_before word first case rest rises in
      let more = led_is before there_first rises_first in
      let most = led_is behind there_rest.1 rises_rest.1 in
      elim (nat_eq case.word x) as (λ b. nat_eq case.word x ≡ b → IsLed (first ++ case ∷ rest)
      (if b then case.target else if nat_lt case.word x then led other x behind else led other x before)) [
        | true ↦ λ e. inl (hit case there_rest.0 e)
        | false ↦ λ e.
            elim (nat_lt case.word x) as (λ b. nat_lt case.word x ≡ b → IsLed (first ++ case ∷ rest) (if b then led other x behind else led other x before)) [
              | true ↦ λ up.
                  let lt : case.word < x = grind (arith, nat_tests) in
                  ⊎_elim (λ found. inl found)
                  (λ (none : Each Differs rest × (led other x behind ≡ other)).
                  inr (all_differ first case rest (below_differ case.word lt first low) e none.0, none.1)) most
              | false ↦ λ down.
                  let lt : x < case.word = grind (arith, nat_tests) in
                  ⊎_elim (λ found. inl found)
                  (λ (none : Each Differs first × (led other x before ≡ other)).
                  inr (all_differ first case rest none.0 e (above_differ case.word lt rest rises_rest.0), none.1)) more
            ] refl
      ] refl

each_any : {X : Type 0} (P : X → Type 0) → ((x : X) → P x) → (xs : List X) → Each P xs
each_any P any [] = tt
each_any P any (x ∷ xs) = (any x, each_any P any xs)

-- the search among the cases of a Switch leads where the Switch does
pub search_leads : (width : Width) (x : ℕ) (cases targets : List ℕ)
    → led (get_or targets (length cases) 0) x (tree (cases_in_order width cases targets)) ≡ target_of width cases targets x
search_leads width x cases targets =
    let to : ℕ → ℕ = target_of width cases targets in
    let other : ℕ = get_or targets (length cases) 0 in
    let words : List ℕ = sorted_words width cases in
    let ordered : List Case = cases_in_order width cases targets in
    let word : Case → ℕ = λ (case : Case). case.word in
    let t : Tree Case = tree ordered in
    let there : Each (LeadsThere other x to) ordered =
    each_map (LeadsThere other x to) (case_of width cases targets) words (each_any (λ w. LeadsThere other x to (case_of width cases targets w)) (λ w. refl) words) in
    let rises : Rises word ordered = map_rises word (case_of width cases targets) words (λ n. refl) (sorted_rises width cases) in
    let led_t : IsLed other x to ordered (led other x t) =
    subst (λ xs. IsLed other x to xs (led other x t)) (tree_order ordered)
    (led_is other x to t (subst (Each (LeadsThere other x to)) (sym (tree_order ordered)) there) (subst (Rises word) (sym (tree_order ordered)) rises)) in
    ⊎_elim
    (λ found. found)
    (λ (none : Each (Differs other x to) ordered × (led other x t ≡ other)).
    none.1 ∙ ap (λ n. get_or targets n 0)
    (sym (none_equal width x cases (map_each (Differs other x to) (case_of width cases targets) words none.0))))
    led_t
