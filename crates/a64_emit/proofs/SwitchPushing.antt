-- How the code of a search grows.
use Rattle.std.proofs.Common.{◌≡◌, ℕ, ◌+◌, ◌/◌, ◌<◌, ◌≤◌, List, [], ◌∷◌, ◌++◌, sym, ap, ◌∙◌, length, get_or, take, drop, append_assoc, append-nil}
use Rattle.std.proofs.lemmas.List.{drop_all, drop_more}
use Rattle.b3_base.specs.declared.word.Width.{Width}
use Rattle.a64_inst.specs.declared.inst.Cond.TheVariants.{Eq, Hi}
use Rattle.a64_inst.specs.declared.item.Item.{Item}
use Rattle.a64_inst.specs.declared.item.Item.TheVariants.{If, Label}
use Rattle.a64_code.specs.Places.{plains}
use Rattle.a64_emit.specs.Switched.{case_items, compare_word, jump_to, search_items}
use Rattle.a64_emit.specs.Trees.{Tree, node_count, tree}
use Rattle.a64_emit.specs.declared.case.Case.{Case}
use Rattle.a64_emit.proofs.Trees.{from_half, tree_few, tree_more}

module _ (width : Width) (reg : ℕ) where
  -- one case more
  pub cases_next : (cases : List Case) (k : ℕ) (d : Case) (code between after whole : List Item) → code ++ case_items width reg (drop k cases) ≡ whole
      → k < length cases → between ≡ code ++ plains (compare_word width reg (get_or cases k d).word)
      → after ≡ between ++ If Eq (get_or cases k d).target ∷ [] → after ++ case_items width reg (drop (k + 1) cases) ≡ whole
  unfolding case_items
  cases_next cases k d code between after whole left lt compared branched =
      let case : Case = get_or cases k d in
      let compare : List Item = plains (compare_word width reg case.word) in
      let rest : List Item = case_items width reg (drop (k + 1) cases) in
      ap (λ (xs : List Item). xs ++ rest) (branched ∙ ap (λ (xs : List Item). xs ++ If Eq case.target ∷ []) compared)
      ∙ append_assoc (code ++ compare) (If Eq case.target ∷ []) rest ∙ append_assoc code compare (If Eq case.target ∷ rest)
      ∙ ap (λ (xs : List Case). code ++ case_items width reg xs) (sym (drop_more cases k d lt)) ∙ left

  pub cases_done : (cases : List Case) (k : ℕ) (code whole : List Item) → code ++ case_items width reg (drop k cases) ≡ whole → length cases ≤ k → code ≡ whole
  unfolding case_items
  cases_done cases k code whole left le =
      sym (append-nil code) ∙ ap (λ (xs : List Case). code ++ case_items width reg xs) (sym (drop_all k cases le)) ∙ left

  module _ (other next label : ℕ) (cases : List Case) where
    -- a few cases
    pub search_few : (code between after : List Item) → length cases ≤ 3 → between ≡ code ++ case_items width reg cases → after ≡ between ++ jump_to next other
        → after ≡ code ++ search_items width reg other next label (tree cases)
    unfolding search_items
    search_few code between after le pushed jumped =
        jumped ∙ ap (λ (xs : List Item). xs ++ jump_to next other) pushed ∙ append_assoc code (case_items width reg cases) (jump_to next other)
        ∙ ap (λ (t : Tree Case). code ++ search_items width reg other next label t) (sym (tree_few cases le))

    -- a node: the case in the middle, those before it and those behind it
    pub search_more : (d : Case) (code a b c e f after : List Item) (free : ℕ) (behind : List Case) → 3 < length cases
        → behind ≡ drop (length cases / 2 + 1) cases
        → a ≡ code ++ plains (compare_word width reg (get_or cases (length cases / 2) d).word) → b ≡ a ++ If Eq (get_or cases (length cases / 2) d).target ∷ []
        → c ≡ b ++ If Hi label ∷ []
        → e ≡ c ++ search_items width reg other label (label + 1) (tree (take (length cases / 2) cases))
        → free ≡ label + 1 + node_count (tree (take (length cases / 2) cases))
        → f ≡ e ++ Label label ∷ [] → after ≡ f ++ search_items width reg other next free (tree behind)
        → after ≡ code ++ search_items width reg other next label (tree cases)
    unfolding search_items
    search_more d code a b c e f after free behind more rest_are a_is b_is c_is e_is free_is f_is after_is =
        let case : Case = get_or cases (length cases / 2) d in
        let before : List Case = take (length cases / 2) cases in
        let rest : List Case = drop (length cases / 2 + 1) cases in
        let compare : List Item = plains (compare_word width reg case.word) in
        let first : List Item = search_items width reg other label (label + 1) (tree before) in
        let own : ℕ = label + 1 + node_count (tree before) in
        let second : List Item = search_items width reg other next own (tree rest) in
        let front : List Item = ((code ++ compare) ++ If Eq case.target ∷ []) ++ If Hi label ∷ [] in
        let c_at : c ≡ front =
        c_is ∙ ap (λ (xs : List Item). xs ++ If Hi label ∷ []) (b_is ∙ ap (λ (xs : List Item). xs ++ If Eq case.target ∷ []) a_is) in
        let front_first : front ++ first ≡ code ++ (compare ++ If Eq case.target ∷ If Hi label ∷ first) =
        append_assoc ((code ++ compare) ++ If Eq case.target ∷ []) (If Hi label ∷ []) first
        ∙ append_assoc (code ++ compare) (If Eq case.target ∷ []) (If Hi label ∷ first) ∙ append_assoc code compare (If Eq case.target ∷ If Hi label ∷ first) in
        let e_at : e ≡ code ++ (compare ++ If Eq case.target ∷ If Hi label ∷ first) = e_is ∙ ap (λ (xs : List Item). xs ++ first) c_at ∙ front_first in
        let second_is : search_items width reg other next free (tree behind) ≡ second =
        ap (λ n. search_items width reg other next n (tree behind)) free_is ∙ ap (λ (xs : List Case). search_items width reg other next own (tree xs)) rest_are in
        after_is ∙ ap (λ (xs : List Item). f ++ xs) second_is
        ∙ ap (λ (xs : List Item). xs ++ second) (f_is ∙ ap (λ (xs : List Item). xs ++ Label label ∷ []) e_at)
        ∙ append_assoc (code ++ (compare ++ If Eq case.target ∷ If Hi label ∷ first)) (Label label ∷ []) second
        ∙ append_assoc code (compare ++ If Eq case.target ∷ If Hi label ∷ first) (Label label ∷ second)
        ∙ ap (λ (t : Tree Case). code ++ search_items width reg other next label t) (sym (tree_more cases case rest more (from_half cases d more)))
