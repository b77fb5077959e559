-- The words that were seen, in a width, one word more at a time.
use Rattle.std.proofs.Common.{◌≡◌, ◌≢◌, ◌∙◌, ◌||◌, ℕ, ◌+◌, ◌<◌, Bool, true, false, cond, List, [], ◌∷◌, ◌++◌, length, take, get_or, AllPairs, refl, sym, ap, subst, arith}
use Rattle.std.specs.BTreeSet.{BTreeSet, contains}
use Rattle.std.specs.List.{list_any}
use Rattle.std.specs.Ordering.{nat_cmp, is_eq}
use Rattle.std.specs.declared.cmp.Ordering.{Ordering}
use Rattle.std.specs.declared.cmp.Ordering.TheVariants.{Less, Equal, Greater}
use Rattle.std.proofs.lemmas.Cmp.{nat_cmp_total, ranked, tied_itself}
use Rattle.std.proofs.lemmas.List.{get_or-take, get_or_default, length-take-le, take_more}
use Rattle.std.proofs.lemmas.List.Folds.{Any-from_list_any, list_any_at, list_any-append}
use Rattle.std.proofs.lemmas.List.Quantifiers.{all_pairs_push}
use mathlib.Core.Bool.{or-false}
use Rattle.b3_base.specs.Arithmetic.{low}
use Rattle.b3_base.specs.declared.word.Width.{Width}
use Rattle.b3_rules.proofs.FixedApart.{no_pairs}

abbrev pub DifferIn : Width → ℕ → ℕ → Type 0
DifferIn width a b = low width a ≢ low width b

-- a set has the low bits of some words, and no two of them have the same
pub record AreSeenIn (width : Width) (seen : BTreeSet ℕ) (words : List ℕ) : Type 0 where
  pub apart : AllPairs (DifferIn width) words
  pub known : (k : ℕ) → contains nat_cmp seen k ≡ list_any (λ w. is_eq (nat_cmp (low width w) k)) words

cond_or : (a b : Bool) → cond a true b ≡ (b || a)
cond_or true true = refl
cond_or true false = refl
cond_or false true = refl
cond_or false false = refl

tied_is : (a b : ℕ) → is_eq (nat_cmp a b) ≡ true → a ≡ b
tied_is a b e = from (nat_cmp a b) refl e
  where
    from : (o : Ordering) → nat_cmp a b ≡ o → is_eq o ≡ true → a ≡ b
    from Less is e = absurd (cc)
    from Equal is e = ranked a b Equal (sym is)
    from Greater is e = absurd (cc)

tied_from : (a b : ℕ) → a ≡ b → is_eq (nat_cmp a b) ≡ true
tied_from a b e = ap is_eq (ap (nat_cmp a) (sym e) ∙ tied_itself nat_cmp_total a)

pub seen_more : (width : Width) (seen next : BTreeSet ℕ) (words : List ℕ) (word : ℕ) → AreSeenIn width seen words
    → contains nat_cmp seen (low width word) ≡ false
    → ((q : ℕ) → contains nat_cmp next q ≡ cond (is_eq (nat_cmp (low width word) q)) true (contains nat_cmp seen q))
    → AreSeenIn width next (words ++ word ∷ [])
seen_more width seen next words word known new adds = record {
  apart = all_pairs_push (DifferIn width) words word known.apart (λ k d within same.
      let hit : list_any (λ w. is_eq (nat_cmp (low width w) (low width word))) words ≡ true =
      list_any_at (λ w. is_eq (nat_cmp (low width w) (low width word))) words k d within (tied_from _ _ same) in
      let is = known.known (low width word) in cc);
  known = λ k.
      let test : ℕ → Bool = λ w. is_eq (nat_cmp (low width w) k) in
      adds k ∙ cond_or (test word) (contains nat_cmp seen k) ∙ ap (λ (b : Bool). b || test word) (known.known k)
      ∙ sym (list_any-append test words (word ∷ []) ∙ ap (λ (b : Bool). list_any test words || b) (or-false (test word)));
}

pub seen_step : (width : Width) (seen next : BTreeSet ℕ) (words : List ℕ) (i d : ℕ) → i < length words → AreSeenIn width seen (take i words)
    → contains nat_cmp seen (low width (get_or words i d)) ≡ false
    → ((q : ℕ) → contains nat_cmp next q ≡ cond (is_eq (nat_cmp (low width (get_or words i d)) q)) true (contains nat_cmp seen q))
    → AreSeenIn width next (take (i + 1) words)
seen_step width seen next words i d within known new adds =
    subst (AreSeenIn width next) (sym (take_more words i d within)) (seen_more width seen next (take i words) (get_or words i d) known new adds)

-- where no two of all words are equal in the width, none that was seen comes again
pub new_from_pairs : (width : Width) (seen : BTreeSet ℕ) (words : List ℕ) (i d : ℕ) → i < length words → AreSeenIn width seen (take i words)
    → AllPairs (DifferIn width) words → contains nat_cmp seen (low width (get_or words i d)) ≡ true → ⊥
new_from_pairs width seen words i d within known pairs hit =
    let word = get_or words i d in
    let some = Any-from_list_any (λ w. is_eq (nat_cmp (low width w) (low width word))) (take i words) (sym (known.known (low width word)) ∙ hit) in
    let x = some.1 in
    let less : some.0 < i = (let h = some.2 in let len = length-take-le i words (omega arith) in omega (arith, h, len)) in
    let there : get_or words some.0 d ≡ x =
    get_or_default words some.0 d x (omega (arith, less, within)) ∙ sym (get_or-take i words some.0 x less) ∙ some.3 in
    pairs some.0 i d less within (ap (low width) there ∙ tied_is _ _ some.4)
