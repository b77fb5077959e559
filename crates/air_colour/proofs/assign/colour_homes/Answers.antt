use Rattle.std.proofs.Common.{rules, ◌≡◌, ℕ, ◌+◌, ◌<◌, inl, inr, Bool, true, false, length, List, Option, None, replicate, arith, refl, sym, ◌∙◌, ap, subst, slice_index_or, drop, take_at}
use Rattle.std.proofs.lemmas.Bool.{cases_lt}
use Rattle.std.proofs.lemmas.List.{get_or_past, get_or-replicate, length-replicate}
use Rattle.std.proofs.lemmas.Grind.{get_or_default_zero}
use Rattle.air_colour.specs.Kept.{given_in}
use Rattle.air_colour.specs.Homes.{home_graph, register_of}
use Rattle.air_colour.specs.Progress.{moves_of, class_in}
use Rattle.air_colour.proofs.Promise.{colouring_same}
use Rattle.air_colour.proofs.assign.colour_homes.Goals as goal

all_none : (o : Option ℕ) (n x : ℕ) → o ≡ None → given_in (replicate n o) x ≡ None
all_none o n x e = elim (cases_lt x n) [
  | inl lt ↦ get_or-replicate n x o None lt ∙ e
  | inr le ↦ get_or_past (replicate n o) x None (let long = length-replicate n o in omega (arith, le, long))
]

pub colour_classes-requires-clause-start : goal.colour_classes-requires-clause-start
colour_classes-requires-clause-start c = record {
  names = c.requires.names;
  left_long = search rules;
  fixed_long = search rules;
  class_long = c.in_ok-class.ensures.long;
  given_long = search rules;
  left = λ x lt. ap (λ (l : List Bool). slice_index_or l x false) (c.deref_mut.ensures.value ∙ c.in_ok-left.ensures.items_if_clones_equal (λ y e. search rules))
      ∙ get_or-replicate (c.args.temporaries + c.args.k) x true false lt;
  fixed = search rules;
  class = c.in_ok-class.ensures.alone;
  given = λ x. ap (λ (l : List (Option ℕ)). given_in l x) (c.deref_mut-2.ensures.value ∙ c.in_ok-given.ensures.items_if_clones_equal (λ y e. search rules))
      ∙ all_none None (c.args.temporaries + c.args.k) x refl;
}

pub returns-clause-coloured : goal.returns-clause-coloured
returns-clause-coloured c =
    let given : c.deref-2.result.now ≡ c.colour_classes.new.given =
    c.deref-2.ensures.value ∙ take_at c.colour_classes.new.given (drop (length c.colour_classes.new.given) c.in_ok-given.given.items) c.in_ok-given.given.len
    (omega arith) in
    let class : c.as_slice.result.now ≡ c.colour_classes.new.class = c.as_slice.ensures in
    let long : length c.colour_classes.new.class ≡ c.args.temporaries + c.args.k =
    let made = c.in_ok-class.ensures.long in
    let kept = c.in_ok-joins.ensures.long in
    omega arith in
    colouring_same c.args.k (home_graph c.args.edges c.args.temporaries c.args.k) (register_of c.args.temporaries)
    (moves_of c.args.moves.now) c.in_ok-joins.joins.items
    (λ u. given_in c.colour_classes.new.given (class_in c.colour_classes.new.class u)) (given_in c.in_ok-given-2.given.items)
    (λ u there.
    let lt : u < length c.colour_classes.new.class = let below = there.0 in omega arith in
    let lt' : u < length c.as_slice.result.now = subst (λ (l : List ℕ). u < length l) (sym class) lt in
    let put : given_in c.in_ok-given-2.given.items u ≡ given_in c.deref-2.result.now
    (slice_index_or c.as_slice.result.now u 0) = c.in_ok-given-2.ensures.given u lt' in
    ap (given_in c.colour_classes.new.given) (get_or_default_zero c.colour_classes.new.class u u lt)
    ∙ sym (put ∙ ap (λ (l : List (Option ℕ)). given_in l (slice_index_or c.as_slice.result.now u 0)) given
    ∙ ap (λ (l : List ℕ). given_in c.colour_classes.new.given (slice_index_or l u 0)) class))
    c.in_ok-joins.ensures.coloured
