-- One look at spans in order tells whether a span is apart from all.
use mathlib.Core.Path.{fun_ext}
use Rattle.std.proofs.Common.{◌≡◌, ℕ, ◌+◌, ◌-◌, ◌<◌, ◌≤◌, inl, inr, Bool, true, false, leb, ltb, List, [], ◌∷◌, ◌++◌, map, refl, sym, ap, ◌∙◌, arith}
use Rattle.std.specs.Prelude.{◌&&◌, ◌||◌}
use Rattle.std.specs.List.{filter}
use Rattle.std.specs.Ordering.{nat_cmp, is_le}
use Rattle.std.specs.BTreeMap.{insert_entry}
use Rattle.std.proofs.lemmas.Bool.{cases_lt, cases_order, leb-true, le-leb, lt-leb, lt-ltb, le-ltb, eq-eqb, ne_eqb, and_parts, and_from, or_cases}
use Rattle.exit_table.specs.Good.{Span, AreDisjoint}
use Rattle.exit_table.specs.FrameReading.{are_apart, is_clear, without}
use Rattle.exit_table.specs.Taken.{span_of, left_by, leaves, AreStacked, Joins, is_below, has_room}

pub apart_true : (a b : Span) → are_apart a b ≡ true → AreDisjoint a b
apart_true a b e = elim (or_cases _ _ e) [ inl h ↦ inl (leb-true _ _ h) | inr h ↦ inr (leb-true _ _ h) ]

-- what ends below n is apart from all that is stacked on n
clear_of_stack : (n : ℕ) (entries : List (ℕ × ℕ)) (span : Span) → AreStacked n entries → span.offset ≤ n → is_clear (map span_of entries) span ≡ true
unfolding is_clear
clear_of_stack n [] span stacked le = refl
clear_of_stack n (entry ∷ entries) span stacked le =
    let begins : n + entry.1 ≤ entry.0 = stacked.1 in
    let above : leb (span.offset + entry.1) entry.0 ≡ true = le-leb _ _ (omega arith) in
    let first : are_apart span (span_of entry) ≡ true = elim (leb (entry.0 + span.size) span.offset) as (λ v. (v || leb (span.offset + entry.1) entry.0) ≡ true) [ true ↦ refl | false ↦ above ] in
    and_from _ _ first (clear_of_stack entry.0 entries span stacked.2 (omega arith))

room_is : (low : ℕ) (entries : List (ℕ × ℕ)) (span : Span) → AreStacked low entries → has_room entries span ≡ is_clear (map span_of entries) span
unfolding is_clear
room_is low [] span stacked = refl
room_is low (entry ∷ entries) span stacked =
    let begins : low + entry.1 ≤ entry.0 = stacked.1 in
    elim (cases_lt span.offset (entry.0 + span.size)) [
      | inl lt ↦ elim (cases_lt entry.0 (span.offset + entry.1)) [
        | inl over ↦ rw (lt-ltb _ _ lt, lt-leb _ _ lt, lt-leb _ _ over) refl
        | inr under ↦ rw (lt-ltb _ _ lt, lt-leb _ _ lt, le-leb _ _ under) (sym (clear_of_stack entry.0 entries span stacked.2 (omega arith)))
      ]
      | inr le ↦ rw (le-ltb _ _ le, le-leb _ _ le) (room_is entry.0 entries span stacked.2)
    ]

pub has_room_is : (entries : List (ℕ × ℕ)) (span : Span) → AreStacked 0 entries → has_room entries span ≡ left_by entries span
has_room_is entries span stacked = room_is 0 entries span stacked

-- ---- the entries of a map from a key on

le_is : (k n : ℕ) → is_le (nat_cmp k n) ≡ leb k n
le_is k n =
    elim (cases_order k n) [
      | inl same ↦ rw (same, le-ltb n n (omega arith), eq-eqb n n refl, le-leb n n (omega arith)) refl
      | inr differ ↦ elim differ [
        | inl lt ↦ rw (lt-ltb _ _ lt, le-leb k n (omega arith)) refl
        | inr gt ↦ rw (le-ltb k n (omega arith), ne_eqb k n (λ e. absurd (omega arith)), lt-leb k n gt) refl
      ]
    ]

from_key : (span : Span) (entries : List (ℕ × ℕ)) → span.size ≤ span.offset → filter (λ entry. is_le (nat_cmp (span.offset - span.size + 1) entry.0) && true) entries ≡ filter (λ entry. ltb span.offset (entry.0 + span.size)) entries
from_key span [] most = refl
from_key span (entry ∷ entries) most =
    let k : ℕ = span.offset - span.size + 1 in
    let same : is_le (nat_cmp k entry.0) && true ≡ ltb span.offset (entry.0 + span.size) =
    elim (cases_lt span.offset (entry.0 + span.size)) [
      | inl lt ↦ rw (le_is k entry.0, lt-ltb _ _ lt, le-leb k entry.0 (omega arith)) refl
      | inr le ↦ rw (le_is k entry.0, le-ltb _ _ le, lt-leb k entry.0 (omega arith)) refl
    ] in
    rw (same, from_key span entries most) refl

pub first_tells : (span : Span) (entries : List (ℕ × ℕ)) (first : ℕ × ℕ) (rest found : List (ℕ × ℕ)) → span.size ≤ span.offset
    → found ≡ filter (λ entry. is_le (nat_cmp (span.offset - span.size + 1) entry.0) && true) entries → found ≡ first ∷ rest → leb (span.offset + first.1) first.0 ≡ has_room entries span
first_tells span entries first rest found most all is =
    let them : filter (λ entry. ltb span.offset (entry.0 + span.size)) entries ≡ first ∷ rest = sym (from_key span entries most) ∙ sym all ∙ is in
    sym (ap (λ (es : List (ℕ × ℕ)). is_below span.offset es) them)

-- ---- one span more

and_swap : (a b : Bool) → a && b ≡ b && a
and_swap true true = refl
and_swap true false = refl
and_swap false true = refl
and_swap false false = refl

and_regroup : (a b c : Bool) → a && (b && c) ≡ (a && b) && c
and_regroup true b c = refl
and_regroup false b c = refl

abbrev AreJoined : ℕ → List (ℕ × ℕ) → Span → List (ℕ × ℕ) → Type 0
AreJoined low entries span more = AreStacked low more × ((other : Span) → is_clear (map span_of more) other ≡ (is_clear (map span_of entries) other && are_apart other span))

joined : (low : ℕ) (entries : List (ℕ × ℕ)) (span : Span) → AreStacked low entries → 1 ≤ span.size → low + span.size ≤ span.offset → is_clear (map span_of entries) span ≡ true → AreJoined low entries span (insert_entry nat_cmp entries span.offset span.size)
unfolding is_clear
joined low [] span stacked least begins clear = ((least, begins, tt), λ other. and_swap (are_apart other span) true)
joined low (entry ∷ entries) span stacked least begins clear =
    let parts = and_parts _ _ clear in
    let holds : 1 ≤ entry.1 = stacked.0 in
    elim (apart_true span (span_of entry) parts.0) [
      | inl above ↦
          let lt : entry.0 < span.offset = omega arith in
          let more = joined entry.0 entries span stacked.2 least above parts.1 in
          rw (le-ltb span.offset entry.0 (omega arith), ne_eqb span.offset entry.0 (λ e. absurd (omega arith)))
          ((stacked.0, stacked.1, more.0), λ other. ap (λ (b : Bool). are_apart other (span_of entry) && b) (more.1 other) ∙ and_regroup (are_apart other (span_of entry)) (is_clear (map span_of entries) other) (are_apart other span))
      | inr below ↦
          let lt : span.offset < entry.0 = omega arith in
          rw (lt-ltb span.offset entry.0 lt)
          ((least, begins, (stacked.0, below, stacked.2)), λ other. and_swap (are_apart other span) (is_clear (map span_of (entry ∷ entries)) other))
    ]

-- a span apart from all joins them
pub joins : (entries : List (ℕ × ℕ)) (span : Span) → AreStacked 0 entries → 1 ≤ span.size → span.size ≤ span.offset → left_by entries span ≡ true → Joins entries span (insert_entry nat_cmp entries span.offset span.size)
joins entries span stacked least most clear =
    let both : AreJoined 0 entries span (insert_entry nat_cmp entries span.offset span.size) = joined 0 entries span stacked least (omega (arith, most)) clear in
    record { stacked = both.0; taken = fun_ext both.1 }

pub clear_push : (taken : List Span) (span other : Span) → is_clear (taken ++ span ∷ []) other ≡ (is_clear taken other && are_apart other span)
unfolding is_clear
clear_push [] span other = and_swap (are_apart other span) true
clear_push (first ∷ taken) span other = ap (λ (b : Bool). are_apart other first && b) (clear_push taken span other) ∙ and_regroup (are_apart other first) (is_clear taken other) (are_apart other span)

-- one span more is taken
pub without_push : (taken : List Span) (span : Span) → is_clear (taken ++ span ∷ []) ≡ without (is_clear taken) span
without_push taken span = fun_ext (clear_push taken span)

and_true : (b : Bool) → b && true ≡ b
and_true true = refl
and_true false = refl

pub leaves_all : (clear : Span → Bool) → leaves clear [] ≡ clear
unfolding is_clear
leaves_all clear = fun_ext (λ other. and_true (clear other))

pub leaves_push : (clear : Span → Bool) (spans : List Span) (span : Span) → leaves clear (spans ++ span ∷ []) ≡ without (leaves clear spans) span
leaves_push clear spans span = fun_ext (λ other. ap (λ (b : Bool). clear other && b) (clear_push spans span other) ∙ and_regroup (clear other) (is_clear spans other) (are_apart other span))

clear_both : (taken more : List Span) (span : Span) → is_clear (taken ++ more) span ≡ leaves (is_clear taken) more span
unfolding is_clear
clear_both [] more span = refl
clear_both (first ∷ taken) more span = ap (λ (b : Bool). are_apart span first && b) (clear_both taken more span) ∙ and_regroup (are_apart span first) (is_clear taken span) (is_clear more span)

pub leaves_append : (taken more : List Span) → is_clear (taken ++ more) ≡ leaves (is_clear taken) more
leaves_append taken more = fun_ext (clear_both taken more)
