-- Spans that stand one after the other, from x29 down, are disjoint.
use Rattle.std.proofs.Common.{ℕ, zero, suc, ◌+◌, ◌≤◌, inl, inr, List, [], ◌∷◌, ◌++◌, arith}
use Rattle.std.specs.Prelude.{All, AllPairs}
use Rattle.std.proofs.lemmas.List.Elements.{All-append, All-cons, All-nil}
use Rattle.std.proofs.lemmas.List.Kept.{AllPairs-cons}
use Rattle.exit_table.specs.Good.{Span, AreDisjoint}

-- each span begins at or below the end of the one before: the first below one offset, and the last ends at or
-- above another
abbrev pub AreBetween : ℕ → List Span → ℕ → Type 0
AreBetween low [] high = low ≤ high
AreBetween low (s ∷ ss) high = (low + s.size ≤ s.offset) × AreBetween s.offset ss high

abbrev pub IsWithin : ℕ → ℕ → Span → Type 0
IsWithin low high s = (low + s.size ≤ s.offset) × (s.offset ≤ high)

rise : (low high : ℕ) (ss : List Span) → AreBetween low ss high → low ≤ high
rise low high [] h = h
rise low high (s ∷ ss) h = let above = rise s.offset high ss h.1 in omega (arith, above, h.0)

pub each_within : (bottom low high : ℕ) (ss : List Span) → bottom ≤ low → AreBetween low ss high → All (IsWithin bottom high) ss
each_within bottom low high [] le h = All-nil (IsWithin bottom high)
each_within bottom low high (s ∷ ss) le h =
    All-cons (IsWithin bottom high) s ss (omega (arith, h.0), rise s.offset high ss h.1)
    (each_within bottom s.offset high ss (omega (arith, h.0)) h.1)

lowered : (low bottom high : ℕ) (ss : List Span) → bottom ≤ low → AreBetween low ss high → AreBetween bottom ss high
lowered low bottom high [] le h = omega (arith, h)
lowered low bottom high (s ∷ ss) le h = (omega (arith, h.0), h.1)

pub between_append : (low mid high : ℕ) (xs ys : List Span) → AreBetween low xs mid → AreBetween mid ys high
    → AreBetween low (xs ++ ys) high
between_append low mid high [] ys h k = lowered mid low high ys h k
between_append low mid high (x ∷ xs) ys h k = (h.0, between_append x.offset mid high xs ys h.1 k)

pub stacked_pairs : (low high : ℕ) (ss : List Span) → AreBetween low ss high → AllPairs AreDisjoint ss
stacked_pairs low high [] h = λ i j d lt within. absurd (omega arith)
stacked_pairs low high (s ∷ ss) h =
    let behind = each_within s.offset s.offset high ss (omega arith) h.1 in
    AllPairs-cons AreDisjoint s ss (λ k d lt. inr ((behind k d lt).0)) (stacked_pairs s.offset high ss h.1)

pub pairs_append : {X : Type 0} (R : X → X → Type 0) (xs ys : List X) → AllPairs R xs → AllPairs R ys
    → All (λ x. All (R x) ys) xs → AllPairs R (xs ++ ys)
pairs_append R [] ys h k across = k
pairs_append R (x ∷ xs) ys h k across =
    AllPairs-cons R x (xs ++ ys)
    (All-append (R x) xs ys (λ j d lt. h zero (suc j) d (omega arith) (omega arith)) (λ j d lt. across zero x (omega arith) j d lt))
    (pairs_append R xs ys (λ i j d lt within. h (suc i) (suc j) d (omega arith) (omega arith)) k
    (λ j d lt. across (suc j) d (omega arith)))

-- those below an offset and those above it, in either order
pub parts_disjoint : (low mid high : ℕ) (lows highs : List Span) → AreBetween low lows mid → AreBetween mid highs high
    → AllPairs AreDisjoint (highs ++ lows)
parts_disjoint low mid high lows highs h k =
    pairs_append AreDisjoint highs lows (stacked_pairs mid high highs k) (stacked_pairs low mid lows h)
    (λ i d lt j e within.
    let above = each_within mid mid high highs (omega arith) k i d lt in
    let below = each_within low low mid lows (omega arith) h j e within in
    inl (omega (arith, above.0, below.1)))
