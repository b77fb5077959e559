-- No public clause cites this module.
-- Spans by where they end, each above the one before: what a search among them finds.
use Rattle.std.specs.Prelude.{◌≡◌, ℕ, ◌+◌, ◌≤◌, Bool, true, ◌&&◌, nat_le, nat_lt, List, [], ◌∷◌, map, ⊤}
use Rattle.std.specs.List.{filter}
use Rattle.exit_table.specs.Good.{Span}
use Rattle.exit_table.specs.FrameReading.{is_clear, without}

-- a span by its offset and its size
abbrev pub span_of : ℕ × ℕ → Span
span_of entry = record { offset = entry.0; size = entry.1 }

-- the bytes that these leave
abbrev pub left_by : List (ℕ × ℕ) → Span → Bool
left_by entries = is_clear (map span_of entries)

-- the bytes that these spans leave of what is clear
abbrev pub leaves : (Span → Bool) → List Span → Span → Bool
leaves clear spans span = clear span && is_clear spans span

-- each span has a byte, and begins at or above the end of the one before
abbrev pub AreStacked : ℕ → List (ℕ × ℕ) → Type 0
AreStacked low [] = ⊤
AreStacked low (entry ∷ entries) = (1 ≤ entry.1) × (low + entry.1 ≤ entry.0) × AreStacked entry.0 entries

-- a span that ends at `offset` ends below the first of these
abbrev pub is_below : ℕ → List (ℕ × ℕ) → Bool
is_below offset [] = true
is_below offset (entry ∷ entries) = nat_le (offset + entry.1) entry.0

-- whether the first of those that end above a span's first byte begins above its last
abbrev pub has_room : List (ℕ × ℕ) → Span → Bool
has_room entries span = is_below span.offset (filter (λ entry. nat_lt span.offset (entry.0 + span.size)) entries)

-- a span is stacked among these, and is then one of them
pub record Joins (entries : List (ℕ × ℕ)) (span : Span) (more : List (ℕ × ℕ)) : Type 0 where
  pub stacked : AreStacked 0 more
  pub taken : left_by more ≡ without (left_by entries) span
