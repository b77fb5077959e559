-- No public clause cites this module. Words of checked arithmetic.
use Rattle.std.specs.Prelude.{ℕ, ℤ, ◌^◌, ◌<◌, if◌then◌else◌, List, ◌∷◌, Option, Some, None}
use Rattle.b3_base.specs.Signed.{is_signed, unsigned}
use Rattle.b3_base.specs.Word.{bits}
use Rattle.b3_base.specs.declared.word.Width.{Width}

-- the word of a number that is a signed number of the width
abbrev pub word_where_signed : Width → ℤ → Option ℕ
word_where_signed width number = if is_signed width number then Some (unsigned width number) else None

-- the first two of some words are words of the width
abbrev pub AreSmall : Width → List ℕ → Type 0
AreSmall width (x ∷ y ∷ words) = (x < 2 ^ bits width) × (y < 2 ^ bits width)
AreSmall width words = Unit {0}
