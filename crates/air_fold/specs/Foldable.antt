-- Which values are folded into the instructions of their uses.
use Rattle.std.specs.Prelude.{ℕ, ℤ, pos, zero, suc, ◌-◌, ◌+◌, ◌/◌, ◌^◌, Bool, true, false, ◌&&◌, ◌||◌, not, nat_eq, if◌then◌else◌, List, [], ◌∷◌, ◌++◌, length, map, slice_index_or, Option, Some, None}
use Rattle.std.specs.Int.{cast_unsigned, trailing_zeros, w64}
use Rattle.std.specs.List.{filter, flat_map, list_all}
use Rattle.b3_base.specs.Arithmetic.{low}
use Rattle.b3_base.specs.BitMask.{bit_mask}
use Rattle.b3_base.specs.Signed.{signed}
use Rattle.b3_base.specs.Word.{bits}
use Rattle.b3_base.specs.declared.word.Width.{Width}
use Rattle.b3_base.specs.declared.word.Width.TheVariants.{W64}
use Rattle.b3_ir.specs.Procedure.{Block, Procedure}
use Rattle.b3_ir.specs.Types.{width_of}
use Rattle.b3_ir.specs.declared.opcode.Opcode.{Opcode}
use Rattle.b3_ir.specs.declared.opcode.Opcode.TheVariants as opcode
use Rattle.b3_ir.specs.declared.value.Value.{Value}
use Rattle.air_ir.specs.Forms.{Immediates, NoImmediate, AnyWord, OfSum, OfLogic, OnlyZero, is_offset, is_short}
use Rattle.air_fold.specs.Values.{Index, ids_of, index_of, known, place, width_at}
use Rattle.air_fold.specs.declared.known.Known.{Known}

-- ---- opcodes

abbrev pub is_constant : Opcode → Bool
is_constant opcode.Const32 = true
is_constant opcode.Const64 = true
is_constant _ = false

abbrev pub is_comparison : Opcode → Bool
is_comparison opcode.Equal = true
is_comparison opcode.NotEqual = true
is_comparison opcode.LessThan = true
is_comparison opcode.GreaterThan = true
is_comparison opcode.LessEqual = true
is_comparison opcode.GreaterEqual = true
is_comparison opcode.Above = true
is_comparison opcode.Below = true
is_comparison opcode.AboveEqual = true
is_comparison opcode.BelowEqual = true
is_comparison _ = false

abbrev pub is_and : Opcode → Bool
is_and opcode.BitAnd = true
is_and _ = false

abbrev pub is_add : Opcode → Bool
is_add opcode.Add = true
is_add _ = false

abbrev pub is_shl : Opcode → Bool
is_shl opcode.Shl = true
is_shl _ = false

-- which immediates the second child of a value of an opcode may be
abbrev pub second_immediates : Opcode → Immediates
second_immediates opcode.Add = OfSum
second_immediates opcode.BitAnd = OfLogic
second_immediates opcode.BitOr = OfLogic
second_immediates opcode.BitXor = OfLogic
second_immediates opcode.Shl = AnyWord
second_immediates opcode.SShr = AnyWord
second_immediates opcode.ZShr = AnyWord
second_immediates opcode.RotL = AnyWord
second_immediates opcode.RotR = AnyWord
second_immediates op = if is_comparison op then OfSum else NoImmediate

abbrev pub is_store : Opcode → Bool
is_store opcode.Store8 = true
is_store opcode.Store16 = true
is_store opcode.Store = true
is_store _ = false

-- which immediates its first child may be: a store may store 0
abbrev pub first_immediates : Opcode → Immediates
first_immediates op = if is_store op then OnlyZero else NoImmediate

-- ---- words

-- whether a test passes for some number below n
abbrev pub some_below : ℕ → (ℕ → Bool) → Bool
some_below zero test = false
some_below (suc n) test = test n || some_below n test

abbrev pub is_named : Option ℕ → ℕ → Bool
is_named (Some mask) word = nat_eq mask word
is_named None word = false

-- whether some fields N, immr and imms name a word as a mask
unfoldable pub is_mask : Width → ℕ → Bool
is_mask width word =
    some_below 2 (λ n. some_below 64 (λ immr. some_below 64 (λ imms. is_named (bit_mask width n immr imms) word)))

-- whether a word is one of these immediates
abbrev pub is_immediate : Immediates → Width → ℕ → Bool
is_immediate NoImmediate width word = false
is_immediate AnyWord width word = true
is_immediate OfSum width word = is_short word || is_short (2 ^ bits width - word)
is_immediate OfLogic width word = is_mask width word
is_immediate OnlyZero width word = nat_eq word 0

abbrev pub is_zero : ℤ → Bool
is_zero (pos zero) = true
is_zero _ = false

-- the place of the lowest bit of a word, and whether the word is that bit alone
abbrev pub bit_of : ℕ → ℕ
bit_of word = trailing_zeros w64 word

abbrev pub is_bit : ℕ → Bool
is_bit word = nat_eq (2 ^ bit_of word) word

-- ---- uses

-- a use of a value: its id, the block, the id and the opcode of the value that uses it, and which child it is, counted
-- from 0
pub record Use : Type 0 where
  pub id : ℕ
  pub block : ℕ
  pub user : ℕ
  pub opcode : Opcode
  pub at : ℕ

abbrev pub uses_from : ℕ → ℕ → Opcode → ℕ → List ℕ → List Use
uses_from block user op at [] = []
uses_from block user op at (id ∷ ids) =
    record { id = id; block = block; user = user; opcode = op; at = at } ∷ uses_from block user op (suc at) ids

abbrev pub uses_by : ℕ → Value → List Use
uses_by block v = uses_from block v.id v.kind.opcode 0 v.children

abbrev pub uses_in : ℕ → List Block → List Use
uses_in block [] = []
uses_in block (b ∷ bs) = flat_map (uses_by block) b.values ++ uses_in (suc block) bs

-- all uses in a procedure, in order
abbrev pub uses : Procedure → List Use
uses p = uses_in 0 p.blocks

-- those of an id
abbrev pub uses_of : List Use → ℕ → List Use
uses_of us id = filter (λ (u : Use). nat_eq u.id id) us

-- ---- which uses fit

-- a constant fits as a child that a value may have as an immediate
abbrev pub constant_fits : Opcode → ℕ → Width → ℕ → Bool
constant_fits op zero width word = is_immediate (first_immediates op) width word
constant_fits op (suc zero) width word = is_immediate (second_immediates op) width word
constant_fits op at width word = false

-- a constant and the offset of an access, together, as a signed number of 64 bits
abbrev pub whole : ℕ → ℤ → ℤ
whole word offset = signed W64 (low W64 (word + cast_unsigned w64 offset))

-- the second child of a sum lets it be the pointer of an access of so many bytes, of a whole word or not, at an offset
abbrev pub reaches : ℕ → Bool → ℤ → Known → Bool
reaches bytes is_word offset second =
    if is_constant second.opcode then is_offset bytes (whole second.word offset) else
    is_word && (nat_eq bytes 8 && is_zero offset)

-- the constant 3
abbrev pub is_three : Known → Bool
is_three k = is_constant k.opcode && nat_eq k.word 3

module _ (x : Index) where
  -- the conjunction with a constant of one bit
  abbrev pub is_bit_test : Known → Bool
  is_bit_test k =
      is_and k.opcode && (is_constant (known x k.second).opcode && is_bit (known x k.second).word)

  -- the bytes of an access: of a load by its type, of a store by that of its first child
  abbrev pub access_bytes : Opcode → Known → ℕ
  access_bytes opcode.Load8Z k = 1
  access_bytes opcode.Load8S k = 1
  access_bytes opcode.Load16Z k = 2
  access_bytes opcode.Load16S k = 2
  access_bytes opcode.Store8 k = 1
  access_bytes opcode.Store16 k = 2
  access_bytes opcode.Store k = bits (width_at x k.first) / 8
  access_bytes op k = bits (width_of k.ty) / 8

  -- a sum with a constant fits as the pointer of an access where constant and offset together are an offset of its
  -- address; any other sum where the access is one of 8 bytes at offset 0
  abbrev pub pointer_fits : ℕ → Bool → ℤ → Known → Bool
  pointer_fits bytes is_word offset k = is_add k.opcode && reaches bytes is_word offset (known x k.second)

  -- a shift to the left by 3 bits, of no constant
  abbrev pub is_index : Known → Bool
  is_index k =
      is_shl k.opcode && (is_three (known x k.second) && not (is_constant (known x k.first).opcode))

  abbrev pub pointer_of : ℕ → Opcode → Bool → Known → Bool
  pointer_of user op is_word k = pointer_fits (access_bytes op (known x user)) is_word (known x user).offset k

  -- as a first child a comparison fits as the condition of a Branch, a Check or a Select, a test of a bit as that of a
  -- Branch or a Check, and a sum as the pointer of a load
  abbrev pub first_fits : Opcode → ℕ → Known → Bool
  first_fits opcode.Branch user k = is_comparison k.opcode || is_bit_test k
  first_fits opcode.Check user k = is_comparison k.opcode || is_bit_test k
  first_fits opcode.Select user k = is_comparison k.opcode
  first_fits opcode.Load8Z user k = pointer_of user opcode.Load8Z false k
  first_fits opcode.Load8S user k = pointer_of user opcode.Load8S false k
  first_fits opcode.Load16Z user k = pointer_of user opcode.Load16Z false k
  first_fits opcode.Load16S user k = pointer_of user opcode.Load16S false k
  first_fits opcode.Load user k = pointer_of user opcode.Load true k
  first_fits op user k = false

  module _ (pointers : List Bool) where
    -- whether a value is known to be folded as a pointer
    abbrev pub is_pointer : ℕ → Bool
    is_pointer id = slice_index_or pointers (place x id) false

    -- a constant fits as an immediate, or in a sum that is folded as a pointer
    abbrev pub sum_fits : Opcode → ℕ → ℕ → Bool
    sum_fits opcode.Add (suc zero) user = is_pointer user
    sum_fits op at user = false

    -- as a second child a sum fits as the pointer of a store, and a shift in a sum that is folded as a pointer
    abbrev pub second_fits : Opcode → ℕ → Known → Bool
    second_fits opcode.Store8 user k = pointer_of user opcode.Store8 false k
    second_fits opcode.Store16 user k = pointer_of user opcode.Store16 false k
    second_fits opcode.Store user k = pointer_of user opcode.Store true k
    second_fits opcode.Add user k = is_pointer user && is_index k
    second_fits op user k = false

    abbrev pub value_fits : Opcode → ℕ → ℕ → Known → Bool
    value_fits op zero user k = first_fits op user k
    value_fits op (suc zero) user k = second_fits op user k
    value_fits op at user k = false

    -- a constant fits in any block, and any other value in its own
    abbrev pub fits_as : Known → Use → Bool
    fits_as k u =
        if is_constant k.opcode
        then constant_fits u.opcode u.at (width_at x u.id) k.word || sum_fits u.opcode u.at u.user
        else nat_eq u.block k.block && value_fits u.opcode u.at u.user k

    abbrev pub fits : Use → Bool
    fits u = fits_as (known x u.id) u

    -- a constant is folded where each of its uses fits, and any other value where it has one use, which fits
    abbrev pub is_folded_by : List Use → ℕ → Bool
    is_folded_by us id =
        list_all fits (uses_of us id) && (is_constant (known x id).opcode || nat_eq (length (uses_of us id)) 1)

-- for each value of a procedure whether it is folded by itself: which sums are pointers comes first
abbrev pub pointers : Procedure → List Bool
pointers p = map (is_folded_by (index_of p) [] (uses p)) (ids_of p)

-- a value of a procedure is foldable
abbrev pub is_foldable : Procedure → ℕ → Bool
is_foldable p id = is_folded_by (index_of p) (pointers p) (uses p) id
