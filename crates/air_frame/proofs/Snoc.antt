-- Places laid out one more at the end.
use Rattle.std.proofs.Common.{◌≡◌, ℕ, suc, ◌+◌, ◌*◌, List, [], ◌∷◌, ◌++◌, length, refl, ap, arith, Bool}
use Rattle.std.proofs.lemmas.List.Sums.{sum_by-cons}
use Rattle.stackmap.specs.declared.site.SavedRow.{SavedRow}
use Rattle.air_frame.specs.Frames.{rounded, slot_bytes}
use Rattle.air_frame.specs.Placing.{flag_bytes, saved_rows, slot_offsets, spill_offsets, word_bytes}

abbrev row : ℕ → ℕ → SavedRow
row r offset = record { reg = record { 0 = r }; offset = offset }

pub saved_push : (low : ℕ) (rs : List ℕ) (r offset : ℕ) → offset ≡ low + 8 * length rs + 8
    → saved_rows low (rs ++ r ∷ []) ≡ saved_rows low rs ++ record { reg = record { 0 = r }; offset = offset } ∷ []
saved_push low [] r offset e = ap (λ o. row r o ∷ []) (omega (arith, e))
saved_push low (x ∷ rs) r offset e = ap (λ rows. row x (low + 8) ∷ rows) (saved_push (low + 8) rs r offset (omega (arith, e)))

pub length-saved_rows : (low : ℕ) (rs : List ℕ) → length (saved_rows low rs) ≡ length rs
length-saved_rows low [] = refl
length-saved_rows low (r ∷ rs) = ap suc (length-saved_rows (low + 8) rs)

pub slots_push : (low : ℕ) (sizes : List ℕ) (size offset : ℕ) → offset ≡ low + slot_bytes sizes + rounded size
    → slot_offsets low (sizes ++ size ∷ []) ≡ slot_offsets low sizes ++ offset ∷ []
slots_push low [] size offset e = ap (λ o. o ∷ []) (omega (arith, e))
slots_push low (x ∷ sizes) size offset e =
    ap (λ os. (low + rounded x) ∷ os) (slots_push (low + rounded x) sizes size offset (omega (arith, e, sum_by-cons rounded x sizes)))

pub spills_push : (low : ℕ) (flags : List Bool) (flag : Bool) (offset : ℕ) → offset ≡ low + word_bytes flags + flag_bytes flag
    → spill_offsets low (flags ++ flag ∷ []) ≡ spill_offsets low flags ++ offset ∷ []
spills_push low [] flag offset e = ap (λ o. o ∷ []) (omega (arith, e))
spills_push low (x ∷ flags) flag offset e =
    ap (λ os. (low + flag_bytes x) ∷ os) (spills_push (low + flag_bytes x) flags flag offset (omega (arith, e, sum_by-cons flag_bytes x flags)))
