-- Entries that are looked at one after the other, as a loop does.
use Rattle.std.proofs.Common.{◌≡◌, ℕ, zero, suc, ◌+◌, ◌-◌, ◌*◌, ◌<◌, ◌≤◌, ◌^◌, Bool, true, false, cond, eqb, ltb, List, [], ◌∷◌, ◌++◌, Option, Some, None, length, drop, refl, sym, ap, ◌∙◌, arith}
use Rattle.std.specs.Prelude.{◌&&◌, not, bytes_eq}
use Rattle.std.proofs.lemmas.Bool.{eq-eqb, eqb-true, false_from_ne_true}
use Rattle.elf_obj.specs.declared.object.Symbol.{Symbol}
use Rattle.elf_obj.specs.declared.field.Number.TheVariants.{Word, Long}
use Rattle.elf_obj.specs.declared.field.Field.{Field}
use Rattle.elf_obj.specs.Fields.{wanted, offset, position, width_of, fields_fault}
use Rattle.elf_obj.specs.Reading.{long_at, name_in, symbols_at, is_new_name, is_size, is_last, entry_fields, entries_fields}
use Rattle.elf_obj.proofs.FieldRules.{widths, fields_go_on, fields_stop}

cond_width : (b : Bool) (x y : Field) (n : ℕ) → width_of x.number ≡ n → width_of y.number ≡ n → width_of (cond b x y).number ≡ n
cond_width true x y n e f = e
cond_width false x y n e f = f

entry_width : (at start size : ℕ) (named good : Bool) → widths (entry_fields at named start size good) ≡ 24
unfolding widths
entry_width at start size named good =
    let first : width_of (position at named).number ≡ 4 = cond_width (ltb at (2 ^ 32)) (record { number = Word at; good = named }) (record { number = Word 0; good = false }) 4 refl refl in
    let fifth : width_of (offset start).number ≡ 8 = cond_width (ltb start (2 ^ 64)) (wanted (Long start)) (record { number = Long 0; good = false }) 8 refl refl in
    omega (arith, first, fifth)

last_same : (names : List ℕ) (at n i count : ℕ) (entries : List ℕ) → n + (i + 1) ≡ count → eqb (i + 1) count ≡ is_last (symbols_at names at n entries)
last_same names at zero i count entries e = eq-eqb (i + 1) count (omega (arith, e))
last_same names at (suc n) i count entries e = false_from_ne_true _ (λ t. let same : i + 1 ≡ count = eqb-true (i + 1) count t in omega (arith, e, same))

module _ (names : List ℕ) (text : ℕ) where
  -- the first fault of so many entries, after those of these names
  abbrev pub fault_from : List (List ℕ) → ℕ → ℕ → ℕ → ℕ → List ℕ → Option ℕ
  fault_from earlier at name_at start n left = fields_fault at (entries_fields names text earlier name_at start (symbols_at names name_at n left)) left

  module _ (earlier : List (List ℕ)) (at name_at start count i : ℕ) (left : List ℕ) where
    abbrev name : List ℕ
    name = name_in (drop name_at names)

    abbrev size : ℕ
    size = long_at 16 left

    abbrev behind : List Symbol
    behind = symbols_at names (name_at + length name + 1) (count - (i + 1)) (drop 24 left)

    abbrev first : List Field
    first = entry_fields name_at (is_new_name names earlier name_at name) start size (is_size text start (is_last behind) size)

    abbrev later : List Field
    later = entries_fields names text (earlier ++ name ∷ []) (name_at + length name + 1) (start + size) behind

    one_more : i < count → fault_from earlier at name_at start (count - i) left ≡ fields_fault at (first ++ later) left
    one_more lt =
        let k : count - i ≡ suc (count - (i + 1)) = omega arith in
        ap (λ (n : ℕ). fault_from earlier at name_at start n left) k

    -- the entry as the loop looks at it
    abbrev pub looked_at : List Field
    looked_at = entry_fields name_at true start size (is_size text start (eqb (i + 1) count) size)

    same_entry : i < count → is_new_name names earlier name_at name ≡ true → looked_at ≡ first
    same_entry lt named =
        ap (λ (last : Bool). entry_fields name_at true start size (is_size text start last size)) (last_same names (name_at + length name + 1) (count - (i + 1)) i count (drop 24 left) (omega arith))
        ∙ ap (λ (n : Bool). entry_fields name_at n start size (is_size text start (is_last behind) size)) (sym named)

    pub entry_stops : (byte : ℕ) → i < count → is_new_name names earlier name_at name ≡ true → fields_fault at looked_at left ≡ Some byte → fault_from earlier at name_at start (count - i) left ≡ Some byte
    entry_stops byte lt named e =
        one_more lt ∙ fields_stop at byte first later left (ap (λ (f : List Field). fields_fault at f left) (sym (same_entry lt named)) ∙ e)

    pub entry_goes_on : i < count → is_new_name names earlier name_at name ≡ true → fields_fault at looked_at left ≡ None → fault_from earlier at name_at start (count - i) left ≡ fault_from (earlier ++ name ∷ []) (at + 24) (name_at + length name + 1) (start + size) (count - (i + 1)) (drop 24 left)
    entry_goes_on lt named e =
        one_more lt
        ∙ fields_go_on at first later left (ap (λ (f : List Field). fields_fault at f left) (sym (same_entry lt named)) ∙ e)
        ∙ ap (λ (w : ℕ). fields_fault (at + w) later (drop w left)) (entry_width name_at start size (is_new_name names earlier name_at name) (is_size text start (is_last behind) size))

    pub entry_refused : i < count → is_new_name names earlier name_at name ≡ false → fault_from earlier at name_at start (count - i) left ≡ Some at
    entry_refused lt named =
        let bad : (position name_at (is_new_name names earlier name_at name)).good ≡ false = ap (λ (n : Bool). (position name_at n).good) named ∙ never name_at in
        one_more lt ∙ rw bad refl
      where
        never_by : (b : Bool) (x y : Field) → x.good ≡ false → y.good ≡ false → (cond b x y).good ≡ false
        never_by true x y e f = e
        never_by false x y e f = f

        never : (n : ℕ) → (position n false).good ≡ false
        never n = never_by (ltb n (2 ^ 32)) (record { number = Word n; good = false }) (record { number = Word 0; good = false }) refl refl
