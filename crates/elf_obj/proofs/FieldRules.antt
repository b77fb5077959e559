-- Fields that are met, and bytes that are as they are to be.
use Rattle.std.proofs.Common.{◌≡◌, ℕ, ◌+◌, ◌<◌, ◌≤◌, ◌^◌, Bool, true, false, cond, eqb, ltb, List, [], ◌∷◌, ◌++◌, Option, Some, None, length, take, drop, refl, sym, ap, ◌∙◌, append_assoc, arith}
use Rattle.std.specs.Prelude.{◌&&◌, bytes_eq}
use Rattle.std.proofs.lemmas.Bool.{ltb-true, eqb-true, eq-eqb, and_parts, false_from_ne_true, cond-true}
use Rattle.std.proofs.lemmas.List.{length-take-le, length-take, take-append-drop, take_at, drop_at, drop-drop}
use Rattle.std.proofs.lemmas.Slice.Eq.{bytes_eq-Decides}
use Rattle.b3_base.specs.Fields.{halves, words, xwords}
use Rattle.elf_obj.specs.declared.field.Number.{Number}
use Rattle.elf_obj.specs.declared.field.Number.TheVariants.{Byte, Half, Word, Long}
use Rattle.elf_obj.specs.declared.field.Field.{Field}
use Rattle.elf_obj.specs.Fields.{spelling, width_of, wanted, offset, position, is_met, fields_fault, differs}

pub length_spelling : (number : Number) → length (spelling number) ≡ width_of number
unfolding halves words xwords
length_spelling (Byte n) = refl
length_spelling (Half n) = refl
length_spelling (Word n) = refl
length_spelling (Long n) = refl

-- bytes that end before a number's last are not the number's
pub too_short : (number : Number) (bytes : List ℕ) → length bytes < width_of number → bytes_eq (take (width_of number) bytes) (spelling number) ≡ false
too_short number bytes short =
    false_from_ne_true _ (λ e.
    let same : take (width_of number) bytes ≡ spelling number = (bytes_eq-Decides (take (width_of number) bytes) (spelling number)).0 e in
    omega (arith, ap (λ (t : List ℕ). length t) same, length_spelling number, length-take (width_of number) bytes))

if_none : (b : Bool) (then : Option ℕ) (at : ℕ) → cond b then (Some at) ≡ None → (b ≡ true) × (then ≡ None)
if_none true then at e = (refl, e)
if_none false then at e = absurd cc

-- where no byte is another, the bytes are the same
pub differs_none : (at : ℕ) (wanted bytes : List ℕ) → differs at wanted bytes ≡ None → bytes ≡ wanted
differs_none at [] [] e = refl
differs_none at [] (b ∷ bytes) e = absurd cc
differs_none at (w ∷ wanted) [] e = absurd cc
differs_none at (w ∷ wanted) (b ∷ bytes) e =
    let p = if_none (eqb w b) (differs (at + 1) wanted bytes) at e in
    let same : w ≡ b = eqb-true w b p.0 in
    let rest : bytes ≡ wanted = differs_none (at + 1) wanted bytes p.1 in
    cc

pub differs_same : (at : ℕ) (wanted : List ℕ) → differs at wanted wanted ≡ None
differs_same at [] = refl
differs_same at (w ∷ wanted) = rw (eq-eqb w w refl) (differs_same (at + 1) wanted)

-- the bytes of fields, one behind the other
abbrev pub spelled : List Field → List ℕ
spelled [] = []
spelled (field ∷ fields) = spelling field.number ++ spelled fields

abbrev pub all_good : List Field → Bool
all_good [] = true
all_good (field ∷ fields) = field.good && all_good fields

pub spelled_append : (xs ys : List Field) → spelled (xs ++ ys) ≡ spelled xs ++ spelled ys
spelled_append [] ys = refl
spelled_append (x ∷ xs) ys = ap (λ (t : List ℕ). spelling x.number ++ t) (spelled_append xs ys) ∙ sym (append_assoc (spelling x.number) (spelled xs) (spelled ys))

both : (a b : Bool) → a ≡ true → b ≡ true → (a && b) ≡ true
both true true e f = refl
both true false e f = f
both false b e f = e

pub good_append : (xs ys : List Field) → all_good (xs ++ ys) ≡ true → (all_good xs ≡ true) × (all_good ys ≡ true)
good_append [] ys e = (refl, e)
good_append (x ∷ xs) ys e =
    let p = and_parts x.good (all_good (xs ++ ys)) e in
    let q = good_append xs ys p.1 in
    (both x.good (all_good xs) p.0 q.0, q.1)

pub good_both : (xs ys : List Field) → all_good xs ≡ true → all_good ys ≡ true → all_good (xs ++ ys) ≡ true
good_both [] ys e f = f
good_both (x ∷ xs) ys e f =
    let p = and_parts x.good (all_good xs) e in
    both x.good (all_good (xs ++ ys)) p.0 (good_both xs ys p.1 f)

-- fields that are all met: each is good, and these are their bytes
pub record AreMet (fields : List Field) (bytes : List ℕ) : Type 0 where
  pub good : all_good fields ≡ true
  pub rest : List ℕ
  pub bytes_are : bytes ≡ spelled fields ++ rest

pub fields_none : (at : ℕ) (fields : List Field) (bytes : List ℕ) → fields_fault at fields bytes ≡ None → AreMet fields bytes
fields_none at [] bytes e = record { good = refl; rest = bytes; bytes_are = refl }
fields_none at (field ∷ fields) bytes e =
    let w : ℕ = width_of field.number in
    let p = if_none (is_met field bytes) (fields_fault (at + w) fields (drop w bytes)) at e in
    let q = and_parts field.good (bytes_eq (take w bytes) (spelling field.number)) p.0 in
    let first : take w bytes ≡ spelling field.number = (bytes_eq-Decides (take w bytes) (spelling field.number)).0 q.1 in
    let others = fields_none (at + w) fields (drop w bytes) p.1 in
    record {
      good = both field.good (all_good fields) q.0 others.good;
      rest = others.rest;
      bytes_are = sym (take-append-drop w bytes) ∙ ap (λ (t : List ℕ). t ++ drop w bytes) first ∙ ap (λ (t : List ℕ). spelling field.number ++ t) others.bytes_are ∙ sym (append_assoc (spelling field.number) (spelled fields) others.rest);
    }

pub fields_again : (at : ℕ) (fields : List Field) (rest : List ℕ) → all_good fields ≡ true → fields_fault at fields (spelled fields ++ rest) ≡ None
fields_again at [] rest good = refl
fields_again at (field ∷ fields) rest good =
    let w : ℕ = width_of field.number in
    let p = and_parts field.good (all_good fields) good in
    let text : spelled (field ∷ fields) ++ rest ≡ spelling field.number ++ (spelled fields ++ rest) = append_assoc (spelling field.number) (spelled fields) rest in
    let first : take w (spelling field.number ++ (spelled fields ++ rest)) ≡ spelling field.number = take_at (spelling field.number) (spelled fields ++ rest) w (length_spelling field.number) in
    let behind : drop w (spelling field.number ++ (spelled fields ++ rest)) ≡ spelled fields ++ rest = drop_at (spelling field.number) (spelled fields ++ rest) w (length_spelling field.number) in
    let same : bytes_eq (spelling field.number) (spelling field.number) ≡ true = (bytes_eq-Decides (spelling field.number) (spelling field.number)).1 refl in
    rw text (rw (p.0, first, same, behind) (fields_again (at + w) fields rest p.1))

-- a number of 64 bits is a field of 8 bytes
pub offset_small : (n : ℕ) → n < 2 ^ 64 → offset n ≡ wanted (Long n)
offset_small n small = cond-true (ltb n (2 ^ 64)) (wanted (Long n)) (record { number = Long 0; good = false }) (grind arith)

-- one that is good has fewer than 64 bits
pub offset_good : (n : ℕ) → (offset n).good ≡ true → n < 2 ^ 64
offset_good n e = grind arith

-- and a number of 32 bits one of 4 bytes
pub position_small : (n : ℕ) (good : Bool) → n < 2 ^ 32 → position n good ≡ record { number = Word n; good = good }
position_small n good small = cond-true (ltb n (2 ^ 32)) (record { number = Word n; good = good }) (record { number = Word 0; good = false }) (grind arith)

pub position_good : (n : ℕ) (good : Bool) → (position n good).good ≡ true → (n < 2 ^ 32) × (good ≡ true)
position_good n good e =
    let by : (b : Bool) → (cond b (field n good) (field 0 false)).good ≡ true → (b ≡ true) × (good ≡ true) = λ b. elim b as (λ b. (cond b (field n good) (field 0 false)).good ≡ true → (b ≡ true) × (good ≡ true)) [ true ↦ λ h. (refl, h) | false ↦ λ h. absurd cc ] in
    let p = by (ltb n (2 ^ 32)) e in
    (ltb-true n (2 ^ 32) p.0, p.1)
  where
    field : ℕ → Bool → Field
    field n good = record { number = Word n; good = good }

-- ---- fields one behind the other

unfoldable pub widths : List Field → ℕ
widths [] = 0
widths (field ∷ fields) = width_of field.number + widths fields

met_cases : {P : Type 0} (b : Bool) (then : Option ℕ) (at : ℕ) (total : Option ℕ) → cond b then (Some at) ≡ total → (b ≡ true → then ≡ total → P) → (b ≡ false → Some at ≡ total → P) → P
met_cases true then at total e met unmet = met refl e
met_cases false then at total e met unmet = unmet refl e

pub fields_go_on : (at : ℕ) (xs ys : List Field) (bytes : List ℕ) → fields_fault at xs bytes ≡ None → fields_fault at (xs ++ ys) bytes ≡ fields_fault (at + widths xs) ys (drop (widths xs) bytes)
unfolding widths
fields_go_on at [] ys bytes e = ap (λ (k : ℕ). fields_fault k ys bytes) (let k : at ≡ at + 0 = omega arith in k)
fields_go_on at (x ∷ xs) ys bytes e =
    let w : ℕ = width_of x.number in
    let p = if_none (is_met x bytes) (fields_fault (at + w) xs (drop w bytes)) at e in
    let more = fields_go_on (at + w) xs ys (drop w bytes) p.1 in
    rw p.0 (more ∙ ap (λ (k : ℕ). fields_fault k ys (drop (widths xs) (drop w bytes))) (let k : at + w + widths xs ≡ at + (w + widths xs) = omega arith in k) ∙ ap (λ (t : List ℕ). fields_fault (at + (w + widths xs)) ys t) (drop-drop (widths xs) w bytes))

pub fields_stop : (at byte : ℕ) (xs ys : List Field) (bytes : List ℕ) → fields_fault at xs bytes ≡ Some byte → fields_fault at (xs ++ ys) bytes ≡ Some byte
fields_stop at byte [] ys bytes e = absurd cc
fields_stop at byte (x ∷ xs) ys bytes e =
    let w : ℕ = width_of x.number in
    met_cases (is_met x bytes) (fields_fault (at + w) xs (drop w bytes)) at (Some byte) e
    (λ met more. rw met (fields_stop (at + w) byte xs ys (drop w bytes) more))
    (λ unmet here. rw unmet here)
