-- What the first fields decide stays so, whatever follows them.
use Rattle.std.proofs.Common.{◌≡◌, ℕ, zero, suc, ◌+◌, ◌*◌, ◌^◌, ◌≤◌, Bool, map, List, [], ◌∷◌, ◌++◌, length, Result, Ok, Err, refl, sym, ap, ◌∙◌, arith, length-append}
use Rattle.std.specs.Prelude.{⊤, codes}
use Rattle.std.specs.Int.{w32, from_le_bytes}
use Rattle.stackmap.specs.declared.site.SiteKind.{SiteKind}
use Rattle.exit_table.specs.Good.{Span, slot_span}
use Rattle.exit_table.specs.declared.fault.Cause.{Cause}
use Rattle.exit_table.specs.declared.fault.Fault.{Fault}
use Rattle.exit_table.specs.declared.fault.Fault.TheVariants.{Short, At}
use Rattle.exit_table.specs.Reading.{Reader, and_then, ◌>>=◌, give, placed, one, two, any, is_mark, mark_at, is_zero, rows}
use Rattle.exit_table.specs.FrameReading.{Saving, frame_bytes, slot_offset, slot_of, saved_number, saved_of, returns_of, is_clear, is_count, slot_at, after_slot, saved_at, after_saved, header_at, frame_at, each_frame, after_frame, frames_at}
use Rattle.exit_table.specs.ExitReading.{site_pc, kind_of, site_size, place_count, site_result, site_clobbers, form_of, width_of, rep_of, place_at, after_place, site_from, site_at, after_site, sites_at}
use Rattle.exit_table.specs.Rooms.{Room, room_at}

-- with more fields behind, the same is read and the same fault stands at the same field
abbrev pub Grown : {A : Type 0} → List ℕ → Result (A × List ℕ) Fault → Result (A × List ℕ) Fault → Type 0
Grown more (Ok x) big = big ≡ Ok (x.0, x.1 ++ more)
Grown more (Err Short) big = ⊤
Grown more (Err (At cause left)) big = (1 ≤ left) × (big ≡ Err (At cause (left + length more)))

abbrev pub Grows : {A : Type 0} → Reader A → Type 0
Grows reader = (more fields : List ℕ) → Grown more (reader fields) (reader (fields ++ more))

then_grown : {A B : Type 0} (more : List ℕ) (small big : Result (A × List ℕ) Fault) (f : A → Reader B) → Grown more small big → ((x : A) → Grows (f x)) → Grown more (and_then small (λ x. f x.0 x.1)) (and_then big (λ x. f x.0 x.1))
then_grown more (Ok x) big f h each = rw h (each x.0 more x.1)
then_grown more (Err Short) big f h each = tt
then_grown more (Err (At cause left)) big f h each = (h.0, rw h.1 refl)

bind_grows : {A B : Type 0} (reader : Reader A) (f : A → Reader B) → Grows reader → ((x : A) → Grows (f x)) → Grows (reader >>= f)
bind_grows reader f grows each more fields = then_grown more (reader fields) (reader (fields ++ more)) f (grows more fields) each

give_grows : {A : Type 0} (x : A) → Grows (give x)
give_grows x more fields = refl

placed_grown : {A : Type 0} (more rest : List ℕ) (left : ℕ) (said : Result A Cause) → 1 ≤ left → Grown more (and_then (placed left said) (λ x. Ok (x, rest))) (and_then (placed (left + length more) said) (λ x. Ok (x, rest ++ more)))
placed_grown more rest left (Ok x) some = refl
placed_grown more rest left (Err cause) some = (some, refl)

one_grows : {A : Type 0} (judge : ℕ → Result A Cause) → Grows (one judge)
one_grows judge more [] = tt
one_grows {A} judge more (n ∷ rest) =
    let big : ℕ → Result (A × List ℕ) Fault = λ left. and_then (placed left (judge n)) (λ x. Ok (x, rest ++ more)) in
    let count : length (n ∷ rest) + length more ≡ length (n ∷ rest ++ more) = sym (length-append (n ∷ rest) more) in
    rw (← count) (placed_grown more rest (length (n ∷ rest)) (judge n) (omega arith))

two_grows : {A : Type 0} (judge : ℕ → Result A Cause) → Grows (two judge)
two_grows judge more [] = tt
two_grows judge more (low ∷ []) = tt
two_grows {A} judge more (low ∷ high ∷ rest) =
    let count : length (low ∷ high ∷ rest) + length more ≡ length (low ∷ high ∷ rest ++ more) = sym (length-append (low ∷ high ∷ rest) more) in
    rw (← count) (placed_grown more rest (length (low ∷ high ∷ rest)) (judge (low + 2 ^ 32 * high)) (omega arith))

module _ {K A : Type 0} (row : K → Reader A) (after : K → A → K) where
  rows_grow : ((known : K) → Grows (row known)) → (n : ℕ) (known : K) → Grows (rows row after known n)
  unfolding rows
  rows_grow grows zero known more fields = refl
  rows_grow grows (suc n) known more fields =
      then_grown more (row known fields) (row known (fields ++ more)) (λ first. rows row after (after known first) n >>= λ others. give (first ∷ others)) (grows known more fields)
      (λ first. bind_grows (rows row after (after known first) n) (λ others. give (first ∷ others)) (rows_grow grows n (after known first)) (λ others. give_grows (first ∷ others)))

mark_grows : (mark : ℕ) → Grows (mark_at mark)
unfolding mark_at
mark_grows mark = bind_grows _ _ (one_grows (is_mark mark)) (λ m. bind_grows _ _ (one_grows (is_mark 1)) (λ v. give_grows tt))

slot_grows : (bytes : ℕ) (clear : Span → Bool) → Grows (slot_at bytes clear)
unfolding slot_at
slot_grows bytes clear = bind_grows _ _ (one_grows (slot_offset bytes)) (λ offset. bind_grows _ _ (one_grows (slot_of clear offset)) (λ slot. give_grows slot))

saved_grows : (bytes : ℕ) (known : Saving) → Grows (saved_at bytes known)
unfolding saved_at
saved_grows bytes known = bind_grows _ _ (one_grows (saved_number known.least)) (λ number. bind_grows _ _ (one_grows (saved_of bytes known.clear number)) (λ saved. give_grows saved))

header_grows : Grows header_at
unfolding header_at
header_grows = bind_grows _ _ (one_grows frame_bytes) (λ bytes. bind_grows _ _ (one_grows any) (λ slots. bind_grows _ _ (one_grows any) (λ saved. bind_grows _ _ (one_grows returns_of) (λ returns. give_grows _))))

frame_grows : (known : ⊤) → Grows (each_frame known)
unfolding frame_at
frame_grows known =
    bind_grows _ _ header_grows (λ header. bind_grows _ _ (rows_grow (slot_at header.bytes) after_slot (slot_grows header.bytes) header.slots (is_clear []))
    (λ slots. bind_grows _ _ (rows_grow (saved_at header.bytes) after_saved (saved_grows header.bytes) header.saved (record { clear = is_clear (map slot_span slots); least = 0 })) (λ saved. give_grows _)))

frames_grow : (procedures : ℕ) → Grows (frames_at procedures)
unfolding frames_at
frames_grow procedures =
    bind_grows _ _ (mark_grows (from_le_bytes w32 (codes "B3FR"))) (λ mark. bind_grows _ _ (one_grows (is_count procedures)) (λ count. bind_grows _ _ (one_grows is_zero)
    (λ unused. bind_grows _ _ (rows_grow each_frame after_frame frame_grows procedures tt) give_grows)))

place_grows : (kind : SiteKind) (room : Room) (i : ℕ) → Grows (place_at kind room i)
unfolding place_at
place_grows kind room i = bind_grows _ _ (one_grows form_of) (λ form. bind_grows _ _ (one_grows width_of) (λ width. bind_grows _ _ (two_grows (rep_of kind room i width form)) (λ at. give_grows _)))

from_grows : (pc : ℕ) (room : Room) → Grows (site_from pc room)
unfolding site_from
from_grows pc room =
    bind_grows _ _ (one_grows kind_of) (λ kind. bind_grows _ _ (one_grows any) (λ value. bind_grows _ _ (one_grows (site_size kind pc room.end)) (λ size. bind_grows _ _ (one_grows (place_count kind))
    (λ count. bind_grows _ _ (one_grows (site_result kind)) (λ answer. bind_grows _ _ (one_grows (site_clobbers kind)) (λ clobbers. bind_grows _ _ (one_grows is_zero)
    (λ unused. bind_grows _ _ (rows_grow (place_at kind room) after_place (place_grows kind room) count 0) (λ reps. give_grows _))))))))

site_grows : (rooms : List Room) (end : ℕ) → Grows (site_at rooms end)
unfolding site_at
site_grows rooms end = bind_grows _ _ (one_grows (site_pc end)) (λ pc. bind_grows _ _ (from_grows pc (room_at rooms pc)) give_grows)

sites_grow : (rooms : List Room) → Grows (sites_at rooms)
unfolding sites_at
sites_grow rooms =
    bind_grows _ _ (mark_grows (from_le_bytes w32 (codes "B3EX"))) (λ mark. bind_grows _ _ (one_grows any) (λ count. bind_grows _ _ (one_grows is_zero)
    (λ unused. bind_grows _ _ (rows_grow (site_at rooms) after_site (site_grows rooms) count 0) give_grows)))

-- how many fields are left at a fault
abbrev left_at : {A : Type 0} → Result A Fault → ℕ
left_at (Err (At cause left)) = left
left_at (Err Short) = 0
left_at (Ok x) = 0

-- a fault at or behind the place of a cut is not one before it
cut : {A : Type 0} (more : List ℕ) (small big : Result (A × List ℕ) Fault) (cause : Cause) (left : ℕ) → Grown more small big → big ≡ Err (At cause left) → left ≤ length more → small ≡ Err Short
cut more (Ok x) big cause left h e within = absurd cc
cut more (Err Short) big cause left h e within = refl
cut more (Err (At other k)) big cause left h e within =
    let same : k + length more ≡ left = ap left_at (sym h.1 ∙ e) in
    absurd (omega (arith, h.0, same, within))

-- Cut anywhere before the field of its first fault, a section has no fault but that it ends there.
pub frames_cut : (procedures : ℕ) (front back : List ℕ) (cause : Cause) (left : ℕ) → frames_at procedures (front ++ back) ≡ Err (At cause left) → left ≤ length back → frames_at procedures front ≡ Err Short
frames_cut procedures front back cause left e within = cut back (frames_at procedures front) (frames_at procedures (front ++ back)) cause left (frames_grow procedures back front) e within

pub sites_cut : (rooms : List Room) (front back : List ℕ) (cause : Cause) (left : ℕ) → sites_at rooms (front ++ back) ≡ Err (At cause left) → left ≤ length back → sites_at rooms front ≡ Err Short
sites_cut rooms front back cause left e within = cut back (sites_at rooms front) (sites_at rooms (front ++ back)) cause left (sites_grow rooms back front) e within

-- a fault that the first fields decide stays
stays : {A : Type 0} (more : List ℕ) (small big : Result (A × List ℕ) Fault) (cause : Cause) (left : ℕ) → Grown more small big → small ≡ Err (At cause left) → big ≡ Err (At cause (left + length more))
stays more (Ok x) big cause left h e = absurd cc
stays more (Err Short) big cause left h e = absurd cc
stays more (Err (At other k)) big cause left h e =
    let is : other ≡ cause = cc in
    let same : k ≡ left = cc in
    h.1 ∙ rw (is, same) refl

-- Whatever follows, a first fault stands at the same field.
pub frames_stay : (procedures : ℕ) (front more : List ℕ) (cause : Cause) (left : ℕ) → frames_at procedures front ≡ Err (At cause left) → frames_at procedures (front ++ more) ≡ Err (At cause (left + length more))
frames_stay procedures front more cause left e = stays more (frames_at procedures front) (frames_at procedures (front ++ more)) cause left (frames_grow procedures more front) e

pub sites_stay : (rooms : List Room) (front more : List ℕ) (cause : Cause) (left : ℕ) → sites_at rooms front ≡ Err (At cause left) → sites_at rooms (front ++ more) ≡ Err (At cause (left + length more))
sites_stay rooms front more cause left e = stays more (sites_at rooms front) (sites_at rooms (front ++ more)) cause left (sites_grow rooms more front) e
