-- Sites that are good one after the other are good sites, and the other way.
use Rattle.std.proofs.Common.{◌≡◌, ℕ, zero, suc, ◌+◌, ◌*◌, ◌≤◌, ◌<◌, inl, inr, Bool, true, false, cond, ltb, List, [], ◌∷◌, length, take, Option, Some, None, refl, sym, ap, subst, ◌∙◌, arith}
use Rattle.std.specs.Prelude.{IsSomeAnd, IfSome, slice_get, ◌||◌}
use Rattle.std.specs.List.{AllByRecursion}
use Rattle.std.proofs.lemmas.Bool.{cases_lt, eqb-true, eq-eqb, leb-true, le-leb, ltb-true, lt-ltb, le-ltb, and_parts, and_from, or_cases}
use Rattle.std.proofs.lemmas.List.{nil_from_length}
use Rattle.std.proofs.lemmas.List.Elements.{All-from_recursion, recursion_from_All}
use Rattle.std.proofs.lemmas.List.Sums.{sum_by-cons}
use Rattle.b3_base.specs.declared.word.Width.{Width}
use Rattle.b3_base.specs.declared.range.Range.{Range}
use Rattle.b3_ir.specs.declared.value.Reg.{Reg}
use Rattle.stackmap.specs.declared.site.Rep.{Rep}
use Rattle.stackmap.specs.declared.site.Rep.TheVariants.{Register, Slot, Constant}
use Rattle.stackmap.specs.declared.site.SiteKind.{SiteKind}
use Rattle.stackmap.specs.declared.site.SiteKind.TheVariants.{Call, Patchpoint, Exit, Trap}
use Rattle.stackmap.specs.declared.site.Place.{Place}
use Rattle.stackmap.specs.declared.site.Site.{Site}
use Rattle.exit_table.specs.declared.tables.FrameRow.{FrameRow}
use Rattle.exit_table.specs.declared.tables.SiteRow.{SiteRow}
use Rattle.exit_table.specs.Good.{start_of, word_span, spans_of, IsGoodRep, AreRegistersFrom, IsGoodKind, StandsIn, IsGoodSite, AreInOrder, HasFewPlaces}
use Rattle.exit_table.specs.Rooms.{AreJoined, lengths_of, Room, room, rooms_of, room_at}
use Rattle.exit_table.specs.FrameReading.{is_clear}
use Rattle.exit_table.specs.ExitReading.{may_have, may_report, may_answer, may_change, is_argument, is_good_rep, may_stand, after_place, after_site}
use Rattle.exit_table.proofs.Rows.{AllAfter}
use Rattle.exit_table.proofs.GoodFrames.{word_true, word_again}
use Rattle.exit_table.proofs.Clobbers.{call_clobbers, clobbers_call, patchpoint_clobbers, clobbers_patchpoint}
use Rattle.exit_table.proofs.ExitLaws.{IsPlaceAfter, IsSiteOf, IsSiteAfter}

-- ---- the procedure of a site

-- the room of a procedure that begins at a byte
abbrev room_from : ℕ → ℕ → FrameRow → Room
room_from start size frame = record { end = start + size; bytes = frame.bytes; clear = is_clear (spans_of frame) }

record IsFound (start : ℕ) (extents : List Range) (frames : List FrameRow) (pc : ℕ) : Type 0 where
  pub procedure : ℕ
  pub size : ℕ
  pub frame : FrameRow
  pub size_is : slice_get (lengths_of extents) procedure ≡ Some size
  pub frame_is : slice_get frames procedure ≡ Some frame
  pub begins : start + start_of (lengths_of extents) procedure ≤ pc
  pub room_is : room_at (rooms_of extents frames) pc ≡ room_from (start + start_of (lengths_of extents) procedure) size frame

-- where procedures begin
start_next : (size : ℕ) (sizes : List ℕ) (k : ℕ) → start_of (size ∷ sizes) (suc k) ≡ size + start_of sizes k
start_next size sizes k = sum_by-cons (λ x. x) size (take k sizes)

first_room_is : (start : ℕ) (extent : Range) (frame : FrameRow) → extent.first ≡ start → room extent frame ≡ room_from (start + 0) extent.len frame
first_room_is start extent frame is =
    let end : extent.first + extent.len ≡ start + 0 + extent.len = omega arith in
    ap (λ (n : ℕ). record { end = n; bytes = frame.bytes; clear = is_clear (spans_of frame) }) end

below_room : (pc : ℕ) (b : Bool) (here there : Room) → b ≡ false → pc < (cond b here there).end → pc < there.end
below_room pc true here there is lt = absurd cc
below_room pc false here there is lt = lt

not_here : (b : Bool) (here there : Room) → b ≡ false → cond b here there ≡ there
not_here true here there is = absurd cc
not_here false here there is = refl

found : (start : ℕ) (extents : List Range) (frames : List FrameRow) (pc : ℕ) → AreJoined start extents → start ≤ pc → pc < (room_at (rooms_of extents frames) pc).end → IsFound start extents frames pc
found start [] frames pc joined le lt = absurd (omega arith)
found start (extent ∷ extents) [] pc joined le lt = absurd (omega arith)
found start (extent ∷ extents) (frame ∷ frames) pc joined le lt =
    let first : extent.first ≡ start = joined.0 in
    elim (cases_lt pc (extent.first + extent.len)) [
      | inl within ↦ record {
        procedure = 0;
        size = extent.len;
        frame = frame;
        size_is = refl;
        frame_is = refl;
        begins = let none : start_of (lengths_of (extent ∷ extents)) 0 ≡ 0 = refl in omega arith;
        room_is = rw (lt-ltb _ _ within) (first_room_is start extent frame first);
      }
      | inr behind ↦
          let later : pc < (room_at (rooms_of extents frames) pc).end = below_room pc (ltb pc (extent.first + extent.len)) (room extent frame) (room_at (rooms_of extents frames) pc) (le-ltb pc (extent.first + extent.len) behind) lt in
          let more = found (start + extent.len) extents frames pc joined.1 (omega arith) later in
          let from : start + extent.len + start_of (lengths_of extents) more.procedure ≡ start + start_of (lengths_of (extent ∷ extents)) (suc more.procedure) = omega (arith, start_next extent.len (lengths_of extents) more.procedure) in
          record {
            procedure = suc more.procedure;
            size = more.size;
            frame = more.frame;
            size_is = more.size_is;
            frame_is = more.frame_is;
            begins = let b = more.begins in omega arith;
            room_is = not_here (ltb pc (extent.first + extent.len)) (room extent frame) (room_at (rooms_of extents frames) pc) (le-ltb pc (extent.first + extent.len) behind) ∙ (more.room_is ∙ ap (λ (n : ℕ). room_from n more.size more.frame) from);
          }
    ]

-- the procedure of a site is found
is_found : (start : ℕ) (extents : List Range) (frames : List FrameRow) (k size : ℕ) (frame : FrameRow) (pc : ℕ) → AreJoined start extents → slice_get (lengths_of extents) k ≡ Some size → slice_get frames k ≡ Some frame
    → start + start_of (lengths_of extents) k ≤ pc → pc < start + start_of (lengths_of extents) k + size → room_at (rooms_of extents frames) pc ≡ room_from (start + start_of (lengths_of extents) k) size frame
is_found start [] frames zero size frame pc joined size_is frame_is begins ends = absurd cc
is_found start [] frames (suc k) size frame pc joined size_is frame_is begins ends = absurd cc
is_found start (extent ∷ extents) [] zero size frame pc joined size_is frame_is begins ends = absurd cc
is_found start (extent ∷ extents) [] (suc k) size frame pc joined size_is frame_is begins ends = absurd cc
is_found start (extent ∷ extents) (row ∷ frames) zero size frame pc joined size_is frame_is begins ends =
    let first : extent.first ≡ start = joined.0 in
    let is_size : extent.len ≡ size = cc in
    let is_frame : row ≡ frame = cc in
    rw (lt-ltb pc (extent.first + extent.len) (omega arith)) (first_room_is start extent row first ∙ ap (λ (n : ℕ). room_from (start + 0) n row) is_size ∙ ap (λ (f : FrameRow). room_from (start + 0) size f) is_frame)
is_found start (extent ∷ extents) (row ∷ frames) (suc k) size frame pc joined size_is frame_is begins ends =
    let first : extent.first ≡ start = joined.0 in
    let from : start + extent.len + start_of (lengths_of extents) k ≡ start + start_of (lengths_of (extent ∷ extents)) (suc k) = omega (arith, start_next extent.len (lengths_of extents) k) in
    rw (le-ltb pc (extent.first + extent.len) (omega arith))
    (is_found (start + extent.len) extents frames k size frame pc joined.1 size_is frame_is (omega arith) (omega arith) ∙ ap (λ (n : ℕ). room_from n size frame) from)

-- ---- what a site reports

rep_good : (end : ℕ) (frame : FrameRow) (width : Width) (at : Rep) → is_good_rep (record { end = end; bytes = frame.bytes; clear = is_clear (spans_of frame) }) width at ≡ true → IsGoodRep frame width at
rep_good end frame width (Register reg) e = elim (or_cases _ _ e) [ inl low ↦ inl (leb-true _ _ low) | inr high ↦ let p = and_parts _ _ high in inr (leb-true _ _ p.0, leb-true _ _ p.1) ]
rep_good end frame width (Slot offset) e = word_true frame.bytes (spans_of frame) (word_span width offset) e
rep_good end frame width (Constant value) e = ltb-true _ _ e

true_or : (x y : Bool) → x ≡ true → (x || y) ≡ true
true_or true y e = refl
true_or false y e = absurd cc

or_true : (x y : Bool) → y ≡ true → (x || y) ≡ true
or_true true y e = refl
or_true false y e = e

good_rep : (end : ℕ) (frame : FrameRow) (width : Width) (at : Rep) → IsGoodRep frame width at → is_good_rep (record { end = end; bytes = frame.bytes; clear = is_clear (spans_of frame) }) width at ≡ true
good_rep end frame width (Register reg) (inl low) = true_or _ _ (le-leb _ _ low)
good_rep end frame width (Register reg) (inr high) = or_true _ _ (and_from _ _ (le-leb _ _ high.0) (le-leb _ _ high.1))
good_rep end frame width (Slot offset) good = word_again frame.bytes (spans_of frame) (word_span width offset) good.0 good.1
good_rep end frame width (Constant value) good = lt-ltb _ _ good

-- an argument of a call
argument_is : (i : ℕ) (at : Rep) → is_argument i at ≡ true → (at ≡ Register (record { 0 = i })) × (i ≤ 7)
argument_is i (Register reg) e =
    let p = and_parts _ _ e in
    let is : reg.0 ≡ i = eqb-true _ _ p.1 in
    let le : reg.0 ≤ 7 = leb-true _ _ p.0 in
    (ap (λ (n : ℕ). Register (record { 0 = n })) is, omega arith)
argument_is i (Slot offset) e = absurd cc
argument_is i (Constant value) e = absurd cc

is_argument_again : (i : ℕ) (at : Rep) → i ≤ 7 → at ≡ Register (record { 0 = i }) → is_argument i at ≡ true
is_argument_again i at le is = subst (λ (r : Rep). is_argument i r ≡ true) (sym is) (and_from _ _ (le-leb _ _ le) (eq-eqb i i refl))

arguments : (room : Room) (i : ℕ) (reps : List Place) → AllAfter (IsPlaceAfter Call room) after_place i reps → AreRegistersFrom i reps
arguments room i [] good = tt
arguments room i (place ∷ reps) good = ((argument_is i place.rep good.0).0, arguments room (i + 1) reps good.1)

arguments_stand : (frame : FrameRow) (room : Room) (i : ℕ) (reps : List Place) → AllAfter (IsPlaceAfter Call room) after_place i reps → AllByRecursion (λ place. IsGoodRep frame place.width place.rep) reps
arguments_stand frame room i [] good = tt
arguments_stand frame room i (place ∷ reps) good =
    let is = argument_is i place.rep good.0 in
    let low : i ≤ 14 = omega (arith, is.1) in
    (subst (λ (r : Rep). IsGoodRep frame place.width r) (sym is.0) (inl low), arguments_stand frame room (i + 1) reps good.1)

arguments_again : (room : Room) (i : ℕ) (reps : List Place) → i + length reps ≤ 8 → AreRegistersFrom i reps → AllAfter (IsPlaceAfter Call room) after_place i reps
arguments_again room i [] few good = tt
arguments_again room i (place ∷ reps) few good = (is_argument_again i place.rep (omega arith) good.0, arguments_again room (i + 1) reps (omega arith) good.1)

-- a kind whose places are any good ones
abbrev IsFree : SiteKind → Type 0
IsFree kind = (room : Room) (i : ℕ) (width : Width) (at : Rep) → may_stand kind room i width at ≡ is_good_rep room width at

places_good : (kind : SiteKind) (end : ℕ) (frame : FrameRow) (i : ℕ) (reps : List Place) → IsFree kind → AllAfter (IsPlaceAfter kind (record { end = end; bytes = frame.bytes; clear = is_clear (spans_of frame) })) after_place i reps
    → AllByRecursion (λ place. IsGoodRep frame place.width place.rep) reps
places_good kind end frame i [] free good = tt
places_good kind end frame i (place ∷ reps) free good =
    let room : Room = record { end = end; bytes = frame.bytes; clear = is_clear (spans_of frame) } in
    (rep_good end frame place.width place.rep (sym (free room i place.width place.rep) ∙ good.0), places_good kind end frame (i + 1) reps free good.1)

places_again : (kind : SiteKind) (end : ℕ) (frame : FrameRow) (i : ℕ) (reps : List Place) → IsFree kind → AllByRecursion (λ place. IsGoodRep frame place.width place.rep) reps
    → AllAfter (IsPlaceAfter kind (record { end = end; bytes = frame.bytes; clear = is_clear (spans_of frame) })) after_place i reps
places_again kind end frame i [] free good = tt
places_again kind end frame i (place ∷ reps) free good =
    let room : Room = record { end = end; bytes = frame.bytes; clear = is_clear (spans_of frame) } in
    (free room i place.width place.rep ∙ good_rep end frame place.width place.rep good.0, places_again kind end frame (i + 1) reps free good.1)

-- ---- kinds

abbrev site_of : SiteKind → ℕ → ℕ → List Place → Option (Width × Reg) → ℕ → Site
site_of kind value size reps answer clobbers = record { kind = kind; value = value; size = size; reps = reps; result = answer; clobbers = clobbers }

abbrev room_in : ℕ → FrameRow → Room
room_in end frame = record { end = end; bytes = frame.bytes; clear = is_clear (spans_of frame) }

call_answers : (answer : Option (Width × Reg)) → may_answer Call answer ≡ true → IfSome answer (λ result. result.1.0 ≡ 0)
call_answers None e = tt
call_answers (Some x) e = eqb-true _ _ e

patchpoint_answers : (answer : Option (Width × Reg)) → may_answer Patchpoint answer ≡ true → IfSome answer (λ result. result.1.0 ≤ 30)
patchpoint_answers None e = tt
patchpoint_answers (Some x) e = leb-true _ _ e

no_answer : (answer : Option (Width × Reg)) → may_answer Exit answer ≡ true → answer ≡ None
no_answer None e = refl
no_answer (Some x) e = absurd cc

kind_good : (kind : SiteKind) (end : ℕ) (frame : FrameRow) (value size : ℕ) (reps : List Place) (answer : Option (Width × Reg)) (clobbers : ℕ)
    → may_have kind size ≡ true → may_report kind (length reps) ≡ true → may_answer kind answer ≡ true → may_change kind clobbers ≡ true → AllAfter (IsPlaceAfter kind (room_in end frame)) after_place 0 reps
    → IsGoodKind kind (site_of kind value size reps answer clobbers) × AllByRecursion (λ place. IsGoodRep frame place.width place.rep) reps
kind_good Call end frame value size reps answer clobbers has reports answers changes places = (
  record { size = eqb-true _ _ has; arguments = arguments (room_in end frame) 0 reps places; few = leb-true _ _ reports; answers = call_answers answer answers; clobbers = call_clobbers clobbers (eqb-true _ _ changes) },
  arguments_stand frame (room_in end frame) 0 reps places,
)
kind_good Patchpoint end frame value size reps answer clobbers has reports answers changes places =
    let words = and_parts _ _ has in
    let bits = and_parts _ _ changes in (
      record { least = leb-true _ _ words.0; most = leb-true _ _ words.1; answers = patchpoint_answers answer answers; clobbers = patchpoint_clobbers clobbers (ltb-true _ _ bits.0) (eqb-true _ _ bits.1) },
      places_good Patchpoint end frame 0 reps (λ room i width at. refl) places,
    )
kind_good Exit end frame value size reps answer clobbers has reports answers changes places = (
  record { size = eqb-true _ _ has; answers = no_answer answer answers; clobbers = eqb-true _ _ changes },
  places_good Exit end frame 0 reps (λ room i width at. refl) places,
)
kind_good Trap end frame value size reps answer clobbers has reports answers changes places = (
  record { size = eqb-true _ _ has; reports = nil_from_length reps (eqb-true _ _ reports); answers = no_answer answer answers; clobbers = eqb-true _ _ changes },
  places_good Trap end frame 0 reps (λ room i width at. refl) places,
)

record IsAllowed (kind : SiteKind) (end : ℕ) (frame : FrameRow) (size : ℕ) (reps : List Place) (answer : Option (Width × Reg)) (clobbers : ℕ) : Type 0 where
  pub has : may_have kind size ≡ true
  pub reports : may_report kind (length reps) ≡ true
  pub answers : may_answer kind answer ≡ true
  pub changes : may_change kind clobbers ≡ true
  pub places : AllAfter (IsPlaceAfter kind (room_in end frame)) after_place 0 reps

answers_call : (answer : Option (Width × Reg)) → IfSome answer (λ result. result.1.0 ≡ 0) → may_answer Call answer ≡ true
answers_call None h = refl
answers_call (Some x) h = eq-eqb _ _ h

answers_patchpoint : (answer : Option (Width × Reg)) → IfSome answer (λ result. result.1.0 ≤ 30) → may_answer Patchpoint answer ≡ true
answers_patchpoint None h = refl
answers_patchpoint (Some x) h = le-leb _ _ h

answers_none : (answer : Option (Width × Reg)) → answer ≡ None → may_answer Exit answer ≡ true
answers_none None h = refl
answers_none (Some x) h = absurd cc

kind_allowed : (kind : SiteKind) (end : ℕ) (frame : FrameRow) (value size : ℕ) (reps : List Place) (answer : Option (Width × Reg)) (clobbers : ℕ)
    → IsGoodKind kind (site_of kind value size reps answer clobbers) → AllByRecursion (λ place. IsGoodRep frame place.width place.rep) reps → IsAllowed kind end frame size reps answer clobbers
kind_allowed Call end frame value size reps answer clobbers good places = record {
  has = eq-eqb _ _ good.size;
  reports = le-leb _ _ good.few;
  answers = answers_call answer good.answers;
  changes = eq-eqb _ _ (clobbers_call clobbers good.clobbers);
  places = arguments_again (room_in end frame) 0 reps (let few : length reps ≤ 8 = good.few in omega arith) good.arguments;
}
kind_allowed Patchpoint end frame value size reps answer clobbers good places =
    let bits = clobbers_patchpoint clobbers good.clobbers in
    record {
      has = and_from _ _ (le-leb _ _ good.least) (le-leb _ _ good.most);
      reports = refl;
      answers = answers_patchpoint answer good.answers;
      changes = and_from _ _ (lt-ltb _ _ bits.0) (eq-eqb _ _ bits.1);
      places = places_again Patchpoint end frame 0 reps (λ room i width at. refl) places;
    }
kind_allowed Exit end frame value size reps answer clobbers good places = record {
  has = eq-eqb _ _ good.size;
  reports = refl;
  answers = answers_none answer good.answers;
  changes = eq-eqb _ _ good.clobbers;
  places = places_again Exit end frame 0 reps (λ room i width at. refl) places;
}
kind_allowed Trap end frame value size reps answer clobbers good places = record {
  has = eq-eqb _ _ good.size;
  reports = eq-eqb _ _ (ap length good.reports);
  answers = answers_none answer good.answers;
  changes = eq-eqb _ _ good.clobbers;
  places = places_again Trap end frame 0 reps (λ room i width at. refl) places;
}

-- a site has a word
has_word : (kind : SiteKind) (size : ℕ) → may_have kind size ≡ true → 1 ≤ size
has_word Call size e = let is : size ≡ 1 = eqb-true _ _ e in omega arith
has_word Patchpoint size e = leb-true _ _ (and_parts _ _ e).0
has_word Exit size e = let is : size ≡ 1 = eqb-true _ _ e in omega arith
has_word Trap size e = let is : size ≡ 1 = eqb-true _ _ e in omega arith

-- ---- sites

abbrev sized : List ℕ → List FrameRow → ℕ → SiteRow → Option ℕ → Option FrameRow → Type 0
sized sizes frames k row size frame = IsSomeAnd size (λ size. IsSomeAnd frame (λ frame. StandsIn (start_of sizes k) size frame row))

site_good : (extents : List Range) (frames : List FrameRow) (row : SiteRow) → AreJoined 0 extents → IsSiteOf (room_at (rooms_of extents frames) row.pc) row → IsGoodSite (lengths_of extents) frames row
site_good extents frames row joined of =
    let size = and_parts _ _ of.size in
    let ends : row.pc + 4 * row.site.size ≤ (room_at (rooms_of extents frames) row.pc).end = leb-true _ _ size.1 in
    let some : 1 ≤ row.site.size = has_word row.site.kind row.site.size size.0 in
    let at = found 0 extents frames row.pc joined (omega arith) (omega arith) in
    let start : ℕ = start_of (lengths_of extents) at.procedure in
    let here : IsSiteOf (room_from (0 + start) at.size at.frame) row = subst (λ (r : Room). IsSiteOf r row) at.room_is of in
    let kind = kind_good row.site.kind (0 + start + at.size) at.frame row.site.value row.site.size row.site.reps row.site.result row.site.clobbers size.0 here.count here.answer here.clobbers here.places in
    let within : row.pc + 4 * row.site.size ≤ 0 + start + at.size = leb-true _ _ (and_parts _ _ here.size).1 in
    let begins : 0 + start ≤ row.pc = at.begins in
    let stands : StandsIn start at.size at.frame row = record { begins = omega arith; ends = omega arith; value = here.value; kind = kind.0; places = All-from_recursion _ _ kind.1 } in
    record {
      procedure = at.procedure;
      stands = subst (λ (s : Option ℕ). sized (lengths_of extents) frames at.procedure row s (slice_get frames at.procedure)) (sym at.size_is)
          (subst (λ (f : Option FrameRow). sized (lengths_of extents) frames at.procedure row (Some at.size) f) (sym at.frame_is) stands);
    }

site_allowed : (extents : List Range) (frames : List FrameRow) (row : SiteRow) (k : ℕ) (size : Option ℕ) (frame : Option FrameRow) → AreJoined 0 extents → slice_get (lengths_of extents) k ≡ size → slice_get frames k ≡ frame
    → sized (lengths_of extents) frames k row size frame → HasFewPlaces row → IsSiteOf (room_at (rooms_of extents frames) row.pc) row
site_allowed extents frames row k None frame joined size_is frame_is stands few = absurd stands
site_allowed extents frames row k (Some size) None joined size_is frame_is stands few = absurd stands
site_allowed extents frames row k (Some size) (Some frame) joined size_is frame_is stands few =
    let start : ℕ = start_of (lengths_of extents) k in
    let begins : start ≤ row.pc = stands.begins in
    let ends : row.pc + 4 * row.site.size ≤ start + size = stands.ends in
    let allowed = kind_allowed row.site.kind (0 + start + size) frame row.site.value row.site.size row.site.reps row.site.result row.site.clobbers stands.kind (recursion_from_All _ _ stands.places) in
    let some : 1 ≤ row.site.size = has_word row.site.kind row.site.size allowed.has in
    subst (λ (r : Room). IsSiteOf r row) (sym (is_found 0 extents frames k size frame row.pc joined size_is frame_is (omega arith) (omega arith)))
    (record {
      value = stands.value;
      few = few;
      size = and_from _ _ allowed.has (le-leb _ _ (omega arith));
      count = allowed.reports;
      answer = allowed.answers;
      clobbers = allowed.changes;
      places = allowed.places;
    })

pub record AreGoodSites (extents : List Range) (frames : List FrameRow) (end : ℕ) (sites : List SiteRow) : Type 0 where
  pub order : AreInOrder end sites
  pub each : AllByRecursion (IsGoodSite (lengths_of extents) frames) sites
  pub few : AllByRecursion HasFewPlaces sites

pub sites_good : (extents : List Range) (frames : List FrameRow) (end : ℕ) (sites : List SiteRow) → AreJoined 0 extents → AllAfter (IsSiteAfter (rooms_of extents frames)) after_site end sites → AreGoodSites extents frames end sites
sites_good extents frames end [] joined good = record { order = tt; each = tt; few = tt }
sites_good extents frames end (row ∷ sites) joined good =
    let more = sites_good extents frames (row.pc + 4 * row.site.size) sites joined good.1 in
    record {
      order = (eqb-true _ _ good.0.whole, leb-true _ _ good.0.behind, more.order);
      each = (site_good extents frames row joined good.0.site, more.each);
      few = (good.0.site.few, more.few);
    }

pub sites_after : (extents : List Range) (frames : List FrameRow) (end : ℕ) (sites : List SiteRow) → AreJoined 0 extents → AreGoodSites extents frames end sites → AllAfter (IsSiteAfter (rooms_of extents frames)) after_site end sites
sites_after extents frames end [] joined good = tt
sites_after extents frames end (row ∷ sites) joined good =
    let here = good.each.0 in (
      record {
        whole = eq-eqb _ _ good.order.0;
        behind = le-leb _ _ good.order.1;
        site = site_allowed extents frames row here.procedure (slice_get (lengths_of extents) here.procedure) (slice_get frames here.procedure) joined refl refl here.stands good.few.0;
      },
      sites_after extents frames (row.pc + 4 * row.site.size) sites joined (record { order = good.order.2; each = good.each.1; few = good.few.1 }),
    )
