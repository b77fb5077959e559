-- The rooms of procedures.
use Rattle.std.proofs.Common.{◌≡◌, ℕ, ◌+◌, ◌^◌, ◌<◌, List, [], ◌∷◌, ◌++◌, length, map, sum, take, get_or, refl, sym, ap, ◌∙◌, arith}
use Rattle.std.specs.Prelude.{All}
use Rattle.std.specs.List.{AllByRecursion}
use Rattle.std.proofs.lemmas.List.{map_push, take_more, length-take-le}
use Rattle.std.proofs.lemmas.List.Elements.{All-from_recursion}
use Rattle.std.proofs.lemmas.List.Sums.{sum_by-cons}
use Rattle.b3_base.specs.declared.range.Range.{Range}
use Rattle.exit_table.specs.declared.tables.FrameRow.{FrameRow}
use Rattle.exit_table.specs.declared.frame_reader.Home.{Home}
use Rattle.exit_table.specs.Homes.{room_of}
use Rattle.exit_table.specs.Rooms.{AreJoined, AreExtents, lengths_of, Room, room, rooms_of}

pub rooms_push : (extents : List Range) (frames : List FrameRow) (extent : Range) (frame : FrameRow) → length frames ≡ length extents → rooms_of (extents ++ extent ∷ []) (frames ++ frame ∷ []) ≡ rooms_of extents frames ++ room extent frame ∷ []
rooms_push [] [] extent frame same = refl
rooms_push [] (f ∷ frames) extent frame same = absurd (omega arith)
rooms_push (e ∷ extents) [] extent frame same = absurd (omega arith)
rooms_push (e ∷ extents) (f ∷ frames) extent frame same = ap (λ (t : List Room). room e f ∷ t) (rooms_push extents frames extent frame (omega arith))

ends_below : (start : ℕ) (extents : List Range) → AreJoined start extents → start + sum (lengths_of extents) < 2 ^ 26 → AllByRecursion (λ (extent : Range). extent.first + extent.len < 2 ^ 26) extents
ends_below start [] joined total = tt
ends_below start (extent ∷ rest) joined total =
    let one : sum (lengths_of (extent ∷ rest)) ≡ extent.len + sum (lengths_of rest) = sum_by-cons (λ x. x) extent.len (lengths_of rest) in
    (omega (arith, joined.0, one, total), ends_below (start + extent.len) rest joined.1 (omega (arith, one, total)))

-- procedures end within the text
pub ends_within : (extents : List Range) → AreExtents extents → All (λ extent. extent.first + extent.len < 2 ^ 26) extents
ends_within extents are = All-from_recursion (λ (extent : Range). extent.first + extent.len < 2 ^ 26) extents (ends_below 0 extents are.joined (let total = are.sizes.total in omega arith))

-- one procedure more
pub rooms_more : (extents : List Range) (i : ℕ) (d : Range) (frames : List FrameRow) (row : FrameRow) (homes : List Home) (home : Home) → i < length extents → length frames ≡ i → map room_of homes ≡ rooms_of (take i extents) frames
    → room_of home ≡ room (get_or extents i d) row → map room_of (homes ++ home ∷ []) ≡ rooms_of (take (i + 1) extents) (frames ++ row ∷ [])
rooms_more extents i d frames row homes home lt count so_far is =
    map_push room_of homes home
    ∙ ap (λ (t : List Room). t ++ room_of home ∷ []) so_far
    ∙ ap (λ (r : Room). rooms_of (take i extents) frames ++ r ∷ []) is
    ∙ sym (rooms_push (take i extents) frames (get_or extents i d) row (count ∙ sym (length-take-le i extents (omega arith))))
    ∙ ap (λ (t : List Range). rooms_of t (frames ++ row ∷ [])) (sym (take_more extents i d lt))
