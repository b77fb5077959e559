-- A site is read by the procedures that end behind it alone.
use Rattle.std.proofs.Common.{◌≡◌, ℕ, ◌≤◌, ◌%◌, Bool, true, false, leb, eqb, cond, List, [], ◌∷◌, length, Result, Ok, Err, refl, ap}
use Rattle.std.proofs.lemmas.Bool.{leb-true}
use Rattle.exit_table.specs.declared.tables.SiteRow.{SiteRow}
use Rattle.exit_table.specs.declared.fault.Cause.TheVariants.{Rule, Order}
use Rattle.exit_table.specs.declared.fault.Fault.{Fault}
use Rattle.exit_table.specs.Reading.{Reader, ◌>>=◌, give, and_then, placed, check}
use Rattle.exit_table.specs.ExitReading.{site_from, site_at}
use Rattle.exit_table.specs.Rooms.{Room, room_at}

-- a pc with the fields behind it
abbrev pc_at : Bool → Bool → ℕ → ℕ → List ℕ → Result (ℕ × List ℕ) Fault
pc_at whole in_order left n rest = and_then (placed left (cond whole (check in_order Order n) (Err Rule))) (λ x. Ok (x, rest))

-- a pc that is at fault is one whatever is read behind it
by_pc : (whole in_order : Bool) (left n : ℕ) (rest : List ℕ) (f g : ℕ → Reader SiteRow) → (in_order ≡ true → f n rest ≡ g n rest)
    → and_then (pc_at whole in_order left n rest) (λ x. f x.0 x.1) ≡ and_then (pc_at whole in_order left n rest) (λ x. g x.0 x.1)
by_pc true true left n rest f g same = same refl
by_pc true false left n rest f g same = refl
by_pc false in_order left n rest f g same = refl

pub site_same : (a b : List Room) (end : ℕ) (section : List ℕ) → ((pc : ℕ) → end ≤ pc → room_at a pc ≡ room_at b pc) → site_at a end section ≡ site_at b end section
unfolding site_at
site_same a b end [] same = refl
site_same a b end (n ∷ rest) same =
    by_pc (eqb (n % 4) 0) (leb end n) (length (n ∷ rest)) n rest (λ pc. site_from pc (room_at a pc) >>= give) (λ pc. site_from pc (room_at b pc) >>= give)
    (λ in_order. ap (λ (room : Room). (site_from n room >>= give) rest) (same n (leb-true _ _ in_order)))
