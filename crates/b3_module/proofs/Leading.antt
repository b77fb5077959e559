-- What rows lead to, in parts; and each place can be gone on from to an end.
use Rattle.std.proofs.Common.{◌≡◌, ℕ, ◌+◌, List, [], ◌∷◌, ◌++◌, length, Option, Some, None, refl, ap, arith}
use Rattle.std.specs.Prelude.{codes, ◌==◌, replicate, if◌then◌else◌}
use Rattle.std.proofs.lemmas.Bool.Decides.{nat_tests}
use Rattle.std.proofs.lemmas.List.{length-replicate}
use Rattle.b3_ir.specs.Procedure.{Procedure}
use Rattle.b3_rows.specs.declared.row.Row.{Row}
use Rattle.b3_rows.specs.declared.row.Row.TheVariants as rows
use Rattle.b3_module.specs.declared.place.Place.{Place}
use Rattle.b3_module.specs.declared.place.Place.TheVariants as places
use Rattle.b3_module.specs.Texts.{State, added_to, at, cases_in, ended, led}

-- ---- in parts

pub led_none : (line : ℕ) (text : List Row) → led None line text ≡ None
led_none line [] = refl
led_none line (row ∷ text) = led_none (line + 1) text

pub led_append : (s : Option State) (line next : ℕ) (a b : List Row) → next ≡ line + length a → led s line (a ++ b) ≡ led (led s line a) next b
led_append s line next [] b e =
    let same : line ≡ next = omega arith in
    ap (λ (n : ℕ). led s n b) same
led_append s line next (row ∷ a) b e = led_append (added_to s line row) (line + 1) next a b (omega arith)

-- ---- an end behind each place

abbrev pub ending : Place → List Row
ending places.Outside = rows.Header (codes "f") ∷ rows.Heading 0 ∷ []
ending places.Slots = rows.Heading 0 ∷ []
ending places.Values = []
ending places.Returned = []
ending (places.Jump v) = rows.One 0 ∷ []
ending (places.Branch v) = rows.Two 0 0 ∷ []
ending (places.Switch v) = rows.Many (replicate (cases_in v.body + 1) 0) ∷ []

pub passed : (k n : ℕ) (s : State) → n ≡ k → (if n == k then Some s else None) ≡ Some s
passed k n s e = grind (arith, nat_tests)

pub refused : (k n : ℕ) (s : State) → ¬ (n ≡ k) → (if n == k then Some s else None) ≡ None
refused k n s e = grind (arith, nat_tests)

pub ends : (place : Place) (ps : List Procedure) (line : ℕ) → (m : List Procedure) × (ended (led (Some (at place ps)) line (ending place)) ≡ Some m)
ends places.Outside ps line = (_, refl)
ends places.Slots ps line = (_, refl)
ends places.Values ps line = (_, refl)
ends places.Returned ps line = (_, refl)
ends (places.Jump v) ps line = (_, refl)
ends (places.Branch v) ps line = (_, refl)
ends (places.Switch v) ps line = (_, ap ended (passed (cases_in v.body + 1) (length (replicate (cases_in v.body + 1) 0)) _ (length-replicate (cases_in v.body + 1) 0)))
