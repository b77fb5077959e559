-- A name is text.
use Rattle.std.proofs.Common.{◌≡◌, ℕ, ◌<◌, Bool, true, false, ◌&&◌, List, [], ◌∷◌, IsTrue, refl, arith}
use Rattle.std.specs.List.{list_all}
use Rattle.std.specs.Str.{IsAscii, IsUtf8}
use Rattle.std.proofs.lemmas.Str.{IsUtf8-from_ascii}
use Rattle.std.proofs.lemmas.Str.Ascii.{IsAscii-nil, IsAscii-cons}
use Rattle.std.proofs.lemmas.Bool.Decides.{nat_tests}
use Rattle.b3_ir.specs.Names.{IsName, may_stand_in_name}

byte_is_ascii : (b : ℕ) → may_stand_in_name b ≡ true → b < 128
byte_is_ascii b h = grind (arith, nat_tests)

and_both : (a b : Bool) → IsTrue (a && b) → (a ≡ true) × IsTrue b
and_both true b h = (refl, h)
and_both false b h = absurd cc

all_is_ascii : (name : List ℕ) → IsTrue (list_all may_stand_in_name name) → IsAscii name
all_is_ascii [] h = IsAscii-nil
all_is_ascii (b ∷ name) h =
    let both = and_both (may_stand_in_name b) (list_all may_stand_in_name name) h in
    IsAscii-cons b name (byte_is_ascii b both.0) (all_is_ascii name both.1)

pub name_is_text : (name : List ℕ) → IsName name → IsUtf8 name
name_is_text name h = IsUtf8-from_ascii name (all_is_ascii name h.all)
