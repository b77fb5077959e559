-- Laws of the table of opcodes.
use Rattle.std.proofs.Common.{◌≡◌, ℕ, Bool, true, false, cond, List, [], ◌∷◌, Option, Some, refl, sym, ◌∙◌, ap}
use Rattle.std.specs.List.{find, list_all}
use Rattle.std.specs.Str.{bytes_eq}
use Rattle.std.proofs.lemmas.Bool.{and_parts}
use Rattle.std.proofs.lemmas.Slice.Eq.{bytes_eq-Decides}
use Rattle.b3_ir.specs.declared.opcode.Opcode.{Opcode}
use Rattle.b3_ir.specs.declared.opcode.Opcode.TheVariants.{Nop}
use Rattle.b3_ir.specs.Table.{row_of}
use Rattle.b3_items.specs.Table.{opcode_named, opcodes}

-- what find gives passes
found_passes : {X : Type 0} (p : X → Bool) (x y : X) (r : Option X) (b : Bool) → p y ≡ b → (r ≡ Some x → p x ≡ true) → cond b (Some y) r ≡ Some x → p x ≡ true
found_passes p x y r true is rest e = let same : y ≡ x = cc in ap p (sym same) ∙ is
found_passes p x y r false is rest e = rest e

pub find_passes : {X : Type 0} (p : X → Bool) (xs : List X) (x : X) → find p xs ≡ Some x → p x ≡ true
find_passes p [] x e = absurd cc
find_passes p (y ∷ xs) x e = found_passes p x y (find p xs) (p y) refl (find_passes p xs x) e

pub named_again : (o : Opcode) → opcode_named (row_of o).name ≡ Some o
unfolding opcode_named
named_again Nop = refl
named_again _ = refl

pub named_is : (bytes : List ℕ) (o : Opcode) → opcode_named bytes ≡ Some o → bytes ≡ (row_of o).name
unfolding opcode_named
named_is bytes o e = sym ((bytes_eq-Decides (row_of o).name bytes).0 (find_passes (λ x. bytes_eq (row_of x).name bytes) opcodes o e))

-- a test that each listed opcode passes, each that find gives passes
found_listed : {X : Type 0} (p : X → Bool) (x y : X) (r : Option X) (b : Bool) → p y ≡ true → (r ≡ Some x → p x ≡ true) → cond b (Some y) r ≡ Some x
    → p x ≡ true
found_listed p x y r true is rest e = let same : y ≡ x = cc in ap p (sym same) ∙ is
found_listed p x y r false is rest e = rest e

all_found : {X : Type 0} (p q : X → Bool) (xs : List X) (x : X) → list_all p xs ≡ true → find q xs ≡ Some x → p x ≡ true
all_found p q [] x h e = absurd cc
all_found p q (y ∷ xs) x h e =
    let both = and_parts (p y) (list_all p xs) h in
    found_listed p x y (find q xs) (q y) both.0 (all_found p q xs x both.1) e

pub each_passes : (p : Opcode → Bool) → list_all p opcodes ≡ true → (o : Opcode) → p o ≡ true
unfolding opcode_named
each_passes p h o = all_found p (λ x. bytes_eq (row_of x).name (row_of o).name) opcodes o h (named_again o)
