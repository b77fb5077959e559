use Rattle.std.proofs.Common.{◌≡◌, ◌+◌, ◌-◌, ◌<◌, ◌≤◌, ℕ, Bool, true, false, eqb, ltb, List, [], ◌∷◌, length, map, refl, sym, ap, ◌∙◌, arith}
use Rattle.std.specs.Prelude.{◌&&◌, ◌||◌, not, bytes_eq}
use Rattle.std.specs.List.{list_any}
use Rattle.std.proofs.lemmas.Bool.{lt-ltb}
use denote.Ref.{Bor}
use Rattle.elf_obj.specs.Reading.{is_name, is_new_name}
use Rattle.elf_obj.proofs.symbols.is_new_name.Goals as goal

known : (name : List ℕ) (keys : List (Bor (List ℕ))) → list_any (λ k. bytes_eq name k.now) keys ≡ list_any (λ other. bytes_eq name other) (map (λ k. k.now) keys)
known name [] = refl
known name (k ∷ keys) = ap (λ b. bytes_eq name k.now || b) (known name keys)

is_named : (names name : List ℕ) (at : ℕ) (earlier : List (List ℕ)) (new : Bool) → at < length names → length name < length names - at → is_name name ≡ true → new ≡ not (list_any (λ other. bytes_eq name other) earlier) → new ≡ is_new_name names earlier at name
is_named names name at earlier new lt within is e =
    let inside : ltb (at + length name) (length names) ≡ true = lt-ltb (at + length name) (length names) (omega arith) in
    e ∙ sym (rw (inside, is) refl)

pub returns-clause-named : goal.returns-clause-named
returns-clause-named c =
    is_named c.args.names.now c.args.name.now c.args.at (map (λ k. k.now) c.args.earlier.now.keys) c.in_ok-new.new c.if-names-at.false c.if-names-at-2.false (sym c.is_some_name.ensures ∙ c.if-not-is_some_name.false) (c.in_ok-new.ensures.added ∙ ap not (known c.args.name.now c.args.earlier.now.keys))
