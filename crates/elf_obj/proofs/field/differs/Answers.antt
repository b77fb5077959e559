use Rattle.std.proofs.Common.{◌≡◌, ◌<◌, ◌+◌, ℕ, List, [], ◌∷◌, Option, Some, length, drop, get_or, sym, ap, ◌∙◌, refl, arith}
use Rattle.std.proofs.lemmas.List.{drop_more, nil_from_length}
use Rattle.std.proofs.lemmas.Bool.{eqb-true}
use Rattle.elf_obj.specs.Fields.{differs}
use Rattle.elf_obj.proofs.field.differs.Goals as goal

ended : (at i : ℕ) (wanted left : List ℕ) (total : Option ℕ) → i < length wanted → length left ≡ 0 → differs at (drop i wanted) left ≡ total → Some at ≡ total
ended at i wanted left total lt none so_far =
    let empty : left ≡ [] = nil_from_length left none in
    sym (rw (empty, drop_more wanted i 0 lt) refl) ∙ so_far

pub returns-then-is_empty : goal.returns-then-is_empty
returns-then-is_empty c =
    ended c.loop-byte.at c.loop-byte.byte-index c.args.wanted.now c.loop-byte.left.now _ c.loop-byte-test.true (grind arith) c.loop-byte.invariant.0
