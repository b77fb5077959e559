-- The procedure of a name is one, since names are distinct.
use Rattle.std.proofs.Common.{◌≡◌, ◌≢◌, ℕ, ◌+◌, ◌<◌, ◌≤◌, List, [], Some, sym, ap, subst, ◌∙◌, arith, get_or, length, inl, inr}
use Rattle.std.specs.Prelude.{slice_get, AllPairs}
use Rattle.std.specs.List.{Contains}
use Rattle.std.proofs.Math.ListN.{length-map}
use Rattle.std.proofs.lemmas.List.{get_or-map}
use Rattle.std.proofs.lemmas.Option.{get_or_from_slice_get, slice_get-get_or, slice_get_within}
use Rattle.std.proofs.lemmas.Bool.{cases_lt}
use Rattle.b3_base.specs.Observed.{MachineStart}
use Rattle.exit_table.specs.declared.tables.FrameRow.{FrameRow}
use Rattle.elf_obj.specs.Good.{IsGood, names_of}
use Rattle.elf_obj.specs.declared.object.Object.{Object}
use Rattle.elf_obj.specs.declared.object.Symbol.{Symbol}
use Rattle.a64_run.specs.Placement.{Places}
use Rattle.a64_run.specs.Finding.{IsMisplaced}

abbrev no_symbol : Symbol
no_symbol = record { name = []; offset = 0; size = 0 }

-- the name at a place
name_at : (symbols : List Symbol) (k : ℕ) (symbol : Symbol) (d : List ℕ) → slice_get symbols k ≡ Some symbol → get_or (names_of symbols) k d ≡ symbol.name
name_at symbols k symbol d e =
    get_or-map (λ (s : Symbol). s.name) symbols k symbol d (slice_get_within symbols k symbol e) ∙ ap (λ (s : Symbol). s.name) (get_or_from_slice_get symbols k symbol symbol e)

pub named_there : (symbols : List Symbol) (k : ℕ) (symbol : Symbol) (name : List ℕ) → slice_get symbols k ≡ Some symbol → symbol.name ≡ name → Contains (names_of symbols) name
named_there symbols k symbol name e is =
    (k, rw length-map (slice_get_within symbols k symbol e), name_at symbols k symbol name e ∙ is)

pub no_name : (symbols items : List Symbol) (n : ℕ) (name : List ℕ) → items ≡ symbols → length items ≤ n
    → ((j : ℕ) (symbol : Symbol) → j < n → slice_get symbols j ≡ Some symbol → ¬ (symbol.name ≡ name)) → ¬ (Contains (names_of symbols) name)
no_name symbols items n name e long none (k, within, is) =
    let short : k < length symbols = rw length-map at within in
    let same : length items ≡ length symbols = ap length e in
    let here = slice_get-get_or symbols k no_symbol short in
    none k (get_or symbols k no_symbol) (omega (arith, same, short, long)) here (sym (name_at symbols k (get_or symbols k no_symbol) name here) ∙ is)

pub item_there : (symbols items : List Symbol) (k : ℕ) (symbol : Symbol) → items ≡ symbols → k < length items → symbol ≡ get_or items k symbol → slice_get symbols k ≡ Some symbol
item_there symbols items k symbol e within is =
    subst (λ (xs : List Symbol). slice_get xs k ≡ Some symbol) e (slice_get-get_or items k symbol within ∙ ap Some (sym is))

-- one more symbol hasn't the name
pub none_more : (symbols : List Symbol) (k : ℕ) (other : Symbol) (name : List ℕ) → slice_get symbols k ≡ Some other → ¬ (other.name ≡ name)
    → ((j : ℕ) (symbol : Symbol) → j < k → slice_get symbols j ≡ Some symbol → ¬ (symbol.name ≡ name))
    → (j : ℕ) (symbol : Symbol) → j < k + 1 → slice_get symbols j ≡ Some symbol → ¬ (symbol.name ≡ name)
none_more symbols k other name here differs none j symbol below e is =
    elim (cases_lt j k) [
      | inl less ↦ none j symbol less e is
      | inr above ↦
          let at : j ≡ k = omega arith in
          let same : Some symbol ≡ Some other = sym e ∙ ap (slice_get symbols) at ∙ here in
          let one : symbol ≡ other = cc in
          differs (ap (λ (s : Symbol). s.name) (sym one) ∙ is)
    ]

-- two places with one name are one
pub one_place : (symbols : List Symbol) (i j : ℕ) (s t : Symbol) → AllPairs (λ a b. a ≢ b) (names_of symbols) → slice_get symbols i ≡ Some s → slice_get symbols j ≡ Some t → s.name ≡ t.name → i ≡ j
one_place symbols i j s t distinct at_i at_j same =
    let d : List ℕ = [] in
    let alike : get_or (names_of symbols) i d ≡ get_or (names_of symbols) j d = name_at symbols i s d at_i ∙ same ∙ sym (name_at symbols j t d at_j) in
    elim (cases_lt i j) [
      | inl less ↦ absurd (distinct i j d less (rw length-map (slice_get_within symbols j t at_j)) alike)
      | inr above ↦ elim (cases_lt j i) [
        | inl more ↦ absurd (distinct j i d more (rw length-map (slice_get_within symbols i s at_i)) (sym alike))
        | inr below ↦ omega arith
      ]
    ]

same_some : {X : Type 0} (x y : X) → Some x ≡ Some y → x ≡ y
same_some x y e = cc

-- where a machine start may begin the procedure of a name, it is not misplaced
pub not_misplaced : (o : Object) (name : List ℕ) (m : MachineStart) (k : ℕ) (symbol : Symbol) (frame : FrameRow) → IsGood o → slice_get o.symbols k ≡ Some symbol → symbol.name ≡ name → slice_get o.tables.frames k ≡ Some frame
    → ((any : Symbol) → Places o any frame m) → ¬ (IsMisplaced o name m)
not_misplaced o name m k symbol frame good at named framed places lost =
    let one = one_place o.symbols lost.procedure.place k lost.symbol symbol good.distinct lost.procedure.symbol_there at (lost.procedure.named ∙ sym named) in
    let same : lost.frame ≡ frame = same_some lost.frame frame (sym lost.procedure.frame_there ∙ ap (slice_get o.tables.frames) one ∙ framed) in
    lost.misplaced (subst (λ (f : FrameRow). Places o lost.symbol f m) (sym same) (places lost.symbol))
