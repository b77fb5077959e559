-- Sites that are looked up by halving, and what holds of each site and symbol of a good object.
use Rattle.std.proofs.Common.{◌≡◌, ◌≢◌, ℕ, zero, suc, ◌+◌, ◌*◌, ◌^◌, ◌<◌, ◌≤◌, inl, inr, false, List, [], ◌∷◌, Option, Some, None, refl, ap, subst, ◌∙◌, arith, length, get_or}
use Rattle.std.specs.Prelude.{slice_get, bit_and, IsBitSet, IsSomeAnd, IfSome}
use Rattle.std.specs.Int.{bit_at}
use Rattle.std.specs.List.Sorted.{IsNonDecreasingBy}
use Rattle.std.proofs.lemmas.Bool.{cases_lt, eq-eqb, ne_eqb}
use Rattle.std.proofs.lemmas.Nat.{pow_pos}
use Rattle.std.proofs.lemmas.Nat.Bits.{and_pow, bit_at-zero}
use Rattle.std.proofs.lemmas.Option.{get_or_from_slice_get, slice_get_within}
use Rattle.b3_base.specs.declared.word.Width.{Width}
use Rattle.b3_ir.specs.declared.value.Reg.{Reg}
use Rattle.stackmap.specs.Registers.{has}
use Rattle.stackmap.specs.declared.site.Site.{Site}
use Rattle.stackmap.specs.declared.site.SiteKind.{SiteKind}
use Rattle.stackmap.specs.declared.site.SiteKind.TheVariants.{Call, Patchpoint, Exit, Trap}
use Rattle.exit_table.specs.Good.{AreInOrder, IsGoodFrame, IsGoodKind, IsGoodSite}
use Rattle.exit_table.specs.declared.tables.FrameRow.{FrameRow}
use Rattle.exit_table.specs.declared.tables.SiteRow.{SiteRow}
use Rattle.elf_obj.specs.Good.{Fills, IsGood, sizes_of}
use Rattle.elf_obj.specs.declared.object.Object.{Object}
use Rattle.elf_obj.specs.declared.object.Symbol.{Symbol}
use Rattle.a64_run.specs.Kept.{HasRegisters}
use Rattle.a64_run.specs.Machine.{site_among}

-- ---- sites rise

above_end : (end : ℕ) (rows : List SiteRow) (i : ℕ) (d : SiteRow) → AreInOrder end rows → i < length rows → end ≤ (get_or rows i d).pc
above_end end [] i d order lt = absurd (omega arith)
above_end end (row ∷ rest) zero d order lt = order.1
above_end end (row ∷ rest) (suc i) d order lt =
    let above = above_end (row.pc + 4 * row.site.size) rest i d order.2 (omega arith) in
    omega (arith, above, order.1)

pub in_order : (end : ℕ) (rows : List SiteRow) → AreInOrder end rows → IsNonDecreasingBy (λ (row : SiteRow). row.pc) rows
in_order end [] order i j d le lt = absurd (omega arith)
in_order end (row ∷ rest) order zero zero d le lt = omega arith
in_order end (row ∷ rest) order zero (suc j) d le lt =
    let above = above_end (row.pc + 4 * row.site.size) rest j d order.2 (omega arith) in
    omega (arith, above)
in_order end (row ∷ rest) order (suc i) zero d le lt = absurd (omega arith)
in_order end (row ∷ rest) order (suc i) (suc j) d le lt = in_order (row.pc + 4 * row.site.size) rest order.2 i j d (omega arith) (omega arith)

-- ---- the site at a byte

among_none : (pc : ℕ) (rows : List SiteRow) → ((j : ℕ) (d : SiteRow) → j < length rows → (get_or rows j d).pc ≢ pc) → site_among pc rows ≡ None
among_none pc [] differs = refl
among_none pc (row ∷ rest) differs =
    rw (ne_eqb row.pc pc (differs 0 row (omega arith))) (among_none pc rest (λ j d lt. differs (suc j) d (omega arith)))

pub among_found : (pc : ℕ) (rows : List SiteRow) (k : ℕ) (row : SiteRow) → ((j : ℕ) (d : SiteRow) → j < k → (get_or rows j d).pc ≢ pc)
    → slice_get rows k ≡ Some row → row.pc ≡ pc
    → site_among pc rows ≡ Some row.site
among_found pc [] k row differs there is = absurd cc
among_found pc (first ∷ rest) zero row differs there is =
    let same : first ≡ row = cc in
    rw (eq-eqb first.pc pc (ap (λ (r : SiteRow). r.pc) same ∙ is)) (ap (λ (r : SiteRow). Some r.site) same)
among_found pc (first ∷ rest) (suc k) row differs there is =
    rw (ne_eqb first.pc pc (differs 0 first (omega arith))) (among_found pc rest k row (λ j d lt. differs (suc j) d (omega arith)) there is)

pub none_there : (pc k : ℕ) (rows : List SiteRow) → IsNonDecreasingBy (λ (row : SiteRow). row.pc) rows
    → ((j : ℕ) (d : SiteRow) → 0 ≤ j → j < k → (get_or rows j d).pc < pc)
    → ((j : ℕ) (d : SiteRow) → k ≤ j → j < length rows → pc ≤ (get_or rows j d).pc)
    → ((d : SiteRow) → k < length rows → (get_or rows k d).pc ≢ pc) → site_among pc rows ≡ None
none_there pc k rows rise below from differs = among_none pc rows other
  where
    other : (j : ℕ) (d : SiteRow) → j < length rows → (get_or rows j d).pc ≢ pc
    other j d lt e = elim (cases_lt j k) [
      | inl less ↦ let h = below j d (omega arith) less in absurd (omega (arith, h, e))
      | inr above ↦
          let up = rise k j d above lt in
          let least = from k d (omega arith) (omega arith) in
          let not = differs d (omega arith) in
          absurd (not (omega (arith, up, least, e)))
    ]

pub some_there : (pc k : ℕ) (rows : List SiteRow) (row : SiteRow) → ((j : ℕ) (d : SiteRow) → 0 ≤ j → j < k → (get_or rows j d).pc < pc)
    → slice_get rows k ≡ Some row → row.pc ≡ pc
    → site_among pc rows ≡ Some row.site
some_there pc k rows row below there is =
    among_found pc rows k row (λ j d lt e. let h = below j d (omega arith) lt in absurd (omega (arith, h, e))) there is

-- ---- registers of a site

is_set : (n r : ℕ) → bit_at n r ≡ 1 → IsBitSet n r
is_set n r one = λ e.
    let same : bit_and n (2 ^ r) ≡ 1 * 2 ^ r = and_pow n r ∙ ap (λ (k : ℕ). k * 2 ^ r) one in
    let positive : 0 < 2 ^ r = pow_pos r in
    omega (arith, e, same)

not_in : (set r : ℕ) → (IsBitSet set r → ⊥) → has set r ≡ false
not_in set r none = ne_eqb (bit_at set r) 1 (λ one. none (is_set set r one))

narrower : {X : Type 0} (P Q : X → Type 0) (o : Option X) → ((x : X) → P x → Q x) → IfSome o P → IfSome o Q
narrower P Q None h p = p
narrower P Q (Some x) h p = h x p

nothing : {X : Type 0} (Q : X → Type 0) (o : Option X) → o ≡ None → IfSome o Q
nothing Q None e = tt
nothing Q (Some x) e = absurd cc

none_in : (set r : ℕ) → set ≡ 0 → has set r ≡ false
none_in set r e = rw (e, bit_at-zero r) refl

by_kind : (kind : SiteKind) (site : Site) → IsGoodKind kind site → HasRegisters site
by_kind Call site good = record {
  result = narrower (λ (result : Width × Reg). result.1.0 ≡ 0) (λ (result : Width × Reg). result.1.0 ≤ 30) site.result (λ x e. omega (arith, e)) good.answers;
  clobbers = λ r le. not_in site.clobbers r (λ set. elim ((good.clobbers r).0 set) [ inl low ↦ omega (arith, low, le) | inr one ↦ omega (arith, one, le) ]);
}
by_kind Patchpoint site good = record {
  result = good.answers;
  clobbers = λ r le. not_in site.clobbers r (λ set. elim (good.clobbers r set) [
    | inl low ↦ omega (arith, low, le)
    | inr rest ↦ elim rest [ inl middle ↦ omega (arith, middle.1, le) | inr one ↦ omega (arith, one, le) ]
  ]);
}
by_kind Exit site good = record {
  result = nothing (λ (result : Width × Reg). result.1.0 ≤ 30) site.result good.answers;
  clobbers = λ r le. none_in site.clobbers r good.clobbers;
}
by_kind Trap site good = record {
  result = nothing (λ (result : Width × Reg). result.1.0 ≤ 30) site.result good.answers;
  clobbers = λ r le. none_in site.clobbers r good.clobbers;
}

some_and : {X : Type 0} (o : Option X) (P : X → Type 0) → IsSomeAnd o P → (x : X) × P x
some_and None P h = absurd h
some_and (Some x) P h = (x, h)

pub has_registers : (o : Object) (k : ℕ) (row : SiteRow) → IsGood o → slice_get o.tables.sites k ≡ Some row → HasRegisters row.site
has_registers o k row good there =
    let one : IsGoodSite (sizes_of o.symbols) o.tables.frames row =
    subst (λ (r : SiteRow). IsGoodSite (sizes_of o.symbols) o.tables.frames r) (get_or_from_slice_get o.tables.sites k row row there)
    (good.tables.sites k row (slice_get_within o.tables.sites k row there)) in
    let outer = some_and (slice_get (sizes_of o.symbols) one.procedure) _ one.stands in
    let inner = some_and (slice_get o.tables.frames one.procedure) _ outer.1 in
    by_kind row.site.kind row.site inner.1.kind

-- ---- a frame is good

pub good_frame : (o : Object) (k : ℕ) (frame : FrameRow) → IsGood o → slice_get o.tables.frames k ≡ Some frame → IsGoodFrame frame
good_frame o k frame good there =
    subst IsGoodFrame (get_or_from_slice_get o.tables.frames k frame frame there) (good.tables.frames k frame (slice_get_within o.tables.frames k frame there))

-- ---- a symbol begins in the text

fills_up : (from to : ℕ) (symbols : List Symbol) → Fills from to symbols → from ≤ to
fills_up from to [] f = omega (arith, f)
fills_up from to (symbol ∷ rest) f = let up = fills_up (from + symbol.size) to rest f.3 in omega (arith, up)

pub begins_within : (from to k : ℕ) (symbols : List Symbol) (symbol : Symbol) → Fills from to symbols → slice_get symbols k ≡ Some symbol → symbol.offset < to
begins_within from to k [] symbol f there = absurd cc
begins_within from to zero (first ∷ rest) symbol f there =
    let same : first ≡ symbol = cc in
    let up = fills_up (from + first.size) to rest f.3 in
    let less : first.offset < to = omega (arith, up, f.0, f.1) in
    subst (λ (s : Symbol). s.offset < to) same less
begins_within from to (suc k) (first ∷ rest) symbol f there = begins_within (from + first.size) to k rest symbol f.3 there
