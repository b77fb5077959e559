-- The sites of an object that is joined, row by row: each is one of a part, where the part begins; and the site at a word of a part.
use Rattle.std.proofs.Common.{◌≡◌, ◌≢◌, ℕ, zero, suc, ◌+◌, ◌*◌, ◌%◌, ◌<◌, ◌≤◌, Some, List, [], ◌∷◌, ◌++◌, length, refl, sym, ap, ◌∙◌, subst, arith, take, append_assoc}
use Rattle.std.specs.Prelude.{All, map, slice_get, sum}
use Rattle.std.specs.List.{flat_map}
use Rattle.std.proofs.lemmas.List.Concat.{flat_map-cons}
use Rattle.std.proofs.lemmas.List.Elements.{All-append, All-head, All-map, All-nil, All-tail, All-weaker}
use Rattle.std.proofs.lemmas.List.Sums.{sum_by-cons}
use Rattle.std.proofs.lemmas.Option.{same_Some}
use Rattle.b3_base.proofs.Lists.{get_front, get_behind, All-from_places}
use Rattle.b3_ir.specs.Procedure.{Procedure}
use Rattle.exit_table.specs.Good.{AreInOrder}
use Rattle.exit_table.specs.declared.tables.SiteRow.{SiteRow}
use Rattle.elf_obj.specs.Good.{sizes_of}
use Rattle.elf_obj.specs.declared.object.Symbol.{Symbol}
use Rattle.a64_run.specs.Machine.{site_among}
use Rattle.a64_object.specs.Joined.{ArePartsOf, IsPartOf, Part, site_from, sites_at, sites_from, symbol_at, symbols_from, words_in}
use Rattle.a64_object.proofs.Taken.{IsTaken}
use Rattle.a64_object.proofs.LocalSites.{local_order, local_row}
use Rattle.a64_object.proofs.SiteLists.{among_here}

-- ---- sizes, in bytes
abbrev pub size_in : Part → ℕ
size_in part = 4 * length part.words

abbrev pub sizes : List Part → List ℕ
sizes parts = map size_in parts

abbrev pub start_in : List Part → ℕ → ℕ
start_in parts k = sum (take k (sizes parts))

pub sizes_are : (offset : ℕ) (parts : List Part) → sizes_of (symbols_from offset parts) ≡ sizes parts
sizes_are offset [] = refl
sizes_are offset (x ∷ parts) = ap (λ ns. size_in x ∷ ns) (sizes_are (offset + 4 * length x.words) parts)

start_zero : (parts : List Part) → start_in parts 0 ≡ 0
start_zero parts = refl

start_suc : (x : Part) (parts : List Part) (k : ℕ) → start_in (x ∷ parts) (suc k) ≡ size_in x + start_in parts k
start_suc x parts k = sum_by-cons (λ n. n) (size_in x) (take k (sizes parts))

-- a part begins where those before it end
pub starts_apart : (parts : List Part) (j k : ℕ) (x : Part) → slice_get parts j ≡ Some x → j < k → start_in parts j + size_in x ≤ start_in parts k
starts_apart [] j k x there less = absurd cc
starts_apart (y ∷ parts) zero zero x there less = absurd (omega arith)
starts_apart (y ∷ parts) zero (suc k) x there less = let same : size_in y ≡ size_in x = ap size_in (same_Some y x there) in
    omega (arith, start_suc y parts k, start_zero (y ∷ parts))
starts_apart (y ∷ parts) (suc j) zero x there less = absurd (omega arith)
starts_apart (y ∷ parts) (suc j) (suc k) x there less = omega (arith, start_suc y parts j, start_suc y parts k, starts_apart parts j k x there (omega arith))

pub symbol_is : (offset : ℕ) (parts : List Part) (k : ℕ) (symbol : Symbol) → slice_get (symbols_from offset parts) k ≡ Some symbol
    → (x : Part) × (slice_get parts k ≡ Some x) × (symbol ≡ symbol_at (offset + start_in parts k) x)
symbol_is offset [] k symbol there = absurd cc
symbol_is offset (x ∷ parts) zero symbol there =
    let e : offset ≡ offset + start_in (x ∷ parts) 0 = omega (arith, start_zero (x ∷ parts)) in
    (x, refl, sym (same_Some (symbol_at offset x) symbol there) ∙ ap (λ n. symbol_at n x) e)
symbol_is offset (x ∷ parts) (suc k) symbol there =
    let rest = symbol_is (offset + 4 * length x.words) parts k symbol there in
    let e : offset + 4 * length x.words + start_in parts k ≡ offset + start_in (x ∷ parts) (suc k) = omega (arith, start_suc x parts k) in
    (rest.0, rest.1, rest.2 ∙ ap (λ n. symbol_at n rest.0) e)

-- ---- each row
pub record IsSiteAt (ps : List Procedure) (parts : List Part) (offset : ℕ) (row : SiteRow) : Type 0 where
  pub k : ℕ
  pub p : Procedure
  pub part : Part
  pub p_there : slice_get ps k ≡ Some p
  pub part_there : slice_get parts k ≡ Some part
  pub of : IsPartOf p part
  pub j : ℕ
  pub local : SiteRow
  pub local_there : slice_get part.sites j ≡ Some local
  pub is : row ≡ site_from (offset + start_in parts k) local
  pub before : ℕ
  pub starts : start_in parts k ≡ 4 * before
  pub text : (i w : ℕ) → slice_get part.words i ≡ Some w → slice_get (flat_map words_in parts) (before + i) ≡ Some w

first_site : (ps : List Procedure) (parts : List Part) (p : Procedure) (x : Part) (offset j : ℕ) (local : SiteRow) → IsPartOf p x
    → slice_get x.sites j ≡ Some local
    → IsSiteAt (p ∷ ps) (x ∷ parts) offset (site_from offset local)
first_site ps parts p x offset j local of there = record {
  k = 0;
  p = p;
  part = x;
  p_there = refl;
  part_there = refl;
  of = of;
  j = j;
  local = local;
  local_there = there;
  is = let e : offset ≡ offset + start_in (x ∷ parts) 0 = omega (arith, start_zero (x ∷ parts)) in ap (λ n. site_from n local) e;
  before = 0;
  starts = omega (arith, start_zero (x ∷ parts));
  text = λ i w there_word.
      let e : 0 + i ≡ i = omega arith in
      ap (slice_get (flat_map words_in (x ∷ parts))) e ∙ ap (λ xs. slice_get xs i) (flat_map-cons words_in x parts)
      ∙ get_front x.words (flat_map words_in parts) i w there_word;
}

later_site : (ps : List Procedure) (parts : List Part) (p : Procedure) (x : Part) (offset : ℕ) (row : SiteRow)
    → IsSiteAt ps parts (offset + 4 * length x.words) row → IsSiteAt (p ∷ ps) (x ∷ parts) offset row
later_site ps parts p x offset row s = record {
  k = suc s.k;
  p = s.p;
  part = s.part;
  p_there = s.p_there;
  part_there = s.part_there;
  of = s.of;
  j = s.j;
  local = s.local;
  local_there = s.local_there;
  is = let e : offset + 4 * length x.words + start_in parts s.k ≡ offset + start_in (x ∷ parts) (suc s.k) = omega (arith, start_suc x parts s.k) in s.is
      ∙ ap (λ n. site_from n s.local) e;
  before = length x.words + s.before;
  starts = omega (arith, start_suc x parts s.k, s.starts);
  text = λ i w there.
      ap (λ xs. slice_get xs (length x.words + s.before + i)) (flat_map-cons words_in x parts)
      ∙ ap (slice_get (x.words ++ flat_map words_in parts)) (omega arith)
      ∙ get_behind x.words (flat_map words_in parts) (s.before + i)
      ∙ s.text i w there;
}

pub each_site : (ps : List Procedure) (parts : List Part) (offset : ℕ) → ArePartsOf ps parts → All (IsSiteAt ps parts offset) (sites_from offset parts)
unfolding ArePartsOf
each_site [] [] offset are = All-nil (IsSiteAt [] [] offset)
each_site [] (x ∷ parts) offset are = absurd are
each_site (p ∷ ps) [] offset are = absurd are
each_site (p ∷ ps) (x ∷ parts) offset are =
    All-append (IsSiteAt (p ∷ ps) (x ∷ parts) offset) (sites_at offset x) (sites_from (offset + 4 * length x.words) parts)
    (All-map (IsSiteAt (p ∷ ps) (x ∷ parts) offset) (site_from offset) x.sites
    (All-from_places (λ local. IsSiteAt (p ∷ ps) (x ∷ parts) offset (site_from offset local)) x.sites
    (λ j local there. first_site ps parts p x offset j local are.0 there)))
    (All-weaker (IsSiteAt ps parts (offset + 4 * length x.words)) (IsSiteAt (p ∷ ps) (x ∷ parts) offset) (λ row s. later_site ps parts p x offset row s)
    (sites_from (offset + 4 * length x.words) parts) (each_site ps parts (offset + 4 * length x.words) are.1))

-- ---- order
pub rows_in_order : (ps : List Procedure) (parts : List Part) (offset : ℕ) → All IsTaken ps → ArePartsOf ps parts → offset % 4 ≡ 0
    → AreInOrder offset (sites_from offset parts)
unfolding ArePartsOf
rows_in_order [] [] offset taken are whole = tt
rows_in_order [] (x ∷ parts) offset taken are whole = absurd are
rows_in_order (p ∷ ps) [] offset taken are whole = absurd are
rows_in_order (p ∷ ps) (x ∷ parts) offset taken are whole =
    local_order p (All-head IsTaken p ps taken) x.words x.row x.sites are.0.made offset (offset + 4 * length x.words)
    (sites_from (offset + 4 * length x.words) parts) whole refl
    (rows_in_order ps parts (offset + 4 * length x.words) (All-tail IsTaken p ps taken) are.1 (omega arith))

-- ---- the site at a word of a part
-- the rows of a part stand in it
part_within : (p : Procedure) (x : Part) → IsTaken p → IsPartOf p x → All (λ (row : SiteRow). row.pc < 4 * length x.words) x.sites
part_within p x taken of = All-from_places (λ (row : SiteRow). row.pc < 4 * length x.words) x.sites (λ j row there.
    let local = local_row p taken x.words x.row x.sites of.made j row there in
    let ends = local.ends in
    let some = local.some in
    omega (arith, local.pc))

moved_within : (offset n : ℕ) (rows : List SiteRow) → All (λ (row : SiteRow). row.pc < n) rows
    → All (λ (row : SiteRow). row.pc < offset + n) (map (site_from offset) rows)
moved_within offset n rows all =
    All-map (λ (row : SiteRow). row.pc < offset + n) (site_from offset) rows
    (All-weaker (λ (row : SiteRow). row.pc < n) (λ (row : SiteRow). offset + row.pc < offset + n) (λ row lt. omega arith) rows all)

-- those from a byte on stand at it or behind
rows_behind : (offset : ℕ) (parts : List Part) → All (λ (row : SiteRow). offset ≤ row.pc) (sites_from offset parts)
rows_behind offset [] = All-nil _
rows_behind offset (x ∷ parts) =
    All-append (λ (row : SiteRow). offset ≤ row.pc) (sites_at offset x) (sites_from (offset + 4 * length x.words) parts)
    (All-map (λ (row : SiteRow). offset ≤ row.pc) (site_from offset) x.sites
    (All-from_places (λ (row : SiteRow). offset ≤ offset + row.pc) x.sites (λ j row there. omega arith)))
    (All-weaker (λ (row : SiteRow). offset + 4 * length x.words ≤ row.pc) (λ (row : SiteRow). offset ≤ row.pc) (λ row le. omega arith)
    (sites_from (offset + 4 * length x.words) parts) (rows_behind (offset + 4 * length x.words) parts))

-- the site at a word of a part, behind other rows that stand before the first
pub site_in : (ps : List Procedure) (parts : List Part) (offset : ℕ) (before : List SiteRow) (k i : ℕ) (x : Part) → All IsTaken ps → ArePartsOf ps parts
    → All (λ (row : SiteRow). row.pc < offset) before → slice_get parts k ≡ Some x → i < length x.words
    → site_among (offset + start_in parts k + 4 * i) (before ++ sites_from offset parts) ≡ site_among (4 * i) x.sites
unfolding ArePartsOf
site_in [] [] offset before k i x taken are low there lt = absurd cc
site_in [] (y ∷ parts) offset before k i x taken are low there lt = absurd are
site_in (p ∷ ps) [] offset before k i x taken are low there lt = absurd are
site_in (p ∷ ps) (y ∷ parts) offset before zero i x taken are low there lt =
    let same : y ≡ x = same_Some y x there in
    let short : i < length y.words = subst (λ (a : Part). i < length a.words) (sym same) lt in
    let e : offset + start_in (y ∷ parts) 0 + 4 * i ≡ offset + 4 * i = omega (arith, start_zero (y ∷ parts)) in
    ap (λ n. site_among n (before ++ sites_from offset (y ∷ parts))) e
    ∙ among_here before y.sites (sites_from (offset + 4 * length y.words) parts) offset (4 * i)
    (All-weaker (λ (row : SiteRow). row.pc < offset) (λ (row : SiteRow). row.pc ≢ offset + 4 * i) (λ row less same. omega arith) before low)
    (All-weaker (λ (row : SiteRow). offset + 4 * length y.words ≤ row.pc) (λ (row : SiteRow). row.pc ≢ offset + 4 * i) (λ row le same. omega arith)
    (sites_from (offset + 4 * length y.words) parts) (rows_behind (offset + 4 * length y.words) parts))
    ∙ ap (λ (a : Part). site_among (4 * i) a.sites) same
site_in (p ∷ ps) (y ∷ parts) offset before (suc k) i x taken are low there lt =
    let e : offset + start_in (y ∷ parts) (suc k) + 4 * i ≡ offset + 4 * length y.words + start_in parts k + 4 * i = omega (arith, start_suc y parts k) in
    let here = part_within p y (All-head IsTaken p ps taken) are.0 in
    ap (λ n. site_among n (before ++ sites_from offset (y ∷ parts))) e
    ∙ ap (site_among (offset + 4 * length y.words + start_in parts k + 4 * i))
    (sym (append_assoc before (sites_at offset y) (sites_from (offset + 4 * length y.words) parts)))
    ∙ site_in ps parts (offset + 4 * length y.words) (before ++ sites_at offset y) k i x (All-tail IsTaken p ps taken) are.1
    (All-append (λ (row : SiteRow). row.pc < offset + 4 * length y.words) before (sites_at offset y)
    (All-weaker (λ (row : SiteRow). row.pc < offset) (λ (row : SiteRow). row.pc < offset + 4 * length y.words) (λ row less. omega arith) before low)
    (moved_within offset (4 * length y.words) y.sites here))
    there lt
