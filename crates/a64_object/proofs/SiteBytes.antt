-- The sites of a text take few bytes: each is made for a value of the procedure, no two for one.
use Rattle.std.proofs.Common.{◌≡◌, ◌≢◌, ℕ, suc, ◌+◌, ◌-◌, ◌*◌, ◌≤◌, Bool, true, false, if◌then◌else◌, Option, Some, None, List, [], ◌∷◌, length, refl, sym, ap, ◌∙◌, subst, arith, nat_eq}
use Rattle.std.specs.Prelude.{All, AllPairs, map, slice_get, sum_by}
use Rattle.std.specs.List.{flat_map}
use Rattle.std.proofs.lemmas.Bool.{eqb-true}
use Rattle.std.proofs.lemmas.Bool.Decides.{nat_tests}
use Rattle.std.proofs.lemmas.List.Concat.{flat_map-cons}
use Rattle.std.proofs.lemmas.List.Elements.{All-head, All-tail}
use Rattle.std.proofs.lemmas.List.Sums.{sum_by-append, sum_by-cons}
use Rattle.std.proofs.lemmas.Option.{same_Some}
use Rattle.b3_ir.specs.Fits.{reported_of}
use Rattle.b3_ir.specs.Naming.{all_values, value_named, with_id}
use Rattle.b3_ir.specs.Procedure.{Block, Procedure, total}
use Rattle.b3_ir.specs.Table.{row_of}
use Rattle.b3_ir.specs.declared.table.More.{More}
use Rattle.b3_ir.specs.declared.table.More.TheVariants.{Reported}
use Rattle.b3_ir.specs.declared.value.Value.{Value}
use Rattle.stackmap.specs.declared.site.Site.{Site}
use Rattle.exit_table.specs.declared.tables.SiteRow.{SiteRow}
use Rattle.a64_run.specs.Agrees.{case_count, child_count}
use Rattle.a64_emit.specs.Sites.{IsSiteIn}
use Rattle.a64_object.specs.Joined.{ArePartsOf, Part, site_from, sites_at, sites_from}
use Rattle.a64_object.specs.Made.{site_rows, IsMadeOf}
use Rattle.a64_object.proofs.Taken.{IsTaken}
use Rattle.a64_object.proofs.Lists.{one_in}
use Rattle.a64_object.proofs.SitesOf.{IsOne, arguments_count, called, mapped, trapped}
use Rattle.a64_object.proofs.Agreeing.{site_is}
use Rattle.exit_table.specs.declared.tables.FrameRow.{FrameRow}

-- ---- sums
sum_less : {X : Type 0} (f g : X → ℕ) (xs : List X) → ((x : X) → f x ≤ g x) → sum_by f xs ≤ sum_by g xs
sum_less f g [] less = omega arith
sum_less f g (x ∷ xs) less = omega (arith, sum_by-cons f x xs, sum_by-cons g x xs, less x, sum_less f g xs less)

-- ---- what values are worth
abbrev worth : (Value → ℕ) → Option Value → ℕ
worth g (Some v) = g v
worth g None = 0

abbrev Apart : Site → Site → Type 0
Apart a b = a.value ≢ b.value

rest_apart : (s : Site) (ss : List Site) → AllPairs Apart (s ∷ ss) → AllPairs Apart ss
rest_apart s ss apart = λ i j d less lt. apart (suc i) (suc j) d (omega arith) (omega arith)

head_apart : (s : Site) (ss : List Site) → AllPairs Apart (s ∷ ss) → All (Apart s) ss
head_apart s ss apart = λ i d lt. apart 0 (suc i) d (omega arith) (omega arith)

abbrev or_else : ℕ → ℕ → (Site → ℕ) → Site → ℕ
or_else id worth h s = if nat_eq id s.value then worth else h s

none_of_it : (id w : ℕ) (h : Site → ℕ) (s : Site) (ss : List Site) → id ≡ s.value → All (Apart s) ss → sum_by (or_else id w h) ss ≤ sum_by h ss
none_of_it id w h s [] is apart = omega arith
none_of_it id w h s (t ∷ ss) is apart =
    let other : s.value ≢ t.value = All-head (Apart s) t ss apart in
    let differ : nat_eq id t.value ≡ false = grind (arith, nat_tests, other, is) in
    let first : or_else id w h t ≡ h t = rw differ refl in
    omega (arith, sum_by-cons (or_else id w h) t ss, sum_by-cons h t ss, first, none_of_it id w h s ss is (All-tail (Apart s) t ss apart))

-- of sites apart one at most is of an id
one_of_it : (id w : ℕ) (h : Site → ℕ) (ss : List Site) → AllPairs Apart ss → sum_by (or_else id w h) ss ≤ w + sum_by h ss
one_of_it id w h [] apart = omega arith
one_of_it id w h (s ∷ ss) apart = by (nat_eq id s.value) refl (one_of_it id w h ss (rest_apart s ss apart))
  where
    by : (b : Bool) → nat_eq id s.value ≡ b → sum_by (or_else id w h) ss ≤ w + sum_by h ss → sum_by (or_else id w h) (s ∷ ss) ≤ w + sum_by h (s ∷ ss)
    by true same rest =
        let first : or_else id w h s ≡ w = rw same refl in
        let others = none_of_it id w h s ss (eqb-true id s.value same) (head_apart s ss apart) in
        omega (arith, sum_by-cons (or_else id w h) s ss, sum_by-cons h s ss)
    by false differ rest =
        let first : or_else id w h s ≡ h s = rw differ refl in
        omega (arith, sum_by-cons (or_else id w h) s ss, sum_by-cons h s ss)

worth_more : (g : Value → ℕ) (w : Value) (vs : List Value) (s : Site)
    → worth g (with_id s.value (w ∷ vs)) ≤ or_else w.id (g w) (λ (t : Site). worth g (with_id t.value vs)) s
worth_more g w vs s = by (nat_eq w.id s.value)
  where
    by : (b : Bool) → worth g (if b then Some w else with_id s.value vs) ≤ (if b then g w else worth g (with_id s.value vs))
    by true = omega arith
    by false = omega arith

worth_sum : (g : Value → ℕ) (vs : List Value) (ss : List Site) → AllPairs Apart ss → sum_by (λ (s : Site). worth g (with_id s.value vs)) ss ≤ sum_by g vs
worth_sum g [] ss apart = nothing_worth ss
  where
    nothing_worth : (ts : List Site) → sum_by (λ (s : Site). worth g (with_id s.value [])) ts ≤ 0
    nothing_worth [] = omega arith
    nothing_worth (t ∷ ts) = omega (arith, sum_by-cons (λ (s : Site). worth g (with_id s.value [])) t ts, nothing_worth ts)
worth_sum g (w ∷ vs) ss apart =
    omega (
      arith,
      sum_by-cons g w vs,
      worth_sum g vs ss apart,
      one_of_it w.id (g w) (λ (t : Site). worth g (with_id t.value vs)) ss apart,
      sum_less (λ (s : Site). worth g (with_id s.value (w ∷ vs))) (or_else w.id (g w) (λ (t : Site). worth g (with_id t.value vs))) ss (worth_more g w vs),
    )

-- ---- bytes
-- as many as a value's site may take
abbrev value_bytes : Value → ℕ
value_bytes v = 160 + 16 * (length v.children + case_count v.body)

values_bytes : (vs : List Value) → sum_by value_bytes vs ≡ 160 * length vs + 16 * sum_by (λ (v : Value). length v.children + case_count v.body) vs
values_bytes [] = refl
values_bytes (v ∷ vs) = omega (arith, sum_by-cons value_bytes v vs, sum_by-cons (λ (v : Value). length v.children + case_count v.body) v vs, values_bytes vs)

blocks_bytes : (blocks : List Block) → sum_by value_bytes (flat_map (λ (b : Block). b.values) blocks)
    ≡ 160 * sum_by (λ (b : Block). length b.values) blocks + 16 * sum_by
    (λ (b : Block). sum_by (λ (v : Value). length v.children + case_count v.body) b.values) blocks
blocks_bytes [] = refl
blocks_bytes (b ∷ blocks) =
    omega (
      arith,
      ap (sum_by value_bytes) (flat_map-cons (λ (b : Block). b.values) b blocks),
      sum_by-append value_bytes b.values
          (flat_map (λ (b : Block). b.values) blocks),
      values_bytes b.values,
      blocks_bytes blocks,
      sum_by-cons (λ (b : Block). length b.values) b blocks,
      sum_by-cons (λ (b : Block). sum_by (λ (v : Value). length v.children + case_count v.body) b.values)
          b blocks,
    )

abbrev site_bytes : Site → ℕ
site_bytes site = 32 + 16 * length site.reps

abbrev pub row_bytes : SiteRow → ℕ
row_bytes row = 32 + 16 * length row.site.reps

reported_few : (more : More) (n : ℕ) → reported_of more n ≤ n
reported_few Reported n = omega arith
reported_few _ n = omega arith

rows_bytes : (marks : List ℕ) (sites : List Site) → sum_by row_bytes (site_rows marks sites) ≤ sum_by site_bytes sites
rows_bytes [] sites = omega arith
rows_bytes (mark ∷ marks) [] = omega arith
rows_bytes (mark ∷ marks) (site ∷ sites) =
    omega (
      arith,
      sum_by-cons row_bytes (record { pc = 4 * mark; site = site }) (site_rows marks sites),
      sum_by-cons site_bytes site sites,
      rows_bytes marks
          sites,
    )

module _ (p : Procedure) (taken : IsTaken p) (words : List ℕ) (frame : FrameRow) (rows : List SiteRow) (made : IsMadeOf p words frame rows) where
  one_bytes : (site : Site) → IsOne p taken.valid taken.fit made.air made.placed made.frame made.is_frame site → (v : Value)
      → value_named p site.value ≡ Some v → site_bytes site ≤ value_bytes v
  one_bytes site (trapped t) v named = omega (arith, ap length t.trap.reports)
  one_bytes site (called t) v named = let few = t.call.operands.few in omega (arith, ap length t.call.reports, arguments_count 0 t.call.operands.widths)
  one_bytes site (mapped m) v named =
      let same : m.value ≡ v = same_Some m.value v (sym m.named ∙ named) in
      let count = m.is.count in
      let few = reported_few (row_of m.value.kind.opcode).more (length m.value.children - length (row_of m.value.kind.opcode).takes) in
      let children : length m.value.children ≡ length v.children = ap (λ (x : Value). length x.children) same in
      omega arith

  bytes_worth : (k : ℕ) (site : Site) → slice_get made.sites k ≡ Some site → site_bytes site ≤ worth value_bytes (value_named p site.value)
  bytes_worth k site there =
      let s = one_in (IsSiteIn made.air made.frame) made.sites k site there made.is_code.made in
      let of = made.placed.made_for s.block s.place s.inst s.there s.makes in
      let named : value_named p site.value ≡ Some of.0 = ap (value_named p) s.value ∙ of.1 in
      let most = one_bytes site (site_is p taken.valid taken.fit words frame rows made k site there) of.0 named in
      subst (λ o. site_bytes site ≤ worth value_bytes o) (sym named) most

  all_worth : (ss : List Site) → ((k : ℕ) (site : Site) → slice_get ss k ≡ Some site → site_bytes site ≤ worth value_bytes (value_named p site.value))
      → sum_by site_bytes ss ≤ sum_by (λ (s : Site). worth value_bytes (value_named p s.value)) ss
  all_worth [] each = omega arith
  all_worth (s ∷ ss) each =
      omega (
        arith,
        sum_by-cons site_bytes s ss,
        sum_by-cons (λ (s : Site). worth value_bytes (value_named p s.value)) s ss,
        each 0 s refl,
        all_worth ss
            (λ k site there. each (suc k) site there),
      )

  pub few_bytes : sum_by row_bytes rows ≤ 160 * total p + 16 * child_count p
  few_bytes =
      let same : sum_by row_bytes rows ≡ sum_by row_bytes (site_rows made.text.marks made.sites) = ap (sum_by row_bytes) made.rows_are in
      let all = worth_sum value_bytes (all_values p) made.sites made.is_code.apart in
      omega (arith, rows_bytes made.text.marks made.sites, all_worth made.sites bytes_worth, blocks_bytes p.blocks)

-- ---- of an object
moved_bytes : (offset : ℕ) (rows : List SiteRow) → sum_by row_bytes (map (site_from offset) rows) ≡ sum_by row_bytes rows
moved_bytes offset [] = refl
moved_bytes offset (row ∷ rows) =
    omega (arith, sum_by-cons row_bytes (site_from offset row) (map (site_from offset) rows), sum_by-cons row_bytes row rows, moved_bytes offset rows)

pub sites_small : (ps : List Procedure) (parts : List Part) (offset : ℕ) → All IsTaken ps → ArePartsOf ps parts
    → sum_by row_bytes (sites_from offset parts) ≤ 160 * sum_by total ps + 16 * sum_by child_count ps
unfolding ArePartsOf
sites_small [] [] offset taken are = omega arith
sites_small [] (x ∷ parts) offset taken are = absurd are
sites_small (p ∷ ps) [] offset taken are = absurd are
sites_small (p ∷ ps) (x ∷ parts) offset taken are =
    let first = few_bytes p (All-head IsTaken p ps taken) x.words x.row x.sites are.0.made in
    let moved = moved_bytes offset x.sites in
    let rest = sites_small ps parts (offset + 4 * length x.words) (All-tail IsTaken p ps taken) are.1 in
    omega (
      arith,
      sum_by-append row_bytes (sites_at offset x) (sites_from (offset + 4 * length x.words) parts),
      sum_by-cons total p ps,
      sum_by-cons
          child_count p ps,
    )
