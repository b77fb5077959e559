-- Rows of sites, as lists: one more of them, where they stand among others, and that they are in order.
use Rattle.std.proofs.Common.{◌≡◌, ◌≢◌, ℕ, zero, suc, ◌+◌, ◌*◌, ◌%◌, ◌^◌, ◌<◌, ◌≤◌, Bool, true, false, if◌then◌else◌, None, List, [], ◌∷◌, ◌++◌, Some, length, refl, sym, ap, ◌∙◌, subst, arith, nat_eq, take, append_assoc}
use Rattle.std.specs.Prelude.{All, map, slice_get, slice_index}
use Rattle.std.proofs.lemmas.Bool.Decides.{nat_tests}
use Rattle.std.proofs.lemmas.List.{length-take, map-append}
use Rattle.std.proofs.lemmas.List.Elements.{All-head, All-tail}
use Rattle.std.proofs.lemmas.Option.{get_or_from_slice_get, slice_get_within, same_Some}
use Rattle.b3_base.proofs.Lists.{All-from_places}
use Rattle.stackmap.specs.declared.site.Site.{Site}
use Rattle.exit_table.specs.Good.{AreInOrder}
use Rattle.exit_table.specs.declared.tables.SiteRow.{SiteRow}
use Rattle.a64_inst.specs.declared.item.Item.{Item}
use Rattle.a64_layout.specs.Machine.{IsShortestText}
use Rattle.a64_layout.specs.Text.{IsWellLabelled, mark_count, mark_position_of}
use Rattle.a64_layout.specs.declared.text.Text.{Text}
use Rattle.a64_layout.proofs.Labels.{place_short}
use Rattle.a64_run.specs.Machine.{site_among}
use Rattle.a64_object.specs.Joined.{site_from}
use Rattle.a64_object.specs.Made.{site_rows}
use Rattle.air_fold.proofs.Places.{take_item}

-- ---- the rows of marks and sites
abbrev pub row_at : ℕ → Site → SiteRow
row_at mark site = record { pc = 4 * mark; site = site }

rows_append : (marks : List ℕ) (sites : List Site) (mark : ℕ) (site : Site) → length marks ≡ length sites
    → site_rows (marks ++ mark ∷ []) (sites ++ site ∷ []) ≡ site_rows marks sites ++ row_at mark site ∷ []
rows_append [] [] mark site same = refl
rows_append [] (x ∷ sites) mark site same = absurd (omega arith)
rows_append (m ∷ marks) [] mark site same = absurd (omega arith)
rows_append (m ∷ marks) (x ∷ sites) mark site same = ap (λ rows. row_at m x ∷ rows) (rows_append marks sites mark site (omega arith))

-- one more, behind others
pub rows_more : (first : ℕ) (before : List SiteRow) (marks : List ℕ) (sites : List Site) (k mark : ℕ) (site : Site) (rows next : List SiteRow)
    → length marks ≡ length sites
    → slice_get marks k ≡ Some mark → slice_get sites k ≡ Some site → rows ≡ before ++ map (site_from (4 * first)) (site_rows (take k marks) (take k sites))
    → next ≡ rows ++ record { pc = 4 * (first + mark); site = site } ∷ []
    → next ≡ before ++ map (site_from (4 * first)) (site_rows (take (k + 1) marks) (take (k + 1) sites))
rows_more first before marks sites k mark site rows next same at its so_far more =
    let few : length (take k marks) ≡ length (take k sites) = omega (arith, length-take k marks, length-take k sites, slice_get_within marks k mark at, same) in
    let pc : 4 * (first + mark) ≡ 4 * first + 4 * mark = omega arith in
    let one : map (site_from (4 * first)) (row_at mark site ∷ []) ≡ record { pc = 4 * (first + mark); site = site } ∷ [] =
    ap (λ (n : ℕ). last_row n) (sym pc) in
    let rows_now : site_rows (take (k + 1) marks) (take (k + 1) sites) ≡ site_rows (take k marks) (take k sites) ++ row_at mark site ∷ [] =
    ap (λ ms. site_rows ms (take (k + 1) sites)) (take_item marks k mark at) ∙ ap (site_rows (take k marks ++ mark ∷ [])) (take_item sites k site its)
    ∙ rows_append (take k marks) (take k sites) mark site few in
    let mapped : map (site_from (4 * first)) (site_rows (take (k + 1) marks) (take (k + 1) sites))
    ≡ map (site_from (4 * first)) (site_rows (take k marks) (take k sites)) ++ record { pc = 4 * (first + mark); site = site } ∷ [] =
    ap (map (site_from (4 * first))) rows_now ∙ map-append (site_from (4 * first)) (site_rows (take k marks) (take k sites)) (row_at mark site ∷ [])
    ∙ ap (λ rs. map (site_from (4 * first)) (site_rows (take k marks) (take k sites)) ++ rs) one in
    more ∙ ap (λ (rs : List SiteRow). rs ++ record { pc = 4 * (first + mark); site = site } ∷ []) so_far
    ∙ append_assoc before (map (site_from (4 * first)) (site_rows (take k marks) (take k sites))) (record { pc = 4 * (first + mark); site = site } ∷ [])
    ∙ ap (λ rs. before ++ rs) (sym mapped)
  where
    last_row : ℕ → List SiteRow
    last_row n = record { pc = n; site = site } ∷ []

-- a row of them is that of a mark and a site
pub record IsRowOf (marks : List ℕ) (sites : List Site) (k : ℕ) (row : SiteRow) : Type 0 where
  pub mark : ℕ
  pub site : Site
  pub mark_there : slice_get marks k ≡ Some mark
  pub site_there : slice_get sites k ≡ Some site
  pub is : row ≡ row_at mark site

pub row_is : (marks : List ℕ) (sites : List Site) (k : ℕ) (row : SiteRow) → slice_get (site_rows marks sites) k ≡ Some row → IsRowOf marks sites k row
row_is [] sites k row there = absurd cc
row_is (mark ∷ marks) [] k row there = absurd cc
row_is (mark ∷ marks) (site ∷ sites) zero row there = record { mark = mark; site = site; mark_there = refl; site_there = refl; is = cc }
row_is (mark ∷ marks) (site ∷ sites) (suc k) row there =
    let rest = row_is marks sites k row there in
    record { mark = rest.mark; site = rest.site; mark_there = rest.mark_there; site_there = rest.site_there; is = rest.is }

-- the marks of a text are below 2^24
pub marks_short : (code : List Item) (text : Text) → IsWellLabelled code → IsShortestText code text → length text.marks ≡ mark_count code
    → All (λ mark. mark < 2 ^ 24) text.marks
marks_short code text good short count = All-from_places (λ mark. mark < 2 ^ 24) text.marks (λ k mark there.
    let within = slice_get_within text.marks k mark there in
    let at : mark_position_of code k < length code = good.mark_there k (omega arith) in
    let low = place_short code good short.0 (mark_position_of code k) (omega arith) in
    let is = short.3.marks k within in
    let same : slice_index text.marks k ≡ mark = get_or_from_slice_get text.marks k mark 0 there in
    omega arith)

-- ---- the site among rows
among_skip : (pc : ℕ) (xs ys : List SiteRow) → All (λ (row : SiteRow). row.pc ≢ pc) xs → site_among pc (xs ++ ys) ≡ site_among pc ys
among_skip pc [] ys apart = refl
among_skip pc (x ∷ xs) ys apart =
    let differ : x.pc ≢ pc = All-head (λ (row : SiteRow). row.pc ≢ pc) x xs apart in
    let no : nat_eq x.pc pc ≡ false = grind (arith, nat_tests, differ) in
    rw no (among_skip pc xs ys (All-tail (λ (row : SiteRow). row.pc ≢ pc) x xs apart))

among_nothing : (pc : ℕ) (ys : List SiteRow) → All (λ (row : SiteRow). row.pc ≢ pc) ys → site_among pc ys ≡ None
among_nothing pc [] apart = refl
among_nothing pc (y ∷ ys) apart =
    let differ : y.pc ≢ pc = All-head (λ (row : SiteRow). row.pc ≢ pc) y ys apart in
    let no : nat_eq y.pc pc ≡ false = grind (arith, nat_tests, differ) in
    rw no (among_nothing pc ys (All-tail (λ (row : SiteRow). row.pc ≢ pc) y ys apart))

among_front : (pc : ℕ) (xs ys : List SiteRow) → All (λ (row : SiteRow). row.pc ≢ pc) ys → site_among pc (xs ++ ys) ≡ site_among pc xs
among_front pc [] ys apart = among_nothing pc ys apart
among_front pc (x ∷ xs) ys apart = by (nat_eq x.pc pc) (among_front pc xs ys apart)
  where
    by : (b : Bool) → site_among pc (xs ++ ys) ≡ site_among pc xs
        → (if b then Some x.site else site_among pc (xs ++ ys)) ≡ (if b then Some x.site else site_among pc xs)
    by true rest = refl
    by false rest = rest

among_moved : (offset pc : ℕ) (rows : List SiteRow) → site_among (offset + pc) (map (site_from offset) rows) ≡ site_among pc rows
among_moved offset pc [] = refl
among_moved offset pc (row ∷ rows) =
    let same : nat_eq (offset + row.pc) (offset + pc) ≡ nat_eq row.pc pc = grind (arith, nat_tests) in
    rw same (ap (λ rest. if nat_eq row.pc pc then Some row.site else rest) (among_moved offset pc rows))

-- among others, none of which stands there
pub among_here : (before rows behind : List SiteRow) (offset pc : ℕ) → All (λ (row : SiteRow). row.pc ≢ offset + pc) before
    → All (λ (row : SiteRow). row.pc ≢ offset + pc) behind
    → site_among (offset + pc) (before ++ (map (site_from offset) rows ++ behind)) ≡ site_among pc rows
among_here before rows behind offset pc apart apart_too =
    among_skip (offset + pc) before (map (site_from offset) rows ++ behind) apart ∙ among_front (offset + pc) (map (site_from offset) rows) behind apart_too
    ∙ among_moved offset pc rows

-- ---- order
order_sooner : (from to : ℕ) (rows : List SiteRow) → from ≤ to → AreInOrder to rows → AreInOrder from rows
order_sooner from to [] le order = tt
order_sooner from to (row ∷ rows) le order = let later = order.1 in (order.0, omega arith, order.2)

-- marks that rise by the sizes of their sites, behind a byte and before another one
pub order_from : (offset from to : ℕ) (marks : List ℕ) (sites : List Site) (rest : List SiteRow) → length marks ≡ length sites → offset % 4 ≡ 0 → from ≤ to
    → ((n : ℕ) → n < length marks → from ≤ offset + 4 * slice_index marks n)
    → ((m n : ℕ) (site : Site) → slice_get sites m ≡ Some site → m < n → n < length marks → slice_index marks m + site.size ≤ slice_index marks n)
    → ((m : ℕ) (site : Site) → slice_get sites m ≡ Some site → offset + 4 * (slice_index marks m + site.size) ≤ to)
    → AreInOrder to rest → AreInOrder from (map (site_from offset) (site_rows marks sites) ++ rest)
order_from offset from to [] sites rest same whole le first apart within order = order_sooner from to rest le order
order_from offset from to (mark ∷ marks) [] rest same whole le first apart within order = absurd (omega arith)
order_from offset from to (mark ∷ marks) (site ∷ sites) rest same whole le first apart within order =
    let here = first 0 (omega arith) in
    let ends = within 0 site refl in (
      omega arith,
      omega arith,
      order_from offset (offset + 4 * mark + 4 * site.size) to marks sites rest (omega arith) whole (omega arith)
          (λ n lt. let behind = apart 0 (suc n) site refl (omega arith) (omega arith) in omega arith)
          (λ m n x there less lt. apart (suc m) (suc n) x there (omega arith) (omega arith))
          (λ m x there. within (suc m) x there)
          order,
    )

-- each stands behind a byte, and behind the ends of those before it
order_least : (end : ℕ) (rows : List SiteRow) → AreInOrder end rows → (k : ℕ) (row : SiteRow) → slice_get rows k ≡ Some row → end ≤ row.pc
order_least end [] order k row there = absurd cc
order_least end (x ∷ rows) order zero row there =
    let same : x.pc ≡ row.pc = ap (λ (r : SiteRow). r.pc) (same_Some x row there) in
    let least = order.1 in
    omega arith
order_least end (x ∷ rows) order (suc k) row there =
    let least = order.1 in
    let rest = order_least (x.pc + 4 * x.site.size) rows order.2 k row there in
    omega arith

pub order_behind : (end : ℕ) (rows : List SiteRow) → AreInOrder end rows → (j k : ℕ) (a b : SiteRow) → j < k → slice_get rows j ≡ Some a
    → slice_get rows k ≡ Some b → a.pc + 4 * a.site.size ≤ b.pc
order_behind end [] order j k a b less there other = absurd cc
order_behind end (x ∷ rows) order j zero a b less there other = absurd (omega arith)
order_behind end (x ∷ rows) order zero (suc k) a b less there other =
    subst (λ (r : SiteRow). r.pc + 4 * r.site.size ≤ b.pc) (same_Some x a there) (order_least (x.pc + 4 * x.site.size) rows order.2 k b other)
order_behind end (x ∷ rows) order (suc j) (suc k) a b less there other =
    order_behind (x.pc + 4 * x.site.size) rows order.2 j k a b (omega arith) there other
