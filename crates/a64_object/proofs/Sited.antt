-- Where the sites of emitted code stand among its items and its words: each at its mark.
use Rattle.std.proofs.Common.{◌≡◌, ◌≢◌, ℕ, zero, suc, ◌+◌, ◌-◌, ◌*◌, ◌<◌, ◌≤◌, ⊎_elim, true, false, Option, Some, None, List, [], ◌∷◌, length, refl, sym, ap, ◌∙◌, subst, arith, nat_eq, eq-eqb}
use Rattle.std.specs.Prelude.{slice_get, slice_index}
use Rattle.std.proofs.lemmas.Bool.{cases_lt}
use Rattle.std.proofs.lemmas.Bool.Decides.{nat_tests}
use Rattle.std.proofs.lemmas.Option.{slice_get_within}
use Rattle.b3_base.proofs.Lists.{get_some}
use Rattle.stackmap.specs.declared.site.Site.{Site}
use Rattle.stackmap.specs.declared.site.SiteKind.{SiteKind}
use Rattle.stackmap.specs.declared.site.SiteKind.TheVariants.{Call, Patchpoint, Exit, Trap}
use Rattle.a64_inst.specs.declared.inst.BranchKind.TheVariants.{Blr}
use Rattle.a64_inst.specs.declared.inst.Inst.{Inst}
use Rattle.a64_inst.specs.declared.inst.Inst.TheVariants.{BranchReg, Break}
use Rattle.a64_inst.specs.declared.item.Item.{Item}
use Rattle.a64_inst.specs.declared.item.Item.TheVariants.{Plain, Mark}
use Rattle.a64_layout.specs.Branch.{size_in}
use Rattle.a64_layout.specs.Layout.{Set, place}
use Rattle.a64_layout.specs.Run.{IsMarked, IsWellMarked, mark_before}
use Rattle.a64_layout.specs.Text.{IsWellLabelled, mark_count, mark_position_of, TellsMarks}
use Rattle.a64_layout.proofs.Labels.{mark_stands}
use Rattle.a64_layout.proofs.Least.{place-next, place_mono}
use Rattle.a64_layout.proofs.Marked.{branch_unmarked, inside_unmarked, instruction_marked, mark_in_is}
use Rattle.a64_layout.proofs.Simulation.{instructions_place}
use Rattle.a64_run.specs.Machine.{site_among}
use Rattle.a64_emit.specs.Setting.{site_of}
use Rattle.a64_emit.specs.Sites.{SuitsItems}
use Rattle.a64_object.specs.Made.{site_rows}

-- how many words a site has: one, or at a patchpoint some
abbrev pub IsSized : SiteKind → ℕ → Type 0
IsSized Patchpoint size = 1 ≤ size
IsSized Call size = size ≡ 1
IsSized Exit size = size ≡ 1
IsSized Trap size = size ≡ 1

pub some_size : (kind : SiteKind) (size : ℕ) → IsSized kind size → 1 ≤ size
some_size Patchpoint size sized = sized
some_size Call size sized = omega arith
some_size Exit size sized = omega arith
some_size Trap size sized = omega arith

-- the marks of code are those of its sites, in order, each where its site's instructions stand
pub record HasSites (code : List Item) (sites : List Site) : Type 0 where
  pub good : IsWellLabelled code
  pub count : mark_count code ≡ length sites
  pub in_order : (m n : ℕ) → m < n → n < length sites → mark_position_of code m < mark_position_of code n
  pub suits : (m : ℕ) (site : Site) → slice_get sites m ≡ Some site → SuitsItems code site.kind site.size (mark_position_of code m + 1)
  pub sized : (m : ℕ) (site : Site) → slice_get sites m ≡ Some site → IsSized site.kind site.size

abbrev PlainAt : List Item → ℕ → Type 0
PlainAt code k = (inst : Inst) × (slice_get code k ≡ Some (Plain inst))

one_plain : (code : List Item) (k i size : ℕ) → size ≡ 1 → i < size → PlainAt code k → PlainAt code (k + i)
one_plain code k i size one lt plain = let e : k + i ≡ k = omega arith in subst (PlainAt code) (sym e) plain

plain_by : (code : List Item) (kind : SiteKind) (size k i : ℕ) → IsSized kind size → SuitsItems code kind size k → i < size → PlainAt code (k + i)
plain_by code Patchpoint size k i sized suits lt = (Break 2, suits i lt)
plain_by code Call size k i sized suits lt = one_plain code k i size sized lt (BranchReg Blr suits.0, suits.2)
plain_by code Exit size k i sized suits lt = one_plain code k i size sized lt (Break 1, suits)
plain_by code Trap size k i sized suits lt = one_plain code k i size sized lt (suits.0, suits.1)

no_mark : (o : Option Item) (inst : Inst) (mark : ℕ) → o ≡ Some (Plain inst) → o ≡ Some (Mark mark) → ⊥
no_mark o inst mark plain marked = cc

module _ (code : List Item) (sites : List Site) (has : HasSites code sites) where
  -- the instructions of a site
  pub site_plain : (m i : ℕ) (site : Site) → slice_get sites m ≡ Some site → i < site.size → PlainAt code (mark_position_of code m + 1 + i)
  site_plain m i site there lt = plain_by code site.kind site.size (mark_position_of code m + 1) i (has.sized m site there) (has.suits m site there) lt

  pub mark_there : (m : ℕ) → m < length sites → slice_get code (mark_position_of code m) ≡ Some (Mark m)
  mark_there m lt = mark_stands code m (has.good.mark_there m (omega (arith, has.count)))

  position_is : (k m : ℕ) → slice_get code k ≡ Some (Mark m) → (m < length sites) × (mark_position_of code m ≡ k)
  position_is k m there =
      let below = has.good.marks k m there in
      let lt : m < length sites = omega (arith, has.count) in
      (lt, has.good.mark_once (mark_position_of code m) k m (mark_there m lt) there)

  pub well_marked : IsWellMarked code
  well_marked k m there =
      let at = position_is k m there in
      let site = get_some sites m at.0 in
      let some = some_size site.0.kind site.0.size (has.sized m site.0 site.1) in
      let e : mark_position_of code m + 1 + 0 ≡ k + 1 = omega (arith, at.1) in
      subst (PlainAt code) e (site_plain m 0 site.0 site.1 some)

  -- the mark right before an item
  pub before_is : (k m : ℕ) → mark_before code k ≡ Some m → (m < length sites) × (mark_position_of code m + 1 ≡ k)
  before_is zero m is = absurd cc
  before_is (suc k) m is = let at = position_is k m (mark_in_is (slice_get code k) m is) in (at.0, omega (arith, at.1))

  -- the places of a site's first word and of the one behind it
  pub site_places : (long : Set) (m : ℕ) (site : Site) → slice_get sites m ≡ Some site
      → (place code long (mark_position_of code m + 1) ≡ place code long (mark_position_of code m))
      × (place code long (mark_position_of code m + 1 + site.size) ≡ place code long (mark_position_of code m) + site.size)
  site_places long m site there =
      let at = mark_position_of code m in
      let next = place-next code long at in
      let none : size_in (long at) (slice_get code at) ≡ 0 = ap (size_in (long at)) (mark_there m (slice_get_within sites m site there)) in
      let all = instructions_place code long (at + 1) site.size (λ i lt. site_plain m i site there lt) in
      (omega arith, omega arith)

  -- a later mark stands behind it
  pub site_behind : (m n : ℕ) (site : Site) → slice_get sites m ≡ Some site → m < n → n < length sites
      → mark_position_of code m + 1 + site.size ≤ mark_position_of code n
  site_behind m n site there less lt =
      ⊎_elim
      (λ inside.
      let later = has.in_order m n less lt in
      let i : ℕ = mark_position_of code n - (mark_position_of code m + 1) in
      let at : mark_position_of code m + 1 + i ≡ mark_position_of code n = omega arith in
      let plain = site_plain m i site there (omega arith) in
      absurd (no_mark (slice_get code (mark_position_of code n)) plain.0 n (ap (slice_get code) (sym at) ∙ plain.1) (mark_there n lt)))
      (λ behind. behind)
      (cases_lt (mark_position_of code n) (mark_position_of code m + 1 + site.size))

  pub places_apart : (long : Set) (m n : ℕ) (site : Site) → slice_get sites m ≡ Some site → m < n → n < length sites
      → place code long (mark_position_of code m) + site.size ≤ place code long (mark_position_of code n)
  places_apart long m n site there less lt =
      let words = (site_places long m site there).1 in
      let up = place_mono code long (mark_position_of code m + 1 + site.size) (mark_position_of code n) (site_behind m n site there less lt) in
      omega arith

  -- and the code ends behind each
  pub site_within : (long : Set) (m : ℕ) (site : Site) → slice_get sites m ≡ Some site
      → place code long (mark_position_of code m) + site.size ≤ place code long (length code)
  site_within long m site there =
      let some = some_size site.kind site.size (has.sized m site there) in
      let at : ℕ = mark_position_of code m + 1 + (site.size - 1) in
      let last = site_plain m (site.size - 1) site there (omega arith) in
      let within = slice_get_within code at (Plain last.0) last.1 in
      let words = (site_places long m site there).1 in
      let up = place_mono code long (mark_position_of code m + 1 + site.size) (length code) (omega arith) in
      omega arith

-- ---- rows
not_same : (a b : ℕ) → a ≢ b → nat_eq a b ≡ false
not_same a b differ = grind (arith, nat_tests)

among_none : (marks : List ℕ) (sites : List Site) (here : ℕ) → ((m : ℕ) → m < length marks → slice_index marks m ≢ here)
    → site_among (4 * here) (site_rows marks sites) ≡ None
among_none [] sites here other = refl
among_none (mark ∷ marks) [] here other = refl
among_none (mark ∷ marks) (site ∷ sites) here other =
    let differ : mark ≢ here = other 0 (omega arith) in
    let apart : nat_eq (4 * mark) (4 * here) ≡ false = not_same (4 * mark) (4 * here) (λ same. differ (omega arith)) in
    rw apart (among_none marks sites here (λ m lt. other (suc m) (omega arith)))

among_some : (marks : List ℕ) (sites : List Site) (here m : ℕ) (site : Site) → m < length marks → slice_get sites m ≡ Some site → slice_index marks m ≡ here
    → ((n : ℕ) → n < m → slice_index marks n ≢ here) → site_among (4 * here) (site_rows marks sites) ≡ Some site
among_some [] sites here m site lt there at first = absurd (omega arith)
among_some (mark ∷ marks) [] here m site lt there at first = absurd cc
among_some (mark ∷ marks) (x ∷ sites) here zero site lt there at first =
    let same : nat_eq (4 * mark) (4 * here) ≡ true = eq-eqb (4 * mark) (4 * here) (ap (λ n. 4 * n) at) in
    rw same there
among_some (mark ∷ marks) (x ∷ sites) here (suc m) site lt there at first =
    let differ : mark ≢ here = first 0 (omega arith) in
    let apart : nat_eq (4 * mark) (4 * here) ≡ false = not_same (4 * mark) (4 * here) (λ same. differ (omega arith)) in
    rw apart (among_some marks sites here m site (omega arith) there at (λ n less. first (suc n) (omega arith)))

-- the rows of sites at the places of their marks
module _ (code : List Item) (sites : List Site) (has : HasSites code sites) (long : Set) (marks : List ℕ) (tells : TellsMarks code long marks)
    (as_many : length marks ≡ length sites) where
  row_at : (here : ℕ) (o : Option ℕ) → IsMarked code long here o → site_among (4 * here) (site_rows marks sites) ≡ site_of sites o
  row_at here None is = among_none marks sites here (λ m lt same. is m (omega (arith, has.count)) (sym (tells m lt) ∙ same))
  row_at here (Some m) is =
      let lt : m < length sites = omega (arith, has.count, is.0) in
      let site = get_some sites m lt in
      among_some marks sites here m site.0 (omega arith) site.1 (tells m (omega arith) ∙ is.1)
      (λ n less same.
      let other = get_some sites n (omega arith) in
      let some = some_size other.0.kind other.0.size (has.sized n other.0 other.1) in
      let apart = places_apart code sites has long n m other.0 other.1 less lt in
      let here_too = is.1 in
      let place_of_it = tells n (omega arith) in
      omega arith)
      ∙ sym site.1

  -- the site at the first word of an instruction is that of the mark right before it
  pub plain_row : (j : ℕ) (inst : Inst) → slice_get code j ≡ Some (Plain inst)
      → site_among (4 * place code long j) (site_rows marks sites) ≡ site_of sites (mark_before code j)
  plain_row j inst there = row_at (place code long j) (mark_before code j) (instruction_marked code has.good (well_marked code sites has) long j inst there)

  -- and none stands at a branch
  pub branch_row : (j i : ℕ) → ((inst : Inst) → slice_get code j ≡ Some (Plain inst) → ⊥) → i < size_in (long j) (slice_get code j)
      → site_among (4 * (place code long j + i)) (site_rows marks sites) ≡ None
  branch_row j i other lt =
      let next = place-next code long j in
      ⊎_elim
      (λ some. row_at (place code long j + i) None
      (inside_unmarked code has.good (well_marked code sites has) long j (place code long j + i) (omega arith) (omega arith)))
      (λ none.
      let e : place code long j + i ≡ place code long j = omega arith in
      ap (λ n. site_among (4 * n) (site_rows marks sites)) e
      ∙ row_at (place code long j) None (branch_unmarked code has.good (well_marked code sites has) long j (omega arith) other))
      (cases_lt 0 i)
