-- The sites of a procedure's text, row by row: each is good and has its word, and they stand in order.
use Rattle.std.proofs.Common.{◌≡◌, ◌≢◌, ℕ, ◌+◌, ◌*◌, ◌%◌, ◌^◌, ◌<◌, ◌≤◌, inl, inr, Some, List, ◌++◌, length, refl, sym, ap, ◌∙◌, subst, arith, get_or}
use Rattle.std.specs.Prelude.{All, IsSomeAnd, map, slice_get}
use Rattle.std.proofs.lemmas.Bool.{cases_lt}
use Rattle.std.proofs.lemmas.Option.{get_or_from_slice_get, slice_get_within, same_Some}
use Rattle.stackmap.specs.declared.site.Place.{Place}
use Rattle.stackmap.specs.declared.site.Site.{Site}
use Rattle.stackmap.specs.declared.site.SiteKind.{SiteKind}
use Rattle.stackmap.specs.declared.site.SiteKind.TheVariants.{Call, Patchpoint, Exit, Trap}
use Rattle.exit_table.specs.Good.{AreInOrder, IsGoodKind, IsGoodRep}
use Rattle.exit_table.specs.declared.tables.FrameRow.{FrameRow}
use Rattle.exit_table.specs.declared.tables.SiteRow.{SiteRow}
use Rattle.elf_obj.specs.Good.{IsWordOf}
use Rattle.a64_inst.specs.declared.inst.BranchKind.TheVariants.{Blr}
use Rattle.a64_inst.specs.declared.inst.Inst.{Inst}
use Rattle.a64_inst.specs.declared.inst.Inst.TheVariants.{BranchReg, Break}
use Rattle.a64_inst.specs.declared.item.Item.TheVariants.{Plain}
use Rattle.a64_word.specs.Word.{word}
use Rattle.a64_layout.specs.Layout.{place}
use Rattle.a64_layout.specs.Text.{mark_position_of}
use Rattle.a64_layout.proofs.Words.{words_length}
use Rattle.a64_run.specs.CodeOf.{HasItsValue}
use Rattle.a64_emit.specs.Sites.{IsSiteIn, SuitsItems}
use Rattle.a64_object.specs.Joined.{site_from}
use Rattle.a64_object.proofs.Lists.{one_in}
use Rattle.a64_object.proofs.TextWords.{plain_at}
use Rattle.a64_object.proofs.Sited.{HasSites, places_apart, site_places, site_within, some_size}
use Rattle.a64_object.proofs.SitesOf.{has_its_value, one_few, one_good, one_placed}
use Rattle.a64_object.proofs.SiteLists.{IsRowOf, order_from, row_is}
use Rattle.a64_object.proofs.Agreeing.{has_sites, site_is}
use Rattle.b3_ir.specs.Procedure.{Procedure}
use Rattle.a64_object.specs.Made.{IsMadeOf}
use Rattle.a64_object.proofs.Taken.{IsTaken}

-- ---- the words of sites
link_word : (rn : ℕ) → word (BranchReg Blr rn) ≡ 0xD63F_0000 + 32 * rn
link_word rn = omega arith

-- a row of the sites of a text with a frame
pub record IsLocal (words : List ℕ) (frame : FrameRow) (row : SiteRow) : Type 0 where
  pub mark : ℕ
  pub pc : row.pc ≡ 4 * mark
  pub some : 1 ≤ row.site.size
  pub ends : mark + row.site.size ≤ length words
  pub value : row.site.value < 2 ^ 32
  pub kind : IsGoodKind row.site.kind row.site
  pub places : All (λ (place : Place). IsGoodRep frame place.width place.rep) row.site.reps
  pub few : length row.site.reps < 2 ^ 32
  pub word : IsSomeAnd (slice_get words mark) (IsWordOf row.site.kind)

module _ (p : Procedure) (taken : IsTaken p) (words : List ℕ) (frame : FrameRow) (rows : List SiteRow) (made : IsMadeOf p words frame rows) where
  its_sites : HasSites made.code made.sites
  its_sites = has_sites p taken.valid taken.fit words frame rows made

  -- the mark of a site
  mark_is : (k mark : ℕ) → slice_get made.text.marks k ≡ Some mark → mark ≡ place made.code made.is_text.0 (mark_position_of made.code k)
  mark_is k mark there = sym (get_or_from_slice_get made.text.marks k mark 0 there) ∙ made.is_text.3.marks k (slice_get_within made.text.marks k mark there)

  word_count : place made.code made.is_text.0 (length made.code) ≡ length words
  word_count = sym (ap length made.words_are ∙ ap length made.is_text.3.words ∙ words_length made.code made.is_text.0 (length made.code))

  inst_word : (k mark : ℕ) (site : Site) (inst : Inst) → slice_get made.sites k ≡ Some site → slice_get made.text.marks k ≡ Some mark
      → slice_get made.code (mark_position_of made.code k + 1) ≡ Some (Plain inst) → slice_get words mark ≡ Some (word inst)
  inst_word k mark site inst there mark_there plain =
      let code = made.code in
      let at = plain_at code made.is_code.labelled made.is_text.0 made.is_text.1.enough made.text.words made.is_text.3.words
      (mark_position_of code k + 1) inst plain in
      let same : mark ≡ place code made.is_text.0 (mark_position_of code k + 1) = mark_is k mark mark_there
      ∙ sym (site_places code made.sites its_sites made.is_text.0 k site there).0 in
      ap (λ ws. slice_get ws mark) made.words_are ∙ ap (slice_get made.text.words) same ∙ at.0

  abbrev HasWordOf : SiteKind → ℕ → Type 0
  HasWordOf kind mark = IsSomeAnd (slice_get words mark) (IsWordOf kind)

  some_word : (kind : SiteKind) (mark w : ℕ) → slice_get words mark ≡ Some w → IsWordOf kind w → HasWordOf kind mark
  some_word kind mark w there is = subst (λ o. IsSomeAnd o (IsWordOf kind)) (sym there) is

  kind_word : (k mark : ℕ) (site : Site) (kind : SiteKind) → slice_get made.sites k ≡ Some site → slice_get made.text.marks k ≡ Some mark
      → SuitsItems made.code kind site.size (mark_position_of made.code k + 1) → 1 ≤ site.size → HasWordOf kind mark
  kind_word k mark site Call there mark_there suits some =
      some_word Call mark (word (BranchReg Blr suits.0)) (inst_word k mark site (BranchReg Blr suits.0) there mark_there suits.2)
      (suits.0, omega (arith, suits.1), link_word suits.0)
  kind_word k mark site Patchpoint there mark_there suits some =
      let e : mark_position_of made.code k + 1 + 0 ≡ mark_position_of made.code k + 1 = omega arith in
      some_word Patchpoint mark (word (Break 2)) (inst_word k mark site (Break 2) there mark_there (sym (ap (slice_get made.code) e) ∙ suits 0 some)) tt
  kind_word k mark site Exit there mark_there suits some = some_word Exit mark (word (Break 1)) (inst_word k mark site (Break 1) there mark_there suits) refl
  kind_word k mark site Trap there mark_there suits some = some_word Trap mark (word suits.0) (inst_word k mark site suits.0 there mark_there suits.1) tt

  its_row : (k : ℕ) (row : SiteRow) → slice_get rows k ≡ Some row → IsRowOf made.text.marks made.sites k row
  its_row k row there = row_is made.text.marks made.sites k row (ap (λ (rs : List SiteRow). slice_get rs k) (sym made.rows_are) ∙ there)

  pub local_row : (k : ℕ) (row : SiteRow) → slice_get rows k ≡ Some row → IsLocal words frame row
  local_row k row there =
      let r = its_row k row there in
      let one = site_is p taken.valid taken.fit words frame rows made k r.site r.site_there in
      let some = some_size r.site.kind r.site.size (its_sites.sized k r.site r.site_there) in
      let ends = site_within made.code made.sites its_sites made.is_text.0 k r.site r.site_there in
      let at = mark_is k r.mark r.mark_there in
      let count = word_count in
      let in_code = one_in (IsSiteIn made.air made.frame) made.sites k r.site r.site_there made.is_code.made in
      let few = one_few p taken.valid taken.fit made.air made.placed made.frame made.is_frame r.site one in
      let light = made.placed.light in
      let values = taken.limits.values in
      let children = taken.limits.children in
      subst (IsLocal words frame) (sym r.is) (record {
        mark = r.mark;
        pc = refl;
        some = some;
        ends = omega arith;
        value = in_code.small;
        kind = one_good p taken.valid taken.fit made.air made.placed made.frame made.is_frame r.site one;
        places = subst (λ (f : FrameRow). All (λ (place : Place). IsGoodRep f place.width place.rep) r.site.reps) (sym made.row_is)
            (one_placed p taken.valid taken.fit made.air made.placed made.frame made.is_frame r.site one);
        few = omega arith;
        word = kind_word k r.mark r.site r.site.kind r.site_there r.mark_there (its_sites.suits k r.site r.site_there) some;
      })

  pub local_value : (k : ℕ) (row : SiteRow) → slice_get rows k ≡ Some row → HasItsValue p row.site
  local_value k row there =
      let r = its_row k row there in
      let in_code = one_in (IsSiteIn made.air made.frame) made.sites k r.site r.site_there made.is_code.made in
      subst (λ (x : SiteRow). HasItsValue p x.site) (sym r.is)
      (has_its_value p taken.valid taken.fit made.air made.placed made.frame made.is_frame made.coloured.assignment made.coloured.is r.site in_code)

  -- no two of them have one value
  values_differ : (k l : ℕ) (a b : SiteRow) → slice_get rows k ≡ Some a → slice_get rows l ≡ Some b → k < l → a.site.value ≢ b.site.value
  values_differ k l a b there other less =
      let r = its_row k a there in
      let q = its_row l b other in
      let differ = made.is_code.apart k l r.site less (slice_get_within made.sites l q.site q.site_there) in
      let first : get_or made.sites k r.site ≡ a.site =
      get_or_from_slice_get made.sites k r.site r.site r.site_there ∙ ap (λ (x : SiteRow). x.site) (sym r.is) in
      let second : get_or made.sites l r.site ≡ b.site =
      get_or_from_slice_get made.sites l q.site r.site q.site_there ∙ ap (λ (x : SiteRow). x.site) (sym q.is) in
      λ same. differ (ap (λ (x : Site). x.value) first ∙ same ∙ ap (λ (x : Site). x.value) (sym second))

  pub local_apart : (k l : ℕ) (a b : SiteRow) → slice_get rows k ≡ Some a → slice_get rows l ≡ Some b → a.pc ≢ b.pc → a.site.value ≢ b.site.value
  local_apart k l a b there other pcs same =
      elim (cases_lt k l) [
        | inl less ↦ values_differ k l a b there other less same
        | inr past ↦ elim (cases_lt l k) [
          | inl more ↦ values_differ l k b a other there more (sym same)
          | inr also ↦
              let one : k ≡ l = omega arith in
              pcs (ap (λ (x : SiteRow). x.pc) (same_Some a b (sym there ∙ ap (slice_get rows) one ∙ other)))
        ]
      ]

  -- they stand in order, where the text begins at a byte
  pub local_order : (offset to : ℕ) (rest : List SiteRow) → offset % 4 ≡ 0 → to ≡ offset + 4 * length words → AreInOrder to rest
      → AreInOrder offset (map (site_from offset) rows ++ rest)
  local_order offset to rest whole is order =
      subst (λ (rs : List SiteRow). AreInOrder offset (map (site_from offset) rs ++ rest)) (sym made.rows_are)
      (order_from offset offset to made.text.marks made.sites rest made.marked whole (omega arith) (λ n lt. omega arith)
      (λ m n site there less lt.
      let apart = places_apart made.code made.sites its_sites made.is_text.0 m n site there less (omega (arith, made.marked)) in
      let first = made.is_text.3.marks m (omega arith) in
      let second = made.is_text.3.marks n lt in
      omega arith)
      (λ m site there.
      let within = site_within made.code made.sites its_sites made.is_text.0 m site there in
      let first = made.is_text.3.marks m (omega (arith, made.marked, slice_get_within made.sites m site there)) in
      let count = word_count in
      omega arith)
      order)
