-- The object of procedures' codes is good, and is their code.
use Rattle.std.proofs.Common.{◌≡◌, ◌≢◌, ℕ, Option, Some, None, get_or, subst, suc, ◌+◌, ◌*◌, ◌/◌, ◌^◌, ◌<◌, ◌≤◌, ⊎_elim, List, [], ◌∷◌, length, refl, sym, ap, ◌∙◌, arith, length-append}
use Rattle.std.specs.Prelude.{All, AllPairs, IsSomeAnd, map, slice_get, sum_by}
use Rattle.std.specs.Option.{option_map}
use Rattle.std.specs.List.{flat_map}
use Rattle.std.proofs.lemmas.Bool.{cases_lt}
use Rattle.std.proofs.lemmas.Option.{get_or_from_slice_get, slice_get-get_or, slice_get-map, same_Some}
use Rattle.std.proofs.lemmas.List.Elements.{All-cons, All-head, All-map, All-nil, All-tail, All-weaker}
use Rattle.std.proofs.lemmas.List.{length-map}
use Rattle.std.proofs.lemmas.List.Concat.{flat_map-cons}
use Rattle.std.proofs.lemmas.List.Sums.{sum_by-cons}
use Rattle.b3_ir.specs.Names.{IsName}
use Rattle.b3_ir.specs.Procedure.{AllFit, Procedure, empty_procedure}
use Rattle.b3_meaning.specs.Keeps.{Keeps}
use Rattle.b3_meaning.proofs.Keeping.{keeps_itself}
use Rattle.b3_rules.specs.Valid.{Header, IsValid, IsValidProcedure}
use Rattle.b3_rules.specs.declared.rule.Rule.TheVariants as rule
use Rattle.stackmap.specs.declared.site.Place.{Place}
use Rattle.stackmap.specs.declared.site.Site.{Site}
use Rattle.exit_table.specs.Good.{HasFewPlaces, IsGoodFrame, IsGoodKind, IsGoodRep, IsGoodSite, StandsIn, start_of}
use Rattle.exit_table.specs.declared.tables.FrameRow.{FrameRow}
use Rattle.exit_table.specs.declared.tables.SiteRow.{SiteRow}
use Rattle.elf_obj.specs.Good.{Fills, HasItsWord, IsGood, IsWordOf, names_of, sizes_of}
use Rattle.elf_obj.specs.Size.{size_bound}
use Rattle.elf_obj.specs.declared.object.Object.{Object}
use Rattle.elf_obj.specs.declared.object.Symbol.{Symbol}
use Rattle.a64_run.specs.Agrees.{Agrees}
use Rattle.a64_run.specs.CodeOf.{HasItsValue, IsCodeOf, IsCodeOfOne, StandsIn as InCode}
use Rattle.a64_run.specs.Machine.{site_among}
use Rattle.a64_object.specs.Joined.{ArePartsOf, IsJoinedOf, IsPartOf, Part, object_of, row_in, sites_from, symbol_at, symbols_from, words_in}
use Rattle.a64_object.specs.Taken.{AreWithinLimits, HaveNames}
use Rattle.a64_object.proofs.Taken.{IsTaken}
use Rattle.a64_object.proofs.Agreeing.{HasCode, agrees}
use Rattle.a64_object.proofs.JoinedSites.{IsSiteAt, each_site, rows_in_order, site_in, size_in, sizes_are, start_in, starts_apart, symbol_is}
use Rattle.a64_object.proofs.Joining.{bound_is, each_stands, text_short}
use Rattle.a64_object.proofs.LocalSites.{IsLocal, local_apart, local_row, local_value}
use Rattle.a64_object.proofs.SiteLists.{order_behind}
use Rattle.a64_object.proofs.SiteBytes.{sites_small}
use Rattle.a64_object.proofs.Making.{small_row, some_words}
use Rattle.a64_object.proofs.Lists.{one_in}

row_good : (p : Procedure) (x : Part) → IsPartOf p x → IsGoodFrame x.row
row_good p x of = subst IsGoodFrame (sym of.made.row_is) of.made.is_frame.good

-- ---- all of them
all_fill : (ps : List Procedure) (parts : List Part) (from to : ℕ) → ArePartsOf ps parts → to ≡ from + 4 * length (flat_map words_in parts)
    → Fills from to (symbols_from from parts)
unfolding ArePartsOf
all_fill [] [] from to are end = omega (arith, end)
all_fill [] (x ∷ parts) from to are end = absurd are
all_fill (p ∷ ps) [] from to are end = absurd are
all_fill (p ∷ ps) (x ∷ parts) from to are end =
    let some = some_words p x.words x.row x.sites are.0.made in (
      refl,
      omega arith,
      omega arith,
      all_fill ps parts (from + 4 * length x.words) to are.1
          (omega (arith, end, ap length (flat_map-cons words_in x parts), length-append x.words (flat_map words_in parts))),
    )

their_names : (offset : ℕ) (ps : List Procedure) (parts : List Part) → ArePartsOf ps parts
    → names_of (symbols_from offset parts) ≡ map (λ (p : Procedure). p.name) ps
unfolding ArePartsOf
their_names offset [] [] are = refl
their_names offset [] (x ∷ parts) are = absurd are
their_names offset (p ∷ ps) [] are = absurd are
their_names offset (p ∷ ps) (x ∷ parts) are =
    let name : x.name ≡ p.name = are.0.name in
    rw name (ap (λ names. p.name ∷ names) (their_names (offset + 4 * length x.words) ps parts are.1))

as_many : (offset : ℕ) (parts : List Part) → length (sizes_of (symbols_from offset parts)) ≡ length parts
as_many offset [] = refl
as_many offset (x ∷ parts) = ap suc (as_many (offset + 4 * length x.words) parts)

rows_good : (ps : List Procedure) (parts : List Part) → ArePartsOf ps parts → All IsGoodFrame (map row_in parts)
unfolding ArePartsOf
rows_good [] [] are = All-nil _
rows_good [] (x ∷ parts) are = absurd are
rows_good (p ∷ ps) [] are = absurd are
rows_good (p ∷ ps) (x ∷ parts) are = All-cons IsGoodFrame x.row (map row_in parts) (row_good p x are.0) (rows_good ps parts are.1)

text_below : (ps : List Procedure) (parts : List Part) → HaveNames ps → AreWithinLimits ps → ArePartsOf ps parts → length (flat_map words_in parts) < 2 ^ 24
text_below ps parts named limits are =
    let short = text_short ps parts are in
    let is = bound_is ps in
    let few = named.few in
    let values = limits.values in
    let children = limits.children in
    omega arith

-- ---- their names
its_name : (ps : List Procedure) (k : ℕ) (d : List ℕ) (p : Procedure) → slice_get ps k ≡ Some p → get_or (map (λ (q : Procedure). q.name) ps) k d ≡ p.name
its_name ps k d p there =
    get_or_from_slice_get (map (λ (q : Procedure). q.name) ps) k p.name d
    (slice_get-map (λ (q : Procedure). q.name) ps k ∙ ap (option_map (λ (q : Procedure). q.name)) there)

names_differ : (ps : List Procedure) → IsValid ps → AllPairs (λ a b. a ≢ b) (map (λ (p : Procedure). p.name) ps)
names_differ ps valid i j d less lt same =
    let within : j < length ps = omega (arith, length-map ps (λ (p : Procedure). p.name)) in
    let none = empty_procedure [] 0 in
    let a = slice_get-get_or ps i none (omega arith) in
    let b = slice_get-get_or ps j none within in
    valid.names j (get_or ps j none) b i (get_or ps i none) a less
    (sym (its_name ps i d (get_or ps i none) a) ∙ same ∙ its_name ps j d (get_or ps j none) b)

-- ---- its sites
module _ (ps : List Procedure) (parts : List Part) (taken : All IsTaken ps) where
  -- a row of the object is one of a part
  abbrev IsAt : SiteRow → Type 0
  IsAt row = IsSiteAt ps parts 0 row

  its_local : (row : SiteRow) (s : IsAt row) → IsLocal s.part.words s.part.row s.local
  its_local row s = local_row s.p (one_in IsTaken ps s.k s.p s.p_there taken) s.part.words s.part.row s.part.sites s.of.made s.j s.local s.local_there

  no_more_bytes : (n : ℕ) → 0 + n ≡ n
  no_more_bytes n = omega arith

  -- where it stands
  pub stands_at : (row : SiteRow) (s : IsAt row) → (row.pc ≡ start_in parts s.k + s.local.pc) × (row.site ≡ s.local.site)
  stands_at row s = (ap (λ (r : SiteRow). r.pc) s.is ∙ ap (λ n. n + s.local.pc) (no_more_bytes (start_in parts s.k)), ap (λ (r : SiteRow). r.site) s.is)

  site_good : (row : SiteRow) → IsAt row → IsGoodSite (sizes_of (symbols_from 0 parts)) (map row_in parts) row
  site_good row s =
      let local = its_local row s in
      let at = stands_at row s in
      let size_there : slice_get (sizes_of (symbols_from 0 parts)) s.k ≡ Some (size_in s.part) =
      ap (λ ns. slice_get ns s.k) (sizes_are 0 parts) ∙ slice_get-map size_in parts s.k ∙ ap (option_map size_in) s.part_there in
      let frame_there : slice_get (map row_in parts) s.k ≡ Some s.part.row = slice_get-map row_in parts s.k ∙ ap (option_map row_in) s.part_there in
      let start : start_of (sizes_of (symbols_from 0 parts)) s.k ≡ start_in parts s.k = ap (λ ns. start_of ns s.k) (sizes_are 0 parts) in
      let ends = local.ends in
      let size : row.site.size ≡ s.local.site.size = ap (λ (x : Site). x.size) at.1 in
      let pc = at.0 in
      let its_pc = local.pc in
      let stands : StandsIn (start_of (sizes_of (symbols_from 0 parts)) s.k) (size_in s.part) s.part.row row = record {
        begins = omega arith;
        ends = omega arith;
        value = subst (λ (x : Site). x.value < 2 ^ 32) (sym at.1) local.value;
        kind = subst (λ (x : Site). IsGoodKind x.kind x) (sym at.1) local.kind;
        places = subst (λ (x : Site). All (λ (place : Place). IsGoodRep s.part.row place.width place.rep) x.reps) (sym at.1) local.places;
      } in
      record {
        procedure = s.k;
        stands = some_and (λ n. IsSomeAnd (slice_get (map row_in parts) s.k) (λ frame. StandsIn (start_of (sizes_of (symbols_from 0 parts)) s.k) n frame row))
            size_there
            (some_and (λ frame. StandsIn (start_of (sizes_of (symbols_from 0 parts)) s.k) (size_in s.part) frame row) frame_there stands);
      }
    where
      some_and : {X : Type 0} {o : Option X} {x : X} (P : X → Type 0) → o ≡ Some x → P x → IsSomeAnd o P
      some_and P is holds = subst (λ o. IsSomeAnd o P) (sym is) holds

  site_few : (row : SiteRow) → IsAt row → HasFewPlaces row
  site_few row s = subst (λ (x : Site). length x.reps < 2 ^ 32) (sym (stands_at row s).1) (its_local row s).few

  site_word : (row : SiteRow) → IsAt row → HasItsWord (flat_map words_in parts) row
  site_word row s =
      let local = its_local row s in
      let at = stands_at row s in
      let pc = at.0 in
      let its_pc = local.pc in
      let starts = s.starts in
      let index : row.pc / 4 ≡ s.before + local.mark = omega arith in
      let kind : row.site.kind ≡ s.local.site.kind = ap (λ (x : Site). x.kind) at.1 in
      by (slice_get s.part.words local.mark) refl index kind local.word
    where
      by : (o : Option ℕ) → slice_get s.part.words (its_local row s).mark ≡ o → row.pc / 4 ≡ s.before + (its_local row s).mark
          → row.site.kind ≡ s.local.site.kind → IsSomeAnd o (IsWordOf s.local.site.kind)
          → HasItsWord (flat_map words_in parts) row
      by (Some w) there index kind is =
          let in_text : slice_get (flat_map words_in parts) (row.pc / 4) ≡ Some w = ap (slice_get (flat_map words_in parts)) index
          ∙ s.text (its_local row s).mark w there in
          subst (λ o. IsSomeAnd o (IsWordOf row.site.kind)) (sym in_text) (subst (λ k. IsWordOf k w) (sym kind) is)
      by None there index kind is = absurd is

object_good : (ps : List Procedure) (parts : List Part) → IsValid ps → HaveNames ps → AreWithinLimits ps → All IsTaken ps → ArePartsOf ps parts
    → All (λ w. w < 2 ^ 32) (flat_map words_in parts) → IsGood (object_of parts)
object_good ps parts valid named limits taken are narrow =
    let sites = each_site ps parts 0 are in
    record {
      few_words = text_below ps parts named limits are;
      narrow = narrow;
      fills = all_fill ps parts 0 (4 * length (flat_map words_in parts)) are (omega arith);
      names = subst (All IsName) (sym (their_names 0 ps parts are))
          (All-map IsName (λ (p : Procedure). p.name) ps named.names);
      distinct = subst (AllPairs (λ a b. a ≢ b)) (sym (their_names 0 ps parts are)) (names_differ ps valid);
      tables = record {
        count = length-map parts row_in ∙ sym (as_many 0 parts);
        frames = rows_good ps parts are;
        order = rows_in_order ps parts 0 taken are refl;
        sites = All-weaker (IsSiteAt ps parts 0) (IsGoodSite (sizes_of (symbols_from 0 parts)) (map row_in parts)) (site_good ps parts taken)
            (sites_from 0 parts) sites;
      };
      few_places = All-weaker (IsSiteAt ps parts 0) HasFewPlaces (site_few ps parts taken) (sites_from 0 parts) sites;
      words = All-weaker (IsSiteAt ps parts 0) (HasItsWord (flat_map words_in parts)) (site_word ps parts taken) (sites_from 0 parts) sites;
    }

-- ---- the file of the object is small
frames_small : (ps : List Procedure) (parts : List Part) → All IsTaken ps → ArePartsOf ps parts
    → sum_by (λ (frame : FrameRow). 16 + 8 * length frame.slots + 8 * length frame.saved) (map row_in parts) ≤ length ps * 32864
unfolding ArePartsOf
frames_small [] [] are_taken are = omega arith
frames_small [] (x ∷ parts) are_taken are = absurd are
frames_small (p ∷ ps) [] are_taken are = absurd are
frames_small (p ∷ ps) (x ∷ parts) are_taken are =
    let first = small_row p x.words x.row x.sites are.0.made (All-head IsTaken p ps are_taken) in
    let rest = frames_small ps parts (All-tail IsTaken p ps are_taken) are.1 in
    omega (arith, sum_by-cons (λ (frame : FrameRow). 16 + 8 * length frame.slots + 8 * length frame.saved) x.row (map row_in parts))

symbols_small : (offset : ℕ) (ps : List Procedure) (parts : List Part) → All (λ (p : Procedure). IsName p.name) ps → ArePartsOf ps parts
    → sum_by (λ (symbol : Symbol). 25 + length symbol.name) (symbols_from offset parts) ≤ length ps * 280
unfolding ArePartsOf
symbols_small offset [] [] named are = omega arith
symbols_small offset [] (x ∷ parts) named are = absurd are
symbols_small offset (p ∷ ps) [] named are = absurd are
symbols_small offset (p ∷ ps) (x ∷ parts) named are =
    let name = (All-head (λ (q : Procedure). IsName q.name) p ps named).short in
    let same : length x.name ≡ length p.name = ap length are.0.name in
    let first = sum_by-cons (λ (symbol : Symbol). 25 + length symbol.name) (symbol_at offset x) (symbols_from (offset + 4 * length x.words) parts) in
    omega (arith, symbols_small (offset + 4 * length x.words) ps parts (All-tail (λ (q : Procedure). IsName q.name) p ps named) are.1)

small_by : (ps : List Procedure) (parts : List Part) → HaveNames ps → AreWithinLimits ps → All IsTaken ps → ArePartsOf ps parts
    → size_bound (object_of parts) ≤ 134_217_728
small_by ps parts named limits taken are =
    let values = limits.values in
    let children = limits.children in
    let text = text_short ps parts are in
    omega (
      arith,
      bound_is ps,
      named.few,
      frames_small ps parts taken are,
      sites_small ps parts 0 taken are,
      symbols_small 0 ps parts named.names are,
    )

pub object_small : (ps : List Procedure) (o : Object) → HaveNames ps → AreWithinLimits ps → All IsTaken ps → IsJoinedOf ps o → size_bound o ≤ 134_217_728
object_small ps o named limits taken joined =
    subst (λ (x : Object). size_bound x ≤ 134_217_728) (sym joined.is) (small_by ps joined.parts named limits taken joined.each)

-- ---- each of them
no_more : (n : ℕ) → 0 + n ≡ n
no_more n = omega arith

some_block : (p : Procedure) → IsValidProcedure p → 0 < length p.blocks
some_block p valid = let some : 0 < length p.blocks = valid rule.Endings Header tt in some

-- the site is one of the text of the procedure at a place
pub record IsSiteOfText (p : Procedure) (part : Part) (begin : ℕ) (row : SiteRow) : Type 0 where
  pub made : IsPartOf p part
  pub j : ℕ
  pub local : SiteRow
  pub there : slice_get part.sites j ≡ Some local
  pub pc : row.pc ≡ begin + local.pc
  pub site : row.site ≡ local.site
  pub some : 1 ≤ row.site.size

-- one that stands in the code of a procedure is one of its text
in_text : (ps : List Procedure) (parts : List Part) → All IsTaken ps → (k : ℕ) (p : Procedure) (part : Part) (symbol : Symbol)
    → slice_get ps k ≡ Some p → slice_get parts k ≡ Some part → slice_get (symbols_from 0 parts) k ≡ Some symbol
    → (row : SiteRow) → IsSiteAt ps parts 0 row → InCode symbol row → IsSiteOfText p part (start_in parts k) row
in_text ps parts taken k p part symbol there part_there its row s within =
    let local = its_local ps parts taken row s in
    let at = stands_at ps parts taken row s in
    let own = symbol_is 0 parts k symbol its in
    let begins : symbol.offset ≡ start_in parts k = ap (λ (x : Symbol). x.offset) own.2 ∙ no_more (start_in parts k) in
    let size : symbol.size ≡ size_in own.0 = ap (λ (x : Symbol). x.size) own.2 in
    let pc = at.0 in
    let its_pc = local.pc in
    let ends = local.ends in
    let some = local.some in
    let low = within.0 in
    let high = within.1 in
    let same : s.k ≡ k =
    ⊎_elim
    (λ less. let apart = starts_apart parts s.k k s.part s.part_there less in absurd (omega arith))
    (λ ge. ⊎_elim (λ more. let apart = starts_apart parts k s.k own.0 own.1 more in absurd (omega arith)) (λ le. omega arith) (cases_lt k s.k))
    (cases_lt s.k k) in
    let same_p : s.p ≡ p = same_Some s.p p (sym s.p_there ∙ ap (slice_get ps) same ∙ there) in
    let same_part : s.part ≡ part = same_Some s.part part (sym s.part_there ∙ ap (slice_get parts) same ∙ part_there) in
    record {
      made = subst (λ q. IsPartOf q part) same_p (subst (IsPartOf s.p) same_part s.of);
      j = s.j;
      local = s.local;
      there = subst (λ (x : Part). slice_get x.sites s.j ≡ Some s.local) same_part s.local_there;
      pc = at.0 ∙ ap (λ n. start_in parts n + s.local.pc) same;
      site = at.1;
      some = subst (λ (x : Site). 1 ≤ x.size) (sym at.1) some;
    }

module _ (p : Procedure) (taken : IsTaken p) (part : Part) (begin : ℕ) where
  its_value : (row : SiteRow) → IsSiteOfText p part begin row → HasItsValue p row.site
  its_value row s =
      subst (HasItsValue p) (sym s.site) (local_value p taken part.words part.row part.sites s.made.made s.j s.local s.there)

  -- two at two places have two values
  its_apart : (a b : SiteRow) → IsSiteOfText p part begin a → IsSiteOfText p part begin b → a.pc ≢ b.pc → a.site.value ≢ b.site.value
  its_apart a b s u pcs same =
      local_apart p taken part.words part.row part.sites s.made.made s.j u.j s.local u.local s.there u.there
      (λ at. pcs (s.pc ∙ ap (λ n. begin + n) at ∙ sym u.pc))
      (ap (λ (x : Site). x.value) (sym s.site) ∙ same ∙ ap (λ (x : Site). x.value) u.site)

each_code : (ps : List Procedure) (parts : List Part) → All IsTaken ps → ArePartsOf ps parts
    → (k : ℕ) (p q : Procedure) (symbol : Symbol) (frame : FrameRow)
    → slice_get ps k ≡ Some p → slice_get ps k ≡ Some q → slice_get (symbols_from 0 parts) k ≡ Some symbol → slice_get (map row_in parts) k ≡ Some frame
    → IsCodeOfOne p q (object_of parts) symbol frame
each_code ps parts taken are k p q symbol frame there also its own =
    let stands = each_stands ps parts 0 0 k p symbol frame are refl there its own in
    let same : p ≡ q = same_Some p q (sym there ∙ also) in
    let part = symbol_is 0 parts k symbol its in
    let begins : symbol.offset ≡ 0 + start_in parts k = ap (λ (x : Symbol). x.offset) part.2 in
    let same_part : part.0 ≡ stands.part = same_Some part.0 stands.part (sym part.1 ∙ stands.there) in
    let code : HasCode stands.part.words stands.part.sites (object_of parts) symbol = record {
      sites = λ i lt.
          ap (λ n. site_among (n + 4 * i) (sites_from 0 parts)) begins
          ∙ site_in ps parts 0 [] k i stands.part taken are (All-nil _) stands.there lt;
      first = stands.before;
      begins = stands.begins ∙ ap (λ n. 4 * n) (no_more stands.before);
      size = stands.size;
      text = stands.text;
      within = stands.within;
    } in
    let its_taken = one_in IsTaken ps k p there taken in
    let begin = start_in parts k in
    let rows = sites_from 0 parts in
    let own_site : (j : ℕ) (row : SiteRow) → slice_get rows j ≡ Some row → InCode symbol row → IsSiteOfText p part.0 begin row =
    λ j row listed within. in_text ps parts taken k p part.0 symbol there part.1 its row
    (one_in (IsSiteAt ps parts 0) rows j row listed (each_site ps parts 0 are)) within in
    record {
      agrees = subst (Agrees p (object_of parts) symbol) stands.its_row
          (agrees p its_taken.valid its_taken.fit stands.part.words stands.part.row stands.part.sites stands.of.made
          (some_block p its_taken.valid) (object_of parts) symbol code);
      keeps = subst (λ x. Keeps p x) same (keeps_itself p);
      sites = λ j row listed within. subst (λ x. HasItsValue x row.site) same (its_value p its_taken part.0 begin row (own_site j row listed within));
      apart = λ i j a b less listed other within also.
          let first = own_site i a listed within in
          let behind = order_behind 0 rows (rows_in_order ps parts 0 taken are refl) i j a b less listed other in
          let some = first.some in
          its_apart p its_taken part.0 begin a b first (own_site j b other also) (λ same. omega arith);
    }

all_fit : (ps : List Procedure) → All IsTaken ps → All (λ (p : Procedure). AllFit p.blocks) ps
all_fit ps taken = All-weaker IsTaken (λ (p : Procedure). AllFit p.blocks) (λ p is. is.fit) ps taken

code_by : (ps : List Procedure) (parts : List Part) → IsValid ps → HaveNames ps → AreWithinLimits ps → All IsTaken ps → ArePartsOf ps parts
    → All (λ w. w < 2 ^ 32) (flat_map words_in parts) → IsCodeOf ps ps (object_of parts)
code_by ps parts valid named limits taken are narrow = record {
  valid = valid;
  fit = all_fit ps taken;
  reduced_fit = all_fit ps taken;
  good = object_good ps parts valid named limits taken are narrow;
  names = their_names 0 ps parts are;
  count = refl;
  each = each_code ps parts taken are;
}

pub object_is_code : (ps : List Procedure) (o : Object) → IsValid ps → HaveNames ps → AreWithinLimits ps → All IsTaken ps → IsJoinedOf ps o
    → All (λ w. w < 2 ^ 32) o.text → IsCodeOf ps ps o
object_is_code ps o valid named limits taken joined narrow =
    subst (IsCodeOf ps ps) (sym joined.is)
    (code_by ps joined.parts valid named limits taken joined.each (subst (λ (x : Object). All (λ w. w < 2 ^ 32) x.text) joined.is narrow))
