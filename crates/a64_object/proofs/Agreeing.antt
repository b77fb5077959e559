-- The object's code of a procedure, as it is made, agrees with the procedure.
use Rattle.std.proofs.Common.{◌≡◌, ℕ, suc, ◌+◌, ◌*◌, ◌/◌, ◌<◌, ◌≤◌, List, [], ◌∷◌, Some, length, refl, sym, ap, ◌∙◌, subst, arith, not}
use Rattle.std.specs.Prelude.{All, map, slice_get, sum_by}
use Rattle.std.specs.List.{filter}
use Rattle.std.proofs.lemmas.List.{length-map}
use Rattle.std.proofs.lemmas.List.Filters.{length-filter_both}
use Rattle.std.proofs.lemmas.List.Sums.{sum_by-cons}
use Rattle.b3_base.specs.Observed.{Answer, MachineStart}
use Rattle.b3_base.specs.Ranged.{IsRangedAnswer}
use Rattle.b3_ir.specs.Procedure.{AllFit, Procedure, total}
use Rattle.b3_ir.specs.declared.procedure.SlotLine.{SlotLine}
use Rattle.b3_rules.specs.Valid.{IsValidProcedure}
use Rattle.stackmap.specs.declared.site.SavedRow.{SavedRow}
use Rattle.stackmap.specs.declared.site.Site.{Site}
use Rattle.stackmap.specs.declared.site.SlotRow.{SlotRow}
use Rattle.exit_table.specs.declared.tables.FrameRow.{FrameRow}
use Rattle.exit_table.specs.declared.tables.SiteRow.{SiteRow}
use Rattle.air_frame.specs.Frames.{row_of, rounded, slot_bytes, slot_rows}
use Rattle.air_frame.specs.Needs.{callee_saved, writes}
use Rattle.elf_obj.specs.declared.object.Object.{Object}
use Rattle.elf_obj.specs.declared.object.Symbol.{Symbol}
use Rattle.a64_run.specs.Agrees.{Agrees, AgreesFrom, word_count}
use Rattle.a64_run.specs.Agrees as run
use Rattle.a64_run.specs.Placement.{Places, slot_address, start_of}
use Rattle.a64_run.specs.Machine.{site_among}
use Rattle.a64_emit.specs.Sites.{IsSiteIn}
use Rattle.a64_object.specs.Made.{IsMadeOf, site_rows}
use Rattle.a64_object.proofs.Lists.{one_in}
use Rattle.a64_object.proofs.Sited.{HasSites, well_marked}
use Rattle.a64_object.proofs.Subject.{IsText, Stands, Subject}
use Rattle.a64_object.proofs.Blocks.{Serves}
use Rattle.a64_object.proofs.SitesOf.{IsOne, is_one, one_sized}
use Rattle.a64_object.proofs.Beginning.{is_set, start_ranged}
use Rattle.a64_object.proofs.Agreement.{runs_alike}

-- ---- slots
pub rows_length : (offsets sizes : List ℕ) → length offsets ≡ length sizes → length (slot_rows offsets sizes) ≡ length sizes
rows_length [] [] same = refl
rows_length [] (size ∷ sizes) same = absurd (omega arith)
rows_length (offset ∷ offsets) [] same = absurd (omega arith)
rows_length (offset ∷ offsets) (size ∷ sizes) same = ap suc (rows_length offsets sizes (omega arith))

rows_sizes : (offsets sizes : List ℕ) → length offsets ≡ length sizes → map (λ (slot : SlotRow). slot.size) (slot_rows offsets sizes) ≡ sizes
rows_sizes [] [] same = refl
rows_sizes [] (size ∷ sizes) same = absurd (omega arith)
rows_sizes (offset ∷ offsets) [] same = absurd (omega arith)
rows_sizes (offset ∷ offsets) (size ∷ sizes) same = ap (λ xs. size ∷ xs) (rows_sizes offsets sizes (omega arith))

bytes_same : (slots : List SlotLine)
    → slot_bytes (map (λ (slot : SlotLine). slot.bytes) slots) ≡ sum_by (λ (slot : SlotLine). (slot.bytes + 15) / 16 * 16) slots
bytes_same [] = refl
bytes_same (slot ∷ slots) =
    sum_by-cons rounded slot.bytes (map (λ (slot : SlotLine). slot.bytes) slots)
    ∙ ap (λ n. (slot.bytes + 15) / 16 * 16 + n) (bytes_same slots)
    ∙ sym (sum_by-cons (λ (slot : SlotLine). (slot.bytes + 15) / 16 * 16) slot slots)

pub ten_saved : length callee_saved ≡ 10
unfolding callee_saved
ten_saved = refl

-- ---- where the words stand in an object, at a symbol, with these sites
pub record HasCode (words : List ℕ) (rows : List SiteRow) (o : Object) (symbol : Symbol) : Type 0 where
  pub sites : (k : ℕ) → k < length words → site_among (symbol.offset + 4 * k) o.tables.sites ≡ site_among (4 * k) rows
  pub first : ℕ
  pub begins : symbol.offset ≡ 4 * first
  pub size : symbol.size ≡ 4 * length words
  pub text : (k w : ℕ) → slice_get words k ≡ Some w → slice_get o.text (first + k) ≡ Some w
  pub within : first + length words ≤ length o.text

module _ (p : Procedure) (valid : IsValidProcedure p) (fit : AllFit p.blocks) (words : List ℕ) (row : FrameRow) (rows : List SiteRow)
    (made : IsMadeOf p words row rows) where
  abbrev its_row : FrameRow
  its_row = row_of made.frame made.air.slots made.air.returns

  abbrev pub IsOneOf : Site → Type 0
  IsOneOf site = IsOne p valid fit made.air made.placed made.frame made.is_frame site

  -- what each site is
  pub site_is : (k : ℕ) (site : Site) → slice_get made.sites k ≡ Some site → IsOneOf site
  site_is k site there =
      is_one p valid fit made.air made.placed made.frame made.is_frame site (one_in (IsSiteIn made.air made.frame) made.sites k site there made.is_code.made)

  pub has_sites : HasSites made.code made.sites
  has_sites = record {
    good = made.is_code.labelled;
    count = made.is_code.marks;
    in_order = made.is_code.in_order;
    suits = made.is_code.suits;
    sized = λ m site there. one_sized p valid fit made.air made.placed made.frame made.is_frame site (site_is m site there);
  }

  is_text : IsText made.code made.sites made.is_text.0 made.text
  is_text = record {
    has_sites = has_sites;
    enough = made.is_text.1.enough;
    words_are = made.is_text.3.words;
    tells = made.is_text.3.marks;
    as_many = made.marked;
    runs = made.is_text.4 (well_marked made.code made.sites has_sites);
  }

  subject_at : Object → Symbol → MachineStart → Subject
  subject_at o symbol m = record {
    air = made.air;
    frame = made.frame;
    code = made.code;
    sites = made.sites;
    long = made.is_text.0;
    text = made.text;
    object = o;
    symbol = symbol;
    start = m;
  }

  abbrev HasItsCode : Object → Symbol → Type 0
  HasItsCode o symbol = HasCode made.text.words (site_rows made.text.marks made.sites) o symbol

  runs : 0 < length p.blocks → (o : Object) (symbol : Symbol) → HasItsCode o symbol → (m : MachineStart) (answers : List Answer) → Places o symbol its_row m
      → All IsRangedAnswer answers
      → AgreesFrom p o symbol its_row m answers
  unfolding subject_at
  runs some o symbol code m answers placed ranged =
      let x = subject_at o symbol m in
      let stands : Stands x = record {
        is_text = is_text;
        has_text = record {
          sites = code.sites;
          base = code.first;
          begins = code.begins;
          text = code.text;
          within = code.within;
          ends = placed.code_ends;
          returns_outside = placed.returns_outside;
        };
      } in
      let serves : Serves x = record {
        stands = stands;
        is = made.is_code;
        well = made.placed.well;
        set = is_set x stands placed;
        least = made.is_frame.good.least;
        some_block = omega (arith, made.placed.blocks, some);
      } in
      let slots : length (map (slot_address m) its_row.slots) ≡ length p.slots =
      length-map its_row.slots (slot_address m) ∙ rows_length made.frame.slots made.air.slots made.is_frame.slots ∙ ap length made.placed.slots
      ∙ length-map p.slots (λ (slot : SlotLine). slot.bytes) in
      runs_alike p x serves answers ranged made.placed.blocks (omega (arith, code.size))
      (made.placed.same (start_of o its_row m) answers (start_ranged o symbol its_row m placed) ranged slots)

  frame_small : its_row.bytes ≤ 64 * total p + 8 * run.child_count p + run.slot_bytes p + 1024
  frame_small =
      let few : length (map (λ (s : SavedRow). s.reg.0) made.frame.saved) ≡ length made.frame.saved = length-map made.frame.saved (λ (s : SavedRow). s.reg.0) in
      let saved : length (map (λ (s : SavedRow). s.reg.0) made.frame.saved) ≡ length (filter (writes made.air) callee_saved) = ap length made.is_frame.saved in
      let most = length-filter_both (writes made.air) (λ r. not (writes made.air r)) (λ r. refl) callee_saved in
      let ten = ten_saved in
      let same : slot_bytes made.air.slots ≡ run.slot_bytes p = ap slot_bytes made.placed.slots ∙ bytes_same p.slots in
      let size = made.is_frame.size in
      let named = made.placed.named in
      omega arith

  agrees_by : 0 < length p.blocks → (o : Object) (symbol : Symbol) → HasItsCode o symbol → Agrees p o symbol its_row
  agrees_by some o symbol code = record {
    runs = λ m answers placed ranged. runs some o symbol code m answers placed ranged;
    returns_32 = made.placed.returns_32;
    returns_64 = made.placed.returns_64;
    slots = rows_sizes made.frame.slots made.air.slots made.is_frame.slots ∙ made.placed.slots;
    words = let size = code.size in let few = made.few in let light = made.is_code.light in let whole = made.placed.light in omega arith;
    bytes = frame_small;
  }

  pub agrees : 0 < length p.blocks → (o : Object) (symbol : Symbol) → HasCode words rows o symbol → Agrees p o symbol row
  agrees some o symbol code =
      subst (Agrees p o symbol) (sym made.row_is)
      (agrees_by some o symbol
      (subst (λ ws. HasCode ws (site_rows made.text.marks made.sites) o symbol) made.words_are (subst (λ rs. HasCode words rs o symbol) made.rows_are code)))
