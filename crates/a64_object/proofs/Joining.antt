-- Where the code and the symbol of each procedure stand among those that are joined, and one more at the end.
use Rattle.std.proofs.Common.{◌≡◌, ℕ, zero, suc, ◌+◌, ◌*◌, ◌≤◌, List, [], ◌∷◌, ◌++◌, Some, length, refl, sym, ap, ◌∙◌, subst, arith, length-append, take, append_assoc}
use Rattle.std.specs.Prelude.{map, slice_get, sum_by}
use Rattle.std.specs.List.{flat_map}
use Rattle.std.proofs.lemmas.List.{append-nil, map-append}
use Rattle.std.proofs.lemmas.List.Concat.{flat_map-cons}
use Rattle.std.proofs.lemmas.List.Sums.{sum_by-cons, sum_by-take-le}
use Rattle.std.proofs.lemmas.Grind.{flat_map-append}
use Rattle.std.proofs.lemmas.Option.{get_or_from_slice_get, same_Some}
use Rattle.b3_base.proofs.Lists.{get_front, get_behind}
use Rattle.b3_ir.specs.Procedure.{Kept, Procedure, empty_kept, total}
use Rattle.exit_table.specs.declared.tables.FrameRow.{FrameRow}
use Rattle.exit_table.specs.declared.tables.SiteRow.{SiteRow}
use Rattle.elf_obj.specs.declared.object.Object.{Object}
use Rattle.elf_obj.specs.declared.object.Symbol.{Symbol}
use Rattle.a64_run.specs.Agrees.{child_count}
use Rattle.a64_object.specs.Joined.{ArePartsOf, IsJoinedOf, IsPartOf, Part, object_of, row_in, site_from, sites_at, sites_from, symbol_at, symbols_from, with_part, words_in}
use Rattle.air_select.specs.Contract.{procedure_at}
use Rattle.a64_object.specs.Made.{IsMadeOf}
use Rattle.air_fold.proofs.Places.{take_item}
use Rattle.a64_object.proofs.Making.{few_words}

-- ---- the parts of procedures
pub parts_none : ArePartsOf [] []
unfolding ArePartsOf
parts_none = tt

pub parts_more : (ps : List Procedure) (parts : List Part) (p : Procedure) (part : Part) → ArePartsOf ps parts → IsPartOf p part
    → ArePartsOf (ps ++ p ∷ []) (parts ++ part ∷ [])
unfolding ArePartsOf
parts_more [] [] p part are is = (is, tt)
parts_more [] (x ∷ parts) p part are is = absurd are
parts_more (q ∷ ps) [] p part are is = absurd are
parts_more (q ∷ ps) (x ∷ parts) p part are is = (are.0, parts_more ps parts p part are.1 is)

-- ---- their text is bounded by the procedures
abbrev pub words_bound : Procedure → ℕ
words_bound p = 120 * total p + 32 * child_count p + 256

pub text_short : (ps : List Procedure) (parts : List Part) → ArePartsOf ps parts → length (flat_map words_in parts) ≤ sum_by words_bound ps
unfolding ArePartsOf
text_short [] [] are = omega arith
text_short [] (x ∷ parts) are = absurd are
text_short (p ∷ ps) [] are = absurd are
text_short (p ∷ ps) (x ∷ parts) are =
    let first = few_words p x.words x.row x.sites are.0.made in
    let rest = text_short ps parts are.1 in
    omega (arith, ap length (flat_map-cons words_in x parts), length-append x.words (flat_map words_in parts), sum_by-cons words_bound p ps)

pub bound_is : (ps : List Procedure) → sum_by words_bound ps ≡ 120 * sum_by total ps + 32 * sum_by child_count ps + 256 * length ps
bound_is [] = refl
bound_is (p ∷ ps) = omega (arith, bound_is ps, sum_by-cons words_bound p ps, sum_by-cons total p ps, sum_by-cons child_count p ps)

-- the text of the first procedures
pub text_so_far : (ps : List Procedure) (at : ℕ) (parts : List Part) → ArePartsOf (take at ps) parts → length (flat_map words_in parts) ≤ sum_by words_bound ps
text_so_far ps at parts are = let some = text_short (take at ps) parts are in let whole = sum_by-take-le words_bound ps at in omega arith

-- ---- where they stand: the words of a part stand in a text that has `first` words before
pub record StandsInText (parts : List Part) (first k : ℕ) (p : Procedure) (row : FrameRow) (symbol : Symbol) : Type 0 where
  pub part : Part
  pub there : slice_get parts k ≡ Some part
  pub of : IsPartOf p part
  pub its_row : part.row ≡ row
  pub before : ℕ
  pub begins : symbol.offset ≡ 4 * (first + before)
  pub size : symbol.size ≡ 4 * length part.words
  pub text : (j w : ℕ) → slice_get part.words j ≡ Some w → slice_get (flat_map words_in parts) (before + j) ≡ Some w
  pub within : before + length part.words ≤ length (flat_map words_in parts)

first_stands : (p : Procedure) (x : Part) (parts : List Part) (offset first : ℕ) → offset ≡ 4 * first → IsPartOf p x
    → StandsInText (x ∷ parts) first 0 p x.row (symbol_at offset x)
first_stands p x parts offset first at of = record {
  part = x;
  there = refl;
  of = of;
  its_row = refl;
  before = 0;
  begins = omega (arith, at);
  size = refl;
  text = λ j w there.
      let e : 0 + j ≡ j = omega arith in
      ap (slice_get (flat_map words_in (x ∷ parts))) e ∙ ap (λ xs. slice_get xs j) (flat_map-cons words_in x parts)
      ∙ get_front x.words (flat_map words_in parts) j w there;
  within = omega (arith, ap length (flat_map-cons words_in x parts), length-append x.words (flat_map words_in parts));
}

later_stands : (x : Part) (parts : List Part) (first k : ℕ) (p : Procedure) (row : FrameRow) (symbol : Symbol)
    → StandsInText parts (first + length x.words) k p row symbol
    → StandsInText (x ∷ parts) first (suc k) p row symbol
later_stands x parts first k p row symbol h = record {
  part = h.part;
  there = h.there;
  of = h.of;
  its_row = h.its_row;
  before = length x.words + h.before;
  begins = omega (arith, h.begins);
  size = h.size;
  text = λ j w there.
      ap (λ xs. slice_get xs (length x.words + h.before + j)) (flat_map-cons words_in x parts)
      ∙ ap (slice_get (x.words ++ flat_map words_in parts)) (omega arith)
      ∙ get_behind x.words (flat_map words_in parts) (h.before + j)
      ∙ h.text j w there;
  within = omega (arith, h.within, ap length (flat_map-cons words_in x parts), length-append x.words (flat_map words_in parts));
}

pub each_stands : (ps : List Procedure) (parts : List Part) (offset first k : ℕ) (p : Procedure) (symbol : Symbol) (row : FrameRow) → ArePartsOf ps parts
    → offset ≡ 4 * first
    → slice_get ps k ≡ Some p → slice_get (symbols_from offset parts) k ≡ Some symbol → slice_get (map row_in parts) k ≡ Some row
    → StandsInText parts first k p row symbol
unfolding ArePartsOf
each_stands [] [] offset first k p symbol row are at there its own = absurd cc
each_stands [] (x ∷ parts) offset first k p symbol row are at there its own = absurd are
each_stands (q ∷ ps) [] offset first k p symbol row are at there its own = absurd are
each_stands (q ∷ ps) (x ∷ parts) offset first zero p symbol row are at there its own =
    let same_p : q ≡ p = same_Some q p there in
    let same_symbol : symbol_at offset x ≡ symbol = same_Some (symbol_at offset x) symbol its in
    let same_row : x.row ≡ row = same_Some x.row row own in
    subst (λ y. StandsInText (x ∷ parts) first 0 y row symbol) same_p
    (subst (λ y. StandsInText (x ∷ parts) first 0 q y symbol) same_row
    (subst (StandsInText (x ∷ parts) first 0 q x.row) same_symbol (first_stands q x parts offset first at are.0)))
each_stands (q ∷ ps) (x ∷ parts) offset first (suc k) p symbol row are at there its own =
    later_stands x parts first k p row symbol
    (each_stands ps parts (offset + 4 * length x.words) (first + length x.words) k p symbol row are.1 (omega (arith, at)) there its own)

-- ---- one more at the end
symbols_more : (offset first : ℕ) (parts : List Part) (x : Part) → offset ≡ 4 * first
    → symbols_from offset (parts ++ x ∷ []) ≡ symbols_from offset parts ++ symbol_at (4 * (first + length (flat_map words_in parts))) x ∷ []
symbols_more offset first [] x at = ap (λ n. symbol_at n x ∷ []) (omega (arith, at))
symbols_more offset first (y ∷ parts) x at =
    ap (λ xs. symbol_at offset y ∷ xs) (symbols_more (offset + 4 * length y.words) (first + length y.words) parts x (omega (arith, at)))
    ∙ ap (λ n. symbol_at offset y ∷ (symbols_from (offset + 4 * length y.words) parts ++ symbol_at (4 * n) x ∷ []))
    (omega (arith, ap length (flat_map-cons words_in y parts), length-append y.words (flat_map words_in parts)))

sites_more : (offset first : ℕ) (parts : List Part) (x : Part) → offset ≡ 4 * first
    → sites_from offset (parts ++ x ∷ []) ≡ sites_from offset parts ++ sites_at (4 * (first + length (flat_map words_in parts))) x
sites_more offset first [] x at = append-nil (sites_at offset x) ∙ ap (λ n. sites_at n x) (omega (arith, at))
sites_more offset first (y ∷ parts) x at =
    ap (λ rows. sites_at offset y ++ rows) (sites_more (offset + 4 * length y.words) (first + length y.words) parts x (omega (arith, at)))
    ∙ sym (append_assoc (sites_at offset y) (sites_from (offset + 4 * length y.words) parts)
    (sites_at (4 * (first + length y.words + length (flat_map words_in parts))) x))
    ∙ ap (λ n. sites_at offset y ++ sites_from (offset + 4 * length y.words) parts ++ sites_at (4 * n) x)
    (omega (arith, ap length (flat_map-cons words_in y parts), length-append y.words (flat_map words_in parts)))

abbrev object_with : List ℕ → List Symbol → List FrameRow → List SiteRow → Object
object_with text symbols frames sites = record { text = text; symbols = symbols; tables = record { frames = frames; sites = sites } }

object_more : (parts : List Part) (x : Part) → with_part (object_of parts) x ≡ object_of (parts ++ x ∷ [])
object_more parts x =
    let none : 0 + length (flat_map words_in parts) ≡ length (flat_map words_in parts) = omega arith in
    let one : flat_map words_in (x ∷ []) ≡ x.words = flat_map-cons words_in x [] ∙ append-nil x.words in
    let text : flat_map words_in (parts ++ x ∷ []) ≡ flat_map words_in parts ++ x.words = flat_map-append words_in parts (x ∷ [])
    ∙ ap (λ xs. flat_map words_in parts ++ xs) one in
    let symbols : symbols_from 0 (parts ++ x ∷ []) ≡ symbols_from 0 parts ++ symbol_at (4 * length (flat_map words_in parts)) x ∷ [] =
    subst (λ n. symbols_from 0 (parts ++ x ∷ []) ≡ symbols_from 0 parts ++ symbol_at (4 * n) x ∷ []) none (symbols_more 0 0 parts x refl) in
    let rows : map row_in (parts ++ x ∷ []) ≡ map row_in parts ++ x.row ∷ [] = map-append row_in parts (x ∷ []) in
    let sites : sites_from 0 (parts ++ x ∷ []) ≡ sites_from 0 parts ++ sites_at (4 * length (flat_map words_in parts)) x =
    subst (λ n. sites_from 0 (parts ++ x ∷ []) ≡ sites_from 0 parts ++ sites_at (4 * n) x) none (sites_more 0 0 parts x refl) in
    same_object (sym text) (sym symbols) (sym rows) (sym sites)
  where
    same_object : {words others : List ℕ} {symbols more : List Symbol} {rows frames : List FrameRow} {sites places : List SiteRow} → words ≡ others
        → symbols ≡ more → rows ≡ frames → sites ≡ places
        → object_with words symbols rows sites ≡ object_with others more frames places
    same_object a b c d = cc

pub joined_none : (ps : List Procedure) → IsJoinedOf (take 0 ps) (object_of [])
joined_none ps = record { parts = []; each = parts_none; is = refl }

-- a procedure more is joined
pub joined_more : (ps : List Procedure) (at : ℕ) (p : Procedure) (o next : Object) (x : Part) → slice_get ps at ≡ Some p → IsJoinedOf (take at ps) o
    → IsPartOf p x → next ≡ with_part o x
    → IsJoinedOf (take (at + 1) ps) next
joined_more ps at p o next x there joined is more = record {
  parts = joined.parts ++ x ∷ [];
  each = subst (λ qs. ArePartsOf qs (joined.parts ++ x ∷ [])) (sym (take_item ps at p there)) (parts_more (take at ps) joined.parts p x joined.each is);
  is = more ∙ ap (λ y. with_part y x) joined.is ∙ object_more joined.parts x;
}

pub joined_short : (ps : List Procedure) (at : ℕ) (o : Object) → IsJoinedOf (take at ps) o → length o.text ≤ sum_by words_bound ps
joined_short ps at o joined = let text : length o.text ≡ length (flat_map words_in joined.parts) = ap (λ (x : Object). length x.text) joined.is in
    let far = text_so_far ps at joined.parts joined.each in omega arith

-- what is pushed is a part
pub pushed : (o : Object) (p : Procedure) (words : List ℕ) (row : FrameRow) (rows : List SiteRow) (text : List ℕ) (symbols : List Symbol)
    (frames : List FrameRow) (sites : List SiteRow)
    (name : List ℕ) (len first count : ℕ) → IsMadeOf p words row rows → text ≡ o.text ++ words
    → symbols ≡ o.symbols ++ record { name = name; offset = 4 * len; size = 4 * count } ∷ []
    → frames ≡ o.tables.frames ++ row ∷ [] → sites ≡ o.tables.sites ++ map (site_from (4 * first)) rows
    → name ≡ p.name → len ≡ length o.text → first ≡ length o.text → count ≡ length words
    → (x : Part) × IsPartOf p x × (record { text = text; symbols = symbols; tables = record { frames = frames; sites = sites } } ≡ with_part o x)
pushed o p words row rows text symbols frames sites name len first count made text_is symbols_is frames_is sites_is name_is len_is first_is count_is = (
  record { name = p.name; words = words; row = row; sites = rows },
  record { name = refl; made = made },
  rw (text_is, symbols_is, frames_is, sites_is, name_is, len_is, first_is, count_is) refl,
)

-- the procedure of a node of a module
pub its_procedure : (m n : List Kept) (at : ℕ) (k : Kept) → m ≡ n → slice_get m at ≡ Some k → k.procedure ≡ procedure_at n at
its_procedure m n at k same there =
    ap (λ (x : Kept). x.procedure) (sym (get_or_from_slice_get n at k (empty_kept [] 0) (ap (λ (l : List Kept). slice_get l at) (sym same) ∙ there)))

pub named_there : (m n : List Kept) (at : ℕ) (k : Kept) → m ≡ n → slice_get m at ≡ Some k → k.procedure.name ≡ (procedure_at n at).name
named_there m n at k same there = ap (λ (p : Procedure). p.name) (its_procedure m n at k same there)
