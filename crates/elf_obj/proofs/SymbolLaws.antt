-- What is read from the symbols and their names.
use Rattle.std.proofs.Common.{◌≡◌, ℕ, zero, suc, ◌+◌, ◌-◌, ◌*◌, ◌/◌, ◌%◌, ◌<◌, ◌≤◌, ◌^◌, ◌⊎◌, Bool, true, false, cond, eqb, ltb, leb, List, [], ◌∷◌, ◌++◌, Option, Some, None, Result, Ok, Err, length, get_or, map, take, drop, refl, sym, ap, subst, ◌∙◌, append_assoc, length-append, arith}
use Rattle.std.specs.Prelude.{◌&&◌, ◌||◌, not, ◌≢◌, bytes_eq, All, AllPairs, ⊤}
use Rattle.std.specs.Int.{w64, from_le_bytes, to_le_bytes}
use Rattle.std.specs.List.{list_any, list_all, flat_map, AllByRecursion}
use Rattle.std.proofs.lemmas.Bool.{eqb-true, eq-eqb, and_parts, lt-ltb, ltb-true, leb-true, le-leb, false_from_ne_true}
use Rattle.std.proofs.lemmas.List.{drop-drop, drop_at, take_at, length-drop, append-nil, nil_from_length, get_or_append_left}
use Rattle.std.proofs.Math.Seq.{get_or-append_seam}
use Rattle.std.proofs.lemmas.List.Elements.{All-from_recursion, recursion_from_All}
use Rattle.std.proofs.lemmas.List.Quantifiers.{all_pairs_push}
use Rattle.std.proofs.lemmas.List.Concat.{flat_map-cons}
use Rattle.std.proofs.lemmas.Slice.Eq.{bytes_eq-Decides}
use Rattle.b3_base.specs.Fields.{halves, words, xwords}
use Rattle.b3_ir.specs.Names.{IsName, may_begin_name, may_stand_in_name, begins_name}
use Rattle.elf_obj.specs.declared.object.Symbol.{Symbol}
use Rattle.elf_obj.specs.declared.field.Number.TheVariants.{Byte, Half, Word, Long}
use Rattle.elf_obj.specs.declared.field.Field.{Field}
use Rattle.elf_obj.specs.Good.{names_of, Fills}
use Rattle.elf_obj.specs.Sections.{zeros}
use Rattle.elf_obj.specs.Elf.{string_table, symbol_entry, symbol_entries, symbol_table}
use Rattle.elf_obj.specs.Fields.{wanted, offset, position, fields_fault}
use Rattle.elf_obj.specs.Reading.{long_at, name_in, symbols_at, is_name, is_new_name, is_size, entry_fields, is_last, entries_fields, undefined_fields}
use Rattle.elf_obj.proofs.FieldRules.{spelled, all_good, spelled_append, good_append, good_both, offset_small, offset_good, position_small, position_good}
use Rattle.elf_obj.proofs.HeaderLaws.{long_is}

-- ---- the bytes of an entry

entry_spelled : (at start size : ℕ) (named good : Bool) → at < 2 ^ 32 → start < 2 ^ 64 → spelled (entry_fields at named start size good) ≡ symbol_entry at (record { name = []; offset = start; size = size })
unfolding symbol_entry words xwords halves
entry_spelled at start size named good low small = rw (position_small at named low, offset_small start small) refl

pub entry_long : (at : ℕ) (symbol : Symbol) → length (symbol_entry at symbol) ≡ 24
unfolding symbol_entry words xwords halves
entry_long at symbol = refl

entry_offset : (at : ℕ) (symbol : Symbol) (rest : List ℕ) → symbol.offset < 2 ^ 64 → long_at 8 (symbol_entry at symbol ++ rest) ≡ symbol.offset
unfolding symbol_entry words xwords halves
entry_offset at symbol rest small = long_is symbol.offset small

entry_size : (at : ℕ) (symbol : Symbol) (rest : List ℕ) → symbol.size < 2 ^ 64 → long_at 16 (symbol_entry at symbol ++ rest) ≡ symbol.size
unfolding symbol_entry words xwords halves
entry_size at symbol rest small = long_is symbol.size small

entry_name : (at : ℕ) (symbol : Symbol) (name : List ℕ) → symbol_entry at (record { name = name; offset = symbol.offset; size = symbol.size }) ≡ symbol_entry at symbol
unfolding symbol_entry
entry_name at symbol name = refl

pub undefined_spelled : spelled undefined_fields ≡ zeros 24
unfolding words xwords halves
undefined_spelled = refl

-- ---- names

or_false : (a b : Bool) → not (a || b) ≡ true → (a ≡ false) × (b ≡ false)
or_false true b e = absurd cc
or_false false true e = absurd cc
or_false false false e = (refl, refl)

not_true : (a : Bool) → not a ≡ true → a ≡ false
not_true true e = absurd cc
not_true false e = refl

pub name_found : (name : List ℕ) → is_name name ≡ true → IsName name
name_found name e =
    let p = and_parts (leb (length name) 255 && begins_name name) (list_all may_stand_in_name name) e in
    let q = and_parts (leb (length name) 255) (begins_name name) p.0 in
    record { begin = q.1; all = p.1; short = leb-true (length name) 255 q.0 }

pub name_again : (name : List ℕ) → IsName name → is_name name ≡ true
name_again name n = rw (le-leb (length name) 255 n.short, n.begin, n.all) refl

no_zero : may_stand_in_name 0 ≡ false
no_zero = refl

-- a name ends at its zero byte
name_cut : (name rest : List ℕ) → list_all may_stand_in_name name ≡ true → name_in (name ++ 0 ∷ rest) ≡ name
name_cut [] rest e = refl
name_cut (b ∷ name) rest e =
    let p = and_parts (may_stand_in_name b) (list_all may_stand_in_name name) e in
    let other : eqb b 0 ≡ false = false_from_ne_true _ (λ z. let none : b ≡ 0 = eqb-true b 0 z in let t : may_stand_in_name 0 ≡ true = subst (λ (x : ℕ). may_stand_in_name x ≡ true) none p.0 in absurd cc) in
    rw other (ap (λ (t : List ℕ). b ∷ t) (name_cut name rest p.1))

-- none of these names is another's
differ_from : (name : List ℕ) (earlier : List (List ℕ)) → list_any (λ other. bytes_eq name other) earlier ≡ false → AllByRecursion (λ other. other ≢ name) earlier
differ_from name [] e = tt
differ_from name (other ∷ earlier) e =
    let p = or_false (bytes_eq name other) (list_any (λ other. bytes_eq name other) earlier) (ap not e) in
    ((λ same. let t : bytes_eq name other ≡ true = (bytes_eq-Decides name other).1 (sym same) in absurd cc), differ_from name earlier p.1)

differ_again : (name : List ℕ) (earlier : List (List ℕ)) → AllByRecursion (λ other. other ≢ name) earlier → list_any (λ other. bytes_eq name other) earlier ≡ false
differ_again name [] all = refl
differ_again name (other ∷ earlier) all =
    let one : bytes_eq name other ≡ false = false_from_ne_true _ (λ t. all.0 (sym ((bytes_eq-Decides name other).0 t))) in
    rw (one, differ_again name earlier all.1) refl

-- each name is another than those before it
abbrev pub AreNew : List (List ℕ) → List (List ℕ) → Type 0
AreNew earlier [] = ⊤
AreNew earlier (name ∷ names) = AllByRecursion (λ other. other ≢ name) earlier × AreNew (earlier ++ name ∷ []) names

abbrev Differ : List ℕ → List ℕ → Type 0
Differ a b = a ≢ b

new_pairs : (earlier names : List (List ℕ)) → AllPairs Differ earlier → AreNew earlier names → AllPairs Differ (earlier ++ names)
new_pairs earlier [] pairs new = subst (AllPairs Differ) (sym (append-nil earlier)) pairs
new_pairs earlier (name ∷ names) pairs new =
    let all : All (λ other. Differ other name) earlier = All-from_recursion (λ other. Differ other name) earlier new.0 in
    subst (AllPairs Differ) (append_assoc earlier (name ∷ []) names) (new_pairs (earlier ++ name ∷ []) names (all_pairs_push Differ earlier name pairs (λ k d lt. all k d lt)) new.1)

pub new_distinct : (names : List (List ℕ)) → AreNew [] names → AllPairs Differ names
new_distinct names new = new_pairs [] names (λ i j d before within. absurd (omega (arith, within))) new

pairs_new : (earlier names : List (List ℕ)) → AllPairs Differ (earlier ++ names) → AreNew earlier names
pairs_new earlier [] pairs = tt
pairs_new earlier (name ∷ names) pairs =
    let whole : List (List ℕ) = earlier ++ name ∷ names in
    let before : All (λ other. Differ other name) earlier = λ k d lt.
    let both : Differ (get_or whole k d) (get_or whole (length earlier) d) = pairs k (length earlier) d lt (omega (arith, length-append earlier (name ∷ names))) in
    subst (λ x. Differ (get_or earlier k d) x) (get_or-append_seam earlier name names d) (subst (λ x. Differ x (get_or whole (length earlier) d)) (get_or_append_left earlier (name ∷ names) d k lt) both) in
    (recursion_from_All (λ other. Differ other name) earlier before, pairs_new (earlier ++ name ∷ []) names (subst (AllPairs Differ) (sym (append_assoc earlier (name ∷ []) names)) pairs))

pub distinct_new : (names : List (List ℕ)) → AllPairs Differ names → AreNew [] names
distinct_new names pairs = pairs_new [] names pairs

-- ---- entries that are met

last_is : (names : List ℕ) (at n : ℕ) (entries : List ℕ) → n ≡ 0 → is_last (symbols_at names at n entries) ≡ true
last_is names at zero entries none = refl
last_is names at (suc n) entries none = absurd (omega (arith, none))

either : (last : Bool) (other : Bool) → (not last || other) ≡ true → last ≡ true → other ≡ true
either true other e is = e
either false other e is = absurd cc

pub record AreEntries (text : ℕ) (earlier : List (List ℕ)) (at start : ℕ) (symbols : List Symbol) (fields : List Field) : Type 0 where
  pub fills : Fills start text symbols
  pub entries : spelled fields ≡ symbol_entries at symbols
  pub named : AllByRecursion IsName (names_of symbols)
  pub new : AreNew earlier (names_of symbols)

pub entries_found : (names : List ℕ) (text : ℕ) (earlier : List (List ℕ)) (at start n : ℕ) (entries rest : List ℕ)
    → all_good (entries_fields names text earlier at start (symbols_at names at n entries)) ≡ true
    → entries ≡ spelled (entries_fields names text earlier at start (symbols_at names at n entries)) ++ rest
    → (n ≡ 0 → start ≡ text)
    → AreEntries text earlier at start (symbols_at names at n entries) (entries_fields names text earlier at start (symbols_at names at n entries))
entries_found names text earlier at start zero entries rest good is full = record { fills = full refl; entries = refl; named = tt; new = tt }
entries_found names text earlier at start (suc n) entries rest good is full =
    let name : List ℕ = name_in (drop at names) in
    let size : ℕ = long_at 16 entries in
    let offset_is : ℕ = long_at 8 entries in
    let behind : List Symbol = symbols_at names (at + length name + 1) n (drop 24 entries) in
    let others : List Field = entries_fields names text (earlier ++ name ∷ []) (at + length name + 1) (start + size) behind in
    let named : Bool = is_new_name names earlier at name in
    let sized : Bool = is_size text start (is_last behind) size in
    let first : List Field = entry_fields at named start size sized in
    let g = good_append first others good in
    let p = and_parts (position at named).good ((offset start).good && (sized && true)) g.0 in
    let place = position_good at named p.0 in
    let q = and_parts (offset start).good (sized && true) p.1 in
    let small : start < 2 ^ 64 = offset_good start q.0 in
    let fits = and_parts sized true q.1 in
    let size_parts = and_parts (ltb 0 size && eqb (size % 4) 0) (not (is_last behind) || eqb (start + size) text) fits.0 in
    let size_both = and_parts (ltb 0 size) (eqb (size % 4) 0) size_parts.0 in
    let name_parts = and_parts (ltb (at + length name) (length names) && is_name name) (not (list_any (λ other. bytes_eq name other) earlier)) place.1 in
    let name_both = and_parts (ltb (at + length name) (length names)) (is_name name) name_parts.0 in
    let entry : Symbol = record { name = []; offset = start; size = size } in
    let bytes : entries ≡ symbol_entry at entry ++ (spelled others ++ rest) =
    is ∙ ap (λ (t : List ℕ). t ++ rest) (spelled_append first others ∙ ap (λ (t : List ℕ). t ++ spelled others) (entry_spelled at start size named sized place.0 small)) ∙ append_assoc (symbol_entry at entry) (spelled others) rest in
    let here : offset_is ≡ start = ap (λ (t : List ℕ). long_at 8 t) bytes ∙ entry_offset at entry (spelled others ++ rest) small in
    let next : drop 24 entries ≡ spelled others ++ rest = ap (λ (t : List ℕ). drop 24 t) bytes ∙ drop_at (symbol_entry at entry) (spelled others ++ rest) 24 (entry_long at entry) in
    let more = entries_found names text (earlier ++ name ∷ []) (at + length name + 1) (start + size) n (drop 24 entries) rest g.1 next (λ none. eqb-true (start + size) text (either (is_last behind) (eqb (start + size) text) size_parts.1 (last_is names (at + length name + 1) n (drop 24 entries) none))) in
    let same : symbol_entry at entry ≡ symbol_entry at (record { name = name; offset = offset_is; size = size }) = sym (entry_name at entry name) ∙ ap (λ (k : ℕ). symbol_entry at (record { name = name; offset = k; size = size })) (sym here) in
    record {
      fills = (here, ltb-true 0 size size_both.0, eqb-true (size % 4) 0 size_both.1, more.fills);
      entries = spelled_append first others ∙ ap (λ (t : List ℕ). t ++ spelled others) (entry_spelled at start size named sized place.0 small ∙ same) ∙ ap (λ (t : List ℕ). symbol_entry at (record { name = name; offset = offset_is; size = size }) ++ t) more.entries;
      named = (name_found name name_both.1, more.named);
      new = (differ_from name earlier (not_true _ name_parts.1), more.new);
    }

-- ---- entries of good symbols

pub fills_le : (from to : ℕ) (symbols : List Symbol) → Fills from to symbols → from ≤ to
fills_le from to [] fills = omega (arith, fills)
fills_le from to (symbol ∷ rest) fills = omega (arith, fills_le (from + symbol.size) to rest fills.3)

last_fills : (from to : ℕ) (symbols : List Symbol) → Fills from to symbols → (not (is_last symbols) || eqb from to) ≡ true
last_fills from to [] fills = eq-eqb from to fills
last_fills from to (symbol ∷ rest) fills = refl

pub record AreAgain (names : List ℕ) (text : ℕ) (earlier : List (List ℕ)) (at start : ℕ) (symbols : List Symbol) (entries : List ℕ) : Type 0 where
  pub read : symbols_at names at (length symbols) entries ≡ symbols
  pub good : all_good (entries_fields names text earlier at start symbols) ≡ true
  pub entries_are : spelled (entries_fields names text earlier at start symbols) ≡ symbol_entries at symbols

pub entries_again : (names : List ℕ) (text : ℕ) (earlier : List (List ℕ)) (at start : ℕ) (symbols : List Symbol) (rest : List ℕ) → Fills start text symbols → AllByRecursion IsName (names_of symbols) → AreNew earlier (names_of symbols)
    → drop at names ≡ flat_map (λ name. name ++ 0 ∷ []) (names_of symbols) → text < 2 ^ 64 → length names < 2 ^ 32 → AreAgain names text earlier at start symbols (symbol_entries at symbols ++ rest)
entries_again names text earlier at start [] rest fills named new is small low = record { read = refl; good = refl; entries_are = refl }
entries_again names text earlier at start (symbol ∷ symbols) rest fills named new is small low =
    let name : List ℕ = symbol.name in
    let size : ℕ = symbol.size in
    let more_names : List ℕ = flat_map (λ name. name ++ 0 ∷ []) (names_of symbols) in
    let text_is : drop at names ≡ name ++ 0 ∷ more_names = is ∙ flat_map-cons (λ (name : List ℕ). name ++ 0 ∷ []) name (names_of symbols) ∙ append_assoc name (0 ∷ []) more_names in
    let cut : name_in (drop at names) ≡ name = ap (λ (t : List ℕ). name_in t) text_is ∙ name_cut name more_names named.0.all in
    let long : length (name ++ 0 ∷ []) ≡ length name + 1 = length-append name (0 ∷ []) in
    let behind : drop (at + length name + 1) names ≡ more_names =
    ap (λ (k : ℕ). drop k names) (let e : at + length name + 1 ≡ at + (length name + 1) = omega arith in e) ∙ sym (drop-drop (length name + 1) at names) ∙ ap (λ (t : List ℕ). drop (length name + 1) t) (text_is ∙ sym (append_assoc name (0 ∷ []) more_names)) ∙ drop_at (name ++ 0 ∷ []) more_names (length name + 1) long in
    let ends : at + length name < length names = omega (arith, ap (λ (t : List ℕ). length t) text_is, length-append name (0 ∷ more_names), length-drop at names) in
    let within : start + size ≤ text = fills_le (start + size) text symbols fills.3 in
    let entries : List ℕ = symbol_entries at (symbol ∷ symbols) ++ rest in
    let others : List ℕ = symbol_entries (at + length name + 1) symbols ++ rest in
    let split : entries ≡ symbol_entry at symbol ++ others = append_assoc (symbol_entry at symbol) (symbol_entries (at + length name + 1) symbols) rest in
    let offset_is : long_at 8 entries ≡ symbol.offset = ap (λ (t : List ℕ). long_at 8 t) split ∙ entry_offset at symbol others (omega (arith, fills.0)) in
    let size_is : long_at 16 entries ≡ size = ap (λ (t : List ℕ). long_at 16 t) split ∙ entry_size at symbol others (omega arith) in
    let next : drop 24 entries ≡ others = ap (λ (t : List ℕ). drop 24 t) split ∙ drop_at (symbol_entry at symbol) others 24 (entry_long at symbol) in
    let more = entries_again names text (earlier ++ name ∷ []) (at + length name + 1) (start + size) symbols rest fills.3 named.1 new.1 behind small low in
    let here : at < 2 ^ 32 = omega arith in
    let known : is_new_name names earlier at name ≡ true = rw (lt-ltb (at + length name) (length names) ends, name_again name named.0, differ_again name earlier new.0) refl in
    let sized : is_size text start (is_last symbols) size ≡ true = rw (lt-ltb 0 size fills.1, eq-eqb (size % 4) 0 fills.2, last_fills (start + size) text symbols fills.3) refl in
    let first : List Field = entry_fields at (is_new_name names earlier at name) start size (is_size text start (is_last symbols) size) in
    let rows : List Field = entries_fields names text (earlier ++ name ∷ []) (at + length name + 1) (start + size) symbols in
    let starts : start < 2 ^ 64 = omega arith in
    let first_good : all_good first ≡ true = rw (known, sized, position_small at true here, offset_small start starts) refl in
    let same : symbol_entry at (record { name = []; offset = start; size = size }) ≡ symbol_entry at symbol = ap (λ (k : ℕ). symbol_entry at (record { name = []; offset = k; size = size })) (sym fills.0) ∙ entry_name at symbol [] in
    record {
      read = rw (offset_is, size_is, next, cut) (ap (λ (t : List Symbol). symbol ∷ t) more.read);
      good = good_both first rows first_good more.good;
      entries_are = spelled_append first rows ∙ ap (λ (t : List ℕ). t ++ spelled rows) (entry_spelled at start size (is_new_name names earlier at name) (is_size text start (is_last symbols) size) here starts ∙ same) ∙ ap (λ (t : List ℕ). symbol_entry at symbol ++ t) more.entries_are;
    }
