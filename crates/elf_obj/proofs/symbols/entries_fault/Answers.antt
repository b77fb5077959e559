use Rattle.std.proofs.Common.{◌≡◌, ℕ, ◌+◌, ◌-◌, ◌*◌, ◌<◌, ◌≤◌, ◌^◌, Bool, true, false, eqb, ltb, List, [], ◌∷◌, ◌++◌, Option, Some, None, length, drop, map, refl, sym, ap, ◌∙◌, arith}
use Rattle.std.specs.Prelude.{◌&&◌, not, bytes_eq}
use Rattle.std.specs.List.{list_any}
use Rattle.std.proofs.lemmas.Bool.{and_parts, ltb-true}
use Rattle.std.proofs.lemmas.List.{length-drop}
use Rattle.elf_obj.specs.declared.field.Field.{Field}
use Rattle.elf_obj.specs.Fields.{fields_fault}
use Rattle.elf_obj.specs.Reading.{long_at, name_in, is_name, is_new_name, is_size, entry_fields}
use Rattle.elf_obj.proofs.EntryLoop.{fault_from, entry_stops, entry_goes_on, entry_refused}
use Rattle.elf_obj.proofs.symbols.entries_fault.Goals as goal

-- the name that was looked at
named_is : (names : List ℕ) (earlier : List (List ℕ)) (name_at : ℕ) (behind name : List ℕ) (named said : Bool) → behind ≡ drop name_at names → name ≡ name_in behind → named ≡ is_new_name names earlier name_at name → named ≡ said → is_new_name names earlier name_at (name_in (drop name_at names)) ≡ said
named_is names earlier name_at behind name named said is_behind is e f =
    ap (λ (t : List ℕ). is_new_name names earlier name_at t) (sym (is ∙ ap (λ (t : List ℕ). name_in t) is_behind)) ∙ sym e ∙ f

looked : (names : List ℕ) (text name_at start count i size at : ℕ) (left : List ℕ) (sized : Bool) (fields : List Field) (byte : Option ℕ) → size ≡ long_at 16 left → sized ≡ is_size text start (eqb (i + 1) count) size → fields ≡ entry_fields name_at true start size sized
    → byte ≡ fields_fault at fields left → fields_fault at (entry_fields name_at true start (long_at 16 left) (is_size text start (eqb (i + 1) count) (long_at 16 left))) left ≡ byte
looked names text name_at start count i size at left sized fields byte is_size_of is_sized are e =
    sym (e ∙ ap (λ (f : List Field). fields_fault at f left) (are ∙ ap (λ (b : Bool). entry_fields name_at true start size b) is_sized ∙ ap (λ (n : ℕ). entry_fields name_at true start n (is_size text start (eqb (i + 1) count) n)) is_size_of))

pub returns-then-not-branch : goal.returns-then-not-branch
returns-then-not-branch c =
    let l = c.loop-i in
    let keys : List (List ℕ) = map (λ other. other.now) l.earlier.keys in
    sym (entry_refused c.args.names.now c.args.text keys l.at l.name_at l.start c.args.count l.i l.left.now c.loop-i-test.true
    (named_is c.args.names.now keys l.name_at c.behind.result.now c.name_in-name.result.now c.in_ok-is_new_name.field-0 false c.behind.ensures c.name_in-name.ensures c.in_ok-is_new_name.ensures.named c.if-not-branch.true))
    ∙ l.invariant.0

pub returns-in-Some : goal.returns-in-Some
returns-in-Some c =
    let l = c.loop-i in
    let keys : List (List ℕ) = map (λ other. other.now) l.earlier.keys in
    sym (entry_stops c.args.names.now c.args.text keys l.at l.name_at l.start c.args.count l.i l.left.now c.in-Some.byte c.loop-i-test.true
    (named_is c.args.names.now keys l.name_at c.behind.result.now c.name_in-name.result.now c.in_ok-is_new_name.field-0 true c.behind.ensures c.name_in-name.ensures c.in_ok-is_new_name.ensures.named c.if-not-branch.false)
    (looked c.args.names.now c.args.text l.name_at l.start c.args.count l.i c.long_at-size.result l.at l.left.now c.is_size-sized.result c.entry_fields-fields.result (Some c.in-Some.byte) c.long_at-size.ensures c.is_size-sized.ensures c.entry_fields-fields.ensures (sym c.in-Some.is ∙ c.fields_fault.ensures)))
    ∙ l.invariant.0

moved : (names : List ℕ) (text : ℕ) (keys keys_after : List (List ℕ)) (at name_at start count i : ℕ) (left left_after name : List ℕ) (size : ℕ) (total : Option ℕ) → keys_after ≡ keys ++ name ∷ [] → name ≡ name_in (drop name_at names) → size ≡ long_at 16 left → left_after ≡ drop 24 left
    → fault_from names text keys at name_at start (count - i) left ≡ fault_from names text (keys ++ name_in (drop name_at names) ∷ []) (at + 24) (name_at + length (name_in (drop name_at names)) + 1) (start + long_at 16 left) (count - (i + 1)) (drop 24 left)
    → fault_from names text keys at name_at start (count - i) left ≡ total
    → fault_from names text keys_after (at + 24) (name_at + (length name + 1)) (start + size) (count - (i + 1)) left_after ≡ total
moved names text keys keys_after at name_at start count i left left_after name size total noted is_name is_size is_left more so_far =
    let k : name_at + (length name + 1) ≡ name_at + length name + 1 = omega arith in
    ap (λ (n : ℕ). fault_from names text keys_after (at + 24) n (start + size) (count - (i + 1)) left_after) k
    ∙ ap (λ (ks : List (List ℕ)). fault_from names text ks (at + 24) (name_at + length name + 1) (start + size) (count - (i + 1)) left_after) noted
    ∙ ap (λ (t : List ℕ). fault_from names text (keys ++ t ∷ []) (at + 24) (name_at + length t + 1) (start + size) (count - (i + 1)) left_after) is_name
    ∙ ap (λ (n : ℕ). fault_from names text (keys ++ name_in (drop name_at names) ∷ []) (at + 24) (name_at + length (name_in (drop name_at names)) + 1) (start + n) (count - (i + 1)) left_after) is_size
    ∙ ap (λ (t : List ℕ). fault_from names text (keys ++ name_in (drop name_at names) ∷ []) (at + 24) (name_at + length (name_in (drop name_at names)) + 1) (start + long_at 16 left) (count - (i + 1)) t) is_left
    ∙ sym more ∙ so_far

inside : (names : List ℕ) (earlier : List (List ℕ)) (at : ℕ) (name : List ℕ) → is_new_name names earlier at name ≡ true → at + length name < length names
inside names earlier at name e =
    let p = and_parts (ltb (at + length name) (length names) && is_name name) (not (list_any (λ other. bytes_eq name other) earlier)) e in
    ltb-true (at + length name) (length names) (and_parts (ltb (at + length name) (length names)) (is_name name) p.0).0

pub loop-i-preserved : goal.loop-i-preserved
loop-i-preserved c =
    let l = c.loop-i in
    let keys : List (List ℕ) = map (λ other. other.now) l.earlier.keys in
    let named = named_is c.args.names.now keys l.name_at c.behind.result.now c.name_in-name.result.now c.in_ok-is_new_name.field-0 true c.behind.ensures c.name_in-name.ensures c.in_ok-is_new_name.ensures.named c.if-not-branch.false in
    let name_is : c.name_in-name.result.now ≡ name_in (drop l.name_at c.args.names.now) = c.name_in-name.ensures ∙ ap (λ (t : List ℕ). name_in t) c.behind.ensures in
    let more = entry_goes_on c.args.names.now c.args.text keys l.at l.name_at l.start c.args.count l.i l.left.now c.loop-i-test.true named
    (looked c.args.names.now c.args.text l.name_at l.start c.args.count l.i c.long_at-size.result l.at l.left.now c.is_size-sized.result c.entry_fields-fields.result None c.long_at-size.ensures c.is_size-sized.ensures c.entry_fields-fields.ensures (sym c.in-None.is ∙ c.fields_fault.ensures)) in
    let within = inside c.args.names.now keys l.name_at (name_in (drop l.name_at c.args.names.now)) named in
    let same : c.from.result ≡ c.long_at-size.result = c.from.ensures in
    let lt : l.i < c.args.count = c.loop-i-test.true in
    let long : 24 * (c.args.count - l.i) ≤ length l.left.now = l.invariant.2 in
    let left_is : length c.behind-left.result.now ≡ length l.left.now - 24 = ap (λ (t : List ℕ). length t) c.behind-left.ensures ∙ length-drop 24 l.left.now in (
      moved c.args.names.now c.args.text keys (map (λ other. other.now) c.is_new_name.new.earlier.keys) l.at l.name_at l.start c.args.count l.i l.left.now c.behind-left.result.now c.name_in-name.result.now c.from.result _
          (c.in_ok-is_new_name.ensures.noted c.if-not-branch.false) name_is (same ∙ c.long_at-size.ensures) c.behind-left.ensures more l.invariant.0,
      omega (arith, l.invariant.1),
      omega arith,
      omega (arith, ap (λ (t : List ℕ). length t) name_is),
      omega (arith, l.invariant.4),
      omega arith,
    )
