-- A site that is read is spelled so, and one that is spelled so is read.
use Rattle.std.proofs.Common.{◌≡◌, ℕ, ◌+◌, ◌-◌, ◌*◌, ◌/◌, ◌%◌, ◌^◌, ◌≤◌, ◌<◌, true, eqb, leb, ltb, List, [], ◌∷◌, ◌++◌, length, Option, Some, None, Result, Ok, Err, refl, sym, ap, subst, ◌∙◌, arith}
use Rattle.std.specs.Prelude.{⊤, codes, ◌&&◌, nat_le}
use Rattle.std.specs.List.{flat_map}
use Rattle.std.specs.Int.{w32, from_le_bytes}
use Rattle.std.proofs.lemmas.Bool.{eqb-true, leb-true, lt-ltb, le-leb, le-ltb, ne_eqb, and_parts}
use Rattle.std.proofs.lemmas.List.{append-nil}
use Rattle.b3_base.specs.Word.{bits}
use Rattle.b3_base.specs.declared.word.Width.{Width}
use Rattle.b3_base.specs.declared.word.Width.TheVariants.{W32, W64}
use Rattle.b3_ir.specs.declared.value.Reg.{Reg}
use Rattle.stackmap.specs.declared.site.Rep.{Rep}
use Rattle.stackmap.specs.declared.site.Rep.TheVariants.{Register, Slot, Constant}
use Rattle.stackmap.specs.declared.site.SiteKind.{SiteKind}
use Rattle.stackmap.specs.declared.site.SiteKind.TheVariants.{Call, Patchpoint, Exit, Trap}
use Rattle.stackmap.specs.declared.site.Place.{Place}
use Rattle.exit_table.specs.declared.tables.SiteRow.{SiteRow}
use Rattle.exit_table.specs.declared.fault.Cause.{Cause}
use Rattle.exit_table.specs.declared.fault.Cause.TheVariants.{Rule, Order, Unlisted}
use Rattle.exit_table.specs.declared.exit_reader.Form.{Form}
use Rattle.exit_table.specs.declared.exit_reader.Form.TheVariants as form
use Rattle.exit_table.specs.Spelling.{kind_number, result_number, rep_number, rep_value}
use Rattle.exit_table.specs.Reading.{Reader, give, ◌>>=◌, one, two, any, is_zero, mark_at, rows}
use Rattle.exit_table.specs.ExitReading.{site_pc, kind_of, may_have, site_size, may_report, place_count, result_of, may_answer, allowed, site_result, may_change, site_clobbers, form_of, width_of, rep, may_stand, rep_of, place_at, after_place, site_from, site_at, after_site, sites_at}
use Rattle.exit_table.specs.Rooms.{Room, room_at}
use Rattle.exit_table.proofs.Rows.{and_then_ok, ok_is, check_ok, if_ok, one_takes, two_takes, step, AllAfter, AreSmall, any_is, listed, unlisted, IsRow, small_left, rows_take, rows_again, mark_takes, mark_again, zero_takes}

-- ---- the numbers of lists

kind_takes : (n : ℕ) (kind : SiteKind) → kind_of n ≡ Ok kind → n ≡ kind_number kind
kind_takes n kind e =
    listed (eqb n 1) Call _ kind e (λ is same. eqb-true _ _ is ∙ ap kind_number same)
    (λ e. listed (eqb n 2) Patchpoint _ kind e (λ is same. eqb-true _ _ is ∙ ap kind_number same)
    (λ e. listed (eqb n 3) Exit _ kind e (λ is same. eqb-true _ _ is ∙ ap kind_number same)
    (λ e. listed (eqb n 4) Trap _ kind e (λ is same. eqb-true _ _ is ∙ ap kind_number same) (unlisted kind))))

kind_again : (kind : SiteKind) → kind_of (kind_number kind) ≡ Ok kind
kind_again Call = refl
kind_again Patchpoint = refl
kind_again Exit = refl
kind_again Trap = refl

width_takes : (n : ℕ) (width : Width) → width_of n ≡ Ok width → n ≡ bits width
width_takes n width e =
    listed (eqb n 32) W32 _ width e (λ is same. eqb-true _ _ is ∙ ap bits same)
    (λ e. listed (eqb n 64) W64 _ width e (λ is same. eqb-true _ _ is ∙ ap bits same) (unlisted width))

width_again : (width : Width) → width_of (bits width) ≡ Ok width
width_again W32 = refl
width_again W64 = refl

abbrev form_number : Form → ℕ
form_number form.InRegister = 1
form_number form.InFrame = 2
form_number form.Word = 3

form_takes : (n : ℕ) (x : Form) → form_of n ≡ Ok x → n ≡ form_number x
form_takes n x e =
    listed (eqb n 1) form.InRegister _ x e (λ is same. eqb-true _ _ is ∙ ap form_number same)
    (λ e. listed (eqb n 2) form.InFrame _ x e (λ is same. eqb-true _ _ is ∙ ap form_number same)
    (λ e. listed (eqb n 3) form.Word _ x e (λ is same. eqb-true _ _ is ∙ ap form_number same) (unlisted x)))

-- the number and the value of a place
rep_says : (x : Form) (n : ℕ) → (rep_number (rep x n) ≡ form_number x) × (rep_value (rep x n) ≡ n)
rep_says form.InRegister n = (refl, refl)
rep_says form.InFrame n = (refl, refl)
rep_says form.Word n = (refl, refl)

-- ---- results

result_takes : (n : ℕ) (answer : Option (Width × Reg)) → result_of n ≡ Ok answer → n ≡ result_number answer
result_takes n answer e =
    listed (eqb n 0) None _ answer e (λ is same. eqb-true _ _ is ∙ ap result_number same)
    (λ e. listed (leb 256 n && ltb n 512) (Some (W32, record { 0 = n - 256 })) _ answer e (λ is same. let p = and_parts _ _ is in let low : 256 ≤ n = leb-true _ _ p.0 in let whole : n ≡ 256 + (n - 256) = omega arith in whole ∙ ap result_number same)
    (λ e. listed (leb 512 n && ltb n 768) (Some (W64, record { 0 = n - 512 })) _ answer e (λ is same. let p = and_parts _ _ is in let low : 512 ≤ n = leb-true _ _ p.0 in let whole : n ≡ 512 + (n - 512) = omega arith in whole ∙ ap result_number same)
    (unlisted answer)))

-- a result in a register of a byte
abbrev HasByte : Option (Width × Reg) → Type 0
HasByte None = ⊤
HasByte (Some x) = x.1.0 < 256

result_again : (answer : Option (Width × Reg)) → HasByte answer → result_of (result_number answer) ≡ Ok answer
result_again None small = refl
result_again (Some (W32, reg)) small =
    let ok : ℕ → Result (Option (Width × Reg)) Cause = λ r. Ok (Some (W32, record { 0 = r })) in
    let back : 256 + reg.0 - 256 ≡ reg.0 = omega arith in
    rw (ne_eqb (256 + reg.0) 0 (λ e. absurd (omega arith)), le-leb 256 (256 + reg.0) (omega arith), lt-ltb (256 + reg.0) 512 (omega arith)) (ap ok back)
result_again (Some (W64, reg)) small =
    let ok : ℕ → Result (Option (Width × Reg)) Cause = λ r. Ok (Some (W64, record { 0 = r })) in
    let back : 512 + reg.0 - 512 ≡ reg.0 = omega arith in
    rw (ne_eqb (512 + reg.0) 0 (λ e. absurd (omega arith)), le-ltb (512 + reg.0) 512 (omega arith), le-leb 256 (512 + reg.0) (omega arith), le-leb 512 (512 + reg.0) (omega arith), lt-ltb (512 + reg.0) 768 (omega arith)) (ap ok back)

has_byte : (kind : SiteKind) (answer : Option (Width × Reg)) → may_answer kind answer ≡ true → HasByte answer
has_byte kind None may = tt
has_byte Call (Some (width, reg)) may = let is : reg.0 ≡ 0 = eqb-true _ _ may in omega arith
has_byte Patchpoint (Some (width, reg)) may = let le : reg.0 ≤ 30 = leb-true _ _ may in omega arith
has_byte Exit (Some x) may = absurd cc
has_byte Trap (Some x) may = absurd cc

-- an answer that a kind allows
allowed_ok : (kind : SiteKind) (said : Result (Option (Width × Reg)) Cause) (answer : Option (Width × Reg)) → allowed kind said ≡ Ok answer → (said ≡ Ok answer) × (may_answer kind answer ≡ true)
allowed_ok kind (Ok x) answer e =
    let p = check_ok (may_answer kind x) Rule x answer e in
    let ok : Option (Width × Reg) → Result (Option (Width × Reg)) Cause = λ y. Ok y in
    (ap ok p.1, subst (λ (y : Option (Width × Reg)). may_answer kind y ≡ true) p.1 p.0)
allowed_ok kind (Err cause) answer e = absurd cc

answer_again : (kind : SiteKind) (answer : Option (Width × Reg)) → may_answer kind answer ≡ true → site_result kind (result_number answer) ≡ Ok answer
answer_again kind answer may = rw (result_again answer (has_byte kind answer may)) (rw may refl)

-- ---- a place

abbrev pub place_fields : Place → List ℕ
place_fields place = rep_number place.rep ∷ bits place.width ∷ rep_value place.rep % 2 ^ 32 ∷ rep_value place.rep / 2 ^ 32 ∷ []

abbrev pub IsPlaceAfter : SiteKind → Room → ℕ → Place → Type 0
IsPlaceAfter kind room i place = may_stand kind room i place.width place.rep ≡ true

place_takes : (kind : SiteKind) (room : Room) (i : ℕ) (section : List ℕ) (x : Place × List ℕ) → AreSmall section → place_at kind room i section ≡ Ok x → IsRow (place_at kind room) after_place place_fields (IsPlaceAfter kind room) i section x.0 x.1
unfolding place_at
place_takes kind room i section x small e =
    let last : Width → Rep → Reader Place = λ width at. give (record { width = width; rep = at }) in
    let third : Form → Width → Reader Place = λ form width. two (rep_of kind room i width form) >>= last width in
    let second : Form → Reader Place = λ form. one width_of >>= third form in
    let a = and_then_ok (one form_of section) (λ x. second x.0 x.1) x e in
    let b = and_then_ok (one width_of a.0.1) (λ x. third a.0.0 x.0 x.1) x a.2 in
    let c = and_then_ok (two (rep_of kind room i b.0.0 a.0.0) b.0.1) (λ x. last b.0.0 x.0 x.1) x b.2 in
    let form = one_takes form_of section a.0 a.1 in
    let width = one_takes width_of a.0.1 b.0 b.1 in
    let at = two_takes (rep_of kind room i b.0.0 a.0.0) b.0.1 c.0 c.1 in
    let n : ℕ = at.low + 2 ^ 32 * at.high in
    let stands = check_ok (may_stand kind room i b.0.0 (rep a.0.0 n)) Rule (rep a.0.0 n) c.0.0 at.says in
    let says = rep_says a.0.0 n in
    let text : section ≡ form.number ∷ width.number ∷ at.low ∷ at.high ∷ c.0.1 = form.is ∙ ap (λ (t : List ℕ). form.number ∷ t) (width.is ∙ ap (λ (t : List ℕ). width.number ∷ t) at.is) in
    let all : AreSmall (form.number ∷ width.number ∷ at.low ∷ at.high ∷ c.0.1) = subst AreSmall text small in
    let low : at.low < 2 ^ 32 = all.1.1.0 in
    let value : rep_value c.0.0 ≡ n = ap rep_value (sym stands.1) ∙ says.1 in
    let is_low : at.low ≡ rep_value c.0.0 % 2 ^ 32 = rw value (omega (arith, low)) in
    let is_high : at.high ≡ rep_value c.0.0 / 2 ^ 32 = rw value (omega (arith, low)) in
    let is_form : form.number ≡ rep_number c.0.0 = form_takes form.number a.0.0 form.says ∙ sym says.0 ∙ ap rep_number stands.1 in
    let is_width : width.number ≡ bits b.0.0 = width_takes width.number b.0.0 width.says in
    subst (λ (z : Place × List ℕ). IsRow (place_at kind room) after_place place_fields (IsPlaceAfter kind room) i section z.0 z.1) (ok_is (record { width = b.0.0; rep = c.0.0 }, c.0.1) x c.2)
    (record {
      spelled = text ∙ ap (λ (k : ℕ). k ∷ width.number ∷ at.low ∷ at.high ∷ c.0.1) is_form ∙ ap (λ (k : ℕ). rep_number c.0.0 ∷ k ∷ at.low ∷ at.high ∷ c.0.1) is_width
          ∙ ap (λ (k : ℕ). rep_number c.0.0 ∷ bits b.0.0 ∷ k ∷ at.high ∷ c.0.1) is_low ∙ ap (λ (k : ℕ). rep_number c.0.0 ∷ bits b.0.0 ∷ rep_value c.0.0 % 2 ^ 32 ∷ k ∷ c.0.1) is_high;
      good = subst (λ (r : Rep). may_stand kind room i b.0.0 r ≡ true) stands.1 stands.0;
    })

-- a place is its form and its value
form_again : (at : Rep) → (x : Form) × (form_of (rep_number at) ≡ Ok x) × (rep x (rep_value at) ≡ at)
form_again (Register reg) = (form.InRegister, refl, refl)
form_again (Slot offset) = (form.InFrame, refl, refl)
form_again (Constant value) = (form.Word, refl, refl)

place_again : (kind : SiteKind) (room : Room) (i : ℕ) (place : Place) (rest : List ℕ) → IsPlaceAfter kind room i place → place_at kind room i (place_fields place ++ rest) ≡ Ok (place, rest)
unfolding place_at
place_again kind room i place rest may =
    let f = form_again place.rep in
    let v : ℕ = rep_value place.rep in
    let whole : v % 2 ^ 32 + 2 ^ 32 * (v / 2 ^ 32) ≡ v = omega arith in
    rw (f.1, width_again place.width, whole, f.2, may) refl

-- ---- a site

abbrev pub site_fields : SiteRow → List ℕ
site_fields row =
    row.pc
    ∷ kind_number row.site.kind
    ∷ row.site.value
    ∷ row.site.size
    ∷ length row.site.reps
    ∷ result_number row.site.result
    ∷ row.site.clobbers
    ∷ 0
    ∷ flat_map place_fields row.site.reps

-- a site of a procedure
pub record IsSiteOf (room : Room) (row : SiteRow) : Type 0 where
  pub value : row.site.value < 2 ^ 32
  pub few : length row.site.reps < 2 ^ 32
  pub size : (may_have row.site.kind row.site.size && nat_le (row.pc + 4 * row.site.size) room.end) ≡ true
  pub count : may_report row.site.kind (length row.site.reps) ≡ true
  pub answer : may_answer row.site.kind row.site.result ≡ true
  pub clobbers : may_change row.site.kind row.site.clobbers ≡ true
  pub places : AllAfter (IsPlaceAfter row.site.kind room) after_place 0 row.site.reps

-- a site behind the end of the one before
pub record IsSiteAfter (rooms : List Room) (end : ℕ) (row : SiteRow) : Type 0 where
  pub whole : eqb (row.pc % 4) 0 ≡ true
  pub behind : nat_le end row.pc ≡ true
  pub site : IsSiteOf (room_at rooms row.pc) row

record IsSiteFrom (pc : ℕ) (room : Room) (section : List ℕ) (row : SiteRow) (rest : List ℕ) : Type 0 where
  pub pc_is : row.pc ≡ pc
  pub spelled : pc ∷ section ≡ site_fields row ++ rest
  pub site : IsSiteOf room row

abbrev row_of : ℕ → SiteKind → ℕ → ℕ → Option (Width × Reg) → ℕ → List Place → SiteRow
row_of pc kind value size answer clobbers reps = record { pc = pc; site = record { kind = kind; value = value; size = size; reps = reps; result = answer; clobbers = clobbers } }

-- what is read behind the first fields of a site
abbrev places_read : ℕ → Room → SiteKind → ℕ → ℕ → ℕ → Option (Width × Reg) → ℕ → Reader SiteRow
places_read pc room kind value size count answer clobbers = rows (place_at kind room) after_place 0 count >>= λ reps. give (row_of pc kind value size answer clobbers reps)

site_made : (pc : ℕ) (room : Room) (kind : SiteKind) (value size count : ℕ) (answer : Option (Width × Reg)) (clobbers : ℕ) (rest : List ℕ) (x : SiteRow × List ℕ)
    → value < 2 ^ 32 → count < 2 ^ 32 → AreSmall rest → (may_have kind size && nat_le (pc + 4 * size) room.end) ≡ true → may_report kind count ≡ true → may_answer kind answer ≡ true → may_change kind clobbers ≡ true
    → places_read pc room kind value size count answer clobbers rest ≡ Ok x → IsSiteFrom pc room (kind_number kind ∷ value ∷ size ∷ count ∷ result_number answer ∷ clobbers ∷ 0 ∷ rest) x.0 x.1
site_made pc room kind value size count answer clobbers rest x is_value few small has reports answers changes e =
    let a = and_then_ok (rows (place_at kind room) after_place 0 count rest) (λ z. Ok (row_of pc kind value size answer clobbers z.0, z.1)) x e in
    let places = rows_take (place_at kind room) after_place place_fields (IsPlaceAfter kind room) (place_takes kind room) count 0 rest a.0 small a.1 in
    subst (λ (z : SiteRow × List ℕ). IsSiteFrom pc room (kind_number kind ∷ value ∷ size ∷ count ∷ result_number answer ∷ clobbers ∷ 0 ∷ rest) z.0 z.1) (ok_is (row_of pc kind value size answer clobbers a.0.0, a.0.1) x a.2)
    (record {
      pc_is = refl;
      spelled = ap (λ (t : List ℕ). pc ∷ kind_number kind ∷ value ∷ size ∷ count ∷ result_number answer ∷ clobbers ∷ 0 ∷ t) places.spelled
          ∙ ap (λ (n : ℕ). pc ∷ kind_number kind ∷ value ∷ size ∷ n ∷ result_number answer ∷ clobbers ∷ 0 ∷ (flat_map place_fields a.0.0 ++ a.0.1)) (sym places.count);
      site = record {
        value = is_value;
        few = subst (λ (n : ℕ). n < 2 ^ 32) (sym places.count) few;
        size = has;
        count = subst (λ (n : ℕ). may_report kind n ≡ true) (sym places.count) reports;
        answer = answers;
        clobbers = changes;
        places = places.good;
      };
    })

zero_is : (n y : ℕ) → is_zero n ≡ Ok y → n ≡ 0
zero_is n y e = eqb-true _ _ (check_ok (eqb n 0) Unlisted n y e).0

-- fields one behind the other
seven : (section r1 r2 r3 r4 r5 r6 rest : List ℕ) (a b c d e f g h i j k l m : ℕ) → section ≡ a ∷ r1 → r1 ≡ b ∷ r2 → r2 ≡ c ∷ r3 → r3 ≡ d ∷ r4 → r4 ≡ e ∷ r5 → r5 ≡ f ∷ r6 → r6 ≡ g ∷ rest
    → a ≡ h → b ≡ i → c ≡ j → d ≡ k → e ≡ l → f ≡ m → g ≡ 0 → section ≡ h ∷ i ∷ j ∷ k ∷ l ∷ m ∷ 0 ∷ rest
seven section r1 r2 r3 r4 r5 r6 rest a b c d e f g h i j k l m p1 p2 p3 p4 p5 p6 p7 q1 q2 q3 q4 q5 q6 q7 = cc

site_from_takes : (pc : ℕ) (room : Room) (section : List ℕ) (x : SiteRow × List ℕ) → AreSmall section → site_from pc room section ≡ Ok x → IsSiteFrom pc room section x.0 x.1
unfolding site_from
site_from_takes pc room section x small e =
    let s7 : SiteKind → ℕ → ℕ → ℕ → Option (Width × Reg) → ℕ → Reader SiteRow = places_read pc room in
    let s6 : SiteKind → ℕ → ℕ → ℕ → Option (Width × Reg) → ℕ → Reader SiteRow = λ kind value size count answer clobbers. one is_zero >>= λ unused. s7 kind value size count answer clobbers in
    let s5 : SiteKind → ℕ → ℕ → ℕ → Option (Width × Reg) → Reader SiteRow = λ kind value size count answer. one (site_clobbers kind) >>= s6 kind value size count answer in
    let s4 : SiteKind → ℕ → ℕ → ℕ → Reader SiteRow = λ kind value size count. one (site_result kind) >>= s5 kind value size count in
    let s3 : SiteKind → ℕ → ℕ → Reader SiteRow = λ kind value size. one (place_count kind) >>= s4 kind value size in
    let s2 : SiteKind → ℕ → Reader SiteRow = λ kind value. one (site_size kind pc room.end) >>= s3 kind value in
    let s1 : SiteKind → Reader SiteRow = λ kind. one any >>= s2 kind in
    step kind_of s1 section x small e (λ n1 kind r1 is1 says1 small1 rest1 e1.
    step any (s2 kind) r1 x rest1 e1 (λ n2 value r2 is2 says2 small2 rest2 e2.
    step (site_size kind pc room.end) (s3 kind value) r2 x rest2 e2 (λ n3 size r3 is3 says3 small3 rest3 e3.
    step (place_count kind) (s4 kind value size) r3 x rest3 e3 (λ n4 count r4 is4 says4 small4 rest4 e4.
    step (site_result kind) (s5 kind value size count) r4 x rest4 e4 (λ n5 answer r5 is5 says5 small5 rest5 e5.
    step (site_clobbers kind) (s6 kind value size count answer) r5 x rest5 e5 (λ n6 clobbers r6 is6 says6 small6 rest6 e6.
    step is_zero (λ unused. s7 kind value size count answer clobbers) r6 x rest6 e6 (λ n7 unused rest is7 says7 small7 rest7 e7.
    let has = check_ok (may_have kind n3 && nat_le (pc + 4 * n3) room.end) Rule n3 size says3 in
    let reports = check_ok (may_report kind n4) Rule n4 count says4 in
    let answers = allowed_ok kind (result_of n5) answer says5 in
    let changes = check_ok (may_change kind n6) Rule n6 clobbers says6 in
    let is_value : n2 ≡ value = any_is n2 value says2 in
    let text : section ≡ kind_number kind ∷ value ∷ size ∷ count ∷ result_number answer ∷ clobbers ∷ 0 ∷ rest =
    seven section r1 r2 r3 r4 r5 r6 rest n1 n2 n3 n4 n5 n6 n7 (kind_number kind) value size count (result_number answer) clobbers is1 is2 is3 is4 is5 is6 is7
    (kind_takes n1 kind says1) is_value has.1 reports.1 (result_takes n5 answer answers.0) changes.1 (zero_is n7 unused says7) in
    subst (λ (t : List ℕ). IsSiteFrom pc room t x.0 x.1) (sym text)
    (site_made pc room kind value size count answer clobbers rest x (subst (λ (n : ℕ). n < 2 ^ 32) is_value small2) (subst (λ (n : ℕ). n < 2 ^ 32) reports.1 small4) rest7
    (subst (λ (n : ℕ). (may_have kind n && nat_le (pc + 4 * n) room.end) ≡ true) has.1 has.0) (subst (λ (n : ℕ). may_report kind n ≡ true) reports.1 reports.0) answers.1 (subst (λ (n : ℕ). may_change kind n ≡ true) changes.1 changes.0) e7))))))))

site_takes : (rooms : List Room) (end : ℕ) (section : List ℕ) (x : SiteRow × List ℕ) → AreSmall section → site_at rooms end section ≡ Ok x → IsRow (site_at rooms) after_site site_fields (IsSiteAfter rooms) end section x.0 x.1
unfolding site_at
site_takes rooms end section x small e =
    let second : ℕ → Reader SiteRow = λ pc. site_from pc (room_at rooms pc) >>= give in
    let a = and_then_ok (one (site_pc end) section) (λ x. second x.0 x.1) x e in
    let b = and_then_ok (site_from a.0.0 (room_at rooms a.0.0) a.0.1) (λ x. Ok x) x a.2 in
    let pc = one_takes (site_pc end) section a.0 a.1 in
    let whole = if_ok (eqb (pc.number % 4) 0) _ Rule a.0.0 pc.says in
    let behind = check_ok (nat_le end pc.number) Order pc.number a.0.0 whole.1 in
    let site = site_from_takes a.0.0 (room_at rooms a.0.0) a.0.1 b.0 (small_left section (pc.number ∷ []) a.0.1 small pc.is) b.1 in
    let same : pc.number ≡ b.0.0.pc = behind.1 ∙ sym site.pc_is in
    subst (λ (z : SiteRow × List ℕ). IsRow (site_at rooms) after_site site_fields (IsSiteAfter rooms) end section z.0 z.1) (ok_is b.0 x b.2)
    (record {
      spelled = pc.is ∙ ap (λ (n : ℕ). n ∷ a.0.1) behind.1 ∙ site.spelled;
      good = record {
        whole = subst (λ (n : ℕ). eqb (n % 4) 0 ≡ true) same whole.0;
        behind = subst (λ (n : ℕ). nat_le end n ≡ true) same behind.0;
        site = subst (λ (n : ℕ). IsSiteOf (room_at rooms n) b.0.0) (sym site.pc_is) site.site;
      };
    })

site_again : (rooms : List Room) (end : ℕ) (row : SiteRow) (rest : List ℕ) → IsSiteAfter rooms end row → site_at rooms end (site_fields row ++ rest) ≡ Ok (row, rest)
unfolding site_at site_from
site_again rooms end row rest good =
    let room : Room = room_at rooms row.pc in
    let kind : SiteKind = row.site.kind in
    let site = good.site in
    rw (
      good.whole,
      good.behind,
      kind_again kind,
      site.size,
      site.count,
      answer_again kind row.site.result site.answer,
      site.clobbers,
      rows_again (place_at kind room) after_place place_fields (IsPlaceAfter kind room) (place_again kind room) 0 row.site.reps rest site.places,
    ) refl

-- ---- the section

abbrev pub exits_mark : ℕ
exits_mark = from_le_bytes w32 (codes "B3EX")

abbrev pub exit_section_fields : List SiteRow → List ℕ
exit_section_fields sites = exits_mark ∷ 1 ∷ length sites ∷ 0 ∷ flat_map site_fields sites

pub record AreSites (rooms : List Room) (section : List ℕ) (sites : List SiteRow) (rest : List ℕ) : Type 0 where
  pub spelled : section ≡ exit_section_fields sites ++ rest
  pub good : AllAfter (IsSiteAfter rooms) after_site 0 sites

pub sites_take : (rooms : List Room) (section : List ℕ) (x : List SiteRow × List ℕ) → AreSmall section → sites_at rooms section ≡ Ok x → AreSites rooms section x.0 x.1
unfolding sites_at
sites_take rooms section x small e =
    let last : ℕ → Reader (List SiteRow) = λ count. rows (site_at rooms) after_site 0 count >>= give in
    let third : ℕ → Reader (List SiteRow) = λ count. one is_zero >>= λ unused. last count in
    let second : Reader (List SiteRow) = one any >>= third in
    let a = and_then_ok (mark_at exits_mark section) (λ x. second x.1) x e in
    let b = and_then_ok (one any a.0.1) (λ x. third x.0 x.1) x a.2 in
    let c = and_then_ok (one is_zero b.0.1) (λ x. last b.0.0 x.1) x b.2 in
    let d = and_then_ok (rows (site_at rooms) after_site 0 b.0.0 c.0.1) (λ x. Ok x) x c.2 in
    let mark = mark_takes exits_mark section a.0 a.1 in
    let count = one_takes any a.0.1 b.0 b.1 in
    let unused = zero_takes b.0.1 c.0 c.1 in
    let head : section ≡ exits_mark ∷ 1 ∷ b.0.0 ∷ 0 ∷ c.0.1 =
    mark ∙ ap (λ (t : List ℕ). exits_mark ∷ 1 ∷ t) (count.is ∙ ap (λ (n : ℕ). n ∷ b.0.1) (any_is count.number b.0.0 count.says) ∙ ap (λ (t : List ℕ). b.0.0 ∷ t) unused) in
    let all = rows_take (site_at rooms) after_site site_fields (IsSiteAfter rooms) (site_takes rooms) b.0.0 0 c.0.1 d.0 (small_left section (exits_mark ∷ 1 ∷ b.0.0 ∷ 0 ∷ []) c.0.1 small head) d.1 in
    subst (λ (z : List SiteRow × List ℕ). AreSites rooms section z.0 z.1) (ok_is d.0 x d.2)
    (record {
      spelled = head ∙ ap (λ (t : List ℕ). exits_mark ∷ 1 ∷ b.0.0 ∷ 0 ∷ t) all.spelled ∙ ap (λ (n : ℕ). exits_mark ∷ 1 ∷ n ∷ 0 ∷ (flat_map site_fields d.0.0 ++ d.0.1)) (sym all.count);
      good = all.good;
    })

pub sites_again : (rooms : List Room) (sites : List SiteRow) → AllAfter (IsSiteAfter rooms) after_site 0 sites → sites_at rooms (exit_section_fields sites) ≡ Ok (sites, [])
unfolding sites_at
sites_again rooms sites good =
    let all : rows (site_at rooms) after_site 0 (length sites) (flat_map site_fields sites) ≡ Ok (sites, []) =
    ap (λ (t : List ℕ). rows (site_at rooms) after_site 0 (length sites) t) (sym (append-nil (flat_map site_fields sites))) ∙ rows_again (site_at rooms) after_site site_fields (IsSiteAfter rooms) (site_again rooms) 0 sites [] good in
    rw (mark_again exits_mark (length sites ∷ 0 ∷ flat_map site_fields sites), all) refl
